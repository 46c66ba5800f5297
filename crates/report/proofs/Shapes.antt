-- Lines added one after another.
use Rattle.std.proofs.Common.{◌≡◌, ◌∙◌, List, [], ◌∷◌, ◌++◌, ap, append_assoc}
use Rattle.report.specs.Pieces.{Word}

-- a first line, the lines between, and two lines behind them
pub four : (first one two : Word) (between start more third all : List Word) → start ≡ first ∷ [] → more ≡ start ++ between → third ≡ more ++ one ∷ []
    → all ≡ third ++ two ∷ []
    → all ≡ first ∷ (between ++ (one ∷ two ∷ []))
four first one two between start more third all s m t a =
    a ∙ ap (λ ls. ls ++ two ∷ []) (t ∙ ap (λ ls. ls ++ one ∷ []) (m ∙ ap (λ ls. ls ++ between) s))
    ∙ ap (λ ls. first ∷ ls) (append_assoc between (one ∷ []) (two ∷ []))

-- and three lines
pub five : (first one two three : Word) (between start more third fourth all : List Word) → start ≡ first ∷ [] → more ≡ start ++ between
    → third ≡ more ++ one ∷ [] → fourth ≡ third ++ two ∷ [] → all ≡ fourth ++ three ∷ []
    → all ≡ first ∷ (between ++ (one ∷ two ∷ three ∷ []))
five first one two three between start more third fourth all s m t f a =
    a ∙ ap (λ ls. ls ++ three ∷ []) (four first one two between start more third fourth s m t f)
    ∙ ap (λ ls. first ∷ ls) (append_assoc between (one ∷ two ∷ []) (three ∷ []))

-- one more line, which is known
pub pushed : (before after : List Word) (line known : Word) → after ≡ before ++ line ∷ [] → line ≡ known → after ≡ before ++ known ∷ []
pushed before after line known a k = a ∙ ap (λ l. before ++ l ∷ []) k
