-- A label and its word.
use Rattle.std.proofs.Common.{◌≡◌, ℕ, ◌-◌, ◌≤◌, List, [], ◌∷◌, ◌++◌, Bool, true, false, cond, length, take, drop, Option, Some, None, refl, ap, sym}
use Rattle.std.proofs.Common.{◌∙◌, arith}
use Rattle.std.proofs.lemmas.List.{take-append-drop, length-take-le, drop_all, append-nil}
use Rattle.rotor_base.specs.declared.token.Class.{Class}
use Rattle.rotor_base.specs.declared.token.Class.TheVariants as class
use Rattle.value_sites.specs.Places.{without_colon, label_name}
use Rattle.shape_core.specs.Shape.{Name, or_value}
use Rattle.rename_respell.specs.Respelled.{label_with, new_text}
use Rattle.rename_respell.specs.Tables.{text_of}

-- a text is what is before its colon and what is behind that
front_case : (text : List ℕ) (b : Bool) → let front = cond b (take (length text - 1) text) text in front ++ drop (length front) text ≡ text
front_case text true =
    let less : length text - 1 ≤ length text = omega arith in
    ap (λ n. take (length text - 1) text ++ drop n text) (length-take-le (length text - 1) text less) ∙ take-append-drop (length text - 1) text
front_case text false = ap (λ l. text ++ l) (drop_all (length text) text (omega arith)) ∙ append-nil text

front_whole : (text : List ℕ) → without_colon text ++ drop (length (without_colon text)) text ≡ text
front_whole text = front_case text _

short_case : (text : List ℕ) (b : Bool) → length (cond b (take (length text - 1) text) text) ≤ length text
short_case text true = let e : length (take (length text - 1) text) ≡ length text - 1 = length-take-le (length text - 1) text (omega arith) in
    omega (arith, e)
short_case text false = omega arith

pub word_within : (c : ℕ) (text : List ℕ) → length (label_name (c ∷ text)) ≤ length text
word_within c text = short_case text _

-- a label with its own word
pub label_kept : (label : List ℕ) → label_with label (label_name label) ≡ label
label_kept [] = refl
label_kept (c ∷ text) = ap (λ l. c ∷ l) (front_whole text)

-- the text that is written is the new text
pub text_is : (o : Option Name) (c : Class) (text : List ℕ) → text_of o c text ≡ new_text (or_value o) c text
text_is None class.Lower text = refl
text_is None class.Upper text = refl
text_is None class.Keyword text = refl
text_is None class.Int text = refl
text_is None class.Float text = refl
text_is None class.Char text = refl
text_is None class.Text text = refl
text_is None class.Quoted text = refl
text_is None class.TypeVar text = refl
text_is None class.Tag text = refl
text_is None class.Label text = sym (label_kept text)
text_is None class.Prefix text = refl
text_is None class.Infix text = refl
text_is None class.Mark text = refl
text_is (Some word) class.Label text = refl
text_is (Some word) c text = refl
