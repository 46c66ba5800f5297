-- The words that the tables give are those of the map.
use Rattle.std.proofs.Common.{◌≡◌, ℕ, suc, List, [], ◌∷◌, Option, Some, None, Bor, option_copied, refl, ap, ◌∙◌}
use Rattle.std.proofs.Common.{Result, Ok, Err, IfOk}
use Rattle.std.specs.BTreeMap.{BTreeMap, get}
use Rattle.rotor_base.specs.declared.place.Goal.{Goal}
use Rattle.rotor_base.specs.declared.place.Goal.TheVariants.{Decl, Outside, Missing, Hidden, Blur}
use Rattle.rotor_base.specs.declared.place.Place.{Place}
use Rattle.rotor_base.specs.declared.place.Ref.{Ref}
use Rattle.rotor_base.specs.declared.source.SourceFile.{SourceFile}
use Rattle.rotor_base.specs.declared.token.Class.{Class}
use Rattle.rotor_base.specs.declared.token.Class.TheVariants as class
use Rattle.rotor_base.specs.Place.{place_cmp}
use Rattle.ml_lexer.specs.Lexed.{Lexeme}
use Rattle.ml_lexer.specs.Respelled.{respelled}
use Rattle.value_sites.specs.Places.{label_name}
use Rattle.value_sites.specs.Respelled.{Spelling}
use Rattle.shape_core.specs.Respell.{Words}
use Rattle.shape_core.specs.Shape.{Name, or_value}
use Rattle.binding_model.specs.Renaming.{Renaming, at_place, goal_at, in_file, new_word, words_of}
use Rattle.rename_respell.specs.Respelled.{label_with, new_text, new_texts, AreRespelledBytes}
use Rattle.rename_respell.specs.Tables.{word_by, words_in}

-- ---- one word

module _ (names : BTreeMap Place (Bor (List ℕ))) (goals : BTreeMap Place Goal) (r : Renaming) (refs : List Ref)
    (n : (p : Place) → option_copied (get place_cmp names p) ≡ at_place r p) (g : (p : Place) → get place_cmp goals p ≡ goal_at refs p) where
  word_is : (o : Option Goal) (p : Place) (x : Name) → or_value (word_by names o p) x ≡ new_word r o p x
  word_is None p x = ap (λ o. or_value o x) (n p)
  word_is (Some (Decl d)) p x = ap (λ o. or_value o x) (n d)
  word_is (Some Outside) p x = refl
  word_is (Some Missing) p x = refl
  word_is (Some Hidden) p x = refl
  word_is (Some (Blur by m behind)) p x = refl

  pub words_are : (p : Place) (x : Name) → words_in names goals p x ≡ words_of r refs p x
  words_are p x = ap (λ o. or_value (word_by names o p) x) (g p) ∙ word_is (goal_at refs p) p x

-- ---- all texts

text_same : (w w' : Name → Name) (c : Class) (text : List ℕ) → ((x : Name) → w x ≡ w' x) → new_text w c text ≡ new_text w' c text
text_same w w' class.Lower text h = h text
text_same w w' class.Upper text h = h text
text_same w w' class.Keyword text h = h text
text_same w w' class.Int text h = h text
text_same w w' class.Float text h = h text
text_same w w' class.Char text h = h text
text_same w w' class.Text text h = h text
text_same w w' class.Quoted text h = h text
text_same w w' class.TypeVar text h = h text
text_same w w' class.Tag text h = h text
text_same w w' class.Label text h = ap (label_with text) (h (label_name text))
text_same w w' class.Prefix text h = h text
text_same w w' class.Infix text h = h text
text_same w w' class.Mark text h = h text

texts_same : (v v' : Spelling) → ((at : ℕ) (x : Name) → v at x ≡ v' at x) → (at : ℕ) (xs : List Lexeme) → new_texts v at xs ≡ new_texts v' at xs
texts_same v v' h at [] = refl
texts_same v v' h at (x ∷ xs) =
    ap (λ t. t ∷ new_texts v (suc at) xs) (text_same (v at) (v' at) x.class x.bytes (h at))
    ∙ ap (λ l. new_text (v' at) x.class x.bytes ∷ l) (texts_same v v' h (suc at) xs)

pub bytes_same : (w w' : Words) → ((p : Place) (x : Name) → w p x ≡ w' p x) → (n : ℕ) (olds : List SourceFile) (news : List (List ℕ))
    → AreRespelledBytes w n olds news → AreRespelledBytes w' n olds news
bytes_same w w' h n [] [] k = k
bytes_same w w' h n [] (new ∷ news) k = k
bytes_same w w' h n (old ∷ olds) [] k = k
bytes_same w w' h n (old ∷ olds) (new ∷ news) k = (
  record {
    lexemes = k.0.lexemes;
    cut = k.0.cut;
    bytes = k.0.bytes ∙ ap (respelled old.bytes k.0.lexemes)
        (texts_same (in_file w n) (in_file w' n) (λ at x. h (record { file = n; token = at }) x) 1 k.0.lexemes);
  },
  bytes_same w w' h (suc n) olds news k.1,
)

-- ---- an answer that says more

pub ok_more : {A E : Type 0} (r : Result A E) (P Q : A → Type 0) → ((a : A) → P a → Q a) → IfOk r P → IfOk r Q
ok_more (Ok a) P Q f h = f a h
ok_more (Err e) P Q f h = tt
