-- What is replied to each query at a token.
use Rattle.std.proofs.Common.{◌≡◌, ℕ, List, Bool, true, false, Option, None, Some, Result, Ok, Err, IfOk, ap, refl, subst, sym}
use Rattle.std.specs.Borrow.{Bor}
use Rattle.report.specs.Pieces.{Word}
use Rattle.rotor_base.specs.Files.{FileSet}
use Rattle.rotor_base.specs.declared.place.Place.{Place}
use Rattle.ml_trees.specs.Tree.{UnitTree}
use Rattle.refusal_words.specs.Cut.{Cut}
use Rattle.value_at.specs.declared.value.ValueAt.{ValueAt}
use Rattle.lsp_answers.specs.declared.answer.Answer.{Answer}
use Rattle.lsp_answers.specs.declared.answer.Answer.TheVariants as answer
use Rattle.lsp_answers.specs.declared.answer.Failure.{Failure}
use Rattle.requests.specs.Asked.{query_words}
use Rattle.requests.specs.declared.asked.Query.{Query}
use Rattle.requests.specs.declared.asked.Query.TheVariants as query
use Rattle.query_failures.specs.Renaming.{IsValuelessFailure}
use Rattle.document_scene.specs.Scene.{Telling}
use Rattle.document_answers.specs.Renaming.{RepliesRename}
use Rattle.document_answers.specs.Value.{RepliesNothing, RepliesValue, is_nameless, prepared}

-- ---- no value

pub nothing_renamed : (cuts : List Cut) (p : Option Place) (found : ValueAt) (asked : Query (Bor (List ℕ))) (name : Option (Bor (List ℕ)))
    (failure : Failure) → asked ≡ query.Rename name → IsValuelessFailure cuts p found failure
    → RepliesNothing cuts p found (query_words asked) (Err failure)
nothing_renamed cuts p found asked name failure e h =
    subst (λ (q : Query (Bor (List ℕ))). RepliesNothing cuts p found (query_words q) (Err failure)) (sym e) h

pub nothing_told : (cuts : List Cut) (p : Option Place) (found : ValueAt) (asked : Query (Bor (List ℕ)))
    → ((name : Option (Bor (List ℕ))) → asked ≡ query.Rename name → ⊥) → RepliesNothing cuts p found (query_words asked) (Ok answer.Nothing)
nothing_told cuts p found query.PrepareRename other = refl
nothing_told cuts p found (query.Rename name) other = absurd (other name refl)
nothing_told cuts p found (query.References with_declarations) other = refl
nothing_told cuts p found query.Definition other = refl
nothing_told cuts p found query.DocumentHighlight other = refl

-- ---- a value

ok_same : (a b : Answer) → a ≡ b → ◌≡◌ {A = Result Answer Failure} (Ok a) (Ok b)
ok_same a b e = cc

pub prepares : (files : FileSet) (us : List UnitTree) (told : Telling) (versions : Bool) (p d : Place) (asked : Query (Bor (List ℕ)))
    (given : Answer) → asked ≡ query.PrepareRename → given ≡ prepared told p
    → RepliesValue files us told versions p d (query_words asked) (Ok given)
prepares files us told versions p d asked given e h =
    subst (λ (q : Query (Bor (List ℕ))). RepliesValue files us told versions p d (query_words q) (Ok given)) (sym e)
    (ok_same given (prepared told p) h)

pub renames : {E : Type 0} (files : FileSet) (us : List UnitTree) (told : Telling) (versions : Bool) (p d : Place)
    (asked : Query (Bor (List ℕ))) (name : Option (Bor (List ℕ))) (given : Bor (List ℕ)) (new : Word) (result : Result (Result Answer Failure) E)
    → asked ≡ query.Rename name → name ≡ Some given → new ≡ given.now → IfOk result (RepliesRename files told versions p.file d new)
    → IfOk result (RepliesValue files us told versions p d (query_words asked))
renames files us told versions p d asked name given new result e some same h =
    subst (λ (q : Query (Bor (List ℕ))). IfOk result (RepliesValue files us told versions p d (query_words q))) (sym e)
    (subst (λ (o : Option (Bor (List ℕ))). IfOk result (RepliesValue files us told versions p d (query_words (query.Rename o)))) (sym some)
    (subst (λ (w : Word). IfOk result (RepliesRename files told versions p.file d w)) same h))

named : (asked : Query (Bor (List ℕ))) → asked ≡ query.Rename None → is_nameless (query_words asked) ≡ true
named asked e = ap (λ (q : Query (Bor (List ℕ))). is_nameless (query_words q)) e

-- a renaming without a new name is refused before
pub is_named : (asked : Query (Bor (List ℕ))) (name : Option (Bor (List ℕ))) → asked ≡ query.Rename name → name ≡ None
    → is_nameless (query_words asked) ≡ false → ⊥
is_named asked name e none h =
    let wrong : is_nameless (query_words asked) ≡ true
    = named asked (subst (λ (o : Option (Bor (List ℕ))). asked ≡ query.Rename o) none e) in cc
