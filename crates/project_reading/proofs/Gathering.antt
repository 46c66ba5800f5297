-- The trees of sources as they are added to the units, from the last to the first.
use Rattle.std.proofs.Common.{◌≡◌, ℕ, suc, ◌+◌, ◌<◌, ◌≤◌, List, [], ◌∷◌, ◌++◌, Bool, map, length, drop, get_or, append_assoc, length-append, refl, ap}
use Rattle.std.proofs.Common.{sym, ◌∙◌, arith}
use Rattle.std.proofs.lemmas.List.{drop_more}
use Rattle.rotor_base.specs.declared.source.SourceFile.{SourceFile}
use Rattle.rotor_base.specs.Stem.{is_body_name}
use Rattle.rotor_base.specs.Unit.{unit_of}
use Rattle.ml_trees.specs.declared.module.FileTree.{FileTree as Source}
use Rattle.ml_trees.specs.Tree.{UnitTree}
use Rattle.ml_trees.specs.View.{view_file}
use Rattle.project_reading.specs.Gathered.{put_part}
use Rattle.project_reading.specs.Units.{units_of}
use Rattle.project_reading.proofs.Parts.{units_more}

-- some trees are left, the others are in the units of their sources
pub record IsGathered (ss : List SourceFile) (all left : List Source) (units : List UnitTree) : Type 0 where
  pub gone : List Source
  pub split : all ≡ left ++ gone
  pub few : length left ≤ length ss
  pub gathered : units ≡ units_of (drop (length left) ss) (map view_file gone)

nothing_more : (all : List Source) → all ≡ all ++ []
nothing_more [] = refl
nothing_more (t ∷ all) = ap (λ ts. t ∷ ts) (nothing_more all)

none_left : (ss : List SourceFile) (n : ℕ) → n ≡ length ss → drop n ss ≡ []
none_left ss n e = ap (λ k. drop k ss) e ∙ all_dropped ss
  where
    all_dropped : (xs : List SourceFile) → drop (length xs) xs ≡ []
    all_dropped [] = refl
    all_dropped (x ∷ xs) = all_dropped xs

pub all_left : (ss : List SourceFile) (all : List Source) → length all ≡ length ss → IsGathered ss all all []
all_left ss all e = record {
  gone = [];
  split = nothing_more all;
  few = omega (arith, e);
  gathered = ap (λ xs. units_of xs [])
      (sym (none_left ss (length all) e));
}

pub one_less : (ss : List SourceFile) (all old left : List Source) (t : Source) (us vs : List UnitTree) (s : SourceFile) (b : Bool) (n : List ℕ)
    → IsGathered ss all old us → old ≡ left ++ t ∷ [] → s ≡ get_or ss (length left) s → b ≡ is_body_name s.name → n ≡ unit_of s.name
    → vs ≡ put_part b n (view_file t) us
    → IsGathered ss all left vs
one_less ss all old left t us vs s b n h e is body name put =
    let longer : length old ≡ suc (length left) = ap length e ∙ length-append left (t ∷ []) ∙ one_more (length left) in
    let inside : length left < length ss = omega (arith, longer, h.few) in
    let ahead : drop (length left) ss ≡ s ∷ drop (length old) ss =
    drop_more ss (length left) s inside ∙ ap (λ x. x ∷ drop (length left + 1) ss) (sym is)
    ∙ ap (λ k. s ∷ drop k ss) (shorter (length left) (length old) longer)
    in
    record {
      gone = t ∷ h.gone;
      split = h.split ∙ ap (λ ts. ts ++ h.gone) e ∙ append_assoc left (t ∷ []) h.gone;
      few = omega (arith, inside);
      gathered =
          put
          ∙ ap (λ x. put_part x n (view_file t) us) body
          ∙ ap (λ x. put_part (is_body_name s.name) x (view_file t) us) name
          ∙ ap (put_part (is_body_name s.name) (unit_of s.name) (view_file t)) h.gathered
          ∙ sym (units_more s (drop (length old) ss) (view_file t) (map view_file h.gone))
          ∙ ap (λ xs. units_of xs (view_file t ∷ map view_file h.gone)) (sym ahead);
    }
  where
    one_more : (k : ℕ) → k + 1 ≡ suc k
    one_more k = omega arith

    shorter : (k m : ℕ) → m ≡ suc k → k + 1 ≡ m
    shorter k m e = omega (arith, e)

pub none_is_left : (ss : List SourceFile) (all left : List Source) (us : List UnitTree) → IsGathered ss all left us → left ≡ []
    → us ≡ units_of ss (map view_file all)
none_is_left ss all left us h e =
    h.gathered
    ∙ ap (λ ts. units_of (drop (length ts) ss) (map view_file h.gone)) e
    ∙ ap (λ ts. units_of ss (map view_file ts)) (sym (h.split ∙ ap (λ ts. ts ++ h.gone) e))
