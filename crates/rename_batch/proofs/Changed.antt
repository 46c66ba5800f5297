-- The sources that differ, past the end.
use Rattle.std.proofs.Common.{◌≡◌, ◌∙◌, ℕ, ◌<◌, ◌≤◌, min, Bool, true, false, List, [], ◌∷◌, ◌++◌, length, drop, nat_lt, refl, sym, ap, arith}
use Rattle.std.proofs.lemmas.Bool.Decides.{nat_tests}
use Rattle.std.proofs.lemmas.List.{append-nil, drop_all}
use Rattle.rotor_base.specs.declared.source.SourceFile.{SourceFile}
use Rattle.rename_batch.specs.Batch.{changed_from}

-- behind the end of the shorter list nothing differs
none_behind : (at : ℕ) (olds news : List SourceFile) → min (length olds) (length news) ≤ at → changed_from at (drop at olds) (drop at news) ≡ []
none_behind at olds news h = by (nat_lt at (length olds)) refl where
  no_news : (olds : List SourceFile) → changed_from at olds [] ≡ []
  no_news [] = refl
  no_news (old ∷ olds) = refl

  by : (t : Bool) → nat_lt at (length olds) ≡ t → changed_from at (drop at olds) (drop at news) ≡ []
  by true e =
      let few : length news ≤ at = let more : at < length olds = grind (arith, nat_tests) in omega (arith, h, more) in
      ap (changed_from at (drop at olds)) (drop_all at news few) ∙ no_news (drop at olds)
  by false e =
      let few : length olds ≤ at = grind (arith, nat_tests) in
      ap (λ (fs : List SourceFile). changed_from at fs (drop at news)) (drop_all at olds few)

pub all_changed : (at : ℕ) (olds news : List SourceFile) (changed : List ℕ) → min (length olds) (length news) ≤ at
    → changed ++ changed_from at (drop at olds) (drop at news) ≡ changed_from 0 olds news → changed ≡ changed_from 0 olds news
all_changed at olds news changed h e = sym (append-nil changed) ∙ ap (λ (ns : List ℕ). changed ++ ns) (sym (none_behind at olds news h)) ∙ e
