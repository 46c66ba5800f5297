-- What is said of an answer of `verify`.
use Rattle.std.proofs.Common.{◌≡◌, ◌≢◌, List, Result, Ok, Err, IfOk, IfErr, OnOk, subst, inl, inr, ◌⊎◌, map}
use Rattle.rotor_base.specs.Files.{FileSet}
use Rattle.rotor_base.specs.declared.fault.Memory.{Memory}
use Rattle.rotor_base.specs.declared.source.SourceFile.{SourceFile}
use Rattle.rotor_base.specs.declared.refusal.Refusal.{Refusal}
use Rattle.rotor_base.specs.declared.refusal.Refusal.TheVariants as refusal
use Rattle.rename_project.specs.Steps.{IsRefusedFor}
use Rattle.rename_verify.specs.declared.verdict.Verdict.{Verdict}
use Rattle.rename_verify.specs.Verdict.{Verdicts}
use Rattle.refusal_words.specs.Cut.{AreCuts, view_cut}
use Rattle.refusal_words.specs.declared.cut.CutSource.{CutSource}
use Rattle.explain.specs.declared.explanation.Explanation.{Explanation}
use Rattle.explain_verify.specs.Judged.{IsJudged, SaysAnswer, SaysRefused}

module _ (old new : FileSet) (old_sources new_sources : List SourceFile) (olds news : List CutSource)
    (old_is : old_sources ≡ old.entries) (new_is : new_sources ≡ new.entries)
    (old_cut : AreCuts old_sources (map view_cut olds)) (new_cut : AreCuts new_sources (map view_cut news)) where
  judged : (answer : Result Verdict Refusal) (explanation : Explanation) → Verdicts old new answer
      → SaysAnswer (map view_cut olds) (map view_cut news) answer explanation
      → IsJudged old new explanation
  judged answer explanation v s =
      record {
        olds = map view_cut olds;
        news = map view_cut news;
        old_cut = subst (λ (l : List SourceFile). AreCuts l (map view_cut olds)) old_is old_cut;
        new_cut = subst (λ (l : List SourceFile). AreCuts l (map view_cut news)) new_is new_cut;
        answer = answer;
        verdict = v;
        says = s;
      }

  pub judged_ok : (these those : List CutSource) (verdict : Verdict) (result : Result Explanation Memory) → these ≡ olds → those ≡ news
      → Verdicts old new (Ok verdict) → IfOk result (SaysAnswer (map view_cut these) (map view_cut those) (Ok verdict))
      → IfOk result (IsJudged old new)
  judged_ok these those verdict (Err m) e f v s = tt
  judged_ok these those verdict (Ok explanation) e f v s =
      judged (Ok verdict) explanation v
      (subst (λ (l : List CutSource). SaysAnswer (map view_cut olds) (map view_cut l) (Ok verdict) explanation) f
      (subst (λ (l : List CutSource). SaysAnswer (map view_cut l) (map view_cut those) (Ok verdict) explanation) e s))

  pub judged_err : (these : List CutSource) (why : Refusal) (answer : Result Verdict Refusal) (result : Result Explanation Memory) → these ≡ olds
      → answer ≡ Err why → IfErr answer (IsRefusedFor (λ w. Verdicts old new (Err w))) → OnOk result (why ≢ refusal.Memory)
      → IfOk result (SaysRefused (map view_cut these) why) → IfOk result (IsJudged old new)
  judged_err these why answer (Err m) e a v other s = tt
  judged_err these why answer (Ok explanation) e a v other s =
      by (subst (λ (r : Result Verdict Refusal). IfErr r (IsRefusedFor (λ w. Verdicts old new (Err w)))) a v)
    where
      by : Verdicts old new (Err why) ⊎ (why ≡ refusal.Memory) → IsJudged old new explanation
      by (inl is) = judged (Err why) explanation is (subst (λ (l : List CutSource). SaysRefused (map view_cut l) why explanation) e s)
      by (inr m) = absurd (other m)
