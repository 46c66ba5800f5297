-- What is said of a list that gives no project.
use Rattle.std.proofs.Common.{◌≡◌, ◌≢◌, ℕ, ◌+◌, ◌<◌, ◌≤◌, List, ◌∷◌, ◌++◌, Option, Some, None, option_map, Result, Ok, Err, IfSome, length, take}
use Rattle.std.proofs.Common.{sym, ap, subst, ◌∙◌, arith, inl, inr, ◌⊎◌}
use Rattle.std.specs.FinMap.{get}
use Rattle.std.proofs.lemmas.List.{length-append, take_all}
use Rattle.rotor_base.specs.Files.{FileSet}
use Rattle.rotor_base.specs.Lines.{feed_lines}
use Rattle.rotor_base.specs.declared.refusal.LoadError.{LoadError}
use Rattle.rotor_base.specs.declared.refusal.LoadError.TheVariants as load
use Rattle.tree_io.specs.Outside.{FileMap, IsFront}
use Rattle.project_load.specs.Listed.{IsListAnswer, IsOutsideList, Lists, lacks, large, unread, refused, taken}
use Rattle.project_load.specs.declared.error.ListError.{ListError}
use Rattle.project_load.specs.declared.error.ListError.TheVariants as list_error
use Rattle.explain.specs.declared.explanation.Explanation.{Explanation}
use Rattle.explain_verify.specs.Lists.{IsAtLine, IsBadList, IsListed, IsRefusedList, MayBeBad, bad, has, load_message, refused_with}
use Rattle.explain_verify.specs.Lists.{lacks as no_list_there}
use Rattle.explain_verify.specs.declared.lists.Listed.{Listed}
use Rattle.explain_verify.specs.declared.lists.Listed.TheVariants as listed
use Rattle.explain_verify.specs.Judged.{IsJudged}
use Rattle.explain_verify.specs.Verified.{SaysVerify, judged, no_new}

-- a list that is refused so has a line of this number, or is not there
may_be_bad : (held : FileMap) (list : List ℕ) (number : ℕ) → Lists held list (Err (list_error.BadList number)) → MayBeBad held list number
may_be_bad held list number (lacks none e) = no_list_there (one e) where
  one : ◌≡◌ {A = Result FileSet ListError} (Err (list_error.BadList number)) (Err (list_error.BadList 0)) → number ≡ 0
  one e = cc
may_be_bad held list number (large bytes there long e) = cc
may_be_bad held list number (unread bytes other there short line e) =
    let same : number ≡ other = one e in
    let all : length (feed_lines bytes) ≡ length (line.before ++ line.line ∷ line.after) = ap (λ (ls : List (List ℕ)). length ls) line.split in
    let parts : length (line.before ++ line.line ∷ line.after) ≡ length line.before + length (line.line ∷ line.after)
    = length-append line.before (line.line ∷ line.after) in
    has bytes there short (omega (arith, same, line.counted)) (omega (arith, same, line.counted, all, parts)) where
      one : ◌≡◌ {A = Result FileSet ListError} (Err (list_error.BadList number)) (Err (list_error.BadList other)) → number ≡ other
      one e = cc
may_be_bad held list number (refused bytes given error there short gives loads e) = cc
may_be_bad held list number (taken bytes given files there short gives loads e) = cc

-- the list is refused so
is_bad : (held : FileMap) (list : List ℕ) (number : ℕ) (result : Result FileSet ListError) → result ≡ Err (list_error.BadList number)
    → IsListAnswer held list result → Lists held list (Err (list_error.BadList number))
is_bad held list number result e h = by (subst (IsListAnswer held list) e h) where
  by : IsOutsideList (list_error.BadList number) ⊎ Lists held list (Err (list_error.BadList number))
      → Lists held list (Err (list_error.BadList number))
  by (inl (inl is)) = cc
  by (inl (inr is)) = cc
  by (inr is) = is

pub bad_listed : (content now : Option FileMap) (list : List ℕ) (number : ℕ) (result : Result FileSet ListError) (explanation : Explanation)
    → now ≡ content
    → result ≡ Err (list_error.BadList number) → IfSome content (λ held. IsListAnswer held list result)
    → IfSome now (λ held. MayBeBad held list number → IsBadList held list number explanation)
    → IfSome content (λ held. IsListed held list (listed.Explanation explanation))
bad_listed content now list number result explanation same e h said =
    by content h
    (subst (λ (o : Option FileMap). IfSome o (λ held. MayBeBad held list number → IsBadList held list number explanation)) same said) where
      by : (content : Option FileMap) → IfSome content (λ held. IsListAnswer held list result)
          → IfSome content (λ held. MayBeBad held list number → IsBadList held list number explanation)
          → IfSome content (λ held. IsListed held list (listed.Explanation explanation))
      by None h said = tt
      by (Some held) h said =
          let lists = is_bad held list number result e h in
          record { error = list_error.BadList number; refused = lists; says = said (may_be_bad held list number lists) }

pub load_listed : (content : Option FileMap) (list : List ℕ) (why : LoadError) (result : Result FileSet ListError) (explanation : Explanation)
    → result ≡ Err (list_error.Load why) → (why ≡ load.Memory → ⊥) → explanation ≡ refused_with (load_message why)
    → IfSome content (λ held. IsListAnswer held list result) → IfSome content (λ held. IsListed held list (listed.Explanation explanation))
load_listed None list why result explanation e other is h = tt
load_listed (Some held) list why result explanation e other is h = by (subst (IsListAnswer held list) e h) where
  by : IsOutsideList (list_error.Load why) ⊎ Lists held list (Err (list_error.Load why)) → IsListed held list (listed.Explanation explanation)
  by (inl (inl wrong)) = cc
  by (inl (inr wrong)) = absurd (other (one wrong)) where
    one : list_error.Load why ≡ list_error.Load load.Memory → why ≡ load.Memory
    one wrong = cc
  by (inr lists) = record { error = list_error.Load why; refused = lists; says = is }

-- what is read of a list is all of it
pub bad_read : (content : Option FileMap) (list read : List ℕ) (number : ℕ) (explanation : Explanation)
    → IfSome content (λ held. IsFront 1048577 (get held list) read)
    → number ≢ 0 → (0 < number → number ≤ length (feed_lines read) → IsAtLine list read number explanation)
    → IfSome content (λ held. MayBeBad held list number → IsBadList held list number explanation)
bad_read None list read number explanation front some h = tt
bad_read (Some held) list read number explanation front some h = by where
  by : MayBeBad held list number → IsBadList held list number explanation
  by (no_list_there none) = absurd (some none)
  by (has bytes there short low high) =
      let same : bytes ≡ read = all (subst (λ (o : Option (List ℕ)). IsFront 1048577 o read) there front) in
      bad read (there ∙ ap (λ (w : List ℕ). Some w) same) (h low (subst (λ (w : List ℕ). number ≤ length (feed_lines w)) same high)) where
        all : option_map (take 1048577) (Some bytes) ≡ Some read → bytes ≡ read
        all e = sym (take_all 1048577 bytes (omega (arith, short))) ∙ one e where
          one : ◌≡◌ {A = Option (List ℕ)} (Some (take 1048577 bytes)) (Some read) → take 1048577 bytes ≡ read
          one e = cc

pub missing_said : (content : Option FileMap) (list : List ℕ) (number : ℕ) (explanation : Explanation) → number ≡ 0
    → ((held : FileMap) → IsBadList held list 0 explanation)
    → IfSome content (λ held. MayBeBad held list number → IsBadList held list number explanation)
missing_said None list number explanation e h = tt
missing_said (Some held) list number explanation e h = λ may. subst (λ (n : ℕ). IsBadList held list n explanation) (sym e) (h held)

-- ---- two lists

is_files : (held : FileMap) (list : List ℕ) (found : Listed) (files : FileSet) → found ≡ listed.Files files → IsListed held list found
    → Lists held list (Ok files)
is_files held list found files e h = subst (IsListed held list) e h

is_explanation : (held : FileMap) (list : List ℕ) (found : Listed) (explanation : Explanation) → found ≡ listed.Explanation explanation
    → IsListed held list found
    → IsRefusedList held list explanation
is_explanation held list found explanation e h = subst (IsListed held list) e h

pub said_no_new : (content now : Option FileMap) (old new : List ℕ) (one other : Listed) (olds : FileSet) (explanation : Explanation) → now ≡ content
    → one ≡ listed.Files olds → other ≡ listed.Explanation explanation → IfSome content (λ held. IsListed held old one)
    → IfSome now (λ held. IsListed held new other) → IfSome content (λ held. SaysVerify old new held explanation)
said_no_new content now old new one other olds explanation same e f h k =
    by content h (subst (λ (o : Option FileMap). IfSome o (λ held. IsListed held new other)) same k) where
      by : (content : Option FileMap) → IfSome content (λ held. IsListed held old one) → IfSome content (λ held. IsListed held new other)
          → IfSome content (λ held. SaysVerify old new held explanation)
      by None h k = tt
      by (Some held) h k = no_new olds (is_files held old one olds e h) (is_explanation held new other explanation f k)

pub said_judged : (content now : Option FileMap) (old new : List ℕ) (one other : Listed) (olds news : FileSet) (explanation : Explanation)
    → now ≡ content
    → one ≡ listed.Files olds → other ≡ listed.Files news → IfSome content (λ held. IsListed held old one)
    → IfSome now (λ held. IsListed held new other) → IsJudged olds news explanation → IfSome content (λ held. SaysVerify old new held explanation)
said_judged content now old new one other olds news explanation same e f h k j =
    by content h (subst (λ (o : Option FileMap). IfSome o (λ held. IsListed held new other)) same k) where
      by : (content : Option FileMap) → IfSome content (λ held. IsListed held old one) → IfSome content (λ held. IsListed held new other)
          → IfSome content (λ held. SaysVerify old new held explanation)
      by None h k = tt
      by (Some held) h k = judged olds news (is_files held old one olds e h) (is_files held new other news f k) j

pub fails_so : (result : Result FileSet ListError) (error other : ListError) → result ≡ Err error → error ≡ other → result ≡ Err other
fails_so result error other e f = subst (λ (x : ListError). ◌≡◌ {A = Result FileSet ListError} result (Err x)) f e
