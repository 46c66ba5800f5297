-- What is recovered after a write that stopped.
use Rattle.std.proofs.Common.{◌≡◌, ◌⊎◌, inl, inr, ℕ, List, [], ◌∷◌, ◌++◌, Bool, true, false, ◌||◌, Option, Some, None, codes, refl, sym, ap, subst}
use Rattle.std.proofs.Common.{◌∙◌}
use Rattle.std.specs.FinMap.{get, insert}
use Rattle.std.specs.List.{list_any, list_all}
use Rattle.std.specs.Str.{bytes_eq}
use Rattle.rotor_base.specs.Files.{FileSet, names_of}
use Rattle.rotor_base.specs.Stem.{is_source_name, ends_stem}
use Rattle.rotor_base.specs.declared.source.SourceFile.{SourceFile}
use Rattle.tree_io.specs.Outside.{FileMap}
use Rattle.tree_io.specs.Writes.{after, StoppedWriting}
use Rattle.apply_journal.specs.Plan.{file_of, plan_text, IsPlan}
use Rattle.apply_journal.specs.Recovered.{plan_name, gate_name, open_bytes, IsOpen, plan_writes, safe_writes, HoldsPlan, project_in, Recovers}
use Rattle.apply_journal.specs.Recovered.{planned, closed, unplanned}
use Rattle.apply_journal.proofs.Maps.{Words, counts, Agree, named, get_here, get_other, apart, same_project, get_after_other, get_after_same}
use Rattle.apply_journal.proofs.Maps.{after-append, named-append}
use Rattle.apply_journal.proofs.Plans.{both_free, both_true, plans_one}

plan_no_source : is_source_name plan_name ≡ false
unfolding ends_stem
plan_no_source = refl

pub gate_no_source : is_source_name gate_name ≡ false
unfolding ends_stem
gate_no_source = refl

plan_counts_not : counts plan_name ≡ false
plan_counts_not = ap (λ b. b || bytes_eq plan_name (codes "rotor.units")) plan_no_source

gate_counts_not : counts gate_name ≡ false
gate_counts_not = ap (λ b. b || bytes_eq gate_name (codes "rotor.units")) gate_no_source

pub not_named : (q : Words) (files : List SourceFile) → is_source_name q ≡ false → list_all is_source_name (names_of files) ≡ true
    → named q files ≡ false
not_named q [] f h = refl
not_named q (x ∷ files) f h = by (bytes_eq q x.name) refl (not_named q files f (both_true _ _ h).1) where
  turned : bytes_eq x.name q ≡ false
  turned = apart is_source_name x.name q (both_true _ _ h).0 f

  by : (b : Bool) → bytes_eq q x.name ≡ b → named q files ≡ false → (b || named q files) ≡ false
  by true e rest =
      let same : q ≡ x.name = (Rattle.std.specs.Cmp.Lexicographic.bytes_decides q x.name).0 e in
      let bad : false ≡ true = sym f ∙ ap is_source_name same ∙ (both_true _ _ h).0 in
      cc
  by false e rest = rest

-- the last of some items, or one before it
split_last : (fs : List SourceFile) (x : SourceFile) (done : List SourceFile) (failed : SourceFile) (rest : List SourceFile)
    → fs ++ x ∷ [] ≡ done ++ failed ∷ rest
    → ((done ≡ fs) × (failed ≡ x)) ⊎ ((more : List SourceFile) × (fs ≡ done ++ failed ∷ more))
split_last [] x [] failed rest e = inl (refl, cc)
split_last [] x (d ∷ []) failed rest e = cc
split_last [] x (d ∷ c ∷ ds) failed rest e = cc
split_last (f ∷ fs) x [] failed rest e = let same : f ≡ failed = cc in inr (fs, ap (λ (v : SourceFile). v ∷ fs) same)
split_last (f ∷ fs) x (d ∷ ds) failed rest e =
    let same : f ≡ d = cc in
    let tails : fs ++ x ∷ [] ≡ ds ++ failed ∷ rest = cc in
    by same (split_last fs x ds failed rest tails) where
      by : f ≡ d → ((ds ≡ fs) × (failed ≡ x)) ⊎ ((more : List SourceFile) × (fs ≡ ds ++ failed ∷ more))
          → ((d ∷ ds ≡ f ∷ fs) × (failed ≡ x)) ⊎ ((more : List SourceFile) × (f ∷ fs ≡ (d ∷ ds) ++ failed ∷ more))
      by same (inl h) = inl (ap (λ (v : SourceFile). v ∷ ds) (sym same) ∙ ap (λ (vs : List SourceFile). f ∷ vs) h.0, h.1)
      by same (inr h) = inr (h.0, ap (λ (v : SourceFile). v ∷ fs) same ∙ ap (λ (vs : List SourceFile). d ∷ vs) h.1)

-- what is put in does not depend on what it replaces
put_in : (files : List SourceFile) (m n : FileMap) → ((q : Words) → counts q ≡ true → named q files ≡ false → get m q ≡ get n q)
    → project_in (after files m) ≡ project_in (after files n)
put_in files m n h = same_project (after files m) (after files n) (λ q t. get_after_same files m n q (h q t))

-- another file holds the plan, so the plans are one
same_plan : (held : FileMap) (one other : List SourceFile) → HoldsPlan held one → HoldsPlan held other → one ≡ other
same_plan held one other h k =
    let found : Some h.0 ≡ Some k.0 = sym h.1 ∙ k.1 in
    let same : h.0 ≡ k.0 = cc in
    plans_one k.0 one other (subst (λ b. IsPlan b one) same h.2) k.2

pub recovered_one : (held : FileMap) (one other : FileSet) → Recovers held one → Recovers held other → one ≡ other
recovered_one held one other (planned files o p) (planned others q r) =
    ap (λ (fs : List SourceFile). project_in (after fs held)) (same_plan held files others p r)
recovered_one held one other (planned files o p) (closed c) = absurd (c o)
recovered_one held one other (planned files o p) (unplanned q n) = absurd (n files p)
recovered_one held one other (closed c) (planned files o p) = absurd (c o)
recovered_one held one other (closed c) (closed d) = refl
recovered_one held one other (closed c) (unplanned o n) = refl
recovered_one held one other (unplanned o n) (planned files q p) = absurd (n files p)
recovered_one held one other (unplanned o n) (closed c) = refl
recovered_one held one other (unplanned o n) (unplanned q k) = refl

-- a folder with an open gate and this plan
recovered_planned : (held : FileMap) (files : List SourceFile) (found : FileSet) → IsOpen held → HoldsPlan held files → Recovers held found
    → found ≡ project_in (after files held)
recovered_planned held files found o p r = recovered_one held found (project_in (after files held)) r (planned files o p)

module _ (m : FileMap) (files : List SourceFile) (opened : IsOpen m) (plan : HoldsPlan m files) where
  sources : list_all is_source_name (names_of files) ≡ true
  sources = plan.2.sources.named

  gate_unnamed : named gate_name files ≡ false
  gate_unnamed = not_named gate_name files gate_no_source sources

  plan_unnamed : named plan_name files ≡ false
  plan_unnamed = not_named plan_name files plan_no_source sources

  -- the plan's files are written, and the gate holds anything
  at_gate : (any : List ℕ) (found : FileSet) → Recovers (insert (after files m) gate_name any) found → found ≡ project_in (after files m)
  at_gate any found r = by found r where
    now : FileMap
    now = insert (after files m) gate_name any

    there : Agree (insert (after files m) gate_name any) (after files m)
    there q t = get_other (after files m) gate_name any q (apart counts q gate_name t gate_counts_not)

    again : project_in (after files (insert (after files m) gate_name any)) ≡ project_in (after files m)
    again = put_in files (insert (after files m) gate_name any) m (λ q t none. there q t ∙ get_after_other files m q none)

    kept : get (insert (after files m) gate_name any) plan_name ≡ Some plan.0
    kept = get_other (after files m) gate_name any plan_name refl ∙ get_after_other files m plan_name plan_unnamed ∙ plan.1

    by : (found : FileSet) → Recovers (insert (after files m) gate_name any) found → found ≡ project_in (after files m)
    by found (planned others o p) =
        ap (λ (fs : List SourceFile). project_in (after fs (insert (after files m) gate_name any)))
        (same_plan (insert (after files m) gate_name any) others files p (plan.0, kept, plan.2)) ∙ again
    by found (closed c) = same_project (insert (after files m) gate_name any) (after files m) there
    by found (unplanned o n) = same_project (insert (after files m) gate_name any) (after files m) there

  -- one of the plan's files holds anything
  at_file : (done : List SourceFile) (failed : SourceFile) (more : List SourceFile) (any : List ℕ) → files ≡ done ++ failed ∷ more
      → (found : FileSet) → Recovers (insert (after done m) failed.name any) found → found ≡ project_in (after files m)
  at_file done failed more any split found r = recovered_planned (insert (after done m) failed.name any) files found gate (plan.0, text, plan.2) r
      ∙ again where
        parts : (q : Words) → named q files ≡ false → (named q done ≡ false) × (bytes_eq q failed.name ≡ false)
        parts q none =
            let cut = both_free _ _ (sym (named-append q done (failed ∷ more)) ∙ ap (named q) (sym split) ∙ none) in
            (cut.0, (both_free _ _ cut.1).0)

        stays : (q : Words) → named q files ≡ false → get (insert (after done m) failed.name any) q ≡ get m q
        stays q none = get_other (after done m) failed.name any q (parts q none).1 ∙ get_after_other done m q (parts q none).0

        gate : IsOpen (insert (after done m) failed.name any)
        gate = stays gate_name gate_unnamed ∙ opened

        text : get (insert (after done m) failed.name any) plan_name ≡ Some plan.0
        text = stays plan_name plan_unnamed ∙ plan.1

        again : project_in (after files (insert (after done m) failed.name any)) ≡ project_in (after files m)
        again = put_in files (insert (after done m) failed.name any) m (λ q t none. stays q none)

  pub stopped_recovery : (done : List SourceFile) (failed : SourceFile) (rest : List SourceFile) (any : List ℕ)
      → plan_writes files ≡ done ++ failed ∷ rest
      → (found : FileSet) → Recovers (insert (after done m) failed.name any) found → found ≡ project_in (after files m)
  stopped_recovery done failed rest any split found r = by (split_last files (file_of gate_name []) done failed rest split) where
    by : ((done ≡ files) × (failed ≡ file_of gate_name [])) ⊎ ((more : List SourceFile) × (files ≡ done ++ failed ∷ more))
        → found ≡ project_in (after files m)
    by (inl h) =
        at_gate any found (subst (λ (f : SourceFile). Recovers (insert (after files m) f.name any) found) h.1
        (subst (λ (fs : List SourceFile). Recovers (insert (after fs m) failed.name any) found) h.0 r))
    by (inr h) = at_file done failed h.0 any h.1 found r

  -- after each stop the folder holds the plan
  pub plan_stays : (done : List SourceFile) (failed : SourceFile) (rest : List SourceFile) (any : List ℕ) → plan_writes files ≡ done ++ failed ∷ rest
      → HoldsPlan (insert (after done m) failed.name any) files
  plan_stays done failed rest any split = by (split_last files (file_of gate_name []) done failed rest split) where
    at_end : HoldsPlan (insert (after files m) gate_name any) files
    at_end = (plan.0, get_other (after files m) gate_name any plan_name refl ∙ get_after_other files m plan_name plan_unnamed ∙ plan.1, plan.2)

    by : ((done ≡ files) × (failed ≡ file_of gate_name [])) ⊎ ((more : List SourceFile) × (files ≡ done ++ failed ∷ more))
        → HoldsPlan (insert (after done m) failed.name any) files
    by (inl h) =
        subst (λ (fs : List SourceFile). HoldsPlan (insert (after fs m) failed.name any) files) (sym h.0)
        (subst (λ (f : SourceFile). HoldsPlan (insert (after files m) f.name any) files) (sym h.1) at_end)
    by (inr h) =
        let cut = both_free _ _ (sym (named-append plan_name done (failed ∷ h.0)) ∙ ap (named plan_name) (sym h.1) ∙ plan_unnamed) in
        (plan.0, get_other (after done m) failed.name any plan_name (both_free _ _ cut.1).0 ∙ get_after_other done m plan_name cut.0 ∙ plan.1, plan.2)

  pub whole_recovery : (IsOpen (after (plan_writes files) m) → ⊥) × (project_in (after (plan_writes files) m) ≡ project_in (after files m))
  whole_recovery = (
    shut,
    subst (λ (n : FileMap). project_in n ≡ project_in (after files m)) (sym end)
        (same_project (insert (after files m) gate_name []) (after files m) there),
  ) where
    end : after (plan_writes files) m ≡ insert (after files m) gate_name []
    end = after-append files (file_of gate_name [] ∷ []) m

    there : Agree (insert (after files m) gate_name []) (after files m)
    there q t = get_other (after files m) gate_name [] q (apart counts q gate_name t gate_counts_not)

    shut : IsOpen (after (plan_writes files) m) → ⊥
    shut o = let bad : ◌≡◌ {A = Option (List ℕ)} (Some []) (Some open_bytes) = sym (get_here (after files m) gate_name [])
        ∙ ap (λ (n : FileMap). get n gate_name) (sym end) ∙ o in cc

-- the folder with the plan and the open gate
abbrev ready : FileMap → List SourceFile → FileMap
ready held files = insert (insert held plan_name (plan_text files)) gate_name open_bytes

ready_open : (held : FileMap) (files : List SourceFile) → IsOpen (ready held files)
ready_open held files = get_here (insert held plan_name (plan_text files)) gate_name open_bytes

ready_plan : (held : FileMap) (files : List SourceFile) → IsPlan (plan_text files) files → HoldsPlan (ready held files) files
ready_plan held files p = (
  plan_text files,
  get_other (insert held plan_name (plan_text files)) gate_name open_bytes plan_name refl
      ∙ get_here held plan_name (plan_text files),
  p,
)

-- the plan and the gate, whatever they hold, are no part of the project
aside : (held : FileMap) (plan gate : List ℕ) → Agree (insert (insert held plan_name plan) gate_name gate) held
aside held plan gate q t = get_other (insert held plan_name plan) gate_name gate q (apart counts q gate_name t gate_counts_not)
    ∙ get_other held plan_name plan q (apart counts q plan_name t plan_counts_not)

ready_after : (held : FileMap) (files : List SourceFile) → project_in (after files (ready held files)) ≡ project_in (after files held)
ready_after held files = put_in files (ready held files) held (λ q t none. aside held (plan_text files) open_bytes q t)

at_plan : (held : FileMap) (any : List ℕ) (found : FileSet) → (IsOpen held → ⊥) → Recovers (insert held plan_name any) found → found ≡ project_in held
at_plan held any found shut r = recovered_one (insert held plan_name any) found (project_in (insert held plan_name any)) r
    (closed (λ o. shut (sym (get_other held plan_name any gate_name refl) ∙ o)))
    ∙ same_project (insert held plan_name any) held (λ q t. get_other held plan_name any q (apart counts q plan_name t plan_counts_not))

at_opening : (held : FileMap) (files : List SourceFile) (any : List ℕ) → IsPlan (plan_text files) files
    → (found : FileSet) → Recovers (insert (insert held plan_name (plan_text files)) gate_name any) found → (found ≡ project_in held)
    ⊎ (found ≡ project_in (after files held))
at_opening held files any p found (planned others o q) =
    let now = insert (insert held plan_name (plan_text files)) gate_name any in
    let text : get now plan_name ≡ Some (plan_text files) = get_other (insert held plan_name (plan_text files)) gate_name any plan_name refl
    ∙ get_here held plan_name (plan_text files) in
    let same : others ≡ files = same_plan now others files q (plan_text files, text, p) in
    inr (ap (λ (fs : List SourceFile). project_in (after fs now)) same ∙ put_in files now held (λ q t none. aside held (plan_text files) any q t))
at_opening held files any p found (closed c) =
    inl (same_project (insert (insert held plan_name (plan_text files)) gate_name any) held (aside held (plan_text files) any))
at_opening held files any p found (unplanned o n) =
    inl (same_project (insert (insert held plan_name (plan_text files)) gate_name any) held (aside held (plan_text files) any))

stopped_by : (held : FileMap) (files : List SourceFile) (found : FileSet) → IsPlan (plan_text files) files → (IsOpen held → ⊥)
    → (done : List SourceFile) (failed : SourceFile) (rest : List SourceFile) (any : List ℕ) → safe_writes files ≡ done ++ failed ∷ rest
    → Recovers (insert (after done held) failed.name any) found
    → (found ≡ project_in held) ⊎ (found ≡ project_in (after files held))
stopped_by held files found p shut [] failed rest any split r =
    let same : file_of plan_name (plan_text files) ≡ failed = cc in
    inl (at_plan held any found shut (subst (λ (f : SourceFile). Recovers (insert held f.name any) found) (sym same) r))
stopped_by held files found p shut (d ∷ []) failed rest any split r =
    let first : file_of plan_name (plan_text files) ≡ d = cc in
    let same : file_of gate_name open_bytes ≡ failed = cc in
    at_opening held files any p found
    (subst (λ (f : SourceFile). Recovers (insert (insert held plan_name (plan_text files)) f.name any) found) (sym same)
    (subst (λ (f : SourceFile). Recovers (insert (insert held f.name f.bytes) failed.name any) found) (sym first) r))
stopped_by held files found p shut (d ∷ c ∷ ds) failed rest any split r =
    let first : file_of plan_name (plan_text files) ≡ d = cc in
    let second : file_of gate_name open_bytes ≡ c = cc in
    let tails : plan_writes files ≡ ds ++ failed ∷ rest = cc in
    let moved : Recovers (insert (after ds (ready held files)) failed.name any) found =
    subst (λ (f : SourceFile). Recovers (insert (after ds (insert (insert held plan_name (plan_text files)) f.name f.bytes)) failed.name any) found)
    (sym second)
    (subst (λ (f : SourceFile). Recovers (insert (after ds (insert (insert held f.name f.bytes) c.name c.bytes)) failed.name any) found)
    (sym first) r) in
    inr (stopped_recovery (ready held files) files (ready_open held files) (ready_plan held files p) ds failed rest any tails found moved
    ∙ ready_after held files)

holds_by : (held : FileMap) (files : List SourceFile) → IsPlan (plan_text files) files → (IsOpen held → ⊥)
    → (done : List SourceFile) (failed : SourceFile) (rest : List SourceFile) (any : List ℕ) → safe_writes files ≡ done ++ failed ∷ rest
    → IsOpen (insert (after done held) failed.name any) → HoldsPlan (insert (after done held) failed.name any) files
holds_by held files p shut [] failed rest any split o =
    let same : file_of plan_name (plan_text files) ≡ failed = cc in
    let still : IsOpen (insert held plan_name any) = subst (λ (f : SourceFile). IsOpen (insert held f.name any)) (sym same) o in
    absurd (shut (sym (get_other held plan_name any gate_name refl) ∙ still))
holds_by held files p shut (d ∷ []) failed rest any split o =
    let first : file_of plan_name (plan_text files) ≡ d = cc in
    let same : file_of gate_name open_bytes ≡ failed = cc in
    let text = get_other (insert held plan_name (plan_text files)) gate_name any plan_name refl ∙ get_here held plan_name (plan_text files) in
    subst (λ (f : SourceFile). HoldsPlan (insert (insert held f.name f.bytes) failed.name any) files) first
    (subst (λ (f : SourceFile). HoldsPlan (insert (insert held plan_name (plan_text files)) f.name any) files) same (plan_text files, text, p))
holds_by held files p shut (d ∷ c ∷ ds) failed rest any split o =
    let first : file_of plan_name (plan_text files) ≡ d = cc in
    let second : file_of gate_name open_bytes ≡ c = cc in
    let tails : plan_writes files ≡ ds ++ failed ∷ rest = cc in
    subst (λ (f : SourceFile). HoldsPlan (insert (after ds (insert (insert held f.name f.bytes) c.name c.bytes)) failed.name any) files) first
    (subst (λ (f : SourceFile). HoldsPlan (insert (after ds (insert (insert held plan_name (plan_text files)) f.name f.bytes)) failed.name any) files)
    second
    (plan_stays (ready held files) files (ready_open held files) (ready_plan held files p) ds failed rest any tails))

-- if an open gate has a plan, some project is recovered
something : (now : FileMap) (files : List SourceFile) → (IsOpen now → HoldsPlan now files) → (found : FileSet) × Recovers now found
something now files h = by (get now gate_name) refl where
  at : (bytes : List ℕ) (b : Bool) → get now gate_name ≡ Some bytes → bytes_eq bytes open_bytes ≡ b → (found : FileSet) × Recovers now found
  at bytes true e t =
      let opened : IsOpen now = e ∙ ap (λ (w : List ℕ). Some w) ((Rattle.std.specs.Cmp.Lexicographic.bytes_decides bytes open_bytes).0 t) in
      (project_in (after files now), planned files opened (h opened))
  at bytes false e t = (
    project_in now,
    closed (λ o.
        let found : Some bytes ≡ Some open_bytes = sym e ∙ o in
        let same : bytes ≡ open_bytes = cc in
        let bad : false ≡ true = sym t ∙ (Rattle.std.specs.Cmp.Lexicographic.bytes_decides bytes open_bytes).1 same in
        cc),
  )

  by : (gate : Option (List ℕ)) → get now gate_name ≡ gate → (found : FileSet) × Recovers now found
  by None e = (project_in now, closed (λ o. let bad : ◌≡◌ {A = Option (List ℕ)} None (Some open_bytes) = sym e ∙ o in cc))
  by (Some bytes) e = at bytes (bytes_eq bytes open_bytes) e refl

-- a stop of `--safe`
pub stopped_safe : (held now : FileMap) (files : List SourceFile)
    → IsPlan (plan_text files) files → (IsOpen held → ⊥) → StoppedWriting (safe_writes files) (Some held) (Some now)
    → Recovers now (project_in held) ⊎ Recovers now (project_in (after files held))
stopped_safe held now files p shut s =
    let left : now ≡ insert (after s.0 held) s.1.name s.3 = cc in
    let found = something (insert (after s.0 held) s.1.name s.3) files (holds_by held files p shut s.0 s.1 s.2 s.3 s.4) in
    by left found.0 found.1 (stopped_by held files found.0 p shut s.0 s.1 s.2 s.3 s.4 found.1) where
      by : now ≡ insert (after s.0 held) s.1.name s.3 → (found : FileSet) → Recovers (insert (after s.0 held) s.1.name s.3) found
          → (found ≡ project_in held) ⊎ (found ≡ project_in (after files held))
          → Recovers now (project_in held) ⊎ Recovers now (project_in (after files held))
      by left found r (inl e) = inl (subst (Recovers now) e (subst (λ (n : FileMap). Recovers n found) (sym left) r))
      by left found r (inr e) = inr (subst (Recovers now) e (subst (λ (n : FileMap). Recovers n found) (sym left) r))

pub whole_safe : (held : FileMap) (files : List SourceFile) → IsPlan (plan_text files) files
    → (IsOpen (after (safe_writes files) held) → ⊥) × (project_in (after (safe_writes files) held) ≡ project_in (after files held))
whole_safe held files p =
    let whole = whole_recovery (ready held files) files (ready_open held files) (ready_plan held files p) in
    (whole.0, whole.1 ∙ ready_after held files)

-- a stop of a recovery
pub stopped_again : (held now : FileMap) (files : List SourceFile) (found : FileSet)
    → IsOpen held → HoldsPlan held files → StoppedWriting (plan_writes files) (Some held) (Some now) → Recovers held found → Recovers now found
stopped_again held now files found o p s r =
    let left : now ≡ insert (after s.0 held) s.1.name s.3 = cc in
    let some = something (insert (after s.0 held) s.1.name s.3) files (λ q. plan_stays held files o p s.0 s.1 s.2 s.3 s.4) in
    let same : some.0 ≡ project_in (after files held) = stopped_recovery held files o p s.0 s.1 s.2 s.3 s.4 some.0 some.1 in
    let wanted : found ≡ project_in (after files held) = recovered_planned held files found o p r in
    subst (Recovers now) (same ∙ sym wanted) (subst (λ (n : FileMap). Recovers n some.0) (sym left) some.1)

pub whole_again : (held : FileMap) (files : List SourceFile) → IsOpen held → HoldsPlan held files
    → (IsOpen (after (plan_writes files) held) → ⊥) × Recovers held (project_in (after (plan_writes files) held))
whole_again held files o p =
    let whole = whole_recovery held files o p in
    (whole.0, subst (Recovers held) (sym whole.1) (planned files o p))

-- `--safe` leaves every other file than the plan and the gate as the writes of the files alone do
pub safe_others : (held : FileMap) (files : List SourceFile) (q : List ℕ) → bytes_eq q plan_name ≡ false → bytes_eq q gate_name ≡ false
    → get (after (safe_writes files) held) q ≡ get (after files held) q
safe_others held files q p g =
    ap (λ (n : FileMap). get n q) (after-append files (file_of gate_name [] ∷ []) (ready held files))
    ∙ get_other (after files (ready held files)) gate_name [] q g
    ∙ get_after_same files (ready held files) held q
    (λ none. get_other (insert held plan_name (plan_text files)) gate_name open_bytes q g ∙ get_other held plan_name (plan_text files) q p)
