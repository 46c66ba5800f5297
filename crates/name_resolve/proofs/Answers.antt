-- The answer of a match, and the links of or-patterns, are what the steps add.
use Rattle.std.proofs.Common.{◌≡◌, Option, Some, None, ◌≤◌, ◌<◌, ◌+◌, ◌-◌, ◌++◌, List, [], ◌∷◌, ℕ, Bool, true, false, length, length-append, refl}
use Rattle.std.proofs.Common.{sym, ap, ◌∙◌, arith, nat_le, nat_lt, if◌then◌else◌, append_assoc, append-nil}
use Rattle.std.proofs.lemmas.Bool.Decides.{leb_tells}
use Rattle.rotor_base.specs.declared.place.Link.{Link}
use Rattle.rotor_base.specs.declared.place.Goal.{Goal}
use Rattle.rotor_base.specs.declared.looks.Watch.{Watch}
use Rattle.rotor_base.specs.declared.looks.LinkLook.{LinkLook}
use Rattle.shape_core.specs.Shape.{Entries, none, a_val, a_mod, a_mty, a_dark, vals}
use Rattle.shape_core.specs.Links.{◌&◌, link}
use Rattle.shape_core.specs.Looks.{look, numbered}
use Rattle.shape_core.proofs.Matches.{told-then}
use Rattle.binding_model.specs.declared.found.Found.{Found}
use Rattle.binding_model.specs.declared.found.Recorder.{Recorder}
use Rattle.binding_model.specs.Steps.{Steps, TieOf, tied, trace}
use Rattle.binding_model.specs.Taken.{with_links, recorded}
use Rattle.binding_model.proofs.Takings.{looks_alike, numbered-append}
use Rattle.name_resolve.specs.Recorded.{tie_recorded, tied_to}

pub within : (w : ℕ) → w ≤ 4194304 → nat_le w 4194304 ≡ true
within w h = grind (arith, h, leb_tells w 4194304)

pub over : (w : ℕ) → 4194304 < w → nat_le w 4194304 ≡ false
over w h = grind (arith, h, leb_tells w 4194304)

abbrev more : Found → Steps → Bool → Found
more n ss b =
    if b
    then record n {
      links = n.links ++ (trace link ss).told;
      sums = record n.sums { work = n.sums.work + (trace link ss).work };
      recorder = recorded n.recorder ss;
    }
    else record n { sums = record n.sums { work = 4194305 } }

pub answered_within : (n : Found) (ss : Steps) (ls : List Link) (w : ℕ) → n.sums.work ≤ 4194304
    → (ls ≡ (trace link ss).told) × (w ≡ (trace link ss).work) × ((trace link ss).work ≤ 4194304 - n.sums.work)
    → with_links n ss ≡ record n { links = n.links ++ ls; sums = record n.sums { work = n.sums.work + w }; recorder = recorded n.recorder ss }
answered_within n ss ls w h (l, v, r) =
    ap (more n ss) (within (n.sums.work + (trace link ss).work) (omega (arith, h, r)))
    ∙ sym (ap (λ k. record n
    { links = n.links ++ k; sums = record n.sums { work = n.sums.work + (trace link ss).work }; recorder = recorded n.recorder ss }) l)
    ∙ sym (ap (λ k. record n { links = n.links ++ ls; sums = record n.sums { work = n.sums.work + k }; recorder = recorded n.recorder ss }) v)

pub answered_past : (n : Found) (ss : Steps) → n.sums.work ≤ 4194304 → 4194304 - n.sums.work < (trace link ss).work
    → with_links n ss ≡ record n { sums = record n.sums { work = 4194305 } }
answered_past n ss h r = ap (more n ss) (over (n.sums.work + (trace link ss).work) (omega (arith, h, r)))

pub answered_over : (n : Found) (ss : Steps) → 4194304 < n.sums.work → with_links n ss ≡ record n { sums = record n.sums { work = 4194305 } }
answered_over n ss h = ap (more n ss) (over (n.sums.work + (trace link ss).work) (omega (arith, h)))

-- what links add to a recorder, each with the look that it has under a watch
abbrev told_recorded : Option Recorder → (Watch → List (Option LinkLook)) → Option Recorder
told_recorded None os = None
told_recorded (Some r) os = Some (record r {
  looks = record r.looks {
    links = r.looks.links ++ numbered r.looks.passed (os r.watch);
    passed = r.looks.passed + length (os r.watch);
  };
})

abbrev ties_recorded : Option Recorder → Entries → Entries → Option Recorder
ties_recorded r p src = told_recorded r (λ w. (tied (look w) p src).told)

tie_first : (r : Option Recorder) (x : List ℕ) (g : Goal) (es src : Entries) → ties_recorded (tie_recorded r x g src) es src ≡ ties_recorded r
    (a_val x g es) src
unfolding ◌&◌
tie_first None x g es src = refl
tie_first (Some r) x g es src =
    let p = r.looks.passed in
    let o = look r.watch x g none (Some src) in
    let os = (tied (look r.watch) es src).told in
    let long : (p + 1) + length os ≡ p + length (o ∷ os) = omega arith in
    ap (λ l. Some (record r { looks = l })) (looks_alike refl
    (append_assoc r.looks.links (numbered p (o ∷ [])) (numbered (p + 1) os) ∙ sym (ap (λ l. r.looks.links ++ l) (numbered-append p (o ∷ []) os)))
    long)

tie_nothing : (r : Option Recorder) (src : Entries) → r ≡ ties_recorded r none src
tie_nothing None src = refl
tie_nothing (Some r) src = ap (λ l. Some (record r { looks = l })) (looks_alike refl (sym (append-nil r.looks.links)) (omega arith))

tied_so : (n : Found) (src p : Entries)
    → tied_to n src p ≡ record n { links = n.links ++ (tied link p src).told; recorder = ties_recorded n.recorder p src }
unfolding ◌&◌
tied_so n src none = ap (λ l. record n { links = l }) (sym (append-nil n.links)) ∙ ap (λ r. record n { links = n.links ++ []; recorder = r })
    (tie_nothing n.recorder src)
tied_so n src (a_val x g es) =
    let l = link x g none (Some src) in
    tied_so (record n { links = n.links ++ l ∷ []; recorder = tie_recorded n.recorder x g src }) src es
    ∙ ap (λ k. record n { links = k; recorder = ties_recorded (tie_recorded n.recorder x g src) es src })
    (append_assoc n.links (l ∷ []) (tied link es src).told)
    ∙ ap (λ r. record n { links = n.links ++ l ∷ (tied link es src).told; recorder = r }) (tie_first n.recorder x g es src)
tied_so n src (a_mod X s es) = tied_so n src es
tied_so n src (a_mty S s es) = tied_so n src es
tied_so n src (a_dark at es) = tied_so n src es

tied_work : (p src : Entries) → (tied link p src).work ≡ length (vals p)
unfolding ◌&◌
tied_work none src = refl
tied_work (a_val x g es) src = omega (arith, tied_work es src)
tied_work (a_mod X s es) src = tied_work es src
tied_work (a_mty S s es) src = tied_work es src
tied_work (a_dark at es) src = tied_work es src

both_work : (p q : Entries) → (trace link (TieOf p q)).work ≡ length (vals p) + length (vals q)
unfolding ◌&◌
both_work p q = ap (λ k. k + (tied link q p).work) (tied_work p q) ∙ ap (λ k. length (vals p) + k) (tied_work q p)

both_recorded : (r : Option Recorder) (p q : Entries) → ties_recorded (ties_recorded r p q) q p ≡ recorded r (TieOf p q)
both_recorded None p q = refl
both_recorded (Some r) p q =
    let w = r.watch in
    let n = r.looks.passed in
    let firsts = (tied (look w) p q).told in
    let seconds = (tied (look w) q p).told in
    let both = told-then (tied (look w) p q) (tied (look w) q p) in
    let long : (n + length firsts) + length seconds ≡ n + length (firsts ++ seconds) = let e = length-append firsts seconds in omega (arith, e) in
    ap (λ l. Some (record r { looks = l })) (looks_alike (sym (append-nil r.looks.refs))
    (append_assoc r.looks.links (numbered n firsts) (numbered (n + length firsts) seconds)
    ∙ ap (λ x. r.looks.links ++ x) (sym (numbered-append n firsts seconds)) ∙ sym (ap (λ x. r.looks.links ++ numbered n x) both))
    (long ∙ sym (ap (λ x. n + length x) both)))

both_told : (n : Found) (p q : Entries) → tied_to (tied_to n q p) p q
    ≡ record n { links = n.links ++ (trace link (TieOf p q)).told; recorder = recorded n.recorder (TieOf p q) }
unfolding ◌&◌
both_told n p q =
    ap (λ m. tied_to m p q) (tied_so n q p)
    ∙ tied_so (record n { links = n.links ++ (tied link p q).told; recorder = ties_recorded n.recorder p q }) p q
    ∙ ap (λ l. record n { links = l; recorder = ties_recorded (ties_recorded n.recorder p q) q p })
    (append_assoc n.links (tied link p q).told (tied link q p).told)
    ∙ ap (λ r. record n { links = n.links ++ ((tied link p q).told ++ (tied link q p).told); recorder = r }) (both_recorded n.recorder p q)

abbrev worked : Found → ℕ → Found
worked n k = record n { sums = record n.sums { work = n.sums.work + k } }

pub tied_within : (n : Found) (p q : Entries) (a b : ℕ) → a ≡ length (vals p) → b ≡ length (vals q) → nat_lt 4194304 (n.sums.work + (a + b)) ≡ false
    → with_links n (TieOf p q) ≡ tied_to (tied_to (record n { sums = record n.sums { work = n.sums.work + (a + b) } }) q p) p q
tied_within n p q a b ha hb e =
    let w : (trace link (TieOf p q)).work ≡ a + b = both_work p q ∙ sym (ap (λ k. k + length (vals q)) ha) ∙ sym (ap (λ k. a + k) hb) in
    let h : n.sums.work + (a + b) ≤ 4194304 = grind (arith, e, leb_tells 4194305 (n.sums.work + (a + b))) in
    ap (more n (TieOf p q)) (within (n.sums.work + (trace link (TieOf p q)).work) (omega (arith, h, w)))
    ∙ ap (λ (k : ℕ). record (worked n k) { links = n.links ++ (trace link (TieOf p q)).told; recorder = recorded n.recorder (TieOf p q) }) w
    ∙ sym (both_told (worked n (a + b)) p q)

pub tied_over : (n : Found) (p q : Entries) (a b : ℕ) → a ≡ length (vals p) → b ≡ length (vals q) → nat_lt 4194304 (n.sums.work + (a + b)) ≡ true
    → with_links n (TieOf p q) ≡ record n { sums = record n.sums { work = 4194305 } }
tied_over n p q a b ha hb e =
    let w : (trace link (TieOf p q)).work ≡ a + b = both_work p q ∙ sym (ap (λ k. k + length (vals q)) ha) ∙ sym (ap (λ k. a + k) hb) in
    let h : 4194304 < n.sums.work + (a + b) = grind (arith, e, leb_tells 4194305 (n.sums.work + (a + b))) in
    ap (more n (TieOf p q)) (over (n.sums.work + (trace link (TieOf p q)).work) (omega (arith, h, w)))
