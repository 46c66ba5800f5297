-- Looks of meetings.
use Rattle.std.proofs.Common.{◌≡◌, ℕ, suc, ◌+◌, ◌<◌, ◌≤◌, List, [], ◌∷◌, ◌++◌, map, length, take, get_or, Option, Some, None, sym, ap, ◌∙◌}
use Rattle.std.proofs.Common.{arith, length-append}
use Rattle.std.proofs.lemmas.List.{take_more, append-nil, map-append, length-map}
use Rattle.std.specs.Prelude.{Result, Ok, Err}
use Rattle.rotor_base.specs.declared.place.Goal.{Goal}
use Rattle.rotor_base.specs.declared.looks.Watch.{Watch}
use Rattle.rotor_base.specs.declared.looks.LinkLook.{LinkLook}
use Rattle.rotor_base.specs.declared.looks.Looks.{Looks}
use Rattle.shape_core.specs.declared.shared.SharedEntry.{SharedEntry}
use Rattle.shape_core.specs.Node.{entries_of}
use Rattle.shape_core.specs.Shape.{Name, Shape, Entries, a_val, entries_from}
use Rattle.shape_core.specs.Links.{Trace, nothing, matched, pin}
use Rattle.shape_core.specs.Looks as looks
use Rattle.shape_core.specs.Looks.{numbered}
use Rattle.shape_core.proofs.Matches.{nothing_then}
use Rattle.shape_core.proofs.Retold.{matched-mapped, pin-mapped}
use Rattle.sig_match.specs.declared.found.Meeting.{Meeting}
use Rattle.sig_match.specs.declared.found.Found.{Found}
use Rattle.sig_match.specs.declared.found.Stop.{Stop}
use Rattle.sig_match.specs.Walk.{Met, met, met_first, met_at, mets, trace_of, Walks}
use Rattle.sig_match.specs.Tests.{look_of, HasLooks}
use Rattle.sig_match.proofs.Walks.{mets-push}
use Rattle.sig_match.proofs.Firsts.{end_in}

-- one meeting
pub no_look : (w : Watch) (n : ℕ) (src : Option Entries) (es rest : Entries) → es ≡ rest → met_first src rest ≡ []
    → [] ≡ numbered n (map (look_of w) (met_first src es))
no_look w n src es rest h k = sym (ap (λ z. numbered n (map (look_of w) (met_first src z))) h ∙ ap (λ z. numbered n (map (look_of w) z)) k)

pub no_look_past : (w : Watch) (n : ℕ) (src : Option Entries) (xs : List SharedEntry) (es : Entries) (at : ℕ) → entries_of xs ≡ es
    → length xs ≤ at → [] ≡ numbered n (map (look_of w) (met_first src (entries_from at es)))
no_look_past w n src xs es at h k = sym (ap (λ z. numbered n (map (look_of w) (met_first src z))) (end_in xs es at h k))

pub one_look : (w : Watch) (n : ℕ) (src : Option Entries) (es rest : Entries) (x y : Name) (g : Goal) → es ≡ a_val x g rest → y ≡ x
    → numbered n (looks.look w y g rest src ∷ []) ≡ numbered n (map (look_of w) (met_first src es))
one_look w n src es rest x y g h k =
    ap (λ z. numbered n (looks.look w z g rest src ∷ [])) k ∙ sym (ap (λ z. numbered n (map (look_of w) (met_first src z))) h)

pub no_count : (src : Option Entries) (es rest : Entries) → es ≡ rest → met_first src rest ≡ [] → 0 ≡ length (met_first src es)
no_count src es rest h k = sym (ap (λ z. length (met_first src z)) h ∙ ap length k)

pub no_count_past : (src : Option Entries) (xs : List SharedEntry) (es : Entries) (at : ℕ) → entries_of xs ≡ es
    → length xs ≤ at → 0 ≡ length (met_first src (entries_from at es))
no_count_past src xs es at h k = sym (ap (λ z. length (met_first src z)) (end_in xs es at h k))

pub one_count : (src : Option Entries) (es rest : Entries) (x : Name) (g : Goal) → es ≡ a_val x g rest → 1 ≡ length (met_first src es)
one_count src es rest x g h = sym (ap (λ z. length (met_first src z)) h)

-- the looks of one meeting more
numbered-append : (n : ℕ) (ls ks : List (Option LinkLook)) → numbered n (ls ++ ks) ≡ numbered n ls ++ numbered (n + length ls) ks
numbered-append n [] ks = let e : n ≡ n + 0 = omega arith in ap (λ m. numbered m ks) e
numbered-append n (None ∷ ls) ks =
    let e : suc n + length ls ≡ n + suc (length ls) = omega arith in
    numbered-append (suc n) ls ks ∙ ap (λ m. numbered (suc n) ls ++ numbered m ks) e
numbered-append n (Some l ∷ ls) ks =
    let e : suc n + length ls ≡ n + suc (length ls) = omega arith in
    ap (λ z. (record l { number = n }) ∷ z) (numbered-append (suc n) ls ks ∙ ap (λ m. numbered (suc n) ls ++ numbered m ks) e)

abbrev seen : Watch → List Meeting → List (Option LinkLook)
seen w ms = map (look_of w) (mets ms)

seen_more : (w : Watch) (xs : List Meeting) (i : ℕ) (d : Meeting) → i < length xs → d ≡ get_or xs i d
    → seen w (take (i + 1) xs) ≡ seen w (take i xs) ++ map (look_of w) (met_at d)
seen_more w xs i d h k =
    ap (seen w) (take_more xs i d h ∙ ap (λ z. take i xs ++ z ∷ []) (sym k))
    ∙ ap (map (look_of w)) (mets-push (take i xs) d)
    ∙ map-append (look_of w) (mets (take i xs)) (met_at d)

-- all that the loop keeps; `ls` are the looks of the meeting
pub looks_more : (w : Watch) (xs : List Meeting) (i : ℕ) (d : Meeting) (old new ls : List LinkLook) (p c : ℕ) → i < length xs → d ≡ get_or xs i d
    → old ≡ numbered 0 (seen w (take i xs)) → p ≡ length (seen w (take i xs)) → p ≤ i → ls ≡ numbered p (map (look_of w) (met_at d)) → new ≡ old ++ ls
    → c ≡ length (met_at d) → c ≤ 1
    → (new ≡ numbered 0 (seen w (take (i + 1) xs))) × (p + c ≡ length (seen w (take (i + 1) xs))) × (p + c ≤ i + 1)
looks_more w xs i d old new ls p c h k a q b l n t u =
    let here = map (look_of w) (met_at d) in
    let g = seen_more w xs i d h k in
    let e = ap length g in
    let f = length-append (seen w (take i xs)) here in
    let m = length-map (met_at d) (look_of w) in
    let z : length (seen w (take i xs)) ≡ 0 + length (seen w (take i xs)) = omega arith in (
      n ∙ ap (λ z. z ++ ls) a ∙ ap (λ z. numbered 0 (seen w (take i xs)) ++ z) (l ∙ ap (λ z. numbered z here) (q ∙ z))
          ∙ sym (numbered-append 0 (seen w (take i xs)) here) ∙ ap (numbered 0) (sym g),
      omega (arith, e, f, m, q, t),
      omega (arith, b, u),
    )

pub same_list : (ls : List LinkLook) → ls ≡ ls ++ []
same_list ls = sym (append-nil ls)

-- what a walk from nothing shows
pub looked : (r : Result Unit Stop) (room : ℕ) (f : Found) (t : Trace Met) (w : Watch) (l : Looks) → Walks r room nothing (trace_of f) t
    → HasLooks r f w l → l ≡ looks.looks_of (map (look_of w) t.told)
looked (Ok u) room f t w l h k = k ∙ ap (λ z. looks.looks_of (map (look_of w) z.told)) (h.0 ∙ nothing_then t)
looked (Err e) room f t w l h k = absurd k

pub matched_looks : (w : Watch) (s t : Shape) → looks.looks_of (map (look_of w) (matched met s t).told) ≡ looks.match_looks w s t
matched_looks w s t = ap (λ z. looks.looks_of z.told) (matched-mapped (look_of w) met s t)

pub pinned_looks : (w : Watch) (s : Shape) → looks.looks_of (map (look_of w) (pin met s).told) ≡ looks.pin_looks w s
pinned_looks w s = ap (λ z. looks.looks_of z.told) (pin-mapped (look_of w) met s)
