-- The ranges of places that are grouped by their sources.
use Rattle.std.proofs.Common.{◌≡◌, ℕ, zero, suc, ◌+◌, ◌≤◌, All, List, [], ◌∷◌, ◌++◌, drop, get_or, length, map, slice_get, take, refl, ap, sym, subst}
use Rattle.std.proofs.Common.{◌∙◌, arith, Result, Ok, Err, IfOk}
use Rattle.std.specs.Global.{Vec}
use Rattle.std.proofs.lemmas.List.{append_assoc, map-append, take-append-drop}
use Rattle.source_edits.specs.Ranges.{range_of}
use Rattle.source_edits.specs.declared.ranges.Span.{Span}
use Rattle.source_edits.specs.declared.ranges.TextRange.{TextRange}
use Rattle.value_at.specs.declared.footprint_places.ValuePlace.{ValuePlace}
use Rattle.document_scene.specs.Places.{bytes_among, range_at, span_among}
use Rattle.document_scene.specs.Scene.{Telling}

-- the front of what is left, and what is behind it
pub regrouped : {X Y : Type 0} (f : X → Y) (ys : List Y) (n : ℕ) (xs : List X)
    → (ys ++ map f (take n xs)) ++ map f (drop n xs) ≡ ys ++ map f xs
regrouped f ys n xs =
    append_assoc ys (map f (take n xs)) (map f (drop n xs))
    ∙ ap (λ zs. ys ++ zs) (sym (map-append f (take n xs) (drop n xs)) ∙ ap (map f) (take-append-drop n xs))

-- places of one source have the ranges of their spans in it
pub same_source : (t : Telling) (file : ℕ) (ps : List ValuePlace) → All (λ p. p.at.file ≡ file) ps
    → map (range_of t.counting (bytes_among (slice_get t.cuts file)))
    (map (λ (p : ValuePlace). span_among (slice_get t.cuts p.at.file) p.at.token) ps)
    ≡ map (λ (p : ValuePlace). range_at t p.at) ps
same_source t file [] h = refl
same_source t file (p ∷ ps) h =
    let first : p.at.file ≡ file = h 0 p (omega arith) in
    ap (λ n. range_of t.counting (bytes_among (slice_get t.cuts n)) (span_among (slice_get t.cuts p.at.file) p.at.token)
    ∷ map (range_of t.counting (bytes_among (slice_get t.cuts file)))
    (map (λ (q : ValuePlace). span_among (slice_get t.cuts q.at.file) q.at.token) ps)) (sym first)
    ∙ ap (λ rs. range_at t p.at ∷ rs) (same_source t file ps (λ k d lt. h (suc k) d (omega (arith, lt))))

first_then : (file : ℕ) (p : ValuePlace) (ps : List ValuePlace) → p.at.file ≡ file → All (λ q. q.at.file ≡ file) ps
    → All (λ q. q.at.file ≡ file) (p ∷ ps)
first_then file p ps h hs zero d lt = h
first_then file p ps h hs (suc k) d lt = hs k d (omega (arith, lt))

-- a place at the front, and those behind it of its source
pub all_front : (ps : List ValuePlace) (d : ValuePlace) (file n : ℕ) → 1 ≤ length ps → (get_or ps 0 d).at.file ≡ file
    → All (λ p. p.at.file ≡ file) (take n (drop 1 ps)) → All (λ p. p.at.file ≡ file) (take (1 + n) ps)
all_front [] d file n le h hs = absurd (omega arith)
all_front (p ∷ ps) d file n le h hs =
    let next : 1 + n ≡ suc n = omega arith in
    subst (λ m. All (λ (q : ValuePlace). q.at.file ≡ file) (take m (p ∷ ps))) (sym next) (first_then file p (take n ps) h hs)

-- the ranges of the spans at places of one source
pub ranged : {E : Type 0} (t : Telling) (file : ℕ) (ps : List ValuePlace) (bytes : List ℕ) (spans those : List Span)
    (result : Result (Vec TextRange) E)
    → All (λ p. p.at.file ≡ file) ps → bytes ≡ bytes_among (slice_get t.cuts file) → those ≡ spans
    → spans ≡ map (λ (p : ValuePlace). span_among (slice_get t.cuts p.at.file) p.at.token) ps
    → IfOk result (λ list. list.items ≡ map (range_of t.counting bytes) those)
    → IfOk result (λ list. list.items ≡ map (λ (p : ValuePlace). range_at t p.at) ps)
ranged t file ps bytes spans those (Err e) all b same s h = tt
ranged t file ps bytes spans those (Ok list) all b same s h =
    h ∙ ap (λ (bs : List ℕ). map (range_of t.counting bs) those) b
    ∙ ap (λ (xs : List Span). map (range_of t.counting (bytes_among (slice_get t.cuts file))) xs) (same ∙ s)
    ∙ same_source t file ps all
