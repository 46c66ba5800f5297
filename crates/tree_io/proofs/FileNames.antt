-- Distinct names, file by file.
use Rattle.std.proofs.Common.{◌≡◌, ℕ, zero, suc, ◌+◌, ◌<◌, ◌≤◌, Bool, true, false, not, ◌&&◌, ◌||◌, List, [], ◌∷◌, map, length, get_or, drop, refl}
use Rattle.std.proofs.Common.{sym, ◌∙◌, ap, arith, add-one}
use Rattle.std.proofs.lemmas.List.{drop_all}
use Rattle.std.specs.List.{list_any}
use Rattle.std.specs.Str.{bytes_eq}
use Rattle.rotor_base.specs.declared.source.SourceFile.{SourceFile}
use Rattle.tree_io.specs.Slots.{are_distinct}

any_names : (name : List ℕ) (files : List SourceFile) → list_any (bytes_eq name) (map (λ file. file.name) files) ≡ list_any
    (λ file. bytes_eq name file.name) files
any_names name [] = refl
any_names name (f ∷ fs) = ap (λ b. bytes_eq name f.name || b) (any_names name fs)

at_front : (files : List SourceFile) (i : ℕ) (d : SourceFile) → i < length files
    → are_distinct (map (λ file. file.name) (drop i files))
    ≡ (not (list_any (λ file. bytes_eq (get_or files i d).name file.name) (drop (suc i) files)) && are_distinct
    (map (λ file. file.name) (drop (suc i) files)))
at_front [] i d within = absurd (omega arith)
at_front (f ∷ fs) zero d within = ap (λ b. not b && are_distinct (map (λ (file : SourceFile). file.name) fs)) (any_names f.name fs)
at_front (f ∷ fs) (suc i) d within = at_front fs i d (omega arith)

pub both_false : (P : Bool) → P ≡ false → (false ≡ true → P ≡ true) × (P ≡ true → false ≡ true)
both_false P e = (λ no. absurd (cc), λ yes. absurd (cc))

step : (files : List SourceFile) (i : ℕ) (d : SourceFile) (b : Bool) → i < length files → d ≡ get_or files i d
    → b ≡ list_any (λ file. bytes_eq d.name file.name) (drop (i + 1) files)
    → are_distinct (map (λ file. file.name) (drop i files)) ≡ (not b && are_distinct (map (λ file. file.name) (drop (i + 1) files)))
step files i d b within is e =
    let here = at_front files i d within in
    let found : list_any (λ file. bytes_eq (get_or files i d).name file.name) (drop (suc i) files) ≡ b =
    ap (λ f. list_any (λ file. bytes_eq f.name file.name) (drop (suc i) files)) (sym is) ∙ rw add-one at (sym e) in
    rw add-one (here ∙ ap (λ x. not x && are_distinct (map (λ (file : SourceFile). file.name) (drop (suc i) files))) found)

-- a file whose name occurs again
pub again : (files : List SourceFile) (i : ℕ) (d : SourceFile) (b : Bool) → i < length files → d ≡ get_or files i d
    → b ≡ list_any (λ file. bytes_eq d.name file.name) (drop (i + 1) files) → b ≡ true → are_distinct (map (λ file. file.name) files) ≡ are_distinct
    (map (λ file. file.name) (drop i files)) → are_distinct (map (λ file. file.name) files) ≡ false
again files i d b within is e found so_far = so_far ∙ step files i d b within is e
    ∙ ap (λ x. not x && are_distinct (map (λ (file : SourceFile). file.name) (drop (i + 1) files))) found

-- a file whose name does not
pub once : (files : List SourceFile) (i : ℕ) (d : SourceFile) (b : Bool) → i < length files → d ≡ get_or files i d
    → b ≡ list_any (λ file. bytes_eq d.name file.name) (drop (i + 1) files) → b ≡ false → are_distinct (map (λ file. file.name) files) ≡ are_distinct
    (map (λ file. file.name) (drop i files)) → are_distinct (map (λ file. file.name) files) ≡ are_distinct
    (map (λ file. file.name) (drop (i + 1) files))
once files i d b within is e found so_far = so_far ∙ step files i d b within is e
    ∙ ap (λ x. not x && are_distinct (map (λ (file : SourceFile). file.name) (drop (i + 1) files))) found

-- after the last
pub at_end : (files : List SourceFile) (i : ℕ) → length files ≤ i → are_distinct (map (λ file. file.name) files) ≡ are_distinct
    (map (λ file. file.name) (drop i files)) → are_distinct (map (λ file. file.name) files) ≡ true
at_end files i past so_far = so_far ∙ ap (λ fs. are_distinct (map (λ (file : SourceFile). file.name) fs)) (drop_all i files past)
