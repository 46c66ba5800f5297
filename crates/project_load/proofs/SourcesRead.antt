-- Sources read one after another, up to the first with which they are too large.
use Rattle.std.proofs.Common.{◌≡◌, ℕ, zero, suc, ◌+◌, ◌<◌, ◌≤◌, min, List, [], ◌∷◌, ◌++◌, Bool, true, false, ◌||◌, Option, Some, None, IsSome}
use Rattle.std.proofs.Common.{option_map, refl, sym, ap, subst, ◌∙◌, map, length, take, drop, get_or, sum_by, nat_lt, append_assoc, arith}
use Rattle.std.specs.List.{AllByRecursion, cons_option, list_any}
use Rattle.std.specs.FinMap.{get}
use Rattle.std.proofs.lemmas.List.Elements.{filter_map-append}
use Rattle.std.proofs.lemmas.List.Folds.{list_any-append}
use Rattle.std.proofs.lemmas.List.{take-append-drop, map-append, length-take, take_all}
use Rattle.std.proofs.lemmas.Grind.{common_steps}
use Rattle.rotor_base.specs.Files.{first_with, are_over, names_of, too_large}
use Rattle.rotor_base.specs.declared.refusal.LoadError.TheVariants.{TooLarge}
use Rattle.rotor_base.specs.declared.source.SourceFile.{SourceFile}
use Rattle.rotor_base.proofs.Loads.{are_over_with, first_with_hit, first_with_miss}
use Rattle.tree_io.specs.Outside.{FileMap, IsFront}
use Rattle.project_load.specs.Load.{file_in, files_in}

-- all names are in the folder, so each is
pub there_at : {X : Type 0} (f : X → List ℕ) (held : FileMap) (xs : List X) (i : ℕ) (x : X) → i < length xs → x ≡ get_or xs i x
    → AllByRecursion (λ name. IsSome (get held name)) (map f xs) → IsSome (get held (f x))
there_at f held [] i x l e h = absurd (omega arith)
there_at f held (y ∷ xs) zero x l e h = subst (λ z. IsSome (get held (f z))) (sym e) h.0
there_at f held (y ∷ xs) (suc i) x l e h = there_at f held xs i x (omega arith) e h.1

fewer : (a b : Bool) (m n : ℕ) → ((a || b) || nat_lt 8388608 (m + n)) ≡ false → (a || nat_lt 8388608 m) ≡ false
fewer true b m n e = cc
fewer false true m n e = cc
fewer false false m n e = grind arith

-- if some files keep the limits, so do the first of them
kept_front : (front more : List SourceFile) → are_over (front ++ more) ≡ false → are_over front ≡ false
kept_front front more e =
    let any : list_any (λ file. nat_lt 1048576 (length file.bytes))
    (front ++ more) ≡ (list_any (λ file. nat_lt 1048576 (length file.bytes)) front || list_any (λ file. nat_lt 1048576 (length file.bytes))
    more) = list_any-append _ front more in
    let all : sum_by (λ file. length file.bytes) (front ++ more) ≡ sum_by (λ file. length file.bytes) front + sum_by
    (λ file. length file.bytes) more = grind (arith, common_steps) in
    fewer (list_any (λ file. nat_lt 1048576 (length file.bytes)) front) (list_any (λ file. nat_lt 1048576 (length file.bytes)) more)
    (sum_by (λ file. length file.bytes) front) (sum_by (λ file. length file.bytes) more) (rw (any, all) at e)

-- the first with which they are over is behind those that keep the limits
past_front : (before front rest : List SourceFile) → are_over (before ++ front) ≡ false
    → first_with (λ f. are_over (before ++ f)) (front ++ rest) ≡ first_with (λ f. are_over ((before ++ front) ++ f)) rest
past_front before [] rest e = let same : before ≡ before ++ [] = grind (arith, common_steps) in
    ap (λ (b : List SourceFile). first_with (λ f. are_over (b ++ f)) rest) same
past_front before (x ∷ front) rest e =
    let joined : (before ++ x ∷ []) ++ front ≡ before ++ x ∷ front = append_assoc before (x ∷ []) front in
    let again : are_over ((before ++ x ∷ []) ++ front) ≡ false = ap are_over joined ∙ e in
    first_with_miss before x (front ++ rest) (kept_front (before ++ x ∷ []) front again) ∙ past_front (before ++ x ∷ []) front rest again
    ∙ ap (λ (b : List SourceFile). first_with (λ f. are_over (b ++ f)) rest) joined

pub too_large_at : (front : List SourceFile) (x : SourceFile) (rest : List SourceFile) → are_over front ≡ false → are_over (front ++ x ∷ []) ≡ true
    → too_large (front ++ x ∷ rest) ≡ Some (TooLarge x.name)
unfolding too_large
too_large_at front x rest e h = ap (option_map (λ (file : SourceFile). TooLarge file.name))
    (past_front [] front (x ∷ rest) e ∙ first_with_hit front x rest h)

-- a file is read whole, or has more bytes than it may have
over_cut : (total w b : ℕ) → b ≡ min 1048577 w → (nat_lt 1048576 w || nat_lt 8388608 (total + w)) ≡ (nat_lt 1048576 b || nat_lt 8388608 (total + b))
over_cut total w b e = grind arith

pub cut_length : (w bytes : List ℕ) → take 1048577 w ≡ bytes → length bytes ≡ min 1048577 (length w)
cut_length w bytes e = ap length (sym e) ∙ length-take 1048577 w

pub cut_whole : (w bytes : List ℕ) → take 1048577 w ≡ bytes → length bytes ≤ 1048576 → w ≡ bytes
cut_whole w bytes e h = sym (take_all 1048577 w (omega (arith, cut_length w bytes e))) ∙ e

pub file_read : (held : Option (List ℕ)) (bytes : List ℕ) → IsFront 1048577 held bytes → (w : List ℕ) × (held ≡ Some w) × (take 1048577 w ≡ bytes)
file_read None bytes e = cc
file_read (Some w) bytes e = (w, refl, cc)

module _ {X : Type 0} (f : X → List ℕ) where
  names_more : (xs : List X) (i : ℕ) (x : X) → i < length xs → x ≡ get_or xs i x → map f (take (i + 1) xs) ≡ map f (take i xs) ++ f x ∷ []
  names_more xs i x l e = grind (arith, common_steps)

  names_split : (xs : List X) (i : ℕ) (x : X) → i < length xs → x ≡ get_or xs i x → map f xs ≡ map f (take i xs) ++ f x ∷ map f (drop (i + 1) xs)
  names_split xs i x l e =
      let here : drop i xs ≡ x ∷ drop (i + 1) xs = grind (arith, common_steps) in
      ap (map f) (sym (take-append-drop i xs) ∙ ap (λ d. take i xs ++ d) here) ∙ map-append f (take i xs) (x ∷ drop (i + 1) xs)

more_files : (held : FileMap) (ns : List (List ℕ)) (n : List ℕ) (ms : List (List ℕ)) (file : SourceFile) → file_in held n ≡ Some file
    → files_in held (ns ++ n ∷ ms) ≡ files_in held ns ++ file ∷ files_in held ms
more_files held ns n ms file e = filter_map-append (file_in held) ns (n ∷ ms)
    ∙ ap (λ (o : Option SourceFile). files_in held ns ++ cons_option o (files_in held ms)) e

short_enough : (total n : ℕ) → (nat_lt 1048576 n || nat_lt 8388608 (total + n)) ≡ false → n ≤ 1048576
short_enough total n e = grind arith

module _ {X : Type 0} (f : X → List ℕ) (held : FileMap) (xs : List X) (i : ℕ) (x : X) (l : i < length xs) (e : x ≡ get_or xs i x)
    (front : List SourceFile) (read : front ≡ files_in held (map f (take i xs))) (bytes : List ℕ) (got : IsFront 1048577 (get held (f x)) bytes) where
  -- the first file with which they are too large
  pub read_over : (total : ℕ) → total ≡ sum_by (λ file. length file.bytes) front → are_over front ≡ false
      → (nat_lt 1048576 (length bytes) || nat_lt 8388608 (total + length bytes)) ≡ true → too_large (files_in held (map f xs)) ≡ Some (TooLarge (f x))
  read_over total t passed over =
      let w = file_read (get held (f x)) bytes got in
      let whole : SourceFile = record { name = f x; bytes = w.0 } in
      let rest : List SourceFile = files_in held (map f (drop (i + 1) xs)) in
      let found : file_in held (f x) ≡ Some whole = ap (option_map (λ (b : List ℕ). record { name = f x; bytes = b })) w.1 in
      let split : files_in held (map f xs) ≡ front ++ whole ∷ rest = ap (files_in held) (names_split f xs i x l e)
      ∙ more_files held (map f (take i xs)) (f x) _ whole found ∙ ap (λ (fs : List SourceFile). fs ++ whole ∷ rest) (sym read) in
      let len : length bytes ≡ min 1048577 (length w.0) = cut_length w.0 bytes w.2 in
      rw split (too_large_at front whole rest passed
      (are_over_with front whole passed ∙ ap (λ (n : ℕ). nat_lt 1048576 (length w.0) || nat_lt 8388608 (n + length w.0)) (sym t)
      ∙ over_cut total (length w.0) (length bytes) len ∙ over))

  -- a file that is not the first is whole
  pub read_more : (total : ℕ) → (nat_lt 1048576 (length bytes) || nat_lt 8388608 (total + length bytes)) ≡ false
      → front ++ record { name = f x; bytes = bytes } ∷ [] ≡ files_in held (map f (take (i + 1) xs))
  read_more total over =
      let w = file_read (get held (f x)) bytes got in
      let whole : w.0 ≡ bytes = cut_whole w.0 bytes w.2 (short_enough total (length bytes) over) in
      let file : SourceFile = record { name = f x; bytes = bytes } in
      let found : file_in held (f x) ≡ Some file = ap (option_map (λ (b : List ℕ). record { name = f x; bytes = b }))
      (w.1 ∙ ap (λ (b : List ℕ). Some b) whole) in
      ap (λ (fs : List SourceFile). fs ++ file ∷ []) read ∙ sym (more_files held (map f (take i xs)) (f x) [] file found)
      ∙ ap (files_in held) (sym (names_more f xs i x l e))

-- one more file that keeps the limits
pub passed_more : (front : List SourceFile) (file : SourceFile) (total : ℕ) → total ≡ sum_by (λ file. length file.bytes) front
    → are_over front ≡ false
    → (nat_lt 1048576 (length file.bytes) || nat_lt 8388608 (total + length file.bytes)) ≡ false → are_over (front ++ file ∷ []) ≡ false
passed_more front file total t passed over = are_over_with front file passed
    ∙ ap (λ (n : ℕ). nat_lt 1048576 (length file.bytes) || nat_lt 8388608 (n + length file.bytes)) (sym t) ∙ over

pub total_more : (front : List SourceFile) (file : SourceFile) (total : ℕ) → total ≡ sum_by (λ file. length file.bytes) front
    → total + length file.bytes ≡ sum_by (λ file. length file.bytes) (front ++ file ∷ [])
total_more front file total t = grind (arith, common_steps)

pub within_more : (total n : ℕ) → (nat_lt 1048576 n || nat_lt 8388608 (total + n)) ≡ false → total + n ≤ 8388608
within_more total n over = grind arith

pub named_more : {X : Type 0} (f : X → List ℕ) (xs : List X) (i : ℕ) (x : X) → i < length xs → x ≡ get_or xs i x
    → (front : List SourceFile) (bytes : List ℕ) → names_of front ≡ map f (take i xs)
    → names_of (front ++ record { name = f x; bytes = bytes } ∷ []) ≡ map f (take (i + 1) xs)
named_more f xs i x l e front bytes h =
    map-append (λ (file : SourceFile). file.name) front (record { name = f x; bytes = bytes } ∷ []) ∙ ap (λ (ns : List (List ℕ)). ns ++ f x ∷ []) h
    ∙ sym (names_more f xs i x l e)
