-- What was seen of a folder, with what was written since then, name by name.
use Rattle.std.proofs.Common.{◌≡◌, ◌≤◌, ℕ, Bool, true, false, cond, List, [], ◌∷◌, ◌++◌, Option, Some, None, IsErr, OnOk, Result, Ok, Err, IfSome}
use Rattle.std.proofs.Common.{is_some}
use Rattle.std.proofs.Common.{String, map, string_bytes, IsPermutation, refl, sym, ap, subst, ◌∙◌, arith}
use Rattle.std.specs.Option.{option_or}
use Rattle.std.specs.Cmp.Lexicographic.{nat_list_eq_equiv}
use Rattle.std.specs.List.{list_any}
use Rattle.std.specs.FinMap.{entries, entries_sorted, get, insert, keys}
use Rattle.std.specs.Str.{bytes_eq}
use Rattle.std.specs.declared.alloc.Global.{Global}
use Rattle.std.proofs.Common.{Bor, IfOk, IsNone, ◌==◌}
use Rattle.std.specs.Global.{Vec}
use Rattle.std.specs.Vec.{vec_len}
use Rattle.rotor_base.specs.declared.fault.Memory.{Memory}
use Rattle.std.proofs.lemmas.List.Sorted.{list_any-IsPermutation, IsPermutation-refl}
use Rattle.std.proofs.lemmas.Bool.{eqb-true}
use Rattle.std.proofs.lemmas.List.{nil_from_length}
use Rattle.std.proofs.lemmas.Slice.Eq.{bytes_eq-Decides}
use Rattle.tree_io.specs.declared.sound_tree.SoundTree.{SoundTree}
use Rattle.rotor_base.specs.declared.fault.Failed.{Failed}
use Rattle.tree_io.specs.Outside.{FileMap, IsFront, KeepsRoom}
use Rattle.tree_io.specs.declared.outside.TreeError.{TreeError}
use Rattle.tree_io.specs.SoundTree.{sound_files}
use Rattle.tree_io.specs.Store.{store_room}
use Rattle.project_load.proofs.Keys.{get_written}
use Rattle.project_load.proofs.Causes.{told, telling}
use Rattle.project_load.proofs.ListLoads.{set_more}
use Rattle.project_load.proofs.Sorted.{held_name, keys_rise, same_words}
use Rattle.known.specs.Seen.{HasNames, NamesOf, SeesFile, SetsFile, seen_files, seen_room}
use Rattle.known.specs.declared.held.Held.{Held}
use Rattle.known.specs.declared.seen.Seen.{Seen}
use Rattle.known.specs.Known.{files_of}
use Rattle.known.specs.Kept.{kept_files, kept_room}
use Rattle.known.specs.declared.kept.Kept.{Kept}
use Rattle.known.proofs.Files.{over_get, same_files, seen_get}

-- a file that was seen, and if there is none, one that was made
pub kept_get : (kept : Kept) (q : List ℕ) → get (kept_files kept) q ≡ option_or (get (seen_files kept.seen) q) (get (sound_files kept.made) q)
kept_get kept q =
    over_get (sound_files kept.made) kept.seen.files.entries q
    ∙ ap (λ (found : Option (List ℕ)). option_or found (get (sound_files kept.made) q)) (sym (seen_get kept.seen q))

first : (one other : Option (List ℕ)) → is_some one ≡ true → option_or one other ≡ one
first None other e = cc
first (Some bytes) other e = refl

second : (one other : Option (List ℕ)) → is_some one ≡ false → option_or one other ≡ other
second None other e = refl
second (Some bytes) other e = cc

or_none : (found : Option (List ℕ)) → option_or found None ≡ found
or_none None = refl
or_none (Some bytes) = refl

none_of : (found : Option (List ℕ)) → is_some found ≡ false → found ≡ None
none_of None e = refl
none_of (Some bytes) e = cc

pub was_seen : (kept : Kept) (name : List ℕ) → is_some (get (seen_files kept.seen) name) ≡ true
    → get (kept_files kept) name ≡ get (seen_files kept.seen) name
was_seen kept name e = kept_get kept name ∙ first (get (seen_files kept.seen) name) (get (sound_files kept.made) name) e

pub was_made : (kept : Kept) (name : List ℕ) → is_some (get (seen_files kept.seen) name) ≡ false
    → get (kept_files kept) name ≡ get (sound_files kept.made) name
was_made kept name e = kept_get kept name ∙ second (get (seen_files kept.seen) name) (get (sound_files kept.made) name) e

-- ---- no file was made

pub none_made : (kept : Kept) (names : List (String Global)) → IsPermutation (keys (sound_files kept.made)) (map string_bytes names) → names ≡ []
    → kept_files kept ≡ seen_files kept.seen
none_made kept names moved e =
    same_files (kept_files kept) (seen_files kept.seen)
    (λ q. kept_get kept q ∙ ap (option_or (get (seen_files kept.seen) q)) (lacks q) ∙ or_none (get (seen_files kept.seen) q))
  where
    lacks : (q : List ℕ) → get (sound_files kept.made) q ≡ None
    lacks q =
        none_of (get (sound_files kept.made) q)
        (sym (held_name (sound_files kept.made) q) ∙ list_any-IsPermutation (bytes_eq q) (keys (sound_files kept.made)) (map string_bytes names) moved
        ∙ ap (λ (ns : List (String Global)). list_any (bytes_eq q) (map string_bytes ns)) e)

-- ---- one side changes

pub seen_same : (a b : Kept) → seen_files b.seen ≡ seen_files a.seen → b.made ≡ a.made → kept_files b ≡ kept_files a
seen_same a b seen made =
    same_files (kept_files b) (kept_files a)
    (λ q. kept_get b q
    ∙ (λ i. option_or (get (seen i) q) (get (sound_files (made i)) q))
    ∙ sym (kept_get a q))

pub seen_set : (a b : Kept) (name bytes : List ℕ) → seen_files b.seen ≡ insert (seen_files a.seen) name bytes → b.made ≡ a.made
    → kept_files b ≡ insert (kept_files a) name bytes
seen_set a b name bytes seen made =
    same_files (kept_files b) (insert (kept_files a) name bytes)
    (λ q. kept_get b q
    ∙ (λ i. option_or (get (seen i) q) (get (sound_files (made i)) q))
    ∙ ap (λ (found : Option (List ℕ)). option_or found (get (sound_files a.made) q)) (get_written (seen_files a.seen) name bytes q)
    ∙ by q (bytes_eq q name) ∙ sym (get_written (kept_files a) name bytes q))
  where
    by : (q : List ℕ) (t : Bool) → option_or (cond t (Some bytes) (get (seen_files a.seen) q)) (get (sound_files a.made) q)
        ≡ cond t (Some bytes) (get (kept_files a) q)
    by q true = refl
    by q false = sym (kept_get a q)

pub made_set : (a b : Kept) (name bytes : List ℕ) → b.seen ≡ a.seen → sound_files b.made ≡ insert (sound_files a.made) name bytes
    → is_some (get (seen_files a.seen) name) ≡ false → kept_files b ≡ insert (kept_files a) name bytes
made_set a b name bytes seen made lacks =
    same_files (kept_files b) (insert (kept_files a) name bytes)
    (λ q. kept_get b q
    ∙ (λ i. option_or (get (seen_files (seen i)) q) (get (made i) q))
    ∙ ap (option_or (get (seen_files a.seen) q)) (get_written (sound_files a.made) name bytes q)
    ∙ by q (bytes_eq q name) refl ∙ sym (get_written (kept_files a) name bytes q))
  where
    by : (q : List ℕ) (t : Bool) → bytes_eq q name ≡ t → option_or (get (seen_files a.seen) q) (cond t (Some bytes) (get (sound_files a.made) q))
        ≡ cond t (Some bytes) (get (kept_files a) q)
    by q true t =
        let is : q ≡ name = (bytes_eq-Decides q name).0 t in
        ap (λ (found : Option (List ℕ)). option_or found (Some bytes))
        (ap (get (seen_files a.seen)) is ∙ none_of (get (seen_files a.seen) name) lacks)
    by q false t = sym (kept_get a q)

-- a file that was seen is still there after it was written
still : (files : FileMap) (name bytes : List ℕ) → is_some (get files name) ≡ true → (q : List ℕ)
    → is_some (get (insert files name bytes) q) ≡ is_some (get files q)
still files name bytes there q = ap is_some (get_written files name bytes q) ∙ by (bytes_eq q name) refl where
  by : (t : Bool) → bytes_eq q name ≡ t → is_some (cond t (Some bytes) (get files q)) ≡ is_some (get files q)
  by true t = let is : q ≡ name = (bytes_eq-Decides q name).0 t in sym (ap (λ (w : List ℕ). is_some (get files w)) is ∙ there)
  by false t = refl

pub seen_room_set : (a b : Kept) (name bytes : List ℕ) → is_some (get (seen_files a.seen) name) ≡ true
    → seen_files b.seen ≡ insert (seen_files a.seen) name bytes → KeepsRoom (seen_room a.seen) (seen_room b.seen) → b.made ≡ a.made
    → KeepsRoom (kept_room a) (kept_room b)
seen_room_set a b name bytes there set more made q =
    let names : is_some (get (seen_files b.seen) q) ≡ is_some (get (seen_files a.seen) q) =
    ap (λ (files : FileMap). is_some (get files q)) set ∙ still (seen_files a.seen) name bytes there q in
    subst (λ (t : Bool). kept_room a q ≤ cond t (seen_room b.seen q) (store_room b.made.store q)) (sym names)
    (by (is_some (get (seen_files a.seen) q)))
  where
    by : (t : Bool) → cond t (seen_room a.seen q) (store_room a.made.store q) ≤ cond t (seen_room b.seen q) (store_room b.made.store q)
    by true = more q
    by false = subst (λ (m : SoundTree). store_room a.made.store q ≤ store_room m.store q) (sym made) (omega arith)

-- ---- a call that cannot fail

pub succeeds : {P : Type 0} (result : Result (Unit {0}) Failed) → OnOk result P → (IsErr result → ⊥) → P
succeeds (Ok x) h sure = h
succeeds (Err error) h sure = absurd (sure refl)

-- ---- what is read

pub as_kept : (one other : Option (List ℕ)) (found : Option (Bor (List ℕ))) (P : Option (List ℕ) → List ℕ → Type 0) → one ≡ other
    → IfSome found (λ bytes. P one bytes.now) → IfSome found (λ bytes. P other bytes.now)
as_kept one other found P e h = subst (λ (o : Option (List ℕ)). IfSome found (λ bytes. P o bytes.now)) e h

-- ---- the names

pub no_items : (names : Vec (String Global)) → (vec_len names == 0) ≡ true → names.items ≡ []
no_items names e = nil_from_length names.items (omega (arith, names.ok, eqb-true (vec_len names) 0 e))

pub named_as : (result : Result (Vec (String Global)) Memory) {one other : List (List ℕ)} → one ≡ other
    → IfOk result (λ names. map string_bytes names.items ≡ one) → IfOk result (λ names. IsPermutation other (map string_bytes names.items))
named_as (Ok names) {one} {other} e h =
    subst (λ (words : List (List ℕ)). IsPermutation other words) (sym (h ∙ e)) (IsPermutation-refl other)
named_as (Err error) e h = tt

pub some_is : {a b : FileMap} → Some a ≡ Some b → a ≡ b
some_is e = cc

-- a file that was not seen has the room of those that were made
pub room_made : (kept : Kept) (name : List ℕ) → is_some (get (seen_files kept.seen) name) ≡ false
    → (IsNone (get (kept_files kept) name) → 1 ≤ kept_room kept name) → IsNone (get (sound_files kept.made) name)
    → 1 ≤ store_room kept.made.store name
room_made kept name lacks placed none =
    subst (λ (t : Bool). 1 ≤ cond t (seen_room kept.seen name) (store_room kept.made.store name)) lacks
    (placed (subst (λ (found : Option (List ℕ)). IsNone found) (sym (was_made kept name lacks)) none))

-- one more name
pub named_more : (a b : FileMap) (names : List (List ℕ)) (name bytes q : List ℕ) → is_some (get a q) ≡ list_any (bytes_eq q) names
    → b ≡ insert a name bytes → is_some (get b q) ≡ list_any (bytes_eq q) (names ++ name ∷ [])
named_more a b names name bytes q so_far set =
    set_more name q names (is_some (get a q)) (is_some (get b q)) so_far
    (ap (λ (files : FileMap). is_some (get files q)) set ∙ ap is_some (get_written a name bytes q) ∙ by (bytes_eq q name)
    ∙ ap (λ (t : Bool). cond t true (is_some (get a q))) (nat_list_eq_equiv.symm q name))
  where
    by : (t : Bool) → is_some (cond t (Some bytes) (get a q)) ≡ cond t true (is_some (get a q))
    by true = refl
    by false = refl

-- the names of a listing are those of the folder
pub names_held : (content : Option FileMap) (seen : Seen) (names : List (List ℕ)) → IfSome content (λ held. IsPermutation (keys held) names)
    → ((q : List ℕ) → is_some (get (seen_files seen) q) ≡ list_any (bytes_eq q) names) → NamesOf content (seen_files seen)
names_held content seen names listed has held e q =
    has q ∙ sym (list_any-IsPermutation (bytes_eq q) (keys held) names (told content (λ held. IsPermutation (keys held) names) held e listed))
    ∙ held_name held q

-- a file was read, under a text with the bytes of its name
pub sees_file : (limit : ℕ) (name text : List ℕ) (content : Option FileMap) (before now : Seen) (file : Held) → text ≡ name → file.limit ≡ limit
    → SetsFile text file before now → IfSome content (λ held. IsFront limit (get held name) file.bytes.items) → SeesFile limit name content before now
sees_file limit name text content before now file e count set front = record {
  file = file;
  count = count;
  set = subst (λ (w : List ℕ). SetsFile w file before now) e set;
  front = front;
}

same_keys : (files held : FileMap) → HasNames held files → keys files ≡ keys held
same_keys files held same =
    same_words (keys files) (keys held) (keys_rise (entries files) (entries_sorted files)) (keys_rise (entries held) (entries_sorted held))
    (λ w. held_name files w ∙ same w ∙ sym (held_name held w))

pub keys_of : (content : Option FileMap) (files : FileMap) → NamesOf content files → keys files ≡ keys (files_of content files)
keys_of None files same = refl
keys_of (Some held) files same = same_keys files held (same held refl)

pub named_of : (result : Result (Vec (String Global)) TreeError) {one other : List (List ℕ)} → one ≡ other
    → IfOk result (λ names. IsPermutation one (map string_bytes names.items))
    → IfOk result (λ names. IsPermutation other (map string_bytes names.items))
named_of (Ok names) e h = subst (λ (words : List (List ℕ)). IsPermutation words (map string_bytes names.items)) e h
named_of (Err error) e h = tt

-- a listing names the files of the folder
pub lists_held : (content : Option FileMap) (files : FileMap) (names : List (List ℕ)) → NamesOf content files → IsPermutation (keys files) names
    → IfSome content (λ held. IsPermutation (keys held) names)
lists_held content files names same listed = telling content (λ held. IsPermutation (keys held) names) (λ held e.
    subst (λ (words : List (List ℕ)). IsPermutation words names) (same_keys files held (same held e)) listed)
