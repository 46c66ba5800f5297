-- What was seen of a folder agrees with it: the same names, and the first bytes of each file.
use Rattle.std.proofs.Common.{◌≡◌, ◌⊎◌, inl, inr, ◌≤◌, ◌<◌, ℕ, zero, suc, Bool, true, false, cond, List, [], ◌∷◌, Option, Some, None}
use Rattle.std.proofs.Common.{IfSome, IsNone, IsSome, OnErr, OnOk, Result, Ok, Err, is_some, option_map, take, length, refl, sym, ap, subst, ◌∙◌}
use Rattle.std.proofs.Common.{arith}
use Rattle.std.specs.FinMap.{empty, get, get-empty, insert}
use Rattle.std.specs.Ordering.{nat_cmp}
use Rattle.std.specs.Cmp.Lexicographic.{slice_cmp}
use Rattle.std.specs.Str.{bytes_eq}
use Rattle.std.specs.Cmp.Lexicographic.{nat_list_eq_equiv}
use Rattle.std.proofs.lemmas.List.{take_all, length-take}
use Rattle.std.proofs.lemmas.Slice.Eq.{bytes_eq-Decides}
use Rattle.tree_io.specs.Outside.{FileMap, IsFront, Spoils}
use Rattle.tree_io.specs.declared.outside.TreeError.{TreeError}
use Rattle.project_load.proofs.Causes.{told, telling}
use Rattle.project_load.proofs.Keys.{get_written}
use Rattle.known.specs.Held.{Reaches}
use Rattle.known.specs.Seen.{FrontsOf, IsRead, NamesOf, SameFront, SeesFile, SetsFile, seen_files, seen_held}
use Rattle.known.specs.Kept.{HasRead, KnowsFronts, kept_files}
use Rattle.known.specs.declared.held.Held.{Held}
use Rattle.known.specs.declared.seen.Seen.{Seen}
use Rattle.known.specs.declared.kept.Kept.{Kept}
use Rattle.known.proofs.Files.{bytes_of, over_set, same_files, seen_get}
use Rattle.known.proofs.Keeping.{seen_same, seen_set}

take_within : (n m : ℕ) (bytes : List ℕ) → n ≤ m → take n (take m bytes) ≡ take n bytes
take_within zero m bytes h = refl
take_within (suc n) zero bytes h = absurd (omega (arith, h))
take_within (suc n) (suc m) [] h = refl
take_within (suc n) (suc m) (b ∷ bytes) h = ap (λ (rest : List ℕ). b ∷ rest) (take_within n m bytes (omega (arith, h)))

-- a front that has fewer bytes than were asked for is the whole file
is_whole : (m : ℕ) (whole bytes : List ℕ) → take m whole ≡ bytes → length bytes < m → whole ≡ bytes
is_whole m whole bytes e less =
    let count : length (take m whole) ≡ length bytes = ap (λ (w : List ℕ). length w) e in
    sym (take_all m whole (omega (arith, count, length-take m whole, less))) ∙ e

-- bytes that were read with a limit are the first ones for each limit that they reach
reached : (n m : ℕ) (whole bytes : List ℕ) → take m whole ≡ bytes → (n ≤ m) ⊎ (length bytes < m) → take n whole ≡ take n bytes
reached n m whole bytes e (inl less) = sym (take_within n m whole less) ∙ ap (λ (w : List ℕ). take n w) e
reached n m whole bytes e (inr short) = ap (λ (w : List ℕ). take n w) (is_whole m whole bytes e short)

some_bytes : {a b : List ℕ} → Some a ≡ Some b → a ≡ b
some_bytes e = cc

front_reached : (n : ℕ) (file : Held) (found : Option (List ℕ)) → IsFront file.limit found file.bytes.items → Reaches n (Some file)
    → SameFront n found (Some file.bytes.items)
front_reached n file None front reach = let bad : None ≡ Some file.bytes.items = front in cc
front_reached n file (Some whole) front reach =
    ap (λ (w : List ℕ). Some w) (reached n file.limit whole file.bytes.items (some_bytes front) reach)

front_there : (m : ℕ) (found : Option (List ℕ)) (bytes : List ℕ) → IsFront m found bytes → is_some found ≡ true
front_there m None bytes front = let bad : None ≡ Some bytes = front in cc
front_there m (Some whole) bytes front = refl

-- the map after one file was set
pub set_files : (name : List ℕ) (file : Held) (before now : Seen) → SetsFile name file before now
    → seen_files now ≡ insert (seen_files before) name file.bytes.items
set_files name file before now set = over_set empty before.files.entries now.files.entries name file set

-- what is read of a file after one was set
pub read_set : (name : List ℕ) (file : Held) (before now : Seen) → SetsFile name file before now → (q : List ℕ) (n : ℕ) → IsRead now q n
    → ((q ≡ name) × Reaches n (Some file)) ⊎ ((bytes_eq q name ≡ false) × IsRead before q n)
read_set name file before now set q n read = by (bytes_eq name q) refl (subst (λ (o : Option Held). Reaches n o) (set q) read) where
  by : (t : Bool) → bytes_eq name q ≡ t → Reaches n (cond t (Some file) (seen_held before q))
      → ((q ≡ name) × Reaches n (Some file)) ⊎ ((bytes_eq q name ≡ false) × IsRead before q n)
  by true t r = inl (sym ((bytes_eq-Decides name q).0 t), r)
  by false t r = inr (nat_list_eq_equiv.symm q name ∙ t, r)

pub others_stay : (before now : Seen) (name : List ℕ) (file : Held) → SetsFile name file before now → (q : List ℕ) → (q ≡ name → ⊥)
    → seen_held now q ≡ seen_held before q
others_stay before now name file set q apart = set q ∙ by (bytes_eq name q) refl where
  by : (t : Bool) → bytes_eq name q ≡ t → cond t (Some file) (seen_held before q) ≡ seen_held before q
  by true t = absurd (apart (sym ((bytes_eq-Decides name q).0 t)))
  by false t = refl

-- a file that has more room is read as it was
pub read_kept : (before now : Seen) (name : List ℕ) (file old : Held) → SetsFile name file before now → seen_held before name ≡ Some old
    → file.bytes.items ≡ old.bytes.items → file.limit ≡ old.limit → (q : List ℕ) (n : ℕ) → IsRead now q n → IsRead before q n
read_kept before now name file old set was bytes limit q n read = by (read_set name file before now set q n read) where
  as_old : Reaches n (Some file) → Reaches n (Some old)
  as_old (inl less) = inl (omega (arith, less, limit))
  as_old (inr short) = inr (omega (arith, short, limit, ap (λ (w : List ℕ). length w) bytes))

  by : ((q ≡ name) × Reaches n (Some file)) ⊎ ((bytes_eq q name ≡ false) × IsRead before q n) → IsRead before q n
  by (inl it) = subst (λ (o : Option Held). Reaches n o) (sym (ap (seen_held before) it.0 ∙ was)) (as_old it.1)
  by (inr it) = it.1

pub has_back : (a b : Seen) → seen_files b ≡ seen_files a → ((q : List ℕ) (n : ℕ) → IsRead b q n → IsRead a q n) → (q : List ℕ) (n : ℕ)
    → (IsSome (get (seen_files b) q) → IsRead b q n) → IsSome (get (seen_files a) q) → IsRead a q n
has_back a b files read q n has some = read q n (has (ap (λ (f : FileMap). is_some (get f q)) files ∙ some))

pub has_apart : (a b : Seen) (name bytes : List ℕ) → seen_files b ≡ insert (seen_files a) name bytes
    → ((q : List ℕ) → (q ≡ name → ⊥) → seen_held b q ≡ seen_held a q) → (q : List ℕ) (n : ℕ) → (q ≡ name → ⊥)
    → (IsSome (get (seen_files b) q) → IsRead b q n) → IsSome (get (seen_files a) q) → IsRead a q n
has_apart a b name bytes files others q n apart has some =
    subst (λ (o : Option Held). Reaches n o) (others q apart)
    (has (ap (λ (f : FileMap). is_some (get f q)) files ∙ ap is_some (get_written (seen_files a) name bytes q) ∙ by (bytes_eq q name)))
  where
    by : (t : Bool) → is_some (cond t (Some bytes) (get (seen_files a) q)) ≡ true
    by true = refl
    by false = some

module _ (before now : Seen) (same : (q : List ℕ) → seen_held now q ≡ seen_held before q) where
  same_get : (q : List ℕ) → get (seen_files before) q ≡ get (seen_files now) q
  same_get q = seen_get before q ∙ ap bytes_of (sym (same q)) ∙ sym (seen_get now q)

  pub same_names : (content : Option FileMap) → NamesOf content (seen_files before) → NamesOf content (seen_files now)
  same_names content names held e q = ap is_some (sym (same_get q)) ∙ names held e q

  pub same_fronts : (content : Option FileMap) → FrontsOf content before → FrontsOf content now
  same_fronts content fronts held e q n read =
      fronts held e q n (subst (λ (o : Option Held). Reaches n o) (same q) read) ∙ ap (option_map (take n)) (same_get q)

-- ---- a file of the folder was read

pub named_read : (content : Option FileMap) (files : FileMap) (m : ℕ) (name bytes : List ℕ) → IfSome content (λ held. IsFront m (get held name) bytes)
    → NamesOf content files → NamesOf content (insert files name bytes)
named_read content files m name bytes front names held e q = ap is_some (get_written files name bytes q) ∙ by (bytes_eq q name) refl where
  by : (t : Bool) → bytes_eq q name ≡ t → is_some (cond t (Some bytes) (get files q)) ≡ is_some (get held q)
  by true t =
      let is : q ≡ name = (bytes_eq-Decides q name).0 t in
      sym (ap (λ (w : List ℕ). is_some (get held w)) is
      ∙ front_there m (get held name) bytes (told content (λ (files : FileMap). IsFront m (get files name) bytes) held e front))
  by false t = names held e q

module _ (limit : ℕ) (name : List ℕ) (content : Option FileMap) (before now : Seen) (sees : SeesFile limit name content before now) where
  front_of : (held : FileMap) → content ≡ Some held → IsFront sees.file.limit (get held name) sees.file.bytes.items
  front_of held e =
      subst (λ (m : ℕ). IsFront m (get held name) sees.file.bytes.items) (sym sees.count)
      (told content (λ (files : FileMap). IsFront limit (get files name) sees.file.bytes.items) held e sees.front)

  pub sees_names : NamesOf content (seen_files before) → NamesOf content (seen_files now)
  sees_names names =
      subst (NamesOf content) (sym (set_files name sees.file before now sees.set))
      (named_read content (seen_files before) limit name sees.file.bytes.items sees.front names)

  -- the file itself, and the others
  at_name : (held : FileMap) → content ≡ Some held → (q : List ℕ) (n : ℕ) → q ≡ name → Reaches n (Some sees.file) → (found : Option (List ℕ))
      → found ≡ Some sees.file.bytes.items → SameFront n (get held q) found
  at_name held e q n is reach found there =
      subst (λ (w : List ℕ). SameFront n (get held w) found) (sym is)
      (subst (SameFront n (get held name)) (sym there) (front_reached n sees.file (get held name) (front_of held e) reach))

  pub sees_fronts : FrontsOf content before → FrontsOf content now
  sees_fronts fronts held e q n read = by (read_set name sees.file before now sees.set q n read) where
    found : get (seen_files now) q ≡ cond (bytes_eq q name) (Some sees.file.bytes.items) (get (seen_files before) q)
    found =
        ap (λ (files : FileMap). get files q) (set_files name sees.file before now sees.set)
        ∙ get_written (seen_files before) name sees.file.bytes.items q

    by : ((q ≡ name) × Reaches n (Some sees.file)) ⊎ ((bytes_eq q name ≡ false) × IsRead before q n)
        → SameFront n (get held q) (get (seen_files now) q)
    by (inl it) =
        at_name held e q n it.0 it.1 (get (seen_files now) q)
        (found ∙ ap (λ (t : Bool). cond t (Some sees.file.bytes.items) (get (seen_files before) q)) ((bytes_eq-Decides q name).1 it.0))
    by (inr it) =
        fronts held e q n it.1
        ∙ ap (option_map (take n)) (sym (found ∙ ap (λ (t : Bool). cond t (Some sees.file.bytes.items) (get (seen_files before) q)) it.0))

  pub learns_names : (a b : Kept) → a.seen ≡ before → b.seen ≡ now → kept_files b ≡ insert (kept_files a) name sees.file.bytes.items
      → NamesOf content (kept_files a) → NamesOf content (kept_files b)
  learns_names a b was is set names =
      subst (NamesOf content) (sym set) (named_read content (kept_files a) limit name sees.file.bytes.items sees.front names)

  pub learns_fronts : (a b : Kept) → a.seen ≡ before → b.seen ≡ now → kept_files b ≡ insert (kept_files a) name sees.file.bytes.items
      → KnowsFronts content a → KnowsFronts content b
  learns_fronts a b was is set fronts held e q n has = by (bytes_eq q name) refl where
    found : get (kept_files b) q ≡ cond (bytes_eq q name) (Some sees.file.bytes.items) (get (kept_files a) q)
    found = ap (λ (files : FileMap). get files q) set ∙ get_written (kept_files a) name sees.file.bytes.items q

    seen_found : get (seen_files now) q ≡ cond (bytes_eq q name) (Some sees.file.bytes.items) (get (seen_files before) q)
    seen_found =
        ap (λ (files : FileMap). get files q) (set_files name sees.file before now sees.set)
        ∙ get_written (seen_files before) name sees.file.bytes.items q

    has_now : IsSome (get (seen_files now) q) → IsRead now q n
    has_now some = subst (λ (s : Seen). IsRead s q n) is (has (subst (λ (s : Seen). IsSome (get (seen_files s) q)) (sym is) some))

    at : (t : Bool) → bytes_eq q name ≡ t → get (seen_files now) q ≡ cond t (Some sees.file.bytes.items) (get (seen_files before) q)
    at t u = seen_found ∙ ap (λ (b : Bool). cond b (Some sees.file.bytes.items) (get (seen_files before) q)) u

    by : (t : Bool) → bytes_eq q name ≡ t → SameFront n (get held q) (get (kept_files b) q)
    by true t = here (read_set name sees.file before now sees.set q n (has_now (ap is_some (at true t)))) where
      here : ((q ≡ name) × Reaches n (Some sees.file)) ⊎ ((bytes_eq q name ≡ false) × IsRead before q n)
          → SameFront n (get held q) (get (kept_files b) q)
      here (inl it) =
          at_name held e q n it.0 it.1 (get (kept_files b) q)
          (found ∙ ap (λ (t : Bool). cond t (Some sees.file.bytes.items) (get (kept_files a) q)) t)
      here (inr it) = let bad : true ≡ false = sym t ∙ it.0 in cc
    by false t =
        fronts held e q n (λ some. other (read_set name sees.file before now sees.set q n
        (has_now (ap is_some (at false t) ∙ ap (λ (s : Seen). is_some (get (seen_files s) q)) (sym was) ∙ some))))
        ∙ ap (option_map (take n)) (sym (found ∙ ap (λ (t : Bool). cond t (Some sees.file.bytes.items) (get (kept_files a) q)) t))
      where
        other : ((q ≡ name) × Reaches n (Some sees.file)) ⊎ ((bytes_eq q name ≡ false) × IsRead before q n) → IsRead a.seen q n
        other (inl it) = let bad : true ≡ false = sym ((bytes_eq-Decides q name).1 it.0) ∙ t in cc
        other (inr it) = subst (λ (s : Seen). IsRead s q n) (sym was) it.1

-- ---- a file was written

some_files : {a b : FileMap} → Some a ≡ Some b → a ≡ b
some_files e = cc

pub named_write : (content now : Option FileMap) (files : FileMap) (name bytes more : List ℕ)
    → now ≡ option_map (λ (held : FileMap). insert held name more) content → NamesOf content files → NamesOf now (insert files name bytes)
named_write None now files name bytes more set names held e q = let bad : Some held ≡ None = sym e ∙ set in cc
named_write (Some was) now files name bytes more set names held e q =
    ap is_some (get_written files name bytes q) ∙ by (bytes_eq q name) ∙ ap is_some (sym (get_written was name more q))
    ∙ ap (λ (files : FileMap). is_some (get files q)) (some_files (sym set ∙ e))
  where
    by : (t : Bool) → is_some (cond t (Some bytes) (get files q)) ≡ is_some (cond t (Some more) (get was q))
    by true = refl
    by false = names was refl q

pub writes_fronts : (content now : Option FileMap) (a b : Kept) (name bytes : List ℕ)
    → now ≡ option_map (λ (held : FileMap). insert held name bytes) content → kept_files b ≡ insert (kept_files a) name bytes
    → ((q : List ℕ) (n : ℕ) → (q ≡ name → ⊥) → HasRead b q n → HasRead a q n) → KnowsFronts content a → KnowsFronts now b
writes_fronts None now a b name bytes set kept others fronts held e q n has = let bad : Some held ≡ None = sym e ∙ set in cc
writes_fronts (Some was) now a b name bytes set kept others fronts held e q n has =
    ap (λ (files : FileMap). option_map (take n) (get files q)) (sym (some_files (sym set ∙ e)))
    ∙ ap (option_map (take n)) (get_written was name bytes q)
    ∙ by (bytes_eq q name) refl
    ∙ ap (option_map (take n)) (sym (ap (λ (files : FileMap). get files q) kept ∙ get_written (kept_files a) name bytes q))
  where
    by : (t : Bool) → bytes_eq q name ≡ t
        → option_map (take n) (cond t (Some bytes) (get was q)) ≡ option_map (take n) (cond t (Some bytes) (get (kept_files a) q))
    by true t = refl
    by false t = fronts was refl q n (others q n (λ is. let bad : true ≡ false = sym ((bytes_eq-Decides q name).1 is) ∙ t in cc) has)

-- ---- nothing was read or written

pub rests_fronts : (content now : Option FileMap) (a b : Kept) → now ≡ content → kept_files b ≡ kept_files a
    → ((q : List ℕ) (n : ℕ) → HasRead b q n → HasRead a q n) → KnowsFronts content a → KnowsFronts now b
rests_fronts content now a b same kept read fronts held e q n has =
    fronts held (sym same ∙ e) q n (read q n has) ∙ ap (λ (files : FileMap). option_map (take n) (get files q)) (sym kept)

pub rests_names : (content now : Option FileMap) (a b : FileMap) → now ≡ content → b ≡ a → NamesOf content a → NamesOf now b
rests_names content now a b same kept names held e q = ap (λ (files : FileMap). is_some (get files q)) kept ∙ names held (sym same ∙ e) q

pub has_seen : (a b : Kept) → b.seen ≡ a.seen → (q : List ℕ) (n : ℕ) → HasRead b q n → HasRead a q n
has_seen a b same q n has = subst (λ (s : Seen). IsSome (get (seen_files s) q) → IsRead s q n) same has

-- at the start
pub starts_fronts : (content : Option FileMap) (kept : Kept) (seen : Seen) → kept.seen ≡ seen → kept_files kept ≡ seen_files seen
    → NamesOf content (seen_files seen) → FrontsOf content seen → KnowsFronts content kept
starts_fronts content kept seen same files names fronts held e q n has =
    by (get (seen_files seen) q) refl (names held e q)
    ∙ ap (λ (files : FileMap). option_map (take n) (get files q)) (sym files)
  where
    none_there : (found : Option (List ℕ)) → false ≡ is_some found → option_map (take n) found ≡ None
    none_there None e = refl
    none_there (Some bytes) e = cc

    by : (found : Option (List ℕ)) → get (seen_files seen) q ≡ found → is_some (get (seen_files seen) q) ≡ is_some (get held q)
        → option_map (take n) (get held q) ≡ option_map (take n) (get (seen_files seen) q)
    by None u there = none_there (get held q) (sym (ap is_some u) ∙ there) ∙ ap (option_map (take n)) (sym u)
    by (Some bytes) u there =
        fronts held e q n (subst (λ (s : Seen). IsRead s q n) same
        (has (ap (λ (s : Seen). is_some (get (seen_files s) q)) same ∙ ap is_some u)))

-- of an empty map nothing is read
pub empty_read : (seen : Seen) → seen_files seen ≡ empty → (q : List ℕ) (n : ℕ) → IsRead seen q n → n ≡ 0
empty_read seen none q n read = by (seen_held seen q) refl read where
  by : (o : Option Held) → seen_held seen q ≡ o → Reaches n o → n ≡ 0
  by None e r = absurd r
  by (Some file) e r =
      let bad : Some file.bytes.items ≡ None =
      sym (seen_get seen q ∙ ap bytes_of e) ∙ ap (λ (files : FileMap). get files q) none ∙ get-empty (slice_cmp nat_cmp) q
      in
      cc

-- one more file of which nothing was read
pub unread_more : (before now : Seen) (name : List ℕ) (file : Held) → SetsFile name file before now → file.limit ≡ 0
    → ((q : List ℕ) (n : ℕ) → IsRead before q n → n ≡ 0) → (q : List ℕ) (n : ℕ) → IsRead now q n → n ≡ 0
unread_more before now name file set limit nothing q n read = by (read_set name file before now set q n read) where
  none : Reaches n (Some file) → n ≡ 0
  none (inl less) = omega (arith, less, limit)
  none (inr short) = absurd (omega (arith, short, limit))

  by : ((q ≡ name) × Reaches n (Some file)) ⊎ ((bytes_eq q name ≡ false) × IsRead before q n) → n ≡ 0
  by (inl it) = none it.1
  by (inr it) = nothing q n it.1

-- nothing was read
pub unread_fronts : (content : Option FileMap) (seen : Seen) → ((q : List ℕ) (n : ℕ) → IsRead seen q n → n ≡ 0)
    → NamesOf content (seen_files seen) → FrontsOf content seen
unread_fronts content seen nothing names held e q n read =
    ap (λ (m : ℕ). option_map (take m) (get held q)) (nothing q n read) ∙ by (get held q) (get (seen_files seen) q) (sym (names held e q))
    ∙ ap (λ (m : ℕ). option_map (take m) (get (seen_files seen) q)) (sym (nothing q n read))
  where
    by : (one other : Option (List ℕ)) → is_some one ≡ is_some other → option_map (take 0) one ≡ option_map (take 0) other
    by None None u = refl
    by None (Some x) u = cc
    by (Some x) None u = cc
    by (Some x) (Some y) u = refl

-- ---- a read that was answered or not

module _ (limit : ℕ) (name : List ℕ) (content now : Option FileMap) (rests : now ≡ content) where
  pub after_names : (result : Result (Unit {0}) TreeError) (before after : Seen) → OnOk result (SeesFile limit name content before after)
      → OnErr result ((q : List ℕ) → seen_held after q ≡ seen_held before q) → NamesOf content (seen_files before) → NamesOf now (seen_files after)
  after_names (Ok x) before after sees kept names =
      rests_names content now (seen_files after) (seen_files after) rests refl (sees_names limit name content before after sees names)
  after_names (Err error) before after sees kept names =
      rests_names content now (seen_files after) (seen_files after) rests refl (same_names before after kept content names)

  pub after_fronts : (result : Result (Unit {0}) TreeError) (before after : Seen) → OnOk result (SeesFile limit name content before after)
      → OnErr result ((q : List ℕ) → seen_held after q ≡ seen_held before q) → FrontsOf content before → FrontsOf now after
  after_fronts (Ok x) before after sees kept fronts held e = sees_fronts limit name content before after sees fronts held (sym rests ∙ e)
  after_fronts (Err error) before after sees kept fronts held e = same_fronts before after kept content fronts held (sym rests ∙ e)

  -- over a folder with files that were made
  module _ (a b : Kept) (made : b.made ≡ a.made) where
    set_kept : (sees : SeesFile limit name content a.seen b.seen) → kept_files b ≡ insert (kept_files a) name sees.file.bytes.items
    set_kept sees = seen_set a b name sees.file.bytes.items (set_files name sees.file a.seen b.seen sees.set) made

    same_kept : ((q : List ℕ) → seen_held b.seen q ≡ seen_held a.seen q) → kept_files b ≡ kept_files a
    same_kept kept = seen_same a b (same_files (seen_files b.seen) (seen_files a.seen) (λ q. sym (same_get a.seen b.seen kept q))) made

    pub after_learning_names : (result : Result (Unit {0}) TreeError) → OnOk result (SeesFile limit name content a.seen b.seen)
        → OnErr result ((q : List ℕ) → seen_held b.seen q ≡ seen_held a.seen q) → NamesOf content (kept_files a) → NamesOf now (kept_files b)
    after_learning_names (Ok x) sees kept names =
        rests_names content now (kept_files b) (kept_files b) rests refl
        (learns_names limit name content a.seen b.seen sees a b refl refl (set_kept sees) names)
    after_learning_names (Err error) sees kept names = rests_names content now (kept_files a) (kept_files b) rests (same_kept kept) names

    pub after_learning_fronts : (result : Result (Unit {0}) TreeError) → OnOk result (SeesFile limit name content a.seen b.seen)
        → OnErr result ((q : List ℕ) → seen_held b.seen q ≡ seen_held a.seen q) → KnowsFronts content a → KnowsFronts now b
    after_learning_fronts (Ok x) sees kept fronts held e =
        learns_fronts limit name content a.seen b.seen sees a b refl refl (set_kept sees) fronts held (sym rests ∙ e)
    after_learning_fronts (Err error) sees kept fronts held e =
        rests_fronts content now a b rests (same_kept kept)
        (has_back a.seen b.seen (same_files (seen_files b.seen) (seen_files a.seen) (λ q. sym (same_get a.seen b.seen kept q)))
        (λ q n read. subst (λ (o : Option Held). Reaches n o) (kept q) read))
        fronts held e

-- ---- a write that is refused

-- a folder without room has the name, so it holds what a write of its own bytes would leave
pub left_as_is : (content : Option FileMap) (name : List ℕ) → ((files : FileMap) → content ≡ Some files → IsNone (get files name) → 1 ≤ 0)
    → Spoils name content content
left_as_is None name placed = ([], refl)
left_as_is (Some files) name placed = by (get files name) refl where
  by : (found : Option (List ℕ)) → get files name ≡ found → Spoils name (Some files) (Some files)
  by None e = absurd (omega (arith, placed files refl (subst (λ (o : Option (List ℕ)). IsNone o) (sym e) refl)))
  by (Some bytes) e =
      let is : (q : List ℕ) (t : Bool) → bytes_eq q name ≡ t → get files q ≡ cond t (Some bytes) (get files q) = at in (
        bytes,
        ap (λ (f : FileMap). Some f)
            (same_files files (insert files name bytes) (λ q. is q (bytes_eq q name) refl ∙ sym (get_written files name bytes q))),
      )
    where
      at : (q : List ℕ) (t : Bool) → bytes_eq q name ≡ t → get files q ≡ cond t (Some bytes) (get files q)
      at q true t = ap (get files) ((bytes_eq-Decides q name).0 t) ∙ e
      at q false t = refl

-- ---- what is answered

pub front_held : (content : Option FileMap) (seen : Seen) (q : List ℕ) (n : ℕ) (bytes : List ℕ) → FrontsOf content seen → IsRead seen q n
    → IsFront n (get (seen_files seen) q) bytes → IfSome content (λ held. IsFront n (get held q) bytes)
front_held content seen q n bytes fronts read front =
    telling content (λ held. IsFront n (get held q) bytes) (λ held e. fronts held e q n read ∙ front)
