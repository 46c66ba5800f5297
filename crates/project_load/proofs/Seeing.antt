-- The folder that a naming of sources shows.
use Rattle.std.proofs.Common.{◌≡◌, ◌∙◌, ℕ, List, Bor, Option, Some, None, IfSome, IsSome, is_some, unwrap_or, refl, sym, ap, subst}
use Rattle.std.specs.Option.{ForSome, option_and_then, option_copied}
use Rattle.std.specs.FinMap.{get}
use Rattle.tree_io.specs.Outside.{FileMap, IsFront}
use Rattle.project_load.specs.Entries.{given_by, table_of}
use Rattle.project_load.specs.Naming.{seen, seen_by}
use Rattle.project_load.specs.declared.entries.Entries.{Entries}
use Rattle.project_load.specs.declared.naming.Naming.{Naming}
use Rattle.project_load.specs.declared.naming.Naming.TheVariants.{Own, Listed}
use Rattle.project_load.proofs.Tables.{given_get}

-- what is known of the folder is known of what a naming shows, and the other way round
pub own_seen : (before now : Option FileMap) (P : FileMap → Type 0) → now ≡ before → IfSome before P → ForSome (seen Own now) P
own_seen before now P e h held f = by before h (sym e ∙ same now f) where
  same : (content : Option FileMap) → seen Own content ≡ Some held → content ≡ Some held
  same None f = cc
  same (Some x) f = f

  by : (content : Option FileMap) → IfSome content P → content ≡ Some held → P held
  by None h f = cc
  by (Some x) h f = let is : x ≡ held = cc in subst P is h

pub as_seen : (before now : Option FileMap) (P : FileMap → Type 0) → now ≡ before → IfSome (seen Own now) P → IfSome before P
as_seen before now P e h = subst (λ (content : Option FileMap). IfSome content P) e (by now h) where
  by : (content : Option FileMap) → IfSome (seen Own content) P → IfSome content P
  by None h = tt
  by (Some x) h = h

-- a source with an entry is read from its file, and the folder shows no other
through : (held table : FileMap) (source file : List ℕ) → get table source ≡ Some file → get held file ≡ get (given_by held table) source
through held table source file e = sym (given_get held table source ∙ ap (option_and_then (get held)) e)

not_shown : (held table : FileMap) (source file : List ℕ) → get table source ≡ None → IsSome (get (given_by held table) source)
    → get held file ≡ get (given_by held table) source
not_shown held table source file e h =
    let none : get (given_by held table) source ≡ None = given_get held table source ∙ ap (option_and_then (get held)) e in
    let bad = sym h ∙ ap is_some none in
    cc

-- the file of a source in a list
pub listed_file : (naming : Naming) (list : Bor Entries) (source result : Bor (List ℕ)) (found : Option (Bor (List ℕ))) → naming ≡ Listed list
    → option_copied found ≡ get (table_of list.now) source.now → result ≡ unwrap_or found source
    → (held : FileMap) → IsSome (get (seen_by naming held) source.now) → get held result.now ≡ get (seen_by naming held) source.now
listed_file naming list source result found n e r held =
    subst (λ (x : Naming). IsSome (get (seen_by x held) source.now) → get held result.now ≡ get (seen_by x held) source.now) (sym n) (by found e r)
  where
    by : (found : Option (Bor (List ℕ))) → option_copied found ≡ get (table_of list.now) source.now → result ≡ unwrap_or found source
        → IsSome (get (given_by held (table_of list.now)) source.now) → get held result.now ≡ get (given_by held (table_of list.now)) source.now
    by None e r h = not_shown held (table_of list.now) source.now result.now (sym e) h
    by (Some file) e r h = ap (λ (x : Bor (List ℕ)). get held x.now) r ∙ through held (table_of list.now) source.now file.now (sym e)

-- the file of a source is in the folder, and its first bytes are those of the source
module _ (naming : Naming) (content : Option FileMap) (source file : List ℕ)
    (there : ForSome (seen naming content) (λ held. IsSome (get held source)))
    (same : (held : FileMap) → IsSome (get (seen_by naming held) source) → get held file ≡ get (seen_by naming held) source) where
  some_seen : (held : FileMap) → content ≡ Some held → IsSome (get (seen_by naming held) source)
  some_seen held e = there (seen_by naming held) (ap (seen naming) e)

  pub file_there : (held : FileMap) → content ≡ Some held → IsSome (get held file)
  file_there held e = ap is_some (same held (some_seen held e)) ∙ some_seen held e

  pub front_seen : (bytes : List ℕ) → IfSome content (λ held. IsFront 1048577 (get held file) bytes)
      → IfSome (seen naming content) (λ held. IsFront 1048577 (get held source) bytes)
  front_seen bytes h = by content (λ held e. same held (some_seen held e)) h where
    by : (told : Option FileMap) → ((held : FileMap) → told ≡ Some held → get held file ≡ get (seen_by naming held) source)
        → IfSome told (λ held. IsFront 1048577 (get held file) bytes)
        → IfSome (seen naming told) (λ held. IsFront 1048577 (get held source) bytes)
    by None s h = tt
    by (Some held) s h = subst (λ (o : Option (List ℕ)). IsFront 1048577 o bytes) (s held refl) h

-- what holds of a folder holds of the one that a naming shows
pub for_seen : (naming : Naming) (content : Option FileMap) (P : FileMap → Type 0)
    → ((held : FileMap) → content ≡ Some held → P (seen_by naming held)) → ForSome (seen naming content) P
for_seen naming None P h x e = cc
for_seen naming (Some held) P h x e = let is : seen_by naming held ≡ x = cc in subst P is (h held refl)
