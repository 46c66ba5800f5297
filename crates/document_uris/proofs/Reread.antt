-- The URI that is written for a file names it.
use Rattle.std.proofs.Common.{◌≡◌, ◌⊎◌, inl, inr, ◌<◌, ◌+◌, ◌==◌, ℕ, Bool, false, cond, nat_lt, List, [], ◌∷◌, ◌++◌, None, Some, codes, drop, length}
use Rattle.std.proofs.Common.{take, refl, sym, ap, subst, ◌∙◌, arith}
use Rattle.std.specs.Prelude.{All, IsUtf8}
use Rattle.std.specs.Option.{option_and_then}
use Rattle.std.specs.List.{list_any}
use Rattle.std.proofs.lemmas.Bool.{lt-ltb}
use Rattle.std.proofs.lemmas.List.Elements.{All-append, All-cons, All-tail}
use Rattle.std.proofs.lemmas.Str.{IsCharBoundary-after_ascii, IsUtf8-drop}
use Rattle.percent_encoding.specs.Percent.{percent_decode}
use Rattle.percent_encoding.proofs.PercentLemmas.{IsByte}
use Rattle.document_uris.specs.Places.{IsPlace, Splits}
use Rattle.document_uris.specs.Uris.{IsFile, behind_host, behind_scheme, ends_path, is_local, written_path}
use Rattle.document_uris.specs.Written.{escaped, path_of, written_uri}
use Rattle.document_uris.proofs.Escapes.{escaped_back, escaped_whole}

-- what is behind the scheme, no host, and a slash
reads : (rest : List ℕ) → list_any ends_path rest ≡ false → written_path (codes "file://" ++ 47 ∷ rest) ≡ Some rest
unfolding behind_scheme behind_host
reads rest whole =
    ap (λ (ends : Bool). cond ends None
    (option_and_then (λ slash. cond (is_local (take slash (47 ∷ rest))) (Some (drop (slash + 1) (47 ∷ rest))) None)
    (cond (nat_lt 0 (length (47 ∷ rest))) (Some 0) None))) whole
    ∙ ap (λ (some : Bool). option_and_then (λ slash. cond (is_local (take slash (47 ∷ rest))) (Some (drop (slash + 1) (47 ∷ rest))) None)
    (cond some (Some 0) None)) (lt-ltb 0 (length (47 ∷ rest)) (omega arith))

-- a path behind its first slash, of the file with this name in this folder
record IsTail (folder name path : List ℕ) : Type 0 where
  text : IsUtf8 path
  place : IsPlace path folder name
  bytes : All IsByte path
  whole : path_of folder name ≡ 47 ∷ path

tail_of : (path parent name : List ℕ) → IsUtf8 path → Splits path parent name → 0 < length name → list_any (λ b. b == 0) path ≡ false
    → All IsByte (47 ∷ parent) → All IsByte name → (tail : List ℕ) × IsTail (47 ∷ parent) name tail
tail_of path [] name text split named none folder_bytes name_bytes = by split.parts where
  alone : list_any (λ b. b == 0) name ≡ false → IsUtf8 name → (tail : List ℕ) × IsTail (47 ∷ []) name tail
  alone no_nul utf8 = (
    name,
    record {
      text = utf8;
      place = record { parent = []; split = record { last = split.last; parts = inl (refl, refl) }; rooted = refl; named = named; no_nul = no_nul };
      bytes = name_bytes;
      whole = refl;
    },
  )

  by : (path ≡ name) × ◌≡◌ {A = List ℕ} [] [] ⊎ (path ≡ [] ++ 47 ∷ name) → (tail : List ℕ) × IsTail (47 ∷ []) name tail
  by (inl one) =
      alone (subst (λ (p : List ℕ). list_any (λ b. b == 0) p ≡ false) one.0 none) (subst (λ (p : List ℕ). IsUtf8 p) one.0 text)
  by (inr cut) =
      let utf8 : IsUtf8 (47 ∷ name) = subst (λ (p : List ℕ). IsUtf8 p) cut text in
      alone (subst (λ (p : List ℕ). list_any (λ b. b == 0) p ≡ false) cut none)
      (IsUtf8-drop (47 ∷ name) 1 utf8 (IsCharBoundary-after_ascii (47 ∷ name) 0 utf8 (omega arith) (omega arith)))
tail_of path (x ∷ parent) name text split named none folder_bytes name_bytes = by split.parts where
  by : (path ≡ name) × (x ∷ parent ≡ []) ⊎ (path ≡ (x ∷ parent) ++ 47 ∷ name) → (tail : List ℕ) × IsTail (47 ∷ x ∷ parent) name tail
  by (inl one) = let bad = one.1 in absurd cc
  by (inr cut) = (
    (x ∷ parent) ++ 47 ∷ name,
    record {
      text = subst (λ (p : List ℕ). IsUtf8 p) cut text;
      place = record {
        parent = x ∷ parent;
        split = record { last = split.last; parts = inr refl };
        rooted = refl;
        named = named;
        no_nul = subst (λ (p : List ℕ). list_any (λ b. b == 0) p ≡ false) cut none;
      };
      bytes =
          All-append IsByte (x ∷ parent) (47 ∷ name) (All-tail IsByte 47 (x ∷ parent) folder_bytes)
          (All-cons IsByte 47 name (omega arith) name_bytes);
      whole = refl;
    },
  )

-- the URI that is written for it is read as it
tail_read : (folder name tail : List ℕ) → IsTail folder name tail → IsFile (written_uri folder name) folder name
tail_read folder name tail is =
    let back : percent_decode (escaped tail) ≡ tail = escaped_back tail is.bytes in
    record {
      written = escaped tail;
      path =
          ap (λ (path : List ℕ). written_path (codes "file://" ++ escaped path)) is.whole
          ∙ reads (escaped tail) (escaped_whole tail);
      text = subst (λ (p : List ℕ). IsUtf8 p) (sym back) is.text;
      place = subst (λ (p : List ℕ). IsPlace p folder name) (sym back) is.place;
    }

pub written_again : (uri folder name : List ℕ) → All IsByte folder → All IsByte name → IsFile uri folder name
    → IsFile (written_uri folder name) folder name
written_again uri folder name folder_bytes name_bytes file =
    let rooted = file.place.rooted in
    let tail = tail_of (percent_decode file.written) file.place.parent name file.text file.place.split file.place.named file.place.no_nul
    (subst (λ (f : List ℕ). All IsByte f) rooted folder_bytes) name_bytes in
    subst (λ (f : List ℕ). IsFile (written_uri f name) f name) (sym rooted) (tail_read (47 ∷ file.place.parent) name tail.0 tail.1)
