-- The lines of a list, read one after the other, and the folder that they give.
use Rattle.std.proofs.Common.{◌≡◌, ◌∙◌, inr, ℕ, ◌+◌, Bool, true, false, cond, List, [], ◌∷◌, ◌++◌, Option, Some, None, IsSome, is_some, option_map}
use Rattle.std.proofs.Common.{String, length, append_assoc, refl, sym, ap, subst, arith}
use Rattle.std.specs.BTreeSet.{BTreeSet, contains_text}
use Rattle.std.specs.Option.{option_and_then}
use Rattle.std.specs.FinMap.{empty, get, get-empty, insert}
use Rattle.std.specs.Ordering.{nat_cmp}
use Rattle.std.specs.Cmp.Lexicographic.{slice_cmp}
use Rattle.std.specs.Str.{bytes_eq}
use Rattle.std.proofs.lemmas.List.{append-nil, length_push}
use Rattle.tree_io.specs.Outside.{FileMap}
use Rattle.project_load.specs.Entries.{AreThere, IsFolder, IsLine, IsNoEntry, IsUnread, given_by}
use Rattle.project_load.specs.Listed.{Gives, IsEntry}
use Rattle.project_load.specs.declared.error.ListError.TheVariants.{BadList}
use Rattle.project_load.proofs.Keys.{get_written}
use Rattle.project_load.proofs.ListWords.{one_line}
use Rattle.project_load.proofs.Tables.{given_empty, given_get, given_more}

has_some : {X : Type 0} (o : Option X) → is_some o ≡ true → (x : X) × (o ≡ Some x)
has_some None e = cc
has_some (Some x) e = (x, refl)

pub map_some : {A B : Type 0} (f : A → B) (o : Option A) → is_some (option_map f o) ≡ is_some o
map_some f None = refl
map_some f (Some x) = refl

-- one more line
gives_more : (held : FileMap) (front : List (List ℕ)) (line source bytes : List ℕ) (start given : FileMap) → Gives held front start given
    → IsEntry held line source bytes → get given source ≡ None
    → Gives held (front ++ line ∷ []) start (insert given source bytes)
gives_more held [] line source bytes start given h e none =
    (source, bytes, e, ap (λ (m : FileMap). get m source) (sym h) ∙ none, ap (λ (m : FileMap). insert m source bytes) h)
gives_more held (first ∷ front) line source bytes start given h e none =
    (h.0, h.1, h.2, h.3, gives_more held front line source bytes (insert start h.0 h.1) given h.4 e none)

module _ {Y : Type 0} (folder : BTreeSet (String Y)) where
  -- the lines before the rest are entries, and this is the FILE of each of their SOURCES
  pub record IsSoFar (lines rest : List (List ℕ)) (before : ℕ) (table : FileMap) : Type 0 where
    pub front : List (List ℕ)
    pub split : lines ≡ front ++ rest
    pub counted : before ≡ length front
    pub there : AreThere folder table
    pub gives : (held : FileMap) → IsFolder held folder → Gives held front empty (given_by held table)

  -- no line is read
  pub none_read : (lines : List (List ℕ)) (table : FileMap) → table ≡ empty → IsSoFar lines lines 0 table
  none_read lines table e = record {
    front = [];
    split = refl;
    counted = refl;
    there = λ source file found. let bad : None ≡ Some file = sym (ap (λ (t : FileMap). get t source) e ∙ get-empty (slice_cmp nat_cmp) source)
        ∙ found in cc;
    gives = λ held is. given_empty held table e;
  }

  module _ (lines rest behind : List (List ℕ)) (before : ℕ) (table : FileMap) (line : List ℕ) (so_far : IsSoFar lines rest before table)
      (next : rest ≡ line ∷ behind) where
    split_next : lines ≡ so_far.front ++ line ∷ behind
    split_next = so_far.split ∙ ap (λ (ls : List (List ℕ)). so_far.front ++ ls) next

    module _ (source file : List ℕ) (entry : IsLine folder line source file) (fresh : get table source ≡ None) where
      there_more : AreThere folder (insert table source file)
      there_more name found e = by (bytes_eq name source) (sym (get_written table source file name) ∙ e) where
        by : (b : Bool) → ◌≡◌ {A = Option (List ℕ)} (cond b (Some file) (get table name)) (Some found) → contains_text folder found ≡ true
        by true f = let same : file ≡ found = cc in subst (λ (name : List ℕ). contains_text folder name ≡ true) same entry.listed
        by false f = so_far.there name found f

      gives_next : (held : FileMap) → IsFolder held folder → Gives held (so_far.front ++ line ∷ []) empty (given_by held (insert table source file))
      gives_next held is =
          let bytes = has_some (get held file) (sym (is file) ∙ entry.listed) in
          let is_entry : IsEntry held line source bytes.0 =
          record { file = file; split = entry.split; named = entry.named; whole = entry.whole; there = bytes.1 }
          in
          let none : get (given_by held table) source ≡ None = given_get held table source ∙ ap (option_and_then (get held)) fresh in
          subst (Gives held (so_far.front ++ line ∷ []) empty) (sym (given_more held table source file bytes.0 bytes.1))
          (gives_more held so_far.front line source bytes.0 empty (given_by held table) (so_far.gives held is) is_entry none)

      -- one more line is read
      pub more_read : (after : FileMap) → after ≡ insert table source file → IsSoFar lines behind (before + 1) after
      more_read after e = rw e (record {
        front = so_far.front ++ line ∷ [];
        split = split_next ∙ sym (append_assoc so_far.front (line ∷ []) behind);
        counted = omega (arith, so_far.counted, length_push so_far.front line);
        there = there_more;
        gives = gives_next;
      })

    bad_here : IsNoEntry folder table line → (held : FileMap) → IsFolder held folder → (source bytes : List ℕ) → IsEntry held line source bytes
        → IsSome (get (given_by held table) source)
    bad_here none held is source bytes e =
        let listed : contains_text folder e.file ≡ true = is e.file ∙ ap is_some e.there in
        let is_line : IsLine folder line source e.file = record { split = e.split; named = e.named; whole = e.whole; listed = listed } in
        let found = has_some (get table source) (none source e.file is_line) in
        ap is_some (given_get held table source ∙ ap (option_and_then (get held)) found.1) ∙ (sym (is found.0) ∙ so_far.there source found.0 found.1)

    -- the next line is bad
    pub bad_next : IsNoEntry folder table line → IsUnread folder lines (BadList (before + 1))
    bad_next none =
        inr (
          before + 1,
          refl,
          λ held is. record {
            before = so_far.front;
            line = line;
            after = behind;
            given = given_by held table;
            split = split_next;
            counted = ap (λ (n : ℕ). n + 1) so_far.counted;
            good = so_far.gives held is;
            bad = bad_here none held is;
          },
        )

  -- all lines are read
  pub all_read : (lines rest : List (List ℕ)) (before : ℕ) (table : FileMap) → IsSoFar lines rest before table → rest ≡ []
      → (held : FileMap) → IsFolder held folder → Gives held lines empty (given_by held table)
  all_read lines rest before table h e held is =
      let whole : lines ≡ h.front = h.split ∙ ap (λ (ls : List (List ℕ)). h.front ++ ls) e ∙ append-nil h.front in
      rw whole (h.gives held is)

  -- one that repeats a SOURCE is none
  pub taken_entry : (table : FileMap) (line source file : List ℕ) → IsLine folder line source file → is_some (get table source) ≡ true
      → IsNoEntry folder table line
  taken_entry table line source file h found s f k =
      ap (λ (name : List ℕ). is_some (get table name)) (one_line folder line s f source file k h).0 ∙ found
