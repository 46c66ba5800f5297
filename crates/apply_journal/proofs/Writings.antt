-- Writes behind other writes.
use Rattle.std.proofs.Common.{ℕ, List, [], ◌∷◌, ◌++◌, Option, Some, None, option_map, Result, Ok, Err, OnOk, OnErr, refl, sym, ap, ◌∙◌, append_assoc}
use Rattle.std.specs.FinMap.{insert}
use Rattle.rotor_base.specs.declared.source.SourceFile.{SourceFile}
use Rattle.tree_io.specs.Outside.{FileMap, Writes, Spoils}
use Rattle.tree_io.specs.Writes.{after, HasRoom, Written, StoppedWriting}
use Rattle.apply_journal.specs.Plan.{file_of}
use Rattle.apply_journal.proofs.Maps.{after-append}

pub on_ok : {A E : Type 0} (r : Result A E) (P : Type 0) → P → OnOk r P
on_ok (Ok x) P p = p
on_ok (Err e) P p = tt

pub on_err : {A E : Type 0} (r : Result A E) (P : Type 0) → P → OnErr r P
on_err (Ok x) P p = tt
on_err (Err e) P p = p

pub ok_map : {A E : Type 0} (r : Result A E) (P Q : Type 0) → (P → Q) → OnOk r P → OnOk r Q
ok_map (Ok x) P Q f p = f p
ok_map (Err e) P Q f p = tt

pub err_map : {A E : Type 0} (r : Result A E) (P Q : Type 0) → (P → Q) → OnErr r P → OnErr r Q
err_map (Ok x) P Q f p = tt
err_map (Err e) P Q f p = f p

pub room_front : (room : List ℕ → ℕ) (fs gs : List SourceFile) → HasRoom room (fs ++ gs) → HasRoom room fs
room_front room [] gs h = tt
room_front room (f ∷ fs) gs h = (h.0, room_front room fs gs h.1)

pub room_back : (room : List ℕ → ℕ) (fs gs : List SourceFile) → HasRoom room (fs ++ gs) → HasRoom room gs
room_back room [] gs h = h
room_back room (f ∷ fs) gs h = room_back room fs gs h.1

pub written_one : (name bytes : List ℕ) (before now : Option FileMap) → Writes name bytes before now → Written (file_of name bytes ∷ []) before now
written_one name bytes None now w = w
written_one name bytes (Some held) now w = w

pub written_on : (fs gs : List SourceFile) (before mid now : Option FileMap) → Written fs before mid → Written gs mid now
    → Written (fs ++ gs) before now
written_on fs gs None mid now w v = v ∙ ap (option_map (after gs)) w
written_on fs gs (Some held) mid now w v = v ∙ ap (option_map (after gs)) w ∙ ap (λ (m : FileMap). Some m) (sym (after-append fs gs held))

pub stopped_one : (name bytes : List ℕ) (before now : Option FileMap) → Spoils name before now → StoppedWriting (file_of name bytes ∷ []) before now
stopped_one name bytes None now s = ([], file_of name bytes, [], s.0, refl, s.1)
stopped_one name bytes (Some held) now s = ([], file_of name bytes, [], s.0, refl, s.1)

pub stopped_front : (fs gs : List SourceFile) (before now : Option FileMap) → StoppedWriting fs before now → StoppedWriting (fs ++ gs) before now
stopped_front fs gs before now s =
    (s.0, s.1, s.2 ++ gs, s.3, ap (λ (hs : List SourceFile). hs ++ gs) s.4 ∙ append_assoc s.0 (s.1 ∷ s.2) gs, s.5)

pub stopped_back : (fs gs : List SourceFile) (before mid now : Option FileMap) → Written fs before mid → StoppedWriting gs mid now
    → StoppedWriting (fs ++ gs) before now
stopped_back fs gs None mid now w s = (
  fs ++ s.0,
  s.1,
  s.2,
  s.3,
  ap (λ (hs : List SourceFile). fs ++ hs) s.4 ∙ sym (append_assoc fs s.0 (s.1 ∷ s.2)),
  s.5
      ∙ ap (option_map (λ files. insert (after s.0 files) s.1.name s.3)) w,
)
stopped_back fs gs (Some held) mid now w s = (
  fs ++ s.0,
  s.1,
  s.2,
  s.3,
  ap (λ (hs : List SourceFile). fs ++ hs) s.4 ∙ sym (append_assoc fs s.0 (s.1 ∷ s.2)),
  s.5 ∙ ap (option_map (λ files. insert (after s.0 files) s.1.name s.3)) w
      ∙ ap (λ (m : FileMap). Some (insert m s.1.name s.3)) (sym (after-append fs s.0 held)),
)

pub room_join : (room : List ℕ → ℕ) (fs gs : List SourceFile) → HasRoom room fs → HasRoom room gs → HasRoom room (fs ++ gs)
room_join room [] gs h k = k
room_join room (f ∷ fs) gs h k = (h.0, room_join room fs gs h.1 k)
