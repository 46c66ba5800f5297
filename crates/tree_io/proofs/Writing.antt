-- Files written one after another.
use Rattle.std.proofs.Common.{◌≡◌, ℕ, ◌+◌, ◌<◌, List, [], ◌∷◌, ◌++◌, length, take, drop, get_or, Option, Some, None, option_map, Result, Ok, Err}
use Rattle.std.proofs.Common.{OnErr, refl, sym, ap, subst, ◌∙◌, arith}
use Rattle.std.specs.FinMap.{insert}
use Rattle.std.proofs.lemmas.List.{take_more, at_drop_more, take-append-drop}
use Rattle.rotor_base.specs.declared.source.SourceFile.{SourceFile}
use Rattle.tree_io.specs.Outside.{FileMap, Writes, Spoils, KeepsRoom}
use Rattle.tree_io.specs.Writes.{after, HasRoom, Written, StoppedWriting}

pub after-append : (fs : List SourceFile) (f : SourceFile) (files : FileMap) → after (fs ++ f ∷ []) files ≡ insert (after fs files) f.name f.bytes
after-append [] f files = refl
after-append (g ∷ gs) f files = after-append gs f (insert files g.name g.bytes)

written_push : (fs : List SourceFile) (f : SourceFile) (before mid now : Option FileMap) → Written fs before mid → Writes f.name f.bytes mid now
    → Written (fs ++ f ∷ []) before now
written_push fs f None mid now w v = v ∙ ap (option_map (λ files. insert files f.name f.bytes)) w
written_push fs f (Some files) mid now w v = v ∙ ap (option_map (λ more. insert more f.name f.bytes)) w
    ∙ ap (λ (m : FileMap). Some m) (sym (after-append fs f files))

-- one more file is written
pub written_more : (writes : List SourceFile) (i : ℕ) (f : SourceFile) (before mid now : Option FileMap) (name bytes : List ℕ) → i < length writes
    → f ≡ get_or writes i f
    → Written (take i writes) before mid → name ≡ f.name → bytes ≡ f.bytes → Writes name bytes mid now → Written (take (i + 1) writes) before now
written_more writes i f before mid now name bytes h e w en eb v =
    let front : take (i + 1) writes ≡ take i writes ++ f ∷ [] = take_more writes i f h ∙ ap (λ (g : SourceFile). take i writes ++ g ∷ []) (sym e) in
    let one : Writes f.name f.bytes mid now = v ∙ ap (λ (n : List ℕ). option_map (λ files. insert files n bytes) mid) en
    ∙ ap (λ (bs : List ℕ). option_map (λ files. insert files f.name bs) mid) eb in
    subst (λ (fs : List SourceFile). Written fs before now) (sym front) (written_push (take i writes) f before mid now w one)

-- room that does not shrink stays enough
pub keeps_room : (room now : List ℕ → ℕ) (writes : List SourceFile) → KeepsRoom room now → HasRoom room writes → HasRoom now writes
keeps_room room now [] k h = tt
keeps_room room now (f ∷ fs) k h = ((omega (arith, k f.name, h.0.0), omega (arith, k f.name, h.0.1)), keeps_room room now fs k h.1)

room_of_rest : (room : List ℕ → ℕ) (f : SourceFile) (fs : List SourceFile) → HasRoom room (f ∷ fs) → HasRoom room fs
room_of_rest room f fs h = h.1

pub room_more : (room now : List ℕ → ℕ) (writes : List SourceFile) (i : ℕ) (f : SourceFile) → i < length writes → KeepsRoom room now
    → HasRoom room (drop i writes) → HasRoom now (drop (i + 1) writes)
room_more room now writes i f h k r =
    let split : drop i writes ≡ get_or writes i f ∷ drop (i + 1) writes = at_drop_more (λ (fs : List SourceFile). fs) writes i f h in
    keeps_room room now (drop (i + 1) writes) k (room_of_rest room (get_or writes i f) (drop (i + 1) writes) (subst (HasRoom room) split r))

pub on_err : {A E : Type 0} (r : Result A E) (P : Type 0) → P → OnErr r P
on_err (Ok x) P p = tt
on_err (Err e) P p = p

spoiled : (done : List SourceFile) (before mid now : Option FileMap) (name any : List ℕ) → Written done before mid → Writes name any mid now
    → now ≡ option_map (λ files. insert (after done files) name any) before
spoiled done None mid now name any w v = v ∙ ap (option_map (λ files. insert files name any)) w
spoiled done (Some files) mid now name any w v = v ∙ ap (option_map (λ more. insert more name any)) w

-- a write failed
pub stopped_at : (writes : List SourceFile) (i : ℕ) (f : SourceFile) (before mid now : Option FileMap) (name : List ℕ) → i < length writes
    → f ≡ get_or writes i f
    → Written (take i writes) before mid → name ≡ f.name → Spoils name mid now → StoppedWriting writes before now
stopped_at writes i f before mid now name h e w en s =
    let front = take i writes in
    let split : writes ≡ front ++ f ∷ drop (i + 1) writes =
    sym (take-append-drop i writes) ∙ at_drop_more (λ (fs : List SourceFile). front ++ fs) writes i f h
    ∙ ap (λ (g : SourceFile). front ++ g ∷ drop (i + 1) writes) (sym e) in
    (front, f, drop (i + 1) writes, s.0, split, spoiled front before mid now f.name s.0 w (subst (λ (n : List ℕ). Writes n s.0 mid now) en s.1))

-- an item of no writes
pub no_more : (writes : List SourceFile) (i : ℕ) (P : Type 0) → i < length writes → writes ≡ [] → P
no_more writes i P h e = absurd (below i (subst (λ (ws : List SourceFile). i < length ws) e h)) where
  below : (n : ℕ) → n < 0 → ⊥
  below n l = omega arith
