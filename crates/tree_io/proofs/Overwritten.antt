-- Bytes that are put over others, one piece after another.
use Rattle.std.proofs.Common.{◌≡◌, ℕ, ◌+◌, ◌-◌, ◌≤◌, List, ◌++◌, take, drop, length, Option, Some, refl, sym, ap, ◌∙◌, append_assoc, append-nil}
use Rattle.std.proofs.Common.{arith}
use Rattle.std.specs.List.{between}
use Rattle.std.proofs.Math.Seq.{take-append_seam, drop-append-add, take-add, take-length}
use Rattle.std.proofs.lemmas.List.{length-append, length-take-le, drop-append-le, drop-drop, drop_all, take-append-drop, drop_at, take_at, take_all}
use Rattle.std.proofs.lemmas.List.{length-drop, take-take}
use Rattle.std.proofs.lemmas.Slice.{between_is}
use Rattle.tree_io.specs.Disk.{put_at, over, PutsAt, PutsPart, Cuts, Replaces, KeepsFront}

-- a piece behind what is there already
put_behind : (front rest piece : List ℕ) (at : ℕ) → length front ≡ at → put_at at piece (front ++ rest) ≡ front ++ (piece ++ drop (length piece) rest)
put_behind front rest piece at is =
    ap (λ n. take n (front ++ rest) ++ (piece ++ drop (n + length piece) (front ++ rest))) (sym is)
    ∙ ap (λ xs. xs ++ (piece ++ drop (length front + length piece) (front ++ rest))) (take-append_seam front rest)
    ∙ ap (λ xs. front ++ (piece ++ xs)) (drop-append-add front rest (length piece))

-- the part up to an index and the next bytes
part_more : (bytes piece : List ℕ) (from at n : ℕ) → piece ≡ take n (drop at bytes) → from ≤ at → at ≤ length bytes
    → drop from (take at bytes) ++ piece ≡ drop from (take (at + n) bytes)
part_more bytes piece from at n is ordered within =
    ap (λ xs. drop from (take at bytes) ++ xs) is
    ∙ sym (drop-append-le from (take at bytes) (take n (drop at bytes)) (let len = length-take-le at bytes within in omega (arith, len, ordered)))
    ∙ ap (λ xs. drop from xs) (sym (take-add at n bytes))

-- the bytes that stand before the part's end
front_length : (bytes old : List ℕ) (from at : ℕ) → from ≤ at → at ≤ length bytes → from ≤ length old
    → length (take from old ++ drop from (take at bytes)) ≡ at
front_length bytes old from at ordered within reach =
    let whole = length-append (take from old) (drop from (take at bytes)) in
    let left = length-take-le from old reach in
    let right = length-drop from (take at bytes) in
    let cut = length-take-le at bytes within in
    omega (arith, whole, left, right, cut, ordered)

-- one more piece
pub put_more : (bytes piece : List ℕ) (from at n : ℕ) (h0 h1 h2 : Option (List ℕ)) → piece ≡ take n (drop at bytes) → length piece ≡ n
    → from ≤ at → at ≤ length bytes → PutsPart from at bytes h0 h1 → PutsAt at piece h1 h2 → PutsPart from (at + n) bytes h0 h2
put_more bytes piece from at n h0 h1 h2 is count ordered within before here old known reach =
    let front = take from old ++ drop from (take at bytes) in
    let len = front_length bytes old from at ordered within reach in
    let split : over from at bytes old ≡ front ++ drop at old = sym (append_assoc (take from old) (drop from (take at bytes)) (drop at old)) in
    let long : at ≤ length (over from at bytes old) =
    (let l = ap (λ xs. length xs) split in let m = length-append front (drop at old) in omega (arith, l, m, len)) in
    here (over from at bytes old) (before old known reach) long
    ∙ ap (λ xs. Some xs)
    (ap (λ xs. put_at at piece xs) split
    ∙ put_behind front (drop at old) piece at len
    ∙ ap (λ k. front ++ (piece ++ drop k (drop at old))) count
    ∙ ap (λ xs. front ++ (piece ++ xs)) (drop-drop n at old)
    ∙ append_assoc (take from old) (drop from (take at bytes)) (piece ++ drop (at + n) old)
    ∙ ap (λ xs. take from old ++ xs) (sym (append_assoc (drop from (take at bytes)) piece (drop (at + n) old)))
    ∙ ap (λ xs. take from old ++ (xs ++ drop (at + n) old)) (part_more bytes piece from at n is ordered within))

-- nothing is put yet
pub put_none : (bytes : List ℕ) (from : ℕ) (h : Option (List ℕ)) → from ≤ length bytes → PutsPart from from bytes h h
put_none bytes from h within old known reach =
    known ∙ ap (λ xs. Some xs)
    (sym (take-append-drop from old)
    ∙ ap (λ xs. take from old ++ (xs ++ drop from old))
    (sym (drop_all from (take from bytes) (let l = length-take-le from bytes within in omega (arith, l)))))

-- the bytes behind the old end, and then those before it
pub replaced_by_more : (bytes : List ℕ) (end : ℕ) (h0 h1 h2 h3 : Option (List ℕ)) → end ≤ length bytes → PutsPart end (length bytes) bytes h0 h1
    → PutsPart 0 end bytes h1 h2 → h3 ≡ h2 → Replaces end bytes h0 h3
replaced_by_more bytes end h0 h1 h2 h3 within grown put same old known is =
    let longer : h1 ≡ Some (old ++ drop end bytes) = grown old known (omega (arith, is))
    ∙ ap (λ xs. Some xs)
    (ap (λ xs. xs ++ (drop end (take (length bytes) bytes) ++ drop (length bytes) old)) (take_all end old (omega (arith, is)))
    ∙ ap (λ xs. old ++ (drop end xs ++ drop (length bytes) old)) (take-length bytes)
    ∙ ap (λ xs. old ++ (drop end bytes ++ xs)) (drop_all (length bytes) old (omega (arith, is, within)))
    ∙ ap (λ xs. old ++ xs) (append-nil (drop end bytes))) in
    same ∙ put (old ++ drop end bytes) longer (omega arith)
    ∙ ap (λ xs. Some xs)
    (ap (λ xs. take end bytes ++ xs) (drop_at old (drop end bytes) end is)
    ∙ take-append-drop end bytes)

-- no more bytes, and then the cut behind them
pub replaced_by_fewer : (bytes : List ℕ) (len : ℕ) (h0 h1 h2 h3 : Option (List ℕ)) → length bytes ≤ len → PutsPart 0 (length bytes) bytes h0 h1
    → Cuts (length bytes) h1 h2 → h3 ≡ h2 → Replaces len bytes h0 h3
replaced_by_fewer bytes len h0 h1 h2 h3 within put cut same old known is =
    let put_all : h1 ≡ Some (bytes ++ drop (length bytes) old) = put old known (omega arith)
    ∙ ap (λ xs. Some (xs ++ drop (length bytes) old)) (take-length bytes) in
    same ∙ cut (bytes ++ drop (length bytes) old) put_all (let l = length-append bytes (drop (length bytes) old) in omega (arith, l))
    ∙ ap (λ xs. Some xs) (take-append_seam bytes (drop (length bytes) old))

-- what a write took of the part from an index on
pub taken : (bytes : List ℕ) (at upto n : ℕ) → at ≤ upto → upto ≤ length bytes → n ≤ length (between at upto bytes)
    → (take n (between at upto bytes) ≡ take n (drop at bytes)) × (length (take n (between at upto bytes)) ≡ n) × (at + n ≤ upto)
taken bytes at upto n ordered within count =
    let part = ap (λ xs. length xs) (between_is bytes at upto) in
    let left = length-drop at (take upto bytes) in
    let cut = length-take-le upto bytes within in (
      take-take n (upto - at) (drop at bytes) (omega (arith, part, left, cut, count)),
      length-take-le n (between at upto bytes) count,
      omega (arith, part, left, cut, count, ordered),
    )

-- a further write behind the first index
pub front_stays : (bytes : List ℕ) (from at : ℕ) (h0 h1 h2 : Option (List ℕ)) → from ≤ at → at ≤ length bytes → PutsPart from at bytes h0 h1
    → KeepsFront at h1 h2 → KeepsFront from h0 h2
front_stays bytes from at h0 h1 h2 ordered within before here old known reach =
    let front = take from old ++ drop from (take at bytes) in
    let len = front_length bytes old from at ordered within reach in
    let split : over from at bytes old ≡ front ++ drop at old = sym (append_assoc (take from old) (drop from (take at bytes)) (drop at old)) in
    let long : at ≤ length (over from at bytes old) =
    (let l = ap (λ xs. length xs) split in let m = length-append front (drop at old) in omega (arith, l, m, len)) in
    let kept = here (over from at bytes old) (before old known reach) long in
    let reaches = kept.2 in (
      kept.0,
      kept.1,
      omega (arith, reaches, ordered),
      sym (take-take from at kept.0 ordered) ∙ ap (λ xs. take from xs) kept.3 ∙ take-take from at (over from at bytes old) ordered
          ∙ take_at (take from old) (drop from (take at bytes) ++ drop at old) from (length-take-le from old reach),
    )

-- no write
pub front_same : (len : ℕ) (h : Option (List ℕ)) → KeepsFront len h h
front_same len h old known reach = (old, known, reach, refl)

-- one call after another
pub front_trans : (len : ℕ) (h0 h1 h2 : Option (List ℕ)) → KeepsFront len h0 h1 → KeepsFront len h1 h2 → KeepsFront len h0 h2
front_trans len h0 h1 h2 first second old known reach =
    let a = first old known reach in
    let b = second a.0 a.1 a.2 in
    (b.0, b.1, b.2, b.3 ∙ a.3)

-- what is put keeps what stands before it
pub front_put : (bytes : List ℕ) (from at : ℕ) (h0 h1 : Option (List ℕ)) → from ≤ at → at ≤ length bytes → PutsPart from at bytes h0 h1
    → KeepsFront from h0 h1
front_put bytes from at h0 h1 ordered within before = front_stays bytes from at h0 h1 h1 ordered within before (front_same at h1)

-- the same bytes after a call
pub front_kept : (len : ℕ) (h0 h1 h2 : Option (List ℕ)) → KeepsFront len h0 h1 → h2 ≡ h1 → KeepsFront len h0 h2
front_kept len h0 h1 h2 first same old known reach =
    let a = first old known reach in
    (a.0, same ∙ a.1, a.2, a.3)
