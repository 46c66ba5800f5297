-- What the loop over a comment or an attribute keeps.
use Rattle.std.proofs.Common.{◌≡◌, ℕ, ◌+◌, ◌-◌, ◌<◌, ◌≤◌, List, length, drop, sym, ◌∙◌, arith, length-drop}
use Rattle.std.specs.Borrow.{Bor}
use Rattle.ml_lexer.specs.declared.trivia.Part.{Part}
use Rattle.ml_lexer.specs.declared.trivia.Part.TheVariants.{Opens, Closes, Whole}
use Rattle.ml_lexer.specs.Trivia.{level_end, PartWithin, Reads, ReadsWithin}
use Rattle.ml_lexer.proofs.Steps.{level_opens, level_closes, level_whole}

-- `depth` levels are open, and what is left of the bytes gives the answer
pub record Kept (post : Bor (List ℕ) → Part → Type 0) (depth read : ℕ) (rest bytes : List ℕ) : Type 0 where
  pub some : 0 < depth
  pub few : depth ≤ read
  pub so_far : read + length rest ≡ length bytes
  pub same : (part_at : List ℕ → Part) → Reads part_at post
      → level_end part_at depth 0 read rest ≡ level_end part_at 1 0 2 (drop 2 bytes)

module _ {pre : Bor (List ℕ) → Type 0} {post : Bor (List ℕ) → Part → Type 0} {depth read : ℕ} {rest : Bor (List ℕ)} {bytes : List ℕ} {part : Part}
    (kept : Kept post depth read rest.now bytes) (more : 0 < length rest.now) (reader : ReadsWithin pre post) (ran : post rest part) where
  stepped : {k len depth' : ℕ} {rest' : List ℕ} → (0 < k) × (k ≤ length rest.now) → 0 < depth' → depth' ≤ depth + 1
      → len ≡ k → rest' ≡ drop len rest.now
      → ((p : List ℕ → Part) → p rest.now ≡ part → level_end p depth 0 read rest.now ≡ level_end p depth' 0 (read + k) (drop k rest.now))
      → Kept post depth' (read + len) rest' bytes
  stepped {k = k} {depth' = depth'} fits deep near same_len dropped step =
      let some : 0 < k = fits.0 in
      let most : k ≤ length rest.now = fits.1 in
      let total_so_far : read + length rest.now ≡ length bytes = kept.so_far in
      let few : depth ≤ read = kept.few in
      rw (dropped, same_len) (record {
        some = deep;
        few = omega arith;
        so_far = rw length-drop (omega arith);
        same = λ part_at reads. sym (step part_at (sym (reads rest part ran))) ∙ kept.same part_at reads;
      })

  pub kept_opens : {k len depth' : ℕ} {rest' : List ℕ} → part ≡ Opens k → depth' ≡ depth + 1 → len ≡ k → rest' ≡ drop len rest.now
      → Kept post depth' (read + len) rest' bytes
  kept_opens {k = k} e deeper same_len dropped =
      let fits : PartWithin (Opens k) rest.now = rw e at (reader.within rest part ran) in
      stepped fits (omega arith) (omega arith) same_len dropped (λ p is. rw deeper (level_opens p depth read k rest.now more (is ∙ e) fits.0))

  pub kept_closes : {k len depth' : ℕ} {rest' : List ℕ} → part ≡ Closes k → 1 < depth → depth' ≡ depth - 1 → len ≡ k → rest' ≡ drop len rest.now
      → Kept post depth' (read + len) rest' bytes
  kept_closes {k = k} e deep deeper same_len dropped =
      let fits : PartWithin (Closes k) rest.now = rw e at (reader.within rest part ran) in
      stepped fits (omega arith) (omega arith) same_len dropped (λ p is. rw deeper (level_closes p depth read k rest.now more (is ∙ e) fits.0 deep))

  pub kept_whole : {k len depth' : ℕ} {rest' : List ℕ} → part ≡ Whole k → depth' ≡ depth → len ≡ k → rest' ≡ drop len rest.now
      → Kept post depth' (read + len) rest' bytes
  kept_whole {k = k} e deeper same_len dropped =
      let fits : PartWithin (Whole k) rest.now = rw e at (reader.within rest part ran) in
      let some : 0 < depth = kept.some in
      stepped fits (omega arith) (omega arith) same_len dropped (λ p is. rw deeper (level_whole p depth read k rest.now more (is ∙ e) fits.0 some))
