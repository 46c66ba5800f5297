-- Comments and attributes (the OCaml manual, "Comments" and "Attributes").
use Rattle.std.specs.Prelude.{ℕ, zero, suc, ◌+◌, ◌-◌, List, [], ◌∷◌, Bool, true, false, ◌==◌, ◌&&◌, ◌<◌, ◌≤◌, length, drop, Option, Some, None}
use Rattle.std.specs.Prelude.{if◌then◌else◌, ◌≡◌, ◌^◌}
use Rattle.std.specs.Borrow.{Bor}
use Rattle.ml_lexer.specs.Bytes.{is_at}
use Rattle.ml_lexer.specs.Quotes.{char_length, text_length, opens_quoted, quoted_length}
use Rattle.ml_lexer.specs.declared.trivia.Part.{Part}
use Rattle.ml_lexer.specs.declared.trivia.Part.TheVariants.{Opens, Closes, Whole, Unended}

-- what is skipped whole, if it ends
abbrev pub whole : Option ℕ → Part
whole (Some n) = Whole n
whole None = Unended

-- the length, or one byte
abbrev pub or_one_byte : Option ℕ → Part
or_one_byte (Some n) = Whole n
or_one_byte None = Whole 1

-- a Text, Quoted or Char whole, if one begins here; else one byte
unfoldable pub plain_part : List ℕ → Part
plain_part bytes =
    if is_at "\"" 0 bytes then whole (text_length bytes) else
    if opens_quoted bytes then whole (quoted_length bytes) else
    or_one_byte (char_length bytes)

abbrev pub opens_comment : List ℕ → Bool
opens_comment bytes = is_at "(" 0 bytes && is_at "*" 1 bytes

-- comments nest
unfoldable pub comment_part : List ℕ → Part
comment_part bytes =
    if opens_comment bytes then Opens 2 else
    if is_at "*" 0 bytes && is_at ")" 1 bytes then Closes 2 else
    plain_part bytes

abbrev pub size_of : Part → ℕ
size_of (Opens n) = n
size_of (Closes n) = n
size_of (Whole n) = n
size_of Unended = 1

abbrev pub depth_after : Part → ℕ → ℕ
depth_after (Opens n) depth = depth + 1
depth_after (Closes n) depth = depth - 1
depth_after (Whole n) depth = depth
depth_after Unended depth = depth

abbrev pub is_unended : Part → Bool
is_unended Unended = true
is_unended _ = false

-- Where the last of `depth` open levels ends: `n` bytes have run, and the next `skip` bytes belong to the part that
-- has begun.
unfoldable pub level_end : (List ℕ → Part) → ℕ → ℕ → ℕ → List ℕ → Option ℕ
level_end part_at depth skip n [] = None
level_end part_at depth (suc skip) n (c ∷ bytes) = level_end part_at depth skip (n + 1) bytes
level_end part_at depth zero n (c ∷ bytes) =
    let part = part_at (c ∷ bytes) in
    if is_unended part then None else
    if depth_after part depth == 0 then Some (n + size_of part) else
    level_end part_at (depth_after part depth) (size_of part - 1) (n + 1) bytes

-- the length of the comment that begins here, if it ends
unfoldable pub comment_length : List ℕ → Option ℕ
comment_length bytes = level_end comment_part 1 0 2 (drop 2 bytes)

-- comments are skipped whole, `[` opens one more level, and `]` closes one
unfoldable pub attribute_part : List ℕ → Part
attribute_part bytes =
    if opens_comment bytes then whole (comment_length bytes) else
    if is_at "[" 0 bytes then Opens 1 else
    if is_at "]" 0 bytes then Closes 1 else
    plain_part bytes

-- the length of the attribute that begins here, if it ends
unfoldable pub attribute_length : List ℕ → Option ℕ
attribute_length bytes = level_end attribute_part 1 0 2 (drop 2 bytes)

-- the part takes a byte or more, and no more than there are
abbrev pub PartWithin : Part → List ℕ → Type 0
PartWithin part bytes = (0 < size_of part) × (size_of part ≤ length bytes)

-- a reader of parts may be called at each text of 1 to 2 ^ 20 bytes, and its part is within the text
pub record ReadsWithin (pre : Bor (List ℕ) → Type 0) (post : Bor (List ℕ) → Part → Type 0) : Type 0 where
  pub callable : (b : Bor (List ℕ)) → 0 < length b.now → length b.now ≤ 2 ^ 20 → pre b
  pub within : (b : Bor (List ℕ)) (r : Part) → post b r → PartWithin r b.now

-- what a reader returns at a text is `part_at` of the text
abbrev pub Reads : (List ℕ → Part) → (Bor (List ℕ) → Part → Type 0) → Type 0
Reads part_at post = (b : Bor (List ℕ)) (r : Part) → post b r → r ≡ part_at b.now
