-- The length that some lines say, one line after another.
use Rattle.std.proofs.Common.{◌≡◌, ℕ, suc, ◌+◌, ◌<◌, ◌≤◌, nat_lt, Bool, true, false, not, eqb, cond, ◌&&◌, List, [], ◌∷◌, ◌++◌, length, take, drop}
use Rattle.std.proofs.Common.{Some, None, sym, refl, ap, ◌∙◌, arith}
use Rattle.std.specs.Prelude.{Option, is_some}
use Rattle.std.specs.Borrow.{Bor}
use Rattle.std.specs.List.{position, position_or_len}
use Rattle.std.proofs.lemmas.List.Sums.{prefix_len-le-length}
use Rattle.lsp_frames.specs.Lines.{lines_of, onto_first}
use Rattle.lsp_frames.specs.Header.{are_fields, texts_in, Field, field_of, is_field, is_length_name, length_texts, one_number}

-- the value that was found, as a list
abbrev pub known : Option (Bor (List ℕ)) → List (List ℕ)
known None = []
known (Some text) = text.now ∷ []

-- the length that values so far and more lines say
abbrev pub finish : List (List ℕ) → List (List ℕ) → Option ℕ
finish texts lines = cond (are_fields lines) (one_number (texts ++ texts_in lines)) None

-- the same, where the field of the next line is known
on_field : List (List ℕ) → Option Field → List (List ℕ) → Option ℕ
on_field texts field lines = cond (is_field field && are_fields lines) (one_number (texts ++ (length_texts field ++ texts_in lines))) None

pub bad_line : (texts lines : List (List ℕ)) (line : List ℕ) → field_of line ≡ None → finish texts (line ∷ lines) ≡ None
unfolding on_field
bad_line texts lines line is = ap (λ f. on_field texts f lines) is

pub other_line : (texts lines : List (List ℕ)) (line : List ℕ) (field : Field) → field_of line ≡ Some field
    → is_length_name field.0 ≡ false → finish texts (line ∷ lines) ≡ finish texts lines
unfolding on_field
other_line texts lines line field is other =
    ap (λ f. on_field texts f lines) is
    ∙ ap (λ t. cond (are_fields lines) (one_number (texts ++ (cond t (field.1 ∷ []) [] ++ texts_in lines))) None) other

pub first_length : (lines : List (List ℕ)) (line : List ℕ) (field : Field) → field_of line ≡ Some field
    → is_length_name field.0 ≡ true → finish [] (line ∷ lines) ≡ finish (field.1 ∷ []) lines
unfolding on_field
first_length lines line field is named =
    ap (λ f. on_field [] f lines) is
    ∙ ap (λ t. cond (are_fields lines) (one_number (cond t (field.1 ∷ []) [] ++ texts_in lines)) None) named

none_twice : (b : Bool) → cond {A = Option ℕ} b None None ≡ None
none_twice true = refl
none_twice false = refl

pub second_length : (lines : List (List ℕ)) (text line : List ℕ) (field : Field) → field_of line ≡ Some field
    → is_length_name field.0 ≡ true → finish (text ∷ []) (line ∷ lines) ≡ None
unfolding on_field
second_length lines text line field is named =
    ap (λ f. on_field (text ∷ []) f lines) is
    ∙ ap (λ t. cond (are_fields lines) (one_number (text ∷ (cond t (field.1 ∷ []) [] ++ texts_in lines))) None) named
    ∙ none_twice _

-- one more byte in front of the first line
onto_by : (b at : ℕ) (bs : List ℕ) (parts : List (List ℕ)) → parts ≡ take at bs ∷ lines_of (drop (at + 1) bs)
    → onto_first b parts ≡ take (1 + at) (b ∷ bs) ∷ lines_of (drop (1 + at + 1) (b ∷ bs))
onto_by b at bs parts h =
    let one : suc at ≡ 1 + at = omega arith in
    let two : suc (at + 1) ≡ 1 + at + 1 = omega arith in
    ap (onto_first b) h
    ∙ ap (λ k. take k (b ∷ bs) ∷ lines_of (drop (at + 1) bs)) one
    ∙ ap (λ k. take (1 + at) (b ∷ bs) ∷ lines_of (drop k (b ∷ bs))) two

cut_by : (b : ℕ) (bs : List ℕ) (t : Bool)
    → (position_or_len (λ b. eqb b 10) bs < length bs
    → lines_of bs ≡ take (position_or_len (λ b. eqb b 10) bs) bs ∷ lines_of (drop (position_or_len (λ b. eqb b 10) bs + 1) bs))
    → cond (not t) (1 + position_or_len (λ b. eqb b 10) bs) 0 < length (b ∷ bs)
    → cond t ([] ∷ lines_of bs) (onto_first b (lines_of bs)) ≡
    take (cond (not t) (1 + position_or_len (λ b. eqb b 10) bs) 0) (b ∷ bs)
    ∷ lines_of (drop (cond (not t) (1 + position_or_len (λ b. eqb b 10) bs) 0 + 1) (b ∷ bs))
cut_by b bs true h inside = refl
cut_by b bs false h inside = onto_by b (position_or_len (λ b. eqb b 10) bs) bs (lines_of bs) (h (omega (arith, inside)))

-- the first line ends at the first LF
pub lines_cut : (bs : List ℕ) → position_or_len (λ b. eqb b 10) bs < length bs
    → lines_of bs ≡ take (position_or_len (λ b. eqb b 10) bs) bs ∷ lines_of (drop (position_or_len (λ b. eqb b 10) bs + 1) bs)
lines_cut [] inside = absurd (omega arith)
lines_cut (b ∷ bs) inside = cut_by b bs (eqb b 10) (lines_cut bs) inside

none_by : (b : ℕ) (bs : List ℕ) (t : Bool) → (length bs ≡ position_or_len (λ b. eqb b 10) bs → lines_of bs ≡ [])
    → length (b ∷ bs) ≡ cond (not t) (1 + position_or_len (λ b. eqb b 10) bs) 0
    → cond t ([] ∷ lines_of bs) (onto_first b (lines_of bs)) ≡ []
none_by b bs true h e = absurd (omega (arith, e))
none_by b bs false h e = ap (onto_first b) (h (omega (arith, e)))

no_lines : (bs : List ℕ) → length bs ≡ position_or_len (λ b. eqb b 10) bs → lines_of bs ≡ []
no_lines [] e = refl
no_lines (b ∷ bs) e = none_by b bs (eqb b 10) (no_lines bs) e

no_line_by : (bs : List ℕ) (at : ℕ) (t : Bool) → nat_lt at (length bs) ≡ t → at ≤ length bs → cond t (Some at) None ≡ None → length bs ≡ at
no_line_by bs at true h l e = cc
no_line_by bs at false h l e = grind arith

-- where no LF is, there is no line
pub no_line : (bs : List ℕ) → position (λ b. eqb b 10) bs ≡ None → lines_of bs ≡ []
no_line bs e = no_lines bs (no_line_by bs (position_or_len (λ b. eqb b 10) bs) _ refl (prefix_len-le-length (λ (b : ℕ). not (eqb b 10)) bs) e)

line_by : (bs : List ℕ) (p at : ℕ) (t : Bool) → nat_lt p (length bs) ≡ t → Some at ≡ cond t (Some p) None → (p ≡ at) × (p < length bs)
line_by bs p at true h e = grind arith
line_by bs p at false h e = cc

-- where an LF is, the first line is before it
pub next_line : (bs : List ℕ) (at : ℕ) → Some at ≡ position (λ b. eqb b 10) bs → lines_of bs ≡ take at bs ∷ lines_of (drop (at + 1) bs)
next_line bs at e =
    let told = line_by bs (position_or_len (λ b. eqb b 10) bs) at _ refl e in
    lines_cut bs told.1 ∙ ap (λ k. take k bs ∷ lines_of (drop (k + 1) bs)) told.0

-- a second length after one that was found
pub no_second : (found : Option (Bor (List ℕ))) (lines : List (List ℕ)) (line : List ℕ) (field : Field) → true ≡ is_some found
    → Some field ≡ field_of line → true ≡ is_length_name field.0
    → finish (known found) (line ∷ lines) ≡ None
no_second None lines line field some is named = cc
no_second (Some text) lines line field some is named = second_length lines text.now line field (sym is) (sym named)

-- the first length
pub one_found : (found : Option (Bor (List ℕ))) (lines : List (List ℕ)) (line : List ℕ) (name value : Bor (List ℕ)) → false ≡ is_some found
    → Some (name.now, value.now) ≡ field_of line → true ≡ is_length_name name.now
    → finish (known found) (line ∷ lines) ≡ finish (known (Some value)) lines
one_found None lines line name value none is named = first_length lines line (name.now, value.now) (sym is) (sym named)
one_found (Some text) lines line name value none is named = cc
