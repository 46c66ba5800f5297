-- A place is an operator if and only if its name is the name of an operator.
use Rattle.std.proofs.Common.{◌≡◌, ℕ, zero, suc, ◌-◌, ◌<◌, inl, inr, List, [], ◌∷◌, ◌++◌, Bool, true, false, not, ◌==◌, ◌&&◌, ◌||◌, if◌then◌else◌}
use Rattle.std.proofs.Common.{Option, Some, None, All, Contains, length, take, codes, bytes_eq, nat_le, nat_lt, slice_index, slice_index_or}
use Rattle.std.proofs.Common.{true≢false, refl, ap, sym, subst, ◌∙◌, arith}
use Rattle.std.specs.Prelude.{◌↔◌, IsTrue}
use Rattle.std.specs.Char.{is_ascii_alphabetic, is_ascii_lowercase, is_ascii_uppercase}
use Rattle.std.specs.List.{list_all, list_any}
use Rattle.std.proofs.lemmas.List.Elements.{All-head, All-tail}
use Rattle.std.proofs.lemmas.Slice.Eq.{bytes_eq-Decides}
use Rattle.rotor_base.specs.Name.{starts_as_value_name, is_identifier_byte, is_keyword_word, is_reserved_word, is_value_name}
use Rattle.rotor_base.specs.declared.place.Place.{Place}
use Rattle.rotor_base.specs.declared.place.Foot.{Foot}
use Rattle.rotor_base.specs.declared.place.Goal.TheVariants.{Decl}
use Rattle.rotor_base.specs.declared.refusal.Refusal.TheVariants.{Operator}
use Rattle.rotor_base.specs.declared.token.Class.{Class}
use Rattle.rotor_base.specs.declared.token.Class.TheVariants as class
use Rattle.ml_lexer.specs.Bytes.{among, is_operator_byte, is_word_start}
use Rattle.ml_lexer.proofs.Local.{and_left, and_right}
use Rattle.lexeme_laws.specs.Begins as begins
use Rattle.lexeme_laws.specs.Begins.{IsReservedLabel}
use Rattle.lexeme_laws.specs.Table as table
use Rattle.lexeme_laws.specs.Table.{IsLabel, IsOfClass, is_word, is_prefix, is_infix}
use Rattle.lexeme_laws.proofs.NotBad.{lexemes_are_not_bad}
use Rattle.lexeme_laws.proofs.Taken.{lexemes_begin}
use Rattle.lexeme_laws.proofs.Tests.{among_fails, not_true, or_cases}
use Rattle.ml_trees.specs.declared.fixed.Fixed.{Fixed}
use Rattle.ml_trees.specs.Tok.{Name, Tok, fixed, placed, word, is_placed, fixed_of, tok_or, tok, toks_from}
use Rattle.ml_trees.specs.Tree.{FileTree, Body, Face, UnitTree}
use Rattle.ml_trees.specs.Words.{words}
use Rattle.ml_trees.specs.WellFormed.{keyword_level}
use Rattle.ml_trees.specs.Runs.{has_colon}
use Rattle.value_sites.specs.Places.{Site, sites, without_colon, label_name}
use Rattle.value_sites.specs.Sound.{IsLexeme, AreNumbered, IsSound, IsSoundFile, IsSoundUnit, IsBodyPart, IsFacePart}
use Rattle.value_sites.specs.Each.{Each}
use Rattle.dependency_kernel.specs.Foot.{here}
use Rattle.dependency_kernel.proofs.Laws.{has_one_name}
use Rattle.binding_model.specs.Facts.{facts}
use Rattle.binding_model.specs.Renaming.{IsBinder}
use Rattle.binding_model.specs.Renaming.{placed_sites, file_places, places, at_place, site_name, name_of}
use Rattle.binding_model.proofs.Leasts.{place_in}
use Rattle.binding_model.proofs.Sounds.{each_joined, links_join_one_name}
use Rattle.project_reading.proofs.Soundness.{read_is_sound}
use Rattle.rename_model.specs.Foot.{IsTheFoot, IsHit}
use Rattle.rename_model.specs.Renaming.{IsOperator}
use Rattle.rename_laws.specs.Laws.{is_operator_name, OperatorsAreNamed, OperatorsAreOfTheTarget, OperatorNamesAreNoValueNames}
use Rattle.rename_laws.proofs.Hits.{leads, hit_cases, member_hit}
use Rattle.rename_laws.proofs.Places.{is_sign, OfKinds, holds_of_places}

not_so : (b : Bool) → ((b ≡ true) → ⊥) → b ≡ false
not_so true h = absurd (h refl)
not_so false h = refl

-- ---- the keywords that are operators

one_of : (R : Type 0) (a b c d e f g : Bool) → (a ≡ true → R) → (b ≡ true → R) → (c ≡ true → R) → (d ≡ true → R) → (e ≡ true → R) → (f ≡ true → R)
    → (g ≡ true → R) → nat_le 1 (if a || b || c || d then 11 else if e || f || g then 12 else 0) ≡ true → R
one_of R true b c d e f g p q r s t u v h = p refl
one_of R false true c d e f g p q r s t u v h = q refl
one_of R false false true d e f g p q r s t u v h = r refl
one_of R false false false true e f g p q r s t u v h = s refl
one_of R false false false false true f g p q r s t u v h = t refl
one_of R false false false false false true g p q r s t u v h = u refl
one_of R false false false false false false true p q r s t u v h = v refl
one_of R false false false false false false false p q r s t u v h = cc

same_word : (x w : List ℕ) → is_reserved_word w ≡ true → bytes_eq x w ≡ true → is_reserved_word x ≡ true
same_word x w r e = ap is_reserved_word ((bytes_eq-Decides x w).0 e) ∙ r

level_reserved : (x : List ℕ) → nat_le 1 (keyword_level x) ≡ true → is_reserved_word x ≡ true
unfolding is_keyword_word
level_reserved x h =
    one_of (is_reserved_word x ≡ true) (bytes_eq x (codes "mod")) (bytes_eq x (codes "land")) (bytes_eq x (codes "lor")) (bytes_eq x (codes "lxor"))
    (bytes_eq x (codes "lsl")) (bytes_eq x (codes "lsr")) (bytes_eq x (codes "asr"))
    (same_word x (codes "mod") refl) (same_word x (codes "land") refl) (same_word x (codes "lor") refl) (same_word x (codes "lxor") refl)
    (same_word x (codes "lsl") refl) (same_word x (codes "lsr") refl) (same_word x (codes "asr") refl) h

-- ---- names of words

both_false : (a b : Bool) → a ≡ true → (b ≡ true → ⊥) → (not a || b) ≡ false
both_false true true h f = absurd (f refl)
both_false true false h f = refl
both_false false b h f = cc

-- what begins as a word and is no keyword is no operator's name
word_name : (x : List ℕ) → is_word_start (slice_index x 0) ≡ true → is_reserved_word x ≡ false → is_operator_name x ≡ false
word_name x start free =
    both_false (is_word_start (slice_index x 0)) (nat_le 1 (keyword_level x)) start (λ k. true≢false (sym (level_reserved x k) ∙ free))

word_starts : (x : List ℕ) → is_word x ≡ true → is_word_start (slice_index x 0) ≡ true
word_starts [] h = cc
word_starts (c ∷ rest) h = and_left (is_word_start c) (list_all is_identifier_byte rest) h

-- ---- names of signs

sign_name : (x : List ℕ) → is_word_start (slice_index x 0) ≡ false → is_operator_name x ≡ true
sign_name x h = ap (λ b. not b || nat_le 1 (keyword_level x)) h

-- a byte among these begins no word
no_start : (firsts : List ℕ) (c : ℕ) → list_all (λ x. not (is_word_start x)) firsts ≡ true → list_any (λ x. x == c) firsts ≡ true
    → is_word_start c ≡ false
no_start firsts c all any = among_fails is_word_start firsts c all any

prefix_starts : (x : List ℕ) → is_prefix x ≡ true → is_word_start (slice_index x 0) ≡ false
prefix_starts [] h = cc
prefix_starts (c ∷ rest) h = elim (or_cases (table.is_operator "!" (c ∷ rest) && not (bytes_eq (c ∷ rest) (codes "!=")))
    (table.is_operator "~?" (c ∷ rest) && nat_lt 1 (length (c ∷ rest))) h) [
      | inl y ↦ no_start (codes "!") c refl (and_left (among "!" c) (list_all is_operator_byte rest)
          (and_left (table.is_operator "!" (c ∷ rest)) (not (bytes_eq (c ∷ rest) (codes "!="))) y))
      | inr y ↦ no_start (codes "~?") c refl (and_left (among "~?" c) (list_all is_operator_byte rest)
          (and_left (table.is_operator "~?" (c ∷ rest)) (nat_lt 1 (length (c ∷ rest))) y))
    ]

infix_starts : (x : List ℕ) → is_infix x ≡ true → is_word_start (slice_index x 0) ≡ false
infix_starts [] h = cc
infix_starts (c ∷ rest) h = elim (or_cases (table.is_operator "=<>@^|&+-*/$%#" (c ∷ rest)) (bytes_eq (c ∷ rest) (codes "!=")) h) [
  | inl y ↦ no_start (codes "=<>@^|&+-*/$%#") c refl (and_left (among "=<>@^|&+-*/$%#" c) (list_all is_operator_byte rest) y)
  | inr y ↦ ap (λ (l : List ℕ). is_word_start (slice_index l 0)) ((bytes_eq-Decides (c ∷ rest) (codes "!=")).0 y)
]

-- ---- the word of a label

more_colon : (x y : ℕ) (xs : List ℕ) → has_colon (x ∷ y ∷ xs) ≡ has_colon (y ∷ xs)
more_colon x y xs =
    let e : suc (suc (length xs)) - 1 ≡ suc (suc (length xs) - 1) = omega arith in
    ap (λ n. slice_index (x ∷ y ∷ xs) n == 58) e

ends_colon : (x : ℕ) (xs : List ℕ) → has_colon ((x ∷ xs) ++ codes ":") ≡ true
ends_colon x [] = refl
ends_colon x (y ∷ xs) = more_colon x y (xs ++ codes ":") ∙ ends_colon y xs

word_alone : (mark : ℕ) (w : List ℕ) → is_word w ≡ true → has_colon (mark ∷ w) ≡ false → without_colon w ≡ w
word_alone mark [] h e = cc
word_alone mark (c ∷ rest) h e = ap (λ b. if b then take (length (c ∷ rest) - 1) (c ∷ rest) else (c ∷ rest)) (sym (more_colon mark c rest) ∙ e)

label_word : (text : List ℕ) → IsLabel text → (IsReservedLabel text → ⊥) → has_colon text ≡ false → is_operator_name (label_name text) ≡ false
label_word _ (table.without_colon [] m) free e = absurd cc
label_word _ (table.without_colon (c ∷ w) m) free e =
    let is = and_right (among "~?" c) (is_word w) m in
    ap is_operator_name (word_alone c w is e)
    ∙ word_name w (word_starts w is) (not_so (is_reserved_word w) (λ r. free (begins.without_colon c w r)))
label_word _ (table.with_colon [] m) free e = absurd cc
label_word _ (table.with_colon (c ∷ w) m) free e = absurd (true≢false (sym (ends_colon c w) ∙ e))

-- ---- the words of a file

word_same : (c k : Class) (y x : Name) → word c y ≡ word k x → (c ≡ k) × (y ≡ x)
word_same c k y x e = (class_same e, name_same e) where
  class_same : word c y ≡ word k x → c ≡ k
  class_same e = cc

  name_same : word c y ≡ word k x → y ≡ x
  name_same e = cc

no_fixed : (b : Bool) (f : Fixed) (at : ℕ) (k : Class) (x : Name) → (if b then placed f at else fixed f) ≡ word k x → ⊥
no_fixed true f at k x e = cc
no_fixed false f at k x e = cc

pair_same : (c k : Class) (at : ℕ) (text : List ℕ) (x : Name) → (c ≡ k) × (record {
  at =
      at;
  text = text;
} ≡ x) → ◌≡◌ {A = Class × List ℕ} (c, text) (k, x.text)
pair_same c k at text x e = ap (λ b. (b, text)) e.0 ∙ ap (λ (n : Name). (k, n.text)) e.1

or_same : (c k : Class) (y : Name) (at : ℕ) (o : Option Fixed) (x : Name) → tok_or (word c y) at o ≡ word k x → (c ≡ k) × (y ≡ x)
or_same c k y at None x e = word_same c k y x e
or_same c k y at (Some f) x e = absurd (no_fixed (is_placed f) f at k x e)

tok_same : (c k : Class) (at : ℕ) (text : List ℕ) (x : Name) → tok c at text ≡ word k x → ◌≡◌ {A = Class × List ℕ} (c, text) (k, x.text)
tok_same class.Keyword k at text x e =
    pair_same class.Keyword k at text x (or_same class.Keyword k (record { at = at; text = text }) at (fixed_of text) x e)
tok_same class.Mark k at text x e = pair_same class.Mark k at text x (or_same class.Mark k (record { at = at; text = text }) at (fixed_of text) x e)
tok_same c k at text x e = pair_same c k at text x (word_same c k (record { at = at; text = text }) x e)

lexeme_at : (at : ℕ) (xs : List (Class × List ℕ)) (c : Class) (x : Name) → All IsLexeme xs → (k : ℕ) → k < length (toks_from at xs)
    → slice_index_or (toks_from at xs) k (word c x) ≡ word c x → IsLexeme (c, x.text)
lexeme_at at [] c x all k less e = absurd (omega (arith, less))
lexeme_at at (y ∷ ys) c x all zero less e = subst IsLexeme (tok_same y.0 c at y.1 x e) (All-head IsLexeme y ys all)
lexeme_at at (y ∷ ys) c x all (suc k) less e = lexeme_at (suc at) ys c x (All-tail IsLexeme y ys all) k (omega (arith, less)) e

lexeme_of : (ts : List Tok) (c : Class) (x : Name) → AreNumbered 1 ts → Contains ts (word c x) → IsLexeme (c, x.text)
lexeme_of ts c x ns has =
    let there = subst (λ us. Contains us (word c x)) ns.1 has in
    lexeme_at 1 ns.0 c x ns.2 there.0 there.1 there.2

take_all : (b : List ℕ) → take (length b) b ≡ b
take_all [] = refl
take_all (x ∷ b) = ap (λ l. x ∷ l) (take_all b)

row_of : (c : Class) (text : List ℕ) → IsLexeme (c, text) → IsOfClass c text
row_of c text l = subst (IsOfClass c) (take_all text) (lexemes_begin text c (length text) l).1

lower_name : (x : List ℕ) → IsLexeme (class.Lower, x) → is_operator_name x ≡ false
lower_name x l =
    let is = row_of class.Lower x l in
    let both = and_left (is_word x && starts_as_value_name x) (not (is_reserved_word x)) is in
    word_name x (word_starts x (and_left (is_word x) (starts_as_value_name x) both))
    (not_true (is_reserved_word x) (and_right (is_word x && starts_as_value_name x) (not (is_reserved_word x)) is))

label_is : (x : List ℕ) → IsLexeme (class.Label, x) → has_colon x ≡ false → is_operator_name (label_name x) ≡ false
label_is x l e =
    label_word x (row_of class.Label x l)
    (λ r. lexemes_are_not_bad x class.Label (length x) l (subst IsReservedLabel (sym (take_all x)) r)) e

right_true : (a b : Bool) → b ≡ true → (a || b) ≡ true
right_true true b e = refl
right_true false b e = e

sign_is : (c : Class) (x : Name) → is_sign (word c x) ≡ true → IsLexeme (c, x.text) → is_operator_name x.text ≡ true
sign_is class.Prefix x e l = sign_name x.text (prefix_starts x.text (row_of class.Prefix x.text l))
sign_is class.Infix x e l = sign_name x.text (infix_starts x.text (row_of class.Infix x.text l))
sign_is class.Mark x e l = ap is_operator_name ((bytes_eq-Decides x.text (codes ":=")).0 e)
sign_is class.Keyword x e l = right_true (not (is_word_start (slice_index x.text 0))) (nat_le 1 (keyword_level x.text)) e
sign_is _ x e l = cc

-- ---- the places of a project

abbrev IsNamedSo : Site → Type 0
IsNamedSo s = is_operator_name s.name ≡ s.operator

of_kinds : (ts : List Tok) → AreNumbered 1 ts → OfKinds ts IsNamedSo
of_kinds ts ns = record {
  name = λ s x e o has. ap is_operator_name e ∙ lower_name x.text (lexeme_of ts class.Lower x ns has) ∙ sym o;
  label = λ binds x e has. label_is x.text (lexeme_of ts class.Label x ns has) e;
  equals = λ binds at. refl;
  minus = λ x. refl;
  sign = λ binds c x e has. sign_is c x e (lexeme_of ts c x ns has);
}

abbrev IsPlacedSo : Place × Site → Type 0
IsPlacedSo e = IsNamedSo e.1

in_file : (file : ℕ) (ss : List Site) → Each IsNamedSo ss → Each IsPlacedSo (placed_sites file ss)
in_file file [] h = tt
in_file file (s ∷ ss) h = (h.0, in_file file ss h.1)

of_tree : (t : FileTree) → IsSoundFile t → Each IsNamedSo (sites t)
of_tree t h = holds_of_places t IsNamedSo h.0 (of_kinds (words t) h.1)

of_body : (o : Option FileTree) → IsBodyPart o → Each IsPlacedSo (file_places o)
of_body None h = tt
of_body (Some (Body file is)) h = in_file file (sites (Body file is)) (of_tree (Body file is) h)
of_body (Some (Face file is)) h = absurd h

of_face : (o : Option FileTree) → IsFacePart o → Each IsPlacedSo (file_places o)
of_face None h = tt
of_face (Some (Body file is)) h = absurd h
of_face (Some (Face file is)) h = in_file file (sites (Face file is)) (of_tree (Face file is) h)

of_units : (us : List UnitTree) → All IsSoundUnit us → Each IsPlacedSo (places us)
of_units [] h = tt
of_units (u ∷ us) h =
    let own : IsSoundUnit u = All-head IsSoundUnit u us h in
    each_joined IsPlacedSo (file_places u.body) (file_places u.face ++ places us) (of_body u.body own.0)
    (each_joined IsPlacedSo (file_places u.face) (places us) (of_face u.face own.1) (of_units us (All-tail IsSoundUnit u us h)))

-- ---- a footprint

module _ (us : List UnitTree) (d : Place) (foot : Foot) (sound : IsSound us) (binder : IsBinder us d) (is : IsTheFoot us d foot) where
  site_named : (p : Place) (x : Site) → at_place (places us) p ≡ Some x → is_operator_name (name_of us p) ≡ x.operator
  site_named p x at = ap (λ o. is_operator_name (site_name o)) at ∙ place_in IsPlacedSo (places us) p x (of_units us sound.0) at

  member_name : (p : Place) → Contains foot.decls p → name_of us p ≡ name_of us d
  member_name p c = has_one_name (facts us).links d foot (name_of us) is (links_join_one_name us sound).links p d c (is.all d here)

  hit_name : (p : Place) → IsHit us foot p → name_of us p ≡ name_of us d
  hit_name p c = elim (hit_cases us foot p c) [
    | inl a ↦ member_name p a
    | inr r ↦
        let l = leads foot r.0.goal r.3 in
        let used : Contains (facts us).refs (record { at = p; goal = Decl l.0 }) =
        subst (Contains (facts us).refs) (ap (λ at. record { at = at; goal = r.0.goal }) r.2 ∙ ap (λ g. record { at = p; goal = g }) l.1) r.1 in
        (links_join_one_name us sound).uses p l.0 used ∙ member_name l.0 l.2
  ]

  operators_named : IsOperator us foot Operator ↔ IsTrue (is_operator_name (name_of us d))
  operators_named = (
    λ o. ap is_operator_name (sym (hit_name o.0 o.1)) ∙ site_named o.0 o.2.0 o.2.1 ∙ o.2.2,
    λ e. (d, member_hit us foot d (is.all d here), (binder.0, binder.1, sym (site_named d binder.0 binder.1) ∙ e)),
  )

pub operators_are_named : OperatorsAreNamed
operators_are_named us d foot sound binder is = operators_named us d foot sound binder is

pub operators_are_of_the_target : OperatorsAreOfTheTarget
operators_are_of_the_target files us target d foot project reads aims is =
    operators_named us d foot (read_is_sound files us project reads) aims.1 is

-- ---- an operator's name is no value name

no_value : (starts spelled short free bytes operator : Bool) → (starts ≡ true → spelled ≡ true) → (operator ≡ true → free ≡ false)
    → (not spelled || operator) ≡ true → (starts && short && free && bytes) ≡ true → ⊥
no_value false spelled short free bytes operator s o n h = true≢false (sym h)
no_value true false short free bytes operator s o n h = true≢false (sym (s refl))
no_value true true short true bytes true s o n h = true≢false (o refl)
no_value true true true false bytes operator s o n h = true≢false (sym h)
no_value true true false free bytes operator s o n h = true≢false (sym h)
no_value true true short free bytes false s o n h = true≢false (sym n)

lower_starts : (x : List ℕ) → starts_as_value_name x ≡ true → is_word_start (slice_index x 0) ≡ true
lower_starts [] h = cc
lower_starts (c ∷ rest) h = elim (or_cases (is_ascii_lowercase c) (c == 95) h) [
  | inl y ↦ ap (λ b. b || c == 95) (right_true (is_ascii_uppercase c) (is_ascii_lowercase c) y)
  | inr y ↦ right_true (is_ascii_alphabetic c) (c == 95) y
]

pub operator_names_are_no_value_names : OperatorNamesAreNoValueNames
operator_names_are_no_value_names x h =
    not_so (is_value_name x)
    (no_value (starts_as_value_name x) (is_word_start (slice_index x 0)) (nat_le (length x) 255) (not (is_reserved_word x))
    (list_all is_identifier_byte x)
    (nat_le 1 (keyword_level x)) (lower_starts x) (λ k. ap not (level_reserved x k)) h)
