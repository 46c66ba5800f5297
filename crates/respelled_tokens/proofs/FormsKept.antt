-- The refused forms of respelled tokens are those of the tokens.
use Rattle.std.proofs.Common.{◌≡◌, ℕ, suc, inl, inr, List, [], ◌∷◌, Bool, true, false, not, cond, ◌==◌, ◌&&◌, ◌||◌, Option, Some, None, codes, refl}
use Rattle.std.proofs.Common.{ap, sym, ◌∙◌}
use Rattle.std.specs.Prelude.{slice_index}
use Rattle.std.specs.List.{list_any}
use Rattle.std.specs.Str.{bytes_eq}
use Rattle.rotor_base.specs.declared.token.Class.{Class}
use Rattle.rotor_base.specs.declared.token.Class.TheVariants as class
use Rattle.rotor_base.specs.declared.token.Token.{Token}
use Rattle.rotor_base.specs.declared.token.FormKind.{FormKind}
use Rattle.rotor_base.specs.declared.token.FormKind.TheVariants as form
use Rattle.parse_base.specs.Forms.{is_keyword_class, is_mark_class, is_infix_class, is_upper_class, is_prefix_class, mark, mark_among, infix_is}
use Rattle.parse_base.specs.Forms.{infix_on, upper, bang, keyword, keyword_among, object_words, extended_words, extension_marks, starts, alone}
use Rattle.parse_base.specs.Forms.{is_package, is_rec_module, is_abstract_type, is_with_module, opens_module, is_named, is_named_module}
use Rattle.parse_base.specs.Forms.{is_local_module, is_struct, is_open_struct, is_extension, is_binder, is_binding_operator, sign_form_here}
use Rattle.parse_base.specs.Forms.{form_here, form_or, first_form}
use Rattle.respelled_tokens.specs.Kept.{IsAlike, AreAlike, FormsAreKept}

abbrev Steady : (Token → Bool) → Type 0
Steady q = (t u : Token) → IsAlike t u → q u ≡ q t

abbrev SteadyList : (List Token → Bool) → Type 0
SteadyList r = (ts us : List Token) → AreAlike ts us → r us ≡ r ts

-- a class that is not that of names, and any test of the bytes
by_class : (k : Class → Bool) (f : List ℕ → Bool) → k class.Lower ≡ false → (t u : Token) → IsAlike t u
    → (k u.class && f u.bytes.now) ≡ (k t.class && f t.bytes.now)
by_class k f none t u h = elim h.1 [
  | inl same ↦ ap (λ c. k c && f u.bytes.now) h.0 ∙ ap (λ b. k t.class && f b) same
  | inr lower ↦
      ap (λ c. k c && f u.bytes.now) h.0
      ∙ ap (λ c. k c && f u.bytes.now) lower
      ∙ ap (λ v. v && f u.bytes.now) none
      ∙ ap (λ v. v && f t.bytes.now) (sym none)
      ∙ ap (λ c. k c && f t.bytes.now) (sym lower)
]

mark_steady : (text : List ℕ) → Steady (λ t. is_mark_class t.class && bytes_eq t.bytes.now text)
mark_steady text = by_class is_mark_class (λ b. bytes_eq b text) refl

marks_steady : (texts : List (List ℕ)) → Steady (mark_among texts)
marks_steady texts = by_class is_mark_class (λ b. list_any (λ w. bytes_eq w b) texts) refl

keywords_steady : (texts : List (List ℕ)) → Steady (keyword_among texts)
keywords_steady texts = by_class is_keyword_class (λ b. list_any (λ w. bytes_eq w b) texts) refl

infix_on_steady : (b : ℕ) → Steady (infix_on b)
infix_on_steady b = by_class is_infix_class (λ bytes. slice_index bytes 0 == b) refl

infix_is_steady : (text : List ℕ) → Steady (infix_is text)
infix_is_steady text = by_class is_infix_class (λ b. bytes_eq b text) refl

bang_steady : Steady bang
bang_steady = by_class is_prefix_class (λ b. bytes_eq b (codes "!")) refl

upper_steady : Steady upper
upper_steady t u h = ap is_upper_class h.0

or_same : {a b c d : Bool} → a ≡ c → b ≡ d → a || b ≡ c || d
or_same p q = rw (p, q) refl

and_same : {a b c d : Bool} → a ≡ c → b ≡ d → (a && b) ≡ (c && d)
and_same p q = rw (p, q) refl

starts_steady : (q : Token → Bool) (r : List Token → Bool) → Steady q → SteadyList r → SteadyList (starts q r)
starts_steady q r f g [] [] h = refl
starts_steady q r f g [] (u ∷ us) h = absurd h
starts_steady q r f g (t ∷ ts) [] h = absurd h
starts_steady q r f g (t ∷ ts) (u ∷ us) h = and_same (f t u h.0) (g ts us h.2)

alone_steady : (q : Token → Bool) → Steady q → SteadyList (alone q)
alone_steady q f = starts_steady q (λ rest. true) f (λ ts us h. refl)

keyword_steady : (text : List ℕ) → Steady (λ t. is_keyword_class t.class && bytes_eq t.bytes.now text)
keyword_steady text = by_class is_keyword_class (λ b. bytes_eq b text) refl

package_steady : SteadyList is_package
package_steady = starts_steady (mark "(") (alone (keyword_among (codes "module" ∷ codes "val" ∷ []))) (mark_steady (codes "("))
    (alone_steady (keyword_among (codes "module" ∷ codes "val" ∷ [])) (keywords_steady (codes "module" ∷ codes "val" ∷ [])))

rec_steady : SteadyList is_rec_module
rec_steady = starts_steady (keyword "module") (alone (keyword "rec")) (keyword_steady (codes "module"))
    (alone_steady (keyword "rec") (keyword_steady (codes "rec")))

equals_steady : SteadyList (alone (mark "="))
equals_steady = alone_steady (mark "=") (mark_steady (codes "="))

abstract_steady : SteadyList is_abstract_type
abstract_steady =
    starts_steady (keyword "module") (starts (keyword "type") (starts upper (λ rest. not (alone (mark "=") rest)))) (keyword_steady (codes "module"))
    (starts_steady (keyword "type") (starts upper (λ rest. not (alone (mark "=") rest))) (keyword_steady (codes "type"))
    (starts_steady upper (λ rest. not (alone (mark "=") rest)) upper_steady (λ ts us h. ap not (equals_steady ts us h))))

with_steady : SteadyList is_with_module
with_steady = starts_steady (keyword_among (codes "with" ∷ codes "and" ∷ [])) (alone (keyword "module"))
    (keywords_steady (codes "with" ∷ codes "and" ∷ [])) (alone_steady (keyword "module") (keyword_steady (codes "module")))

opens_steady : Steady opens_module
opens_steady t u h = or_same (keywords_steady (codes "struct" ∷ codes "functor" ∷ []) t u h) (mark_steady (codes "(") t u h)

named_steady : SteadyList is_named
named_steady = starts_steady upper (alone (mark "=")) upper_steady equals_steady

named_module_steady : SteadyList is_named_module
named_module_steady = starts_steady upper (starts (mark "=") (alone opens_module)) upper_steady
    (starts_steady (mark "=") (alone opens_module) (mark_steady (codes "=")) (alone_steady opens_module opens_steady))

local_steady : SteadyList is_local_module
local_steady =
    starts_steady (keyword "let") (starts (keyword "module") (λ rest. not (is_named rest) || is_named_module rest)) (keyword_steady (codes "let"))
    (starts_steady (keyword "module") (λ rest. not (is_named rest) || is_named_module rest) (keyword_steady (codes "module"))
    (λ ts us h. or_same (ap not (named_steady ts us h)) (named_module_steady ts us h)))

struct_steady : SteadyList is_struct
struct_steady ts us h = or_same (alone_steady (keyword "struct") (keyword_steady (codes "struct")) ts us h)
    (starts_steady bang (alone (keyword "struct")) bang_steady (alone_steady (keyword "struct") (keyword_steady (codes "struct"))) ts us h)

open_steady : SteadyList is_open_struct
open_steady = starts_steady (keyword "open") is_struct (keyword_steady (codes "open")) struct_steady

extension_steady : SteadyList is_extension
extension_steady ts us h = or_same (alone_steady (mark_among extension_marks) (marks_steady extension_marks) ts us h)
    (starts_steady (keyword_among extended_words) (alone (infix_on 37)) (keywords_steady extended_words)
    (alone_steady (infix_on 37) (infix_on_steady 37)) ts us h)

binder_steady : Steady is_binder
binder_steady t u h = or_same (ap is_infix_class h.0) (mark_steady (codes "=") t u h)

operator_steady : SteadyList is_binding_operator
operator_steady [] [] h = refl
operator_steady [] (u ∷ us) h = absurd h
operator_steady (t ∷ ts) [] h = absurd h
operator_steady (t ∷ []) (u ∷ []) h = and_same (keywords_steady (codes "let" ∷ codes "and" ∷ []) t u h.0) refl
operator_steady (t ∷ []) (u ∷ v ∷ us) h = absurd h.2
operator_steady (t ∷ s ∷ ts) (u ∷ []) h = absurd h.2
operator_steady (t ∷ s ∷ ts) (u ∷ v ∷ us) h = and_same (keywords_steady (codes "let" ∷ codes "and" ∷ []) t u h.0)
    (and_same (and_same (binder_steady s v h.2.0) h.1) refl)

abbrev sign_choice : Bool → Bool → Bool → Bool → Option FormKind
sign_choice a b c d = cond a (Some form.Extension) (cond b (Some form.BindOp) (cond c (Some form.Hash) (cond d (Some form.AmpOr) None)))

sign_same : (a b c d a' b' c' d' : Bool) → a' ≡ a → b' ≡ b → c' ≡ c → d' ≡ d → sign_choice a' b' c' d' ≡ sign_choice a b c d
sign_same a b c d a' b' c' d' e f g h = rw (e, f, g, h) refl

sign_kept : (ts us : List Token) → AreAlike ts us → sign_form_here us ≡ sign_form_here ts
sign_kept ts us h =
    sign_same (is_extension ts) (is_binding_operator ts) (alone (infix_on 35) ts) (alone (infix_is (codes "&")) ts || alone (keyword "or") ts)
    (is_extension us) (is_binding_operator us) (alone (infix_on 35) us) (alone (infix_is (codes "&")) us || alone (keyword "or") us)
    (extension_steady ts us h) (operator_steady ts us h) (alone_steady (infix_on 35) (infix_on_steady 35) ts us h)
    (or_same (alone_steady (infix_is (codes "&")) (infix_is_steady (codes "&")) ts us h)
    (alone_steady (keyword "or") (keyword_steady (codes "or")) ts us h))

abbrev form_choice : Bool → Bool → Bool → Bool → Bool → Bool → Bool → Option FormKind → Option FormKind
form_choice a b c d e f g o =
    cond a (Some form.Object)
    (cond b (Some form.Package)
    (cond c (Some form.RecModule)
    (cond d (Some form.AbsModType) (cond e (Some form.WithModule) (cond f (Some form.LocalModule) (cond g (Some form.OpenStruct) o))))))

form_same : (a b c d e f g a' b' c' d' e' f' g' : Bool) (o o' : Option FormKind) → a' ≡ a → b' ≡ b → c' ≡ c → d' ≡ d → e' ≡ e → f' ≡ f → g' ≡ g
    → o' ≡ o → form_choice a' b' c' d' e' f' g' o' ≡ form_choice a b c d e f g o
form_same a b c d e f g a' b' c' d' e' f' g' o o' p q r s t u v w = rw (p, q, r, s, t, u, v, w) refl

form_kept : (ts us : List Token) → AreAlike ts us → form_here us ≡ form_here ts
form_kept ts us h =
    form_same (alone (keyword_among object_words) ts) (is_package ts) (is_rec_module ts) (is_abstract_type ts) (is_with_module ts)
    (is_local_module ts) (is_open_struct ts)
    (alone (keyword_among object_words) us) (is_package us) (is_rec_module us) (is_abstract_type us) (is_with_module us) (is_local_module us)
    (is_open_struct us)
    (sign_form_here ts) (sign_form_here us)
    (alone_steady (keyword_among object_words) (keywords_steady object_words) ts us h) (package_steady ts us h) (rec_steady ts us h)
    (abstract_steady ts us h) (with_steady ts us h) (local_steady ts us h) (open_steady ts us h) (sign_kept ts us h)

pub forms_are_kept : FormsAreKept
forms_are_kept [] [] at h = refl
forms_are_kept [] (u ∷ us) at h = absurd h
forms_are_kept (t ∷ ts) [] at h = absurd h
forms_are_kept (t ∷ ts) (u ∷ us) at h =
    ap (λ f. form_or at f (first_form (suc at) us)) (form_kept (t ∷ ts) (u ∷ us) h)
    ∙ ap (form_or at (form_here (t ∷ ts))) (forms_are_kept ts us (suc at) h.2)
