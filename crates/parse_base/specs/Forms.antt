-- The refused forms: patterns of tokens, each with its kind (own; the OCaml manual, "Language extensions", "Objects in
-- OCaml" and the chapters of the forms).
use Rattle.std.specs.Prelude.{ℕ, suc, List, [], ◌∷◌, Bool, true, false, ◌==◌, ◌&&◌, ◌||◌, not, Option, Some, None, if◌then◌else◌, codes, slice_index}
use Rattle.std.specs.Str.{bytes_eq}
use Rattle.std.specs.List.{list_any}
use Prim.Native.String.{String}
use Rattle.rotor_base.specs.declared.token.Class.{Class}
use Rattle.rotor_base.specs.declared.token.Class.TheVariants as class
use Rattle.rotor_base.specs.declared.token.Token.{Token}
use Rattle.rotor_base.specs.declared.token.FormKind.{FormKind}
use Rattle.rotor_base.specs.declared.token.FormKind.TheVariants as form

abbrev pub is_keyword_class : Class → Bool
is_keyword_class class.Keyword = true
is_keyword_class _ = false

abbrev pub is_mark_class : Class → Bool
is_mark_class class.Mark = true
is_mark_class _ = false

abbrev pub is_infix_class : Class → Bool
is_infix_class class.Infix = true
is_infix_class _ = false

abbrev pub is_upper_class : Class → Bool
is_upper_class class.Upper = true
is_upper_class _ = false

abbrev pub is_prefix_class : Class → Bool
is_prefix_class class.Prefix = true
is_prefix_class _ = false

-- ---- one token

abbrev pub keyword_is : List ℕ → Token → Bool
keyword_is text t = is_keyword_class t.class && bytes_eq t.bytes.now text

abbrev pub keyword : String → Token → Bool
keyword text t = keyword_is (codes text) t

abbrev pub mark_is : List ℕ → Token → Bool
mark_is text t = is_mark_class t.class && bytes_eq t.bytes.now text

abbrev pub mark : String → Token → Bool
mark text t = mark_is (codes text) t

abbrev pub infix_is : List ℕ → Token → Bool
infix_is text t = is_infix_class t.class && bytes_eq t.bytes.now text

-- an Infix that begins with this byte
abbrev pub infix_on : ℕ → Token → Bool
infix_on b t = is_infix_class t.class && slice_index t.bytes.now 0 == b

abbrev pub upper : Token → Bool
upper t = is_upper_class t.class

abbrev pub bang : Token → Bool
bang t = is_prefix_class t.class && bytes_eq t.bytes.now (codes "!")

-- one of some keywords, or of some marks, each with its text
abbrev pub keyword_by : {A : Type 0} → (A → List ℕ) → List A → Token → Bool
keyword_by text words t = is_keyword_class t.class && list_any (λ word. bytes_eq (text word) t.bytes.now) words

abbrev pub mark_by : {A : Type 0} → (A → List ℕ) → List A → Token → Bool
mark_by text words t = is_mark_class t.class && list_any (λ word. bytes_eq (text word) t.bytes.now) words

abbrev pub keyword_among : List (List ℕ) → Token → Bool
keyword_among words t = keyword_by (λ word. word) words t

abbrev pub mark_among : List (List ℕ) → Token → Bool
mark_among words t = mark_by (λ word. word) words t

-- the keywords of classes and objects
abbrev pub object_words : List (List ℕ)
object_words = codes "class" ∷ codes "object" ∷ codes "method" ∷ codes "new" ∷ codes "inherit" ∷ codes "initializer" ∷ codes "virtual" ∷ []

-- the keywords that a `%` may follow
abbrev pub extended_words : List (List ℕ)
extended_words =
    codes "let" ∷ codes "if" ∷ codes "match" ∷ codes "try" ∷ codes "fun" ∷ codes "function" ∷ codes "for" ∷ codes "while" ∷
    codes "begin" ∷ codes "open" ∷ codes "module" ∷ codes "type" ∷ codes "val" ∷ codes "external" ∷ codes "include" ∷
    codes "exception" ∷ codes "assert" ∷ codes "lazy" ∷ []

-- the marks that begin an extension
abbrev pub extension_marks : List (List ℕ)
extension_marks = codes "[%" ∷ codes "[%%" ∷ codes "{%" ∷ []

-- ---- the first tokens

-- the first token passes this test, and those behind it this one
abbrev pub starts : (Token → Bool) → (List Token → Bool) → List Token → Bool
starts q rest [] = false
starts q rest (t ∷ ts) = q t && rest ts

abbrev pub alone : (Token → Bool) → List Token → Bool
alone q ts = starts q (λ rest. true) ts

-- `(` before `module` or `val`
abbrev pub is_package : List Token → Bool
is_package ts = starts (mark "(") (alone (keyword_among (codes "module" ∷ codes "val" ∷ []))) ts

-- `module` before `rec`
abbrev pub is_rec_module : List Token → Bool
is_rec_module ts = starts (keyword "module") (alone (keyword "rec")) ts

-- `module`, `type`, an Upper, and then no `=`
abbrev pub is_abstract_type : List Token → Bool
is_abstract_type ts = starts (keyword "module") (starts (keyword "type") (starts upper (λ rest. not (alone (mark "=") rest)))) ts

-- `with` or `and` before `module`
abbrev pub is_with_module : List Token → Bool
is_with_module ts = starts (keyword_among (codes "with" ∷ codes "and" ∷ [])) (alone (keyword "module")) ts

-- `struct`, `functor` or `(`
abbrev pub opens_module : Token → Bool
opens_module t = keyword_among (codes "struct" ∷ codes "functor" ∷ []) t || mark "(" t

-- an Upper with `=`
abbrev pub is_named : List Token → Bool
is_named ts = starts upper (alone (mark "=")) ts

-- an Upper with `=` and then what begins another module than a path
abbrev pub is_named_module : List Token → Bool
is_named_module ts = starts upper (starts (mark "=") (alone opens_module)) ts

-- `let`, `module`, and then not an Upper with `=`, or one and then `struct`, `functor` or `(`
abbrev pub is_local_module : List Token → Bool
is_local_module ts = starts (keyword "let") (starts (keyword "module") (λ rest. not (is_named rest) || is_named_module rest)) ts

-- `struct`, or `!` and `struct`
abbrev pub is_struct : List Token → Bool
is_struct ts = alone (keyword "struct") ts || starts bang (alone (keyword "struct")) ts

-- `open` before `struct`, or `open`, `!`, `struct`
abbrev pub is_open_struct : List Token → Bool
is_open_struct ts = starts (keyword "open") is_struct ts

-- `[%`, `[%%` or `{%`, or a keyword that an Infix beginning with `%` follows
abbrev pub is_extension : List Token → Bool
is_extension ts = alone (mark_among extension_marks) ts || starts (keyword_among extended_words) (alone (infix_on 37)) ts

-- an Infix, or `=`
abbrev pub is_binder : Token → Bool
is_binder t = is_infix_class t.class || mark "=" t

-- `let` or `and` that an Infix or `=` follows with no trivia between
abbrev pub is_binding_operator : List Token → Bool
is_binding_operator [] = false
is_binding_operator (t ∷ ts) = keyword_among (codes "let" ∷ codes "and" ∷ []) t && alone (λ u. is_binder u && t.end == u.start) ts

-- the last rows, which are recognized by a sign
abbrev pub sign_form_here : List Token → Option FormKind
sign_form_here ts =
    if is_extension ts then Some form.Extension else
    if is_binding_operator ts then Some form.BindOp else
    if alone (infix_on 35) ts then Some form.Hash else
    if alone (infix_is (codes "&")) ts || alone (keyword "or") ts then Some form.AmpOr else
    None

-- the form that begins at the first of these tokens: the first row that holds there
abbrev pub form_here : List Token → Option FormKind
form_here ts =
    if alone (keyword_among object_words) ts then Some form.Object else
    if is_package ts then Some form.Package else
    if is_rec_module ts then Some form.RecModule else
    if is_abstract_type ts then Some form.AbsModType else
    if is_with_module ts then Some form.WithModule else
    if is_local_module ts then Some form.LocalModule else
    if is_open_struct ts then Some form.OpenStruct else
    sign_form_here ts

-- the first token from this number on at which a form begins
abbrev pub form_or : ℕ → Option FormKind → Option (ℕ × FormKind) → Option (ℕ × FormKind)
form_or at None later = later
form_or at (Some kind) later = Some (at, kind)

abbrev pub first_form : ℕ → List Token → Option (ℕ × FormKind)
first_form at [] = None
first_form at (t ∷ ts) = form_or at (form_here (t ∷ ts)) (first_form (suc at) ts)
