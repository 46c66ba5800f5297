-- The first refused form depends on the kinds and texts of tokens, and on the joins.
use Rattle.std.proofs.Common.{◌≡◌, ◌||◌, ℕ, suc, List, [], ◌∷◌, Bool, true, false, Option, Some, None, map, refl, ap, sym, ◌∙◌}
use Rattle.std.specs.Prelude.{if◌then◌else◌, codes}
use Rattle.rotor_base.specs.declared.token.Class.{Class}
use Rattle.rotor_base.specs.declared.token.Token.{Token}
use Rattle.rotor_base.specs.declared.token.FormKind.{FormKind}
use Rattle.rotor_base.specs.declared.token.FormKind.TheVariants as form
use Rattle.ml_lexer.specs.Lexed.{Lexeme}
use Rattle.parse_base.specs.Forms.{alone, keyword_among, object_words, is_package, is_rec_module, is_abstract_type, is_with_module, is_local_module}
use Rattle.parse_base.specs.Forms.{is_open_struct, is_extension, is_binding_operator, infix_on, infix_is, keyword, form_here, form_or, first_form}
use Rattle.project_reading.specs.Source.{tokens_of}
use Rattle.token_laws.specs.Tokens.{texts_of, joins_of}

-- ---- a form, by whether a binding operator begins there

abbrev pub signed : Bool → List Token → Option FormKind
signed b ts =
    if is_extension ts then Some form.Extension else
    if b then Some form.BindOp else
    if alone (infix_on 35) ts then Some form.Hash else
    if alone (infix_is (codes "&")) ts || alone (keyword "or") ts then Some form.AmpOr else
    None

abbrev pub formed : Bool → List Token → Option FormKind
formed b ts =
    if alone (keyword_among object_words) ts then Some form.Object else
    if is_package ts then Some form.Package else
    if is_rec_module ts then Some form.RecModule else
    if is_abstract_type ts then Some form.AbsModType else
    if is_with_module ts then Some form.WithModule else
    if is_local_module ts then Some form.LocalModule else
    if is_open_struct ts then Some form.OpenStruct else
    signed b ts

formed_here : (ts : List Token) → form_here ts ≡ formed (is_binding_operator ts) ts
formed_here ts = refl

-- ---- lexemes without their offsets

abbrev unplaced : Class × List ℕ → Lexeme
unplaced x = record { class = x.0; start = 0; end = 0; bytes = x.1 }

abbrev unplaced_all : List (Class × List ℕ) → List Lexeme
unplaced_all = map unplaced

formed_unplaced : (b : Bool) (xs : List Lexeme) → formed b (tokens_of xs) ≡ formed b (tokens_of (unplaced_all (texts_of xs)))
formed_unplaced b [] = refl
formed_unplaced b (v ∷ []) = refl
formed_unplaced b (v ∷ (w ∷ [])) = refl
formed_unplaced b (v ∷ (w ∷ (x ∷ []))) = refl
formed_unplaced b (v ∷ (w ∷ (x ∷ (y ∷ [])))) = refl
formed_unplaced b (v ∷ (w ∷ (x ∷ (y ∷ (z ∷ xs))))) = refl

same_form_here : (xs ys : List Lexeme) → texts_of xs ≡ texts_of ys → is_binding_operator (tokens_of xs) ≡ is_binding_operator (tokens_of ys)
    → form_here (tokens_of xs) ≡ form_here (tokens_of ys)
same_form_here xs ys texts joins =
    let b = is_binding_operator (tokens_of xs) in
    formed_unplaced b xs
    ∙ (ap (λ ts. formed b (tokens_of (unplaced_all ts))) texts
    ∙ (sym (formed_unplaced b ys) ∙ ap (λ c. formed c (tokens_of ys)) joins))

-- ---- the first form

pub texts_behind : (x y : Lexeme) (xs ys : List Lexeme) → texts_of (x ∷ xs) ≡ texts_of (y ∷ ys) → texts_of xs ≡ texts_of ys
texts_behind x y xs ys e = behind (x.class, x.bytes) (y.class, y.bytes) (texts_of xs) (texts_of ys) e where
  behind : (p q : Class × List ℕ) (u v : List (Class × List ℕ)) → p ∷ u ≡ q ∷ v → u ≡ v
  behind p q u v f = cc

head_join : (p q : Bool) (u v : List Bool) → p ∷ u ≡ q ∷ v → p ≡ q
head_join p q u v f = cc

joins_behind : (p q : Bool) (u v : List Bool) → p ∷ u ≡ q ∷ v → u ≡ v
joins_behind p q u v f = cc

pub same_first_form : (at : ℕ) (xs ys : List Lexeme) → texts_of xs ≡ texts_of ys → joins_of xs ≡ joins_of ys
    → first_form at (tokens_of xs) ≡ first_form at (tokens_of ys)
same_first_form at [] [] texts joins = refl
same_first_form at [] (y ∷ ys) texts joins = let wrong : [] ≡ (y.class, y.bytes) ∷ texts_of ys = texts in cc
same_first_form at (x ∷ xs) [] texts joins = let wrong : (x.class, x.bytes) ∷ texts_of xs ≡ [] = texts in cc
same_first_form at (x ∷ xs) (y ∷ ys) texts joins =
    let a = is_binding_operator (tokens_of (x ∷ xs)) in
    let b = is_binding_operator (tokens_of (y ∷ ys)) in
    ap (λ o. form_or at o (first_form (suc at) (tokens_of xs)))
    (same_form_here (x ∷ xs) (y ∷ ys) texts (head_join a b (joins_of xs) (joins_of ys) joins))
    ∙ ap (λ o. form_or at (form_here (tokens_of (y ∷ ys))) o)
    (same_first_form (suc at) xs ys (texts_behind x y xs ys texts) (joins_behind a b (joins_of xs) (joins_of ys) joins))

-- ---- where no form is, there is no join

otherwise : (b : Bool) (k : FormKind) (o : Option FormKind) → (if b then Some k else o) ≡ None → o ≡ None
otherwise true k o e = let wrong : Some k ≡ None = e in cc
otherwise false k o e = e

not_so : (b : Bool) (k : FormKind) (o : Option FormKind) → (if b then Some k else o) ≡ None → b ≡ false
not_so true k o e = let wrong : Some k ≡ None = e in cc
not_so false k o e = refl

no_join_here : (ts : List Token) → form_here ts ≡ None → is_binding_operator ts ≡ false
no_join_here ts e =
    not_so (is_binding_operator ts) form.BindOp _
    (otherwise (is_extension ts) form.Extension _
    (otherwise (is_open_struct ts) form.OpenStruct _
    (otherwise (is_local_module ts) form.LocalModule _
    (otherwise (is_with_module ts) form.WithModule _
    (otherwise (is_abstract_type ts) form.AbsModType _
    (otherwise (is_rec_module ts) form.RecModule _
    (otherwise (is_package ts) form.Package _
    (otherwise (alone (keyword_among object_words) ts) form.Object _ e))))))))

none_here : (at : ℕ) (o : Option FormKind) (later : Option (ℕ × FormKind)) → form_or at o later ≡ None → (o ≡ None) × (later ≡ None)
none_here at None later e = (refl, e)
none_here at (Some k) later e = let wrong : ◌≡◌ {A = Option (ℕ × FormKind)} (Some (at, k)) None = e in absurd cc

-- no lexeme is joined with the next
abbrev pub no_joins : List (Class × List ℕ) → List Bool
no_joins ts = map (λ t. false) ts

pub none_joined : (at : ℕ) (xs : List Lexeme) → first_form at (tokens_of xs) ≡ None → joins_of xs ≡ no_joins (texts_of xs)
none_joined at [] e = refl
none_joined at (x ∷ xs) e =
    let k = none_here at (form_here (tokens_of (x ∷ xs))) (first_form (suc at) (tokens_of xs)) e in
    ap (λ b. b ∷ joins_of xs) (no_join_here (tokens_of (x ∷ xs)) k.0) ∙ ap (λ bs. false ∷ bs) (none_joined (suc at) xs k.1)
