use Rattle.std.proofs.Common.{◌≡◌, ℕ, ◌≤◌, List, length, map, IfOk, Ok, Err, Result, ap, sym, subst, ◌∙◌, arith, [], ◌∷◌, refl}
use Rattle.std.specs.Global.{Vec}
use Rattle.rotor_base.specs.declared.token.Token.{Token}
use Rattle.edits.specs.declared.Edit.{Edit}
use Rattle.edits.specs.Replaced.{AreInOrder, replaced}
use Rattle.edits.proofs.Lexemes.{replaced_is_respelled}
use Rattle.ml_lexer.specs.Lexed.{Lexed, view_token, view_tokens}
use Rattle.ml_lexer.specs.Respelled.{respelled}
use Rattle.ml_lexer.proofs.Order.{lexemes_are_few}
use Rattle.rename_parts.specs.Hits.{hit_words}
use Rattle.rename_parts.proofs.bytes.new_bytes.Goals as goal

ok_as : {E : Type 0} (r : Result (Vec ℕ) E) (x y : List ℕ) → x ≡ y → IfOk r (λ bytes. bytes.items ≡ x) → IfOk r (λ bytes. bytes.items ≡ y)
ok_as (Ok b) x y e h = h ∙ e
ok_as (Err e') x y e h = tt

length_map : {A B : Type 0} (f : A → B) (xs : List A) → length (map f xs) ≡ length xs
length_map f [] = refl
length_map f (x ∷ xs) = let k : length (map f xs) ≡ length xs = length_map f xs in omega (arith, k)

few : (src : List ℕ) (ts : List Token) → Lexed src (view_tokens ts) → length src ≤ 1048576 → length ts ≤ 1048576
few src ts h w = let k : length (view_tokens ts) ≤ length src = lexemes_are_few src (view_tokens ts) h in
    let l : length (view_tokens ts) ≡ length ts = length_map view_token ts in omega (arith, k, w, l)

pub edits_of-requires-clause-tokens : goal.edits_of-requires-clause-tokens
edits_of-requires-clause-tokens c = few c.args.source.now c.args.tokens.now c.requires.cut c.requires.source

pub apply-requires-clause-spans : goal.apply-requires-clause-spans
apply-requires-clause-spans c =
    let xs = view_tokens c.args.tokens.now in
    subst (λ (es : List Edit). AreInOrder 0 (length c.args.source.now) es) (sym c.deref.ensures.value)
    (replaced_is_respelled c.args.source.now xs (hit_words c.args.set.now c.args.file c.args.new.now 1 xs) c.in_ok-edits.edits.items c.requires.cut
    c.in_ok-edits.ensures.words).0

pub returns : goal.returns
returns c =
    let xs = view_tokens c.args.tokens.now in
    let ws = hit_words c.args.set.now c.args.file c.args.new.now 1 xs in
    ok_as c.apply.result (replaced c.args.source.now c.deref.result.now) (respelled c.args.source.now xs ws)
    (ap (λ (es : List Edit). replaced c.args.source.now es) c.deref.ensures.value
    ∙ (replaced_is_respelled c.args.source.now xs ws c.in_ok-edits.edits.items c.requires.cut c.in_ok-edits.ensures.words).1)
    c.apply.ensures.replaced
