-- What the reader of a file answers, as what its source is read as, or why it is not.
use Rattle.std.proofs.Common.{◌≡◌, ◌≢◌, ℕ, List, Some, None, Result, Ok, Err, ap, subst, ◌∙◌}
use Rattle.rotor_base.specs.declared.refusal.Refusal.TheVariants as refusal
use Rattle.rotor_base.specs.declared.source.SourceFile.{SourceFile}
use Rattle.rotor_base.specs.declared.token.FormKind.{FormKind}
use Rattle.rotor_base.specs.declared.token.Token.{Token}
use Rattle.ml_lexer.specs.Lexed.{Lexed, view_tokens}
use Rattle.ml_trees.specs.declared.module.FileTree.{FileTree as Source}
use Rattle.ml_trees.specs.View.{view_file}
use Rattle.parse_base.specs.Forms.{first_form}
use Rattle.token_reading.specs.Tokens.{from}
use Rattle.parse_base.specs.Nesting.{DeepIs}
use Rattle.parse_base.specs.declared.error.ParseError.{ParseError}
use Rattle.parse_base.specs.declared.error.ParseError.TheVariants as refused
use Rattle.parse_module.specs.declared.files.FileKind.{FileKind}
use Rattle.parse_module.specs.Whole.{IsTreeOf, HasNoTree, told_form, told_deep}
use Rattle.project_reading.specs.Source.{kind_of_source, IsPlain, ReadsAs, IsUnread, form, deep, syntax, place}
use Rattle.project_reading.proofs.Tokens.{form_same, deep_same, toks_same}

-- what the reader says of a file's forms and of its nesting
pub record Tells (ts : List Token) (r : Result Source ParseError) : Type 0 where
  pub forms : r ≢ Err refused.Memory → first_form 1 ts ≡ told_form r
  pub nesting : r ≢ Err refused.Memory → first_form 1 ts ≡ None → DeepIs ts (told_deep r)

module _ (number : ℕ) (source : SourceFile) (k : FileKind) (ts : List Token) (same : k ≡ kind_of_source source.name)
    (cut : Lexed source.bytes (view_tokens ts)) where
  plain : first_form 1 ts ≡ None → DeepIs ts None → IsPlain source.bytes (view_tokens ts)
  plain f d = record { cut = cut; no_form = form_same ts ∙ f; shallow = deep_same ts None d }

  pub read_tree : (r : Result Source ParseError) (tree : Source) → r ≡ Ok tree → Tells ts r → IsTreeOf k number (from ts 0) (view_file tree)
      → ReadsAs number source (view_file tree)
  read_tree r tree e tells h =
      let fine : r ≢ Err refused.Memory = λ bad. cc in
      let f : first_form 1 ts ≡ None = tells.forms fine ∙ ap told_form e in
      let d : DeepIs ts None = subst (λ q. DeepIs ts (told_deep q)) e (tells.nesting fine f) in
      record {
        lexemes = view_tokens ts;
        plain = plain f d;
        parsed = subst (λ w. IsTreeOf (kind_of_source source.name) number w (view_file tree)) (toks_same ts)
            (subst (λ j. IsTreeOf j number (from ts 0) (view_file tree)) same h);
      }

  pub read_form : (r : Result Source ParseError) (token : ℕ) (kind : FormKind) → r ≡ Err (refused.Form token kind) → Tells ts r
      → IsUnread number source (refusal.Form (place number token) kind)
  read_form r token kind e tells =
      let fine : r ≢ Err refused.Memory = λ bad. cc in
      form (view_tokens ts) token kind cut (form_same ts ∙ tells.forms fine ∙ ap told_form e)

  pub read_deep : (r : Result Source ParseError) (token : ℕ) → r ≡ Err (refused.Deep token) → Tells ts r
      → IsUnread number source (refusal.Deep (place number token))
  read_deep r token e tells =
      let fine : r ≢ Err refused.Memory = λ bad. cc in
      let f : first_form 1 ts ≡ None = tells.forms fine ∙ ap told_form e in
      deep (view_tokens ts) token cut (form_same ts ∙ f) (deep_same ts (Some token) (subst (λ q. DeepIs ts (told_deep q)) e (tells.nesting fine f)))

  pub read_nothing : (r : Result Source ParseError) → r ≡ Err refused.Syntax → Tells ts r
      → (r ≡ Err refused.Syntax → HasNoTree k number (from ts 0)) → IsUnread number source (refusal.Syntax number)
  read_nothing r e tells none =
      let fine : r ≢ Err refused.Memory = λ bad. cc in
      let f : first_form 1 ts ≡ None = tells.forms fine ∙ ap told_form e in
      let d : DeepIs ts None = subst (λ q. DeepIs ts (told_deep q)) e (tells.nesting fine f) in
      syntax (view_tokens ts) (plain f d)
      (subst (λ w. HasNoTree (kind_of_source source.name) number w) (toks_same ts) (subst (λ j. HasNoTree j number (from ts 0)) same (none e)))
