use Rattle.std.proofs.Common.{◌≡◌, ◌<◌, ◌≤◌, ℕ, Some, IfNone, Option, List, length, ap, sym, subst, ◌∙◌, All, get_or}
use Rattle.std.specs.Global.{Vec}
use Rattle.rotor_base.specs.declared.place.Place.{Place}
use Rattle.rotor_base.specs.declared.source.SourceFile.{SourceFile}
use Rattle.rotor_base.specs.declared.token.Token.{Token}
use Rattle.ml_lexer.specs.Lexed.{Lexeme, view_token, view_tokens}
use Rattle.rename_model.specs.Target.{IsSpot, number_of}
use Rattle.rename_project.proofs.Cuts.{within, spot_at, few_at, length_map, IsTold}
use Rattle.rename_project.proofs.aim.spot_of.Goals as goal

abbrev view : Vec Token → List Lexeme
view list = view_tokens list.items

of_lists : (n : ℕ) (a b : List (Vec Token)) (t : Vec Token) → a ≡ b → t ≡ get_or a n t → t ≡ get_or b n t
of_lists n a b t e h = h ∙ ap (λ (l : List (Vec Token)). get_or l n t) e

of_files : (n : ℕ) (a b : List SourceFile) (s : SourceFile) → a ≡ b → s ≡ get_or a n s → s ≡ get_or b n s
of_files n a b s e h = h ∙ ap (λ (l : List SourceFile). get_or l n s) e

pub bounds-as_slice-number : goal.bounds-as_slice-number
bounds-as_slice-number c =
    let n = c.in_ok-number.number in
    let w : n < length c.args.files.now.entries =
    subst (λ (l : List SourceFile). n < length l) c.entries.ensures.entries c.in_ok-number.ensures.within in
    subst (λ (l : List (Vec Token)). n < length l) (sym c.as_slice.ensures.value)
    (within view c.args.files.now.entries c.args.read.now.tokens.items c.requires n w)

pub token_at-requires-clause-tokens : goal.token_at-requires-clause-tokens
token_at-requires-clause-tokens c =
    let n = c.in_ok-number.number in
    let files = c.args.files.now.entries in
    let w : n < length files = subst (λ (l : List SourceFile). n < length l) c.entries.ensures.entries c.in_ok-number.ensures.within in
    let k : length (view_tokens c.deref.result.now) ≤ 1048576 =
    few_at view files c.args.read.now.tokens.items c.requires n c.index-entries-number.result c.index-as_slice-number.result w
    (of_files n c.entries-2.result.now files c.index-entries-number.result c.entries-2.ensures.entries c.index-entries-number.is)
    (of_lists n c.as_slice.result.now c.args.read.now.tokens.items c.index-as_slice-number.result c.as_slice.ensures.value c.index-as_slice-number.is)
    (view_tokens c.deref.result.now) (ap view_tokens c.deref.ensures.value)
    (subst (All (λ file. length file.bytes ≤ 1048576)) c.entries.ensures.entries c.entries.ensures.small) in
    subst (λ (m : ℕ). m ≤ 1048576) (length_map view_token c.deref.result.now) k

pub returns-in_err-token-clause-none : goal.returns-in_err-token-clause-none
returns-in_err-token-clause-none c =
    let n = c.in_ok-number.number in
    let files = c.args.files.now.entries in
    let w : n < length files = subst (λ (l : List SourceFile). n < length l) c.entries.ensures.entries c.in_ok-number.ensures.within in
    let number : number_of files c.args.file.now ≡ Some n =
    sym (c.in_ok-number.ensures.found
    ∙ (ap (λ (l : List SourceFile). number_of l c.as_bytes.result.now) c.entries.ensures.entries ∙ ap (number_of files) c.as_bytes.ensures)) in
    let told : IsTold files c.args.file.now (c.args.line, c.args.column) n c.token_at.result =
    spot_at view files c.args.read.now.tokens.items c.requires n c.index-entries-number.result c.index-as_slice-number.result w
    (of_files n c.entries-2.result.now files c.index-entries-number.result c.entries-2.ensures.entries c.index-entries-number.is)
    (of_lists n c.as_slice.result.now c.args.read.now.tokens.items c.index-as_slice-number.result c.as_slice.ensures.value c.index-as_slice-number.is)
    (view_tokens c.deref.result.now) (ap view_tokens c.deref.ensures.value)
    c.args.file.now (c.args.line, c.args.column) c.as_slice-2.result.now c.token_at.result number c.as_slice-2.ensures c.token_at.ensures in
    subst (λ (o : Option Place). IfNone o ((p : Place) → IsSpot files c.args.file.now (c.args.line, c.args.column) p → ⊥))
    (sym c.from_residual-in_err-token.ensures)
    (subst (IsTold files c.args.file.now (c.args.line, c.args.column) n) c.in_err-token.was told)

pub returns-clause-found : goal.returns-clause-found
returns-clause-found c =
    let n = c.in_ok-number.number in
    let files = c.args.files.now.entries in
    let w : n < length files = subst (λ (l : List SourceFile). n < length l) c.entries.ensures.entries c.in_ok-number.ensures.within in
    let number : number_of files c.args.file.now ≡ Some n =
    sym (c.in_ok-number.ensures.found
    ∙ (ap (λ (l : List SourceFile). number_of l c.as_bytes.result.now) c.entries.ensures.entries ∙ ap (number_of files) c.as_bytes.ensures)) in
    let told : IsTold files c.args.file.now (c.args.line, c.args.column) n c.token_at.result =
    spot_at view files c.args.read.now.tokens.items c.requires n c.index-entries-number.result c.index-as_slice-number.result w
    (of_files n c.entries-2.result.now files c.index-entries-number.result c.entries-2.ensures.entries c.index-entries-number.is)
    (of_lists n c.as_slice.result.now c.args.read.now.tokens.items c.index-as_slice-number.result c.as_slice.ensures.value c.index-as_slice-number.is)
    (view_tokens c.deref.result.now) (ap view_tokens c.deref.ensures.value)
    c.args.file.now (c.args.line, c.args.column) c.as_slice-2.result.now c.token_at.result number c.as_slice-2.ensures c.token_at.ensures in
    subst (IsTold files c.args.file.now (c.args.line, c.args.column) n) c.in_ok-token.was told
