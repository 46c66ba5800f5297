-- The renamings of two disjoint footprints, in either order.
use Rattle.std.proofs.Common.{◌≡◌, ℕ, suc, List, [], ◌∷◌, Bool, true, false, map, Option, Some, None, Contains, refl, ap, sym, subst, ◌∙◌}
use Rattle.std.specs.List.{list_any}
use Rattle.rotor_base.specs.Files.{FileSet, IsProject}
use Rattle.rotor_base.specs.Place.{same_place}
use Rattle.rotor_base.specs.declared.place.Foot.{Foot}
use Rattle.rotor_base.specs.declared.place.Goal.{Goal}
use Rattle.rotor_base.specs.declared.place.Goal.TheVariants.{Decl, Outside, Missing, Hidden, Blur}
use Rattle.rotor_base.specs.declared.place.Place.{Place}
use Rattle.rotor_base.specs.declared.place.Ref.{Ref}
use Rattle.rotor_base.specs.declared.report.Renamed.{Renamed}
use Rattle.rotor_base.specs.declared.source.SourceFile.{SourceFile}
use Rattle.rotor_base.specs.declared.target.Target.{Target}
use Rattle.rotor_base.specs.declared.token.Class.{Class}
use Rattle.rotor_base.specs.declared.token.Class.TheVariants as class
use Rattle.ml_lexer.specs.Lexed.{Lexeme}
use Rattle.ml_lexer.specs.Respelled.{respelled}
use Rattle.value_sites.specs.Respelled.{Spelling, spelled}
use Rattle.ml_syntax.specs.RespelledFile.{new_words}
use Rattle.ml_syntax.specs.RespelledSource.{Spellings, AreRespelled}
use Rattle.shape_core.specs.Shape.{Name, or_else, or_value, some_if}
use Rattle.binding_model.specs.Facts.{facts}
use Rattle.binding_model.specs.Renaming.{Renaming, at_place, goal_at, in_file, new_word, words_of, IsValid}
use Rattle.binding_model.proofs.Standing.{given, member_in}
use Rattle.project_reading.proofs.OneReading.{one_project}
use Rattle.respelled_reading.specs.Renamed.{AreRenamed, GivesValueNames}
use Rattle.rename_model.specs.Renaming.{watch_of, renamed}
use Rattle.rename_model.proofs.One.{one_sources}
use Rattle.rename_files.specs.Answer.{Accepted}
use Rattle.rename_laws.proofs.Accepted.{renamable}
use Rattle.rename_laws.proofs.Kept as kept
use Rattle.valid_renamings.specs.Laws.{together}
use Rattle.valid_renamings.proofs.Together.{at_together}
use Rattle.accepted_renamings.specs.Laws.{AreDisjoint, EitherOrder}
use Rattle.accepted_renamings.proofs.GoOn.{sources}

-- ---- sources under words that are alike

module _ (w v : Spelling) (alike : (at : ℕ) (x : List ℕ) → w at x ≡ v at x) where
  text_alike : (k : Class) (at : ℕ) (text : List ℕ) → (spelled w k (record { at = at; text = text })).text
      ≡ (spelled v k (record { at = at; text = text })).text
  text_alike class.Lower at text = alike at text
  text_alike _ at text = refl

  pub texts_alike : (at : ℕ) (xs : List Lexeme) → new_words w at xs ≡ new_words v at xs
  texts_alike at [] = refl
  texts_alike at (x ∷ xs) =
      ap (λ t. t ∷ new_words w (suc at) xs) (text_alike x.class at x.bytes)
      ∙ ap (λ ts. (spelled v x.class (record { at = at; text = x.bytes })).text ∷ ts) (texts_alike (suc at) xs)

module _ (w v : Spellings) (alike : (file at : ℕ) (x : List ℕ) → w file at x ≡ v file at x) where
  respelled_alike : (n : ℕ) (olds news : List SourceFile) → AreRespelled w n olds news → AreRespelled v n olds news
  respelled_alike n [] [] h = tt
  respelled_alike n [] (x ∷ news) h = absurd h
  respelled_alike n (o ∷ olds) [] h = absurd h
  respelled_alike n (o ∷ olds) (x ∷ news) h = (
    record {
      lexemes = h.0.lexemes;
      cut = h.0.cut;
      name = h.0.name;
      bytes = h.0.bytes ∙ ap (respelled o.bytes h.0.lexemes) (texts_alike (w n) (v n) (alike n) 1 h.0.lexemes);
    },
    respelled_alike (suc n) olds news h.1,
  )

-- ---- the words of two renamings

-- the new name for each declaration of a footprint
abbrev names : Name → Foot → Renaming
names x foot = map (λ d. (d, x)) foot.decls

module _ (one other : Foot) (x y : Name) (apart : AreDisjoint one other) where
  either : (a b : Bool) → (a ≡ true → b ≡ true → ⊥) → or_else (some_if a x) (some_if b y) ≡ or_else (some_if b y) (some_if a x)
  either true true n = absurd (n refl refl)
  either true false n = refl
  either false true n = refl
  either false false n = refl

  at_either : (d : Place) → at_place (together (names y other) (names x one)) d ≡ at_place (together (names x one) (names y other)) d
  at_either d =
      let a = list_any (same_place d) one.decls in
      let b = list_any (same_place d) other.decls in
      at_together (names x one) (names y other) d
      ∙ ap (λ o. or_else o (at_place (names y other) d)) (given x one.decls d)
      ∙ ap (λ o. or_else (some_if a x) o) (given y other.decls d)
      ∙ either a b (λ i j. apart d (member_in d one.decls i) (member_in d other.decls j))
      ∙ ap (λ o. or_else (some_if b y) o) (sym (given x one.decls d))
      ∙ ap (λ o. or_else o (at_place (names x one) d)) (sym (given y other.decls d))
      ∙ sym (at_together (names y other) (names x one) d)

  word_either : (o : Option Goal) (at : Place) (z : Name) → new_word (together (names y other) (names x one)) o at z
      ≡ new_word (together (names x one) (names y other)) o at z
  word_either None at z = ap (λ o. or_value o z) (at_either at)
  word_either (Some (Decl d)) at z = ap (λ o. or_value o z) (at_either d)
  word_either (Some Outside) at z = refl
  word_either (Some Missing) at z = refl
  word_either (Some Hidden) at z = refl
  word_either (Some (Blur by n o)) at z = refl

  words_either : (refs : List Ref) (at : Place) (z : Name) → words_of (together (names y other) (names x one)) refs at z
      ≡ words_of (together (names x one) (names y other)) refs at z
  words_either refs at z = word_either (goal_at refs at) at z

-- ---- one order

-- the sources after two renamings are those of both
route : (files : FileSet) (here there : Target) (first second : Name) (one two : Renamed) → IsProject files → (a : Accepted files here first one)
    → (b : Accepted one.files there second two)
    → AreRespelled (in_file (words_of (together (names first a.foot) (names second b.foot)) (facts a.project).refs)) 0 files.entries
    two.files.entries
route files here there first second one two p a b =
    let us = a.project in
    let d = a.binder in
    let foot = a.foot in
    let h = renamable files here first one p a in
    let S = a.renaming.sources in
    let M = a.renaming.manifest in
    let vs = renamed us (watch_of us d foot first) in
    let q = kept.out_is files us d foot first h one.files S M in
    let project : b.project ≡ vs = one_project one.files b.project vs b.accepts.reads (kept.still files us d foot first h one.files S M) in
    let hb = renamable one.files there second two q b in
    let s : Renaming = names second b.foot in
    sources files one.files two.files p q us a.accepts.reads (names first foot) s
    (kept.valid files us d foot first h one.files S M)
    (kept.gives files us d foot first h)
    (record { sources = S; manifest = M })
    (subst (λ ws. IsValid ws s) project
    (kept.valid one.files b.project b.binder b.foot second hb two.files b.renaming.sources b.renaming.manifest))
    (subst (λ ws. GivesValueNames ws s) project (kept.gives one.files b.project b.binder b.foot second hb))
    (subst (λ ws. AreRenamed ws s one.files two.files) project
    (record { sources = b.renaming.sources; manifest = b.renaming.manifest }))

files_same : (a b : FileSet) → a.entries ≡ b.entries → a.manifest ≡ b.manifest → a ≡ b
files_same a b e f = ap (λ x. record { entries = x; manifest = a.manifest }) e ∙ ap (λ x. record { entries = b.entries; manifest = x }) f

pub either_order : EitherOrder
either_order files here there other another first second one two three four p a b c e one_foot two_foot apart =
    let us = a.project in
    let refs = (facts us).refs in
    let straight = route files here there first second one two p a b in
    let project : c.project ≡ us = one_project files c.project us c.accepts.reads a.accepts.reads in
    let its_second : c.foot ≡ b.foot = sym c.renaming.footprint ∙ (sym two_foot ∙ b.renaming.footprint) in
    let its_first : e.foot ≡ a.foot = sym e.renaming.footprint ∙ (sym one_foot ∙ a.renaming.footprint) in
    let turned : AreRespelled (in_file (words_of (together (names second b.foot) (names first a.foot)) refs)) 0 files.entries four.files.entries =
    subst (λ (f : Foot). AreRespelled (in_file (words_of (together (names second b.foot) (names first f)) refs)) 0 files.entries four.files.entries)
    its_first
    (subst (λ (f : Foot). AreRespelled (in_file (words_of (together (names second f) (names first e.foot)) refs)) 0 files.entries four.files.entries)
    its_second
    (subst (λ ws. AreRespelled (in_file (words_of (together (names second c.foot) (names first e.foot)) (facts ws).refs)) 0 files.entries
    four.files.entries)
    project (route files other another second first three four p c e))) in
    let disjoint : AreDisjoint a.foot b.foot =
    λ d i j. apart d (subst (λ (f : Foot). Contains f.decls d) (sym a.renaming.footprint) i)
    (subst (λ (f : Foot). Contains f.decls d) (sym b.renaming.footprint) j) in
    let same : AreRespelled (in_file (words_of (together (names first a.foot) (names second b.foot)) refs)) 0 files.entries four.files.entries =
    respelled_alike (in_file (words_of (together (names second b.foot) (names first a.foot)) refs))
    (in_file (words_of (together (names first a.foot) (names second b.foot)) refs))
    (λ file at z. words_either a.foot b.foot first second disjoint refs (record { file = file; token = at }) z) 0 files.entries
    four.files.entries turned in
    files_same two.files four.files
    (one_sources (words_of (together (names first a.foot) (names second b.foot)) refs) 0 files.entries two.files.entries four.files.entries straight
    same)
    ((b.renaming.manifest ∙ a.renaming.manifest) ∙ sym (e.renaming.manifest ∙ c.renaming.manifest))
