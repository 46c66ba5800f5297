-- Sources of the same tokens are read as the same trees, or refused for the same reason.
use Rattle.std.proofs.Common.{◌≡◌, ℕ, suc, inl, inr, List, [], ◌∷◌, Option, Some, None, ap, sym, subst, ◌∙◌}
use Rattle.rotor_base.specs.declared.refusal.Refusal.{Refusal}
use Rattle.rotor_base.specs.declared.source.SourceFile.{SourceFile}
use Rattle.ml_lexer.specs.Lexed.{Lexeme, Lexed}
use Rattle.ml_lexer.proofs.OneCutting.{one_lexed, not_both}
use Rattle.ml_syntax.specs.RespelledFile.{lexeme_toks}
use Rattle.ml_trees.specs.Tok.{Tok, toks_from}
use Rattle.ml_trees.specs.Tree.{FileTree}
use Rattle.parse_module.specs.Whole.{IsTreeOf, HasNoTree}
use Rattle.project_reading.specs.Source.{form_among, IsDeepAt, IsPlain, ReadsAs, IsUnread, bad, long_name, form, deep, syntax, kind_of_source}
use Rattle.project_reading.specs.Sources.{ReadAll, FirstUnread}
use Rattle.token_laws.specs.Tokens.{HaveSameTokens, AllHaveSameTokens}
use Rattle.token_laws.proofs.Forms.{same_first_form}
use Rattle.token_laws.proofs.Nested.{same_deep}

-- ---- turned

pub turned : (one other : SourceFile) → HaveSameTokens one other → HaveSameTokens other one
turned one other s = record {
  ones = s.others;
  others = s.ones;
  name = sym s.name;
  cut_one = s.cut_other;
  cut_other = s.cut_one;
  texts = sym s.texts;
  joins = sym s.joins;
}

pub all_turned : (ones others : List SourceFile) → AllHaveSameTokens ones others → AllHaveSameTokens others ones
all_turned [] [] h = tt
all_turned [] (b ∷ others) h = absurd h
all_turned (a ∷ ones) [] h = absurd h
all_turned (a ∷ ones) (b ∷ others) h = (turned a b h.0, all_turned ones others h.1)

-- ---- one source

module _ (n : ℕ) (one other : SourceFile) (s : HaveSameTokens one other) where
  same_form : (xs : List Lexeme) → Lexed one.bytes xs → form_among xs ≡ form_among s.others
  same_form xs cut = ap form_among (one_lexed cut s.cut_one) ∙ same_first_form 1 s.ones s.others s.texts s.joins

  deep_there : (xs : List Lexeme) → Lexed one.bytes xs → (o : Option ℕ) → IsDeepAt xs o → IsDeepAt s.others o
  deep_there xs cut o h = same_deep s.ones s.others s.texts o (subst (λ l. IsDeepAt l o) (one_lexed cut s.cut_one) h)

  same_toks : (xs : List Lexeme) → Lexed one.bytes xs → lexeme_toks 1 xs ≡ lexeme_toks 1 s.others
  same_toks xs cut = ap (lexeme_toks 1) (one_lexed cut s.cut_one) ∙ ap (toks_from 1) s.texts

  plain : (xs : List Lexeme) → IsPlain one.bytes xs → IsPlain other.bytes s.others
  plain xs p = record { cut = s.cut_other; no_form = sym (same_form xs p.cut) ∙ p.no_form; shallow = deep_there xs p.cut None p.shallow }

  pub reads_the_same : (t : FileTree) → ReadsAs n one t → ReadsAs n other t
  reads_the_same t r = record {
    lexemes = s.others;
    plain = plain r.lexemes r.plain;
    parsed = subst (λ (name : List ℕ). IsTreeOf (kind_of_source name) n (lexeme_toks 1 s.others) t) s.name
        (subst (λ (ts : List Tok). IsTreeOf (kind_of_source one.name) n ts t) (same_toks r.lexemes r.plain.cut) r.parsed);
  }

  pub unread_the_same : (why : Refusal) → IsUnread n one why → IsUnread n other why
  unread_the_same _ (bad m h) = absurd (not_both s.cut_one h)
  unread_the_same _ (long_name m h) = absurd (not_both s.cut_one h)
  unread_the_same _ (form xs m k cut f) = form s.others m k s.cut_other (sym (same_form xs cut) ∙ f)
  unread_the_same _ (deep xs m cut f d) = deep s.others m s.cut_other (sym (same_form xs cut) ∙ f) (deep_there xs cut (Some m) d)
  unread_the_same _ (syntax xs p none) =
      syntax s.others (plain xs p)
      (subst (λ (name : List ℕ). HasNoTree (kind_of_source name) n (lexeme_toks 1 s.others)) s.name
      (subst (λ (ts : List Tok). HasNoTree (kind_of_source one.name) n ts) (same_toks xs p.cut) none))

-- ---- all sources

pub all_read_the_same : (n : ℕ) (ones others : List SourceFile) (ts : List FileTree) → AllHaveSameTokens ones others → ReadAll n ones ts
    → ReadAll n others ts
all_read_the_same n [] [] ts h r = r
all_read_the_same n [] (b ∷ others) ts h r = absurd h
all_read_the_same n (a ∷ ones) [] ts h r = absurd h
all_read_the_same n (a ∷ ones) (b ∷ others) [] h r = absurd r
all_read_the_same n (a ∷ ones) (b ∷ others) (t ∷ ts) h r =
    (reads_the_same n a b h.0 t r.0, all_read_the_same (suc n) ones others ts h.1 r.1)

pub first_unread_the_same : (n : ℕ) (ones others : List SourceFile) (why : Refusal) → AllHaveSameTokens ones others → FirstUnread n ones why
    → FirstUnread n others why
first_unread_the_same n [] [] why h u = u
first_unread_the_same n [] (b ∷ others) why h u = absurd h
first_unread_the_same n (a ∷ ones) [] why h u = absurd h
first_unread_the_same n (a ∷ ones) (b ∷ others) why h (inl u) = inl (unread_the_same n a b h.0 why u)
first_unread_the_same n (a ∷ ones) (b ∷ others) why h (inr u) =
    inr (u.0, reads_the_same n a b h.0 u.0 u.1, first_unread_the_same (suc n) ones others why h.1 u.2)
