-- Each source is read as a tree, or something says why it is not.
use Rattle.std.proofs.Common.{◌≡◌, ◌⊎◌, inl, inr, ℕ, suc, List, [], ◌∷◌, Option, Some, None, refl}
use Rattle.rotor_base.specs.declared.refusal.Refusal.{Refusal}
use Rattle.rotor_base.specs.declared.refusal.Refusal.TheVariants as refusal
use Rattle.rotor_base.specs.declared.source.SourceFile.{SourceFile}
use Rattle.rotor_base.specs.declared.token.FormKind.{FormKind}
use Rattle.ml_lexer.specs.Lexed.{Bad, Fault, LexFault, Lexed, Lexeme, LongName}
use Rattle.ml_syntax.specs.RespelledFile.{lexeme_toks}
use Rattle.ml_trees.specs.Tree.{FileTree}
use Rattle.parse_module.specs.Whole.{HasNoTree, IsTreeOf}
use Rattle.project_reading.specs.Source.{IsDeepAt, IsPlain, IsUnread, ReadsAs, form_among, kind_of_source, place, tokens_of}
use Rattle.project_reading.specs.Source as source
use Rattle.project_reading.specs.Sources.{FirstUnread, ReadAll}
use Rattle.decided_readings.specs.Laws.{SourcesAreDecided}
use Rattle.decided_readings.proofs.Cutting.{files_are_cut}
use Rattle.decided_readings.proofs.Depth.{depth_decided}
use Rattle.decided_readings.proofs.Trees.{tree_decided}

module _ (number : ℕ) (file : SourceFile) where
  abbrev IsDecided : Type 0
  IsDecided = ((tree : FileTree) × ReadsAs number file tree) ⊎ ((why : Refusal) × IsUnread number file why)

  faulty : (fault : Fault) → LexFault file.bytes fault → IsDecided
  faulty (Bad offset) h = inr (refusal.Lex number offset, source.bad offset h)
  faulty (LongName offset) h = inr (refusal.LongName number offset, source.long_name offset h)

  module _ (xs : List Lexeme) (cut : Lexed file.bytes xs) where
    plain : IsPlain file.bytes xs → IsDecided
    plain h = by (tree_decided (kind_of_source file.name) number (lexeme_toks 1 xs)) where
      by : ((tree : FileTree) × IsTreeOf (kind_of_source file.name) number (lexeme_toks 1 xs) tree)
          ⊎ HasNoTree (kind_of_source file.name) number (lexeme_toks 1 xs) → IsDecided
      by (inl tree) = inl (tree.0, record { lexemes = xs; plain = h; parsed = tree.1 })
      by (inr none) = inr (refusal.Syntax number, source.syntax xs h none)

    formed : (form : Option (ℕ × FormKind)) → form_among xs ≡ form → (deep : Option ℕ) → IsDeepAt xs deep → IsDecided
    formed (Some (token, kind)) e deep h = inr (refusal.Form (place number token) kind, source.form xs token kind cut e)
    formed None e (Some token) h = inr (refusal.Deep (place number token), source.deep xs token cut e h)
    formed None e None h = plain (record { cut = cut; no_form = e; shallow = h })

  pub source_decided : IsDecided
  source_decided = by (files_are_cut file.bytes) where
    by : ((xs : List Lexeme) × Lexed file.bytes xs) ⊎ ((fault : Fault) × LexFault file.bytes fault) → IsDecided
    by (inl cut) = let deep = depth_decided (tokens_of cut.0) in formed cut.0 cut.1 (form_among cut.0) refl deep.0 deep.1
    by (inr fault) = faulty fault.0 fault.1

pub sources_are_decided : SourcesAreDecided
sources_are_decided number file = source_decided number file

-- all sources are read, or a first one is not
pub all_decided : (number : ℕ) (files : List SourceFile)
    → ((trees : List FileTree) × ReadAll number files trees) ⊎ ((why : Refusal) × FirstUnread number files why)
all_decided number [] = inl ([], tt)
all_decided number (file ∷ files) = by (source_decided number file) (all_decided (suc number) files) where
  by : IsDecided number file → ((trees : List FileTree) × ReadAll (suc number) files trees) ⊎ ((why : Refusal) × FirstUnread (suc number) files why)
      → ((trees : List FileTree) × ReadAll number (file ∷ files) trees) ⊎ ((why : Refusal) × FirstUnread number (file ∷ files) why)
  by (inr unread) rest = inr (unread.0, inl unread.1)
  by (inl tree) (inl trees) = inl (tree.0 ∷ trees.0, (tree.1, trees.1))
  by (inl tree) (inr unread) = inr (unread.0, inr (tree.0, tree.1, unread.1))
