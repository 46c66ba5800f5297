-- What is said of the sources that are outside the language (own).
use Rattle.std.specs.Prelude.{◌≡◌, List, [], ◌∷◌, ◌++◌, Option, Some, None, false}
use Rattle.rotor_base.specs.Files.{FileSet, load_refusal}
use Rattle.rotor_base.specs.Stem.{is_source_name}
use Rattle.rotor_base.specs.declared.refusal.LoadError.{LoadError}
use Rattle.rotor_base.specs.declared.refusal.Refusal.{Refusal}
use Rattle.rotor_base.specs.declared.source.SourceFile.{SourceFile}
use Rattle.ml_trees.specs.Tree.{UnitTree}
use Rattle.messages.specs.declared.parts.Message.{Message}
use Rattle.project_reading.specs.Reads.{Reads, Unread}
use Rattle.refusal_words.specs.Cut.{AreCuts, Cut}
use Rattle.refusal_places.specs.Placed.{SaysPlaced}
use Rattle.explain.specs.Explanation.{listed}

-- the project of a source alone
abbrev pub alone : SourceFile → FileSet
alone source = record { entries = source ∷ []; manifest = None }

-- alone, the source is no project: by its name, or by the limits
pub data IsNoProject (source : SourceFile) : Type 0 where
  unnamed : is_source_name source.name ≡ false → IsNoProject source
  refused : (why : LoadError) → load_refusal (source ∷ []) None ≡ Some why → IsNoProject source

-- what is said of a source: if it is outside the language, the message of its first reason
pub data SaysSource (source : SourceFile) (said : Option Message) : Type 0 where
  read : (us : List UnitTree) → Reads (alone source) us → said ≡ None → SaysSource source said
  outside : (why : Refusal) (cuts : List Cut) → Unread (alone source) why → AreCuts (source ∷ []) cuts → SaysPlaced cuts why said
      → SaysSource source said
  no_project : IsNoProject source → said ≡ None → SaysSource source said

-- what is said of sources, one after another
pub data SaysSources : List SourceFile → List Message → Type 0 where
  none : SaysSources [] []
  one_more : {sources : List SourceFile} {messages : List Message} (source : SourceFile) (said : Option Message) → SaysSources sources messages
      → SaysSource source said → SaysSources (sources ++ source ∷ []) (messages ++ listed said)
