-- What is said of some sources, and of one more.
use Rattle.std.proofs.Common.{◌≡◌, ◌≢◌, inl, inr, ℕ, ◌+◌, ◌<◌, List, [], ◌∷◌, ◌++◌, Option, None, Some, length, get_or, take, true, false, ap, sym}
use Rattle.std.proofs.Common.{subst, ◌∙◌}
use Rattle.std.proofs.lemmas.List.{take_more}
use Rattle.rotor_base.specs.Files.{FileSet, IsRefusedBy, load_refusal}
use Rattle.rotor_base.specs.declared.refusal.LoadError.{LoadError}
use Rattle.rotor_base.specs.declared.refusal.LoadError.TheVariants as load_error
use Rattle.rotor_base.specs.declared.refusal.Refusal.{Refusal}
use Rattle.rotor_base.specs.declared.source.SourceFile.{SourceFile}
use Rattle.ml_trees.specs.Tree.{UnitTree}
use Rattle.messages.specs.declared.parts.Message.{Message}
use Rattle.project_reading.specs.Reads.{IsRefused, Reads, Unread}
use Rattle.refusal_words.specs.Cut.{AreCuts, Cut}
use Rattle.refusal_places.specs.Placed.{SaysPlaced}
use Rattle.explain.specs.Refused.{is_memory}
use Rattle.explain.specs.Sources.{IsNoProject, SaysSource, SaysSources, alone, no_project, none, one_more, outside, read, refused}
use Rattle.explain.specs.Explanation.{listed}

pub source_read : (s : SourceFile) (files : FileSet) (us : List UnitTree) (said : Option Message) → files ≡ alone s → Reads files us → said ≡ None
    → SaysSource s said
source_read s files us said same reads e = read us (subst (λ f. Reads f us) same reads) e

-- what refuses, if there was memory
held : (files : FileSet) (why : Refusal) → IsRefused files why → is_memory why ≡ false → Unread files why
held files why (inl h) m = h
held files why (inr e) m = let wrong : true ≡ false = ap is_memory (sym e) ∙ m in absurd cc

pub source_outside : (s : SourceFile) (files : FileSet) (why : Refusal) (cuts : List Cut) (said : Option Message) → files ≡ alone s
    → IsRefused files why → is_memory why ≡ false → AreCuts files.entries cuts → SaysPlaced cuts why said
    → SaysSource s said
source_outside s files why cuts said same h m cut e =
    outside why cuts (subst (λ f. Unread f why) same (held files why h m)) (subst (λ (f : FileSet). AreCuts f.entries cuts) same cut) e

pub source_none : (s : SourceFile) (said : Option Message) → IsNoProject s → said ≡ None → SaysSource s said
source_none s said h e = no_project h e

pub is_refused : (s : SourceFile) (entries : List SourceFile) (why : LoadError) → entries ≡ s ∷ [] → IsRefusedBy (load_refusal entries None) why
    → why ≢ load_error.Memory
    → IsNoProject s
is_refused s entries why same (inl h) m = refused why (subst (λ es. load_refusal es None ≡ Some why) same h)
is_refused s entries why same (inr e) m = absurd (m e)

pub sources_none : (sources : List SourceFile) (messages : List Message) → messages ≡ [] → SaysSources (take 0 sources) messages
sources_none [] messages e = subst (SaysSources []) (sym e) none
sources_none (s ∷ ss) messages e = subst (SaysSources []) (sym e) none

pub sources_more : (sources : List SourceFile) (i : ℕ) (d : SourceFile) (messages made : List Message) (said : Option Message)
    → i < length sources → made ≡ messages ++ listed said → SaysSources (take i sources) messages → SaysSource (get_or sources i d) said
    → SaysSources (take (i + 1) sources) made
sources_more sources i d messages made said lt is all one =
    subst (SaysSources (take (i + 1) sources)) (sym is)
    (subst (λ ss. SaysSources ss (messages ++ listed said)) (sym (take_more sources i d lt)) (one_more (get_or sources i d) said all one))
