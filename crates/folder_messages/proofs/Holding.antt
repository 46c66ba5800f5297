-- What the messages know of the content of a folder, if it is modelled.
use Rattle.std.proofs.Common.{◌≡◌, ◌∙◌, ℕ, ◌&&◌, List, Bool, Option, None, Some, IfSome, IsPermutation, ap, option_map, sym, take}
use Rattle.std.specs.Cmp.Lexicographic.{slice_cmp}
use Rattle.std.specs.FinMap.{get, keys}
use Rattle.std.specs.List.{list_any}
use Rattle.std.specs.List.Sorted.{IsStrictlySortedBy}
use Rattle.std.specs.Ordering.{nat_cmp}
use Rattle.rotor_base.specs.Stem.{is_source_name}
use Rattle.rotor_base.specs.declared.refusal.LoadError.{LoadError}
use Rattle.rotor_base.specs.declared.refusal.LoadError.TheVariants.{TooLarge}
use Rattle.tree_io.specs.Outside.{FileMap}
use Rattle.project_load.specs.Load.{manifest_of, source_names}
use Rattle.project_load.proofs.Sorted.{names_are}
use Rattle.messages.specs.declared.parts.Message.{Message}
use Rattle.folder_messages.specs.Folder.{front_of, large_message, manifest_message, message_of, units_message}

-- the bytes that were read under a name
pub front_read : (content : Option FileMap) (name found bytes : List ℕ) → found ≡ name
    → IfSome content (λ held. option_map (take 1048577) (get held found) ≡ Some bytes)
    → IfSome content (λ held. ◌≡◌ {A = Option (List ℕ)} (Some bytes) (front_of (get held name)))
front_read None name found bytes is h = tt
front_read (Some held) name found bytes is h = sym h ∙ ap (λ w. front_of (get held w)) is

-- the sources among the names that are listed
pub sources_are : (content : Option FileMap) (listed names : List (List ℕ)) → IfSome content (λ held. IsPermutation (keys held) listed)
    → IsStrictlySortedBy (slice_cmp nat_cmp) names
    → ((test : List ℕ → Bool) → list_any test names ≡ list_any (λ name. is_source_name name && test name) listed)
    → IfSome content (λ held. names ≡ source_names held)
sources_are None listed names moved order same = tt
sources_are (Some held) listed names moved order same = names_are held listed names moved order same

-- there is no rotor.units
pub no_units : (content : Option FileMap) (line : ℕ) → IfSome content (λ held. ◌≡◌ {A = Option (List ℕ)} None (front_of (manifest_of held)))
    → IfSome content (λ held. ◌≡◌ {A = Option Message} None (units_message (front_of (manifest_of held)) (source_names held) line))
no_units None line h = tt
no_units (Some held) line h = ap (λ units. units_message units (source_names held) line) h

-- the message of a line
pub units_explained : (content : Option FileMap) (bytes : List ℕ) (names : List (List ℕ)) (line : ℕ) (message : Option Message)
    → IfSome content (λ held. ◌≡◌ {A = Option (List ℕ)} (Some bytes) (front_of (manifest_of held)))
    → IfSome content (λ held. names ≡ source_names held) → message ≡ manifest_message bytes names line
    → IfSome content (λ held. message ≡ units_message (front_of (manifest_of held)) (source_names held) line)
units_explained None bytes names line message read listed is = tt
units_explained (Some held) bytes names line message read listed is =
    is ∙ ap (λ ns. manifest_message bytes ns line) listed ∙ ap (λ units. units_message units (source_names held) line) read

-- the message of too many bytes
pub large_explained : (content : Option FileMap) (error : LoadError) (file : List ℕ) (message : Message) → error ≡ TooLarge file
    → IfSome content (λ held. message ≡ large_message file held)
    → IfSome content (λ held. ◌≡◌ {A = Option Message} (Some message) (message_of error held))
large_explained None error file message is h = tt
large_explained (Some held) error file message is h = ap (λ (m : Message). Some m) h ∙ ap (λ e. message_of e held) (sym is)
