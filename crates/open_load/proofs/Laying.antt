-- What a folder under documents loads as, in terms of the folder below.
use Rattle.std.proofs.Common.{◌≡◌, ◌∙◌, ◌⊎◌, inl, inr, Option, None, Some, Result, Ok, Err, ap, subst, sym}
use Rattle.std.specs.Prelude.{IfOk, IfSome}
use Rattle.std.specs.Option.{option_map}
use Rattle.rotor_base.specs.declared.fault.Memory.{Memory}
use Rattle.rotor_base.specs.declared.refusal.LoadError.{LoadError}
use Rattle.tree_io.specs.Outside.{FileMap}
use Rattle.project_load.specs.Load.{IsOutside, loaded}
use Rattle.messages.specs.declared.parts.Message.{Message}
use Rattle.folder_messages.specs.Folder.{message_of}
use Rattle.open_documents.specs.Documents.{DocumentMap, laid}
use Rattle.open_load.specs.Loaded.{IsOpenFolder, IsUnloaded}
use Rattle.open_load.specs.declared.loading.OpenFolder.{OpenFolder}
use Rattle.open_load.specs.declared.loading.OpenFolder.TheVariants.{Files, Unread, Refused}

below : (content : Option FileMap) (f : FileMap → FileMap) (P : FileMap → Type 0) → IfSome (option_map f content) P
    → IfSome content (λ held. P (f held))
below None f P h = h
below (Some held) f P h = h

-- what holds of the files under documents holds of those of the folder below, with the documents laid over them
pub holds_below : {T : Type 0} (content : T → Option FileMap) (map docs : DocumentMap) (folder there : T) (P : FileMap → Type 0) → docs ≡ map
    → there ≡ folder → IfSome (option_map (laid docs) (content there)) P → IfSome (content folder) (λ held. P (laid map held))
holds_below content map docs folder there P same is h =
    below (content folder) (laid map) P
    (subst (λ t. IfSome (option_map (laid map) (content t)) P) is (subst (λ m. IfSome (option_map (laid m) (content there)) P) same h))

refused_below : (content : Option FileMap) (map : DocumentMap) (error given : LoadError) (message : Option Message) → given ≡ error
    → (IsOutside error → ⊥) → IfSome (option_map (laid map) content) (λ held. message ≡ message_of error held)
    → IfSome content (λ held. IsOutside error ⊎ (loaded (laid map held) ≡ Err error))
    → IfSome content (λ held. (loaded (laid map held) ≡ Err given) × (message ≡ message_of given (laid map held)))
refused_below None map error given message is inside said h = h
refused_below (Some held) map error given message is inside said (inl out) = absurd (inside out)
refused_below (Some held) map error given message is inside said (inr found) =
    (found ∙ ap Err (sym is), said ∙ ap (λ (why : LoadError). message_of why (laid map held)) (sym is))

-- a folder that is not loaded is what the error says
pub unloaded_is_open : {E : Type 0} (content files : Option FileMap) (map : DocumentMap) (error : LoadError) (result : Result OpenFolder E)
    → files ≡ option_map (laid map) content → IfSome content (λ held. IsOutside error ⊎ (loaded (laid map held) ≡ Err error))
    → IfOk result (IsUnloaded files error) → IfOk result (IsOpenFolder content map)
unloaded_is_open content files map error (Ok (Files given)) same h u = absurd u
unloaded_is_open content files map error (Ok Unread) same h u = u
unloaded_is_open content files map error (Ok (Refused why message)) same h u =
    refused_below content map error why message u.0 u.1
    (subst (λ (o : Option FileMap). IfSome o (λ held. message ≡ message_of error held)) same u.2) h
unloaded_is_open content files map error (Err e) same h u = u

-- the files of a folder under documents are those of the folder below, with the documents laid over them
pub files_below : {T : Type 0} (content : T → Option FileMap) (map docs : DocumentMap) (folder there : T) (files : Option FileMap) → docs ≡ map
    → there ≡ folder → files ≡ option_map (laid docs) (content there) → files ≡ option_map (laid map) (content folder)
files_below content map docs folder there files same is h =
    h ∙ ap (λ (m : DocumentMap). option_map (laid m) (content there)) same ∙ ap (λ t. option_map (laid map) (content t)) is
