-- What a folder with the documents of an editor in place of its files is (own).
use Rattle.std.specs.Prelude.{◌≡◌, Option, Ok, Err, IfSome, ⊤}
use Rattle.rotor_base.specs.declared.refusal.LoadError.{LoadError}
use Rattle.tree_io.specs.Outside.{FileMap}
use Rattle.project_load.specs.Load.{IsOutside, loaded}
use Rattle.folder_messages.specs.Folder.{message_of}
use Rattle.open_documents.specs.Documents.{DocumentMap, laid}
use Rattle.open_load.specs.declared.loading.OpenFolder.{OpenFolder}
use Rattle.open_load.specs.declared.loading.OpenFolder.TheVariants.{Files, Unread, Refused}

-- The files that the folder loads as, with these documents in place of its files; or why it is no project, and the message that
-- says so. A folder of which a call failed is unread.
abbrev pub IsOpenFolder : Option FileMap → DocumentMap → OpenFolder → Type 0
IsOpenFolder content map (Files files) = IfSome content (λ held. loaded (laid map held) ≡ Ok files)
IsOpenFolder content map Unread = ⊤
IsOpenFolder content map (Refused why message) =
    IfSome content (λ held. (loaded (laid map held) ≡ Err why) × (message ≡ message_of why (laid map held)))

-- files are no project for this reason, which lies in them, and the message says so; or a call of their folder failed
abbrev pub IsUnloaded : Option FileMap → LoadError → OpenFolder → Type 0
IsUnloaded files why (Files given) = ⊥
IsUnloaded files why Unread = ⊤
IsUnloaded files why (Refused given message) =
    (given ≡ why) × (IsOutside why → ⊥) × IfSome files (λ held. message ≡ message_of why held)
