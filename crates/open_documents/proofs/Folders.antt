-- The documents of all folders, folder by folder.
use Rattle.std.proofs.Common.{◌≡◌, ℕ, Bool, true, false, cond, List, Option, Some, None, String, MutBor, refl, sym, ap, ◌∙◌}
use Rattle.std.specs.Option.{option_copied_mut}
use Rattle.std.specs.Map.{update}
use Rattle.std.specs.BTreeMap as tree
use Rattle.std.specs.BTreeMap.{BTreeMap}
use Rattle.std.specs.Ordering.{nat_cmp}
use Rattle.std.specs.Cmp.Lexicographic.{slice_cmp}
use Rattle.std.specs.FinMap.{empty, get, get-empty, remove}
use Rattle.std.specs.Str.{bytes_eq}
use Rattle.std.specs.declared.alloc.Global.{Global}
use Rattle.std.proofs.lemmas.Slice.Eq.{bytes_eq-Decides}
use Rattle.open_documents.specs.Documents.{DocumentMap, documents}
use Rattle.open_documents.specs.Workspace.{KeepsFolders, SetsFolder, documents_in, documents_or_none}
use Rattle.open_documents.specs.declared.documents.Documents.{Documents}
use Rattle.open_documents.specs.declared.workspace.Workspace.{Workspace}
use Rattle.open_documents.proofs.Gathered.{get_removed, same_documents}

-- the documents of a folder that was looked up for a write
pub folder_found : (old : Workspace) (path : List ℕ) (result : Option (MutBor Documents)) (folder : MutBor Documents)
    → option_copied_mut result ≡ tree.get_by_text old.folders path → result ≡ Some folder → documents_in old path ≡ documents folder.now
folder_found old path result folder value is = ap documents_or_none (sym value ∙ ap option_copied_mut is)

-- the documents of a folder that was not found
pub folder_missing : (old : Workspace) (path : List ℕ) (result : Option (MutBor Documents))
    → option_copied_mut result ≡ tree.get_by_text old.folders path → result ≡ None → documents_in old path ≡ documents_or_none None
folder_missing old path result value is = ap documents_or_none (sym value ∙ ap option_copied_mut is)

module _ (old new : Workspace) (path : List ℕ) (w : Option Documents)
    (sets : (q : List ℕ) → tree.get_by_text new.folders q ≡ update bytes_eq (tree.get_by_text old.folders) path w q) where
  pub sets_folder : (map : DocumentMap) → documents_or_none w ≡ map → SetsFolder path map old new
  sets_folder map is q = ap documents_or_none (sets q) ∙ by (bytes_eq path q) where
    by : (b : Bool) → documents_or_none (cond b w (tree.get_by_text old.folders q)) ≡ cond b map (documents_in old q)
    by true = is
    by false = refl

  pub keeps_folders : documents_or_none w ≡ documents_in old path → KeepsFolders old new
  keeps_folders is q = ap documents_or_none (sets q) ∙ by (bytes_eq path q) refl where
    by : (b : Bool) → bytes_eq path q ≡ b → documents_or_none (cond b w (tree.get_by_text old.folders q)) ≡ documents_in old q
    by true t =
        let same : path ≡ q = (bytes_eq-Decides path q).0 t in
        is ∙ ap (documents_in old) same
    by false t = refl

-- a folder that is set to the documents that it had
pub same_folder : (old new : Workspace) (path : List ℕ) (map : DocumentMap) → map ≡ documents_in old path → KeepsFolders old new
    → SetsFolder path map old new
same_folder old new path map is same q = same q ∙ by (bytes_eq path q) refl where
  by : (b : Bool) → bytes_eq path q ≡ b → documents_in old q ≡ cond b map (documents_in old q)
  by true t =
      let at : path ≡ q = (bytes_eq-Decides path q).0 t in
      sym (is ∙ ap (documents_in old) at)
  by false t = refl

-- ---- the documents of one folder change

-- a folder that was there
pub found_folder : (old new : Workspace) (path : List ℕ) (before after : Documents) (edit : DocumentMap → DocumentMap)
    → documents_in old path ≡ documents before → documents after ≡ edit (documents before)
    → ((q : List ℕ) → tree.get_by_text new.folders q ≡ update bytes_eq (tree.get_by_text old.folders) path (Some after) q)
    → SetsFolder path (edit (documents_in old path)) old new
found_folder old new path before after edit was is sets =
    sets_folder old new path (Some after) sets (edit (documents_in old path)) (is ∙ ap edit (sym was))

-- a folder that was made
pub made_folder : (old new : Workspace) (none : BTreeMap (String Global) Documents) (path : List ℕ) (before after : Documents)
    (edit : DocumentMap → DocumentMap) → none ≡ old.folders → documents_in old path ≡ documents before → documents after ≡ edit (documents before)
    → ((q : List ℕ) → tree.get_by_text new.folders q ≡ update bytes_eq (tree.get_by_text none) path (Some after) q)
    → SetsFolder path (edit (documents_in old path)) old new
made_folder old new none path before after edit same was is sets =
    found_folder old new path before after edit was is
    (λ q. sets q ∙ ap (λ (folders : BTreeMap (String Global) Documents). update bytes_eq (tree.get_by_text folders) path (Some after) q) same)

-- without a document there is none to close
pub none_removed : (name : List ℕ) → remove (documents_or_none None) name ≡ documents_or_none None
none_removed name =
    same_documents (remove empty name) empty
    (λ q. get_removed empty name q ∙ by q (bytes_eq q name))
  where
    by : (q : List ℕ) (t : Bool) → cond t None (get (documents_or_none None) q) ≡ get (documents_or_none None) q
    by q true = sym (get-empty (slice_cmp nat_cmp) q)
    by q false = refl
