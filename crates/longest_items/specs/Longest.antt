-- Items that are read one after another, each the longest that begins where it does (own; the OCaml manual,
-- "Compilation units").
use Rattle.std.specs.Prelude.{◌≡◌, ◌≤◌, List, length, Bool}
use Rattle.ml_trees.specs.Tok.{Tok}
use Rattle.ml_trees.specs.Tree.{Item, Items, no_item, more_item, SigItem, SigItems, no_sig_item, more_sig_item}
use Rattle.ml_trees.specs.WellFormed.{is_separator, WfItem, WfSigItem}
use Rattle.ml_trees.specs.Words.{item_then, sig_item_then}

-- ---- bodies

-- i is the longest item that begins these tokens; the Bool says whether an item there may be an expression
pub record IsLongestItem (fresh : Bool) (ts : List Tok) (i : Item) (rest : List Tok) : Type 0 where
  pub wf : WfItem fresh i
  pub reads : ts ≡ item_then i rest
  pub longest : (another : Item) (behind : List Tok) → WfItem fresh another → ts ≡ item_then another behind → length rest ≤ length behind

-- no item begins these tokens
abbrev pub BeginsNoItem : Bool → List Tok → Type 0
BeginsNoItem fresh ts = (i : Item) (rest : List Tok) → WfItem fresh i → ts ≡ item_then i rest → ⊥

-- from these tokens on, each item is the longest that begins where it does, and at the end none begins
pub data AreLongestItems : Bool → List Tok → Items → List Tok → Type 0 where
  none_begins : (fresh : Bool) (ts : List Tok) → BeginsNoItem fresh ts → AreLongestItems fresh ts no_item ts
  longest_then : (fresh : Bool) (ts : List Tok) (i : Item) (rest : List Tok) (is : Items) (end : List Tok) → IsLongestItem fresh ts i rest
      → AreLongestItems (is_separator i) rest is end → AreLongestItems fresh ts (more_item i is) end

-- ---- interfaces: the same

pub record IsLongestSig (ts : List Tok) (i : SigItem) (rest : List Tok) : Type 0 where
  pub wf : WfSigItem i
  pub reads : ts ≡ sig_item_then i rest
  pub longest : (another : SigItem) (behind : List Tok) → WfSigItem another → ts ≡ sig_item_then another behind → length rest ≤ length behind

abbrev pub BeginsNoSig : List Tok → Type 0
BeginsNoSig ts = (i : SigItem) (rest : List Tok) → WfSigItem i → ts ≡ sig_item_then i rest → ⊥

pub data AreLongestSigs : List Tok → SigItems → List Tok → Type 0 where
  no_sig_begins : (ts : List Tok) → BeginsNoSig ts → AreLongestSigs ts no_sig_item ts
  longest_sig_then : (ts : List Tok) (i : SigItem) (rest : List Tok) (is : SigItems) (end : List Tok) → IsLongestSig ts i rest
      → AreLongestSigs rest is end → AreLongestSigs ts (more_sig_item i is) end

-- ---- one reading

-- no other items are so, and they have no other end
abbrev pub OneLongestBody : Type 0
OneLongestBody = (fresh : Bool) (ts : List Tok) (is : Items) (end : List Tok) → AreLongestItems fresh ts is end
    → (others : Items) (last : List Tok) → AreLongestItems fresh ts others last → (is ≡ others) × (end ≡ last)

abbrev pub OneLongestFace : Type 0
OneLongestFace = (ts : List Tok) (is : SigItems) (end : List Tok) → AreLongestSigs ts is end
    → (others : SigItems) (last : List Tok) → AreLongestSigs ts others last → (is ≡ others) × (end ≡ last)
