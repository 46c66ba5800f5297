-- Match and Pin: the links of two shapes and of one, with the work that finding them costs (work
-- is own; signature matching is that of the OCaml manual, "Module types").
use Rattle.std.specs.Prelude.{ℕ, zero, suc, ◌+◌, List, [], ◌∷◌, ◌++◌, Option, Some, None}
use Rattle.rotor_base.specs.declared.place.Goal.{Goal}
use Rattle.rotor_base.specs.declared.place.Goal.TheVariants.{Outside, Missing, Hidden}
use Rattle.rotor_base.specs.declared.place.Link.{Link}
use Rattle.shape_core.specs.Shape.{Name, Shape, Struct, Functor, Unitary, Opaque, Entries, none, a_val, a_mod, a_mty, a_dark, vals, last_of, or_value}
use Rattle.shape_core.specs.Shape.{unless_some, find_val, find_mod, find_mty, depth}

-- what a match finds, in order, and its work
pub record Trace (A : Type 0) : Type 0 where
  pub told : List A
  pub work : ℕ

infixl 50 ◌&◌
unfoldable pub ◌&◌ : {A : Type 0} → Trace A → Trace A → Trace A
a & b = record { told = a.told ++ b.told; work = a.work + b.work }

abbrev pub nothing : {A : Type 0} → Trace A
nothing = record { told = []; work = 0 }

-- one unit of work
abbrev pub a_step : {A : Type 0} → Trace A
a_step = record { told = []; work = 1 }

-- one thing found, at one unit of work
abbrev pub one : {A : Type 0} → A → Trace A
one a = record { told = a ∷ []; work = 1 }

-- the matched source of a module or module type that may be absent
abbrev pub or_empty : Option Shape → Shape
or_empty o = or_value o (Struct none)

-- The rules of matching, pinning and work (the manual: Module types, and the matching of structures with signatures
-- there). `keep` returns what is kept of each link. Its first arguments are the name and the goal of the item, and the
-- entries after the item in its own list. The last is the list in which its source is looked up, or None if the link is
-- pinned.
module _ {A : Type 0} (keep : Name → Goal → Entries → Option Entries → A) where
  abbrev mutual
    -- Pin
    pub pin : Shape → Trace A
    pin (Struct es) = a_step & pin_entries es
    pin (Functor p r) = a_step & pin p & pin r
    pin (Unitary r) = a_step & pin r
    pin Opaque = a_step

    pub pin_entries : Entries → Trace A
    pin_entries none = nothing
    pin_entries (a_val x g es) = one (keep x g es None) & pin_entries es
    pin_entries (a_mod X s es) = a_step & unless_some (find_mod es X) (pin s) nothing & pin_entries es
    pin_entries (a_mty S s es) = a_step & unless_some (find_mty es S) (pin s) nothing & pin_entries es
    pin_entries (a_dark at es) = a_step & pin_entries es

  -- what a Dark entry of a target gives: a link for each value of the source
  abbrev pub pin_vals : Entries → Trace A
  pin_vals none = nothing
  pin_vals (a_val x g es) = one (keep x g es None) & pin_vals es
  pin_vals (a_mod X s es) = pin_vals es
  pin_vals (a_mty S s es) = pin_vals es
  pin_vals (a_dark at es) = pin_vals es

  -- two structures, of which `go` matches the parts: the entries of the target in order
  abbrev pub match_entries : (Shape → Shape → Trace A) → Entries → Entries → Trace A
  match_entries go src none = nothing
  match_entries go src (a_val x g es) = one (keep x g es (Some src)) & match_entries go src es
  match_entries go src (a_mod X t es) =
      a_step & unless_some (find_mod es X) (go (or_empty (find_mod src X)) t) nothing & match_entries go src es
  match_entries go src (a_mty S t es) =
      a_step & unless_some (find_mty es S) (go (or_empty (find_mty src S)) t & go t (or_empty (find_mty src S))) nothing
      & match_entries go src es
  match_entries go src (a_dark at es) = a_step & pin_vals src & match_entries go src es

  -- one level of a match of a source with a target, of which `go` matches the parts
  abbrev pub match_step : (Shape → Shape → Trace A) → Shape → Shape → Trace A
  match_step go (Struct es) (Struct ts) = a_step & match_entries go es ts
  match_step go (Functor p r) (Functor q t) = a_step & go q p & go r t
  match_step go (Unitary r) (Unitary t) = a_step & go r t
  match_step go Opaque Opaque = a_step
  match_step go s t = a_step & pin t & pin s

  abbrev pub match_to : ℕ → Shape → Shape → Trace A
  match_to zero s t = nothing
  match_to (suc n) s t = match_step (match_to n) s t

  -- Match(source, target)
  unfoldable pub matched : Shape → Shape → Trace A
  matched s t = match_to (suc (depth s + depth t)) s t

-- the link of a match or a pinning
abbrev pub source_of : Option Entries → Name → Goal
source_of None x = Outside
source_of (Some src) x = or_value (find_val src x) Missing

abbrev pub link : Name → Goal → Entries → Option Entries → Link
link x g rest src = record { item = g; source = unless_some (last_of (vals rest) x) (source_of src x) Hidden }

-- Match(source, target) and Pin(shape), as lists of links with their work
abbrev pub links : Shape → Shape → Trace Link
links = matched link

abbrev pub pinned : Shape → Trace Link
pinned = pin link
