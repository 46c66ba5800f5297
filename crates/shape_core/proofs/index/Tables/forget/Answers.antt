use Rattle.std.proofs.Common.{ap, sym, subst, ◌∙◌, ℕ, List}
use Rattle.std.specs.Prelude.{IsSome}
use Rattle.name_tables.specs.Names.{at}
use Rattle.shape_core.specs.Index.{before_of}
use Rattle.shape_core.proofs.Telling.{at_entry, by_name, has_val, has_mod, has_mty, untells_val, untells_mod, untells_mty, untells_dark, front_of}
use Rattle.shape_core.proofs.index.Tables.forget.Goals as goal

pub set-requires : goal.set-requires
set-requires c =
    subst (λ (z : List ℕ). IsSome (at c.args.self.now.vals z)) (sym c.as_bytes.ensures)
    (has_val c.args.self.now c.requires.0 c.in-Val.x c.in-Val.field-1 (at_entry _ c.requires.0 c.args.entry.now _ c.in-Val.is c.requires.1))

pub set-requires-in-Mod : goal.set-requires-in-Mod
set-requires-in-Mod c =
    subst (λ (z : List ℕ). IsSome (at c.args.self.now.mods z)) (sym c.as_bytes-in-Mod.ensures)
    (has_mod c.args.self.now c.requires.0 c.in-Mod.x c.in-Mod.field-1 (at_entry _ c.requires.0 c.args.entry.now _ c.in-Mod.is c.requires.1))

pub set-requires-in-Mty : goal.set-requires-in-Mty
set-requires-in-Mty c =
    subst (λ (z : List ℕ). IsSome (at c.args.self.now.mtys z)) (sym c.as_bytes-in-Mty.ensures)
    (has_mty c.args.self.now c.requires.0 c.in-Mty.x c.in-Mty.field-1 (at_entry _ c.requires.0 c.args.entry.now _ c.in-Mty.is c.requires.1))

pub returns-in-Val : goal.returns-in-Val
returns-in-Val c list t k =
    untells_val c.args.self.now.vals c.set.new.self _ _ _ list c.in-Val.x c.in-Val.field-1 c.args.before.spot
    (ap (λ b. b.spot) (k ∙ ap (before_of list) c.in-Val.is))
    (by_name c.args.self.now.vals c.set.new.self _ c.in-Val.x c.args.before.spot c.as_bytes.ensures c.set.ensures)
    (at_entry _ list c.args.entry.now _ c.in-Val.is t)

pub returns-in-Mod : goal.returns-in-Mod
returns-in-Mod c list t k =
    untells_mod _ c.args.self.now.mods c.set-in-Mod.new.self _ _ list c.in-Mod.x c.in-Mod.field-1 c.args.before.position
    (ap (λ b. b.position) (k ∙ ap (before_of list) c.in-Mod.is))
    (by_name c.args.self.now.mods c.set-in-Mod.new.self _ c.in-Mod.x c.args.before.position c.as_bytes-in-Mod.ensures c.set-in-Mod.ensures)
    (at_entry _ list c.args.entry.now _ c.in-Mod.is t)

pub returns-in-Mty : goal.returns-in-Mty
returns-in-Mty c list t k =
    untells_mty _ _ c.args.self.now.mtys c.set-in-Mty.new.self _ list c.in-Mty.x c.in-Mty.field-1 c.args.before.position
    (ap (λ b. b.position) (k ∙ ap (before_of list) c.in-Mty.is))
    (by_name c.args.self.now.mtys c.set-in-Mty.new.self _ c.in-Mty.x c.args.before.position c.as_bytes-in-Mty.ensures c.set-in-Mty.ensures)
    (at_entry _ list c.args.entry.now _ c.in-Mty.is t)

pub returns-in-Dark : goal.returns-in-Dark
returns-in-Dark c list t k =
    untells_dark _ _ _ c.args.self.now.darks c.pop.new.self list c.in-Dark.field-0
    (λ h. c.pop.ensures.rest ∙ front_of c.args.self.now.darks _ c.in-Dark.field-0 h) (at_entry _ list c.args.entry.now _ c.in-Dark.is t)
