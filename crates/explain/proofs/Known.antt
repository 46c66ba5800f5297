-- What is known of a folder, by how it is read and resolved.
use Rattle.std.proofs.Common.{◌≡◌, ◌≢◌, ◌⊎◌, inl, inr, List, [], subst}
use Rattle.rotor_base.specs.Files.{FileSet}
use Rattle.rotor_base.specs.declared.place.Facts.{Facts}
use Rattle.rotor_base.specs.declared.place.Foot.{Foot}
use Rattle.rotor_base.specs.declared.place.Place.{Place}
use Rattle.rotor_base.specs.declared.refusal.Refusal.{Refusal}
use Rattle.rotor_base.specs.declared.refusal.Refusal.TheVariants as refusal
use Rattle.rotor_base.specs.declared.target.Target.{Target}
use Rattle.ml_trees.specs.Tree.{UnitTree}
use Rattle.binding_model.specs.Facts.{facts as facts_of}
use Rattle.dependency_kernel.specs.Foot.{IsFoot}
use Rattle.project_reading.specs.Reads.{IsRefused, Reads, Unread}
use Rattle.rename_model.specs.Project.{IsHeavy}
use Rattle.rename_model.specs.Renaming.{HasNoTarget}
use Rattle.rename_model.specs.Target.{Aims}
use Rattle.rename_project.specs.Steps.{IsRefusedFor}
use Rattle.explain.specs.declared.around.Around.{Around}
use Rattle.explain.specs.Around.{AreDeclarations, IsAround, IsKnown, known, named, nameless, not_read, nothing, too_heavy}

-- what refuses, if there was memory
held : (C : Refusal → Type 0) (why : Refusal) → C why ⊎ (why ≡ refusal.Memory) → why ≢ refusal.Memory → C why
held C why (inl c) m = c
held C why (inr e) m = absurd (m e)

pub named_declarations : (files : FileSet) (target : Target) (us : List UnitTree) (found : Facts) (d : Place) (foot : Foot) (decls : List Place)
    → found ≡ facts_of us → Aims files us target d → IsFoot found.links d foot → decls ≡ foot.decls
    → AreDeclarations files us target decls
named_declarations files target us found d foot decls is aims f same = named d foot aims (subst (λ (g : Facts). IsFoot g.links d foot) is f) same

pub nameless_declarations : (files : FileSet) (target : Target) (us : List UnitTree) (why : Refusal) (decls : List Place)
    → IsRefusedFor (HasNoTarget files us target) why → why ≢ refusal.Memory → decls ≡ []
    → AreDeclarations files us target decls
nameless_declarations files target us why decls h m is = nameless why (held (HasNoTarget files us target) why h m) is

pub known_around : (files : FileSet) (target : Target) (us : List UnitTree) (around : Around) → IsKnown files us target around
    → IsAround files target around
known_around files target us around h = known us h

pub heavy_around : (files : FileSet) (target : Target) (us : List UnitTree) (why : Refusal) (around : Around) → Reads files us
    → IsRefusedFor (IsHeavy us) why → why ≢ refusal.Memory → around ≡ nothing
    → IsAround files target around
heavy_around files target us why around reads h m is = too_heavy us why reads (held (IsHeavy us) why h m) is

pub unread_around : (files : FileSet) (target : Target) (why : Refusal) (around : Around) → IsRefused files why → why ≢ refusal.Memory
    → around ≡ nothing
    → IsAround files target around
unread_around files target why around h m is = not_read why (held (Unread files) why h m) is
