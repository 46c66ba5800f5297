-- The proofs of the laws of footprints.
use Rattle.std.proofs.Common.{◌≡◌, ℕ, refl, sym, ◌∙◌, inl, inr, List, Contains, Option, Some, None}
use Rattle.std.specs.Prelude.{IsSome, ◌↔◌}
use Rattle.rotor_base.specs.declared.place.Place.{Place}
use Rattle.rotor_base.specs.declared.place.Link.{Link}
use Rattle.rotor_base.specs.declared.place.Foot.{Foot}
use Rattle.dependency_kernel.specs.Foot.{Joined, Path, here, along, IsFixed, IsPinned, IsLeastFixed, IsFoot}
use Rattle.dependency_kernel.specs.Laws.{AgreesAlong, HasOneName, ChangesAll, FixedStays, TellsPinned}

-- the ends of a link have one name
joined_agree : (links : List Link) (name : Place → List ℕ) → AgreesAlong links name → (a b : Place) → Joined links a b → name a ≡ name b
joined_agree links name agree a b (inl there) = agree a b there
joined_agree links name agree a b (inr there) = sym (agree b a there)

-- the ends of a path have one name
path_agree : (links : List Link) (name : Place → List ℕ) (d : Place) → AgreesAlong links name → (p : Place) → Path links d p → name d ≡ name p
path_agree links name d agree p here = refl
path_agree links name d agree p (along a b path j) = path_agree links name d agree a path ∙ joined_agree links name agree a b j

pub has_one_name : HasOneName
has_one_name links d foot name is agree a b in_a in_b =
    sym (path_agree links name d agree a (is.reached a in_a)) ∙ path_agree links name d agree b (is.reached b in_b)

pub changes_all : ChangesAll
changes_all links d foot old new is was agree a in_a apart b in_b =
    let olds : old b ≡ old a = has_one_name links d foot old is was b a in_b in_a in
    let news : new b ≡ new a = has_one_name links d foot new is agree b a in_b in_a in
    ((λ same. apart (sym news ∙ (same ∙ olds))), news)

stays : (links : List Link) (d : Place) (foot : Foot) (old new : Place → List ℕ) (outside : Option Place) → IsFoot links d foot
    → IsLeastFixed links foot.decls outside
    → AgreesAlong links old → AgreesAlong links new → ((p : Place) → IsFixed links p → new p ≡ old p) → IsSome outside → (b : Place)
    → Contains foot.decls b → new b ≡ old b
stays links d foot old new None is least was agree keeps some b in_b = cc
stays links d foot old new (Some p) is least was agree keeps some b in_b =
    has_one_name links d foot new is agree b p in_b least.member ∙ (keeps p least.fixed ∙ has_one_name links d foot old is was p b least.member in_b)

pub fixed_stays : FixedStays
fixed_stays links d foot old new is was agree keeps some b in_b = stays links d foot old new foot.outside is is.outside was agree keeps some b in_b

pinned : (links : List Link) (d : Place) (foot : Foot) (outside : Option Place) → IsFoot links d foot → IsLeastFixed links foot.decls outside
    → IsSome outside ↔ IsPinned links d
pinned links d foot None is least = ((λ some. cc), (λ p. absurd (least.none p.0 (is.all p.0 p.1) p.2)))
pinned links d foot (Some p) is least = ((λ some. (p, is.reached p least.member, least.fixed)), (λ q. refl))

pub tells_pinned : TellsPinned
tells_pinned links d foot is = pinned links d foot foot.outside is is.outside
