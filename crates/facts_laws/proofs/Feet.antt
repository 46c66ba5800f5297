-- Footprints part the binders.
use Rattle.std.proofs.Common.{inl, inr, List, Contains}
use Rattle.rotor_base.specs.declared.place.Place.{Place}
use Rattle.rotor_base.specs.declared.place.Link.{Link}
use Rattle.rotor_base.specs.declared.place.Foot.{Foot}
use Rattle.dependency_kernel.specs.Foot.{Joined, Path, here, along, IsFoot}
use Rattle.dependency_kernel.proofs.Only.{is_the_only}
use Rattle.binding_model.specs.Facts.{facts}
use Rattle.facts_laws.specs.Laws.{FootprintsCover, FootprintsAreApart, MembersShareFootprints}

module _ (links : List Link) where
  joined_back : (a b : Place) → Joined links a b → Joined links b a
  joined_back a b (inl c) = inr c
  joined_back a b (inr c) = inl c

  longer : (d e p : Place) → Path links d e → Path links e p → Path links d p
  longer d e p first here = first
  longer d e p first (along a b path j) = along a b (longer d e a first path) j

  path_back : (d p : Place) → Path links d p → Path links p d
  path_back d p here = here
  path_back d p (along a b path j) = longer b a d (along b a here (joined_back a b j)) (path_back d a path)

  -- a footprint is that of each member
  pub of_member : (d e : Place) (foot : Foot) → IsFoot links d foot → Contains foot.decls e → IsFoot links e foot
  of_member d e foot is c =
      let way = is.reached e c in
      record {
        ordered = is.ordered;
        reached = λ p k. longer e d p (path_back d e way) (is.reached p k);
        all = λ p k. is.all p (longer d e p way k);
        outside = is.outside;
      }

pub footprints_cover : FootprintsCover
footprints_cover us d foot is = is.all d here

pub footprints_are_apart : FootprintsAreApart
footprints_are_apart us d e member one other is too c k =
    let links = (facts us).links in
    is_the_only links member one other (of_member links d member one is c) (of_member links e member other too k)

pub members_share_footprints : MembersShareFootprints
members_share_footprints us d member foot is c = of_member (facts us).links d member foot is c
