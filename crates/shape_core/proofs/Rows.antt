-- Small shapes: what is looked up in them, what they weigh, and their links.
use Rattle.std.proofs.Common.{◌≡◌, ℕ, true, false, List, [], ◌∷◌, Some, None, codes, refl}
use Rattle.rotor_base.specs.declared.place.Place.{Place}
use Rattle.rotor_base.specs.declared.place.Goal.{Goal}
use Rattle.rotor_base.specs.declared.place.Goal.TheVariants.{Decl, Outside, Missing, Hidden, Blur}
use Rattle.rotor_base.specs.declared.place.Link.{Link}
use Rattle.rotor_base.specs.declared.looks.Watch.{Watch}
use Rattle.rotor_base.specs.declared.looks.LinkLook.{LinkLook}
use Rattle.shape_core.specs.Shape.{Shape, Struct, Functor, Unitary, Opaque, Entries, none, a_val, a_mod, a_mty, a_dark, find_val, find_mty, walk}
use Rattle.shape_core.specs.Shape.{value_in, brought, entries_from, is_shown, weights, depth}
use Rattle.shape_core.specs.Links.{Trace, ◌&◌, matched, links, pinned}
use Rattle.shape_core.specs.Looks.{match_looks}

abbrev place : ℕ → Place
place n = record { file = 0; token = n }

abbrev decl : ℕ → Goal
decl n = Decl (place n)

abbrev val : List ℕ → ℕ → Entries → Entries
val x n es = a_val x (decl n) es

abbrev one : List ℕ → ℕ → Shape
one x n = Struct (val x n none)

-- two functor applications included: `x` twice with one goal
abbrev two_includes : Entries
two_includes =
    a_mod (codes "F") (Functor (one (codes "v") 8) (one (codes "x") 16))
    (a_mod (codes "A") (one (codes "v") 27)
    (a_mod (codes "B") (one (codes "v") 36)
    (val (codes "x") 16 (val (codes "x") 16 none))))

included : find_val two_includes (codes "x") ≡ Some (decl 16)
included = refl

absent : find_val two_includes (codes "v") ≡ None
absent = refl

within : value_in (walk two_includes (codes "B" ∷ [])) (codes "v") ≡ decl 36
within = refl

lacking : value_in (walk two_includes (codes "A" ∷ [])) (codes "x") ≡ Missing
lacking = refl

-- a functor is no structure, and a path into it ends nowhere
into_functor : walk two_includes (codes "F" ∷ codes "A" ∷ []) ≡ Opaque
into_functor = refl

other_kind : find_mty two_includes (codes "A") ≡ None
other_kind = refl

earlier : is_shown (entries_from 3 two_includes) ≡ false
earlier = refl

later : is_shown (entries_from 4 two_includes) ≡ true
later = refl

weighed : weights two_includes ≡ 10
weighed = refl

levels : depth (Struct two_includes) ≡ 2
levels = refl

-- openings of outside modules before, between and after values
abbrev opened : Entries
opened = a_dark (place 1)
    (val (codes "x") 2 (a_dark (place 3) (val (codes "x") 4 (val (codes "y") 5 (a_dark (place 6) (a_dark (place 7) (val (codes "z") 8 none)))))))

behind : find_val opened (codes "x") ≡ Some (Blur (place 7) 2 (Some (place 4)))
behind = refl

after : find_val opened (codes "z") ≡ Some (decl 8)
after = refl

nowhere : find_val opened (codes "w") ≡ Some (Blur (place 7) 4 None)
nowhere = refl

dark : is_shown opened ≡ false
dark = refl

-- what is no structure brings one Dark entry
brings : brought (Unitary Opaque) (place 9) ≡ a_dark (place 9) none
brings = refl

abbrev link : ℕ → Goal → Link
link n g = record { item = decl n; source = g }

abbrev told : List Link → ℕ → Trace Link
told l n = record { told = l; work = n }

-- a functor's argument against its parameter
argument : links (one (codes "f") 32) (one (codes "f") 7) ≡ told (link 7 (decl 32) ∷ []) 2
unfolding matched ◌&◌
argument = refl

-- a functor against a functor type: the type's parameter is matched with the functor's
abbrev functor : Shape
functor = Functor (one (codes "a") 21) (one (codes "b") 57)

abbrev functor_type : Shape
functor_type = Functor (Struct (val (codes "a") 7 (val (codes "k") 11 none))) (one (codes "b") 39)

turned : links functor functor_type ≡ told (link 21 (decl 7) ∷ link 39 (decl 57) ∷ []) 5
unfolding matched ◌&◌
turned = refl

-- module types are matched in both directions
both_ways : links (Struct (a_mty (codes "S") (Struct (val (codes "x") 1 (val (codes "y") 2 none))) none))
    (Struct (a_mty (codes "S") (one (codes "x") 6) none))
    ≡ told (link 6 (decl 1) ∷ link 1 (decl 6) ∷ link 2 Missing ∷ []) 7
unfolding matched ◌&◌
both_ways = refl

-- a hidden value, and the values of the source for a Dark entry of the target
dark_target : links (Struct (val (codes "x") 1 (val (codes "x") 2 none))) (Struct (val (codes "x") 5 (val (codes "x") 6 (a_dark (place 7) none))))
    ≡ told (link 5 Hidden ∷ link 6 (decl 2) ∷ link 1 Hidden ∷ link 2 Outside ∷ []) 6
unfolding matched ◌&◌
dark_target = refl

-- shapes of two kinds are pinned, the target first
two_kinds : links (Functor (one (codes "x") 1) (one (codes "y") 2)) (one (codes "x") 6) ≡ told (link 6 Outside ∷ link 1 Outside ∷ link 2 Outside ∷ [])
    8
unfolding matched ◌&◌
two_kinds = refl

outside_unit : pinned (one (codes "f") 2) ≡ told (link 2 Outside ∷ []) 2
unfolding ◌&◌
outside_unit = refl

-- the looks of the functor against the functor type
abbrev watch : Watch
watch = record { old = codes "a"; new = codes "c"; foot = record { decls = place 7 ∷ place 21 ∷ []; outside = None } }

abbrev turned_look : LinkLook
turned_look = record {
  number = 0;
  item = place 21;
  is_new = false;
  later_foot = false;
  later_old = false;
  later_new = false;
  pinned = false;
  darks = 0;
  by = None;
  foot = Some (0, place 7, 0);
  old = None;
  new = None;
}

looked : match_looks watch functor functor_type ≡ record { refs = []; links = turned_look ∷ []; passed = 2 }
unfolding matched ◌&◌
looked = refl
