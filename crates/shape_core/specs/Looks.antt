-- Looks' part on the links of Match and Pin: what each look-up of the old or of the new name would
-- find (own).
use Rattle.std.specs.Prelude.{ℕ, suc, Bool, ◌||◌, ◌&&◌, not, is_some, List, [], ◌∷◌, length, Option, Some, None, bytes_eq}
use Rattle.rotor_base.specs.declared.place.Place.{Place}
use Rattle.rotor_base.specs.declared.place.Goal.{Goal}
use Rattle.rotor_base.specs.declared.looks.Watch.{Watch}
use Rattle.rotor_base.specs.declared.looks.LinkLook.{LinkLook}
use Rattle.rotor_base.specs.declared.looks.Looks.{Looks}
use Rattle.shape_core.specs.Shape.{Name, Shape, Entries, none, a_val, a_mod, a_mty, a_dark, or_else, some_if, darks, last_place, decl_of}
use Rattle.shape_core.specs.Links.{matched, pin}
use Rattle.shape_core.specs.Places.{is_among}

-- a test of a value by its name and its goal
abbrev pub Test : Type 0
Test = Name → Goal → Bool

-- the goal is a member of the footprint
abbrev pub is_member : Watch → Goal → Bool
is_member w g = is_among w.foot.decls g

-- a member of the footprint; another value of the old name; a value of the new name
abbrev pub in_foot : Watch → Test
in_foot w x g = is_member w g

abbrev pub other_old : Watch → Test
other_old w x g = bytes_eq x w.old && not (is_member w g)

abbrev pub named_new : Watch → Test
named_new w x g = bytes_eq x w.new

-- a value of this name
abbrev pub of_name : Name → Test
of_name y x g = bytes_eq x y

abbrev pub some_place : Option Place → Place
some_place None = record { file = 0; token = 0 }
some_place (Some p) = p

-- position in a list, from 0; declaration; number of Dark entries after that position
abbrev pub Spot : Type 0
Spot = ℕ × Place × ℕ

abbrev pub moved : Option Spot → Option Spot
moved None = None
moved (Some s) = Some (suc s.0, s.1, s.2)

-- the last value that a test accepts
abbrev pub last_where : Test → Entries → Option Spot
last_where test none = None
last_where test (a_val x g es) = or_else (moved (last_where test es)) (some_if (test x g) (0, some_place (decl_of g), length (darks es)))
last_where test (a_mod X s es) = moved (last_where test es)
last_where test (a_mty S s es) = moved (last_where test es)
last_where test (a_dark at es) = moved (last_where test es)

-- the Dark entries of a source list, and its last value that a test accepts; nothing if the link is pinned
abbrev pub source_darks : Option Entries → List Place
source_darks None = []
source_darks (Some src) = darks src

abbrev pub source_where : Test → Option Entries → Option Spot
source_where test None = None
source_where test (Some src) = last_where test src

-- the look of a link, if its item has the old or the new name
abbrev pub look : Watch → Name → Goal → Entries → Option Entries → Option LinkLook
look w x g rest src =
    some_if (bytes_eq x w.old || bytes_eq x w.new) (record {
      number = 0;
      item = some_place (decl_of g);
      is_new = bytes_eq x w.new;
      later_foot = is_some (last_where (in_foot w) rest);
      later_old = is_some (last_where (other_old w) rest);
      later_new = is_some (last_where (named_new w) rest);
      pinned = not (is_some src);
      darks = length (source_darks src);
      by = last_place (source_darks src);
      foot = source_where (in_foot w) src;
      old = source_where (other_old w) src;
      new = source_where (named_new w) src;
    })

-- the looks that are kept, each with the number of its link
abbrev pub numbered : ℕ → List (Option LinkLook) → List LinkLook
numbered n [] = []
numbered n (None ∷ ls) = numbered (suc n) ls
numbered n (Some l ∷ ls) = record l { number = n } ∷ numbered (suc n) ls

abbrev pub looks_of : List (Option LinkLook) → Looks
looks_of ls = record { refs = []; links = numbered 0 ls; passed = length ls }

-- Looks' part on the links of Match and of Pin
abbrev pub match_looks : Watch → Shape → Shape → Looks
match_looks w s t = looks_of (matched (look w) s t).told

abbrev pub pin_looks : Watch → Shape → Looks
pin_looks w s = looks_of (pin (look w) s).told
