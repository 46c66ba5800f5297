-- The tests of a value in Looks, and the look of a meeting (own).
use Rattle.std.specs.Prelude.{◌≡◌, ◌+◌, ℕ, Bool, false, Option, Some, None, Result, Ok, Err, cond, map, nat_lt}
use Rattle.rotor_base.specs.declared.looks.Looks.{Looks}
use Rattle.sig_match.specs.declared.found.Found.{Found}
use Rattle.sig_match.specs.declared.found.Stop.{Stop}
use Rattle.rotor_base.specs.declared.looks.Watch.{Watch}
use Rattle.rotor_base.specs.declared.looks.LinkLook.{LinkLook}
use Rattle.shape_core.specs.Looks as looks
use Rattle.shape_core.specs.Node.{entries_of}
use Rattle.shape_core.specs.Shape.{Entries, entries_from, entries_in}
use Rattle.sig_match.specs.declared.looks.Rest.{Rest}
use Rattle.sig_match.specs.declared.looks.Rest.TheVariants.{Listed, Behind}
use Rattle.sig_match.specs.declared.looks.Test.{Test}
use Rattle.sig_match.specs.declared.looks.Test.TheVariants.{InFoot, OtherOld, NamedNew}
use Rattle.sig_match.specs.Walk.{Met, mets}

abbrev pub test_of : Test → Watch → looks.Test
test_of InFoot w = looks.in_foot w
test_of OtherOld w = looks.other_old w
test_of NamedNew w = looks.named_new w

-- the spot is behind a position
abbrev pub is_behind : ℕ → Option looks.Spot → Bool
is_behind n None = false
is_behind n (Some s) = nat_lt n s.0

-- the spot, if its position is not below another one
abbrev pub kept_from : ℕ → Option looks.Spot → Option looks.Spot
kept_from n None = None
kept_from n (Some s) = cond (nat_lt s.0 n) None (Some s)

-- the entries after a value
abbrev pub rest_of : Rest → Entries
rest_of (Listed list) = entries_of list.now
rest_of (Behind shape at) = entries_from (at + 1) (entries_in shape.now)

-- the look of a meeting
abbrev pub look_of : Watch → Met → Option LinkLook
look_of w m = looks.look w m.name m.goal m.rest m.source

-- the looks after a walk
abbrev pub HasLooks : Result Unit Stop → Found → Watch → Looks → Type 0
HasLooks (Ok u) found w l = l ≡ looks.looks_of (map (look_of w) (mets found.meetings.items))
HasLooks (Err e) found w l = ⊥
