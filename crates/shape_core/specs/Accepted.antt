-- What an entry alone is to look-ups (own).
use Rattle.std.specs.Prelude.{Bool, false}
use Rattle.shape_core.specs.declared.shared.SharedEntry.{SharedEntry}
use Rattle.shape_core.specs.declared.shared.SharedEntry.TheVariants as e
use Rattle.shape_core.specs.Looks.{Test}

-- the entry is a value that a test accepts
abbrev pub is_accepted : Test → SharedEntry → Bool
is_accepted test (e.Val x g) = test x g
is_accepted test (e.Mod x s) = false
is_accepted test (e.Mty x s) = false
is_accepted test (e.Dark at) = false
