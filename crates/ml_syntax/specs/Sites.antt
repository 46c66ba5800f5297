-- The places that the program has found (own).
use Rattle.std.specs.Prelude.{ℕ, List, Bool, true, false, map}
use Rattle.ml_syntax.specs.declared.sites.Role.{Role}
use Rattle.ml_syntax.specs.declared.sites.Role.TheVariants as role
use Rattle.ml_syntax.specs.declared.sites.Site.{Site}
use Rattle.value_sites.specs.Places as pure

abbrev pub view_site : Site → pure.Site
view_site x = record { binds = x.binds; at = x.token; name = x.name; pun = x.pun; operator = x.operator }

abbrev pub view_sites : List Site → List pure.Site
view_sites = map view_site

abbrev pub is_pun : Role → Bool
is_pun role.Pun = true
is_pun _ = false

abbrev pub is_operator : Role → Bool
is_operator role.Operator = true
is_operator _ = false

-- the place of a word of this role
abbrev pub site_of : Role → Bool → ℕ → List ℕ → pure.Site
site_of r binds at name = record { binds = binds; at = at; name = name; pun = is_pun r; operator = is_operator r }
