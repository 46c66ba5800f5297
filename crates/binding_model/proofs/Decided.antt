-- What `==` says of goals and links, and what is known of two lists while they are compared.
use Rattle.std.proofs.Common.{◌≡◌, ◌&&◌, Bool, true, false, refl, sym, ap, rules}
use Rattle.std.specs.Bool.{Decides}
use Rattle.rotor_base.specs.declared.place.Goal.{Goal}
use Rattle.rotor_base.specs.declared.place.Link.{Link}
use Rattle.rotor_base.specs.contracts.place.GoalPartialEq.TheImpl as goals
use Rattle.rotor_base.specs.contracts.place.LinkPartialEq.TheImpl as links

goal_decided : (g h : Goal) → Decides (goals.eq-value.it g h) (g ≡ h)
goal_decided g h = search rules

both : (a b : Link) (p q : Bool) → Decides p (a.item ≡ b.item) → Decides q (a.source ≡ b.source) → Decides (p && q) (a ≡ b)
both a b true true d e = ((λ h i. record { item = d.0 refl i; source = e.0 refl i }), (λ h. refl))
both a b true false d e = ((λ h. let z : true ≡ false = sym h in absurd cc), (λ h. e.1 (ap (λ (x : Link). x.source) h)))
both a b false q d e = (
  (λ h. let z : true ≡ false = sym h in absurd cc),
  (λ h. let z : false ≡ true = d.1 (ap (λ (x : Link). x.item) h) in absurd cc),
)

pub link_decided : (a b : Link) → Decides (links.eq-value.it a b) (a ≡ b)
link_decided a b = both a b (goals.eq-value.it a.item b.item) (goals.eq-value.it a.source b.source) (goal_decided a.item b.item)
    (goal_decided a.source b.source)
