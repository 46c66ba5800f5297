use Rattle.std.proofs.Common.{◌≡◌, ◌-◌, Bor, List, [], ◌∷◌, Option, None, Some, option_map, length, suc, arith, refl, ap, ◌∙◌}
use Rattle.std.specs.List.{slice_get}
use Rattle.std.specs.Option.{option_copied}
use Rattle.serde_json.specs.View.{items_view, view}
use Rattle.serde_json.specs.declared.value.Value.{Value}
use Rattle.requests.specs.Notice.{last_item}
use Rattle.requests.proofs.notice.last_item.Goals as goal

viewed : (found : Option (Bor Value)) → option_map (λ (value : Bor Value). view value.now) found ≡ option_map view (option_copied found)
viewed None = refl
viewed (Some value) = refl

last_got : (values : List Value) → option_map view (slice_get values (length values - 1)) ≡ last_item (items_view values)
last_got [] = refl
last_got (value ∷ []) = refl
last_got (value ∷ other ∷ values) =
    let at : length (value ∷ other ∷ values) - 1 ≡ suc (length (other ∷ values) - 1) = omega arith in
    ap (λ i. option_map view (slice_get (value ∷ other ∷ values) i)) at ∙ last_got (other ∷ values)

pub returns : goal.returns
returns c = viewed c.last.result ∙ ap (option_map view) c.last.ensures.value ∙ last_got c.args.list.now
