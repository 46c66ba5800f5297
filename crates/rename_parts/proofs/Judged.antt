-- The findings of a footprint, judged.
use Rattle.std.proofs.Common.{◌≡◌, ◌⊎◌, List, true, Option, Contains, bytes_eq, ap, sym, subst, ◌∙◌}
use Rattle.std.specs.BTreeSet.{BTreeSet}
use Rattle.std.specs.List.{list_any}
use Rattle.rotor_base.specs.Name.{is_value_name}
use Rattle.rotor_base.specs.declared.place.Place.{Place}
use Rattle.rotor_base.specs.declared.place.Facts.{Facts}
use Rattle.rotor_base.specs.declared.place.Foot.{Foot}
use Rattle.rotor_base.specs.declared.refusal.Refusal.{Refusal}
use Rattle.ml_trees.specs.Tree.{UnitTree}
use Rattle.shape_core.specs.Shape.{Name}
use Rattle.binding_model.specs.Facts.{facts}
use Rattle.binding_model.specs.Renaming.{name_of, places}
use Rattle.rename_model.specs.Foot.{hits}
use Rattle.rename_model.specs.Renaming.{IsBlurredAt}
use Rattle.rename_parts.specs.declared.checks.Hit.{Hit}
use Rattle.rename_parts.specs.Blurs.{BlursRef, BlursLink}
use Rattle.rename_parts.specs.Hits.{all_hits}
use Rattle.rename_parts.specs.Leasts.{IsLeastOrNone}
use Rattle.shape_core.specs.Places.{HasPlaces}
use Rattle.rename_parts.specs.declared.findings.Findings.{Findings}
use Rattle.rename_parts.specs.Findings.{refusal_of}
use Rattle.rename_parts.proofs.Found.{operator_met, operator_none, pun_least, blurred_least}
use Rattle.rename_parts.proofs.Rungs.{told, Told}

module _ (us : List UnitTree) (fs : Facts) (foot : Foot) (new old : Name) (members : BTreeSet Place) (marks : List Hit)
    (fs_is : fs ≡ facts us) (members_of : HasPlaces foot.decls members) (marks_are : marks ≡ all_hits (hits (facts us).refs foot) (places us)) where
  -- what a scan says of its list, it says of the hits
  as_hits : (Q : List Hit → Type 0) → Q marks → Q (all_hits (hits (facts us).refs foot) (places us))
  as_hits Q h = subst Q marks_are h

  pub judged : (f : Findings) → f.operator ≡ list_any (λ h. h.operator) marks → f.valid ≡ is_value_name new → f.same ≡ bytes_eq new old
      → f.outside ≡ foot.outside
      → IsLeastOrNone (λ p. (h : Hit) × Contains marks h × (h.pun ≡ true) × (h.place ≡ p)) f.pun
      → IsLeastOrNone (λ p. BlursRef members fs.refs p ⊎ BlursLink members fs.links p) f.blurred
      → (o : Option Refusal) → o ≡ refusal_of f → (d : Place) → old ≡ name_of us d → Told us d foot new o
  judged f op va sa ou pu bl o e d n =
      let operator : f.operator ≡ list_any (λ h. h.operator) (all_hits (hits (facts us).refs foot) (places us)) =
      as_hits (λ hs. f.operator ≡ list_any (λ h. h.operator) hs) op in
      subst (Told us d foot new) (sym e)
      (told us d foot new f.operator f.valid f.same f.outside f.pun f.blurred (record {
        met = λ t. operator_met us foot (sym operator ∙ t);
        words = λ t. operator_none us foot (sym operator ∙ t);
        valid = va;
        same = sa ∙ ap (bytes_eq new) n;
        outside = ou;
        pun = pun_least us foot f.pun
            (as_hits (λ hs. IsLeastOrNone (λ p. (h : Hit) × Contains hs h × (h.pun ≡ true) × (h.place ≡ p)) f.pun) pu);
        blurred = subst (λ (z : Facts). IsLeastOrNone (IsBlurredAt z foot) f.blurred) fs_is (blurred_least fs foot members members_of f.blurred bl);
      }))
