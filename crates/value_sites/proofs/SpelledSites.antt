-- The places of a respelled tree are its places, respelled.
use Rattle.std.proofs.Common.{◌≡◌, List, [], ◌∷◌, ◌++◌, Bool, false, map, codes, refl, sym, ap, ◌∙◌}
use Rattle.ml_trees.specs.declared.fixed.Fixed.TheVariants as key
use Rattle.ml_trees.specs.Tok.{Tok, placed, word}
use Rattle.ml_trees.specs.Tree.{ValueName, PlainName, OperatorName, UpperName, AnyName, FileTree}
use Rattle.ml_trees.specs.Events.{Event, said, run_of, value, field, label, operator, minus, brings}
use Rattle.tree_events.specs.Behind.{behind}
use Rattle.value_sites.specs.Places.{Site, plain, punned, operated, operator_sites, name_sites, label_site, adds_site, sites}
use Rattle.value_sites.specs.Respelled.{Spelling, spell_tok, spell_value_name, spell_file}
use Rattle.value_sites.specs.Each.{Each}
use Rattle.value_sites.specs.SpelledSites.{IsKept, spell_site, SitesAreRespelled}
use Rattle.value_sites.proofs.Sited.{front, operator_stay}
use Rattle.value_sites.proofs.KeptSites.{map-both, one_kept, operator-spell}
use Rattle.value_sites.proofs.SpelledEvents.{spell_event, file_spelled}

module _ (v : Spelling) where
  abbrev Kept : Site → Type 0
  Kept = IsKept v

  abbrev s : Site → Site
  s = spell_site v

  -- what is made of the places of a respelled tree, and of those of the tree: the second keeps the places found before,
  -- and gives the first if its places are kept
  abbrev Agree : (List Site → List Site) → (List Site → List Site) → Type 0
  Agree f g = (found : List Site) → Each Kept (g found) → Each Kept found × (f (map s found) ≡ map s (g found))

  -- one after another
  both : (f g k k' : List Site → List Site) → Agree f g → Agree k k' → Agree (λ l. k (f l)) (λ l. k' (g l))
  both f g k k' one more found h =
      let behind_it = more (g found) h in
      let here = one found behind_it.0 in
      (here.0, ap k here.1 ∙ behind_it.1)

  -- a place that keeps its word
  kept_one : (x : Site) → ((found : List Site) → Each Kept (found ++ x ∷ []) → map s (x ∷ []) ≡ x ∷ []) → Agree (λ l. l ++ x ∷ []) (λ l. l ++ x ∷ [])
  kept_one x is found h = (front Kept found (x ∷ []) h, ap (λ l. map s found ++ l) (sym (is found h)) ∙ map-both s found (x ∷ []))

  -- a place that takes its new word
  new_one : (x : Site) → Agree (λ l. l ++ s x ∷ []) (λ l. l ++ x ∷ [])
  new_one x found h = (front Kept found (x ∷ []) h, map-both s found (x ∷ []))

  operator-agrees : (b : Bool) (t : Tok) → Agree (λ l. operator_sites l b (spell_tok v t)) (λ l. operator_sites l b t)
  operator-agrees b (placed key.Equals at) = kept_one (operated b at (codes "=")) (λ found h. one_kept v (operated b at (codes "=")) found h refl)
  operator-agrees b (word c x) = λ found h. (
    operator_stay Kept b (word c x) found h,
    ap (λ l. map s found ++ l) (operator-spell v b (word c x) found h) ∙ map-both s found (operated b x.at x.text ∷ []),
  )
  operator-agrees b _ = λ found h. (h, refl)

  name-agrees : (b : Bool) (x : ValueName) → Agree (λ l. name_sites l b (spell_value_name v x)) (λ l. name_sites l b x)
  name-agrees b (PlainName x) = new_one (plain b x)
  name-agrees b (OperatorName at t) = operator-agrees b t

  event-agrees : (e : Event) → Agree (λ l. adds_site l (spell_event v e)) (λ l. adds_site l e)
  event-agrees (value b x) = name-agrees b x
  event-agrees (field b x) = new_one (punned b x.at x.text)
  event-agrees (label b x) = kept_one (label_site b x) (λ found h. one_kept v (label_site b x) found h refl)
  event-agrees (operator t) = operator-agrees false t
  event-agrees (minus x) = kept_one (operated false x.at (126 ∷ x.text)) (λ found h. one_kept v (operated false x.at (126 ∷ x.text)) found h refl)
  event-agrees _ = λ found h. (h, refl)

  step-agrees : (e : Event) (k k' : List Site → List Site) → Agree k k' → Agree (λ l. k (adds_site l (spell_event v e))) (λ l. k' (adds_site l e))
  step-agrees e k k' r = both (λ l. adds_site l (spell_event v e)) (λ l. adds_site l e) k k' (event-agrees e) r

  event-kept : (e : Event) (k k' : List Site → List Site) → Agree k k' → Agree (behind adds_site (spell_event v e) k) (behind adds_site e k')
  event-kept (said t) k k' r = r
  event-kept (run_of ts) k k' r = r
  event-kept (brings (UpperName x)) k k' r = r
  event-kept (brings (AnyName at)) k k' r = r
  event-kept (value b x) k k' r = step-agrees (value b x) k k' r
  event-kept (field b x) k k' r = step-agrees (field b x) k k' r
  event-kept (label b x) k k' r = step-agrees (label b x) k k' r
  event-kept (operator t) k k' r = step-agrees (operator t) k k' r
  event-kept (minus x) k k' r = step-agrees (minus x) k k' r
  event-kept _ k k' r = r

  -- the places of a file
  pub sites-spell : (t : FileTree) → Each Kept (sites t) → sites (spell_file v t) ≡ map s (sites t)
  sites-spell t h = (file_spelled (behind adds_site) (behind adds_site) Agree v event-kept t (λ found h. (h, refl)) [] h).1

pub sites_are_respelled : SitesAreRespelled
sites_are_respelled v t = sites-spell v t
