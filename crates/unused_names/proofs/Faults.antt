-- The first fault is a Mislink of an item that was hidden, or there is none.
use Rattle.std.proofs.Common.{◌≡◌, inl, inr, List, Contains}
use Rattle.rotor_base.specs.declared.looks.Watch.{Watch}
use Rattle.rotor_base.specs.declared.place.Goal.TheVariants.{Decl, Outside, Missing, Hidden, Blur}
use Rattle.rotor_base.specs.declared.place.Link.{Link}
use Rattle.value_sites.specs.Sound.{IsSound}
use Rattle.ml_trees.specs.Tree.{UnitTree}
use Rattle.binding_model.specs.Facts.{facts, IsGood}
use Rattle.binding_model.specs.Renaming.{renaming}
use Rattle.binding_model.specs.Renaming.{name_of, respell}
use Rattle.capture_check.specs.declared.fault.Fault.{Fault}
use Rattle.capture_check.specs.declared.fault.Fault.TheVariants.{Clash, Capture, Mislink}
use Rattle.capture_check.specs.Fault.{IsCapture, IsClash, IsMet, IsMislink, faults, of_link}
use Rattle.capture_check.proofs.Equal.{no_fault_keeps_facts}
use Rattle.unused_names.specs.Laws.{HidesNothing, NothingHiddenStays, TakesUnused, UnusedTakesNothing, WasHidden}
use Rattle.unused_names.proofs.Trees.{got_in, no_capture, no_clash, was_hidden}

-- a Mislink, of a link whose source is Hidden
pub record IsOfHidden (us : List UnitTree) (fault : Fault) : Type 0 where
  pub was : WasHidden fault
  pub link : Link
  pub among : Contains (facts us).links link
  pub source : link.source ≡ Hidden

module _ (us : List UnitTree) (w : Watch) (sound : IsSound us) (good : IsGood us) (t : TakesUnused us w) where
  abbrev vs : List UnitTree
  vs = respell us (renaming w)

  clash : (f : Fault) → IsClash (name_of vs) (facts vs).groups f → ⊥
  clash (Clash first again) h = no_clash us sound w t.watched t.unused good first again h
  clash (Capture at was would) h = h
  clash (Mislink item was would) h = h

  capture : (f : Fault) → IsCapture (facts us).refs (facts vs).refs f → ⊥
  capture (Clash first again) h = h
  capture (Capture at was would) h = no_capture us sound w t.watched t.unused at was would h
  capture (Mislink item was would) h = h

  mislink : (f : Fault) → IsMislink (facts us).links (facts vs).links f → IsOfHidden us f
  mislink (Clash first again) h = absurd h
  mislink (Capture at was would) h = absurd h
  mislink (Mislink (Decl item) was would) h =
      let e = was_hidden us sound w t.watched t.unused t.binder t.is_foot item was would h in
      record { was = e; link = of_link item was; among = got_in (facts us).links h.number (of_link item was) h.differs.old_one; source = e }
  mislink (Mislink Outside was would) h = absurd h
  mislink (Mislink Missing was would) h = absurd h
  mislink (Mislink Hidden was would) h = absurd h
  mislink (Mislink (Blur by n o) was would) h = absurd h

  pub of_hidden : (f : Fault) → faults (name_of vs) (facts us) (facts vs) f → IsOfHidden us f
  of_hidden f (inl h) = absurd (clash f h)
  of_hidden f (inr (n, inl h)) = absurd (capture f h)
  of_hidden f (inr (n, inr (m, h))) = mislink f h

  pub none_hidden : HidesNothing us → IsMet (faults (name_of vs) (facts us) (facts vs)) → ⊥
  none_hidden shown (f, h) = let k = of_hidden f h in shown k.link k.among k.source

pub unused_takes_nothing : UnusedTakesNothing
unused_takes_nothing us w f sound good t h = (of_hidden us w sound good t f h).was

pub nothing_hidden_stays : NothingHiddenStays
nothing_hidden_stays us w sound good t shown = no_fault_keeps_facts us w sound t.watched (none_hidden us w sound good t shown)
