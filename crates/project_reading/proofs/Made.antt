-- What the steps of the program make of files is what they are read as, or why they are not.
use Rattle.std.proofs.Common.{◌≡◌, ℕ, ◌<◌, List, All, Option, None, map, length, ap, sym, subst, ◌∙◌, true}
use Rattle.rotor_base.specs.Files.{FileSet, IsProject}
use Rattle.value_sites.specs.Sound.{AreDistinct, IsSound}
use Rattle.ml_trees.specs.Tree.{FileTree, UnitTree}
use Rattle.unit_order.specs.Order.{order_of, takes_all}
use Rattle.unit_order.specs.Positions.{unit_at, names_at}
use Rattle.project_reading.specs.Reads.{Reads}
use Rattle.project_reading.specs.Sources.{ReadAll}
use Rattle.project_reading.specs.Units.{units_of, in_order}
use Rattle.project_reading.proofs.Linked.{units_apart, order_of_units, in_order_at, once_at}
use Rattle.project_reading.proofs.Soundness.{read_is_sound}

module _ (fs : FileSet) (ts : List FileTree) (us : List UnitTree) (manifest : Option (List ℕ)) (project : IsProject fs)
    (read : ReadAll 0 fs.entries ts) (are : us ≡ units_of fs.entries ts) (given : manifest ≡ fs.manifest) where
  -- the order has each position once
  pub positions_once : (ps : List ℕ) → (manifest ≡ None → takes_all us ≡ true) → names_at us ps ≡ order_of us manifest → AreDistinct ps
  positions_once ps all order =
      let taken : fs.manifest ≡ None → takes_all (units_of fs.entries ts) ≡ true = λ none. ap takes_all (sym are) ∙ all (given ∙ none) in
      let same : names_at us ps ≡ order_of (units_of fs.entries ts) fs.manifest = order ∙ ap (λ u. order_of u manifest) are
      ∙ ap (order_of (units_of fs.entries ts)) given in
      once_at us ps (subst AreDistinct (sym same) (order_of_units fs ts project taken).once)

  pub reads : (ps : List ℕ) (made : List UnitTree) → (manifest ≡ None → takes_all us ≡ true) → names_at us ps ≡ order_of us manifest
      → All (λ p. p < length us) ps → made ≡ map (unit_at us) ps → Reads fs made
  reads ps made all order inside e = record {
    trees = ts;
    read = read;
    taken = λ none. ap takes_all (sym are) ∙ all (given ∙ none);
    linked =
        let inside' : All (λ p. p < length (units_of fs.entries ts)) ps = subst (λ u. All (λ p. p < length u) ps) are inside in
        e ∙ ap (λ u. map (unit_at u) ps) are
        ∙ in_order_at (units_of fs.entries ts) ps (units_apart fs.entries ts) inside'
        ∙ ap (λ names. in_order (units_of fs.entries ts) names)
        (ap (λ u. names_at u ps) (sym are) ∙ order ∙ ap (λ u. order_of u manifest) are ∙ ap (order_of (units_of fs.entries ts)) given);
  }

  pub sound : (ps : List ℕ) (made : List UnitTree) → (manifest ≡ None → takes_all us ≡ true) → names_at us ps ≡ order_of us manifest
      → All (λ p. p < length us) ps → made ≡ map (unit_at us) ps → IsSound made
  sound ps made all order inside e = read_is_sound fs made project (reads ps made all order inside e)
