-- Files of the same tokens are read as the same project, or refused for the same reason, and targets name the same.
use Rattle.std.proofs.Common.{◌≡◌, ℕ, suc, inl, inr, List, [], ◌∷◌, Bool, true, false, cond, Some, option_map, map, length}
use Rattle.std.proofs.Common.{refl, ap, sym, subst, ◌∙◌}
use Rattle.std.specs.Prelude.{bytes_eq}
use Rattle.std.specs.BTreeSet.{insert_key}
use Rattle.std.specs.Cmp.Lexicographic.{slice_cmp}
use Rattle.std.specs.Ordering.{nat_cmp}
use Rattle.rotor_base.specs.Files.{FileSet}
use Rattle.rotor_base.specs.Unit.{unit_of}
use Rattle.rotor_base.specs.declared.place.Place.{Place}
use Rattle.rotor_base.specs.declared.refusal.Refusal.{Refusal}
use Rattle.rotor_base.specs.declared.source.SourceFile.{SourceFile}
use Rattle.rotor_base.specs.declared.target.Target.{Target}
use Rattle.ml_trees.specs.Tree.{FileTree, UnitTree}
use Rattle.shape_core.specs.Shape.{Name}
use Rattle.unit_order.specs.Order.{order_of, takes_all}
use Rattle.project_reading.specs.Reads.{Unread, AreStuck}
use Rattle.project_reading.specs.Units.{in_order, is_part, part_of, unit_from, unit_names, units_of}
use Rattle.rename_model.specs.Renaming.{HasNoTarget}
use Rattle.rename_model.specs.Target.{Aims, Names, number_of}
use Rattle.rename_model.proofs.One.{one_name}
use Rattle.rotor_base.specs.declared.refusal.Refusal.TheVariants as refusal
use Rattle.rotor_base.specs.declared.target.Target.TheVariants.{Spot}
use Rattle.rename_files.specs.Answer.{Accepts, Rejects}
use Rattle.token_laws.specs.Tokens.{AllHaveSameTokens, DifferInBlanks, NameTheSame, by_number, by_path, by_spot}
use Rattle.token_laws.specs.Laws.{ReadingsAreTheSame}
use Rattle.token_laws.proofs.Sources.{all_read_the_same, all_turned, first_unread_the_same}

pub differ_turned : (one other : FileSet) → DifferInBlanks one other → DifferInBlanks other one
differ_turned one other h = record { sources = all_turned one.entries other.entries h.sources; manifest = sym h.manifest }

-- ---- units

same_parts : (body : Bool) (name : List ℕ) (ones others : List SourceFile) (ts : List FileTree) → AllHaveSameTokens ones others
    → part_of body name ones ts ≡ part_of body name others ts
same_parts body name [] [] ts h = refl
same_parts body name [] (b ∷ others) ts h = absurd h
same_parts body name (a ∷ ones) [] ts h = absurd h
same_parts body name (a ∷ ones) (b ∷ others) [] h = refl
same_parts body name (a ∷ ones) (b ∷ others) (t ∷ ts) h =
    ap (λ (x : List ℕ). cond (is_part body name (record { name = x; bytes = a.bytes })) (Some t) (part_of body name ones ts)) h.0.name
    ∙ ap (λ o. cond (is_part body name b) (Some t) o) (same_parts body name ones others ts h.1)

same_names : (ones others : List SourceFile) → AllHaveSameTokens ones others → unit_names ones ≡ unit_names others
same_names [] [] h = refl
same_names [] (b ∷ others) h = absurd h
same_names (a ∷ ones) [] h = absurd h
same_names (a ∷ ones) (b ∷ others) h =
    ap (λ ns. insert_key (slice_cmp nat_cmp) ns (unit_of a.name)) (same_names ones others h.1)
    ∙ ap (λ (x : List ℕ). insert_key (slice_cmp nat_cmp) (unit_names others) (unit_of x)) h.0.name

units_named : (ones others : List SourceFile) (ts : List FileTree) → AllHaveSameTokens ones others → (names : List (List ℕ))
    → map (unit_from ones ts) names ≡ map (unit_from others ts) names
units_named ones others ts h [] = refl
units_named ones others ts h (n ∷ names) =
    ap (λ o. record { name = n; body = o; face = part_of false n ones ts } ∷ map (unit_from ones ts) names) (same_parts true n ones others ts h)
    ∙ (ap (λ o. record { name = n; body = part_of true n others ts; face = o } ∷ map (unit_from ones ts) names) (same_parts false n ones others ts h)
    ∙ ap (λ us. unit_from others ts n ∷ us) (units_named ones others ts h names))

same_units : (ones others : List SourceFile) (ts : List FileTree) → AllHaveSameTokens ones others → units_of ones ts ≡ units_of others ts
same_units ones others ts h = units_named ones others ts h (unit_names ones) ∙ ap (map (unit_from others ts)) (same_names ones others h)

-- ---- readings

pub readings_are_the_same : ReadingsAreTheSame
readings_are_the_same one other us d r =
    let units = same_units one.entries other.entries r.trees d.sources in
    record {
      trees = r.trees;
      read = all_read_the_same 0 one.entries other.entries r.trees d.sources r.read;
      taken = λ none. ap takes_all (sym units) ∙ r.taken (d.manifest ∙ none);
      linked = r.linked
          ∙ (ap (λ l. in_order l (order_of l one.manifest)) units
          ∙ ap (λ m. in_order (units_of other.entries r.trees) (order_of (units_of other.entries r.trees) m)) d.manifest);
    }

unread_the_same : (one other : FileSet) (why : Refusal) → DifferInBlanks one other → Unread one why → Unread other why
unread_the_same one other why d (inl h) = inl (first_unread_the_same 0 one.entries other.entries why d.sources h)
unread_the_same one other why d (inr h) =
    let ts = h.2.trees in
    inr (
      h.0,
      h.1,
      record {
        trees = ts;
        read = all_read_the_same 0 one.entries other.entries ts d.sources h.2.read;
        stuck = subst (λ m. AreStuck (units_of other.entries ts) m h.0) d.manifest
            (subst (λ us. AreStuck us one.manifest h.0) (same_units one.entries other.entries ts d.sources) h.2.stuck);
      },
    )

pub accepts_the_same : (one other : FileSet) (us : List UnitTree) → DifferInBlanks one other → Accepts one us → Accepts other us
accepts_the_same one other us d a = record { reads = readings_are_the_same one other us d a.reads; none = a.none }

pub rejects_the_same : (one other : FileSet) (why : Refusal) → DifferInBlanks one other → Rejects one why → Rejects other why
rejects_the_same one other why d (inl h) = inl (unread_the_same one other why d h)
rejects_the_same one other why d (inr h) = inr (h.0, readings_are_the_same one other h.0 d h.1, h.2)

pub as_many : (ones others : List SourceFile) → AllHaveSameTokens ones others → length ones ≡ length others
as_many [] [] h = refl
as_many [] (b ∷ others) h = absurd h
as_many (a ∷ ones) [] h = absurd h
as_many (a ∷ ones) (b ∷ others) h = ap suc (as_many ones others h.1)

-- ---- targets

same_numbers : (name : Name) (ones others : List SourceFile) → AllHaveSameTokens ones others → number_of ones name ≡ number_of others name
same_numbers name [] [] h = refl
same_numbers name [] (b ∷ others) h = absurd h
same_numbers name (a ∷ ones) [] h = absurd h
same_numbers name (a ∷ ones) (b ∷ others) h =
    ap (λ (x : List ℕ). cond (bytes_eq x name) (Some 0) (option_map suc (number_of ones name))) h.0.name
    ∙ ap (λ o. cond (bytes_eq b.name name) (Some 0) (option_map suc o)) (same_numbers name ones others h.1)

names_the_same : (one other : FileSet) (us : List UnitTree) (t u : Target) (d : Place) → DifferInBlanks one other → NameTheSame one other t u
    → Names one us t d → Names other us u d
names_the_same one other us _ _ d h (by_number file token) n = (sym (same_numbers file one.entries other.entries h.sources) ∙ n.0, n.1)
names_the_same one other us _ _ d h (by_path path) n = n
names_the_same one other us _ _ d h (by_spot f g l c m k at here there) n =
    let same : at ≡ d = one_name one us (Spot f l c) at d here n in
    subst (Names other us (Spot g m k)) same there

pub aims_the_same : (one other : FileSet) (us : List UnitTree) (t u : Target) (d : Place) → DifferInBlanks one other → NameTheSame one other t u
    → Aims one us t d → Aims other us u d
aims_the_same one other us t u d h n a = (names_the_same one other us t u d h n a.0, a.1)

pub target_turned : (one other : FileSet) (t u : Target) → NameTheSame one other t u → NameTheSame other one u t
target_turned one other _ _ (by_number file token) = by_number file token
target_turned one other _ _ (by_path path) = by_path path
target_turned one other _ _ (by_spot f g l c m k at here there) = by_spot g f m k l c at there here

pub no_target_the_same : (one other : FileSet) (us : List UnitTree) (t u : Target) (why : Refusal) → DifferInBlanks one other
    → NameTheSame one other t u → HasNoTarget one us t why → HasNoTarget other us u why
no_target_the_same one other us t u refusal.NoTarget h n k =
    λ d a. k d (aims_the_same other one us u t d (differ_turned one other h) (target_turned one other t u n) a)
no_target_the_same one other us t u _ h n k = absurd k
