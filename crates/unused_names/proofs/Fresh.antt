-- What a look-up finds if members of a footprint take a name that no value has.
use Rattle.std.proofs.Common.{◌≡◌, ◌≢◌, ℕ, Bool, true, false, if◌then◌else◌, ◌∷◌, Option, Some, None, length, bytes_eq, refl, ap, sym, ◌∙◌}
use Rattle.std.proofs.lemmas.Slice.Eq.{bytes_eq-Decides}
use Rattle.rotor_base.specs.declared.place.Goal.{Goal}
use Rattle.rotor_base.specs.declared.place.Goal.TheVariants.{Decl, Outside, Missing, Hidden, Blur}
use Rattle.rotor_base.specs.declared.place.Place.{Place}
use Rattle.rotor_base.specs.declared.looks.Watch.{Watch}
use Rattle.shape_core.specs.Shape.{Name, Entries, none, a_val, a_mod, a_mty, a_dark, vals, or_else, or_value, some_if, unless_some}
use Rattle.shape_core.specs.Shape.{last_of, last_place, passed}
use Rattle.shape_core.specs.Shape.{seen, find_val}
use Rattle.shape_core.specs.Looks.{is_member}
use Rattle.shape_core.specs.Respell.{Words, spell_at, spell_entries}
use Rattle.binding_model.specs.Criterion.{Renamed}

module _ (w : Watch) (wd : Words) where
  -- a declaration that takes the new name if it is a member, and does not have it before
  pub record IsFresh (x : Name) (g : Goal) : Type 0 where
    pub renamed : Renamed w wd x g
    pub fresh : x ≢ w.new

  -- each value of a list
  abbrev pub AreFresh : Entries → Type 0
  AreFresh none = Unit {0}
  AreFresh (a_val x g es) = IsFresh x g × AreFresh es
  AreFresh (a_mod X s es) = AreFresh es
  AreFresh (a_mty S s es) = AreFresh es
  AreFresh (a_dark at es) = AreFresh es

  -- a look-up of the name `x`, and then of `y`: the new name, if what is found is a member
  pub record IsLookUp (m : Bool) (x y : Name) : Type 0 where
    pub word : y ≡ (if m then w.new else x)
    pub old : m ≡ true → x ≡ w.old
    pub fresh : x ≢ w.new

  -- what is found is a member exactly if `m` says so
  abbrev pub Agrees : Bool → Option Goal → Type 0
  Agrees m None = Unit {0}
  Agrees m (Some g) = is_member w g ≡ m

  module _ (m : Bool) (x y : Name) (look : IsLookUp m x y) where
    other_word : (z : Name) (g : Goal) (c n : Bool) → is_member w g ≡ c → m ≡ n → IsFresh z g → z ≢ x → spell_at wd g z ≢ y
    other_word z g true true i j f ne e = ne (f.renamed.1 i ∙ sym (look.old j))
    other_word z g true false i j f ne e =
        look.fresh
        (sym (ap (λ b. if b then w.new else x) j) ∙ (sym look.word ∙ (sym e ∙ (f.renamed.0 ∙ ap (λ b. if b then w.new else z) i))))
    other_word z g false true i j f ne e =
        f.fresh
        (sym (ap (λ b. if b then w.new else z) i) ∙ (sym f.renamed.0 ∙ (e ∙ (look.word ∙ ap (λ b. if b then w.new else x) j))))
    other_word z g false false i j f ne e =
        ne
        (sym (ap (λ b. if b then w.new else z) i)
        ∙ (sym f.renamed.0 ∙ (e ∙ (look.word ∙ ap (λ b. if b then w.new else x) j))))

    no_match : (a b : Name) (c : Bool) → bytes_eq a b ≡ c → a ≢ b → c ≡ false
    no_match a b true e n = absurd (n ((bytes_eq-Decides a b).0 e))
    no_match a b false e n = refl

    apart : (a b : Name) → bytes_eq a b ≡ false → a ≢ b
    apart a b e q = let wrong : true ≡ false = sym ((bytes_eq-Decides a b).1 q) ∙ e in cc

    same_test : (z : Name) (g : Goal) (b : Bool) → bytes_eq z x ≡ b → IsFresh z g → Agrees m (some_if b g)
        → bytes_eq (spell_at wd g z) y ≡ b
    same_test z g true e f h =
        let word : spell_at wd g z ≡ y =
        f.renamed.0
        ∙ (ap (λ b. if b then w.new else z) h ∙ (ap (λ (n : Name). if m then w.new else n) ((bytes_eq-Decides z x).0 e) ∙ sym look.word)) in
        (bytes_eq-Decides (spell_at wd g z) y).1 word
    same_test z g false e f h =
        no_match (spell_at wd g z) y (bytes_eq (spell_at wd g z) y) refl (other_word z g (is_member w g) m refl refl f (apart z x e))

    agrees_behind : (o p : Option Goal) → Agrees m (or_else o p) → Agrees m o
    agrees_behind None p h = tt
    agrees_behind (Some g) p h = h

    last_val : (z : Name) (g : Goal) (o p : Option Goal) → o ≡ p → IsFresh z g → Agrees m (or_else p (some_if (bytes_eq z x) g))
        → or_else o (some_if (bytes_eq (spell_at wd g z) y) g) ≡ or_else p (some_if (bytes_eq z x) g)
    last_val z g o (Some k) e f h = ap (λ q. or_else q (some_if (bytes_eq (spell_at wd g z) y) g)) e
    last_val z g o None e f h =
        ap (λ q. or_else q (some_if (bytes_eq (spell_at wd g z) y) g)) e ∙ ap (λ b. some_if b g) (same_test z g (bytes_eq z x) refl f h)

    pub last_stays : (es : Entries) → AreFresh es → Agrees m (last_of (vals es) x) → last_of (vals (spell_entries wd es)) y ≡ last_of (vals es) x
    last_stays none f h = refl
    last_stays (a_val z g es) f h =
        last_val z g (last_of (vals (spell_entries wd es)) y) (last_of (vals es) x)
        (last_stays es f.1 (agrees_behind (last_of (vals es) x) (some_if (bytes_eq z x) g) h)) f.0 h
    last_stays (a_mod X s es) f h = last_stays es f h
    last_stays (a_mty S s es) f h = last_stays es f h
    last_stays (a_dark at es) f h = last_stays es f h

    passed_stays : (es : Entries) → AreFresh es → Agrees m (last_of (vals es) x) → passed (spell_entries wd es) y ≡ passed es x
    passed_stays none f h = refl
    passed_stays (a_val z g es) f h = passed_stays es f.1 (agrees_behind (last_of (vals es) x) (some_if (bytes_eq z x) g) h)
    passed_stays (a_mod X s es) f h = passed_stays es f h
    passed_stays (a_mty S s es) f h = passed_stays es f h
    passed_stays (a_dark at es) f h =
        let P = passed (spell_entries wd es) y in
        ap (λ o. unless_some o (at ∷ P) P) (last_stays es f h) ∙ ap (λ ps. unless_some (last_of (vals es) x) (at ∷ ps) ps) (passed_stays es f h)

    pub found_stays : (es : Entries) → AreFresh es → Agrees m (last_of (vals es) x) → find_val (spell_entries wd es) y ≡ find_val es x
    found_stays es f h =
        ap (λ o. seen o (last_place (passed (spell_entries wd es) y)) (length (passed (spell_entries wd es) y))) (last_stays es f h)
        ∙ ap (λ ps. seen (last_of (vals es) x) (last_place ps) (length ps)) (passed_stays es f h)

  -- ---- by the goal that is found

  -- the declaration of a goal, also behind Dark entries, is a member exactly if `m` says so
  abbrev pub Fits : Bool → Goal → Type 0
  Fits m (Decl d) = is_member w (Decl d) ≡ m
  Fits m (Blur by n (Some d)) = is_member w (Decl d) ≡ m
  Fits m _ = Unit {0}

  abbrev IsDeclared : Option Goal → Type 0
  IsDeclared None = Unit {0}
  IsDeclared (Some g) = (d : Place) × (g ≡ Decl d)

  declared_or : (o : Option Goal) (b : Bool) (g : Goal) → IsDeclared o → ((d : Place) × (g ≡ Decl d)) → IsDeclared (or_else o (some_if b g))
  declared_or (Some k) b g h e = h
  declared_or None true g h e = e
  declared_or None false g h e = tt

  declared : (es : Entries) (x : Name) → AreFresh es → IsDeclared (last_of (vals es) x)
  declared none x f = tt
  declared (a_val z g es) x f = declared_or (last_of (vals es) x) (bytes_eq z x) g (declared es x f.1) f.0.renamed.2
  declared (a_mod X s es) x f = declared es x f
  declared (a_mty S s es) x f = declared es x f
  declared (a_dark at es) x f = declared es x f

  agrees_if : (m : Bool) (o : Option Goal) (by : Option Place) (n : ℕ) (other : Goal) → IsDeclared o → Fits m (or_value (seen o by n) other)
      → Agrees m o
  agrees_if m None by n other d h = tt
  agrees_if m (Some (Decl e)) None n other d h = h
  agrees_if m (Some (Decl e)) (Some at) n other d h = h
  agrees_if m (Some Outside) by n other d h = let wrong : Outside ≡ Decl d.0 = d.1 in cc
  agrees_if m (Some Missing) by n other d h = let wrong : Missing ≡ Decl d.0 = d.1 in cc
  agrees_if m (Some Hidden) by n other d h = let wrong : Hidden ≡ Decl d.0 = d.1 in cc
  agrees_if m (Some (Blur a b c)) by n other d h = let wrong : Blur a b c ≡ Decl d.0 = d.1 in cc

  pub agrees_with : (m : Bool) (es : Entries) (x : Name) (other : Goal) → AreFresh es → Fits m (or_value (find_val es x) other)
      → Agrees m (last_of (vals es) x)
  agrees_with m es x other f h = agrees_if m (last_of (vals es) x) (last_place (passed es x)) (length (passed es x)) other (declared es x f) h
