-- What the candidate gives to the binders that it changes.
use Rattle.std.proofs.Common.{◌≡◌, ◌≢◌, ◌||◌, ℕ, zero, suc, inl, inr, List, [], ◌∷◌, Bool, true, false, cond, not, Option, Some, None, map, filter}
use Rattle.std.proofs.Common.{length, slice_get, unwrap_or, refl, ap, sym, subst, ◌∙◌}
use Rattle.std.specs.Prelude.{IsTrue}
use Rattle.std.specs.Str.{bytes_eq}
use Rattle.std.proofs.lemmas.Slice.Eq.{bytes_eq-Decides}
use Rattle.rotor_base.specs.Name.{is_value_name}
use Rattle.rotor_base.specs.Place.{same_place}
use Rattle.rotor_base.specs.declared.place.Goal.{Goal}
use Rattle.rotor_base.specs.declared.place.Goal.TheVariants.{Decl, Outside, Missing, Hidden, Blur}
use Rattle.rotor_base.specs.declared.place.Place.{Place}
use Rattle.rotor_base.specs.declared.source.SourceFile.{SourceFile}
use Rattle.rotor_base.specs.declared.token.Class.{Class}
use Rattle.rotor_base.specs.declared.token.Class.TheVariants as class
use Rattle.ml_lexer.specs.declared.piece.Piece.TheVariants as piece
use Rattle.ml_lexer.specs.Lexed.{Lexeme}
use Rattle.ml_lexer.specs.Pieces.{piece_at}
use Rattle.ml_lexer.proofs.Order.{EachWhole, each_whole}
use Rattle.value_sites.specs.Each.{Each}
use Rattle.value_sites.specs.Places.{Site}
use Rattle.value_sites.specs.Sound.{IsSound}
use Rattle.ml_trees.specs.Tree.{UnitTree}
use Rattle.shape_core.specs.Shape.{Name, or_else, some_if, or_value}
use Rattle.binding_model.specs.Facts.{facts}
use Rattle.binding_model.specs.Laws.{KeepsFixed}
use Rattle.binding_model.specs.Renaming.{IsBinder}
use Rattle.binding_model.specs.Renaming.{Renaming, places, at_place, name_of, site_name, goal_at, new_word, words_of, Changes, IsFixedSite, IsFree}
use Rattle.binding_model.proofs.LastEntries.{same_is}
use Rattle.binding_model.proofs.Naming.{each_ordered}
use Rattle.binding_model.proofs.Sounds.{found_all}
use Rattle.binding_model.proofs.Telltale.{apart_of}
use Rattle.respelled_reading.specs.Renamed.{GivesValueNames}
use Rattle.value_places.specs.Binders.{binding}
use Rattle.rename_respell.specs.Respelled.{changed}
use Rattle.rename_survey.specs.declared.answer.Binder.{Binder}
use Rattle.rename_survey.specs.Survey.{binder_of, binders_of}
use Rattle.rename_verify.specs.Candidate.{AreLexemes, AreLexemesOf, candidate, given_name, if_lower, lexeme_at, lower_word, word_at}
use Rattle.respelled_reading.proofs.Renamed.{goal_there}
use Rattle.renamed_sources.proofs.ValueNames.{lower_is_name}

-- ---- maps of names

entry_in : (P : Place × Name → Type 0) (L : Renaming) (d : Place) (y : Name) → Each P L → at_place L d ≡ Some y → P (d, y)
entry_in P [] d y h e = let wrong : None ≡ Some y = e in absurd cc
entry_in P (x ∷ L) d y h e = by (same_place x.0 d) refl e (entry_in P L d y h.1) where
  by : (b : Bool) → same_place x.0 d ≡ b → or_else (some_if b x.1) (at_place L d) ≡ Some y → (at_place L d ≡ Some y → P (d, y)) → P (d, y)
  by true s f rest = let same : x.1 ≡ y = cc in subst (λ p. P (p, y)) (same_is x.0 d s) (subst (λ z. P (x.0, z)) same h.0)
  by false s f rest = rest f

at_filtered : (test : Place × Name → Bool) (L : Renaming) (d : Place) (y : Name) → at_place (filter test L) d ≡ Some y → (z : Name)
    × (at_place L d ≡ Some z)
at_filtered test [] d y e = let wrong : None ≡ Some y = e in absurd cc
at_filtered test (x ∷ L) d y e = by (same_place x.0 d) refl (test x) refl (at_filtered test L d y) where
  there : (b : Bool) → at_place (cond b (x ∷ filter test L) (filter test L)) d ≡ Some y → same_place x.0 d ≡ false
      → at_place (filter test L) d ≡ Some y
  there true f s = ap (λ v. or_else (some_if v x.1) (at_place (filter test L) d)) (sym s) ∙ f
  there false f s = f

  by : (b : Bool) → same_place x.0 d ≡ b → (t : Bool) → test x ≡ t → (at_place (filter test L) d ≡ Some y → (z : Name) × (at_place L d ≡ Some z))
      → (z : Name) × (or_else (some_if (same_place x.0 d) x.1) (at_place L d) ≡ Some z)
  by true s t u rest = (x.1, ap (λ v. or_else (some_if v x.1) (at_place L d)) s)
  by false s t u rest = let k = rest (there (test x) e s) in (k.0, ap (λ v. or_else (some_if v x.1) (at_place L d)) s ∙ k.1)

pub each_filtered : (P : Place × Name → Type 0) (test : Place × Name → Bool) (L : Renaming) → Each P L
    → Each (λ e. P e × (test e ≡ true)) (filter test L)
each_filtered P test [] h = tt
each_filtered P test (x ∷ L) h = by (test x) refl (each_filtered P test L h.1) where
  by : (b : Bool) → test x ≡ b → Each (λ e. P e × (test e ≡ true)) (filter test L)
      → Each (λ e. P e × (test e ≡ true)) (cond b (x ∷ filter test L) (filter test L))
  by true t k = ((h.0, t), k)
  by false t k = k

abbrev pub is_other : List UnitTree → Place × Name → Bool
is_other us e = not (bytes_eq e.1 (name_of us e.0))

pub other_name : (us : List UnitTree) (d : Place) (y : Name) → is_other us (d, y) ≡ true → y ≢ name_of us d
other_name us d y t e = let same : bytes_eq y (name_of us d) ≡ true = (bytes_eq-Decides y (name_of us d)).1 e in let wrong : false ≡ true = ap not
    (sym same) ∙ t in cc

pub is_other_name : (us : List UnitTree) (d : Place) (y : Name) → y ≢ name_of us d → is_other us (d, y) ≡ true
is_other_name us d y n = by (bytes_eq y (name_of us d)) refl where
  by : (b : Bool) → bytes_eq y (name_of us d) ≡ b → not b ≡ true
  by true e = absurd (n ((bytes_eq-Decides y (name_of us d)).0 e))
  by false e = refl

-- what is changed takes another name
pub changed_other : (us : List UnitTree) (r : Renaming) → Each (λ e. is_other us e ≡ true) (changed us r)
changed_other us [] = tt
changed_other us (x ∷ r) = by (is_other us x) refl (changed_other us r) where
  by : (b : Bool) → is_other us x ≡ b → Each (λ e. is_other us e ≡ true) (changed us r)
      → Each (λ e. is_other us e ≡ true) (cond b (x ∷ changed us r) (changed us r))
  by true t k = (t, k)
  by false t k = k

-- a binder that a map gives another name takes it
pub changes_are_changed : (us : List UnitTree) (r : Renaming) (d : Place) (y : Name) → Changes us r d y → at_place (changed us r) d ≡ Some y
changes_are_changed us [] d y c = c.0
changes_are_changed us (x ∷ r) d y c = by (same_place x.0 d) refl c.0 (λ k. changes_are_changed us r d y k) where
  kept : (b : Bool) → is_other us x ≡ b → same_place x.0 d ≡ true → x.1 ≡ y → at_place (cond b (x ∷ changed us r) (changed us r)) d ≡ Some y
  kept true t s e = ap (λ v. or_else (some_if v x.1) (at_place (changed us r) d)) s ∙ ap (λ (z : Name). Some z) e
  kept false t s e =
      let is : is_other us (d, y) ≡ true = is_other_name us d y c.1 in
      let moved : is_other us x ≡ is_other us (d, y) = ap (λ p. is_other us (p, x.1)) (same_is x.0 d s) ∙ ap (λ z. is_other us (d, z)) e in
      let wrong : false ≡ true = sym t ∙ (moved ∙ is) in
      absurd cc

  passed : (b : Bool) → same_place x.0 d ≡ false → at_place (changed us r) d ≡ Some y → at_place (cond b (x ∷ changed us r) (changed us r)) d ≡ Some y
  passed true s e = ap (λ v. or_else (some_if v x.1) (at_place (changed us r) d)) s ∙ e
  passed false s e = e

  by : (b : Bool) → same_place x.0 d ≡ b → or_else (some_if (same_place x.0 d) x.1) (at_place r d) ≡ Some y
      → (Changes us r d y → at_place (changed us r) d ≡ Some y)
      → at_place (cond (is_other us x) (x ∷ changed us r) (changed us r)) d ≡ Some y
  by true s f rest = kept (is_other us x) refl s (let g : Some x.1 ≡ Some y = ap (λ v. or_else (some_if v x.1) (at_place r d)) (sym s) ∙ f in cc)
  by false s f rest = passed (is_other us x) s (rest (ap (λ v. or_else (some_if v x.1) (at_place r d)) (sym s) ∙ f, c.1))

-- ---- lower-case words are value names

whole_name : (c : Class) (text : List ℕ) (y : Name) → piece_at text ≡ piece.Lexeme c (length text) → if_lower c text ≡ Some y → is_value_name y ≡ true
whole_name class.Lower text y w e = let same : text ≡ y = cc in ap is_value_name (sym same) ∙ lower_is_name text w
whole_name _ text y w e = let wrong : None ≡ Some y = e in absurd cc

got_name : (xs : List Lexeme) (n : ℕ) (y : Name) → EachWhole xs → lower_word (slice_get xs n) ≡ Some y → is_value_name y ≡ true
got_name [] n y w e = let wrong : None ≡ Some y = e in absurd cc
got_name (x ∷ xs) zero y w e = whole_name x.class x.bytes y w.0 e
got_name (x ∷ xs) (suc n) y w e = got_name xs n y w.1 e

at_name : (xs : List Lexeme) (n : ℕ) (y : Name) → EachWhole xs → lower_word (lexeme_at xs n) ≡ Some y → is_value_name y ≡ true
at_name xs zero y w e = let wrong : None ≡ Some y = e in absurd cc
at_name xs (suc n) y w e = got_name xs n y w e

lexemes_whole : (bytes : List ℕ) (xs : List Lexeme) → AreLexemes bytes xs → EachWhole xs
lexemes_whole bytes xs (inl cut) = each_whole cut
lexemes_whole bytes xs (inr k) = subst EachWhole (sym k.1) tt

whole_at : (ss : List SourceFile) (lists : List (List Lexeme)) (n : ℕ) → AreLexemesOf ss lists → EachWhole (unwrap_or (slice_get lists n) [])
whole_at [] [] n h = tt
whole_at [] (xs ∷ lists) n h = absurd h
whole_at (s ∷ ss) [] n h = absurd h
whole_at (s ∷ ss) (xs ∷ lists) zero h = lexemes_whole s.bytes xs h.0
whole_at (s ∷ ss) (xs ∷ lists) (suc n) h = whole_at ss lists n h.1

word_is_name : (ss : List SourceFile) (lists : List (List Lexeme)) (p : Place) (y : Name) → AreLexemesOf ss lists → word_at lists p ≡ Some y
    → is_value_name y ≡ true
word_is_name ss lists p y h e = at_name (unwrap_or (slice_get lists p.file) []) p.token y (whole_at ss lists p.file h) e

-- a name that is not the binder's own
pub record IsNewWord (lists : List (List Lexeme)) (b : Binder) (y : Name) : Type 0 where
  pub free : (b.operator || b.pun) ≡ false
  pub word : word_at lists b.at ≡ Some y

new_word_is : (lists : List (List Lexeme)) (b : Binder) → given_name lists b ≢ b.name → IsNewWord lists b (given_name lists b)
new_word_is lists b n = by (b.operator || b.pun) refl (word_at lists b.at) refl n where
  by : (v : Bool) → (b.operator || b.pun) ≡ v → (o : Option Name) → word_at lists b.at ≡ o → cond v b.name (unwrap_or o b.name) ≢ b.name
      → IsNewWord lists b (cond v b.name (unwrap_or o b.name))
  by true e o f m = absurd (m refl)
  by false e None f m = absurd (m refl)
  by false e (Some y) f m = record { free = e; word = f }

-- ---- the candidate

module _ (us : List UnitTree) (sound : IsSound us) where
  pub record IsListed (b : Binder) : Type 0 where
    pub site : Site
    pub at : at_place (places us) b.at ≡ Some site
    pub binds : IsTrue site.binds
    pub is : b ≡ binder_of (b.at, site)

  listed_in : (L : List (Place × Site)) → Each (λ e. at_place (places us) e.0 ≡ Some e.1) L → Each IsListed (map binder_of (binding L))
  listed_in [] h = tt
  listed_in (e ∷ L) h = by e.1.binds refl (listed_in L h.1) where
    by : (b : Bool) → e.1.binds ≡ b → Each IsListed (map binder_of (binding L)) → Each IsListed (map binder_of (cond b (e ∷ binding L) (binding L)))
    by true f k = (record { site = e.1; at = h.0; binds = f; is = refl }, k)
    by false f k = k

  pub listed : Each IsListed (binders_of us)
  listed = each_ordered IsListed (λ b. b.at) (map binder_of (binding (places us))) (listed_in (places us) (found_all (places us) (apart_of us sound)))

  module _ (lists : List (List Lexeme)) where
    pub record IsGiven (e : Place × Name) : Type 0 where
      pub site : Site
      pub at : at_place (places us) e.0 ≡ Some site
      pub binds : IsTrue site.binds
      pub is : e.1 ≡ given_name lists (binder_of (e.0, site))

    given_all : (bs : List Binder) → Each IsListed bs → Each IsGiven (candidate lists bs)
    given_all [] h = tt
    given_all (b ∷ bs) h = (record { site = h.0.site; at = h.0.at; binds = h.0.binds; is = ap (given_name lists) h.0.is }, given_all bs h.1)

    abbrev r : Renaming
    r = candidate lists (binders_of us)

    pub given : Each IsGiven r
    given = given_all (binders_of us) listed

    kept_in : (L : Renaming) → Each IsGiven L → Each (λ e. IsBinder us e.0) (filter (is_other us) L)
    kept_in [] h = tt
    kept_in (e ∷ L) h = by (is_other us e) (kept_in L h.1) where
      by : (b : Bool) → Each (λ z. IsBinder us z.0) (filter (is_other us) L)
          → Each (λ z. IsBinder us z.0) (cond b (e ∷ filter (is_other us) L) (filter (is_other us) L))
      by true k = ((h.0.site, h.0.at, h.0.binds), k)
      by false k = k

    pub kept_binders : Each (λ e. IsBinder us e.0) (changed us r)
    kept_binders = kept_in r given

    pub one_given : (d : Place) (y z : Name) → IsGiven (d, y) → IsGiven (d, z) → y ≡ z
    one_given d y z g h =
        let both : Some g.site ≡ Some h.site = sym g.at ∙ h.at in
        let same : g.site ≡ h.site = cc in
        g.is ∙ (ap (λ (x : Site). given_name lists (binder_of (d, x))) same ∙ sym h.is)

    pub in_changed : (d : Place) (y : Name) → at_place (changed us r) d ≡ Some y → IsGiven (d, y) × (y ≢ name_of us d)
    in_changed d y e =
        let k = entry_in (λ x. IsGiven x × (is_other us x ≡ true)) (changed us r) d y (each_filtered IsGiven (is_other us) r given) e in
        (k.0, other_name us d y k.1)

    -- what is changed is what the map changes
    pub changed_is : (d : Place) (y : Name) → at_place (changed us r) d ≡ Some y → Changes us r d y
    changed_is d y e =
        let k = in_changed d y e in
        let z = at_filtered (is_other us) r d y e in
        (z.1 ∙ ap (λ (x : Name). Some x) (one_given d z.0 y (entry_in IsGiven r d z.0 given z.1) k.0), k.1)

    -- a binder that is changed takes a lower-case word, and is no operator and no pun
    pub changed_word : (d : Place) (y : Name) → Changes us r d y → (x : Site) × (at_place (places us) d ≡ Some x)
        × IsNewWord lists (binder_of (d, x)) y
    changed_word d y c =
        let g = entry_in IsGiven r d y given c.0 in
        let own : name_of us d ≡ g.site.name = ap site_name g.at in
        let other : given_name lists (binder_of (d, g.site)) ≢ g.site.name = λ e. c.1 (g.is ∙ (e ∙ sym own)) in
        (g.site, g.at, subst (IsNewWord lists (binder_of (d, g.site))) (sym g.is) (new_word_is lists (binder_of (d, g.site)) other))

    pub gives : (ss : List SourceFile) → AreLexemesOf ss lists → ((d : Place) (y : Name) → Changes us r d y → IsFree us d)
        → GivesValueNames us (changed us r)
    gives ss cut free = record {
      word = λ d y e. let k = changed_word d y (changed_is d y e) in word_is_name ss lists d y cut k.2.word;
      place = λ d y e. let k = in_changed d y e in (k.0.site, k.0.at);
      free = λ d y e. (free d y (changed_is d y e)).word;
      uses = λ d y u e c g. (free d y (changed_is d y e)).uses u c g;
    }

-- ---- operators and puns keep their words

or_turned : (a b : Bool) → IsTrue (a || b) → IsTrue (b || a)
or_turned true true h = h
or_turned true false h = h
or_turned false true h = h
or_turned false false h = h

module _ (us : List UnitTree) (R : Renaming) (h : GivesValueNames us R) where
  kept_binder : (p : Place) (x : Name) → IsFixedSite (at_place (places us) p) → (o : Option Name) → at_place R p ≡ o → or_value o x ≡ x
  kept_binder p x f None e = refl
  kept_binder p x f (Some y) e = absurd (h.free p y e f)

  kept_use : (p d : Place) (x : Name) → IsFixedSite (at_place (places us) p) → goal_at (facts us).refs p ≡ Some (Decl d) → (o : Option Name)
      → at_place R d ≡ o → or_value o x ≡ x
  kept_use p d x f g None e = refl
  kept_use p d x f g (Some y) e = absurd (h.uses d y (record { at = p; goal = Decl d }) e (goal_there (facts us).refs p (Decl d) g) refl f)

  kept_word : (p : Place) (x : Name) → IsFixedSite (at_place (places us) p) → (o : Option Goal) → goal_at (facts us).refs p ≡ o → new_word R o p x ≡ x
  kept_word p x f None e = kept_binder p x f (at_place R p) refl
  kept_word p x f (Some (Decl d)) e = kept_use p d x f e (at_place R d) refl
  kept_word p x f (Some Outside) e = refl
  kept_word p x f (Some Missing) e = refl
  kept_word p x f (Some Hidden) e = refl
  kept_word p x f (Some (Blur by n b)) e = refl

  kept_all : (L : List (Place × Site)) → Each (λ e. at_place (places us) e.0 ≡ Some e.1) L
      → Each (λ e. IsTrue (e.1.pun || e.1.operator) → words_of R (facts us).refs e.0 e.1.name ≡ e.1.name) L
  kept_all [] k = tt
  kept_all (e ∷ L) k = (
    (λ t. kept_word e.0 e.1.name (subst IsFixedSite (sym k.0) (or_turned e.1.pun e.1.operator t))
        (goal_at (facts us).refs e.0) refl),
    kept_all L k.1,
  )

  pub keeps_fixed : IsSound us → KeepsFixed (words_of R (facts us).refs) us
  keeps_fixed sound = kept_all (places us) (found_all (places us) (apart_of us sound))
