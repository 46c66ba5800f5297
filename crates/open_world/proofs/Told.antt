-- What a link keeps, and the matches of shapes of which all that is visible keeps its words.
use Rattle.std.proofs.Common.{◌≡◌, ℕ, zero, suc, Bool, true, false, List, [], ◌∷◌, ◌++◌, Option, Some, None, length, refl, sym, ap, subst, ◌∙◌}
use Rattle.std.specs.Prelude.{bytes_eq}
use Rattle.std.proofs.lemmas.Slice.Eq.{bytes_eq-Decides}
use Rattle.rotor_base.specs.declared.place.Place.{Place}
use Rattle.rotor_base.specs.declared.place.Goal.{Goal}
use Rattle.rotor_base.specs.declared.place.Goal.TheVariants.{Decl, Outside, Missing, Hidden, Blur}
use Rattle.rotor_base.proofs.Rising.{some_is}
use Rattle.value_sites.specs.Each.{Each}
use Rattle.shape_core.specs.Shape.{Name, Shape, Struct, Functor, Unitary, Opaque, Entries, none, a_val, a_mod, a_mty, a_dark, vals, or_else, or_value}
use Rattle.shape_core.specs.Shape.{some_if, unless_some, last_of, passed, last_place, behind_of, decl_of, seen, find_val, find_mod, find_mty}
use Rattle.shape_core.specs.Links.{Trace, ◌&◌, nothing, a_step, one, or_empty, pin, pin_entries, pin_vals, match_entries, match_step, match_to}
use Rattle.shape_core.specs.Links.{source_of}
use Rattle.shape_core.specs.Respell.{Words, spell_at, spell_entries, over}
use Rattle.binding_model.proofs.Named.{IsNamed, NamedShape, Named, named_mod, named_mty, named_empty}
use Rattle.open_world.proofs.Seen.{IsDeclared, never_blur}
use Rattle.open_world.proofs.Fixed.{is_none, FixedVal, Fixed, Deep, DeepMods, same_find, found_word}

-- what a link is found from: an item, the entries after it in its list, and the list of its source if it has one
pub record Told : Type 0 where
  pub name : Name
  pub goal : Goal
  pub rest : Entries
  pub src : Option Entries

abbrev pub tell : Name → Goal → Entries → Option Entries → Told
tell x g rest src = record { name = x; goal = g; rest = rest; src = src }

abbrev pub source : Told → Goal
source t = unless_some (last_of (vals t.rest) t.name) (source_of t.src t.name) Hidden

-- of a declaration nothing more is asked
abbrev pub Any : Bool → Place → Name → Type 0
Any b d x = Unit {0}

-- ---- traces

pub each_join : {A : Type 0} (P : A → Type 0) (xs ys : List A) → Each P xs → Each P ys → Each P (xs ++ ys)
each_join P [] ys h k = k
each_join P (x ∷ xs) ys h k = (h.0, each_join P xs ys h.1 k)

pub each_then : {A : Type 0} (P : A → Type 0) (a b : Trace A) → Each P a.told → Each P b.told → Each P (a & b).told
unfolding ◌&◌
each_then P a b h k = each_join P a.told b.told h k

each_left : {A : Type 0} (P : A → Type 0) (xs ys : List A) → Each P (xs ++ ys) → Each P xs
each_left P [] ys h = tt
each_left P (x ∷ xs) ys h = (h.0, each_left P xs ys h.1)

each_right : {A : Type 0} (P : A → Type 0) (xs ys : List A) → Each P (xs ++ ys) → Each P ys
each_right P [] ys h = h
each_right P (x ∷ xs) ys h = each_right P xs ys h.1

pub each_of : {A : Type 0} (P : A → Type 0) (a b : Trace A) → Each P (a & b).told → Each P a.told × Each P b.told
unfolding ◌&◌
each_of P a b h = (each_left P a.told b.told h, each_right P a.told b.told h)

pub each_three : {A : Type 0} (P : A → Type 0) (a b c : Trace A) → Each P a.told → Each P b.told → Each P c.told → Each P (a & b & c).told
each_three P a b c h k l = each_then P (a & b) c (each_then P a b h k) l

pub each_of_three : {A : Type 0} (P : A → Type 0) (a b c : Trace A) → Each P (a & b & c).told → Each P a.told × Each P b.told × Each P c.told
each_of_three P a b c h = let p = each_of P (a & b) c h in let q = each_of P a b p.0 in (q.0, q.1, p.1)

-- ---- goals

pub pick_same : {U V W : Type 0} (o : Option U) (p : Option V) (a b : W) → is_none o ≡ is_none p → unless_some o a b ≡ unless_some p a b
pick_same None None a b e = refl
pick_same (Some u) (Some v) a b e = refl
pick_same None (Some v) a b e = absurd cc
pick_same (Some u) None a b e = absurd cc

declared_goal : (g : Goal) (x : Name) → IsNamed Any g x → (d : Place) × (g ≡ Decl d)
declared_goal (Decl d) x h = (d, refl)
declared_goal Outside x h = absurd h
declared_goal Missing x h = absurd h
declared_goal Hidden x h = absurd h
declared_goal (Blur by n o) x h = absurd h

declared_or : (o : Option Goal) (b : Bool) (g : Goal) → IsDeclared o → ((d : Place) × (g ≡ Decl d)) → IsDeclared (or_else o (some_if b g))
declared_or (Some k) b g h e = h
declared_or None true g h e = e
declared_or None false g h e = tt

pub declared : (es : Entries) → Named Any es → (x : Name) → IsDeclared (last_of (vals es) x)
declared none h x = tt
declared (a_val y g es) h x = declared_or (last_of (vals es) x) (bytes_eq y x) g (declared es h.1 x) (declared_goal g y h.0)
declared (a_mod X s es) h x = declared es h.1 x
declared (a_mty X s es) h x = declared es h.1 x
declared (a_dark at es) h x = declared es h x

behind_decl : (f : Option Goal) (d : Place) → IsDeclared f → behind_of f ≡ Some d → f ≡ Some (Decl d)
behind_decl None d h e = absurd cc
behind_decl (Some g) d h e =
    let same : Some h.0 ≡ Some d = sym (ap (λ z. decl_of z) h.1) ∙ e in
    ap Some (h.1 ∙ ap Decl (some_is h.0 d same))

blur_same : (a b : Place) (n m : ℕ) (o p : Option Place) → Blur a n o ≡ Blur b m p → o ≡ p
blur_same a b n m o p e = cc

-- a declaration behind Dark entries is the last value of the name
pub seen_behind : (f : Option Goal) (p : Option Place) (k n : ℕ) (by d : Place) → IsDeclared f
    → or_value (seen f p k) Missing ≡ Blur by n (Some d) → f ≡ Some (Decl d)
seen_behind None None k n by d h e = absurd cc
seen_behind (Some g) None k n by d h e = absurd (never_blur (Some g) by n (Some d) h (ap Some e))
seen_behind f (Some at) k n by d h e = behind_decl f d h (blur_same at by k n (behind_of f) (Some d) e)

module _ (w : Words) where
  abbrev pub respelled : Told → Told
  respelled t = tell (spell_at w t.goal t.name) t.goal (spell_entries w t.rest) (over (spell_entries w) t.src)

  -- The link has its source after respelling. An item that is linked with the outside, or with what is seen through
  -- Dark entries, keeps its word; and so does what is seen through them.
  pub record Keeps (t : Told) : Type 0 where
    pub same : source (respelled t) ≡ source t
    pub outside : source t ≡ Outside → spell_at w t.goal t.name ≡ t.name
    pub blur : (by : Place) (n : ℕ) (b : Option Place) → source t ≡ Blur by n b → spell_at w t.goal t.name ≡ t.name
    pub behind : (by : Place) (n : ℕ) (d : Place) → source t ≡ Blur by n (Some d) → w d t.name ≡ t.name

  module _ (x : Name) (g : Goal) (es : Entries) (f : FixedVal w x g es) where
    -- a value that is fixed is visible and keeps its word, or is hidden
    word_of : (a k : Goal) → (k ≡ Hidden → ⊥) → (o : Option Goal) → last_of (vals es) x ≡ o → unless_some o a Hidden ≡ k → spell_at w g x ≡ x
    word_of a k h None e i = f.word e
    word_of a k h (Some v) e i = absurd (h (sym i))

    no_behind : (n : ℕ) (by d : Place) (o : Option Goal) → unless_some o Outside Hidden ≡ Blur by n (Some d) → ⊥
    no_behind n by d None e = cc
    no_behind n by d (Some v) e = cc

    not_outside : Outside ≡ Hidden → ⊥
    not_outside e = cc

    not_blur : (by : Place) (n : ℕ) (b : Option Place) → Blur by n b ≡ Hidden → ⊥
    not_blur by n b e = cc

    pub keeps_pinned : Keeps (tell x g es None)
    keeps_pinned = record {
      same = pick_same (last_of (vals (spell_entries w es)) (spell_at w g x)) (last_of (vals es) x) Outside Hidden f.hid;
      outside = λ e. word_of Outside Outside not_outside (last_of (vals es) x) refl e;
      blur = λ by n b e. word_of Outside (Blur by n b) (not_blur by n b) (last_of (vals es) x) refl e;
      behind = λ by n d e. absurd (no_behind n by d (last_of (vals es) x) e);
    }

    module _ (src : Entries) (s : Fixed w src) (k : Named Any src) where
      abbrev y : Name
      y = spell_at w g x

      same_if : (o : Option Goal) → last_of (vals es) x ≡ o
          → unless_some o (or_value (find_val (spell_entries w src) y) Missing) Hidden ≡ unless_some o (or_value (find_val src x) Missing) Hidden
      same_if None e = ap (λ z. or_value (find_val (spell_entries w src) z) Missing) (f.word e) ∙ ap (λ v. or_value v Missing) (same_find w src s x)
      same_if (Some v) e = refl

      behind_if : (by : Place) (n : ℕ) (d : Place) (o : Option Goal) → last_of (vals es) x ≡ o
          → unless_some o (or_value (find_val src x) Missing) Hidden ≡ Blur by n (Some d) → w d x ≡ x
      behind_if by n d None e i =
          found_word w src s x (Decl d)
          (seen_behind (last_of (vals src) x) (last_place (passed src x)) (length (passed src x)) n by d (declared src k x) i)
      behind_if by n d (Some v) e i = absurd (not_blur by n (Some d) (sym i))

      pub keeps_found : Keeps (tell x g es (Some src))
      keeps_found = record {
        same = pick_same (last_of (vals (spell_entries w es)) y) (last_of (vals es) x)
            (or_value (find_val (spell_entries w src) y) Missing) Hidden f.hid
            ∙ same_if (last_of (vals es) x) refl;
        outside = λ e. word_of (source_of (Some src) x) Outside not_outside (last_of (vals es) x) refl e;
        blur = λ by n b e. word_of (source_of (Some src) x) (Blur by n b) (not_blur by n b) (last_of (vals es) x) refl e;
        behind = λ by n d e. behind_if by n d (last_of (vals es) x) refl e;
      }

  -- ---- pinnings

  shown_keeps : {V : Type 0} (o : Option V) (a : Trace Told) → (o ≡ None → Each Keeps a.told) → Each Keeps (unless_some o a nothing).told
  shown_keeps None a h = h refl
  shown_keeps (Some v) a h = tt

  pub keeps_vals : (es : Entries) → Fixed w es → Each Keeps (pin_vals tell es).told
  keeps_vals none f = tt
  keeps_vals (a_val x g es) f = each_then Keeps (one (tell x g es None)) (pin_vals tell es) (keeps_pinned x g es f.0, tt) (keeps_vals es f.1)
  keeps_vals (a_mod X s es) f = keeps_vals es f
  keeps_vals (a_mty S s es) f = keeps_vals es f
  keeps_vals (a_dark at es) f = keeps_vals es f

  mutual
    pub keeps_pin : (s : Shape) → Deep w s → Each Keeps (pin tell s).told
    keeps_pin (Struct es) d = each_then Keeps a_step (pin_entries tell es) tt (keeps_pins es d.0 d.1)
    keeps_pin (Functor p r) d = each_three Keeps a_step (pin tell p) (pin tell r) tt (keeps_pin p d.0) (keeps_pin r d.1)
    keeps_pin (Unitary r) d = each_then Keeps a_step (pin tell r) tt (keeps_pin r d)
    keeps_pin Opaque d = tt

    keeps_pins : (es : Entries) → Fixed w es → DeepMods w es → Each Keeps (pin_entries tell es).told
    keeps_pins none f d = tt
    keeps_pins (a_val x g es) f d =
        each_then Keeps (one (tell x g es None)) (pin_entries tell es) (keeps_pinned x g es f.0, tt) (keeps_pins es f.1 d)
    keeps_pins (a_mod X s es) f d =
        each_three Keeps a_step (unless_some (find_mod es X) (pin tell s) nothing) (pin_entries tell es) tt
        (shown_keeps (find_mod es X) (pin tell s) (λ e. keeps_pin s (d.0 e))) (keeps_pins es f d.1)
    keeps_pins (a_mty S s es) f d =
        each_three Keeps a_step (unless_some (find_mty es S) (pin tell s) nothing) (pin_entries tell es) tt
        (shown_keeps (find_mty es S) (pin tell s) (λ e. keeps_pin s (d.0 e))) (keeps_pins es f d.1)
    keeps_pins (a_dark at es) f d = each_then Keeps a_step (pin_entries tell es) tt (keeps_pins es f d)

  -- ---- matches

  same_name : (x : Name) (f : Name → Option Shape) (y : Name) → bytes_eq y x ≡ true → f x ≡ None → f y ≡ None
  same_name x f y e n = ap f ((bytes_eq-Decides y x).0 e) ∙ n

  here : (f : Name → Option Shape) (x y : Name) (t s : Shape) (b : Bool) → bytes_eq y x ≡ b → (f y ≡ None → Deep w t) → f x ≡ None
      → some_if b t ≡ Some s → Deep w s
  here f x y t s false i d n e = absurd cc
  here f x y t s true i d n e = subst (Deep w) (some_is t s e) (d (same_name x f y i n))

  here_or : (f : Name → Option Shape) (x y : Name) (t s : Shape) (o : Option Shape) → f x ≡ o → (f y ≡ None → Deep w t)
      → (o ≡ Some s → Deep w s) → or_else o (some_if (bytes_eq y x) t) ≡ Some s → Deep w s
  here_or f x y t s (Some v) i d ih e = ih e
  here_or f x y t s None i d ih e = here f x y t s (bytes_eq y x) refl d i e

  -- what is found is visible
  pub found_mod : (es : Entries) → DeepMods w es → (X : Name) (s : Shape) → find_mod es X ≡ Some s → Deep w s
  found_mod none d X s e = absurd cc
  found_mod (a_val x g es) d X s e = found_mod es d X s e
  found_mod (a_mod Y t es) d X s e = here_or (λ z. find_mod es z) X Y t s (find_mod es X) refl d.0 (found_mod es d.1 X s) e
  found_mod (a_mty Y t es) d X s e = found_mod es d.1 X s e
  found_mod (a_dark at es) d X s e = found_mod es d X s e

  pub found_mty : (es : Entries) → DeepMods w es → (X : Name) (s : Shape) → find_mty es X ≡ Some s → Deep w s
  found_mty none d X s e = absurd cc
  found_mty (a_val x g es) d X s e = found_mty es d X s e
  found_mty (a_mod Y t es) d X s e = found_mty es d.1 X s e
  found_mty (a_mty Y t es) d X s e = here_or (λ z. find_mty es z) X Y t s (find_mty es X) refl d.0 (found_mty es d.1 X s) e
  found_mty (a_dark at es) d X s e = found_mty es d X s e

  deep_empty : (o : Option Shape) → ((s : Shape) → o ≡ Some s → Deep w s) → Deep w (or_empty o)
  deep_empty None h = (tt, tt)
  deep_empty (Some s) h = h s refl

  abbrev pub GoesOn : (Shape → Shape → Trace Told) → Type 0
  GoesOn go = (s t : Shape) → Deep w s → Deep w t → NamedShape Any s → NamedShape Any t → Each Keeps (go s t).told

  module _ (go : Shape → Shape → Trace Told) (on : GoesOn go) (src : Entries) (f : Fixed w src) (d : DeepMods w src) (k : Named Any src) where
    keeps_entries : (ts : Entries) → Fixed w ts → DeepMods w ts → Named Any ts → Each Keeps (match_entries tell go src ts).told
    keeps_entries none g e l = tt
    keeps_entries (a_val x v ts) g e l =
        each_then Keeps (one (tell x v ts (Some src))) (match_entries tell go src ts) (keeps_found x v ts g.0 src f k, tt)
        (keeps_entries ts g.1 e l.1)
    keeps_entries (a_mod X t ts) g e l =
        let s = or_empty (find_mod src X) in
        each_three Keeps a_step (unless_some (find_mod ts X) (go s t) nothing) (match_entries tell go src ts) tt
        (shown_keeps (find_mod ts X) (go s t)
        (λ n. on s t (deep_empty (find_mod src X) (found_mod src d X)) (e.0 n) (named_empty Any (find_mod src X) (named_mod Any src X k)) l.0))
        (keeps_entries ts g e.1 l.1)
    keeps_entries (a_mty S t ts) g e l =
        let s = or_empty (find_mty src S) in
        let ds = deep_empty (find_mty src S) (found_mty src d S) in
        let ns = named_empty Any (find_mty src S) (named_mty Any src S k) in
        each_three Keeps a_step (unless_some (find_mty ts S) (go s t & go t s) nothing) (match_entries tell go src ts) tt
        (shown_keeps (find_mty ts S) (go s t & go t s)
        (λ n. each_then Keeps (go s t) (go t s) (on s t ds (e.0 n) ns l.0) (on t s (e.0 n) ds l.0 ns)))
        (keeps_entries ts g e.1 l.1)
    keeps_entries (a_dark at ts) g e l =
        each_three Keeps a_step (pin_vals tell src) (match_entries tell go src ts) tt (keeps_vals src f) (keeps_entries ts g e l)

  keeps_both : (s t : Shape) → Deep w s → Deep w t → Each Keeps (a_step & pin tell t & pin tell s).told
  keeps_both s t d e = each_three Keeps a_step (pin tell t) (pin tell s) tt (keeps_pin t e) (keeps_pin s d)

  pub keeps_step : (go : Shape → Shape → Trace Told) → GoesOn go → GoesOn (match_step tell go)
  keeps_step go on (Struct es) (Struct ts) d e k l =
      each_then Keeps a_step (match_entries tell go es ts) tt (keeps_entries go on es d.0 d.1 k ts e.0 e.1 l)
  keeps_step go on (Struct es) (Functor q t) d e k l = keeps_both (Struct es) (Functor q t) d e
  keeps_step go on (Struct es) (Unitary t) d e k l = keeps_both (Struct es) (Unitary t) d e
  keeps_step go on (Struct es) Opaque d e k l = keeps_both (Struct es) Opaque d e
  keeps_step go on (Functor p r) (Struct ts) d e k l = keeps_both (Functor p r) (Struct ts) d e
  keeps_step go on (Functor p r) (Functor q t) d e k l =
      each_three Keeps a_step (go q p) (go r t) tt (on q p e.0 d.0 l.0 k.0) (on r t d.1 e.1 k.1 l.1)
  keeps_step go on (Functor p r) (Unitary t) d e k l = keeps_both (Functor p r) (Unitary t) d e
  keeps_step go on (Functor p r) Opaque d e k l = keeps_both (Functor p r) Opaque d e
  keeps_step go on (Unitary r) (Struct ts) d e k l = keeps_both (Unitary r) (Struct ts) d e
  keeps_step go on (Unitary r) (Functor q t) d e k l = keeps_both (Unitary r) (Functor q t) d e
  keeps_step go on (Unitary r) (Unitary t) d e k l = each_then Keeps a_step (go r t) tt (on r t d e k l)
  keeps_step go on (Unitary r) Opaque d e k l = keeps_both (Unitary r) Opaque d e
  keeps_step go on Opaque (Struct ts) d e k l = keeps_both Opaque (Struct ts) d e
  keeps_step go on Opaque (Functor q t) d e k l = keeps_both Opaque (Functor q t) d e
  keeps_step go on Opaque (Unitary t) d e k l = keeps_both Opaque (Unitary t) d e
  keeps_step go on Opaque Opaque d e k l = tt

  -- the links of a match of shapes of which all that is visible keeps its words
  pub keeps_match : (n : ℕ) → GoesOn (match_to tell n)
  keeps_match zero s t d e k l = tt
  keeps_match (suc n) s t d e k l = keeps_step (match_to tell n) (keeps_match n) s t d e k l
