-- Each ladder gives one refusal, and a target has one goal.
use Rattle.std.proofs.Common.{◌≡◌, ℕ, suc, refl, ap, sym, ◌∙◌, subst, List, [], ◌∷◌, Option, Some}
use Rattle.std.specs.Prelude.{slice_get}
use Rattle.rotor_base.specs.declared.place.Place.{Place}
use Rattle.rotor_base.specs.declared.place.Goal.{Goal}
use Rattle.rotor_base.specs.declared.place.Goal.TheVariants.{Decl}
use Rattle.rotor_base.specs.declared.place.Foot.{Foot}
use Rattle.rotor_base.specs.declared.looks.Watch.{Watch}
use Rattle.rotor_base.specs.declared.refusal.Refusal.{Refusal}
use Rattle.rotor_base.specs.declared.refusal.Refusal.TheVariants as refusal
use Rattle.rotor_base.specs.declared.source.SourceFile.{SourceFile}
use Rattle.rotor_base.specs.declared.target.Target.{Target}
use Rattle.rotor_base.specs.declared.target.Target.TheVariants.{At, Spot, Dotted}
use Rattle.rotor_base.specs.Files.{FileSet, are_over}
use Rattle.rotor_base.proofs.Rising.{some_is}
use Rattle.dependency_kernel.specs.Foot.{IsFoot}
use Rattle.dependency_kernel.proofs.Only.{is_the_only}
use Rattle.ml_lexer.specs.Lexed.{Lexeme, Lexed}
use Rattle.ml_lexer.specs.Respelled.{respelled}
use Rattle.ml_lexer.proofs.OneCutting.{one_lexed}
use Rattle.ml_syntax.specs.RespelledSource.{IsRespelled, AreRespelled}
use Rattle.ml_trees.specs.Tree.{UnitTree}
use Rattle.shape_core.specs.Shape.{Name, none}
use Rattle.shape_core.specs.Respell.{Words}
use Rattle.binding_model.specs.Scopes.{after_units}
use Rattle.binding_model.specs.Facts.{facts, unmatched}
use Rattle.binding_model.specs.Sums.{heavy}
use Rattle.capture_check.specs.Fault.{before, of_ref, of_link}
use Rattle.capture_check.proofs.One.{link_goal, one_before, one_differing, one_repeat, ref_goal, three, upto_both}
use Rattle.rename_model.specs.Ladder.{no_more, GivesOne, IsLeast}
use Rattle.rename_model.specs.Target.{number_of, token_over, IsSpot, dotted, Names}
use Rattle.rename_model.specs.Project.{IsDuplicate, IsHeavy, IsUnmatched}
use Rattle.ml_syntax.specs.RespelledFile.{new_words}
use Rattle.binding_model.specs.Renaming.{in_file, name_of}
use Rattle.rename_model.specs.Foot.{IsHit}
use Rattle.rename_model.specs.Bytes.{position_with}
use Rattle.rename_model.specs.Renaming.{watch_of, renamed, renamed_words, IsPunAt, IsBlurredAt, IsOperator, IsBadName, IsSameName, IsOutside, IsPun}
use Rattle.rename_model.specs.Renaming.{IsBlurred, IsGrown, IsClash, IsCapture, IsMislink, HasNoTarget, refusals_of_binder, ForTarget}
use Rattle.rename_model.specs.Laws.{ProjectsAreRefusedOnce, TargetsHaveOneGoal, RenamingsAreRefusedOnce}

-- ---- ladders

one_end : (r s : Refusal) → no_more r → no_more s → r ≡ s
one_end r s h k = absurd h

both_some : {X : Type 0} (o : Option X) (x y : X) → o ≡ Some x → o ≡ Some y → x ≡ y
both_some o x y h k = some_is x y (sym h ∙ k)

-- ---- places

pub one_least : (P : Place → Type 0) (p q : Place) → IsLeast P p → IsLeast P q → p ≡ q
one_least P p q h k = upto_both p q (h.least q k.there) (k.least p h.there)

two : {A B D : Type 0} (f : A → B → D) (a a' : A) (b b' : B) → a ≡ a' → b ≡ b' → f a b ≡ f a' b'
two f a a' b b' p q = ap (λ x. f x b) p ∙ ap (f a') q

-- ---- the refusals of a project

one_duplicate : (us : List UnitTree) → GivesOne (IsDuplicate us)
one_duplicate us (refusal.Duplicate f a) (refusal.Duplicate g b) h k = let e = one_repeat (name_of us) (facts us).groups f a g b h k in
    two refusal.Duplicate f g a b e.0 e.1
one_duplicate us (refusal.Duplicate f a) _ h k = absurd k
one_duplicate us _ _ h k = absurd h

one_heavy : (us : List UnitTree) → GivesOne (IsHeavy us)
one_heavy us (refusal.Heavy p) (refusal.Heavy q) h k = ap (λ (x : Place). refusal.Heavy x) (both_some (heavy us) p q h k)
one_heavy us (refusal.Heavy p) _ h k = absurd k
one_heavy us _ _ h k = absurd h

one_unmatched : (us : List UnitTree) → GivesOne (IsUnmatched us)
one_unmatched us (refusal.Unmatched p) (refusal.Unmatched q) h k = ap (λ (x : Place). refusal.Unmatched x) (both_some (unmatched us) p q h k)
one_unmatched us (refusal.Unmatched p) _ h k = absurd k
one_unmatched us _ _ h k = absurd h

pub projects_are_refused_once : ProjectsAreRefusedOnce
projects_are_refused_once us =
    one_before (IsDuplicate us) (before (IsHeavy us) (before (IsUnmatched us) no_more)) (one_duplicate us)
    (one_before (IsHeavy us) (before (IsUnmatched us) no_more) (one_heavy us)
    (one_before (IsUnmatched us) no_more (one_unmatched us) one_end))

-- ---- the goal of a target

one_spot : (files : List SourceFile) (name : Name) (spot : ℕ × ℕ) → GivesOne (IsSpot files name spot)
one_spot files name spot p q h k =
    let f : p.file ≡ q.file = both_some (number_of files name) p.file q.file h.number k.number in
    let s : h.source ≡ k.source = some_is h.source k.source (sym h.here ∙ (ap (slice_get files) f ∙ k.here)) in
    let x : h.lexemes ≡ k.lexemes = one_lexed h.cut (subst (λ (z : SourceFile). Lexed z.bytes k.lexemes) (sym s) k.cut) in
    let t : p.token ≡ q.token =
    some_is p.token q.token (sym h.token
    ∙ (two (λ (z : SourceFile) (xs : List Lexeme). token_over spot z.bytes xs) h.source k.source h.lexemes k.lexemes s x ∙ k.token)) in
    two (λ m n. record { file = m; token = n }) p.file q.file p.token q.token f t

pub one_name : (files : FileSet) (us : List UnitTree) (target : Target) → GivesOne (Names files us target)
one_name files us (At file token) p q h k =
    two (λ m n. record { file = m; token = n }) p.file q.file p.token q.token (both_some (number_of files.entries file) p.file q.file h.0 k.0)
    (sym h.1 ∙ k.1)
one_name files us (Spot file line column) p q h k = one_spot files.entries file (line, column) p q h k
one_name files us (Dotted path) p q h k = both_some (dotted (after_units none us) path) p q h k

pub targets_have_one_goal : TargetsHaveOneGoal
targets_have_one_goal files us target p q h k = one_name files us target p q h.0 k.0

-- ---- the refusals of a renaming

one_source : (w : Words) (file : ℕ) (old a b : SourceFile) → IsRespelled (in_file w file) old a → IsRespelled (in_file w file) old b → a ≡ b
one_source w file old a b h k =
    let x : h.lexemes ≡ k.lexemes = one_lexed h.cut k.cut in
    let n : a.name ≡ b.name = h.name ∙ sym k.name in
    let c : a.bytes ≡ b.bytes = h.bytes ∙ (ap (λ (xs : List Lexeme). respelled old.bytes xs (new_words (in_file w file) 1 xs)) x ∙ sym k.bytes) in
    two (λ y z. record { name = y; bytes = z }) a.name b.name a.bytes b.bytes n c

pub one_sources : (w : Words) (n : ℕ) (olds a b : List SourceFile) → AreRespelled (in_file w) n olds a → AreRespelled (in_file w) n olds b → a ≡ b
one_sources w n [] [] [] h k = refl
one_sources w n [] [] (y ∷ b) h k = absurd k
one_sources w n [] (x ∷ a) b h k = absurd h
one_sources w n (o ∷ olds) [] b h k = absurd h
one_sources w n (o ∷ olds) (x ∷ a) [] h k = absurd k
one_sources w n (o ∷ olds) (x ∷ a) (y ∷ b) h k = two (λ z zs. z ∷ zs) x y a b (one_source w n o x y h.0 k.0) (one_sources w (suc n) olds a b h.1 k.1)

one_operator : (us : List UnitTree) (foot : Foot) → GivesOne (IsOperator us foot)
one_operator us foot refusal.Operator refusal.Operator h k = refl
one_operator us foot refusal.Operator _ h k = absurd k
one_operator us foot _ _ h k = absurd h

one_bad_name : (new : Name) → GivesOne (IsBadName new)
one_bad_name new refusal.BadName refusal.BadName h k = refl
one_bad_name new refusal.BadName _ h k = absurd k
one_bad_name new _ _ h k = absurd h

one_same_name : (us : List UnitTree) (d : Place) (new : Name) → GivesOne (IsSameName us d new)
one_same_name us d new refusal.SameName refusal.SameName h k = refl
one_same_name us d new refusal.SameName _ h k = absurd k
one_same_name us d new _ _ h k = absurd h

one_outside : (foot : Foot) → GivesOne (IsOutside foot)
one_outside foot (refusal.Outside p) (refusal.Outside q) h k = ap (λ (x : Place). refusal.Outside x) (both_some foot.outside p q h k)
one_outside foot (refusal.Outside p) _ h k = absurd k
one_outside foot _ _ h k = absurd h

one_pun : (us : List UnitTree) (foot : Foot) → GivesOne (IsPun us foot)
one_pun us foot (refusal.Pun p) (refusal.Pun q) h k = ap (λ (x : Place). refusal.Pun x) (one_least (λ z. IsHit us foot z × IsPunAt us z) p q h k)
one_pun us foot (refusal.Pun p) _ h k = absurd k
one_pun us foot _ _ h k = absurd h

one_blurred : (us : List UnitTree) (foot : Foot) → GivesOne (IsBlurred us foot)
one_blurred us foot (refusal.Blurred p) (refusal.Blurred q) h k =
    ap (λ (x : Place). refusal.Blurred x) (one_least (IsBlurredAt (facts us) foot) p q h k)
one_blurred us foot (refusal.Blurred p) _ h k = absurd k
one_blurred us foot _ _ h k = absurd h

one_grown : (sources : List SourceFile) (us : List UnitTree) (w : Watch) → GivesOne (IsGrown sources us w)
one_grown sources us w (refusal.Grown m) (refusal.Grown n) h k =
    ap (λ (x : ℕ). refusal.Grown x)
    (some_is m n (sym h.2 ∙ (ap (position_with are_over) (one_sources (renamed_words us w) 0 sources h.0 k.0 h.1 k.1) ∙ k.2)))
one_grown sources us w (refusal.Grown m) _ h k = absurd k
one_grown sources us w _ _ h k = absurd h

one_clash : (us vs : List UnitTree) → GivesOne (IsClash us vs)
one_clash us vs (refusal.Clash f a) (refusal.Clash g b) h k = let e = one_repeat (name_of vs) (facts vs).groups f a g b h k in
    two refusal.Clash f g a b e.0 e.1
one_clash us vs (refusal.Clash f a) _ h k = absurd k
one_clash us vs _ _ h k = absurd h

one_capture : (us vs : List UnitTree) → GivesOne (IsCapture us vs)
one_capture us vs (refusal.Capture p w v) (refusal.Capture q x y) h k =
    let e = one_differing of_ref ref_goal (facts us).refs (facts vs).refs p q w v x y h k in three refusal.Capture p q w x v y e.0 e.1 e.2
one_capture us vs (refusal.Capture p w v) _ h k = absurd k
one_capture us vs _ _ h k = absurd h

one_mislink : (us vs : List UnitTree) → GivesOne (IsMislink us vs)
one_mislink us vs (refusal.Mislink (Decl p) w v) (refusal.Mislink (Decl q) x y) h k =
    let e = one_differing of_link link_goal (facts us).links (facts vs).links p q w v x y h k in
    three (λ (a : Place) (b c : Goal). refusal.Mislink (Decl a) b c) p q w x v y e.0 e.1 e.2
one_mislink us vs (refusal.Mislink (Decl p) w v) (refusal.Mislink _ x y) h k = absurd k
one_mislink us vs (refusal.Mislink (Decl p) w v) _ h k = absurd k
one_mislink us vs (refusal.Mislink _ w v) _ h k = absurd h
one_mislink us vs _ _ h k = absurd h

one_no_target : (files : FileSet) (us : List UnitTree) (target : Target) → GivesOne (HasNoTarget files us target)
one_no_target files us target refusal.NoTarget refusal.NoTarget h k = refl
one_no_target files us target refusal.NoTarget _ h k = absurd k
one_no_target files us target _ _ h k = absurd h

pub one_binder : (sources : List SourceFile) (us : List UnitTree) (d : Place) (foot : Foot) (new : Name)
    → GivesOne (refusals_of_binder sources us d foot new)
one_binder sources us d foot new =
    let w = watch_of us d foot new in
    let vs = renamed us w in
    rung (IsOperator us foot) (one_operator us foot)
    (rung (IsBadName new) (one_bad_name new)
    (rung (IsSameName us d new) (one_same_name us d new)
    (rung (IsOutside foot) (one_outside foot)
    (rung (IsPun us foot) (one_pun us foot)
    (rung (IsBlurred us foot) (one_blurred us foot)
    (rung (IsGrown sources us w) (one_grown sources us w)
    (rung (IsClash us vs) (one_clash us vs)
    (rung (IsCapture us vs) (one_capture us vs)
    (rung (IsMislink us vs) (one_mislink us vs)
    one_end)))))))))
  where
    rung : (c : Refusal → Type 0) {d : Refusal → Type 0} → GivesOne c → GivesOne d → GivesOne (before c d)
    rung c {d} oc od = one_before c d oc od

one_for_target : (files : FileSet) (us : List UnitTree) (target : Target) (c : Place → Foot → Refusal → Type 0)
    → ((d : Place) (foot : Foot) → GivesOne (c d foot)) → GivesOne (ForTarget files us target c)
one_for_target files us target c one a b h k =
    let e : h.binder ≡ k.binder = targets_have_one_goal files us target h.binder k.binder h.aims k.aims in
    let foot_at : IsFoot (facts us).links h.binder k.foot = subst (λ d. IsFoot (facts us).links d k.foot) (sym e) k.is_foot in
    let f : h.foot ≡ k.foot = is_the_only (facts us).links h.binder h.foot k.foot h.is_foot foot_at in
    one k.binder k.foot a b (subst (λ d. c d k.foot a) e (subst (λ x. c h.binder x a) f h.holds)) k.holds

pub renamings_are_refused_once : RenamingsAreRefusedOnce
renamings_are_refused_once files us target new =
    one_before (HasNoTarget files us target) (ForTarget files us target (λ d foot. refusals_of_binder files.entries us d foot new))
    (one_no_target files us target)
    (one_for_target files us target (λ d foot. refusals_of_binder files.entries us d foot new) (λ d foot. one_binder files.entries us d foot new))
