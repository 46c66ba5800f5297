-- No path, name or run is missed: what is read from its words and more is this one, or goes farther.
use Rattle.std.proofs.Common.{◌≡◌, ℕ, zero, suc, ◌<◌, ◌≤◌, List, [], ◌∷◌, ◌++◌, length, Bool, true, Option, Some, None, refl, arith}
use Rattle.std.proofs.Math.Seq.{take-append_seam, drop-append_seam}
use Rattle.rotor_base.specs.declared.token.Class.TheVariants as class
use Rattle.ml_trees.specs.declared.fixed.Fixed.{Fixed}
use Rattle.ml_trees.specs.declared.fixed.Fixed.TheVariants as key
use Rattle.ml_trees.specs.Tok.{Name, Tok, fixed, word}
use Rattle.ml_trees.specs.Runs.{bracketing, after_bracket, is_matched, beside_type, begins_type, in_type, in_declaration, is_type_run}
use Rattle.ml_trees.specs.Runs.{is_declaration_run}
use Rattle.ml_trees.specs.Tree.{ValueName, PlainName, OperatorName}
use Rattle.ml_trees.proofs.Words.{dotted_then, qualified_then, name_then, type_then}
use Rattle.ml_trees.specs.WellFormed.{WfName, WfType}
use Rattle.token_reading.specs.Steps.{always}
use Rattle.token_reading.specs.Pieces.{dot_upper, more_uppers, upper_dot, qualifiers, value_name, longest, cut_at, type_run, declaration_run}
use Rattle.token_reading.specs.Pieces.{optional_type}
use Rattle.token_reading.proofs.Stepping.{some_is, from_some}
use Rattle.token_reading.proofs.Reach.{Reach, stop, no_turn, more_turns}

-- ---- paths

dot_shorter : (ts : List Tok) (x : Name × List Tok) → dot_upper ts ≡ Some x → length x.1 < length ts
dot_shorter (fixed key.Dot ∷ word class.Upper y ∷ ts) x e =
    from_some (λ (z : Name × List Tok). length z.1 < length (fixed key.Dot ∷ word class.Upper y ∷ ts)) e (omega arith)
dot_shorter _ x e = absurd cc

-- a path goes on only if a `.` and a module's name follow
pub uppers_reach : (C : Type 0) (ys : List Name) (r : List Tok) (n : ℕ) → length (dotted_then ys r) ≤ n
    → ((x : Name × List Tok) → dot_upper r ≡ Some x → C × (length x.1 < length r)) → Reach C ys r (Some (more_uppers n (dotted_then ys r)))
uppers_reach C [] r n len next = no_turn [] ◌∷◌ always dot_upper dot_shorter C true r (length r) n (λ _ x e. next x e)
uppers_reach C (y ∷ ys) r zero len next = absurd (omega arith)
uppers_reach C (y ∷ ys) r (suc n) len next =
    more_turns [] ◌∷◌ always dot_upper dot_shorter C y ys r (fixed key.Dot ∷ word class.Upper y ∷ dotted_then ys r) (dotted_then ys r)
    (length r) n refl refl (uppers_reach C ys r n (omega arith) next)

qualifier_shorter : (ts : List Tok) (x : Name × List Tok) → upper_dot ts ≡ Some x → length x.1 < length ts
qualifier_shorter (word class.Upper y ∷ fixed key.Dot ∷ ts) x e =
    from_some (λ (z : Name × List Tok). length z.1 < length (word class.Upper y ∷ fixed key.Dot ∷ ts)) e (omega arith)
qualifier_shorter _ x e = absurd cc

-- qualifiers end if no module's name and `.` follow
pub qualifiers_reach : (ys : List Name) (r : List Tok) (n : ℕ) → length (qualified_then ys r) ≤ n → upper_dot r ≡ None
    → qualifiers n (qualified_then ys r) ≡ (ys, r)
qualifiers_reach ys r n len none = some_is (stop {C = ⊥} (λ c. c) (go ys n len))
  where
    go : (ys : List Name) (n : ℕ) → length (qualified_then ys r) ≤ n → Reach ⊥ ys r (Some (qualifiers n (qualified_then ys r)))
    go [] n len = no_turn [] ◌∷◌ always upper_dot qualifier_shorter ⊥ true r (length r) n (λ _ x e. absurd cc)
    go (y ∷ ys) zero len = absurd (omega arith)
    go (y ∷ ys) (suc n) len = more_turns [] ◌∷◌ always upper_dot qualifier_shorter ⊥ y ys r (word class.Upper y ∷ fixed key.Dot ∷ qualified_then ys r)
        (qualified_then ys r) (length r) n refl refl (go ys n (omega arith))

-- ---- names of values

pub name_read : (x : ValueName) (r : List Tok) → WfName x → value_name (name_then x r) ≡ Some (x, r)
name_read (PlainName y) r w = refl
name_read (OperatorName at t) r w = rw w refl

-- ---- runs

-- the token behind a run is none that it takes
abbrev pub Blocked : (Tok → Bool) → (Tok → Bool) → List Tok → Type 0
Blocked outside inside [] = Unit {0}
Blocked outside inside (t ∷ ts) = after_bracket outside inside t (bracketing t) [] ≡ None

module _ (outside inside : Tok → Bool) where
  longest_none : (ts : List Tok) → longest outside inside None ts ≡ None
  unfolding longest
  longest_none [] = refl
  longest_none (t ∷ ts) = refl

  longest_stops : (r : List Tok) → Blocked outside inside r → longest outside inside (Some []) r ≡ Some 0
  unfolding longest
  longest_stops [] b = refl
  longest_stops (t ∷ ts) b = rw (b, longest_none ts) refl

  longest_reach : (st : Option (List Fixed)) (run r : List Tok) → is_matched outside inside st run ≡ true → Blocked outside inside r
      → longest outside inside st (run ++ r) ≡ Some (length run)
  unfolding longest
  longest_reach None [] r h b = absurd cc
  longest_reach (Some []) [] r h b = longest_stops r b
  longest_reach (Some (x ∷ xs)) [] r h b = absurd cc
  longest_reach None (t ∷ ts) r h b = absurd cc
  longest_reach (Some xs) (t ∷ ts) r h b = let e = longest_reach (after_bracket outside inside t (bracketing t) xs) ts r h b in rw e refl

cut_reach : (run r : List Tok) → cut_at (run ++ r) (Some (length run)) ≡ Some (run, r)
cut_reach run r = rw (take-append_seam run r, drop-append_seam run r) refl

pub type_run_read : (run r : List Tok) → is_type_run run ≡ true → Blocked beside_type in_type r → type_run (run ++ r) ≡ Some (run, r)
unfolding type_run
type_run_read [] r h b = absurd cc
type_run_read (t ∷ ts) r h b = let e = longest_reach beside_type in_type (after_bracket begins_type in_type t (bracketing t) []) ts r h b in
    rw e (cut_reach (t ∷ ts) r)

pub declaration_run_read : (run r : List Tok) → is_declaration_run run ≡ true → Blocked in_declaration in_declaration r
    → declaration_run (run ++ r) ≡ Some (run, r)
unfolding declaration_run
declaration_run_read [] r h b = absurd cc
declaration_run_read (t ∷ ts) r h b = let e =
    longest_reach in_declaration in_declaration (after_bracket in_declaration in_declaration t (bracketing t) []) ts r h b in
    rw e (cut_reach (t ∷ ts) r)

abbrev pub NoColon : List Tok → Type 0
NoColon (fixed key.Colon ∷ ts) = ⊥
NoColon _ = Unit {0}

no_type_read : (r : List Tok) → NoColon r → optional_type r ≡ (None, r)
no_type_read (fixed key.Colon ∷ ts) h = absurd h
no_type_read _ h = refl

pub type_read : (run : Option (List Tok)) (r : List Tok) → WfType run → Blocked beside_type in_type r → NoColon r
    → optional_type (type_then run r) ≡ (run, r)
type_read None r w b h = no_type_read r h
type_read (Some run) r w b h = rw (type_run_read run r w b) refl
