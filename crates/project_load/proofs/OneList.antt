-- A folder and a list have one answer.
use Rattle.std.proofs.Common.{◌≡◌, ◌∙◌, ◌⊎◌, inl, inr, ℕ, ◌+◌, ◌<◌, ◌≤◌, List, [], ◌∷◌, ◌++◌, Option, Some, None, IsSome, is_some, Result, Ok, Err}
use Rattle.std.proofs.Common.{length, refl, sym, ap, subst, arith}
use Rattle.std.specs.FinMap.{empty, get, insert}
use Rattle.rotor_base.specs.Files.{FileSet}
use Rattle.rotor_base.specs.Limits.{max_file_bytes}
use Rattle.rotor_base.specs.Lines.{feed_lines}
use Rattle.rotor_base.specs.declared.refusal.LoadError.{LoadError}
use Rattle.tree_io.specs.Outside.{FileMap}
use Rattle.project_load.specs.Listed.{Gives, IsBadLine, IsEntry, ListsAreOne, lacks, large, refused, taken, unread}
use Rattle.project_load.specs.Load.{loaded}
use Rattle.project_load.specs.declared.error.ListError.TheVariants.{BadList, Load}
use Rattle.project_load.proofs.ListWords.{one_split}

same_some : (a b : List ℕ) → ◌≡◌ {A = Option (List ℕ)} (Some a) (Some b) → a ≡ b
same_some a b e = cc

none_some : (a : List ℕ) (o : Option (List ℕ)) → o ≡ None → o ≡ Some a → ⊥
none_some a o e f = cc

module _ (held : FileMap) where
  one_entry : (line s b t d : List ℕ) → IsEntry held line s b → IsEntry held line t d → (s ≡ t) × (b ≡ d)
  one_entry line s b t d h k =
      let same = one_split line s h.file t k.file h.split h.named k.split k.named in
      (same.0, same_some b d (sym h.there ∙ ap (get held) same.1 ∙ k.there))

  one_folder : (lines : List (List ℕ)) (start a b : FileMap) → Gives held lines start a → Gives held lines start b → a ≡ b
  one_folder [] start a b h k = h ∙ sym k
  one_folder (line ∷ lines) start a b h k =
      let same = one_entry line h.0 h.1 k.0 k.1 h.2 k.2 in
      let next : insert start h.0 h.1 ≡ insert start k.0 k.1 = λ i. insert start (same.0 i) (same.1 i) in
      one_folder lines (insert start k.0 k.1) a b (subst (λ (m : FileMap). Gives held lines m a) next h.4) k.4

  -- lines that give a folder have no bad line
  not_both : (before : List (List ℕ)) (line : List ℕ) (after : List (List ℕ)) (start given all : FileMap)
      → Gives held (before ++ line ∷ after) start all → Gives held before start given
      → ((source bytes : List ℕ) → IsEntry held line source bytes → IsSome (get given source)) → ⊥
  not_both [] line after start given all h k bad =
      let some : IsSome (get given h.0) = bad h.0 h.1 h.2 in
      let none : get given h.0 ≡ None = ap (λ (m : FileMap). get m h.0) k ∙ h.3 in
      let wrong = sym some ∙ ap is_some none in
      cc
  not_both (first ∷ before) line after start given all h k bad =
      let same = one_entry first h.0 h.1 k.0 k.1 h.2 k.2 in
      let next : insert start h.0 h.1 ≡ insert start k.0 k.1 = λ i. insert start (same.0 i) (same.1 i) in
      not_both before line after (insert start k.0 k.1) given all (subst
      (λ (m : FileMap). Gives held (before ++ line ∷ after) m all) next h.4) k.4 bad

  bad_given : (lines : List (List ℕ)) (number : ℕ) (all : FileMap) → IsBadLine held lines number → Gives held lines empty all → ⊥
  bad_given lines number all h k =
      not_both h.before h.line h.after empty h.given all (subst (λ (ls : List (List ℕ)). Gives held ls empty all) h.split k) h.good h.bad

-- b ends in front of x, and c goes on behind it
abbrev Behind : List (List ℕ) → List ℕ → List (List ℕ) → Type 0
Behind b x c = (r : List (List ℕ)) × (c ≡ b ++ x ∷ r)

-- two places in one list: they are one, or one is behind the other
places : (b c : List (List ℕ)) (x y : List ℕ) (d e : List (List ℕ)) → b ++ x ∷ d ≡ c ++ y ∷ e → (b ≡ c) ⊎ (Behind b x c ⊎ Behind c y b)
places [] [] x y d e h = inl refl
places [] (z ∷ c) x y d e h = let same : z ≡ x = cc in inr (inl (c, ap (λ (w : List ℕ). w ∷ c) same))
places (z ∷ b) [] x y d e h = let same : z ≡ y = cc in inr (inr (b, ap (λ (w : List ℕ). w ∷ b) same))
places (z ∷ b) (w ∷ c) x y d e h = more (places b c x y d e rest)
  where
    same : z ≡ w
    same = cc

    rest : b ++ x ∷ d ≡ c ++ y ∷ e
    rest = cc

    more : ((b ≡ c) ⊎ (Behind b x c ⊎ Behind c y b)) → (z ∷ b ≡ w ∷ c) ⊎ (Behind (z ∷ b) x (w ∷ c) ⊎ Behind (w ∷ c) y (z ∷ b))
    more (inl k) = inl (ap (λ (v : List ℕ). v ∷ b) same ∙ ap (λ (vs : List (List ℕ)). w ∷ vs) k)
    more (inr (inl k)) = inr (inl (k.0, ap (λ (v : List ℕ). v ∷ c) (sym same) ∙ ap (λ (vs : List (List ℕ)). z ∷ vs) k.1))
    more (inr (inr k)) = inr (inr (k.0, ap (λ (v : List ℕ). v ∷ b) same ∙ ap (λ (vs : List (List ℕ)). w ∷ vs) k.1))

one_number : (held : FileMap) (lines : List (List ℕ)) (m n : ℕ) → IsBadLine held lines m → IsBadLine held lines n → m ≡ n
one_number held lines m n h k = by (places h.before k.before h.line k.line h.after k.after (sym h.split ∙ k.split)) where
  by : ((h.before ≡ k.before) ⊎ (Behind h.before h.line k.before ⊎ Behind k.before k.line h.before)) → m ≡ n
  by (inl e) = h.counted ∙ ap (λ (ls : List (List ℕ)). length ls + 1) e ∙ sym k.counted
  by (inr (inl r)) =
      absurd (not_both held h.before h.line r.0 empty h.given k.given
      (subst (λ (ls : List (List ℕ)). Gives held ls empty k.given) r.1 k.good) h.good h.bad)
  by (inr (inr r)) =
      absurd (not_both held k.before k.line r.0 empty k.given h.given
      (subst (λ (ls : List (List ℕ)). Gives held ls empty h.given) r.1 h.good) k.good k.bad)

same_error : (x y : LoadError) (result : Result FileSet LoadError) → result ≡ Err x → result ≡ Err y → x ≡ y
same_error x y result e f = cc

same_files : (x y : FileSet) (result : Result FileSet LoadError) → result ≡ Ok x → result ≡ Ok y → x ≡ y
same_files x y result e f = cc

not_ok : (x : LoadError) (y : FileSet) (result : Result FileSet LoadError) → result ≡ Err x → result ≡ Ok y → ⊥
not_ok x y result e f = cc

-- a list of one size
too_long : (held : FileMap) (list v w : List ℕ) → get held list ≡ Some v → get held list ≡ Some w → max_file_bytes < length v
    → length w ≤ max_file_bytes → ⊥
too_long held list v w e f l k =
    let same : length v ≡ length w = ap length (same_some v w (sym e ∙ f)) in
    omega (arith, same, l, k)

module _ (held : FileMap) (list : List ℕ) where
  lines_same : (v w : List ℕ) → get held list ≡ Some v → get held list ≡ Some w → feed_lines v ≡ feed_lines w
  lines_same v w e f = ap feed_lines (same_some v w (sym e ∙ f))

  folder_same : (v w : List ℕ) (a b : FileMap) → get held list ≡ Some v → get held list ≡ Some w → Gives held (feed_lines v) empty a
      → Gives held (feed_lines w) empty b → a ≡ b
  folder_same v w a b e f h k =
      one_folder held (feed_lines w) empty a b (subst (λ (ls : List (List ℕ)). Gives held ls empty a) (lines_same v w e f) h) k

  bad_same : (v w : List ℕ) (n : ℕ) (b : FileMap) → get held list ≡ Some v → get held list ≡ Some w → IsBadLine held (feed_lines v) n
      → Gives held (feed_lines w) empty b → ⊥
  bad_same v w n b e f h k = bad_given held (feed_lines w) n b (subst (λ (ls : List (List ℕ)). IsBadLine held ls n) (lines_same v w e f) h) k

pub lists_are_one : ListsAreOne
lists_are_one held list a b (lacks e r) (lacks f s) = r ∙ sym s
lists_are_one held list a b (lacks e r) (large w f l s) = absurd (none_some w (get held list) e f)
lists_are_one held list a b (lacks e r) (unread w n f l h s) = absurd (none_some w (get held list) e f)
lists_are_one held list a b (lacks e r) (refused w g x f l h k s) = absurd (none_some w (get held list) e f)
lists_are_one held list a b (lacks e r) (taken w g x f l h k s) = absurd (none_some w (get held list) e f)
lists_are_one held list a b (large v e l r) (lacks f s) = absurd (none_some v (get held list) f e)
lists_are_one held list a b (large v e l r) (large w f k s) = r ∙ sym s
lists_are_one held list a b (large v e l r) (unread w n f k h s) = absurd (too_long held list v w e f l k)
lists_are_one held list a b (large v e l r) (refused w g x f k h p s) = absurd (too_long held list v w e f l k)
lists_are_one held list a b (large v e l r) (taken w g x f k h p s) = absurd (too_long held list v w e f l k)
lists_are_one held list a b (unread v m e l h r) (lacks f s) = absurd (none_some v (get held list) f e)
lists_are_one held list a b (unread v m e l h r) (large w f k s) = absurd (too_long held list w v f e k l)
lists_are_one held list a b (unread v m e l h r) (unread w n f k i s) =
    let same : m ≡ n = one_number held (feed_lines w) m n (subst (λ (ls : List (List ℕ)). IsBadLine held ls m) (lines_same held list v w e f) h) i in
    r ∙ ap (λ (k : ℕ). Err (BadList k)) same ∙ sym s
lists_are_one held list a b (unread v m e l h r) (refused w g x f k i p s) = absurd (bad_same held list v w m g e f h i)
lists_are_one held list a b (unread v m e l h r) (taken w g x f k i p s) = absurd (bad_same held list v w m g e f h i)
lists_are_one held list a b (refused v g x e l h p r) (lacks f s) = absurd (none_some v (get held list) f e)
lists_are_one held list a b (refused v g x e l h p r) (large w f k s) = absurd (too_long held list w v f e k l)
lists_are_one held list a b (refused v g x e l h p r) (unread w n f k i s) = absurd (bad_same held list w v n g f e i h)
lists_are_one held list a b (refused v g x e l h p r) (refused w d y f k i q s) =
    let same : x ≡ y = same_error x y (loaded d) (ap loaded (sym (folder_same held list v w g d e f h i)) ∙ p) q in
    r ∙ ap (λ (error : LoadError). Err (Load error)) same ∙ sym s
lists_are_one held list a b (refused v g x e l h p r) (taken w d y f k i q s) =
    absurd (not_ok x y (loaded d) (ap loaded (sym (folder_same held list v w g d e f h i)) ∙ p) q)
lists_are_one held list a b (taken v g x e l h p r) (lacks f s) = absurd (none_some v (get held list) f e)
lists_are_one held list a b (taken v g x e l h p r) (large w f k s) = absurd (too_long held list w v f e k l)
lists_are_one held list a b (taken v g x e l h p r) (unread w n f k i s) = absurd (bad_same held list w v n g f e i h)
lists_are_one held list a b (taken v g x e l h p r) (refused w d y f k i q s) =
    absurd (not_ok y x (loaded g) (ap loaded (folder_same held list v w g d e f h i) ∙ q) p)
lists_are_one held list a b (taken v g x e l h p r) (taken w d y f k i q s) =
    let same : x ≡ y = same_files x y (loaded d) (ap loaded (sym (folder_same held list v w g d e f h i)) ∙ p) q in
    r ∙ ap (λ (files : FileSet). Ok files) same ∙ sym s
