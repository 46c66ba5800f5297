-- The longest items that begin some tokens, one after another, are the only ones, and they have one end.
use Rattle.std.proofs.Common.{◌≡◌, ℕ, List, [], ◌++◌, length, drop, Bool, true, refl, sym, ap, subst, ◌∙◌, arith}
use Rattle.std.proofs.Math.Seq.{drop-append_seam}
use Rattle.std.proofs.lemmas.List.{length-append, append_cancel_right}
use Rattle.ml_trees.specs.Tok.{Tok}
use Rattle.ml_trees.specs.Words.{item_then, sig_item_then}
use Rattle.ml_trees.specs.WellFormed.{is_separator, WfItem, WfSigItem}
use Rattle.ml_trees.specs.Tree.{Item, ExprItem, Items, no_item, more_item, SigItem, SigItems, no_sig_item, more_sig_item, Body, Face}
use Rattle.module_laws.proofs.LawsMod.{one_file_reading}
use Rattle.longest_items.specs.Longest.{IsLongestItem, AreLongestItems, none_begins, longest_then, IsLongestSig, AreLongestSigs, no_sig_begins}
use Rattle.longest_items.specs.Longest.{longest_sig_then, OneLongestBody, OneLongestFace}
use Rattle.longest_items.proofs.Appended.{item_adds, sig_item_adds}

-- two lists with rests of one length
same_rest : (xs ys r s : List Tok) → xs ++ r ≡ ys ++ s → length r ≡ length s → r ≡ s
same_rest xs ys r s e l =
    let n : length xs ≡ length ys = omega (arith, ap length e, length-append xs r, length-append ys s, l) in
    sym (drop-append_seam xs r) ∙ ap (λ (z : List Tok). drop (length xs) z) e ∙ ap (λ (m : ℕ). drop m (ys ++ s)) n ∙ drop-append_seam ys s

may_be_fresh : (fresh : Bool) (i : Item) → WfItem fresh i → WfItem true i
may_be_fresh fresh (ExprItem e) w = (refl, w.1)
may_be_fresh fresh i w = w

one_item : (fresh : Bool) (i j : Item) → WfItem fresh i → WfItem fresh j → item_then i [] ≡ item_then j [] → i ≡ j
one_item fresh i j wi wj q =
    first (one_file_reading (Body 0 (more_item i no_item)) (Body 0 (more_item j no_item)) refl (may_be_fresh fresh i wi, tt)
    (may_be_fresh fresh j wj, tt) q)
  where
    first : Body 0 (more_item i no_item) ≡ Body 0 (more_item j no_item) → i ≡ j
    first e = cc

one_sig : (i j : SigItem) → WfSigItem i → WfSigItem j → sig_item_then i [] ≡ sig_item_then j [] → i ≡ j
one_sig i j wi wj q =
    first (one_file_reading (Face 0 (more_sig_item i no_sig_item)) (Face 0 (more_sig_item j no_sig_item)) refl (wi, tt) (wj, tt) q)
  where
    first : Face 0 (more_sig_item i no_sig_item) ≡ Face 0 (more_sig_item j no_sig_item) → i ≡ j
    first e = cc

-- two longest items that begin the same tokens
longest_one : (fresh : Bool) (ts : List Tok) (i j : Item) (r s : List Tok) → IsLongestItem fresh ts i r → IsLongestItem fresh ts j s
    → (i ≡ j) × (r ≡ s)
longest_one fresh ts i j r s a b =
    let le = a.longest j s b.wf b.reads in
    let ge = b.longest i r a.wf a.reads in
    let e : item_then i [] ++ r ≡ item_then j [] ++ s = sym (item_adds i [] r) ∙ sym a.reads ∙ b.reads ∙ item_adds j [] s in
    let q = same_rest (item_then i []) (item_then j []) r s e (omega (arith, le, ge)) in (
      one_item fresh i j a.wf b.wf (append_cancel_right (item_then i []) (item_then j []) s
          (subst (λ (z : List Tok). item_then i [] ++ z ≡ item_then j [] ++ s) q e)),
      q,
    )

longest_sig_one : (ts : List Tok) (i j : SigItem) (r s : List Tok) → IsLongestSig ts i r → IsLongestSig ts j s → (i ≡ j) × (r ≡ s)
longest_sig_one ts i j r s a b =
    let le = a.longest j s b.wf b.reads in
    let ge = b.longest i r a.wf a.reads in
    let e : sig_item_then i [] ++ r ≡ sig_item_then j [] ++ s = sym (sig_item_adds i [] r) ∙ sym a.reads ∙ b.reads ∙ sig_item_adds j [] s in
    let q = same_rest (sig_item_then i []) (sig_item_then j []) r s e (omega (arith, le, ge)) in (
      one_sig i j a.wf b.wf (append_cancel_right (sig_item_then i []) (sig_item_then j []) s
          (subst (λ (z : List Tok). sig_item_then i [] ++ z ≡ sig_item_then j [] ++ s) q e)),
      q,
    )

one_body : (fresh : Bool) (ts : List Tok) (is : Items) (end : List Tok) → AreLongestItems fresh ts is end → (js : Items) (last : List Tok)
    → AreLongestItems fresh ts js last → (is ≡ js) × (end ≡ last)
one_body fresh ts _ _ (none_begins _ _ a) _ _ (none_begins _ _ b) = (refl, refl)
one_body fresh ts _ _ (none_begins _ _ a) _ _ (longest_then _ _ j s js last q b) = absurd (a j s q.wf q.reads)
one_body fresh ts _ _ (longest_then _ _ i r is end p a) _ _ (none_begins _ _ b) = absurd (b i r p.wf p.reads)
one_body fresh ts _ _ (longest_then _ _ i r is end p a) _ _ (longest_then _ _ j s js last q b) =
    let same = longest_one fresh ts i j r s p q in
    let moved : AreLongestItems (is_separator i) r js last = subst (λ (k : Item). AreLongestItems (is_separator k) r js last) (sym same.0)
    (subst (λ (z : List Tok). AreLongestItems (is_separator j) z js last) (sym same.1) b) in
    let more = one_body (is_separator i) r is end a js last moved in
    (ap (λ (k : Item). more_item k is) same.0 ∙ ap (more_item j) more.0, more.1)

one_face : (ts : List Tok) (is : SigItems) (end : List Tok) → AreLongestSigs ts is end → (js : SigItems) (last : List Tok) → AreLongestSigs ts js last
    → (is ≡ js) × (end ≡ last)
one_face ts _ _ (no_sig_begins _ a) _ _ (no_sig_begins _ b) = (refl, refl)
one_face ts _ _ (no_sig_begins _ a) _ _ (longest_sig_then _ j s js last q b) = absurd (a j s q.wf q.reads)
one_face ts _ _ (longest_sig_then _ i r is end p a) _ _ (no_sig_begins _ b) = absurd (b i r p.wf p.reads)
one_face ts _ _ (longest_sig_then _ i r is end p a) _ _ (longest_sig_then _ j s js last q b) =
    let same = longest_sig_one ts i j r s p q in
    let more = one_face r is end a js last (subst (λ (z : List Tok). AreLongestSigs z js last) (sym same.1) b) in
    (ap (λ (k : SigItem). more_sig_item k is) same.0 ∙ ap (more_sig_item j) more.0, more.1)

pub one_longest_body : OneLongestBody
one_longest_body fresh ts is end a js last b = one_body fresh ts is end a js last b

pub one_longest_face : OneLongestFace
one_longest_face ts is end a js last b = one_face ts is end a js last b
