-- What holds of each kind of place holds of all places of a well-formed file.
use Rattle.std.proofs.Common.{◌≡◌, List, [], ◌∷◌, ◌++◌, Bool, true, false, Contains, length, codes, slice_index_or, refl, sym, subst}
use Rattle.std.proofs.Common.{◌∙◌, arith, append_assoc, length-append}
use Rattle.rotor_base.specs.declared.token.Class.{Class}
use Rattle.rotor_base.specs.declared.token.Class.TheVariants as class
use Rattle.ml_trees.specs.declared.fixed.Fixed.TheVariants as key
use Rattle.ml_trees.specs.Tok.{Name, Tok, fixed, placed, word}
use Rattle.ml_trees.specs.Tree.{PlainName, OperatorName, UpperName, AnyName, FileTree}
use Rattle.ml_trees.specs.Runs.{has_colon}
use Rattle.ml_trees.specs.Events.{Event, said, run_of, value, field, label, operator, minus, module_path, last_path, qualifier, brings}
use Rattle.ml_trees.specs.Words.{add_words, dotted_then, path_then, qualified_then, words}
use Rattle.ml_trees.specs.WellFormed.{is_operator, WfFile}
use Rattle.tree_events.specs.Behind.{behind}
use Rattle.value_sites.specs.Places.{Site, plain, punned, operated, label_site, operator_sites, adds_site, sites}
use Rattle.value_sites.specs.Each.{Each}
use Rattle.binding_model.proofs.Sounds.{each_joined}
pub use Rattle.rename_laws.proofs.FineEvents.{is_sign}
use Rattle.rename_laws.proofs.FineEvents.{Fine, file_fine}

operator_sign : (t : Tok) → is_operator t ≡ true → is_sign t ≡ true
operator_sign (word class.Prefix x) e = refl
operator_sign (word class.Infix x) e = refl
operator_sign (word class.Mark x) e = e
operator_sign (word class.Keyword x) e = e
operator_sign (word c x) e = cc
operator_sign (placed x at) e = refl
operator_sign (fixed x) e = refl

at_split : (before : List Tok) (here : Tok) (behind : List Tok) → slice_index_or (before ++ here ∷ behind) (length before) here ≡ here
at_split [] here behind = refl
at_split (t ∷ before) here behind = at_split before here behind

among : (before : List Tok) (here : Tok) (behind : List Tok) → Contains (before ++ here ∷ behind) here
among before here behind = (length before, rw length-append (omega arith), at_split before here behind)

-- what holds of the places of each kind, by the words of the file
pub record OfKinds (ts : List Tok) (P : Site → Type 0) : Type 0 where
  pub name : (s : Site) (x : Name) → s.name ≡ x.text → s.operator ≡ false → Contains ts (word class.Lower x) → P s
  pub label : (binds : Bool) (x : Name) → has_colon x.text ≡ false → Contains ts (word class.Label x) → P (label_site binds x)
  pub equals : (binds : Bool) (at : _) → P (operated binds at (codes "="))
  pub minus : (x : Name) → P (operated false x.at (126 ∷ x.text))
  pub sign : (binds : Bool) (c : Class) (x : Name) → is_sign (word c x) ≡ true → Contains ts (word c x) → P (operated binds x.at x.text)

module _ (ts : List Tok) (P : Site → Type 0) (holds : OfKinds ts P) where
  -- of the words behind some of the file's, and what is made of the places among those: if it holds of these, it holds of
  -- all that is made
  abbrev Go : List Tok → (List Site → List Site) → Type 0
  Go us k = (past : List Tok) → ts ≡ past ++ us → (found : List Site) → Each P found → Each P (k found)

  pass : (k : List Site → List Site) (t : Tok) {us : List Tok} → Go us k → Go (t ∷ us) k
  pass k t {us} r past w = r (past ++ t ∷ []) (w ∙ sym (append_assoc past (t ∷ []) us))

  pass_run : (k : List Site → List Site) (run : List Tok) {us : List Tok} → Go us k → Go (run ++ us) k
  pass_run k [] r = r
  pass_run k (t ∷ run) r = pass k t (pass_run k run r)

  pass_dotted : (k : List Site → List Site) (path : List Name) {us : List Tok} → Go us k → Go (dotted_then path us) k
  pass_dotted k [] r = r
  pass_dotted k (x ∷ path) r = pass k (fixed key.Dot) (pass k (word class.Upper x) (pass_dotted k path r))

  pass_path : (k : List Site → List Site) (path : List Name) {us : List Tok} → Go us k → Go (path_then path us) k
  pass_path k [] r = r
  pass_path k (x ∷ path) r = pass k (word class.Upper x) (pass_dotted k path r)

  pass_qualified : (k : List Site → List Site) (path : List Name) {us : List Tok} → Go us k → Go (qualified_then path us) k
  pass_qualified k [] r = r
  pass_qualified k (x ∷ path) r = pass k (word class.Upper x) (pass k (fixed key.Dot) (pass_qualified k path r))

  -- a word with a place
  mark : (k : List Site → List Site) (s : Site) (t : Tok) {us : List Tok} → (Contains ts t → P s) → Go us k
      → Go (t ∷ us) (λ found. k (found ++ s ∷ []))
  mark k s t {us} p r past w found h =
      pass k t r past w (found ++ s ∷ []) (each_joined P found (s ∷ []) h (p (subst (λ xs. Contains xs t) (sym w) (among past t us)), tt))

  operator_mark : (k : List Site → List Site) (binds : Bool) (t : Tok) {us : List Tok} → is_sign t ≡ true → Go us k
      → Go (t ∷ us) (λ found. k (operator_sites found binds t))
  operator_mark k binds (placed key.Equals at) e r = mark k (operated binds at (codes "=")) (placed key.Equals at) (λ c. holds.equals binds at) r
  operator_mark k binds (placed x at) e r = pass k (placed x at) r
  operator_mark k binds (word c x) e r = mark k (operated binds x.at x.text) (word c x) (λ q. holds.sign binds c x e q) r
  operator_mark k binds (fixed x) e r = pass k (fixed x) r

  event_goes : (e : Event) (us : List Tok) (k : List Site → List Site) → Fine e → Go us k → Go (add_words e us) (behind adds_site e k)
  event_goes (said t) us k f r = pass k t r
  event_goes (run_of run) us k f r = pass_run k run r
  event_goes (value b (PlainName x)) us k f r = mark k (plain b x) (word class.Lower x) (λ c. holds.name (plain b x) x refl refl c) r
  event_goes (value b (OperatorName at t)) us k f r =
      pass (λ found. k (operator_sites found b t)) (placed key.LeftParen at)
      (operator_mark k b t (operator_sign t f) (pass k (fixed key.RightParen) r))
  event_goes (field b x) us k f r =
      mark k (punned b x.at x.text) (word class.Lower x) (λ c. holds.name (punned b x.at x.text) x refl refl c) r
  event_goes (label b x) us k f r = mark k (label_site b x) (word class.Label x) (λ c. holds.label b x f c) r
  event_goes (operator t) us k f r = operator_mark k false t f r
  event_goes (minus x) us k f r = mark k (operated false x.at (126 ∷ x.text)) (word class.Infix x) (λ c. holds.minus x) r
  event_goes (module_path path) us k f r = pass_path k path r
  event_goes (last_path path) us k f r = pass_path k path r
  event_goes (qualifier path) us k f r = pass_qualified k path r
  event_goes (brings (UpperName x)) us k f r = r
  event_goes (brings (AnyName at)) us k f r = r
  event_goes _ us k f r = r

pub holds_of_places : (t : FileTree) (P : Site → Type 0) → WfFile t → OfKinds (words t) P → Each P (sites t)
holds_of_places t P wf holds =
    file_fine add_words (behind adds_site) (Go (words t) P holds) (event_goes (words t) P holds) t wf (λ past w found h. h) [] refl [] tt
