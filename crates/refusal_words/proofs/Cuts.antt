-- Sources with their lexemes.
use Rattle.std.proofs.Common.{◌≡◌, ℕ, ◌+◌, ◌<◌, List, [], ◌∷◌, ◌++◌, ◌||◌, map, length, get_or, take, refl, ap, sym, subst}
use Rattle.std.proofs.lemmas.List.{map-append, take_more}
use Rattle.std.specs.List.{list_any}
use Rattle.std.specs.Str.{bytes_eq}
use Rattle.rotor_base.specs.declared.source.SourceFile.{SourceFile}
use Rattle.refusal_words.specs.Cut.{AreCuts, Cut, IsCut, view_cut}
use Rattle.refusal_words.specs.Renaming.{is_source_here}
use Rattle.refusal_words.specs.declared.cut.CutSource.{CutSource}

pub cuts_push : (sources : List SourceFile) (cuts : List Cut) (source : SourceFile) (cut : Cut) → AreCuts sources cuts → IsCut source cut
    → AreCuts (sources ++ source ∷ []) (cuts ++ cut ∷ [])
cuts_push [] [] source cut all is = (is, tt)
cuts_push [] (c ∷ cs) source cut all is = absurd all
cuts_push (s ∷ ss) [] source cut all is = absurd all
cuts_push (s ∷ ss) (c ∷ cs) source cut all is = (all.0, cuts_push ss cs source cut all.1 is)

pub cuts_more : (sources : List SourceFile) (i : ℕ) (source : SourceFile) (cuts new : List CutSource) (cut : CutSource) → i < length sources
    → source ≡ get_or sources i source → new ≡ cuts ++ cut ∷ [] → AreCuts (take i sources) (map view_cut cuts) → IsCut source (view_cut cut)
    → AreCuts (take (i + 1) sources) (map view_cut new)
cuts_more sources i source cuts new cut lt is made all one =
    subst (λ list. AreCuts (take (i + 1) sources) (map view_cut list)) (sym made)
    (subst (λ list. AreCuts (take (i + 1) sources) list) (sym (map-append view_cut cuts (cut ∷ [])))
    (subst (λ list. AreCuts list (map view_cut cuts ++ view_cut cut ∷ [])) (sym (take_more sources i source lt))
    (subst (λ s. AreCuts (take i sources ++ s ∷ []) (map view_cut cuts ++ view_cut cut ∷ [])) is
    (cuts_push (take i sources) (map view_cut cuts) source (view_cut cut) all one))))

pub any_view : (cuts : List CutSource) (name : List ℕ)
    → is_source_here (map view_cut cuts) name ≡ list_any (λ cut. bytes_eq cut.name.now name) cuts
any_view [] name = refl
any_view (c ∷ cs) name = ap (λ b. bytes_eq c.name.now name || b) (any_view cs name)
