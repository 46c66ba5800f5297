-- Edits make one text.
use Rattle.std.proofs.Common.{◌≡◌, ℕ, List, [], ◌∷◌, ap, sym, ◌∙◌, refl}
use Rattle.edits.specs.declared.Edit.{Edit}
use Rattle.text_places.specs.declared.counting.Counting.{Counting}
use Rattle.source_edits.specs.declared.text_edit.TextEdit.{TextEdit}
use Rattle.source_edits.specs.Edited.{Names, EachNames, edited_from}
use Rattle.source_edits.specs.Laws.{EditedTextsAreOne}

-- a range names one span
one_span : (c : Counting) (old : List ℕ) (e : TextEdit) (s t : Edit) → Names c old e s → Names c old e t → s ≡ t
one_span c old e s t h k =
    let start : s.start ≡ t.start = cc (h.first, k.first) in
    let end : s.end ≡ t.end = cc (h.behind, k.behind) in
    let text : s.text ≡ t.text = h.text ∙ sym k.text in
    λ i. record { start = start i; end = end i; text = text i }

one_list : (c : Counting) (old : List ℕ) (es : List TextEdit) (ss ts : List Edit) → EachNames c old es ss → EachNames c old es ts → ss ≡ ts
one_list c old [] [] [] h k = refl
one_list c old [] [] (t ∷ ts) h k = absurd k
one_list c old [] (s ∷ ss) ts h k = absurd h
one_list c old (e ∷ es) [] ts h k = absurd h
one_list c old (e ∷ es) (s ∷ ss) [] h k = absurd k
one_list c old (e ∷ es) (s ∷ ss) (t ∷ ts) h k =
    ap (λ (x : Edit). x ∷ ss) (one_span c old e s t h.0 k.0) ∙ ap (λ (xs : List Edit). t ∷ xs) (one_list c old es ss ts h.1 k.1)

pub edited_texts_are_one : EditedTextsAreOne
edited_texts_are_one c old es one other h k = h.text ∙ ap (edited_from 0 old) (one_list c old es h.spans k.spans h.names k.names) ∙ sym k.text
