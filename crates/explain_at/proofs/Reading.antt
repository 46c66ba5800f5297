-- The line of a target is read as the target of the declaration.
use Rattle.std.proofs.Common.{◌≡◌, ℕ, zero, suc, ◌-◌, ◌<◌, ◌^◌, List, [], ◌∷◌, ◌++◌, Option, None, Some, codes, slice_get, refl, ap, sym, subst, ◌∙◌}
use Rattle.std.proofs.Common.{append_assoc, arith}
use Rattle.std.specs.Fmt.{decimal}
use Rattle.report.specs.Pieces.{Word, join}
use Rattle.rotor_base.proofs.Rising.{some_is}
use Rattle.rotor_base.specs.declared.place.Place.{Place}
use Rattle.rotor_base.specs.declared.source.SourceFile.{SourceFile}
use Rattle.rotor_base.specs.declared.target.Target.{Target}
use Rattle.rotor_base.specs.declared.target.Target.TheVariants.{At}
use Rattle.ml_lexer.specs.Lexed.{Lexeme}
use Rattle.cli_words.specs.Target.{target_of}
use Rattle.cli_words.proofs.Places.{place_read}
use Rattle.rename_laws.proofs.Placed.{IsPlaced, placed}
use Rattle.rename_model.specs.Target.{Aims}
use Rattle.refusal_words.specs.Cut.{AreCuts, Cut}
use Rattle.refusal_words.specs.Stretches.{cut_spot, found_spot, place_spot, spot_among}
use Rattle.explain_at.specs.At.{target_line}
use Rattle.explain_at.specs.Laws.{TargetsAreRead}

cut_here : (sources : List SourceFile) (cuts : List Cut) (k : ℕ) (source : SourceFile) → AreCuts sources cuts → slice_get sources k ≡ Some source
    → (cut : Cut) × (slice_get cuts k ≡ Some cut) × (cut.name ≡ source.name)
cut_here [] [] k source h e = cc
cut_here [] (c ∷ cs) k source h e = absurd h
cut_here (s ∷ ss) [] k source h e = absurd h
cut_here (s ∷ ss) (c ∷ cs) zero source h e = (c, refl, h.0.name ∙ ap (λ (z : SourceFile). z.name) (some_is s source e))
cut_here (s ∷ ss) (c ∷ cs) (suc k) source h e = cut_here ss cs k source h.1 e

spot_file : (cut : Cut) (number : ℕ) → (cut_spot cut number).file ≡ cut.name
spot_file cut number = by (slice_get cut.lexemes (number - 1)) where
  by : (found : Option Lexeme) → (found_spot cut found).file ≡ cut.name
  by None = refl
  by (Some x) = refl

place_file : (cuts : List Cut) (d : Place) (cut : Cut) → slice_get cuts d.file ≡ Some cut → (place_spot cuts d).file ≡ cut.name
place_file cuts d cut e = ap (λ (o : Option Cut). (spot_among o d.token).file) e ∙ spot_file cut d.token

line_is : (file number : Word) → join (file ∷ codes "#" ∷ number ∷ codes "\n" ∷ []) ≡ (file ++ (codes "#" ++ number)) ++ codes "\n"
line_is file number = sym (append_assoc file (codes "#" ++ number) (codes "\n"))

pub all_are_read : TargetsAreRead
all_are_read files us cuts d project reads cut plain =
    let p : IsPlaced files d = placed files us d plain.site project reads plain.here plain.no_operator plain.no_pun in
    let c = cut_here files.entries cuts d.file p.source cut p.here_it_is in
    let name : (place_spot cuts d).file ≡ p.source.name = place_file cuts d c.0 c.1 ∙ c.2 in
    let few : d.token < 2 ^ 32 = omega (arith, p.below) in
    let read : target_of (p.source.name ++ (codes "#" ++ decimal d.token)) ≡ At p.source.name d.token
    = place_read p.source.name d.token p.is_source p.above few in
    let line : target_line cuts d ≡ (p.source.name ++ (codes "#" ++ decimal d.token)) ++ codes "\n"
    = ap (λ (w : Word). join (w ∷ codes "#" ∷ decimal d.token ∷ codes "\n" ∷ [])) name ∙ line_is p.source.name (decimal d.token) in
    let aims : Aims files us (target_of (p.source.name ++ (codes "#" ++ decimal d.token))) d
    = subst (λ (t : Target). Aims files us t d) (sym read) ((p.number, refl), (plain.site, plain.here, plain.binds)) in
    (p.source.name ++ (codes "#" ++ decimal d.token), line, aims)
