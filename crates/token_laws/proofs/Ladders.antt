-- The ladder of a renaming without Grown, which alone looks at the bytes of sources.
use Rattle.std.proofs.Common.{◌≡◌, ℕ, inl, inr, List, [], ◌∷◌, Some, None, refl}
use Rattle.rotor_base.specs.Files.{are_over}
use Rattle.rotor_base.specs.declared.place.Foot.{Foot}
use Rattle.rotor_base.specs.declared.place.Place.{Place}
use Rattle.rotor_base.specs.declared.refusal.Refusal.{Refusal}
use Rattle.rotor_base.specs.declared.refusal.Refusal.TheVariants as refusal
use Rattle.rotor_base.specs.declared.source.SourceFile.{SourceFile}
use Rattle.ml_syntax.specs.RespelledSource.{AreRespelled}
use Rattle.ml_trees.specs.Tree.{UnitTree}
use Rattle.shape_core.specs.Shape.{Name}
use Rattle.binding_model.specs.Renaming.{in_file}
use Rattle.capture_check.specs.Fault.{IsMet}
use Rattle.rename_model.specs.Bytes.{position_with}
use Rattle.rename_model.specs.Renaming.{IsGrown, refusals_of_binder, renamed_words, watch_of}
use Rattle.rename_laws.proofs.Free.{lasting}

abbrev pub IsOfGrowth : Refusal → Type 0
IsOfGrowth why = (file : ℕ) × (why ≡ refusal.Grown file)

module _ (sources : List SourceFile) (us : List UnitTree) (d : Place) (foot : Foot) (new : Name) where
  -- the ladder of no sources: none of them grows
  abbrev pub Bare : Refusal → Type 0
  Bare = refusals_of_binder [] us d foot new

  nothing_over : (news : List SourceFile) (file : ℕ) → AreRespelled (in_file (renamed_words us (watch_of us d foot new))) 0 [] news
      → position_with are_over news ≡ Some file → ⊥
  nothing_over [] file r e = let wrong : None ≡ Some file = e in cc
  nothing_over (x ∷ news) file r e = r

  none_grows : IsMet (IsGrown [] us (watch_of us d foot new)) → ⊥
  none_grows (refusal.Grown file, h) = nothing_over h.0 file h.1 h.2
  none_grows (_, h) = h

  grown_is : (why : Refusal) → IsGrown sources us (watch_of us d foot new) why → IsOfGrowth why
  grown_is (refusal.Grown file) h = (file, refl)
  grown_is _ h = absurd h

  pub without : (why : Refusal) → (IsOfGrowth why → ⊥) → refusals_of_binder sources us d foot new why → Bare why
  without why n (inl h) = inl h
  without why n (inr (a, inl h)) = inr (a, inl h)
  without why n (inr (a, inr (b, inl h))) = inr (a, inr (b, inl h))
  without why n (inr (a, inr (b, inr (c, inl h)))) = inr (a, inr (b, inr (c, inl h)))
  without why n (inr (a, inr (b, inr (c, inr (e, inl h))))) = inr (a, inr (b, inr (c, inr (e, inl h))))
  without why n (inr (a, inr (b, inr (c, inr (e, inr (g, inl h)))))) = inr (a, inr (b, inr (c, inr (e, inr (g, inl h)))))
  without why n (inr (a, inr (b, inr (c, inr (e, inr (g, inr (i, inl h))))))) = absurd (n (grown_is why h))
  without why n (inr (a, inr (b, inr (c, inr (e, inr (g, inr (i, inr (j, h)))))))) =
      inr (a, inr (b, inr (c, inr (e, inr (g, inr (i, inr (none_grows, h)))))))

  module _ (free : IsMet (refusals_of_binder sources us d foot new) → ⊥) where
    small : IsMet (IsGrown sources us (watch_of us d foot new)) → ⊥
    small = (lasting sources us d foot new free).grown

    pub none_without : (why : Refusal) → Bare why → ⊥
    none_without why (inl h) = free (why, inl h)
    none_without why (inr (a, inl h)) = free (why, inr (a, inl h))
    none_without why (inr (a, inr (b, inl h))) = free (why, inr (a, inr (b, inl h)))
    none_without why (inr (a, inr (b, inr (c, inl h)))) = free (why, inr (a, inr (b, inr (c, inl h))))
    none_without why (inr (a, inr (b, inr (c, inr (e, inl h))))) = free (why, inr (a, inr (b, inr (c, inr (e, inl h)))))
    none_without why (inr (a, inr (b, inr (c, inr (e, inr (g, inl h)))))) = free (why, inr (a, inr (b, inr (c, inr (e, inr (g, inl h))))))
    none_without why (inr (a, inr (b, inr (c, inr (e, inr (g, inr (i, inl h))))))) = none_grows (why, h)
    none_without why (inr (a, inr (b, inr (c, inr (e, inr (g, inr (i, inr (j, h)))))))) =
        free (why, inr (a, inr (b, inr (c, inr (e, inr (g, inr (i, inr (small, h))))))))
