-- Scans of lists for the first thing that passes a test.
use Rattle.std.proofs.Common.{◌≡◌, ℕ, ◌+◌, ◌<◌, List, cond, length, get_or, drop, true, Option, ap, sym, ◌∙◌}
use Rattle.std.proofs.lemmas.List.{drop_more}
use Rattle.rotor_base.specs.declared.place.Link.{Link}
use Rattle.rotor_base.specs.declared.place.Place.{Place}
use Rattle.rotor_base.specs.declared.place.Ref.{Ref}
use Rattle.explain.specs.Blurs.{blur_of, blurring_link, blurring_use, blurs_link, blurs_use}

pub use_here : (rs : List Ref) (i : ℕ) (d : Ref) (p : Place) (o : Option Place) → i < length rs → blurs_use p (get_or rs i d) ≡ true
    → blurring_use (drop i rs) p ≡ o → blur_of (get_or rs i d).goal ≡ o
use_here rs i d p o lt same so =
    sym (ap (λ l. blurring_use l p) (drop_more rs i d lt)
    ∙ ap (λ b. cond b (blur_of (get_or rs i d).goal) (blurring_use (drop (i + 1) rs) p)) same)
    ∙ so

pub link_here : (ls : List Link) (i : ℕ) (d : Link) (p : Place) (o : Option Place) → i < length ls → blurs_link p (get_or ls i d) ≡ true
    → blurring_link (drop i ls) p ≡ o → blur_of (get_or ls i d).source ≡ o
link_here ls i d p o lt same so =
    sym (ap (λ l. blurring_link l p) (drop_more ls i d lt)
    ∙ ap (λ b. cond b (blur_of (get_or ls i d).source) (blurring_link (drop (i + 1) ls) p)) same)
    ∙ so
