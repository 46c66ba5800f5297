-- The places of a well-formed tree are among its words, in their order.
use Rattle.std.proofs.Common.{ℕ, suc, List, [], ◌∷◌, length}
use Rattle.ml_trees.specs.Tok.{Tok}
use Rattle.ml_trees.specs.Words.{words}
use Rattle.value_sites.specs.Places.{Site, sites}
use Rattle.ml_syntax.specs.Standing.{StandFrom, SitesHaveTheirWords}
use Rattle.ml_syntax.proofs.Steps.{Between, begin}
use Rattle.ml_syntax.proofs.Reading.{file_read}

stands : (ts : List Tok) (low : ℕ) (ss : List Site) (high : ℕ) → Between ts low ss high → StandFrom ts low ss
stands ts low [] high h = tt
stands ts low (s ∷ ss) high h = (h.0, h.1, h.2, stands ts (suc h.0) ss high h.3)

pub sites_have_their_words : SitesHaveTheirWords
sites_have_their_words t wf =
    let r = file_read t wf (begin (words t)) in
    stands (words t) 0 (sites t) (length r.past) r.marks
