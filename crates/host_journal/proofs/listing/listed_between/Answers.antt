use Rattle.std.proofs.Common.{◌∙◌, List, ℕ, ap, sym, inl, inr}
use Rattle.std.proofs.lemmas.Bool.{both_ways}
use Rattle.host_journal.specs.Listings.{are_own}
use Rattle.host_journal.proofs.Numbers.{are_no_segments, are_segments}
use Rattle.host_journal.proofs.listing.listed_between.Goals as goal

pub returns-then-not-are_whole : goal.returns-then-not-are_whole
returns-then-not-are_whole c =
    are_no_segments c.args.numbers.now.segments.items c.args.numbers.now.manifests.items c.args.first c.args.last c.requires.least c.requires.greatest
    (inl (λ whole. both_ways c.are_whole.result c.if-not-are_whole.true (c.are_whole.ensures.1 whole)))

pub returns-then-not-are_own : goal.returns-then-not-are_own
returns-then-not-are_own c =
    are_no_segments c.args.numbers.now.segments.items c.args.numbers.now.manifests.items c.args.first c.args.last c.requires.least c.requires.greatest
    (inr (sym (ap (λ (t : List ℕ). are_own t c.args.first c.args.last) c.as_slice.ensures.value) ∙ sym c.are_own.ensures ∙ c.if-not-are_own.true))

pub returns : goal.returns
returns c =
    are_segments c.args.numbers.now.segments.items c.args.numbers.now.manifests.items c.args.first c.args.last c.requires.least c.requires.greatest
    (c.are_whole.ensures.0 c.if-not-are_whole.false)
    (sym (ap (λ (t : List ℕ). are_own t c.args.first c.args.last) c.as_slice.ensures.value) ∙ sym c.are_own.ensures ∙ c.if-not-are_own.false)
