-- those below stand there whole
use Rattle.std.proofs.Common.{◌<◌, ◌≤◌, ℕ}
use Rattle.host_journal.specs.Listings.{IsWhole}
use Rattle.host_journal.proofs.listing.are_whole.Given as goal

abbrev pub invariant-loop-number : goal.invariant-loop-number
invariant-loop-number l = (number : ℕ) → l.first ≤ number → number < l.number → IsWhole l.numbers.segments.items l.numbers.manifests.items number
