-- what the names so far have
use Rattle.std.proofs.Common.{◌≡◌, map, string_bytes, take}
use Rattle.host_journal.specs.Listings.{AreKnown, manifests_in, segments_in}
use Rattle.host_journal.proofs.listing.numbers_of.Given as goal

abbrev pub invariant-loop-name : goal.invariant-loop-name
invariant-loop-name l = record {
  known : AreKnown (take l.name-index (map string_bytes l.names));
  segments : l.numbers.segments.items ≡ segments_in (take l.name-index (map string_bytes l.names));
  manifests : l.numbers.manifests.items ≡ manifests_in (take l.name-index (map string_bytes l.names));
}
