-- An address that is moved by a number, as offsets and places in the order of signed words.
use Rattle.std.proofs.Common.{◌≡◌, ℕ, ◌+◌, ◌-◌, ◌%◌, ◌^◌, ◌<◌, ◌≤◌, arith}
use Rattle.std.specs.Int.{w64}
use Rattle.bpf_words.specs.Words.{low}
use Rattle.scalar_domain.specs.declared.spans.Span.{Span}
use Rattle.scalar_domain.specs.Scalar.{Within, place}
use Rattle.check_register_kinds.specs.declared.region.Region.{Region}
use Rattle.check_register_kinds.specs.declared.region.Offsets.{Offsets}
use Rattle.check_register_kinds.specs.Kinds.{LiesAt, start_of, size_of}

forward : (start offset word : ℕ) → 2 ^ 63 ≤ offset + place word → start + (offset + place word - 2 ^ 63) < 2 ^ 64 → word < 2 ^ 64 → (start + offset + word) % 2 ^ 64 ≡ start + (offset + place word - 2 ^ 63)
forward start offset word enough near fits = omega arith

backward : (start offset word : ℕ) → place word ≤ offset + 2 ^ 63 → start + (offset + 2 ^ 63 - place word) < 2 ^ 64 → word < 2 ^ 64 → (start + offset + (2 ^ 64 - word)) % 2 ^ 64 ≡ start + (offset + 2 ^ 63 - place word)
backward start offset word enough near fits = omega arith

pub advanced_lies : (region : Region) (from to : Offsets) (signed : Span) (address word : ℕ) → start_of region + size_of region < 2 ^ 64 → to.least + 2 ^ 63 ≡ from.least + signed.least → to.most + 2 ^ 63 ≡ from.most + signed.most → to.most ≤ size_of region → LiesAt region from address → word < 2 ^ 64 → Within signed (place word) → LiesAt region to (low w64 (address + word))
advanced_lies region from to signed address word near least most inside (offset, is, above, below, within) fits in_range =
    let from_least = in_range.from_least in
    let to_most = in_range.to_most in
    (offset + place word - 2 ^ 63, omega (arith, is, forward (start_of region) offset word (omega (arith, least, above, from_least)) (omega (arith, near, most, inside, below, to_most)) fits), omega (arith, least, above, from_least), omega (arith, most, below, to_most), omega (arith, most, inside, below, to_most))

pub receded_lies : (region : Region) (from to : Offsets) (signed : Span) (address word : ℕ) → start_of region + size_of region < 2 ^ 64 → to.least + signed.most ≡ from.least + 2 ^ 63 → to.most + signed.least ≡ from.most + 2 ^ 63 → to.most ≤ size_of region → LiesAt region from address → word < 2 ^ 64 → Within signed (place word) → LiesAt region to (low w64 (address + (2 ^ 64 - word)))
receded_lies region from to signed address word near least most inside (offset, is, above, below, within) fits in_range =
    let from_least = in_range.from_least in
    let to_most = in_range.to_most in
    (offset + 2 ^ 63 - place word, omega (arith, is, backward (start_of region) offset word (omega (arith, least, above, to_most)) (omega (arith, near, most, inside, below, from_least)) fits), omega (arith, least, above, to_most), omega (arith, most, below, from_least), omega (arith, most, inside, below, from_least))
