-- What a scalar says of a word: a number below 2 ^ 64 that lies in an unsigned range and, as a signed number, in a signed
-- one, and some of whose bits are known.
use Rattle.std.specs.Prelude.{ℕ, ◌+◌, ◌%◌, ◌^◌, ◌<◌, ◌≤◌, Option, None, Some}
use Rattle.std.specs.Int.{bit_at}
use Rattle.scalar_domain.specs.declared.spans.Span.{Span}
use Rattle.scalar_domain.specs.declared.bits.KnownBits.{KnownBits}
use Rattle.scalar_domain.specs.declared.scalars.Scalar.{Scalar}
use Rattle.scalar_domain.specs.declared.narrowing.Sides.{Sides}

-- a word lies in a range, both ends included
pub record Within (span : Span) (word : ℕ) : Type 0 where
  pub from_least : span.least ≤ word
  pub to_most : word ≤ span.most

-- Where a word stands in the order of signed words: the least of them, 2 ^ 63, at 0, and 0 at 2 ^ 63. Done twice it gives
-- the word again.
abbrev pub place : ℕ → ℕ
place word = (word + 2 ^ 63) % 2 ^ 64

-- each bit that one word has the other has too
pub record Subset (bits : ℕ) (word : ℕ) : Type 0 where
  pub bit : (i : ℕ) → bit_at bits i ≤ bit_at word i

-- the word has the bits that it must have, and none but those that it may have
pub record Agrees (known : KnownBits) (word : ℕ) : Type 0 where
  pub has : Subset known.must word
  pub has_only : Subset word known.may

-- the word is one of the scalar's; the signed range is that of places in the order of signed words
pub record Has (scalar : Scalar) (word : ℕ) : Type 0 where
  pub fits : word < 2 ^ 64
  pub in_unsigned : Within scalar.unsigned word
  pub in_signed : Within scalar.signed (place word)
  pub in_bits : Agrees scalar.bits word

-- a way exists, and two words lie on its sides
abbrev pub SidesHave : Option Sides → ℕ → ℕ → Type 0
SidesHave None a b = ⊥
SidesHave (Some sides) a b = Has sides.left a × Has sides.right b
