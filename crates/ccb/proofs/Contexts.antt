-- A context is 96 bytes.
use Rattle.std.proofs.Common.{◌≡◌, ℕ, ◌+◌, ◌-◌, ◌<◌, ◌≤◌, ◌%◌, List, [], ◌∷◌, ◌++◌, length, get_or, length-append, inl, inr, refl, arith}
use Rattle.std.proofs.Math.ListN.{replicate}
use Rattle.std.specs.List.{All}
use Rattle.std.specs.Int.{byte_at}
use Rattle.std.proofs.lemmas.Bool.{cases_lt}
use Rattle.std.proofs.lemmas.List.{get_or_past, length-replicate}
use Rattle.std.proofs.lemmas.List.Elements.{All-nil, All-cons, All-append, All-replicate, All-get_or}
use Rattle.byteorder.specs.Endian.{little_bytes}
use Rattle.sense_record.specs.Sense.{Format, Fixed, Descriptor, Unknown, format_of, response_code, sense_in, sense_of}
use Rattle.ccb.specs.declared.ccb.Ccb.{Ccb}
use Rattle.base.specs.ShortBytes.{padded_bytes}
use Rattle.ccb.specs.Context.{context_of}
use Rattle.ccb.specs.Ccb.{status_word_of}

record IsBytes (n : ℕ) (xs : List ℕ) : Type 0 where
  size : length xs ≡ n
  each : All (λ byte. byte < 256) xs

none : IsBytes 0 []
none = record { size = refl; each = All-nil (λ (byte : ℕ). byte < 256) }

after : (m n : ℕ) (xs ys : List ℕ) → IsBytes m xs → IsBytes n ys → IsBytes (m + n) (xs ++ ys)
after m n xs ys first second =
    record { size = omega (arith, length-append xs ys, first.size, second.size); each = All-append (λ (byte : ℕ). byte < 256) xs ys first.each second.each }

byte : (b : ℕ) → b < 256 → IsBytes 1 (b ∷ [])
byte b below = record { size = refl; each = All-cons (λ (x : ℕ). x < 256) b [] below (All-nil (λ (x : ℕ). x < 256)) }

low : (n : ℕ) → n % 256 < 256
low n = omega arith

word : (w : ℕ) → IsBytes 4 (little_bytes 4 w)
word w =
    record {
      size = refl;
      each =
          All-cons (λ (x : ℕ). x < 256) (byte_at 0 w) (byte_at 1 w ∷ byte_at 2 w ∷ byte_at 3 w ∷ []) (low _)
          (All-cons (λ (x : ℕ). x < 256) (byte_at 1 w) (byte_at 2 w ∷ byte_at 3 w ∷ []) (low _)
          (All-cons (λ (x : ℕ). x < 256) (byte_at 2 w) (byte_at 3 w ∷ []) (low _)
          (All-cons (λ (x : ℕ). x < 256) (byte_at 3 w) [] (low _) (All-nil (λ (x : ℕ). x < 256)))));
    }

padded : (sense : List ℕ) → length sense ≤ 64 → All (λ byte. byte < 256) sense → IsBytes 64 (padded_bytes sense)
padded sense few each =
    record {
      size = omega (arith, length-append sense (replicate (64 - length sense) 0), length-replicate {A = ℕ} (64 - length sense) 0);
      each = All-append (λ (x : ℕ). x < 256) sense (replicate (64 - length sense) 0) each (All-replicate (λ (x : ℕ). x < 256) (64 - length sense) 0 (omega arith));
    }

at_place : (sense : List ℕ) (k : ℕ) → All (λ byte. byte < 256) sense → get_or sense k 0 < 256
at_place sense k each =
    elim (cases_lt k (length sense)) [
      | inl inside ↦ All-get_or (λ (x : ℕ). x < 256) sense k 0 inside each
      | inr past ↦ let zero_there : get_or sense k 0 ≡ 0 = get_or_past sense k 0 past in omega (arith, zero_there)
    ]

record SenseBelow (format : Format) (sense : List ℕ) : Type 0 where
  key : (sense_in format sense).key < 256
  asc : (sense_in format sense).asc < 256
  ascq : (sense_in format sense).ascq < 256

sense_below : (format : Format) (sense : List ℕ) → All (λ byte. byte < 256) sense → SenseBelow format sense
sense_below Fixed sense each = record { key = omega arith; asc = at_place sense 12 each; ascq = at_place sense 13 each }
sense_below Descriptor sense each = record { key = omega arith; asc = at_place sense 2 each; ascq = at_place sense 3 each }
sense_below Unknown sense each = record { key = omega arith; asc = omega arith; ascq = omega arith }

-- the context of a CCB whose completion was one
pub record IsContext (context : List ℕ) : Type 0 where
  pub size : length context ≡ 96
  pub each : All (λ byte. byte < 256) context

pub is_context : (ccb : Ccb) → ccb.scsi < 256 → length ccb.sense ≤ 64 → All (λ byte. byte < 256) ccb.sense → IsContext (context_of ccb)
is_context ccb scsi few each =
    let sense = sense_below (format_of (response_code ccb.sense)) ccb.sense each in
    let made : IsBytes 96 (context_of ccb) =
    after 4 92 _ _ (word ccb.number.0) (after 4 88 _ _ (word ccb.queue.0) (after 4 84 _ _ (word (status_word_of ccb))
    (after 1 83 _ _ (byte _ scsi) (after 1 82 _ _ (byte _ sense.key) (after 1 81 _ _ (byte _ sense.asc) (after 1 80 _ _ (byte _ sense.ascq)
    (after 4 76 _ _ (word ccb.retries) (after 4 72 _ _ (word (sense_of ccb.sense).len) (after 4 68 _ _ (word ccb.attempts) (after 4 64 _ _ (word ccb.class)
    (after 64 0 _ _ (padded ccb.sense few each) none))))))))))) in
    record { size = made.size; each = made.each }
