-- Queue by queue: that each got what it is to get, and how many requests are lacking.
use Rattle.std.proofs.Common.{◌≡◌, ℕ, ◌+◌, List, true, inl, inr, refl, subst, sym, arith}
use Rattle.std.proofs.lemmas.List.FromFn.{sum_by-map-range_with_len_more}
use Rattle.std.specs.List.{list_any}
use Rattle.std.proofs.lemmas.Bool.{cases_eq}
use Rattle.world_calls.specs.declared.record.Record.{Record}
use Rattle.trial_disks.specs.declared.data.Disks.{Disks}
use Rattle.host_trial.specs.Submitted.{AreSubmitted, lacking, serves, submissions, unsubmitted, up_to_64_bits}

-- this queue too has what it is to have
pub one_further : (disks : Disks) (queue : ℕ) (records : List Record) → AreSubmitted disks queue records
    → (list_any (serves queue) disks.devices.items ≡ true → submissions queue records ≡ disks.requests) → AreSubmitted disks (queue + 1) records
one_further disks queue records before this it within served = elim (cases_eq it queue) [
  | inl same ↦ subst (λ (q : ℕ). submissions q records ≡ disks.requests) (sym same) (this (subst (λ (q : ℕ). list_any (serves q) disks.devices.items ≡ true) same served))
  | inr apart ↦ before it (omega (arith, within, apart)) served
]

-- no queue lacks anything
pub none : (disks : Disks) (records : List Record) → 0 ≡ up_to_64_bits (unsubmitted disks 0 records)
unfolding unsubmitted
none disks records = refl

-- with one queue more, what that one lacks is added
more : (disks : Disks) (queue : ℕ) (records : List Record) → unsubmitted disks (queue + 1) records ≡ unsubmitted disks queue records + lacking disks records queue
unfolding unsubmitted
more disks queue records = sum_by-map-range_with_len_more (λ (n : ℕ). n) (lacking disks records) 0 queue queue (omega arith)

-- the same, as far as 64 bits go
pub more_bits : (disks : Disks) (queue : ℕ) (records : List Record) (count lacks : ℕ) → count ≡ up_to_64_bits (unsubmitted disks queue records) → lacks ≡ lacking disks records queue
    → (next : ℕ) → next ≡ up_to_64_bits (count + lacks) → next ≡ up_to_64_bits (unsubmitted disks (queue + 1) records)
more_bits disks queue records count lacks before this next is =
    let total = more disks queue records in
    omega (arith, before, this, is, total)
