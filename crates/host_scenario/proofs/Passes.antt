-- The passes of a host and of its seats, and what is recorded of what they took.
use Rattle.std.proofs.Common.{◌≡◌, ℕ, zero, suc, ◌+◌, List, [], ◌∷◌, ◌++◌, map, length, drop, All, refl, ap, sym, subst, ◌∙◌, arith}
use Rattle.std.specs.Prelude.{slice_index_or}
use Rattle.std.proofs.lemmas.List.{length-map}
use Rattle.std.proofs.lemmas.List.Elements.{All-nil, All-cons, All-head, All-tail, length_all_zip}
use Rattle.ccb.specs.Completion.{Outcome}
use Rattle.world_calls.specs.declared.record.Record.{Record}
use Rattle.inbox.specs.declared.account.Account.{Account}
use Rattle.inbox.specs.InboxLists.{IsPut}
use Rattle.inbox.specs.Seats.{new_account}
use Rattle.inbox.specs.Views.{InboxView, PassView, new_passes}
use Rattle.world.specs.World.{Setup}
use Rattle.engine_lock.specs.Sharing.{IsNewCaller}
use Rattle.workers.specs.Recorded.{AreRecorded, IsSeatRecorded, completions_of}
use Rattle.workers.specs.Serving.{SeatState}
use Rattle.host_scenario.specs.Served.{HasRecorded, InboxIsKept, from}

-- ---- as they are made

abbrev new_pass : InboxView → ℕ → PassView
new_pass inbox n = record { queue = inbox.queue; account = new_account inbox.shape n }

-- from the first on
abbrev pub rising : InboxView → ℕ → ℕ → List PassView
rising inbox n zero = []
rising inbox n (suc count) = new_pass inbox n ∷ rising inbox (n + 1) count

rising_push : (inbox : InboxView) (n count : ℕ) → rising inbox n (suc count) ≡ rising inbox n count ++ new_pass inbox (n + count) ∷ []
rising_push inbox n zero = ap (λ (k : ℕ). new_pass inbox k ∷ []) (omega arith)
rising_push inbox n (suc count) =
    ap (λ (ps : List PassView). new_pass inbox n ∷ ps)
    (rising_push inbox (n + 1) count ∙ ap (λ (k : ℕ). rising inbox (n + 1) count ++ new_pass inbox k ∷ []) (omega arith))

are_rising : (inbox : InboxView) (n count : ℕ) → new_passes inbox n count ≡ rising inbox n count
are_rising inbox n zero = refl
are_rising inbox n (suc count) = ap (λ (ps : List PassView). ps ++ new_pass inbox (n + count) ∷ []) (are_rising inbox n count) ∙ sym (rising_push inbox n count)

-- the first of them, and the others
pub first_pass : (inbox : InboxView) (n count : ℕ) (passes : List PassView) (pass : PassView) → passes ≡ new_passes inbox n (suc count) → pass ≡ slice_index_or passes 0 pass → pass ≡ new_pass inbox n
first_pass inbox n count passes pass are is = is ∙ ap (λ (ps : List PassView). slice_index_or ps 0 pass) (are ∙ are_rising inbox n (suc count))

pub other_passes : (inbox : InboxView) (n count : ℕ) (passes rest : List PassView) → passes ≡ new_passes inbox n (suc count) → rest ≡ drop 1 passes → rest ≡ rising inbox (n + 1) count
other_passes inbox n count passes rest are is = is ∙ ap (drop 1) (are ∙ are_rising inbox n (suc count))

-- ---- seats with new passes and new callers

abbrev pass_number : SeatState → ℕ
pass_number seat = seat.pass.account.number

numbered : (inbox : InboxView) (n count : ℕ) (seats : List SeatState) → map (λ (seat : SeatState). seat.pass) seats ≡ rising inbox n count → map pass_number seats ≡ from n (length seats)
numbered inbox n count [] are = refl
numbered inbox n zero (seat ∷ seats) are = absurd (omega (arith, ap length are))
numbered inbox n (suc count) (seat ∷ seats) are =
    (λ i. ap first_number are i ∷ numbered inbox (n + 1) count seats (ap (drop 1) are) i)
  where
    first_number : List PassView → ℕ
    first_number [] = n
    first_number (p ∷ ps) = p.account.number

taken_none : (inbox : InboxView) (n count : ℕ) (seats : List SeatState) → map (λ (seat : SeatState). seat.pass) seats ≡ rising inbox n count → All (λ (seat : SeatState). seat.pass.account.taken ≡ []) seats
taken_none inbox n count [] are = All-nil (λ (seat : SeatState). seat.pass.account.taken ≡ [])
taken_none inbox n zero (seat ∷ seats) are = absurd (omega (arith, ap length are))
taken_none inbox n (suc count) (seat ∷ seats) are =
    All-cons (λ (it : SeatState). it.pass.account.taken ≡ []) seat seats (ap first_taken are) (taken_none inbox (n + 1) count seats (ap (drop 1) are))
  where
    first_taken : List PassView → List Outcome
    first_taken [] = []
    first_taken (p ∷ ps) = p.account.taken

new_recorded : (setup : Setup) (begun : List Record) (seats : List SeatState) → All (λ (seat : SeatState). IsNewCaller setup begun seat.caller) seats → All (λ (seat : SeatState). seat.pass.account.taken ≡ []) seats → All HasRecorded seats
new_recorded setup begun [] callers none = All-nil HasRecorded
new_recorded setup begun (seat ∷ seats) callers none =
    All-cons HasRecorded seat seats
    (ap completions_of (All-head (λ (it : SeatState). IsNewCaller setup begun it.caller) seat seats callers).mine
    ∙ sym (All-head (λ (it : SeatState). it.pass.account.taken ≡ []) seat seats none))
    (new_recorded setup begun seats
    (All-tail (λ (it : SeatState). IsNewCaller setup begun it.caller) seat seats callers)
    (All-tail (λ (it : SeatState). it.pass.account.taken ≡ []) seat seats none))

rising_many : (inbox : InboxView) (n count : ℕ) → length (rising inbox n count) ≡ count
rising_many inbox n zero = refl
rising_many inbox n (suc count) = omega (arith, rising_many inbox (n + 1) count)

-- a host's passes, as they are made
pub kept_new : (setup : Setup) (begun : List Record) (inbox : InboxView) (workers : ℕ) (puts takes rest : List PassView) (put take : PassView) (seats : List SeatState)
    → inbox.shape.puts ≡ 1 → inbox.shape.takes ≡ workers + 1 → puts ≡ new_passes inbox 0 1 → takes ≡ new_passes inbox 1 (workers + 1)
    → put ≡ slice_index_or puts 0 put → take ≡ slice_index_or takes 0 take → rest ≡ drop 1 takes → map (λ (seat : SeatState). seat.pass) seats ≡ rest
    → All (λ (seat : SeatState). IsNewCaller setup begun seat.caller) seats → InboxIsKept inbox put take seats
kept_new setup begun inbox workers puts takes rest put take seats one all puts_are takes_are put_is take_is rest_is seats_are callers =
    let more : workers + 1 ≡ suc workers = omega arith in
    let takes_so : takes ≡ new_passes inbox 1 (suc workers) = takes_are ∙ ap (new_passes inbox 1) more in
    let passes : map (λ (seat : SeatState). seat.pass) seats ≡ rising inbox 2 workers = seats_are ∙ other_passes inbox 1 workers takes rest takes_so rest_is in
    let many : length seats ≡ workers = sym (length-map seats (λ (seat : SeatState). seat.pass)) ∙ (ap length passes ∙ rising_many inbox 2 workers) in record {
      one_put = one;
      all_takes = omega (arith, all, many);
      put_is = ap (λ (p : PassView). p.account.number) (first_pass inbox 0 0 puts put puts_are put_is);
      take_is = ap (λ (p : PassView). p.account.number) (first_pass inbox 1 workers takes take takes_so take_is);
      took_none = ap (λ (p : PassView). p.account.taken) (first_pass inbox 1 workers takes take takes_so take_is);
      numbers = numbered inbox 2 workers seats passes;
      recorded = new_recorded setup begun seats callers (taken_none inbox 2 workers seats passes);
    }

pub put_none : (inbox : InboxView) (puts : List PassView) (put : PassView) → puts ≡ new_passes inbox 0 1 → put ≡ slice_index_or puts 0 put → put.account.put ≡ []
put_none inbox puts put are is = ap (λ (p : PassView). p.account.put) (first_pass inbox 0 0 puts put are is)

-- ---- as they serve

same_numbers : (before after : List SeatState) → AreRecorded before after → map pass_number after ≡ map pass_number before
same_numbers [] [] are = refl
same_numbers [] (seat ∷ seats) are = absurd are
same_numbers (seat ∷ seats) [] are = absurd are
same_numbers (seat ∷ seats) (now ∷ rest) are = (λ i. are.0.pass.number i ∷ same_numbers seats rest are.1 i)

still_recorded : (before after : List SeatState) → AreRecorded before after → All HasRecorded before → All HasRecorded after
still_recorded [] [] are all = All-nil HasRecorded
still_recorded [] (seat ∷ seats) are all = absurd are
still_recorded (seat ∷ seats) [] are all = absurd are
still_recorded (seat ∷ seats) (now ∷ rest) are all =
    All-cons HasRecorded now rest
    (are.0.recorded ∙ (ap (λ (xs : List Outcome). xs ++ are.0.taken) (All-head HasRecorded seat seats all) ∙ sym are.0.pass.taken))
    (still_recorded seats rest are.1 (All-tail HasRecorded seat seats all))

pub kept_served : (inbox : InboxView) (put take now : PassView) (before after : List SeatState) → AreRecorded before after → now ≡ take → InboxIsKept inbox put take before → InboxIsKept inbox put now after
kept_served inbox put take now before after are same kept =
    let many : length before ≡ length after = length_all_zip IsSeatRecorded before after are in record {
      one_put = kept.one_put;
      all_takes = omega (arith, kept.all_takes, many);
      put_is = kept.put_is;
      take_is = ap (λ (p : PassView). p.account.number) same ∙ kept.take_is;
      took_none = ap (λ (p : PassView). p.account.taken) same ∙ kept.took_none;
      numbers = same_numbers before after are ∙ (kept.numbers ∙ ap (from 2) many);
      recorded = still_recorded before after are kept.recorded;
    }

pub kept_put : (inbox : InboxView) (put now take : PassView) (seats : List SeatState) (completion : Outcome) → IsPut put.account now.account completion → InboxIsKept inbox put take seats → InboxIsKept inbox now take seats
kept_put inbox put now take seats completion puts kept = record {
  one_put = kept.one_put;
  all_takes = kept.all_takes;
  put_is = ap (λ (a : Account). a.number) puts.after_is ∙ kept.put_is;
  take_is = kept.take_is;
  took_none = kept.took_none;
  numbers = kept.numbers;
  recorded = kept.recorded;
}

pub put_more : (put now : PassView) (completion : Outcome) → IsPut put.account now.account completion → now.account.put ≡ put.account.put ++ completion ∷ []
put_more put now completion puts = ap (λ (a : Account). a.put) puts.after_is

-- the same passes and seats
pub same_kept : (inbox inbox_now : InboxView) (put put_now take take_now : PassView) (seats seats_now : List SeatState) → inbox_now ≡ inbox → put_now ≡ put → take_now ≡ take → seats_now ≡ seats → InboxIsKept inbox put take seats → InboxIsKept inbox_now put_now take_now seats_now
same_kept inbox inbox_now put put_now take take_now seats seats_now one two three four kept =
    subst (λ (x : InboxView). InboxIsKept x put_now take_now seats_now) (sym one)
    (subst (λ (x : PassView). InboxIsKept inbox x take_now seats_now) (sym two)
    (subst (λ (x : PassView). InboxIsKept inbox put x seats_now) (sym three)
    (subst (λ (x : List SeatState). InboxIsKept inbox put take x) (sym four) kept)))
