-- At the end of an inbox and of the sharing of an engine: what was put was taken and recorded, or is left.
use Rattle.std.proofs.Common.{◌≡◌, ℕ, suc, ◌+◌, ◌<◌, ◌≤◌, ◌==◌, if◌then◌else◌, Bool, true, false, List, [], ◌∷◌, ◌++◌, map, length, drop, All, refl, ap, sym, subst, ◌∙◌, arith, append-nil, append_assoc, length-append}
use Rattle.std.specs.Prelude.{slice_index_or}
use Rattle.std.specs.List.Sorted.{IsPermutation}
use Rattle.std.proofs.lemmas.List.{length-map}
use Rattle.std.proofs.lemmas.List.Sorted.{IsPermutation-append_left}
use Rattle.std.proofs.lemmas.List.Elements.{All-head, All-push, All-tail}
use Rattle.world_calls.specs.declared.record.Record.{Record}
use Rattle.ccb.specs.Completion.{Outcome}
use Rattle.inbox.specs.declared.account.Account.{Account}
use Rattle.inbox.specs.declared.account.Entry.{Entry}
use Rattle.inbox.specs.InboxLists.{Agrees as AgreesWith, InboxLists, Settles, by_pass, completions}
use Rattle.inbox.specs.Views.{InboxView, IsOf, PassView}
use Rattle.monitor.specs.declared.knowledge.Pair.{Pair}
use Rattle.monitor.specs.LegalHistory.{made_by, records}
use Rattle.monitor.specs.Telling.{Agrees, CallerState}
use Rattle.world.specs.World.{Setup}
use Rattle.engine_core.specs.EngineState.{EngineState}
use Rattle.engine_lock.specs.Sharing.{Closes}
use Rattle.workers.specs.Recorded.{completion_in, completions_of}
use Rattle.workers.specs.Serving.{SeatState}
use Rattle.host_scenario.specs.Served.{HasRecorded, HasTaken, InboxIsKept, from, recorded_by}
use Rattle.host_scenario.proofs.Ranges.{Within, by_range, pass_all, range_all, second_all}

abbrev pub caller_of : SeatState → CallerState
caller_of seat = seat.caller

abbrev pub pass_of : SeatState → PassView
pass_of seat = seat.pass

abbrev pub account_of : PassView → Account
account_of pass = pass.account

abbrev number_of : SeatState → ℕ
number_of seat = seat.caller.number

-- ---- seats that are taken apart, one by one

first_seat : (seats : List SeatState) (seat : SeatState) → 0 < length seats → seat ≡ slice_index_or seats 0 seat → seats ≡ seat ∷ drop 1 seats
first_seat [] seat some is = absurd (omega (arith, some))
first_seat (first ∷ rest) seat some is = ap (λ (x : SeatState). x ∷ rest) (sym is)

pub moves_one : {X : Type 0} (f : SeatState → X) (xs now all : List X) (seats rest : List SeatState) (seat : SeatState) (x : X) → xs ++ map f seats ≡ all → 0 < length seats → seat ≡ slice_index_or seats 0 seat → rest ≡ drop 1 seats → x ≡ f seat → now ≡ xs ++ x ∷ [] → now ++ map f rest ≡ all
moves_one {X} f xs now all seats rest seat x so_far some is rest_is same now_is =
    (λ i. now_is i ++ map f (rest_is i))
    ∙ (append_assoc xs (x ∷ []) (map f (drop 1 seats))
    ∙ (ap (λ (y : X). xs ++ y ∷ map f (drop 1 seats)) same
    ∙ (ap (λ (ss : List SeatState). xs ++ map f ss) (sym (first_seat seats seat some is)) ∙ so_far)))

pub moved_all : {X : Type 0} (f : SeatState → X) (xs all : List X) (seats : List SeatState) → xs ++ map f seats ≡ all → length seats ≡ 0 → xs ≡ all
moved_all f xs all [] so_far none = sym (append-nil xs) ∙ so_far
moved_all f xs all (seat ∷ seats) so_far none = absurd (omega (arith, none))

pub pass_moves : (inbox : InboxView) (takes now : List PassView) (seats : List SeatState) (seat : SeatState) (pass : PassView) → All (IsOf inbox) takes → All (λ (it : SeatState). IsOf inbox it.pass) seats → 0 < length seats → seat ≡ slice_index_or seats 0 seat → pass ≡ seat.pass → now ≡ takes ++ pass ∷ [] → All (IsOf inbox) now
pass_moves inbox takes now seats seat pass are rest some is same now_is =
    subst (λ (ps : List PassView). All (IsOf inbox) ps) (sym now_is)
    (All-push (IsOf inbox) takes pass are (subst (IsOf inbox) (sym same) (subst (λ (it : SeatState). IsOf inbox it.pass) (sym is) (rest 0 seat some))))

within_puts : (shape_puts : ℕ) → shape_puts ≡ 1 → (es : List Entry) → All (λ (e : Entry). e.pass < shape_puts) es → All (Within 0 1) es
within_puts puts one es all i e lt = (omega arith, omega (arith, one, all i e lt))

within_takes : (puts takes workers : ℕ) → puts ≡ 1 → takes ≡ workers + 1 → (es : List Entry) → All (λ (e : Entry). (puts ≤ e.pass) × (e.pass < puts + takes)) es → All (Within 1 (1 + (workers + 1))) es
within_takes puts takes workers one all_takes es all i e lt = (omega (arith, one, (all i e lt).0), omega (arith, one, all_takes, (all i e lt).1))

module _ (lists : InboxLists) (history : List Pair) where
  -- what each seat's caller recorded is what its pass took
  by_seats : (n : ℕ) (seats : List SeatState) → All (Agrees history) (map caller_of seats) → All (AgreesWith lists) (map account_of (map pass_of seats)) → map (λ (seat : SeatState). seat.pass.account.number) seats ≡ from n (length seats) → All HasRecorded seats
      → recorded_by (map number_of seats) history ≡ by_range lists.taken n (length seats)
  by_seats n [] callers passes numbers recorded = refl
  by_seats n (seat ∷ seats) callers passes numbers recorded =
      let caller = All-head (Agrees history) seat.caller (map caller_of seats) callers in
      let pass = All-head (AgreesWith lists) seat.pass.account (map account_of (map pass_of seats)) passes in
      let here : completions_of (made_by seat.caller.number history) ≡ by_pass n lists.taken =
      ap completions_of caller.own ∙ (All-head HasRecorded seat seats recorded ∙ (sym pass.own_taken ∙ ap (λ (k : ℕ). by_pass k lists.taken) (first_number seat.pass.account.number n (map (λ (it : SeatState). it.pass.account.number) seats) (from (n + 1) (length seats)) numbers))) in
      (λ i. here i ++ by_seats (n + 1) seats
      (All-tail (Agrees history) seat.caller (map caller_of seats) callers)
      (All-tail (AgreesWith lists) seat.pass.account (map account_of (map pass_of seats)) passes)
      (other_numbers seat.pass.account.number n (map (λ (it : SeatState). it.pass.account.number) seats) (from (n + 1) (length seats)) numbers)
      (All-tail HasRecorded seat seats recorded) i)
    where
      first_number : (a b : ℕ) (xs ys : List ℕ) → a ∷ xs ≡ b ∷ ys → a ≡ b
      first_number a b xs ys e = cc

      other_numbers : (a b : ℕ) (xs ys : List ℕ) → a ∷ xs ≡ b ∷ ys → xs ≡ ys
      other_numbers a b xs ys e = cc

module _ (setup : Setup) (begun : List Record) (inbox : InboxView) (put take : PassView) (seats : List SeatState) (host : CallerState) (callers : List CallerState) (puts takes : List PassView) (left : List Outcome) (engine : EngineState) (told : List Record)
    (kept : InboxIsKept inbox put take seats) (callers_are : callers ≡ host ∷ map caller_of seats) (puts_are : puts ≡ put ∷ []) (takes_are : takes ≡ take ∷ map pass_of seats)
    (settles : Settles inbox.shape (map account_of (puts ++ takes)) left) (closes : Closes setup begun callers engine) (all : told ≡ engine.history) where
  abbrev history : List Pair
  history = closes.history

  abbrev entries : List Entry
  entries = settles.lists.taken

  passes_agree : All (AgreesWith settles.lists) (put.account ∷ take.account ∷ map account_of (map pass_of seats))
  passes_agree = subst (λ (those : List Account). All (AgreesWith settles.lists) those) (λ i. map account_of (puts_are i ++ takes_are i)) settles.agree

  take_agrees : All (AgreesWith settles.lists) (take.account ∷ map account_of (map pass_of seats))
  take_agrees = All-tail (AgreesWith settles.lists) put.account (take.account ∷ map account_of (map pass_of seats)) passes_agree

  callers_agree : All (Agrees history) (map caller_of seats)
  callers_agree = All-tail (Agrees history) host (map caller_of seats) (subst (λ (cs : List CallerState). All (Agrees history) cs) callers_are closes.agree)

  -- all that was put, that pass put
  put_all : completions settles.lists.put ≡ put.account.put
  put_all =
      sym (pass_all settles.lists.put 0 (within_puts inbox.shape.puts kept.one_put settles.lists.put settles.are_lists.putters))
      ∙ (ap (λ (k : ℕ). by_pass k settles.lists.put) (sym kept.put_is)
      ∙ (All-head (AgreesWith settles.lists) put.account (take.account ∷ map account_of (map pass_of seats)) passes_agree).own_put)

  -- the host took nothing
  took_none : by_pass 1 entries ≡ []
  took_none =
      ap (λ (k : ℕ). by_pass k entries) (sym kept.take_is)
      ∙ ((All-head (AgreesWith settles.lists) take.account (map account_of (map pass_of seats)) take_agrees).own_taken ∙ kept.took_none)

  within : All (Within 1 (1 + (length seats + 1))) entries
  within = within_takes inbox.shape.puts inbox.shape.takes (length seats) kept.one_put kept.all_takes entries settles.are_lists.takers

  by_callers : recorded_by (map number_of seats) history ≡ by_range entries 2 (length seats)
  by_callers = by_seats settles.lists history 2 seats callers_agree (All-tail (AgreesWith settles.lists) take.account (map account_of (map pass_of seats)) take_agrees) kept.numbers kept.recorded

  in_order : put.account.put ≡ completions entries ++ left
  in_order = sym put_all ∙ (settles.are_lists.in_order ∙ ap (λ (xs : List Outcome). completions entries ++ xs) settles.left_is)

  taken_all : IsPermutation (recorded_by (map number_of seats) history) (completions entries)
  taken_all =
      subst (λ (xs : List Outcome). IsPermutation xs (completions entries))
      (range_from entries (length seats) ∙ sym by_callers)
      (range_all entries 1 (length seats + 1) within)
    where
      range_more : (es : List Entry) (n k : ℕ) → n ≡ suc k → by_range es 1 n ≡ by_pass 1 es ++ by_range es 2 k
      range_more es n k is = ap (by_range es 1) is

      range_from : (es : List Entry) (k : ℕ) → by_range entries 1 (k + 1) ≡ by_range entries 2 k
      range_from es k = range_more entries (k + 1) k (omega arith) ∙ ap (λ (xs : List Outcome). xs ++ by_range entries 2 k) took_none

  one_alone : (k : ℕ) → k ≡ 1 → All (Within 1 (1 + (k + 1))) entries → by_range entries 2 k ≡ completions entries
  one_alone k one inside =
      ap (by_range entries 2) one
      ∙ (append-nil (by_pass 2 entries) ∙ second_all entries 1 (subst (λ (n : ℕ). All (Within 1 (1 + (n + 1))) entries) one inside) took_none)

  pub has_taken : HasTaken (length seats) put.account.put left told
  has_taken = record {
    history = history;
    its = closes.its ∙ sym all;
    callers = map number_of seats;
    many = length-map seats number_of;
    moved = subst (IsPermutation (recorded_by (map number_of seats) history ++ left)) (sym in_order) (IsPermutation-append_left left (recorded_by (map number_of seats) history) (completions entries) taken_all);
    alone = λ one. ap (λ (xs : List Outcome). xs ++ left) (by_callers ∙ one_alone (length seats) one within) ∙ sym in_order;
  }

-- ---- one caller's completions are all of a history, if there are no more

record NoMore (mine all : List Outcome) : Type 0 where
  few : length mine ≤ length all
  same : length all ≡ length mine → all ≡ mine

more_of : (own : Bool) (made : Record) (rest : List Record) (xs all : List Outcome) → NoMore (completions_of rest) all → xs ≡ completion_in made → NoMore (completions_of (if own then made ∷ rest else rest)) (xs ++ all)
more_of true made rest xs all no_more is = record {
  few = omega (arith, no_more.few, ap length is, length-append xs all, length-append (completion_in made) (completions_of rest));
  same = λ e. (λ i. is i ++ no_more.same (omega (arith, e, ap length is, length-append xs all, length-append (completion_in made) (completions_of rest))) i);
}
more_of false made rest [] all no_more is = no_more
more_of false made rest (x ∷ xs) all no_more is = record {
  few = omega (arith, no_more.few, length-append (x ∷ xs) all);
  same = λ e. absurd (omega (arith, e, no_more.few, length-append xs all));
}

no_more_of : (caller : ℕ) (history : List Pair) → NoMore (completions_of (made_by caller history)) (completions_of (records history))
no_more_of caller [] = record { few = omega arith; same = λ e. refl }
no_more_of caller (p ∷ ps) = more_of (p.caller == caller) p.made (made_by caller ps) (completion_in p.made) (completions_of (records ps)) (no_more_of caller ps) refl

by_one : (callers : List ℕ) (history : List Pair) (told : List Record) (left put : List Outcome) → length callers ≡ 1 → records history ≡ told → recorded_by callers history ++ left ≡ put → length (completions_of told) + length left ≡ length put → completions_of told ++ left ≡ put
by_one [] history told left put one its alone many = absurd (omega (arith, one))
by_one (caller ∷ other ∷ rest) history told left put one its alone many = absurd (omega (arith, one))
by_one (caller ∷ []) history told left put one its alone many =
    let mine = completions_of (made_by caller history) in
    let so : mine ++ left ≡ put = ap (λ (xs : List Outcome). xs ++ left) (sym (append-nil mine)) ∙ alone in
    let same : completions_of (records history) ≡ mine =
    (no_more_of caller history).same (omega (arith, ap (λ (rs : List Record). length (completions_of rs)) its, many, ap length so, length-append mine left)) in
    ap (λ (xs : List Outcome). xs ++ left) (ap completions_of (sym its) ∙ same) ∙ so

pub in_their_order : (workers : ℕ) (put left : List Outcome) (told : List Record) → HasTaken workers put left told → length (completions_of told) + length left ≡ length put → workers ≡ 1 → completions_of told ++ left ≡ put
in_their_order workers put left told taken many one = by_one taken.callers taken.history told left put (taken.many ∙ one) taken.its (taken.alone one) many
