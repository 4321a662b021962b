-- What the lists of a world say: which CCB or run has a number, how many CCBs of a queue there are, and which of them
-- starts next.
use Rattle.std.specs.Prelude.{ℕ, Bool, true, false, ◌&&◌, ◌||◌, ◌==◌, nat_lt, nat_le, if◌then◌else◌, List, filter, map, Option, count_by}
use Rattle.std.specs.List.{find, list_all}
use Rattle.world.specs.declared.ccb_state.CcbState.{CcbState}
use Rattle.world.specs.declared.ccb_state.CcbState.TheVariants.{Waiting, Active, InRecovery}
use Rattle.world.specs.World.{LiveCcb, LiveRun}

abbrev pub is_waiting : CcbState → Bool
is_waiting Waiting = true
is_waiting Active = false
is_waiting InRecovery = false

abbrev pub is_active : CcbState → Bool
is_active Waiting = false
is_active Active = true
is_active InRecovery = false

-- the CCB is one of this queue
abbrev pub is_of : ℕ → LiveCcb → Bool
is_of queue live = live.ccb.queue.0 == queue

-- how many CCBs of the queue there are, whatever their state
abbrev pub live_count : ℕ → List LiveCcb → ℕ
live_count queue ccbs = count_by (is_of queue) ccbs

-- how many of them are active
abbrev pub active_count : ℕ → List LiveCcb → ℕ
active_count queue ccbs = count_by (λ live. is_of queue live && is_active live.state) ccbs

-- how many of them wait
abbrev pub waiting_count : ℕ → List LiveCcb → ℕ
waiting_count queue ccbs = count_by (λ live. is_of queue live && is_waiting live.state) ccbs

-- the live CCB of this number
abbrev pub ccb_of : ℕ → List LiveCcb → Option LiveCcb
ccb_of number ccbs = find (λ live. live.ccb.number.0 == number) ccbs

-- with this CCB in the place of the one that has its number
abbrev pub with_ccb : LiveCcb → List LiveCcb → List LiveCcb
with_ccb changed ccbs = map (λ live. if live.ccb.number.0 == changed.ccb.number.0 then changed else live) ccbs

-- the least priority number starts first, and of two with the same priority the least CCB number
abbrev pub starts_before : LiveCcb → LiveCcb → Bool
starts_before first second =
    nat_lt first.ccb.priority second.ccb.priority
    || (first.ccb.priority == second.ccb.priority && nat_le first.ccb.number.0 second.ccb.number.0)

-- the waiting CCB of the queue that starts before all that wait there
abbrev pub next_waiting : ℕ → List LiveCcb → Option LiveCcb
next_waiting queue ccbs =
    let those = filter (λ live. is_of queue live && is_waiting live.state) ccbs in
    find (λ live. list_all (starts_before live) those) those

-- the live run of this number
abbrev pub run_of : ℕ → List LiveRun → Option LiveRun
run_of number runs = find (λ run. run.number == number) runs

-- with this run in the place of the one that has its number
abbrev pub with_run : LiveRun → List LiveRun → List LiveRun
with_run changed runs = map (λ run. if run.number == changed.number then changed else run) runs
