-- Worked rows of helpers 6, 7, 8, 11 and 12: words that runs share, the clock that is told, and openings that a run sets.
use Rattle.std.proofs.Common.{◌≡◌, ℕ, ◌^◌, ◌<◌, pos, true, false, List, [], ◌∷◌, Some, None, refl, ap, arith, slice_index, slice_index_or}
use Rattle.std.specs.Prelude.{All}
use Rattle.std.proofs.lemmas.List.Elements.{All-nil, All-cons}
use Rattle.bpf_insn.specs.declared.insn.Insn.TheVariants.{Call}
use Rattle.bpf_insn.specs.declared.insn.Callee.TheVariants.{Helper}
use Rattle.bpf_insn.specs.declared.program.Slot.TheVariants.{First}
use Rattle.bpf_semantics.specs.MachineState.{unwritten_frame}
use Rattle.helpers.specs.declared.limits.HelperSet.TheVariants.{Classes, Controllers}
use Rattle.helpers.specs.declared.table.Helper.{Helper as HelperName}
use Rattle.helpers.specs.declared.table.Helper.TheVariants as helpers
use Rattle.helpers.specs.Table.{of_queues, row_of}
use Rattle.ccb.specs.declared.call_refusal.CallRefusal.TheVariants.{NoOpening, NothingWaits}
use Rattle.world.specs.declared.ccb_state.CcbState.TheVariants.{Waiting, Active, InRecovery}
use Rattle.world.specs.World.{Setup, LiveRun, World, opening}
use Rattle.world.specs.Lawful.{AreFirst}
use Rattle.world.specs.Told.{plain}
use Rattle.world.specs.Event.{call, Event, executes, result, refused}
use Rattle.world_laws.proofs.Rows.Words.{dispatch, clock_reads, ccb_given}
use Rattle.world.specs.Step.{step}
use Rattle.world_laws.proofs.Rows.Worked.{answer, ccb_in, next, running, transported, two_queues, with_freezes}

abbrev IsWord : ℕ → Type 0
IsWord word = word < 2 ^ 64

-- two queues, a table of two words and one of three
abbrev setup : Setup
setup = two_queues (of_queues 2 (2 ∷ 3 ∷ []))

-- at the opening all words are 0
all_zero : (opening setup).runs.tables ≡ (0 ∷ 0 ∷ []) ∷ (0 ∷ 0 ∷ 0 ∷ []) ∷ []
all_zero = refl

-- or as the setup says
abbrev with_words : Setup
with_words = record setup { limits = record (of_queues 2 (2 ∷ 3 ∷ [])) { helpers = Classes }; tables = (5 ∷ 6 ∷ []) ∷ (7 ∷ 8 ∷ 9 ∷ []) ∷ [] }

first_words : (opening with_words).runs.tables ≡ (5 ∷ 6 ∷ []) ∷ (7 ∷ 8 ∷ 9 ∷ []) ∷ []
first_words = refl

-- which is lawful if CCBs have a class, and not else
first_lawful : AreFirst with_words
first_lawful = record {
  lengths = refl;
  words =
      All-cons (All IsWord) (5 ∷ 6 ∷ []) ((7 ∷ 8 ∷ 9 ∷ []) ∷ [])
      (All-cons IsWord 5 (6 ∷ []) (omega arith) (All-cons IsWord 6 [] (omega arith) (All-nil IsWord)))
      (All-cons (All IsWord) (7 ∷ 8 ∷ 9 ∷ []) []
      (All-cons IsWord 7 (8 ∷ 9 ∷ []) (omega arith) (All-cons IsWord 8 (9 ∷ []) (omega arith) (All-cons IsWord 9 [] (omega arith) (All-nil IsWord))))
      (All-nil (All IsWord)));
  zero = λ none. absurd (let bad : true ≡ false = none in cc);
}

first_unlawful : AreFirst (record with_words { limits = record (of_queues 2 (2 ∷ 3 ∷ [])) { helpers = Controllers } }) → ⊥
first_unlawful first =
    let bad : 5 ≡ 0 = ap (λ (tables : List (List ℕ)). slice_index (slice_index_or tables 0 []) 0) (first.zero refl) in
    omega (arith, bad)

-- the run of queue 0 stands at a call of this helper with these arguments
abbrev run_at : ℕ → ℕ → ℕ → ℕ → ℕ → LiveRun
run_at number helper first second third = record {
  number = number;
  ccb = 1;
  queue = 0;
  controller = 0;
  program = First (Call (Helper (pos helper))) ∷ [];
  machine = record {
    pc = 0;
    registers = None ∷ Some first ∷ Some second ∷ Some third ∷ None ∷ None ∷ None ∷ None ∷ None ∷ None ∷ None ∷ [];
    frames = unwritten_frame ∷ [];
    open_calls = [];
    context = [];
    held = [];
    disposed = false;
  };
  out = true;
}

-- these runs are live, with these tables, and the clock is at 1000
abbrev with_runs : List LiveRun → List (List ℕ) → World
with_runs runs tables = (transported (λ t. record t { live = ccb_in 1 5 InRecovery ∷ []; openings = 2 ∷ 2 ∷ []; greatest_ccb = 1; clock = 1000 }) (running (λ r. record r { list = runs; tables = tables; greatest = 2 }) (with_freezes [] 0)))

abbrev asks : ℕ → HelperName → Event
asks run helper = executes run (call (plain helper))

-- A word that one run writes another reads, and the writer is told the old one.

abbrev before_put : World
before_put = with_runs (run_at 1 7 1 2 77 ∷ run_at 2 6 1 2 0 ∷ []) ((5 ∷ 6 ∷ []) ∷ (7 ∷ 8 ∷ 9 ∷ []) ∷ [])

old_word : answer setup before_put (asks 1 helpers.TablePut) ≡ Some (result 9)
unfolding row_of
old_word = refl

one_word : (next setup before_put (asks 1 helpers.TablePut)).runs.tables ≡ (5 ∷ 6 ∷ []) ∷ (7 ∷ 8 ∷ 77 ∷ []) ∷ []
unfolding row_of
one_word = refl

read_before : answer setup before_put (asks 2 helpers.TableGet) ≡ Some (result 9)
unfolding row_of
read_before = refl

read_after : answer setup (next setup before_put (asks 1 helpers.TablePut)) (asks 2 helpers.TableGet) ≡ Some (result 77)
unfolding row_of
read_after = refl

-- a word that nobody wrote is as at the opening
abbrev as_opened : World
as_opened = (running (λ r. record r { list = run_at 1 6 1 2 0 ∷ []; greatest = 1 }) (opening with_words))

read_at_first : answer with_words as_opened (asks 1 helpers.TableGet) ≡ Some (result 9)
unfolding row_of
read_at_first = refl

reading_leaves_it : (next setup before_put (asks 2 helpers.TableGet)).runs.tables ≡ before_put.runs.tables
unfolding row_of
reading_leaves_it = refl

-- A word that grows is told as it is then, modulo 2^64.

abbrev before_add : World
before_add = with_runs (run_at 1 8 0 1 2 ∷ []) ((5 ∷ 18446744073709551615 ∷ []) ∷ (7 ∷ 8 ∷ 9 ∷ []) ∷ [])

it_wraps : answer setup before_add (asks 1 helpers.TableAdd) ≡ Some (result 1)
unfolding row_of
it_wraps = refl

wrapped : (next setup before_add (asks 1 helpers.TableAdd)).runs.tables ≡ (5 ∷ 1 ∷ []) ∷ (7 ∷ 8 ∷ 9 ∷ []) ∷ []
unfolding row_of
wrapped = refl

it_grows : answer setup (with_runs (run_at 1 8 1 0 3 ∷ []) before_add.runs.tables) (asks 1 helpers.TableAdd) ≡ Some (result 10)
unfolding row_of
it_grows = refl

-- there is no table 2, and no third word of the first
no_table : step setup (with_runs (run_at 1 6 2 0 0 ∷ []) before_add.runs.tables) (asks 1 helpers.TableGet) ≡ None
unfolding row_of
no_table = refl

no_word : step setup (with_runs (run_at 1 7 0 2 0 ∷ []) before_add.runs.tables) (asks 1 helpers.TablePut) ≡ None
unfolding row_of
no_word = refl

-- The clock is told as it read last.

clock_told : answer setup (with_runs (run_at 1 11 0 0 0 ∷ []) []) (asks 1 helpers.Now) ≡ Some (result 1000)
unfolding row_of
clock_told = refl

after_a_reading : answer setup (next setup (with_runs (run_at 1 11 0 0 0 ∷ []) []) (clock_reads 1500)) (asks 1 helpers.Now) ≡ Some (result 1500)
unfolding row_of
after_a_reading = refl

-- A run sets the openings of its own queue, and is told how many there were.

abbrev two_active : World
two_active = (transported (λ t. record t { live = ccb_in 1 5 InRecovery ∷ ccb_in 2 5 Active ∷ ccb_in 3 5 Active ∷ ccb_in 4 5 Waiting ∷ []; openings = 3 ∷ 2 ∷ []; greatest_ccb = 4 }) (with_runs (run_at 1 12 1 0 0 ∷ []) []))

old_openings : answer setup two_active (asks 1 helpers.SetOpenings) ≡ Some (result 3)
unfolding row_of
old_openings = refl

its_own_queue : (next setup two_active (asks 1 helpers.SetOpenings)).transport.openings ≡ 1 ∷ 2 ∷ []
unfolding row_of
its_own_queue = refl

-- below the active ones they stop the next start, and nothing else: what is active stays so
one_more_starts : answer setup two_active (dispatch 0) ≡ Some (ccb_given 4)
one_more_starts = refl

no_start : answer setup (next setup two_active (asks 1 helpers.SetOpenings)) (dispatch 0) ≡ Some (refused NoOpening)
unfolding row_of
no_start = refl

all_stay : (next setup two_active (asks 1 helpers.SetOpenings)).transport.live ≡ two_active.transport.live
unfolding row_of
all_stay = refl

-- another queue has its own
other_queue : answer setup (next setup two_active (asks 1 helpers.SetOpenings)) (dispatch 1) ≡ Some (refused NothingWaits)
unfolding row_of
other_queue = refl

-- 1 to 255 are openings
most : (next setup (with_runs (run_at 1 12 255 0 0 ∷ []) []) (asks 1 helpers.SetOpenings)).transport.openings ≡ 255 ∷ 2 ∷ []
unfolding row_of
most = refl

too_many : step setup (with_runs (run_at 1 12 256 0 0 ∷ []) []) (asks 1 helpers.SetOpenings) ≡ None
unfolding row_of
too_many = refl

not_none : step setup (with_runs (run_at 1 12 0 0 0 ∷ []) []) (asks 1 helpers.SetOpenings) ≡ None
unfolding row_of
not_none = refl
