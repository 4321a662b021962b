-- How much there is at most at a time, and the last number that is given.
use Rattle.std.specs.Prelude.{ℕ, ◌^◌}
use Rattle.bpf_semantics.specs.declared.bounds.TheConstants.{MAX_HELD}
use Rattle.freeze_ledger.specs.declared.ledger.TheConstants.{MAX_FREEZES, MAX_FREEZE_NUMBER, MAX_PLACE_FREEZES}
use Rattle.bpf_stack_frame.specs.declared.frames.TheConstants.{MAX_FRAMES}

abbrev pub most_queues : ℕ
most_queues = 64

abbrev pub most_controllers : ℕ
most_controllers = 8

-- of a queue
abbrev pub most_openings : ℕ
most_openings = 255

-- tables of words, and the words of one
abbrev pub most_tables : ℕ
most_tables = 16

abbrev pub most_words : ℕ
most_words = 4096

-- live CCBs, in all and of one queue
abbrev pub most_ccbs : ℕ
most_ccbs = 4096

abbrev pub most_ccbs_of_queue : ℕ
most_ccbs_of_queue = 256

-- live runs
abbrev pub most_runs : ℕ
most_runs = 256

-- of a run: instructions, helper calls and the exit included, frames, and freezes that it holds
abbrev pub most_instructions : ℕ
most_instructions = 65536

abbrev pub most_frames : ℕ
most_frames = MAX_FRAMES

abbrev pub most_held : ℕ
most_held = MAX_HELD

-- freezes, in all and of one place
abbrev pub most_freezes : ℕ
most_freezes = MAX_FREEZES

abbrev pub most_freezes_of_place : ℕ
most_freezes_of_place = MAX_PLACE_FREEZES

-- of CCBs, freezes and runs
abbrev pub last_number : ℕ
last_number = MAX_FREEZE_NUMBER

-- of the clock, in milliseconds
abbrev pub last_reading : ℕ
last_reading = 2 ^ 62
