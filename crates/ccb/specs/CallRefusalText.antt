-- How a refusal is printed and read: by the code of its row.
use Rattle.std.specs.Prelude.{ℕ, false, Option, List, [], ◌∷◌, bytes_eq, codes, find, slice_index_or}
use Rattle.std.specs.Option.{option_map}
use Rattle.ccb.specs.declared.call_refusal.CallRefusal.{CallRefusal}
use Rattle.ccb.specs.declared.call_refusal.CallRefusal.TheVariants.{Unknown, Limit, NotActive, GoesBack, Frozen, NoOpening, NothingWaits, ControllerFrozen}
use Rattle.ccb.specs.contracts.call_refusal.CallRefusal as refusal
use Rattle.ccb.specs.declared.call_refusal.RefusalRow.{RefusalRow}
use Rattle.ccb.specs.declared.call_refusal.RefusedCalls.{RefusedCalls}
use Rattle.ccb.specs.declared.call_refusal.TheConstants.{REFUSALS}
use denote.Enum.Declared.{tag_of}

-- the calls that no refusal refuses
abbrev pub no_calls : RefusedCalls
no_calls = record { submit = false; dispatch = false; complete = false; withdraw = false; freeze = false; clock = false; resume = false }

-- the row of no refusal
abbrev pub no_row : RefusalRow
no_row = record { refusal = Unknown; letter = 0; digit = 0; number = 0; since = 0; calls = no_calls }

-- the row of a refusal
unfoldable pub row_of : CallRefusal → RefusalRow
row_of name = slice_index_or REFUSALS (tag_of refusal.the_type name) no_row

-- its code
abbrev pub call_refusal_text : CallRefusal → List ℕ
call_refusal_text name = (row_of name).letter ∷ (row_of name).digit ∷ []

-- the refusal of a code
unfoldable pub refusal_coded : List ℕ → Option CallRefusal
refusal_coded text = option_map (λ row. row.refusal) (find (λ row. bytes_eq (call_refusal_text row.refusal) text) REFUSALS)

-- its text for a host: its code, and what stands in the way
abbrev pub refusal_text : CallRefusal → List ℕ
refusal_text Unknown = codes "C1: no such queue, controller, CCB or parked run"
refusal_text Limit = codes "C2: a limit is reached"
refusal_text NotActive = codes "C3: the CCB is not active"
refusal_text GoesBack = codes "C5: the clock would go back"
refusal_text Frozen = codes "Q2: the queue is frozen"
refusal_text NoOpening = codes "Q3: the queue has no opening"
refusal_text NothingWaits = codes "Q4: no CCB of the queue waits"
refusal_text ControllerFrozen = codes "Q5: the queue's controller is frozen"
