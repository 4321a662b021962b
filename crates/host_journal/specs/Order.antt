-- In which order a segment is appended to and standard output is written: no byte goes out that is not in the segment.
use Rattle.std.specs.Prelude.{◌≡◌, ◌+◌, ℕ, Bool, true, false, Option, Some, None, List, [], ◌∷◌, ◌++◌, ⊤, codes, decimal, length}
use Rattle.host_live.specs.Answering.{Answer}
use Rattle.host_live.specs.LinesCome.{EndsALine}
use Rattle.host_live.specs.declared.reports.LineFault.{LineFault}
use Rattle.host_live.specs.declared.reports.LineFault.TheVariants.{DoesNotFit, Form, Manifest, NotHeld, RunLive}
use Rattle.host_journal.specs.Disks.{Failed, Kept, NotOut, Out, Step, Synced}

-- the code of a line that is not carried out
abbrev pub code_text : LineFault → List ℕ
code_text Form = codes "N1"
code_text NotHeld = codes "N2"
code_text RunLive = codes "N3"
code_text DoesNotFit = codes "N4"
code_text Manifest = codes "manifest"

-- the answer to the line of that number, with its line feed
abbrev pub answer_text : ℕ → Option LineFault → List ℕ
answer_text number None = codes ". " ++ decimal number ++ codes "\n"
answer_text number (Some fault) = codes "! " ++ decimal number ++ codes " " ++ code_text fault ++ codes "\n"

-- The text is that of a trace, with these answers between its lines, in this order. Each stands after so many bytes of the trace as it says,
-- the first ones not counted.
pub data Told (first : List ℕ) : (trace text : List ℕ) (answers : List Answer) → Type 0 where
  nothing : Told first [] [] []
  bytes : (trace text more : List ℕ) (answers : List Answer) → Told first trace text answers → Told first (trace ++ more) (text ++ more) answers
  answer : (trace text : List ℕ) (answers : List Answer) (number : ℕ) (fault : Option LineFault) (behind : ℕ) → Told first trace text answers → EndsALine trace → length trace ≡ length first + behind
      → Told first trace (text ++ answer_text number fault) (answers ++ record { line = number; fault = fault; behind = behind } ∷ [])

-- What is out is a front of a text whose trace is a front of this one.
pub record IsCovered (first trace out : List ℕ) : Type 0 where
  pub front : List ℕ
  pub rest : List ℕ
  pub text : List ℕ
  pub more : List ℕ
  pub answers : List Answer
  pub told : Told first front text answers
  pub traced : trace ≡ front ++ rest
  pub begun : text ≡ out ++ more

-- what of the appended bytes may go out: those that were synced, if the segment is to be synced first
abbrev pub sure : Bool → (kept synced : List ℕ) → List ℕ
sure true kept synced = synced
sure false kept synced = kept

-- the step is that of a write that failed
abbrev pub IsLoss : Step → Type 0
IsLoss (Failed file fault) = ⊤
IsLoss NotOut = ⊤
IsLoss step = ⊥

-- After the first steps these steps appended `kept` to the open segment, of which `synced` is synced, and put `out` on standard output.
-- Whenever they put something there, all that is out was covered by the first line and by what had been appended before, and synced
-- before if that is asked for. If a write failed, that was the last step: after it nothing is appended, synced or put out.
pub data Ordered (is_synced : Bool) (first : List ℕ) (before : List Step) : List Step → (kept synced out : List ℕ) → (is_lost : Bool) → Type 0 where
  begins : Ordered is_synced first before before [] [] [] false
  keeps : (steps : List Step) (kept synced out more : List ℕ) → Ordered is_synced first before steps kept synced out false → Ordered is_synced first before (steps ++ Kept more ∷ []) (kept ++ more) synced out false
  syncs : (steps : List Step) (kept synced out : List ℕ) → Ordered is_synced first before steps kept synced out false → Ordered is_synced first before (steps ++ Synced ∷ []) kept kept out false
  tells : (steps : List Step) (kept synced out more : List ℕ) → Ordered is_synced first before steps kept synced out false → IsCovered first (first ++ sure is_synced kept synced) (out ++ more)
      → Ordered is_synced first before (steps ++ Out more ∷ []) kept synced (out ++ more) false
  loses : (steps : List Step) (kept synced out : List ℕ) (step : Step) → Ordered is_synced first before steps kept synced out false → IsLoss step → Ordered is_synced first before (steps ++ step ∷ []) kept synced out true

-- the steps that are known, after the first ones; none are if the first ones are not
abbrev pub At : Bool → List ℕ → Option (List Step) → Option (List Step) → (kept synced out : List ℕ) → (is_lost : Bool) → Type 0
At is_synced first None now kept synced out is_lost = now ≡ None
At is_synced first (Some before) now kept synced out is_lost = (steps : List Step) × (now ≡ Some steps) × Ordered is_synced first before steps kept synced out is_lost
