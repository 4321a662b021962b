-- What was decided, in words.
use Rattle.std.specs.Prelude.{◌≡◌, ◌++◌, ◌==◌, if◌then◌else◌, ℕ, List, [], ◌∷◌, Option, Some, None, codes, encode_utf8}
use Rattle.std.specs.Fmt.{decimal}
use Rattle.std.specs.List.{flat_map}
use Rattle.ccb.specs.Places.{kind_word, number_of}
use Rattle.cli_text_page.specs.Page.{byte_digits, printable}
use Rattle.world_calls.specs.declared.record.Record.{Record}
use Rattle.world_calls.specs.declared.record.Record.TheVariants.{Called, Advance}
use Rattle.world_calls.specs.declared.record.StoppedAt.{StoppedAt}
use Rattle.world_calls.specs.declared.record.StoppedAt.TheVariants as stops
use Rattle.show_account.specs.Names.{IsCodeText, advice_text}
use Rattle.host_decision.specs.declared.decision.Decision.{Decision}
use Rattle.host_decision.specs.declared.decision.End.{End}
use Rattle.host_decision.specs.declared.decision.End.TheVariants.{Requeued, Finished, Kept}
use Rattle.host_decision.specs.declared.decision.LeftFreeze.{LeftFreeze}

-- what became of the CCB, which had so many retries
abbrev pub IsEndText : End → ℕ → List ℕ → Type 0
IsEndText (Requeued now) retries text = text ≡ codes "requeued, retries " ++ decimal retries ++ (codes ", then " ++ decimal now)
IsEndText (Finished code) retries text = (named : List ℕ) × IsCodeText code named × (text ≡ codes "finished, " ++ named)
IsEndText Kept retries text = text ≡ codes "left in recovery"

-- what is advised for its next start, if anything is
abbrev pub advised_text : ℕ → List ℕ
advised_text word = if word == 0 then [] else codes ", advised " ++ advice_text word

-- and of the freeze that was taken for the failure
abbrev pub own_text : Option ℕ → List ℕ
own_text None = codes "; its freeze is given back"
own_text (Some milliseconds) = codes "; its freeze is left to a timer for " ++ decimal milliseconds ++ codes " ms"

-- another freeze that is left
abbrev pub other_text : LeftFreeze → List ℕ
other_text it =
    codes "; a freeze of " ++ (kind_word it.place ++ (codes " " ++ decimal (number_of it.place) ++ (codes " is left to a timer for " ++ decimal it.milliseconds ++ codes " ms")))

-- bytes that were traced, as digits and as text
abbrev pub character : ℕ → List ℕ
character byte = encode_utf8 (printable byte)

abbrev pub bytes_text : List ℕ → List ℕ
bytes_text bytes = codes "; traced " ++ (flat_map byte_digits bytes ++ (32 ∷ 34 ∷ [] ++ (flat_map character bytes ++ 34 ∷ [])))

abbrev pub stop_text : StoppedAt → List ℕ
stop_text (stops.Helper helper) = []
stop_text (stops.Trace helper bytes) = bytes_text bytes
stop_text (stops.Finish helper code) = []
stop_text stops.Exit = []

abbrev pub traced_text : Record → List ℕ
traced_text (Called answer call) = []
traced_text (Advance run instructions stop r0) = stop_text stop

-- all that was decided
abbrev pub rest_text : Decision → List Record → List ℕ
rest_text decision records = own_text decision.freeze ++ (flat_map other_text decision.others.items ++ flat_map traced_text records)

-- what stands after what became of the CCB
abbrev pub last_text : Decision → List Record → List ℕ
last_text decision records = advised_text decision.advice ++ rest_text decision records

abbrev pub IsDecisionText : Decision → ℕ → List Record → List ℕ → Type 0
IsDecisionText decision retries records text =
    (end : List ℕ) × IsEndText decision.end retries end × (text ≡ end ++ last_text decision records)

-- how many instructions the run executed, of how many that it may
abbrev pub instructions_text : (instructions budget : ℕ) → List ℕ
instructions_text instructions budget = codes "; " ++ decimal instructions ++ (codes " of " ++ decimal budget ++ (codes " instructions" ++ 10 ∷ []))
