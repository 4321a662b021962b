-- The lines after the first line of a version are counted from the second, and so the whole text is read.
use Rattle.std.proofs.Common.{◌≡◌, ◌++◌, Some, ◌∙◌, ℕ, List, Result, Ok, Err, sym, ap, subst, arith}
use Rattle.std.specs.Fmt.{option_append}
use Rattle.base.specs.declared.or_memory.OrMemory.{OrMemory}
use Rattle.base.specs.declared.or_memory.OrMemory.TheVariants.{OutOfMemory, Fault}
use Rattle.world_calls.specs.declared.trace.Trace.{Trace}
use Rattle.world_calls.specs.declared.trace.Version.{Version}
use Rattle.trace.specs.declared.fault.TraceFault.{TraceFault}
use Rattle.trace.specs.declared.fault.TraceFault.TheVariants.{Header, Line}
use Rattle.trace.specs.Reading.{IsFaultyLine, IsFaultyFrom, Says, SaysLines}
use Rattle.trace.specs.TraceText.{header, lines_text}

pub counted : (version : Version) (text : List ℕ) (number : ℕ) → IsFaultyFrom version text 2 number → IsFaultyLine version text number
counted version text number it = subst (λ (n : ℕ). IsFaultyLine version text n) (omega (arith, it.counted)) it.is

pub whole : (version : Version) (text rest : List ℕ) (read : Result Trace (OrMemory TraceFault)) → text ≡ header version ++ rest → SaysLines version rest 2 read → Says text read
whole version text rest (Ok trace) is said =
    ap (λ (v : Version). option_append (Some (header v)) (lines_text v trace.records.items trace.totals)) said.0
    ∙ ap (option_append (Some (header version))) said.1
    ∙ ap Some (sym is)
whole version text rest (Err OutOfMemory) is said = tt
whole version text rest (Err (Fault Header)) is said = absurd said
whole version text rest (Err (Fault (Line number))) is said = (version, rest, is, counted version rest number said)
