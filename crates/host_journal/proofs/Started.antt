-- What led to an engine at a start.
use Rattle.std.proofs.Common.{◌≡◌, ◌∙◌, ℕ, Option, Some, None, Ok, List, [], ◌∷◌, ◌++◌, inl, inr, codes, refl, subst, sym, ap, append_assoc, append-nil}
use Rattle.std.specs.Fmt.{option_append, with_newline}
use Rattle.base.specs.declared.or_memory.OrMemory.{OrMemory}
use Rattle.base.specs.declared.or_memory.OrMemory.TheVariants.{OutOfMemory, Fault}
use Rattle.world_calls.specs.declared.carried_line.CarriedLine.{CarriedLine}
use Rattle.world_calls.specs.declared.trace.Version.{Version}
use Rattle.world_calls.specs.declared.trace.Version.TheVariants.{One, Three, Two}
use Rattle.world.specs.Beginning.{Begins}
use Rattle.world.specs.World.{Setup, version_of}
use Rattle.engine_core.specs.ByNumber.{NumberedState, IsBehind, opened_numbered}
use Rattle.engine_core.proofs.Numbered.{behind_begun}
use Rattle.trace.specs.TraceText.{header}
use Rattle.carried_lines.specs.CarriedText.{carried_text}
use Rattle.carried_lines.specs.FirstLine.{continued_header}
use Rattle.whole_trace.specs.Continued.{carried_texts, items_of}
use Rattle.host_live.specs.Growth.{StandsBehind}
use Rattle.host_live.specs.LinesCome.{EndsALine}
use Rattle.host_recovery.specs.declared.recovering.Recovered.{Recovered}
use Rattle.host_journal.specs.Disks.{AllDone, Step}
use Rattle.host_journal.specs.Journals.{MayStop}
use Rattle.host_journal.specs.Made.{AreRefused, AreUnfit, CannotBegin, IsUnbegun, front_of, or_none}
use Rattle.host_journal.specs.Starts.{Replays}
use Rattle.host_journal.specs.declared.beginning.Begun.{Begun}
use Rattle.host_journal.specs.declared.fault.JournalFault.{JournalFault}
use Rattle.host_journal.specs.declared.fault.JournalFault.TheVariants as faults

pub opened_stands : (setup : Setup) (engine : NumberedState) → Begins setup → engine ≡ opened_numbered setup → StandsBehind 0 engine
opened_stands setup engine begins is = record { records = []; behind = subst (λ (e : NumberedState). IsBehind [] e) (sym is) (behind_begun setup begins); counted = refl }

pub recovered_stands : (setup : Setup) (number : ℕ) (known : Option (List ℕ)) (recovered : Recovered) → Replays setup number known (Ok recovered) → StandsBehind recovered.records recovered.engine
recovered_stands setup number known recovered its = record { records = its.2.records; behind = its.2.behind; counted = its.2.count }

-- ---- what a segment that is made begins with

header_ends : (version : Version) → EndsALine (header version)
header_ends One = inr (codes "camr-trace 1", refl)
header_ends Two = inr (codes "camr-trace 2", refl)
header_ends Three = inr (codes "camr-trace 3", refl)

-- a line's text, and what follows it
then_ends : (first rest : Option (List ℕ)) → EndsALine (or_none rest) → EndsALine (or_none (option_append (with_newline first) rest))
then_ends None rest ends = inl refl
then_ends (Some line) None ends = inl refl
then_ends (Some line) (Some rest) ends = elim ends [
  | inl none ↦ inr (line, ap (λ (r : List ℕ). (line ++ 10 ∷ []) ++ r) none ∙ append-nil (line ++ 10 ∷ []))
  | inr some ↦ inr ((line ++ 10 ∷ []) ++ some.0, ap (λ (r : List ℕ). (line ++ 10 ∷ []) ++ r) some.1 ∙ sym (append_assoc (line ++ 10 ∷ []) some.0 (10 ∷ [])))
]

lines_end : (version : Version) (lines : List CarriedLine) → EndsALine (or_none (carried_texts version lines))
unfolding carried_texts
lines_end version [] = inl refl
lines_end version (line ∷ lines) = then_ends (carried_text version line) (carried_texts version lines) (lines_end version lines)

after_header : (version : Version) (rest : Option (List ℕ)) → EndsALine (or_none rest) → EndsALine (or_none (option_append (Some (continued_header version)) rest))
after_header version None ends = inl refl
after_header One (Some rest) ends = then_ends (Some (codes "camr-trace 1 continued")) (Some rest) ends
after_header Two (Some rest) ends = then_ends (Some (codes "camr-trace 2 continued")) (Some rest) ends
after_header Three (Some rest) ends = then_ends (Some (codes "camr-trace 3 continued")) (Some rest) ends

pub front_ends : (config : Setup) (carried : Option (List CarriedLine)) → EndsALine (or_none (front_of config carried))
front_ends config None = header_ends (version_of config)
front_ends config (Some lines) = after_header (version_of config) (carried_texts (version_of config) lines) (lines_end (version_of config) lines)

-- ---- why nothing begins

pub unbegun_by_lines : (begun : Begun) (error : OrMemory JournalFault) (lines : List CarriedLine) → items_of begun.carried ≡ Some lines → AreUnfit (version_of begun.config) lines error → IsUnbegun begun error
unbegun_by_lines begun OutOfMemory lines is unfit = tt
unbegun_by_lines begun (Fault faults.InternalError) lines is unfit = subst (CannotBegin begun.config) (sym is) (inl unfit)
unbegun_by_lines begun (Fault fault) lines is unfit = absurd unfit

pub unbegun_by_engine : (begun : Begun) (error : OrMemory JournalFault) (lines : List CarriedLine) → items_of begun.carried ≡ Some lines → AreRefused begun.config lines error → IsUnbegun begun error
unbegun_by_engine begun OutOfMemory lines is refused = tt
unbegun_by_engine begun (Fault faults.InternalError) lines is refused = subst (CannotBegin begun.config) (sym is) (inr refused)
unbegun_by_engine begun (Fault fault) lines is refused = absurd refused

-- nothing was done meanwhile
pub unbegun_stops : (begun : Begun) (segment : ℕ) (old : Option (List Step)) (error : OrMemory JournalFault) → AllDone old old → IsUnbegun begun error → MayStop segment old old error
unbegun_stops begun segment old OutOfMemory done unbegun = done
unbegun_stops begun segment old (Fault faults.InternalError) done unbegun = done
unbegun_stops begun segment old (Fault fault) done unbegun = absurd unbegun
