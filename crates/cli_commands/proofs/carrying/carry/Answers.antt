use Rattle.std.proofs.Common.{◌≡◌, ◌∙◌, ℕ, List, [], ◌∷◌, ◌++◌, Some, Vec, ap, false, inl, inr, length, sym, subst, true}
use Rattle.std.specs.Prelude.{IsUtf8, codes, slice_get}
use Rattle.std.specs.Global.{Global}
use Rattle.world_calls.specs.declared.trace.Trace.{Trace}
use Rattle.world_calls.specs.declared.trace.Version.{Version}
use Rattle.cli_line.specs.Files.{input_paths}
use Rattle.cli_line.specs.declared.plans.Plan.{Plan}
use Rattle.manifest.specs.Migration.{IsMigrated}
use Rattle.cli_commands.specs.Refusals.{refused_count}
use Rattle.cli_commands.specs.Told.{IsAccepted, IsAcceptedTrace, IsAsAsked, IsAssembled, IsDisassembled, IsFailed, IsFailedRun, IsFaulty, IsFaultyManifest, IsFaultyMigration, IsFaultyProgram, IsFaultyText, IsIdleUnder, IsManifest, IsMigratable, IsOfManifest, IsOfScenarioText, IsOutput, IsPrinted, IsProgram, IsPutOut, IsRejected, IsRejectedScenario, IsRejectedTrace, IsScenario, IsText, IsTraceUnder, PutsOut, is_strict}
use Rattle.cli_commands.proofs.Telling.{of_both, of_first, one_of_two, over_manifest}
use Rattle.cli_commands.proofs.carrying.carry.Goals as goal

pub returns-in-Asm-clause-done : goal.returns-in-Asm-clause-done
returns-in-Asm-clause-done g c = λ is.
    subst (λ (plan : Plan). (input : Vec ℕ Global) → slice_get c.args.inputs.now 0 ≡ Some input → IsAsAsked plan input.items) (sym c.in-Asm.is)
    (of_first (λ (bytes : List ℕ). IsText bytes) c.args.inputs.now c.index-inputs-0.is c.as_slice.ensures.value (c.print_assembled.ensures.done is))

pub returns-in-Asm-clause-refused : goal.returns-in-Asm-clause-refused
returns-in-Asm-clause-refused g c = λ is.
    subst (λ (plan : Plan). (input : Vec ℕ Global) → slice_get c.args.inputs.now 0 ≡ Some input → IsFaulty plan input.items) (sym c.in-Asm.is)
    (of_first (λ (bytes : List ℕ). IsFaultyText bytes) c.args.inputs.now c.index-inputs-0.is c.as_slice.ensures.value (c.print_assembled.ensures.refused is))

pub returns-in-Asm-clause-output : goal.returns-in-Asm-clause-output
returns-in-Asm-clause-output g c = λ is.
    subst (λ (plan : Plan). (input : Vec ℕ Global) → slice_get c.args.inputs.now 0 ≡ Some input → IsOutput plan input.items (g.W.Write.contents c.args.out.now) (g.W.Write.contents c.print_assembled.new.out)) (sym c.in-Asm.is)
    (of_first (λ (bytes : List ℕ). PutsOut (IsAssembled bytes) (g.W.Write.contents c.args.out.now) (g.W.Write.contents c.print_assembled.new.out)) c.args.inputs.now c.index-inputs-0.is c.as_slice.ensures.value (c.print_assembled.ensures.output is))

pub returns-in-Dis-clause-done : goal.returns-in-Dis-clause-done
returns-in-Dis-clause-done g c = λ is.
    subst (λ (plan : Plan). (input : Vec ℕ Global) → slice_get c.args.inputs.now 0 ≡ Some input → IsAsAsked plan input.items) (sym c.in-Dis.is)
    (of_first (λ (bytes : List ℕ). IsProgram bytes) c.args.inputs.now c.index-inputs-0-in-Dis.is c.as_slice-in-Dis.ensures.value (c.print_disassembled.ensures.done is))

pub returns-in-Dis-clause-refused : goal.returns-in-Dis-clause-refused
returns-in-Dis-clause-refused g c = λ is.
    subst (λ (plan : Plan). (input : Vec ℕ Global) → slice_get c.args.inputs.now 0 ≡ Some input → IsFaulty plan input.items) (sym c.in-Dis.is)
    (of_first (λ (bytes : List ℕ). IsFaultyProgram bytes) c.args.inputs.now c.index-inputs-0-in-Dis.is c.as_slice-in-Dis.ensures.value (c.print_disassembled.ensures.refused is))

pub returns-in-Dis-clause-output : goal.returns-in-Dis-clause-output
returns-in-Dis-clause-output g c = λ is.
    subst (λ (plan : Plan). (input : Vec ℕ Global) → slice_get c.args.inputs.now 0 ≡ Some input → IsOutput plan input.items (g.W.Write.contents c.args.out.now) (g.W.Write.contents c.print_disassembled.new.out)) (sym c.in-Dis.is)
    (of_first (λ (bytes : List ℕ). PutsOut (IsDisassembled bytes) (g.W.Write.contents c.args.out.now) (g.W.Write.contents c.print_disassembled.new.out)) c.args.inputs.now c.index-inputs-0-in-Dis.is c.as_slice-in-Dis.ensures.value (c.print_disassembled.ensures.output is))

pub returns-in-Check-clause-done : goal.returns-in-Check-clause-done
returns-in-Check-clause-done g c = λ is.
    subst (λ (plan : Plan). (input : Vec ℕ Global) → slice_get c.args.inputs.now 0 ≡ Some input → IsAsAsked plan input.items) (sym c.in-Check.is)
    (of_first (λ (bytes : List ℕ). IsManifest bytes) c.args.inputs.now c.index-inputs-0-in-Check.is c.as_slice-in-Check.ensures.value (c.print_checked.ensures.done is))

pub returns-in-Check-clause-refused : goal.returns-in-Check-clause-refused
returns-in-Check-clause-refused g c = λ is.
    subst (λ (plan : Plan). (input : Vec ℕ Global) → slice_get c.args.inputs.now 0 ≡ Some input → IsFaulty plan input.items) (sym c.in-Check.is)
    (of_first (λ (bytes : List ℕ). IsFaultyManifest bytes) c.args.inputs.now c.index-inputs-0-in-Check.is c.as_slice-in-Check.ensures.value (c.print_checked.ensures.refused is))

pub returns-in-Run-clause-done : goal.returns-in-Run-clause-done
returns-in-Run-clause-done g c = λ is.
    subst (λ (plan : Plan). (input : Vec ℕ Global) → slice_get c.args.inputs.now 0 ≡ Some input → IsAsAsked plan input.items) (sym c.in-Run.is)
    (of_first (λ (bytes : List ℕ). IsManifest bytes) c.args.inputs.now c.index-inputs-0-in-Run.is c.as_slice-in-Run.ensures.value (c.print_run.ensures.done is))

pub returns-in-Run-clause-output : goal.returns-in-Run-clause-output
returns-in-Run-clause-output g c = λ is.
    subst (λ (plan : Plan). (input : Vec ℕ Global) → slice_get c.args.inputs.now 0 ≡ Some input → IsOutput plan input.items (g.W.Write.contents c.args.out.now) (g.W.Write.contents c.print_run.new.out)) (sym c.in-Run.is)
    (of_first (λ (bytes : List ℕ). PutsOut (IsTraceUnder bytes) (g.W.Write.contents c.args.out.now) (g.W.Write.contents c.print_run.new.out)) c.args.inputs.now c.index-inputs-0-in-Run.is c.as_slice-in-Run.ensures.value (c.print_run.ensures.output is))

pub returns-in-Live-clause-done : goal.returns-in-Live-clause-done
returns-in-Live-clause-done g c = λ is.
    subst (λ (plan : Plan). (input : Vec ℕ Global) → slice_get c.args.inputs.now 0 ≡ Some input → IsAsAsked plan input.items) (sym c.in-Live.is)
    (of_first (λ (bytes : List ℕ). IsManifest bytes) c.args.inputs.now c.index-inputs-0-in-Live.is c.as_slice-in-Live.ensures.value (c.print_idle.ensures.done is))

pub returns-in-Live-clause-refused : goal.returns-in-Live-clause-refused
returns-in-Live-clause-refused g c = λ is.
    subst (λ (plan : Plan). (input : Vec ℕ Global) → slice_get c.args.inputs.now 0 ≡ Some input → IsFaulty plan input.items) (sym c.in-Live.is)
    (of_first (λ (bytes : List ℕ). IsFaultyManifest bytes) c.args.inputs.now c.index-inputs-0-in-Live.is c.as_slice-in-Live.ensures.value (c.print_idle.ensures.refused is))

pub returns-in-Live-clause-output : goal.returns-in-Live-clause-output
returns-in-Live-clause-output g c = λ is.
    subst (λ (plan : Plan). (input : Vec ℕ Global) → slice_get c.args.inputs.now 0 ≡ Some input → IsOutput plan input.items (g.W.Write.contents c.args.out.now) (g.W.Write.contents c.print_idle.new.out)) (sym c.in-Live.is)
    (of_first (λ (bytes : List ℕ). PutsOut (IsIdleUnder bytes) (g.W.Write.contents c.args.out.now) (g.W.Write.contents c.print_idle.new.out)) c.args.inputs.now c.index-inputs-0-in-Live.is c.as_slice-in-Live.ensures.value (c.print_idle.ensures.output is))

pub returns-in-Replay-clause-done : goal.returns-in-Replay-clause-done
returns-in-Replay-clause-done g c = λ is.
    subst (λ (plan : Plan). (input : Vec ℕ Global) → slice_get c.args.inputs.now 0 ≡ Some input → IsAsAsked plan input.items) (sym c.in-Replay.is)
    (of_first (λ (bytes : List ℕ). IsManifest bytes) c.args.inputs.now c.index-inputs-0-in-Replay.is c.as_slice-in-Replay.ensures.value (over_manifest c.as_slice-in-Replay.result.now c.as_slice-in-Replay-2.result.now (c.print_verdict.ensures.done is)))

pub returns-in-Replay-clause-output : goal.returns-in-Replay-clause-output
returns-in-Replay-clause-output g c = λ is.
    subst (λ (plan : Plan). (input : Vec ℕ Global) → slice_get c.args.inputs.now 0 ≡ Some input → IsOutput plan input.items (g.W.Write.contents c.args.out.now) (g.W.Write.contents c.print_verdict.new.out)) (sym c.in-Replay.is)
    (of_first (λ (bytes : List ℕ). PutsOut (λ output. output ≡ codes "accepted" ++ 10 ∷ []) (g.W.Write.contents c.args.out.now) (g.W.Write.contents c.print_verdict.new.out)) c.args.inputs.now c.index-inputs-0-in-Replay.is c.as_slice-in-Replay.ensures.value (c.print_verdict.ensures.output is))

pub returns-in-Migrate-clause-done : goal.returns-in-Migrate-clause-done
returns-in-Migrate-clause-done g c = λ is.
    subst (λ (plan : Plan). (input : Vec ℕ Global) → slice_get c.args.inputs.now 0 ≡ Some input → IsAsAsked plan input.items) (sym c.in-Migrate.is)
    (subst (λ (version : Version). (input : Vec ℕ Global) → slice_get c.args.inputs.now 0 ≡ Some input → IsMigratable version input.items) c.version_named.ensures
    (of_first (λ (bytes : List ℕ). IsMigratable c.version_named.result bytes) c.args.inputs.now c.index-inputs-0-in-Migrate.is c.as_slice-in-Migrate.ensures.value (c.print_migrated.ensures.done is)))

pub returns-in-Migrate-clause-refused : goal.returns-in-Migrate-clause-refused
returns-in-Migrate-clause-refused g c = λ is.
    subst (λ (plan : Plan). (input : Vec ℕ Global) → slice_get c.args.inputs.now 0 ≡ Some input → IsFaulty plan input.items) (sym c.in-Migrate.is)
    (subst (λ (version : Version). (input : Vec ℕ Global) → slice_get c.args.inputs.now 0 ≡ Some input → IsFaultyMigration version input.items) c.version_named.ensures
    (of_first (λ (bytes : List ℕ). IsFaultyMigration c.version_named.result bytes) c.args.inputs.now c.index-inputs-0-in-Migrate.is c.as_slice-in-Migrate.ensures.value (c.print_migrated.ensures.refused is)))

pub returns-in-Migrate-clause-output : goal.returns-in-Migrate-clause-output
returns-in-Migrate-clause-output g c = λ is.
    subst (λ (plan : Plan). (input : Vec ℕ Global) → slice_get c.args.inputs.now 0 ≡ Some input → IsOutput plan input.items (g.W.Write.contents c.args.out.now) (g.W.Write.contents c.print_migrated.new.out)) (sym c.in-Migrate.is)
    (subst (λ (version : Version). (input : Vec ℕ Global) → slice_get c.args.inputs.now 0 ≡ Some input → PutsOut (IsMigrated version input.items) (g.W.Write.contents c.args.out.now) (g.W.Write.contents c.print_migrated.new.out)) c.version_named.ensures
    (of_first (λ (bytes : List ℕ). PutsOut (IsMigrated c.version_named.result bytes) (g.W.Write.contents c.args.out.now) (g.W.Write.contents c.print_migrated.new.out)) c.args.inputs.now c.index-inputs-0-in-Migrate.is c.as_slice-in-Migrate.ensures.value (c.print_migrated.ensures.output is)))

pub returns-in-Run-clause-no_text : goal.returns-in-Run-clause-no_text
returns-in-Run-clause-no_text g c = λ reads input there not_text.
    let two : length c.args.inputs.now ≡ 2 = c.requires ∙ ap (λ (plan : Plan). length (input_paths plan)) c.in-Run.is in
    elim (one_of_two c.args.inputs.now c.index-inputs-0-in-Run.result c.index-inputs-1.result input two c.index-inputs-0-in-Run.is c.index-inputs-1.is there) [
      | inl first ↦ c.print_run.ensures.manifest (λ text. not_text (subst (λ (bytes : List ℕ). IsUtf8 bytes) (c.as_slice-in-Run.ensures.value ∙ ap (λ (bytes : Vec ℕ Global). bytes.items) first) text))
      | inr second ↦ c.print_run.ensures.scenario (λ text. not_text (subst (λ (bytes : List ℕ). IsUtf8 bytes) (c.as_slice-in-Run-2.ensures.value ∙ ap (λ (bytes : Vec ℕ Global). bytes.items) second) text))
    ]

pub returns-in-Run-clause-accepted : goal.returns-in-Run-clause-accepted
returns-in-Run-clause-accepted g c = λ is first second one other.
    subst (λ (plan : Plan). IsAccepted plan first.items second.items) (sym c.in-Run.is)
    (of_both IsScenario c.args.inputs.now c.index-inputs-0-in-Run.is c.index-inputs-1.is c.as_slice-in-Run.ensures.value c.as_slice-in-Run-2.ensures.value
    (c.print_run.ensures.accepted is) first second one other)

pub returns-in-Run-clause-out : goal.returns-in-Run-clause-out
returns-in-Run-clause-out g c = λ is first second one other.
    let old = g.W.Write.contents c.args.out.now in
    let new = g.W.Write.contents c.print_run.new.out in
    subst (λ (plan : Plan). IsPutOut plan first.items second.items old new) (sym c.in-Run.is)
    (of_both (λ (manifest scenario : List ℕ). (trace : Trace) × IsOfManifest manifest trace × IsOfScenarioText scenario trace × IsPrinted trace old new) c.args.inputs.now c.index-inputs-0-in-Run.is c.index-inputs-1.is c.as_slice-in-Run.ensures.value c.as_slice-in-Run-2.ensures.value
    (c.print_run.ensures.out is) first second one other)

pub returns-in-Run-clause-rejected : goal.returns-in-Run-clause-rejected
returns-in-Run-clause-rejected g c = λ is first second one other.
    subst (λ (plan : Plan). IsRejected plan first.items second.items) (sym c.in-Run.is)
    (of_both IsRejectedScenario c.args.inputs.now c.index-inputs-0-in-Run.is c.index-inputs-1.is c.as_slice-in-Run.ensures.value c.as_slice-in-Run-2.ensures.value
    (c.print_run.ensures.rejected is) first second one other)

pub returns-in-Replay-clause-no_text : goal.returns-in-Replay-clause-no_text
returns-in-Replay-clause-no_text g c = λ reads input there not_text.
    let two : length c.args.inputs.now ≡ 2 = c.requires ∙ ap (λ (plan : Plan). length (input_paths plan)) c.in-Replay.is in
    elim (one_of_two c.args.inputs.now c.index-inputs-0-in-Replay.result c.index-inputs-1-in-Replay.result input two c.index-inputs-0-in-Replay.is c.index-inputs-1-in-Replay.is there) [
      | inl first ↦ c.print_verdict.ensures.manifest (λ text. not_text (subst (λ (bytes : List ℕ). IsUtf8 bytes) (c.as_slice-in-Replay.ensures.value ∙ ap (λ (bytes : Vec ℕ Global). bytes.items) first) text))
      | inr second ↦ c.print_verdict.ensures.trace (λ text. not_text (subst (λ (bytes : List ℕ). IsUtf8 bytes) (c.as_slice-in-Replay-2.ensures.value ∙ ap (λ (bytes : Vec ℕ Global). bytes.items) second) text))
    ]

pub returns-in-Replay-clause-accepted : goal.returns-in-Replay-clause-accepted
returns-in-Replay-clause-accepted g c = λ is first second one other.
    subst (λ (plan : Plan). IsAccepted plan first.items second.items) (sym c.in-Replay.is)
    (of_both IsAcceptedTrace c.args.inputs.now c.index-inputs-0-in-Replay.is c.index-inputs-1-in-Replay.is c.as_slice-in-Replay.ensures.value c.as_slice-in-Replay-2.ensures.value
    (c.print_verdict.ensures.done is) first second one other)

pub returns-in-Replay-clause-rejected : goal.returns-in-Replay-clause-rejected
returns-in-Replay-clause-rejected g c = λ is first second one other.
    subst (λ (plan : Plan). IsRejected plan first.items second.items) (sym c.in-Replay.is)
    (of_both IsRejectedTrace c.args.inputs.now c.index-inputs-0-in-Replay.is c.index-inputs-1-in-Replay.is c.as_slice-in-Replay.ensures.value c.as_slice-in-Replay-2.ensures.value
    (c.print_verdict.ensures.rejected is) first second one other)

pub returns-in-Strict-clause-done : goal.returns-in-Strict-clause-done
returns-in-Strict-clause-done g c = λ is.
    subst (λ (plan : Plan). (input : Vec ℕ Global) → slice_get c.args.inputs.now 0 ≡ Some input → IsAsAsked plan input.items) (sym c.in-Strict.is)
    (of_first (λ (bytes : List ℕ). IsManifest bytes) c.args.inputs.now c.index-inputs-0-in-Strict.is c.as_slice-in-Strict.ensures.value (c.print_strict.ensures.done is))

pub returns-in-Strict-clause-output : goal.returns-in-Strict-clause-output
returns-in-Strict-clause-output g c = λ is.
    subst (λ (plan : Plan). (input : Vec ℕ Global) → slice_get c.args.inputs.now 0 ≡ Some input → IsOutput plan input.items (g.W.Write.contents c.args.out.now) (g.W.Write.contents c.print_strict.new.out)) (sym c.in-Strict.is)
    (of_first (λ (bytes : List ℕ). PutsOut (IsTraceUnder bytes) (g.W.Write.contents c.args.out.now) (g.W.Write.contents c.print_strict.new.out)) c.args.inputs.now c.index-inputs-0-in-Strict.is c.as_slice-in-Strict.ensures.value (c.print_strict.ensures.output is))

pub returns-in-Strict-clause-no_text : goal.returns-in-Strict-clause-no_text
returns-in-Strict-clause-no_text g c = λ reads input there not_text.
    let two : length c.args.inputs.now ≡ 2 = c.requires ∙ ap (λ (plan : Plan). length (input_paths plan)) c.in-Strict.is in
    elim (one_of_two c.args.inputs.now c.index-inputs-0-in-Strict.result c.index-inputs-1-in-Strict.result input two c.index-inputs-0-in-Strict.is c.index-inputs-1-in-Strict.is there) [
      | inl first ↦ c.print_strict.ensures.manifest (λ text. not_text (subst (λ (bytes : List ℕ). IsUtf8 bytes) (c.as_slice-in-Strict.ensures.value ∙ ap (λ (bytes : Vec ℕ Global). bytes.items) first) text))
      | inr second ↦ c.print_strict.ensures.scenario (λ text. not_text (subst (λ (bytes : List ℕ). IsUtf8 bytes) (c.as_slice-in-Strict-2.ensures.value ∙ ap (λ (bytes : Vec ℕ Global). bytes.items) second) text))
    ]

pub returns-in-Strict-clause-accepted : goal.returns-in-Strict-clause-accepted
returns-in-Strict-clause-accepted g c = λ is first second one other.
    subst (λ (plan : Plan). IsAccepted plan first.items second.items) (sym c.in-Strict.is)
    (of_both IsScenario c.args.inputs.now c.index-inputs-0-in-Strict.is c.index-inputs-1-in-Strict.is c.as_slice-in-Strict.ensures.value c.as_slice-in-Strict-2.ensures.value
    (c.print_strict.ensures.accepted is) first second one other)

pub returns-in-Strict-clause-out : goal.returns-in-Strict-clause-out
returns-in-Strict-clause-out g c = λ is first second one other.
    let old = g.W.Write.contents c.args.out.now in
    let new = g.W.Write.contents c.print_strict.new.out in
    subst (λ (plan : Plan). IsPutOut plan first.items second.items old new) (sym c.in-Strict.is)
    (of_both (λ (manifest scenario : List ℕ). (trace : Trace) × IsOfManifest manifest trace × IsOfScenarioText scenario trace × IsPrinted trace old new × (refused_count trace.records.items ≡ 0)) c.args.inputs.now c.index-inputs-0-in-Strict.is c.index-inputs-1-in-Strict.is c.as_slice-in-Strict.ensures.value c.as_slice-in-Strict-2.ensures.value
    (c.print_strict.ensures.out is) first second one other)

pub returns-in-Strict-clause-failed : goal.returns-in-Strict-clause-failed
returns-in-Strict-clause-failed g c = λ is first second one other.
    let old = g.W.Write.contents c.args.out.now in
    let new = g.W.Write.contents c.print_strict.new.out in
    let told-old = g.E.Write.contents c.args.err.now in
    let told-new = g.E.Write.contents c.print_strict.new.err in
    subst (λ (plan : Plan). IsFailedRun plan first.items second.items old new told-old told-new) (sym c.in-Strict.is)
    (of_both (λ (manifest scenario : List ℕ). IsFailed manifest scenario old new told-old told-new) c.args.inputs.now c.index-inputs-0-in-Strict.is c.index-inputs-1-in-Strict.is c.as_slice-in-Strict.ensures.value c.as_slice-in-Strict-2.ensures.value
    (c.print_strict.ensures.failed is) first second one other)

pub returns-in-Strict-clause-nothing : goal.returns-in-Strict-clause-nothing
returns-in-Strict-clause-nothing g c = λ is loose.
    let bad : true ≡ false = sym (ap is_strict c.in-Strict.is) ∙ loose in
    absurd cc
