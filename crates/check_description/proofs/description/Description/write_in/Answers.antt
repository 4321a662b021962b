use Rattle.std.proofs.Common.{◌≡◌, ◌<◌, ◌≤◌, ◌+◌, ℕ, [], length, arith, subst}
use Rattle.std.specs.Prelude.{slice_index_or}
use Rattle.stack_domain.specs.Stack.{MarksCover as CoversFrames}
use Rattle.stack_domain.specs.Stores.{stored}
use Rattle.stack_domain.proofs.Stores.{covers_stored}
use Rattle.check_description.proofs.Spilled.{still_spilled}
use Rattle.check_description.proofs.Writing.{are_written}
use Rattle.check_description.proofs.description.Description.write_in.Goals as goal

pub returns-then-offsets-clause-writes : goal.returns-then-offsets-clause-writes
returns-then-offsets-clause-writes c = λ numbers callers m address bytes is lies count each.
    let d = c.args.self.now in
    let there : c.args.frame < length m.frames = omega (arith, c.requires.live, is.frames.depth) in
    let offset : c.from-offset.result ≡ lies.0 = omega (arith, c.from-offset.ensures, c.if-offsets.true, lies.2, lies.3) in
    let inside : lies.0 + length bytes ≤ length (slice_index_or m.frames c.args.frame []) = omega (arith, is.frames.whole c.args.frame there, count, lies.3, c.requires.inside) in
    are_written numbers callers d m c.mark.new.self c.overwrite.new.self c.overwrite-2.new.self c.args.frame lies.0 address bytes is there lies.1 (omega (arith, count, lies.3, c.requires.inside)) each
    (subst (λ (n : ℕ). CoversFrames c.mark.new.self (stored m.frames c.args.frame n bytes)) offset
    (subst (λ (k : ℕ). CoversFrames c.mark.new.self (stored m.frames k c.from-offset.result bytes)) c.from.ensures
    (c.mark.ensures.stored m.frames bytes is.frames (omega (arith, count, c.from-then-offsets.ensures)))))
    (still_spilled numbers d.spills c.overwrite.new.self m.frames c.overwrite.ensures.fewer c.args.frame lies.0 c.args.offsets.least (c.args.offsets.most + c.args.bytes) bytes c.overwrite.ensures.ended there inside lies.2 (omega (arith, count, lies.3)) is.spills)
    (c.overwrite-2.ensures.stored m.frames lies.0 bytes is.standing inside lies.2 (omega (arith, count, lies.3)))

pub returns-else-offsets-clause-writes : goal.returns-else-offsets-clause-writes
returns-else-offsets-clause-writes c = λ numbers callers m address bytes is lies count each.
    let d = c.args.self.now in
    let there : c.args.frame < length m.frames = omega (arith, c.requires.live, is.frames.depth) in
    let inside : lies.0 + length bytes ≤ length (slice_index_or m.frames c.args.frame []) = omega (arith, is.frames.whole c.args.frame there, count, lies.3, c.requires.inside) in
    are_written numbers callers d m d.stack c.overwrite.new.self c.overwrite-2.new.self c.args.frame lies.0 address bytes is there lies.1 (omega (arith, count, lies.3, c.requires.inside)) each
    (covers_stored d.stack m.frames is.frames c.args.frame lies.0 bytes there (omega (arith, count, lies.3, c.requires.inside)))
    (still_spilled numbers d.spills c.overwrite.new.self m.frames c.overwrite.ensures.fewer c.args.frame lies.0 c.args.offsets.least (c.args.offsets.most + c.args.bytes) bytes c.overwrite.ensures.ended there inside lies.2 (omega (arith, count, lies.3)) is.spills)
    (c.overwrite-2.ensures.stored m.frames lies.0 bytes is.standing inside lies.2 (omega (arith, count, lies.3)))
