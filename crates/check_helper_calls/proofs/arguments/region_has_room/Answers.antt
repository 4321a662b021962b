use Rattle.std.proofs.Common.{◌≡◌, ℕ, true, subst, sym}
use Rattle.bpf_semantics.specs.Frames.{has_room}
use Rattle.check_register_kinds.specs.declared.region.Region.{Region}
use Rattle.check_register_kinds.specs.Kinds.{LiesAt}
use Rattle.check_helper_calls.proofs.Room.{frame_has_room}
use Rattle.check_helper_calls.proofs.Tracing.{some_same}
use Rattle.check_helper_calls.proofs.arguments.region_has_room.Goals as goal

pub returns-in-Frame-clause-room : goal.returns-in-Frame-clause-room
returns-in-Frame-clause-room c = λ fit numbers callers m address is holds.
    let lies = subst (λ (region : Region). LiesAt region c.args.offsets holds.0) c.in-Frame.is holds.2 in
    subst (λ (a : ℕ). has_room 0 m.frames a c.args.bytes ≡ true) (sym (some_same address holds.0 holds.1))
    (frame_has_room numbers callers c.args.description.now m c.in-Frame.frame c.args.offsets holds.0 c.args.bytes is (c.lies_in.ensures.live fit) lies (c.lies_in.ensures.inside fit))
