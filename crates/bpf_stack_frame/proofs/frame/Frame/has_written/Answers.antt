use Rattle.std.proofs.Common.{ℕ, Bool, List, Option, is_some, take, drop, ap, sym, ◌∙◌}
use Rattle.std.specs.Cmp.{both_ways}
use Rattle.bpf_stack_frame.specs.Frame.{all_written}
use Rattle.bpf_stack_frame.proofs.FrameLists.{all_written_from, has_all_from}
use Rattle.bpf_stack_frame.proofs.frame.Frame.has_written.Goals as goal

pub returns : goal.returns
returns c =
    let bytes = c.self.inside.bytes in
    let written = c.self.inside.written in
    let offset = c.args.offset in
    let count = c.args.count in
    let told : List (Option ℕ) → Bool = λ frame. is_some (all_written (take count (drop offset frame))) in
    both_ways c.contains_all.result (told c.args.self.now)
    (λ yes. ap told (sym c.self.view_is) ∙ all_written_from bytes written offset count c.self.invariant c.requires (c.contains_all.ensures.0 yes))
    (λ yes. c.contains_all.ensures.1 (has_all_from bytes written offset count c.self.invariant c.requires (ap told c.self.view_is ∙ yes)))
