use Rattle.std.proofs.Common.{ℕ, ◌/◌, ◌%◌, Bool, false, List, ap, sym, ◌∙◌}
use Rattle.std.specs.Prelude.{◌==◌, slice_index, slice_index_or}
use Rattle.std.proofs.lemmas.Nat.Bits.{shr_and_one}
use Rattle.bpf_stack_frame.proofs.Words.{get_or-set_of}
use Rattle.bpf_stack_frame.proofs.byte_set.ByteSet.contains.Goals as goal

pub returns : goal.returns
returns c =
    ap (λ (n : ℕ). n == 1) (shr_and_one (slice_index c.self.inside.words (c.args.offset / 64)) (c.args.offset % 64))
    ∙ sym (get_or-set_of c.self.inside.words c.args.offset c.requires)
    ∙ ap (λ (bytes : List Bool). slice_index_or bytes c.args.offset false) c.self.view_is
