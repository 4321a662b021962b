-- Two shifts, and for 32 bits the low half.
use Rattle.std.proofs.Common.{ap, sym, ◌∙◌}
use Rattle.bpf_words.specs.Words.{low, sign_extended}
use Rattle.std.specs.Int.{w32}
use Rattle.scalar_domain.proofs.Moved.{moved_has}
use Rattle.scalar_domain.proofs.Extending.{extension_of_8, extension_of_16, half_extension_of_8, half_extension_of_16}
use Rattle.scalar_domain.proofs.single_operand.extend.Goals as goal

pub returns-in-From8To32 : goal.returns-in-From8To32
returns-in-From8To32 c = λ w h.
    moved_has _ _ _ (ap (λ e. sign_extended e w) c.in-From8To32.is ∙ half_extension_of_8 w ∙ ap (low w32) (sym (extension_of_8 w))) (c.low_half.ensures _ (c.extended.ensures w h))

pub returns-in-From16To32 : goal.returns-in-From16To32
returns-in-From16To32 c = λ w h.
    moved_has _ _ _ (ap (λ e. sign_extended e w) c.in-From16To32.is ∙ half_extension_of_16 w ∙ ap (low w32) (sym (extension_of_16 w))) (c.low_half-in-From16To32.ensures _ (c.extended-in-From16To32.ensures w h))
