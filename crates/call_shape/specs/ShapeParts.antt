-- What a shape keeps beside its program.
use Rattle.std.specs.Prelude.{ℕ, ◌≤◌, List}
use Rattle.bpf_insn.specs.declared.program.Slot.{Slot}
use Rattle.bpf_insn.specs.Program.{IsProgram}
use Rattle.call_shape.specs.Shape.{IsLawful}
use Rattle.call_shape.specs.StaticPath.{IsFrames}
use Rattle.call_shape.specs.Walk.{IsOrderOf}
use Rattle.call_shape.specs.WrittenOut.{IsWrittenOut}
use Rattle.bpf_stack_frame.specs.declared.frames.TheConstants.{MAX_FRAMES}
use Rattle.call_shape.specs.declared.lawful_shape.TheConstants.{MAX_WRITTEN_OUT}
use Rattle.call_shape.specs.declared.postorder.Postorder.{Postorder}

pub record AreParts (program : List Slot) (order : Postorder) (frames written_out : ℕ) : Type 0 where
  pub program_is : IsProgram program
  pub lawful : IsLawful program
  pub ordered : IsOrderOf program order
  pub deepest : IsFrames program frames
  pub shallow : frames ≤ MAX_FRAMES
  pub counted : IsWrittenOut program 0 written_out
  pub short : written_out ≤ MAX_WRITTEN_OUT
