-- What the greatest depth and the count of a program say of its shape.
use Rattle.std.proofs.Common.{◌≡◌, ℕ, ◌<◌, ◌≤◌, List, arith}
use Rattle.bpf_insn.specs.declared.program.Slot.{Slot}
use Rattle.bpf_insn.specs.Program.{IsProgram}
use Rattle.call_shape.specs.Counts.{IsCapped}
use Rattle.call_shape.specs.Shape.{AreOrdered, AreShallow, IsTooDeep, IsTooLong}
use Rattle.call_shape.specs.ShapeParts.{AreParts}
use Rattle.call_shape.specs.StaticPath.{IsFrames}
use Rattle.call_shape.specs.Walk.{IsOrderOf}
use Rattle.bpf_stack_frame.specs.declared.frames.TheConstants.{MAX_FRAMES}
use Rattle.call_shape.specs.declared.lawful_shape.TheConstants.{MAX_WRITTEN_OUT}
use Rattle.call_shape.specs.declared.postorder.Postorder.{Postorder}

pub too_deep : (program : List Slot) (frames : ℕ) → IsFrames program frames → MAX_FRAMES < frames → IsTooDeep program
too_deep program frames is lt = record { instructions = is.instructions; path = is.path; deep = omega (arith, lt, is.met) }

pub shallow : (program : List Slot) (frames : ℕ) → AreOrdered program → IsFrames program frames → frames ≤ MAX_FRAMES → AreShallow program
shallow program frames calls is le = record { calls = calls; shallow = λ n path. omega (arith, is.deepest n path, le) }

pub too_long : (program : List Slot) (count : ℕ) → IsCapped program 0 count → MAX_WRITTEN_OUT < count → IsTooLong program
too_long program count is lt = record { count = is.whole; written_out = is.written_out; long = omega (arith, lt, is.same) }

-- a count that is not too many is exact
exact : (program : List Slot) (count : ℕ) (is : IsCapped program 0 count) → count ≤ MAX_WRITTEN_OUT → is.whole ≡ count
exact program count is le = omega (arith, le, is.same)

pub lawful_parts : (program : List Slot) (order : Postorder) (frames count : ℕ) → IsProgram program → IsOrderOf program order → AreShallow program → IsFrames program frames → frames ≤ MAX_FRAMES → IsCapped program 0 count → count ≤ MAX_WRITTEN_OUT → AreParts program order frames count
lawful_parts program order frames count is ordered shape deepest few counted short =
    let same : counted.whole ≡ count = exact program count counted short in
    record {
      program_is = is;
      lawful = record { frames = shape; count = counted.whole; written_out = counted.written_out; short = omega (arith, same, short) };
      ordered = ordered;
      deepest = deepest;
      shallow = few;
      counted = rw same at counted.written_out;
      short = short;
    }
