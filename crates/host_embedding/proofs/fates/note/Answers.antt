use Rattle.std.proofs.Common.{◌∙◌, ap, drop, refl}
use Rattle.host_embedding.specs.Fates.{course_over, fate_of}
use Rattle.host_embedding.specs.declared.fates.Fate.{Fate}
use Rattle.host_embedding.proofs.fates.note.Goals as goal

pub returns : goal.returns
returns c = record {
  course = c.course_since-course.result;
  course_is = c.course_since-course.ensures ∙ ap (λ (f : Fate). course_over c.args.run (record { kept = f; told = f }) (drop c.args.was c.args.engine.now.history)) (c.fate_of-before.ensures ∙ ap (fate_of c.args.run) c.as_slice.ensures.value);
  told_is = refl;
  put = c.put.ensures;
}
