use Rattle.std.proofs.Common.{Some, None, codes}
use Rattle.std.proofs.lemmas.Result.{IfOk-weaker}
use Rattle.std.proofs.lemmas.Str.Pattern.{split_text_parts}
use Rattle.trace_lines.specs.Written.{Reads}
use Rattle.trace.specs.Reading.{ReadsAnswered}
use Rattle.trace.specs.TraceText.{line_of}
use Rattle.trace.proofs.Entries.{unanswered, unasked, answered}
use Rattle.trace.proofs.entry.read_any.Goals as goal

pub returns-in_default : goal.returns-in_default
returns-in_default c = unanswered c.args.line.now (split_text_parts (codes " = ") c.args.line.now None c.in_default.ensures.cases)

pub returns-in_default-read_line : goal.returns-in_default-read_line
returns-in_default-read_line c =
    unasked c.args.line.now c.in-Some.asked.now c.in-Some.told.now (split_text_parts (codes " = ") c.args.line.now (Some (c.in-Some.asked, c.in-Some.told)) c.in-Some.ensures.cases) c.in_default-read_line.ensures

pub returns : goal.returns
returns c =
    let whole = split_text_parts (codes " = ") c.args.line.now (Some (c.in-Some.asked, c.in-Some.told)) c.in-Some.ensures.cases in
    let reads = c.in-Some-read_line.ensures in
    IfOk-weaker c.read_answered.result (ReadsAnswered c.in-Some-read_line.word c.in-Some-read_line.held c.in-Some.told.now) (Reads line_of c.args.line.now)
    (λ read its. answered c.args.line.now c.in-Some.asked.now c.in-Some.told.now whole c.in-Some-read_line.word c.in-Some-read_line.held reads read its)
    (c.read_answered.ensures c.in-Some.asked.now reads.said)
