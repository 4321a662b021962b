use Rattle.std.proofs.Common.{Some, None, lit<}
use Rattle.std.proofs.lemmas.Str.Pattern.{find_char}
use Rattle.trace_lines.proofs.Cutting.{cut_at, cut_nowhere}
use Rattle.carried_lines.proofs.Cuts.{cut_of}
use Rattle.carried_lines.proofs.fields.first_word.Goals as goal

pub returns-in-Some : goal.returns-in-Some
returns-in-Some c =
    let at = find_char 32 c.args.text.now (Some c.in-Some.place) c.in-Some.ensures.cases (lit< tt) in
    rw (c.split_at.ensures.front, c.split_at.ensures.back) (cut_of c.args.text.now _ _ (cut_at c.args.text.now c.in-Some.place at.0 at.1 at.2))

pub returns-in-None : goal.returns-in-None
returns-in-None c = cut_of c.args.text.now _ _ (cut_nowhere c.args.text.now (find_char 32 c.args.text.now None c.in-None.ensures.cases (lit< tt)))
