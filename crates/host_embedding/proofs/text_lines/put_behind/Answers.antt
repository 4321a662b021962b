use Rattle.std.proofs.Common.{arith, length, ap, ◌+◌, ◌-◌}
use Rattle.std.proofs.lemmas.Slice.{drop-put_mid}
use Rattle.host_embedding.proofs.text_lines.put_behind.Goals as goal

pub returns-clause-behind : goal.returns-clause-behind
returns-clause-behind c =
    let count = c.args.written + length c.args.text.now in
    let same = ap length c.copy_from_slice.ensures.after in
    drop-put_mid c.args.written (count - c.args.written) c.args.place.now c.copy_from_slice.new.self count (omega arith) c.requires (omega (arith, same))
