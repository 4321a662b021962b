use Rattle.std.proofs.Common.{arith}
use Rattle.host_embedding.proofs.Courses.{put_last, put_nothing}
use Rattle.host_embedding.proofs.fates.put.Goals as goal

pub push_reserved-requires : goal.push_reserved-requires
push_reserved-requires c = omega (arith, c.take_out.ensures.few, c.take_out.ensures.capacity, c.requires)

pub push_reserved-requires-in-Finished : goal.push_reserved-requires-in-Finished
push_reserved-requires-in-Finished c = omega (arith, c.take_out.ensures.few, c.take_out.ensures.capacity, c.requires)

pub returns-in-Kept : goal.returns-in-Kept
returns-in-Kept c = put_nothing c.args.run c.args.fate c.args.fates.now.items c.take_out.new.fates.items c.in-Kept.is c.take_out.ensures.items

pub returns-in-Requeued : goal.returns-in-Requeued
returns-in-Requeued c = put_last c.args.run c.args.fate c.args.fates.now.items c.take_out.new.fates.items c.push_reserved.new.self.items c.take_out.ensures.items c.push_reserved.ensures.items

pub returns-in-Finished : goal.returns-in-Finished
returns-in-Finished c = put_last c.args.run c.args.fate c.args.fates.now.items c.take_out.new.fates.items c.push_reserved-in-Finished.new.self.items c.take_out.ensures.items c.push_reserved-in-Finished.ensures.items
