use Rattle.std.proofs.Common.{refl}
use Rattle.trace.proofs.Grown.{goes_out, goes_taken}
use Rattle.trace.proofs.Printing.{cut_there}
use Rattle.trace.proofs.page.flush.Goals as goal

pub returns-in-Err-clause-text : goal.returns-in-Err-clause-text
returns-in-Err-clause-text g c =
    let taken = rw c.as_slice.ensures.bytes at c.in-Err.ensures.handed in
    cut_there c.args.page.now _ _ _ _ c.in-Err.taken _ taken.0 refl taken.1 taken.2

pub returns-in-Ok-clause-left : goal.returns-in-Ok-clause-left
returns-in-Ok-clause-left g c = rw c.clear.ensures (goes_out c.args.page.now.text _ _ (rw c.as_slice.ensures.bytes at c.in-Ok.ensures.handed).0)

pub returns-in-Err-clause-left : goal.returns-in-Err-clause-left
returns-in-Err-clause-left g c =
    let taken = rw c.as_slice.ensures.bytes at c.in-Err.ensures.handed in
    rw c.drop_front.ensures (goes_taken c.args.page.now.text c.in-Err.taken _ _ taken.1)
