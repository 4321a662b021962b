use Rattle.std.proofs.Common.{ap, refl}
use Rattle.host_recovery.specs.Reads.{ReadingState}
use Rattle.host_recovery.proofs.Standing.{finish_engine, finish_fault}
use Rattle.host_recovery.proofs.reading.Reading.finish.Goals as goal

pub returns-in-Some-clause-says : goal.returns-in-Some-clause-says
returns-in-Some-clause-says c = λ config from done.
    let fault = ap (λ (r : ReadingState). r.fault) c.self.view_is in
    finish_fault config from c.args.is_ended c.args.self c.in-Some.fault (cc (fault, c.in-Some.is)) done

pub returns-clause-says : goal.returns-clause-says
returns-clause-says c = λ config from done.
    let fault = ap (λ (r : ReadingState). r.fault) c.self.view_is in
    finish_engine config from c.args.is_ended c.args.self (record { engine = c.self.inside.engine; carried = c.self.inside.carried; records = c.self.inside.count; whole = c.self.inside.whole; is_ended = c.args.is_ended }) (cc (fault, c.in-None.is)) done
    (cc (ap (λ (r : ReadingState). r.engine) c.self.view_is)) (cc (ap (λ (r : ReadingState). r.carried) c.self.view_is)) (cc (ap (λ (r : ReadingState). r.count) c.self.view_is)) (cc (ap (λ (r : ReadingState). r.whole) c.self.view_is)) refl

pub returns-in-Some-clause-reads : goal.returns-in-Some-clause-reads
returns-in-Some-clause-reads c = λ failed fails same. same

pub returns-clause-reads : goal.returns-clause-reads
returns-clause-reads c = λ failed fails same. same
