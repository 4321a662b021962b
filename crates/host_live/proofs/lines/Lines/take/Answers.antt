use Rattle.std.proofs.Common.{refl}
use Rattle.host_live.proofs.Come.{all_at, found, got, not_found}
use Rattle.host_live.proofs.lines.Lines.take.Goals as goal

pub returns-in-Some-clause-takes : goal.returns-in-Some-clause-takes
returns-in-Some-clause-takes g c = λ base told stands.
    let left = got (g.I.Input.came c.args.input.now) c.bytes-bytes.result.now c.rest_of-rest.result.now c.args.self.now.taken c.bytes-bytes.ensures c.rest_of-rest.ensures in
    (found base c.args.self.now _ told (g.I.Input.came c.args.input.now) c.rest_of-rest.result.now c.in-Some.place c.requires.going c.requires.untold refl refl c.requires.going left c.in-Some.ensures.1 c.in-Some.ensures.2 c.add.ensures stands, refl)

pub returns-in-None-clause-takes : goal.returns-in-None-clause-takes
returns-in-None-clause-takes g c = λ base told stands.
    let left = got (g.I.Input.came c.args.input.now) c.bytes-bytes.result.now c.rest_of-rest.result.now c.args.self.now.taken c.bytes-bytes.ensures c.rest_of-rest.ensures in
    (not_found base c.args.self.now _ told (g.I.Input.came c.args.input.now) c.rest_of-rest.result.now c.requires.going c.requires.untold refl c.requires.untold c.requires.going left c.in-None.ensures c.add-in-None.ensures stands, refl, λ going. c.requires.untold, all_at (g.I.Input.came c.args.input.now) c.rest_of-rest.result.now c.args.self.now.taken left)
