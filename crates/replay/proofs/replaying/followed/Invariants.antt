-- the records so far led to the engine, and the others are those that are left
use Rattle.std.proofs.Common.{◌≡◌, ◌++◌, map, length}
use Rattle.engine_core.specs.ByNumber.{IsBehind}
use Rattle.replay.proofs.replaying.followed.Given as goal

abbrev pub invariant-loop-record : goal.invariant-loop-record
invariant-loop-record g l =
    IsBehind (map (λ told. told.now) l.yielded) l.engine × (l.engine.setup ≡ l.fn.engine.setup) × (l.count ≡ length (map (λ told. told.now) l.yielded))
    × (map (λ told. told.now) l.yielded ++ l.record-iterator ≡ l.fn.records.items)
