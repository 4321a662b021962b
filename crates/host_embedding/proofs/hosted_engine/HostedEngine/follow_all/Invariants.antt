-- the records so far led on, and the others are those that are left
use Rattle.std.proofs.Common.{◌≡◌, ◌++◌, map}
use Rattle.host_embedding.specs.Recovering.{FollowsAll}
use Rattle.host_embedding.proofs.hosted_engine.HostedEngine.follow_all.Given as goal

abbrev pub invariant-loop-told : goal.invariant-loop-told
invariant-loop-told l =
    FollowsAll l.fn.self.engine (map (λ told. told.now) l.yielded) l.self.engine × (map (λ told. told.now) l.yielded ++ l.told-iterator ≡ l.fn.records.items)
