use Rattle.std.proofs.Common.{◌≡◌, false, refl, rules}
use Rattle.host_live.proofs.Growing.{as_none}
use Rattle.host_live.proofs.host.Host.advance.Goals as goal

pub returns-then-not-is_out-clause-grown : goal.returns-then-not-is_out-clause-grown
returns-then-not-is_out-clause-grown g c = let out : c.is_out.result ≡ false = search (rules, c.if-not-is_out.true) in as_none _ _ _ (refl, c.is_out.ensures.none out)
