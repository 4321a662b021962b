use Rattle.engine_core.proofs.Performing.{refuses_withdrawal, withdraws_ccb}
use Rattle.engine_core.proofs.ccb_events.withdraw.Goals as goal

pub returns-in-Err-clause-performs : goal.returns-in-Err-clause-performs
returns-in-Err-clause-performs c runs = rw c.refused.ensures
    (refuses_withdrawal c.args.setting.now c.args.transport.now runs c.args.ccb c.in-Err.refusal c.in-Err.ensures.refused)

pub withdraw-requires : goal.withdraw-requires
withdraw-requires c = c.in-Ok.ensures.may.1

pub returns-in-Ok-clause-performs : goal.returns-in-Ok-clause-performs
returns-in-Ok-clause-performs c runs =
    withdraws_ccb c.args.setting.now c.args.ccb c.args.transport.now c.withdraw.new.self runs c.in-Ok.ensures.may c.withdraw.ensures
