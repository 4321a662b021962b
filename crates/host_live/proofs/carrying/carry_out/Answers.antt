use Rattle.std.proofs.Common.{refl}
use Rattle.host_live.proofs.Growing.{as_none, as_these, has_as}
use Rattle.host_live.proofs.Metering.{has_none}
use Rattle.host_live.proofs.carrying.carry_out.Goals as goal

pub returns-in-Line-clause-carried : goal.returns-in-Line-clause-carried
returns-in-Line-clause-carried g c = λ line it. rw c.in-Line.is (let now = rw c.in-Line.is at it in c.carry_line.ensures.carried line now.0 now.1)

pub returns-in-Cut-clause-carried : goal.returns-in-Cut-clause-carried
returns-in-Cut-clause-carried g c = λ line it. rw c.in-Cut.is (c.carry_cut.ensures.carried)

pub returns-in-Nothing-clause-carried : goal.returns-in-Nothing-clause-carried
returns-in-Nothing-clause-carried g c = λ line it. rw c.in-Nothing.is (as_none _ _ _ refl)

pub returns-in-Due-clause-carried : goal.returns-in-Due-clause-carried
returns-in-Due-clause-carried g c = λ line it. rw c.in-Due.is (let now = rw c.in-Due.is at c.requires.due in as_these _ _ _ _ _ _ (λ more made. (now, made)) c.carry_reading.ensures.carried)

pub returns-in-End-clause-carried : goal.returns-in-End-clause-carried
returns-in-End-clause-carried g c = λ line it. rw c.in-End.is (as_none _ _ _ refl)

pub returns-in-Failed-clause-carried : goal.returns-in-Failed-clause-carried
returns-in-Failed-clause-carried g c = λ line it. rw c.in-Failed.is (as_none _ _ _ refl)

pub returns-in-Cut-clause-counted : goal.returns-in-Cut-clause-counted
returns-in-Cut-clause-counted g c = has_as _ _ _ _ _ _ c.carry_cut.ensures.carried

pub returns-in-Nothing-clause-counted : goal.returns-in-Nothing-clause-counted
returns-in-Nothing-clause-counted g c = has_none _ _

pub returns-in-Due-clause-counted : goal.returns-in-Due-clause-counted
returns-in-Due-clause-counted g c = has_as _ _ _ _ _ _ c.carry_reading.ensures.carried

pub returns-in-End-clause-counted : goal.returns-in-End-clause-counted
returns-in-End-clause-counted g c = has_none _ _

pub returns-in-Failed-clause-counted : goal.returns-in-Failed-clause-counted
returns-in-Failed-clause-counted g c = has_none _ _
