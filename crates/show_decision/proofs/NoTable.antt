-- Why there is no table.
use Rattle.base.specs.declared.or_memory.OrMemory.{OrMemory}
use Rattle.base.specs.declared.or_memory.OrMemory.TheVariants.{OutOfMemory, Fault}
use Rattle.world.specs.World.{Setup}
use Rattle.show_question.specs.declared.Question.{Question}
use Rattle.host_decision.specs.Faults.{IsRefused}
use Rattle.host_decision.specs.declared.undecided.Undecided.{Undecided}
use Rattle.host_decision.specs.declared.undecided.Undecided.TheVariants.{Queue, Status, Clock, Class, Word, Lines, Sense}
use Rattle.show_decision.specs.Table.{IsUntabled}

pub untabled : (config : Setup) (question : Question) (error : OrMemory Undecided) → IsRefused config question error → IsUntabled config question error
untabled config question OutOfMemory is = tt
untabled config question (Fault Queue) is = is
untabled config question (Fault Status) is = is
untabled config question (Fault Clock) is = is
untabled config question (Fault Class) is = is
untabled config question (Fault (Word place)) is = is
untabled config question (Fault Lines) is = is
untabled config question (Fault Sense) is = absurd is
