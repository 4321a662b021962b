-- The refusal by which the transport tells a fault of a device queue.
use Rattle.dev_queue.specs.declared.queue_fault.QueueFault.{QueueFault}
use Rattle.dev_queue.specs.declared.queue_fault.QueueFault.TheVariants.{Full, Refused}
use Rattle.ccb.specs.declared.call_refusal.CallRefusal.{CallRefusal}
use Rattle.ccb.specs.declared.call_refusal.CallRefusal.TheVariants as refusal

abbrev pub refusal_of : QueueFault → CallRefusal
refusal_of Full = refusal.Limit
refusal_of (Refused its) = its
