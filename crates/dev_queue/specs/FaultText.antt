-- How a fault is printed: by its code.
use Rattle.std.specs.Prelude.{ℕ, List, codes}
use Rattle.ccb.specs.CallRefusalText.{call_refusal_text}
use Rattle.dev_queue.specs.declared.queue_fault.QueueFault.{QueueFault}
use Rattle.dev_queue.specs.declared.queue_fault.QueueFault.TheVariants.{Full, Refused}

abbrev pub fault_text : QueueFault → List ℕ
fault_text Full = codes "Q1"
fault_text (Refused refusal) = call_refusal_text refusal
