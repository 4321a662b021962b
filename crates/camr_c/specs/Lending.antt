-- A slot whose value is lent.
use Rattle.std.specs.Prelude.{Some}
use base.Fml.{Fml}
use denote.Ref.{MutBor}
use denote.Follow.{follows}
use Rattle.host_embedding.specs.declared.hosted_engine.HostedEngine.{HostedEngine}
use Rattle.host_embedding.specs.contracts.hosted_engine.HostedEngine.{the_row as engine_row}
use Rattle.host_embedding.specs.declared.run_handle.RunHandle.{RunHandle}
use Rattle.host_embedding.specs.contracts.run_handle.RunHandle.{the_row as run_row}
use Rattle.camr_c.specs.declared.engine_slot.EngineSlot.{EngineSlot}
use Rattle.camr_c.specs.contracts.engine_slot.EngineSlot.{the_row as engine_slot_row}
use Rattle.camr_c.specs.declared.run_slot.RunSlot.{RunSlot}
use Rattle.camr_c.specs.contracts.run_slot.RunSlot.{the_row as run_slot_row}

-- the slot with that value in it
abbrev pub with_engine : EngineSlot → HostedEngine → EngineSlot
with_engine slot x = record { at = slot.at; held = Some x }

abbrev pub with_run : RunSlot → RunHandle → RunSlot
with_run slot x = record { at = slot.at; held = Some x }

-- once the borrow of the value ends, the slot holds what was last written through it
abbrev pub lends_engine : MutBor EngineSlot → MutBor HostedEngine → Fml
lends_engine slot r = follows engine_slot_row engine_row slot.ghost_name r.ghost_name (with_engine slot.now)

abbrev pub lends_run : MutBor RunSlot → MutBor RunHandle → Fml
lends_run slot r = follows run_slot_row run_row slot.ghost_name r.ghost_name (with_run slot.now)
