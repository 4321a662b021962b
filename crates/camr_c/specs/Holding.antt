-- What a slot owns: a block of the heap with a value, or nothing.
use Rattle.std.specs.Prelude.{Option, None, Some}
use base.Fml.{Fml, ftrue}
use mir.Syntax.{Ty}
use denote.RattleType.{RattleType}
use denote.RawPtr.{Ptr}
use Rattle.std.specs.declared.alloc.Global.{Global}
use Rattle.std.specs.contracts.impls.GlobalAllocator.TheImpl.{ghosts}
use Rattle.std_alloc.specs.Box.Ownership.{box_owns}

-- the handle on the heap, of which there is one
abbrev pub heap : Global
heap = record { memory = record { seal = tt } }

-- the right to free a block
abbrev pub chunk : Ty → Ptr → Fml
chunk = ghosts.dealloc_token heap

-- the value at p, and the right to free its block; with no value, nothing
abbrev pub holds : (R : RattleType) → Ptr → Option R.Denot → Fml
holds R p None = ftrue
holds R p (Some x) = box_owns chunk R p x
