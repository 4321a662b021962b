-- Worked rows, computed by the definitions themselves. The program is that of the two paths: with a freeze it gives
-- the freeze back first, and without one it jumps to the requeue.
use Rattle.std.proofs.Common.{◌≡◌, ℕ, ℤ, ◌-◌, pos, negsuc, Bool, true, false, List, [], ◌∷◌, ◌++◌, Option, Some, None, refl, replicate}
use Rattle.bpf_insn.specs.declared.insn.Insn.{Insn}
use Rattle.bpf_insn.specs.declared.insn.Insn.TheVariants.{Alu, InPlace, SignExtend, JumpIf, Call, Exit}
use Rattle.bpf_insn.specs.declared.insn.Callee.TheVariants.{Helper, Local}
use Rattle.bpf_insn.specs.declared.insn.Operand.TheVariants.{Immediate, Register}
use Rattle.bpf_insn.specs.declared.insn.Width.TheVariants.{Bits32, Bits64}
use Rattle.bpf_insn.specs.declared.insn.AluOp.TheVariants.{Add, Sub, Mov}
use Rattle.bpf_insn.specs.declared.insn.ByteOrder.TheVariants.{Big}
use Rattle.bpf_insn.specs.declared.insn.WordSize.TheVariants.{Word16}
use Rattle.bpf_insn.specs.declared.insn.InPlaceOp.TheVariants.{Neg, Reorder}
use Rattle.bpf_insn.specs.declared.insn.SignExtension.TheVariants.{From8To64}
use Rattle.bpf_insn.specs.declared.insn.Condition.TheVariants.{Equal, Less, SignedLess}
use Rattle.bpf_insn.specs.declared.reg.Reg.{Reg}
use Rattle.bpf_insn.specs.declared.reg.Reg.TheVariants.{R0, R1, R2, R3, R10}
use Rattle.bpf_insn.specs.declared.program.Slot.{Slot}
use Rattle.bpf_insn.specs.Program.{layout}
use Rattle.helpers.specs.declared.limits.HelperLimits.{HelperLimits}
use Rattle.helpers.specs.declared.table.Helper.{Helper as TheHelper}
use Rattle.helpers.specs.declared.table.Helper.TheVariants as helpers
use Rattle.helpers.specs.declared.request.Answer.{Answer}
use Rattle.helpers.specs.declared.request.Request.{Request}
use Rattle.helpers.specs.Table.{answer_number, asking, of_queues, row_of, telling}
use Rattle.bpf_stack_frame.specs.Frame.{written_at}
use Rattle.bpf_semantics.specs.declared.stop.Stop.TheVariants.{Helper as AtHelper, Exit as AtExit}
use Rattle.bpf_semantics.specs.MachineState.{OpenCall, MachineState, entry, register, unwritten_frame, with_register, moved_to}
use Rattle.bpf_semantics.specs.Calls.{arguments_at, obeys}
use Rattle.bpf_semantics.specs.Step.{private_step, request_at, exit_at, answered}
use Rattle.bpf_semantics.specs.Stops.{stop_at}
use Rattle.bpf_semantics.specs.Stuck.{is_stuck}

abbrev mov : Reg → ℤ → Insn
mov dst value = Alu Bits64 Mov dst (Immediate value)

abbrev copy : Reg → Reg → Insn
copy dst src = Alu Bits64 Mov dst (Register src)

abbrev jeq : Reg → ℤ → ℤ → Insn
jeq dst value offset = JumpIf Bits64 Equal dst (Immediate value) offset

abbrev call : ℤ → Insn
call number = Call (Helper number)

abbrev two_paths : List Slot
two_paths = layout (jeq R2 (pos 0) (pos 2) ∷ copy R1 R2 ∷ call (pos 2) ∷ mov R1 (pos 1) ∷ call (pos 4) ∷ mov R0 (pos 0) ∷ Exit ∷ [])

-- one instruction, at which a machine of place 0 stands
abbrev one : Insn → List Slot
one insn = layout (insn ∷ [])

abbrev zeros : List ℕ
zeros = replicate 96 0

abbrev limits : HelperLimits
limits = of_queues 1 []

-- a run with freeze 7, and one without
abbrev with_freeze : MachineState
with_freeze = entry zeros 7

abbrev without_freeze : MachineState
without_freeze = entry zeros 0

-- a run that has given its freeze back and whose CCB waits again
abbrev done : ℕ → MachineState
done r0 = record (with_register without_freeze R0 r0) { disposed = true }

entry_context : register with_freeze R1 ≡ Some 0x10000000
entry_context = refl

entry_freeze : register with_freeze R2 ≡ Some 7
entry_freeze = refl

entry_frame : register with_freeze R10 ≡ Some 0x20000200
entry_frame = refl

entry_unwritten : register with_freeze R0 ≡ None
entry_unwritten = refl

entry_held : with_freeze.held ≡ 7 ∷ []
entry_held = refl

-- R2 is 0, and there is no freeze 0
entry_no_freeze : register without_freeze R2 ≡ Some 0
entry_no_freeze = refl

entry_none_held : without_freeze.held ≡ []
entry_none_held = refl

-- a constant
mov_constant : private_step (one (mov R3 (pos 5))) with_freeze ≡ Some (moved_to (with_register with_freeze R3 5) 1)
mov_constant = refl

-- -1 is sign-extended to 64 bits
mov_negative : private_step (one (mov R3 (negsuc 0))) with_freeze ≡ Some (moved_to (with_register with_freeze R3 0xffffffffffffffff) 1)
mov_negative = refl

mov_register : private_step (one (copy R3 R2)) with_freeze ≡ Some (moved_to (with_register with_freeze R3 7) 1)
mov_register = refl

-- an operation of two registers, and one of 32 bits, whose result's upper half is 0
add_registers : private_step (one (Alu Bits64 Add R1 (Register R2))) with_freeze ≡ Some (moved_to (with_register with_freeze R1 0x10000007) 1)
add_registers = refl

sub_32 : private_step (one (Alu Bits32 Sub R2 (Immediate (pos 8)))) with_freeze ≡ Some (moved_to (with_register with_freeze R2 0xffffffff) 1)
sub_32 = refl

-- an operation but a move reads its first register
add_to_unwritten : private_step (one (Alu Bits64 Add R3 (Immediate (pos 1)))) with_freeze ≡ None
add_to_unwritten = refl

add_to_unwritten_stuck : is_stuck (one (Alu Bits64 Add R3 (Immediate (pos 1)))) limits with_freeze ≡ true
unfolding row_of
add_to_unwritten_stuck = refl

mov_to_unwritten_goes_on : is_stuck (one (mov R3 (pos 1))) limits with_freeze ≡ false
unfolding row_of
mov_to_unwritten_goes_on = refl

mov_of_unwritten_stuck : is_stuck (one (copy R2 R3)) limits with_freeze ≡ true
unfolding row_of
mov_of_unwritten_stuck = refl

-- one register in its place
neg_register : private_step (one (InPlace (Neg Bits32) R2)) with_freeze ≡ Some (moved_to (with_register with_freeze R2 0xfffffff9) 1)
neg_register = refl

be_register : private_step (one (InPlace (Reorder Big Word16) R2)) with_freeze ≡ Some (moved_to (with_register with_freeze R2 0x700) 1)
be_register = refl

neg_of_unwritten : private_step (one (InPlace (Neg Bits64) R3)) with_freeze ≡ None
neg_of_unwritten = refl

neg_of_unwritten_stuck : is_stuck (one (InPlace (Neg Bits64) R3)) limits with_freeze ≡ true
unfolding row_of
neg_of_unwritten_stuck = refl

-- a sign extension reads its second register alone
movsx_to_unwritten : private_step (one (SignExtend From8To64 R3 R2)) (with_register with_freeze R2 0x1ff) ≡ Some (moved_to (with_register (with_register with_freeze R2 0x1ff) R3 0xffffffffffffffff) 1)
movsx_to_unwritten = refl

movsx_to_unwritten_goes_on : is_stuck (one (SignExtend From8To64 R3 R2)) limits with_freeze ≡ false
unfolding row_of
movsx_to_unwritten_goes_on = refl

movsx_of_unwritten : private_step (one (SignExtend From8To64 R2 R3)) with_freeze ≡ None
movsx_of_unwritten = refl

movsx_of_unwritten_stuck : is_stuck (one (SignExtend From8To64 R2 R3)) limits with_freeze ≡ true
unfolding row_of
movsx_of_unwritten_stuck = refl

-- R2 is 0: two slots after the next instruction
jump_taken : private_step two_paths without_freeze ≡ Some (moved_to without_freeze 3)
jump_taken = refl

jump_not_taken : private_step two_paths with_freeze ≡ Some (moved_to with_freeze 1)
jump_not_taken = refl

-- 7 is not less than -1, and less than the greatest word
jump_signed : private_step (one (JumpIf Bits32 SignedLess R2 (Immediate (negsuc 0)) (pos 4))) with_freeze ≡ Some (moved_to with_freeze 1)
jump_signed = refl

jump_unsigned : private_step (one (JumpIf Bits64 Less R2 (Immediate (negsuc 0)) (pos 4))) with_freeze ≡ Some (moved_to with_freeze 5)
jump_unsigned = refl

-- an unwritten register cannot be compared
jump_unwritten : private_step (one (jeq R3 (pos 0) (pos 0))) with_freeze ≡ None
jump_unwritten = refl

jump_unwritten_stuck : is_stuck (one (jeq R3 (pos 0) (pos 0))) limits with_freeze ≡ true
unfolding row_of
jump_unwritten_stuck = refl

-- a helper call is no private step
release_request : request_at (one (call (pos 2))) (with_register with_freeze R1 7) ≡ Some (asking helpers.Release 7 0 0)
unfolding row_of
release_request = refl

release_is_no_step : private_step (one (call (pos 2))) (with_register with_freeze R1 7) ≡ None
release_is_no_step = refl

requeue_request : request_at (one (call (pos 4))) (with_register with_freeze R1 1) ≡ Some (asking helpers.Requeue 1 0 0)
unfolding row_of
requeue_request = refl

-- there is no helper 200
no_helper : request_at (one (call (pos 200))) (with_register with_freeze R1 7) ≡ None
unfolding row_of
no_helper = refl

no_helper_stuck : is_stuck (one (call (pos 200))) limits (with_register with_freeze R1 7) ≡ true
unfolding row_of
no_helper_stuck = refl

-- a word of a table is named by both, a new one comes third, and the clock is asked for with nothing
table_requests : (request_at (one (call (pos 6))) (with_register with_freeze R1 3) ≡ Some (asking helpers.TableGet 3 7 0))
    × (request_at (one (call (pos 7))) (with_register (with_register with_freeze R1 3) R3 9) ≡ Some (asking helpers.TablePut 3 7 9))
    × (request_at (one (call (pos 8))) (with_register (with_register with_freeze R1 3) R3 9) ≡ Some (asking helpers.TableAdd 3 7 9))
    × (request_at (one (call (pos 8))) (with_register with_freeze R1 3) ≡ None)
unfolding row_of
table_requests = (refl, refl, refl, refl)

now_request : request_at (one (call (pos 11))) with_freeze ≡ Some (asking helpers.Now 0 0 0)
unfolding row_of
now_request = refl

openings_request : request_at (one (call (pos 12))) (with_register with_freeze R1 4) ≡ Some (asking helpers.SetOpenings 4 0 0)
unfolding row_of
openings_request = refl

-- under no table its words cannot be read
no_table_stuck : is_stuck (one (call (pos 6))) limits (with_register with_freeze R1 0) ≡ true
unfolding row_of
no_table_stuck = refl

-- a queue is frozen by its number, a freeze is handed over with a time, and a CCB finished with a code
freeze_request : request_at (one (call (pos 1))) (with_register with_freeze R1 3) ≡ Some (asking helpers.Freeze 3 0 0)
unfolding row_of
freeze_request = refl

release_after_request : request_at (one (call (pos 3))) (with_register (with_register with_freeze R1 7) R2 500) ≡ Some (asking helpers.ReleaseAfter 7 500 0)
unfolding row_of
release_after_request = refl

finish_request : request_at (one (call (pos 5))) (with_register with_freeze R1 2) ≡ Some (asking helpers.Finish 2 0 0)
unfolding row_of
finish_request = refl

-- the freeze that is held can be given back, and no other
release_held : is_stuck (one (call (pos 2))) limits (with_register with_freeze R1 7) ≡ false
unfolding row_of
release_held = refl

release_not_held : is_stuck (one (call (pos 2))) limits (with_register with_freeze R1 8) ≡ true
unfolding row_of
release_not_held = refl

-- a requeue takes at most one retry, and comes once
requeue_once : is_stuck (one (call (pos 4))) limits (with_register without_freeze R1 1) ≡ false
unfolding row_of
requeue_once = refl

requeue_of_two : is_stuck (one (call (pos 4))) limits (with_register without_freeze R1 2) ≡ true
unfolding row_of
requeue_of_two = refl

requeue_twice : is_stuck (one (call (pos 4))) limits (with_register (done 0) R1 1) ≡ true
unfolding row_of
requeue_twice = refl

-- the lawful exit tells R0
lawful_exit : is_stuck (one Exit) limits (done 3) ≡ false
unfolding row_of
lawful_exit = refl

exit_tells : exit_at (one Exit) (done 3) ≡ Some 3
exit_tells = refl

exit_with_freeze : is_stuck (one Exit) limits (record (with_register with_freeze R0 0) { disposed = true }) ≡ true
unfolding row_of
exit_with_freeze = refl

exit_not_disposed : is_stuck (one Exit) limits (with_register without_freeze R0 0) ≡ true
unfolding row_of
exit_not_disposed = refl

exit_without_result : is_stuck (one Exit) limits (record without_freeze { disposed = true }) ≡ true
unfolding row_of
exit_without_result = refl

-- after the last instruction there is none
behind_the_end : is_stuck (one Exit) limits (moved_to (done 0) 1) ≡ true
unfolding row_of
behind_the_end = refl

-- where a run comes to the engine, and where it does not
stops_at_call : stop_at (one (call (pos 2))) (with_register with_freeze R1 7) ≡ Some (AtHelper (asking helpers.Release 7 0 0))
unfolding row_of
stops_at_call = refl

stops_at_exit : stop_at (one Exit) (done 3) ≡ Some (AtExit 3)
unfolding row_of
stops_at_exit = refl

stops_nowhere_else : stop_at two_paths with_freeze ≡ None
unfolding row_of
stops_nowhere_else = refl

-- A release with a count of 2 as its answer: R0 is the count, R1 to R5 are unwritten, R6 to R10 are as they were, and
-- the freeze is held no more.
answered_release : answered (asking helpers.Release 7 0 0) (answer_number 2) (with_register with_freeze R1 7) ≡ record with_freeze { pc = 1; registers = Some 2 ∷ None ∷ None ∷ None ∷ None ∷ None ∷ None ∷ None ∷ None ∷ None ∷ Some 0x20000200 ∷ []; held = [] }
unfolding row_of
answered_release = refl

-- a freeze that is taken comes last among those that are held, and 0 is none
answered_freeze : (answered (asking helpers.Freeze 0 0 0) (answer_number 9) with_freeze).held ≡ 7 ∷ 9 ∷ []
unfolding row_of
answered_freeze = refl

answered_no_freeze : (answered (asking helpers.Freeze 0 0 0) (answer_number 0) with_freeze).held ≡ 7 ∷ []
unfolding row_of
answered_no_freeze = refl

-- one that is handed over is held no more
answered_release_after : (answered (asking helpers.ReleaseAfter 7 500 0) (answer_number 0) with_freeze).held ≡ []
unfolding row_of
answered_release_after = refl

-- a CCB that is finished is disposed of
answered_finish : (answered (asking helpers.Finish 2 0 0) (answer_number 0) with_freeze).disposed ≡ true
unfolding row_of
answered_finish = refl

-- a requeue disposes of the CCB and leaves the freezes
answered_requeue : answered (asking helpers.Requeue 1 0 0) (answer_number 0) (with_register with_freeze R1 1) ≡ record with_freeze { pc = 1; registers = Some 0 ∷ None ∷ None ∷ None ∷ None ∷ None ∷ None ∷ None ∷ None ∷ None ∷ Some 0x20000200 ∷ []; disposed = true }
unfolding row_of
answered_requeue = refl

-- What a queue has is written where the call asked for it: the frame's last 16 bytes. R0 is 0, and nothing else changes.
abbrev information : Answer
information = record { r0 = 0; written = Some (record { address = 0x200001f0; bytes = 2 ∷ replicate 15 0 }) }

answered_information : answered (asking helpers.QueueInfo 0x200001f0 0 0) information (with_register with_freeze R1 0x200001f0) ≡ record with_freeze { pc = 1; registers = Some 0 ∷ None ∷ None ∷ None ∷ None ∷ None ∷ None ∷ None ∷ None ∷ None ∷ Some 0x20000200 ∷ []; frames = (replicate 496 None ++ Some 2 ∷ replicate 15 (Some 0)) ∷ [] }
unfolding written_at row_of
answered_information = refl

-- a trace call leaves all but the registers
answered_trace : answered (telling helpers.Trace 0x200001ff (3 ∷ [])) (answer_number 0) with_freeze ≡ record with_freeze { pc = 1; registers = Some 0 ∷ None ∷ None ∷ None ∷ None ∷ None ∷ None ∷ None ∷ None ∷ None ∷ Some 0x20000200 ∷ [] }
unfolding row_of
answered_trace = refl

-- and so does a call of a table
answered_table_get : answered (asking helpers.TableGet 0 3 0) (answer_number 12) with_freeze ≡ record with_freeze { pc = 1; registers = Some 12 ∷ None ∷ None ∷ None ∷ None ∷ None ∷ None ∷ None ∷ None ∷ None ∷ Some 0x20000200 ∷ [] }
unfolding row_of
answered_table_get = refl

-- a helper without arguments reads no register, and one with two reads R1 and R2
nothing_read : arguments_at (record with_freeze { registers = replicate 11 None }) helpers.Now ≡ Some (record { first = 0; second = 0; third = 0 })
unfolding row_of
nothing_read = refl

two_read : arguments_at with_freeze helpers.ReleaseAfter ≡ Some (record { first = 0x10000000; second = 7; third = 0 })
unfolding row_of
two_read = refl

one_unwritten : arguments_at with_freeze helpers.TablePut ≡ None
unfolding row_of
one_unwritten = refl

-- by which rule a helper is called, under the limits of one queue and a table of ten words
abbrev ten_words : HelperLimits
ten_words = of_queues 1 (10 ∷ [])

abbrev obeys_with : MachineState → TheHelper → ℕ → ℕ → Bool
obeys_with m helper first second = obeys ten_words m helper (record { first = first; second = second; third = 5 })

freezes : (obeys_with with_freeze helpers.Freeze 0 0 ≡ true) × (obeys_with with_freeze helpers.Freeze 1 0 ≡ false)
unfolding row_of
freezes = (refl, refl)

holds_eight : obeys_with (record with_freeze { held = replicate 8 7 }) helpers.Freeze 0 0 ≡ false
unfolding row_of
holds_eight = refl

releases_after : (obeys_with with_freeze helpers.ReleaseAfter 7 600000 ≡ true) × (obeys_with with_freeze helpers.ReleaseAfter 7 600001 ≡ false)
    × (obeys_with with_freeze helpers.ReleaseAfter 7 0 ≡ false) × (obeys_with with_freeze helpers.ReleaseAfter 8 1 ≡ false)
unfolding row_of
releases_after = (refl, refl, refl, refl)

finishes : (obeys_with with_freeze helpers.Finish 63 0 ≡ true) × (obeys_with with_freeze helpers.Finish 64 0 ≡ false)
    × (obeys_with (record with_freeze { disposed = true }) helpers.Finish 63 0 ≡ false)
unfolding row_of
finishes = (refl, refl, refl)

reads_table : (obeys_with with_freeze helpers.TableGet 0 9 ≡ true) × (obeys_with with_freeze helpers.TableGet 0 10 ≡ false)
    × (obeys_with with_freeze helpers.TablePut 1 0 ≡ false)
unfolding row_of
reads_table = (refl, refl, refl)

writes_information : (obeys_with with_freeze helpers.QueueInfo 0x200001f0 0 ≡ true) × (obeys_with with_freeze helpers.QueueInfo 0x200001f1 0 ≡ false)
    × (obeys_with with_freeze helpers.QueueInfo 0x1fffffff 0 ≡ false)
unfolding row_of
writes_information = (refl, refl, refl)

-- the last byte of the frame is written
abbrev last_written : MachineState
last_written = record with_freeze { frames = (replicate 511 None ++ Some 3 ∷ []) ∷ [] }

traces : (obeys_with last_written helpers.Trace 0x200001ff 1 ≡ true) × (obeys_with last_written helpers.Trace 0x200001fe 2 ≡ false)
    × (obeys_with last_written helpers.Trace 0x200001ff 0 ≡ false)
unfolding row_of
traces = (refl, refl, refl)

-- a trace call tells the bytes that stand at its address, and is none where one of them is unwritten, where there is none
-- of them or more than 64, and where they do not lie in a frame
abbrev traced_from : MachineState → ℕ → ℕ → Option Request
traced_from m address bytes = request_at (one (call (pos 10))) (with_register (with_register m R1 address) R2 bytes)

abbrev all_sevens : MachineState
all_sevens = record with_freeze { frames = replicate 512 (Some 7) ∷ [] }

traced_bytes : (traced_from last_written 0x200001ff 1 ≡ Some (telling helpers.Trace 0x200001ff (3 ∷ []))) × (traced_from last_written 0x200001fe 2 ≡ None)
    × (traced_from all_sevens 0x20000000 64 ≡ Some (telling helpers.Trace 0x20000000 (replicate 64 7))) × (traced_from all_sevens 0x20000000 65 ≡ None)
    × (traced_from all_sevens 0x20000000 0 ≡ None) × (traced_from all_sevens 0x200001ff 2 ≡ None) × (traced_from all_sevens 0x10000000 8 ≡ None)
unfolding row_of
traced_bytes = (refl, refl, refl, refl, refl, refl, refl)

-- the queue's information is asked for by its address alone
information_request : request_at (one (call (pos 9))) (with_register with_freeze R1 0x200001f0) ≡ Some (asking helpers.QueueInfo 0x200001f0 0 0)
unfolding row_of
information_request = refl

sets_openings : (obeys_with with_freeze helpers.SetOpenings 255 0 ≡ true) × (obeys_with with_freeze helpers.SetOpenings 0 0 ≡ false)
    × (obeys_with with_freeze helpers.SetOpenings 256 0 ≡ false)
unfolding row_of
sets_openings = (refl, refl, refl)

-- a local call: its arguments stand in R1 to R5, and R6 to R9 are kept. Its exit brings these back, and its frame is gone.
abbrev local : List Slot
local = layout (Call (Local (pos 1)) ∷ Exit ∷ Exit ∷ [])

abbrev registers_of_eleven : List (Option ℕ)
registers_of_eleven = Some 0 ∷ Some 1 ∷ Some 2 ∷ Some 3 ∷ None ∷ Some 5 ∷ Some 6 ∷ None ∷ Some 8 ∷ Some 9 ∷ Some 0x20000200 ∷ []

abbrev caller : MachineState
caller = record with_freeze { registers = registers_of_eleven }

abbrev kept_call : OpenCall
kept_call = record { return_pc = 1; saved = Some 6 ∷ None ∷ Some 8 ∷ Some 9 ∷ [] }

abbrev callee : MachineState
callee = record with_freeze {
  pc = 2;
  registers = None ∷ Some 1 ∷ Some 2 ∷ Some 3 ∷ None ∷ Some 5 ∷ None ∷ None ∷ None ∷ None ∷ Some 0x20001200 ∷ [];
  frames = unwritten_frame ∷ unwritten_frame ∷ [];
  open_calls = kept_call ∷ [];
}

calls_local : private_step local caller ≡ Some callee
calls_local = refl

-- the result, what the callee had in R6, and a byte in either frame
abbrev callee_done : MachineState
callee_done = record callee {
  registers = Some 44 ∷ Some 1 ∷ None ∷ None ∷ None ∷ None ∷ Some 66 ∷ None ∷ None ∷ None ∷ Some 0x20001200 ∷ [];
  frames = (Some 3 ∷ replicate 511 None) ∷ (Some 4 ∷ replicate 511 None) ∷ [];
}

returns_local : private_step local callee_done ≡ Some (record with_freeze {
  pc = 1;
  registers = Some 44 ∷ None ∷ None ∷ None ∷ None ∷ None ∷ Some 6 ∷ None ∷ Some 8 ∷ Some 9 ∷ Some 0x20000200 ∷ [];
  frames = (Some 3 ∷ replicate 511 None) ∷ [];
})
returns_local = refl

-- the exit of a function that was called is no stop, whatever the run holds
no_stop_inside : (stop_at local callee_done ≡ None) × (is_stuck local limits callee_done ≡ false)
unfolding row_of
no_stop_inside = (refl, refl)

-- with eight frames there is none left for a further call, with seven there is
abbrev with_frames : ℕ → MachineState
with_frames count = record caller { frames = replicate count unwritten_frame; open_calls = replicate (count - 1) kept_call }

eight_frames : (is_stuck local limits (with_frames 8) ≡ true) × (private_step local (with_frames 8) ≡ None) × (is_stuck local limits (with_frames 7) ≡ false)
unfolding row_of
eight_frames = (refl, refl, refl)
