-- What a run does next is one thing: its instruction, with one reply, and so its advance to its next stop.
use Rattle.std.proofs.Common.{◌≡◌, ℕ, zero, suc, List, [], ◌∷◌, ◌++◌, replicate, Option, Some, None, refl, ap, sym, subst, ◌∙◌}
use Rattle.std.specs.Option.{option_and_then}
use Rattle.bpf_insn.specs.declared.insn.Insn.{Insn}
use Rattle.bpf_insn.specs.declared.insn.Insn.TheVariants as insns
use Rattle.bpf_insn.specs.declared.insn.Callee.TheVariants.{Helper as to_helper, Local}
use Rattle.bpf_insn.specs.Program.{insn_at}
use Rattle.helpers.specs.declared.request.Request.{Request}
use Rattle.bpf_semantics.specs.MachineState.{MachineState, OpenCall}
use Rattle.bpf_semantics.specs.Step.{does, returned, request_in, exit_in, exit_value, request_at, exit_at}
use Rattle.world_calls.specs.declared.record.StoppedAt.{StoppedAt}
use Rattle.world_calls.specs.declared.record.StoppedAt.TheVariants.{Helper, Trace, Finish, Exit}
use Rattle.world.specs.World.{Setup, LiveRun, World}
use Rattle.world.specs.Lookups.{run_of}
use Rattle.world.specs.Told.{Told, told_of}
use Rattle.world.specs.Event.{Instruction, private, call, exit, Event, executes, Reply, replies, went_on, result}
use Rattle.world.specs.Step.{step, WorldStep}
use Rattle.world.specs.WorldRun.{Leads}
use Rattle.world.specs.Flat.{stop_of, advance_of}
use Rattle.world_laws.proofs.Empty.{empty_advance_is_none}
use Rattle.world_laws.proofs.Steps.Running.{some_is, private_parts, call_parts, exit_parts}

-- ---- an instruction is one of three

private_asks : (m after : MachineState) (request : Request) (insn : Insn) → does m insn ≡ Some after → request_in m insn ≡ Some request → ⊥
private_asks m after request (insns.Alu width op dst src) goes asks = let bad : None ≡ Some request = asks in cc
private_asks m after request (insns.InPlace op dst) goes asks = let bad : None ≡ Some request = asks in cc
private_asks m after request (insns.SignExtend extension dst src) goes asks = let bad : None ≡ Some request = asks in cc
private_asks m after request (insns.JumpIf width condition dst src offset) goes asks = let bad : None ≡ Some request = asks in cc
private_asks m after request (insns.Jump distance) goes asks = let bad : None ≡ Some request = asks in cc
private_asks m after request (insns.LoadImmediate dst value) goes asks = let bad : None ≡ Some request = asks in cc
private_asks m after request (insns.Load form dst src offset) goes asks = let bad : None ≡ Some request = asks in cc
private_asks m after request (insns.Store size dst src offset) goes asks = let bad : None ≡ Some request = asks in cc
private_asks m after request (insns.Call (to_helper number)) goes asks = let bad : None ≡ Some after = goes in cc
private_asks m after request (insns.Call (Local distance)) goes asks = let bad : None ≡ Some request = asks in cc
private_asks m after request insns.Exit goes asks = let bad : None ≡ Some request = asks in cc

returns_or_exits : (m after : MachineState) (r0 : ℕ) (calls : List OpenCall) → returned m calls ≡ Some after → exit_value m calls ≡ Some r0 → ⊥
returns_or_exits m after r0 [] goes ends = let bad : None ≡ Some after = goes in cc
returns_or_exits m after r0 (c ∷ calls) goes ends = let bad : None ≡ Some r0 = ends in cc

private_exits : (m after : MachineState) (r0 : ℕ) (insn : Insn) → does m insn ≡ Some after → exit_in m insn ≡ Some r0 → ⊥
private_exits m after r0 (insns.Alu width op dst src) goes ends = let bad : None ≡ Some r0 = ends in cc
private_exits m after r0 (insns.InPlace op dst) goes ends = let bad : None ≡ Some r0 = ends in cc
private_exits m after r0 (insns.SignExtend extension dst src) goes ends = let bad : None ≡ Some r0 = ends in cc
private_exits m after r0 (insns.JumpIf width condition dst src offset) goes ends = let bad : None ≡ Some r0 = ends in cc
private_exits m after r0 (insns.Jump distance) goes ends = let bad : None ≡ Some r0 = ends in cc
private_exits m after r0 (insns.LoadImmediate dst value) goes ends = let bad : None ≡ Some r0 = ends in cc
private_exits m after r0 (insns.Load form dst src offset) goes ends = let bad : None ≡ Some r0 = ends in cc
private_exits m after r0 (insns.Store size dst src offset) goes ends = let bad : None ≡ Some r0 = ends in cc
private_exits m after r0 (insns.Call callee) goes ends = let bad : None ≡ Some r0 = ends in cc
private_exits m after r0 insns.Exit goes ends = returns_or_exits m after r0 m.open_calls goes ends

asks_exits : (m : MachineState) (request : Request) (r0 : ℕ) (insn : Insn) → request_in m insn ≡ Some request → exit_in m insn ≡ Some r0 → ⊥
asks_exits m request r0 (insns.Alu width op dst src) asks ends = let bad : None ≡ Some r0 = ends in cc
asks_exits m request r0 (insns.InPlace op dst) asks ends = let bad : None ≡ Some r0 = ends in cc
asks_exits m request r0 (insns.SignExtend extension dst src) asks ends = let bad : None ≡ Some r0 = ends in cc
asks_exits m request r0 (insns.JumpIf width condition dst src offset) asks ends = let bad : None ≡ Some r0 = ends in cc
asks_exits m request r0 (insns.Jump distance) asks ends = let bad : None ≡ Some r0 = ends in cc
asks_exits m request r0 (insns.LoadImmediate dst value) asks ends = let bad : None ≡ Some r0 = ends in cc
asks_exits m request r0 (insns.Load form dst src offset) asks ends = let bad : None ≡ Some r0 = ends in cc
asks_exits m request r0 (insns.Store size dst src offset) asks ends = let bad : None ≡ Some r0 = ends in cc
asks_exits m request r0 (insns.Call callee) asks ends = let bad : None ≡ Some r0 = ends in cc
asks_exits m request r0 insns.Exit asks ends = let bad : None ≡ Some request = asks in cc

private_or_asks : (m after : MachineState) (request : Request) (o : Option Insn) → option_and_then (does m) o ≡ Some after → option_and_then (request_in m) o ≡ Some request → ⊥
private_or_asks m after request None goes asks = let bad : None ≡ Some after = goes in cc
private_or_asks m after request (Some insn) goes asks = private_asks m after request insn goes asks

private_or_exits : (m after : MachineState) (r0 : ℕ) (o : Option Insn) → option_and_then (does m) o ≡ Some after → option_and_then (exit_in m) o ≡ Some r0 → ⊥
private_or_exits m after r0 None goes ends = let bad : None ≡ Some after = goes in cc
private_or_exits m after r0 (Some insn) goes ends = private_exits m after r0 insn goes ends

asks_or_exits : (m : MachineState) (request : Request) (r0 : ℕ) (o : Option Insn) → option_and_then (request_in m) o ≡ Some request → option_and_then (exit_in m) o ≡ Some r0 → ⊥
asks_or_exits m request r0 None asks ends = let bad : None ≡ Some r0 = ends in cc
asks_or_exits m request r0 (Some insn) asks ends = asks_exits m request r0 insn asks ends

-- ---- a run has one next instruction

one_run : (world : World) (number other : ℕ) (a b : LiveRun) → number ≡ other → run_of number world.runs.list ≡ Some a → run_of other world.runs.list ≡ Some b → a ≡ b
one_run world number other a b same first second =
    let both : Some a ≡ Some b = sym first ∙ (ap (λ (n : ℕ). run_of n world.runs.list) same ∙ second) in cc

-- whose instruction it is
its_number : (run number : ℕ) (i j : Instruction) → executes run i ≡ executes number j → number ≡ run
its_number run number i j e = cc

abbrev pub Steps : Setup → World → ℕ → Instruction → Type 0
Steps setup before run i = (reply : Reply) × (after : World) × WorldStep setup before (executes run i) reply after

private_call : (setup : Setup) (before : World) (run : ℕ) (told : Told) → Steps setup before run private → Steps setup before run (call told) → ⊥
private_call setup before run told first second =
    let a = private_parts setup before run first.0 first.1 first.2 in
    let b = call_parts setup before run told second.0 second.1 second.2 in
    let same : b.it.run ≡ a.it.run = one_run before b.it.number a.it.number b.it.run a.it.run (its_number run b.it.number (call told) (call told) b.it.event_is ∙ sym (its_number run a.it.number private private a.it.event_is)) b.it.found a.it.found in
    private_or_asks a.it.run.machine a.machine b.request (insn_at a.it.run.program a.it.run.machine.pc) a.step (subst (λ (r : LiveRun). request_at r.program r.machine ≡ Some b.request) same b.call_is)

private_exit : (setup : Setup) (before : World) (run : ℕ) → Steps setup before run private → Steps setup before run exit → ⊥
private_exit setup before run first second =
    let a = private_parts setup before run first.0 first.1 first.2 in
    let b = exit_parts setup before run second.0 second.1 second.2 in
    let same : b.it.run ≡ a.it.run = one_run before b.it.number a.it.number b.it.run a.it.run (its_number run b.it.number exit exit b.it.event_is ∙ sym (its_number run a.it.number private private a.it.event_is)) b.it.found a.it.found in
    private_or_exits a.it.run.machine a.machine b.r0 (insn_at a.it.run.program a.it.run.machine.pc) a.step (subst (λ (r : LiveRun). exit_at r.program r.machine ≡ Some b.r0) same b.exit_is)

call_exit : (setup : Setup) (before : World) (run : ℕ) (told : Told) → Steps setup before run (call told) → Steps setup before run exit → ⊥
call_exit setup before run told first second =
    let a = call_parts setup before run told first.0 first.1 first.2 in
    let b = exit_parts setup before run second.0 second.1 second.2 in
    let same : b.it.run ≡ a.it.run = one_run before b.it.number a.it.number b.it.run a.it.run (its_number run b.it.number exit exit b.it.event_is ∙ sym (its_number run a.it.number (call told) (call told) a.it.event_is)) b.it.found a.it.found in
    asks_or_exits a.it.run.machine a.request b.r0 (insn_at a.it.run.program a.it.run.machine.pc) a.call_is (subst (λ (r : LiveRun). exit_at r.program r.machine ≡ Some b.r0) same b.exit_is)

call_call : (setup : Setup) (before : World) (run : ℕ) (told other : Told) → Steps setup before run (call told) → Steps setup before run (call other) → told ≡ other
call_call setup before run told other first second =
    let a = call_parts setup before run told first.0 first.1 first.2 in
    let b = call_parts setup before run other second.0 second.1 second.2 in
    let same : b.it.run ≡ a.it.run = one_run before b.it.number a.it.number b.it.run a.it.run (its_number run b.it.number (call other) (call other) b.it.event_is ∙ sym (its_number run a.it.number (call told) (call told) a.it.event_is)) b.it.found a.it.found in
    let both : Some b.request ≡ Some a.request = sym (subst (λ (r : LiveRun). request_at r.program r.machine ≡ Some b.request) same b.call_is) ∙ a.call_is in
    let request : b.request ≡ a.request = cc in
    a.told_is ∙ (ap told_of (sym request) ∙ sym b.told_is)

one_instruction : (setup : Setup) (before : World) (run : ℕ) (i j : Instruction) → Steps setup before run i → Steps setup before run j → i ≡ j
one_instruction setup before run private private a b = refl
one_instruction setup before run private (call told) a b = absurd (private_call setup before run told a b)
one_instruction setup before run private exit a b = absurd (private_exit setup before run a b)
one_instruction setup before run (call told) private a b = absurd (private_call setup before run told b a)
one_instruction setup before run (call told) (call other) a b = ap call (call_call setup before run told other a b)
one_instruction setup before run (call told) exit a b = absurd (call_exit setup before run told a b)
one_instruction setup before run exit private a b = absurd (private_exit setup before run b a)
one_instruction setup before run exit (call told) a b = absurd (call_exit setup before run told b a)
one_instruction setup before run exit exit a b = refl

-- ---- and one advance to its next stop

stop_is : (one other : StoppedAt) → stop_of one ≡ stop_of other → one ≡ other
stop_is (Helper a) (Helper b) e = cc
stop_is (Helper a) (Trace b bytes) e = cc
stop_is (Helper a) (Finish b code) e = cc
stop_is (Helper a) Exit e = cc
stop_is (Trace a these) (Helper b) e = cc
stop_is (Trace a these) (Trace b bytes) e = cc
stop_is (Trace a these) (Finish b code) e = cc
stop_is (Trace a these) Exit e = cc
stop_is (Finish a this) (Helper b) e = cc
stop_is (Finish a this) (Trace b bytes) e = cc
stop_is (Finish a this) (Finish b code) e = cc
stop_is (Finish a this) Exit e = cc
stop_is Exit (Helper b) e = cc
stop_is Exit (Trace b bytes) e = cc
stop_is Exit (Finish b code) e = cc
stop_is Exit Exit e = refl

stop_is_shared : (stop : StoppedAt) → stop_of stop ≡ private → ⊥
stop_is_shared (Helper helper) e = cc
stop_is_shared (Trace helper bytes) e = cc
stop_is_shared (Finish helper code) e = cc
stop_is_shared Exit e = cc

pub record IsSame (instructions more : ℕ) (stop other : StoppedAt) (r0 r1 : ℕ) : Type 0 where
  pub instructions_are : instructions ≡ more
  pub stop_are : stop ≡ other
  pub r0_are : r0 ≡ r1

-- so many private instructions, and the stop
abbrev stretch : ℕ → ℕ → StoppedAt → ℕ → List (Event × Reply)
stretch run n stop r0 = replicate n (executes run private, went_on) ++ (executes run (stop_of stop), result r0) ∷ []

-- R0, where it is told
r0_in : Reply → ℕ
r0_in (replies answer) = 0
r0_in went_on = 0
r0_in (result r0) = r0

same_result : (setup : Setup) (before : World) (run : ℕ) (i j : Instruction) (r0 r1 : ℕ) (after later : World) → i ≡ j → WorldStep setup before (executes run i) (result r0) after → WorldStep setup before (executes run j) (result r1) later → r0 ≡ r1
unfolding r0_in
same_result setup before run i j r0 r1 after later same a b =
    let both = some_is (result r0, after) (result r1, later) (sym a ∙ (ap (λ (x : Instruction). step setup before (executes run x)) same ∙ b)) in
    sym (ap (λ (x : Reply × World). r0_in x.0) both)

one_stretch : (setup : Setup) (before : World) (run n m : ℕ) (stop other : StoppedAt) (r0 r1 : ℕ) (after later : World) → Leads setup before (stretch run n stop r0) after → Leads setup before (stretch run m other r1) later → IsSame n m stop other r0 r1
one_stretch setup before run zero zero stop other r0 r1 after later a b =
    let same = one_instruction setup before run (stop_of stop) (stop_of other) (result r0, a.0, a.1) (result r1, b.0, b.1) in
    record { instructions_are = refl; stop_are = stop_is stop other same; r0_are = same_result setup before run (stop_of stop) (stop_of other) r0 r1 a.0 b.0 same a.1 b.1 }
one_stretch setup before run zero (suc m) stop other r0 r1 after later a b =
    absurd (stop_is_shared stop (one_instruction setup before run (stop_of stop) private (result r0, a.0, a.1) (went_on, b.0, b.1)))
one_stretch setup before run (suc n) zero stop other r0 r1 after later a b =
    absurd (stop_is_shared other (one_instruction setup before run (stop_of other) private (result r1, b.0, b.1) (went_on, a.0, a.1)))
one_stretch setup before run (suc n) (suc m) stop other r0 r1 after later a b =
    let between : b.0 ≡ a.0 = ap (λ (x : Reply × World). x.1) (some_is (went_on, a.0) (went_on, b.0) (sym a.1 ∙ b.1)) in
    let rest = one_stretch setup a.0 run n m stop other r0 r1 after later a.2 (subst (λ (w : World). Leads setup w (stretch run m other r1) later) between b.2) in
    record { instructions_are = ap suc rest.instructions_are; stop_are = rest.stop_are; r0_are = rest.r0_are }

pub one_advance : (setup : Setup) (before : World) (run n m : ℕ) (stop other : StoppedAt) (r0 r1 : ℕ) (after later : World) → Leads setup before (advance_of run n stop r0) after → Leads setup before (advance_of run m other r1) later → IsSame n m stop other r0 r1
one_advance setup before run zero m stop other r0 r1 after later a b = absurd (empty_advance_is_none setup run stop r0 before after a)
one_advance setup before run (suc n) zero stop other r0 r1 after later a b = absurd (empty_advance_is_none setup run other r1 before later b)
one_advance setup before run (suc n) (suc m) stop other r0 r1 after later a b =
    let same = one_stretch setup before run n m stop other r0 r1 after later a b in
    record { instructions_are = ap suc same.instructions_are; stop_are = same.stop_are; r0_are = same.r0_are }
