-- Where a run stops has a text: what is told of a helper call is what its row tells, within its rule.
use Rattle.std.proofs.Common.{◌≡◌, ℕ, ◌<◌, ◌≤◌, ◌&&◌, ◌++◌, true, List, [], ◌∷◌, Option, Some, None, length, refl, ap, subst, ◌∙◌, arith, codes, nat_le, nat_lt}
use Rattle.std.specs.Prelude.{All, IsSome, flat_map}
use Rattle.std.specs.List.{AllByRecursion, list_all}
use Rattle.std.specs.Option.{option_map, option_and_then}
use Rattle.std.proofs.lemmas.Bool.{and_from, and_parts, le-leb, lt-ltb}
use Rattle.std.proofs.lemmas.List.Elements.{recursion_from_All}
use Rattle.bpf_insn.specs.declared.insn.Insn.{Insn}
use Rattle.bpf_insn.specs.declared.insn.Insn.TheVariants.{Alu, InPlace, SignExtend, JumpIf, Jump, LoadImmediate, Load, Store, Call, Exit}
use Rattle.bpf_insn.specs.declared.insn.Callee.TheVariants as callees
use Rattle.bpf_insn.specs.declared.program.Slot.{Slot}
use Rattle.bpf_insn.specs.Program.{insn_at}
use Rattle.helpers.specs.declared.columns.ArgKind.{ArgKind}
use Rattle.helpers.specs.declared.columns.ArgKind.TheVariants.{Within}
use Rattle.helpers.specs.declared.columns.Tells.{Tells}
use Rattle.helpers.specs.declared.columns.Tells.TheVariants as tells
use Rattle.helpers.specs.declared.limits.HelperLimits.{HelperLimits}
use Rattle.helpers.specs.declared.request.Arguments.{Arguments}
use Rattle.helpers.specs.declared.request.Request.{Request}
use Rattle.helpers.specs.declared.table.Helper.{Helper}
use Rattle.helpers.specs.Table.{asks, helper_of, row_of}
use Rattle.helpers.proofs.Together.{TellsOf, told}
use Rattle.bpf_semantics.specs.Calls.{arguments_at, meets, meets_need, meets_rule, named_bytes, request_by, request_with}
use Rattle.bpf_semantics.specs.MachineState.{MachineState}
use Rattle.bpf_semantics.specs.Step.{request_at, request_in}
use Rattle.bpf_semantics.proofs.WrittenBytes.{some_same}
use Rattle.world_calls.specs.declared.record.StoppedAt.{StoppedAt}
use Rattle.world_calls.specs.declared.record.StoppedAt.TheVariants as stopped
use Rattle.trace_lines.specs.Texts.{bytes_text, code_text, helper_text, is_byte, pair_text, stop_text, tells_bytes, tells_code, tells_name, told_by as told_at}
use Rattle.trace.specs.HasText.{StopFits}
use Rattle.trace.specs.TraceText.{stop_of as spelled}
use Rattle.world.specs.Event.{call}
use Rattle.world.specs.Flat.{stop_of}
use Rattle.world.specs.Told.{finishes, plain, told_by, told_of, traces}
use Rattle.trace_of_history.proofs.Frames.{AreWhole, traced_length}
use Rattle.trace_of_history.proofs.Somes.{some_append, some_where}

-- ---- the bytes that a machine's call names

abbrev Names : MachineState → Request → Type 0
Names m request = named_bytes m (row_of request.helper).tells request.arguments ≡ Some request.bytes

module _ (m : MachineState) (request : Request) where
  by_bytes : (helper : Helper) (arguments : Arguments) (o : Option (List ℕ)) → named_bytes m (row_of helper).tells arguments ≡ o
      → option_map (λ bytes. record { helper = helper; arguments = arguments; bytes = bytes }) o ≡ Some request → Names m request
  by_bytes helper arguments None is e = absurd (let bad : None ≡ Some request = e in cc)
  by_bytes helper arguments (Some bytes) is e =
      let made : Request = record { helper = helper; arguments = arguments; bytes = bytes } in
      subst (Names m) (some_same made request e) is

  by_arguments : (helper : Helper) (o : Option Arguments) → option_and_then (request_with m helper) o ≡ Some request → Names m request
  by_arguments helper None e = absurd (let bad : None ≡ Some request = e in cc)
  by_arguments helper (Some arguments) e = by_bytes helper arguments (named_bytes m (row_of helper).tells arguments) refl e

  by_helper : (o : Option Helper) → option_and_then (request_by m) o ≡ Some request → Names m request
  by_helper None e = absurd (let bad : None ≡ Some request = e in cc)
  by_helper (Some helper) e = by_arguments helper (arguments_at m helper) e

  by_insn : (insn : Insn) → request_in m insn ≡ Some request → Names m request
  by_insn (Call (callees.Helper number)) e = by_helper (helper_of number) e
  by_insn (Call (callees.Local distance)) e = absurd (let bad : None ≡ Some request = e in cc)
  by_insn (Alu width op dst src) e = absurd (let bad : None ≡ Some request = e in cc)
  by_insn (InPlace op dst) e = absurd (let bad : None ≡ Some request = e in cc)
  by_insn (SignExtend extension dst src) e = absurd (let bad : None ≡ Some request = e in cc)
  by_insn (JumpIf width condition dst src offset) e = absurd (let bad : None ≡ Some request = e in cc)
  by_insn (Jump distance) e = absurd (let bad : None ≡ Some request = e in cc)
  by_insn (LoadImmediate dst value) e = absurd (let bad : None ≡ Some request = e in cc)
  by_insn (Load form dst src offset) e = absurd (let bad : None ≡ Some request = e in cc)
  by_insn (Store size dst src offset) e = absurd (let bad : None ≡ Some request = e in cc)
  by_insn Exit e = absurd (let bad : None ≡ Some request = e in cc)

  by_place : (o : Option Insn) → option_and_then (request_in m) o ≡ Some request → Names m request
  by_place None e = absurd (let bad : None ≡ Some request = e in cc)
  by_place (Some insn) e = by_insn insn e

-- ---- what is told of it

-- bytes that are such pass the test
all_bytes : (bytes : List ℕ) → AllByRecursion (λ byte. byte < 256) bytes → list_all is_byte bytes ≡ true
all_bytes [] all = refl
all_bytes (byte ∷ bytes) all = and_from (is_byte byte) (list_all is_byte bytes) (lt-ltb byte 256 all.0) (all_bytes bytes all.1)

some_bytes : (bytes : List ℕ) → 1 ≤ length bytes → length bytes ≤ 64 → All (λ byte. byte < 256) bytes → IsSome (bytes_text bytes)
some_bytes bytes some few all =
    some_where _ (flat_map pair_text bytes)
    (and_from (nat_lt 0 (length bytes) && nat_le (length bytes) 64) (list_all is_byte bytes)
    (and_from (nat_lt 0 (length bytes)) (nat_le (length bytes) 64) (lt-ltb 0 (length bytes) (omega (arith, some))) (le-leb (length bytes) 64 few))
    (all_bytes bytes (recursion_from_All (λ (byte : ℕ). byte < 256) bytes all)))

-- the code is below 64
few_code : (limits : HelperLimits) (m : MachineState) (request : Request) → (row_of request.helper).tells ≡ tells.Code → meets_rule limits m request ≡ true → nat_le request.arguments.first 63 ≡ true
few_code limits m request is rule =
    let asked : (asks request.helper).first ≡ Some (Within 0 63) = subst (λ (t : Tells). TellsOf t (row_of request.helper)) is (told request.helper) in
    let parts = and_parts (meets_need m (row_of request.helper).needs) _ rule in
    let first = and_parts (meets limits m request.arguments (asks request.helper).first request.arguments.first) _ parts.1 in
    (and_parts (nat_le 0 request.arguments.first) (nat_le request.arguments.first 63) (subst (λ (o : Option ArgKind). meets limits m request.arguments o request.arguments.first ≡ true) asked first.0)).1

module _ (limits : HelperLimits) (m : MachineState) (request : Request) (whole : AreWhole m.frames) (names : Names m request) (rule : meets_rule limits m request ≡ true) where
  plain_some : (helper : Helper) (t : Tells) → (row_of request.helper).tells ≡ t → plain helper ≡ told_by t request → IsSome (stop_text (spelled (stopped.Helper helper)))
  plain_some helper tells.Name is e =
      let same : helper ≡ request.helper = cc in
      some_where (tells_name (told_at helper)) (helper_text helper) (ap (λ (h : Helper). tells_name (told_at h)) same ∙ ap tells_name is)
  plain_some helper tells.Bytes is e = absurd cc
  plain_some helper tells.Code is e = absurd cc

  traced_some : (helper : Helper) (bytes : List ℕ) (t : Tells) → (row_of request.helper).tells ≡ t → traces helper bytes ≡ told_by t request → All (λ byte. byte < 256) bytes → IsSome (stop_text (spelled (stopped.Trace helper bytes)))
  traced_some helper bytes tells.Name is e all = absurd cc
  traced_some helper bytes tells.Bytes is e all =
      let same : helper ≡ request.helper = cc in
      let those : bytes ≡ request.bytes = cc in
      let length_is = traced_length m request.arguments.first request.arguments.second request.bytes whole (subst (λ (t : Tells). named_bytes m t request.arguments ≡ Some request.bytes) is names) in
      some_append _ (bytes_text bytes)
      (some_where (tells_bytes (told_at helper)) (helper_text helper ++ codes " ") (ap (λ (h : Helper). tells_bytes (told_at h)) same ∙ ap tells_bytes is))
      (some_bytes bytes (omega (arith, ap length those, length_is.0)) (omega (arith, ap length those, length_is.1)) all)
  traced_some helper bytes tells.Code is e all = absurd cc

  finished_some : (helper : Helper) (code : ℕ) (t : Tells) → (row_of request.helper).tells ≡ t → finishes helper code ≡ told_by t request → IsSome (stop_text (spelled (stopped.Finish helper code)))
  finished_some helper code tells.Name is e = absurd cc
  finished_some helper code tells.Bytes is e = absurd cc
  finished_some helper code tells.Code is e =
      let same : helper ≡ request.helper = cc in
      let that : code ≡ request.arguments.first = cc in
      some_append _ (code_text code)
      (some_where (tells_code (told_at helper)) (helper_text helper ++ codes " ") (ap (λ (h : Helper). tells_code (told_at h)) same ∙ ap tells_code is))
      (some_where (nat_le code 63) (pair_text code) (ap (λ (n : ℕ). nat_le n 63) that ∙ few_code limits m request is rule))

-- a call of a machine that was reached
pub called_some : (limits : HelperLimits) (program : List Slot) (m : MachineState) (request : Request) → AreWhole m.frames → request_at program m ≡ Some request → meets_rule limits m request ≡ true
    → (stop : StoppedAt) → stop_of stop ≡ call (told_of request) → StopFits stop → IsSome (stop_text (spelled stop))
called_some limits program m request whole asks_it rule (stopped.Helper helper) e fits =
    let names = by_place m request (insn_at program m.pc) asks_it in
    plain_some limits m request whole names rule helper (row_of request.helper).tells refl (let same : plain helper ≡ told_of request = cc in same)
called_some limits program m request whole asks_it rule (stopped.Trace helper bytes) e fits =
    let names = by_place m request (insn_at program m.pc) asks_it in
    traced_some limits m request whole names rule helper bytes (row_of request.helper).tells refl (let same : traces helper bytes ≡ told_of request = cc in same) fits
called_some limits program m request whole asks_it rule (stopped.Finish helper code) e fits =
    let names = by_place m request (insn_at program m.pc) asks_it in
    finished_some limits m request whole names rule helper code (row_of request.helper).tells refl (let same : finishes helper code ≡ told_of request = cc in same)
called_some limits program m request whole asks_it rule stopped.Exit e fits = refl
