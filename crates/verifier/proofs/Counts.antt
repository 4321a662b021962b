-- How many checks are made: of each place once, and of a local call's also those of what it calls.
use Rattle.std.proofs.Common.{◌≡◌, ℕ, suc, ◌+◌, ◌-◌, ◌<◌, ◌≤◌, List, length, Option, Some, ap, ◌∙◌, arith}
use Rattle.std.specs.Prelude.{◌==◌}
use Rattle.std.specs.Option.{option_map_or}
use Rattle.std.proofs.lemmas.Bool.{cond-true, eq-eqb}
use Rattle.bpf_insn.specs.declared.insn.Insn.{Insn}
use Rattle.bpf_insn.specs.declared.program.Slot.{Slot}
use Rattle.bpf_insn.specs.Program.{insn_at}
use Rattle.call_shape.specs.Calls.{callee_in, function_of}
use Rattle.call_shape.specs.WrittenOut.{count_at, total, written_out}
use Rattle.call_shape.proofs.WrittenFew.{total_grows}
use Rattle.check_description.specs.declared.saved.SavedRegisters.{SavedRegisters}
use Rattle.verifier.specs.Function.{checks_at, deep_under}

-- a place that is its function's
pub checks_there : (deep : ℕ) (program : List Slot) (start place : ℕ) (insn : Insn) → function_of program place ≡ start → insn_at program place ≡ Some insn → checks_at deep program start place ≡ 1 + option_map_or (written_out deep program) (callee_in place insn) 0
checks_there deep program start place insn own here =
    cond-true (function_of program place == start) (count_at (written_out deep program) place (insn_at program place)) 0 (eq-eqb (function_of program place) start own)
    ∙ ap (count_at (written_out deep program) place) here

-- of a call
pub checks_call : (deep : ℕ) (program : List Slot) (start place : ℕ) (insn : Insn) (callee : ℕ) → function_of program place ≡ start → insn_at program place ≡ Some insn → callee_in place insn ≡ Some callee → checks_at deep program start place ≡ 1 + written_out deep program callee
checks_call deep program start place insn callee own here leads =
    checks_there deep program start place insn own here ∙ ap (λ (o : Option ℕ). 1 + option_map_or (written_out deep program) o 0) leads

-- of any
pub checks_one : (deep : ℕ) (program : List Slot) (start place : ℕ) (insn : Insn) → function_of program place ≡ start → insn_at program place ≡ Some insn → 1 ≤ checks_at deep program start place
checks_one deep program start place insn own here = let is = checks_there deep program start place insn own here in omega (arith, is)

pub total_more : (value : ℕ → ℕ) (n : ℕ) → total value (n + 1) ≡ total value n + value n
total_more value n = ap (total value) (let e : n + 1 ≡ suc n = omega arith in e)

pub total_within : (value : ℕ → ℕ) (n most : ℕ) → n ≤ most → total value n ≤ total value most
total_within value n most le =
    let same = ap (total value) (let e : most ≡ n + (most - n) = omega (arith, le) in e) in
    omega (arith, same, total_grows value n (most - n))

-- a function is its places, where it is followed one deeper
pub whole_count : (callers : List SavedRegisters) (program : List Slot) (start : ℕ) → length callers < 8 → written_out (8 - length callers) program start ≡ total (checks_at (deep_under callers) program start) (length program)
whole_count callers program start few = ap (λ (deep : ℕ). written_out deep program start) (let e : 8 - length callers ≡ suc (7 - length callers) = omega (arith, few) in e)

-- what is called is followed one less deep
pub callee_count : (callers more : List SavedRegisters) (program : List Slot) (callee : ℕ) → length more ≡ length callers + 1 → written_out (8 - length more) program callee ≡ written_out (deep_under callers) program callee
callee_count callers more program callee is = ap (λ (deep : ℕ). written_out deep program callee) (let e : 8 - length more ≡ 7 - length callers = omega (arith, is) in e)

-- there is room for the checks of one place more
pub room_for_one : (callers : List SavedRegisters) (program : List Slot) (start place old now most : ℕ) → length callers < 8 → place < length program → now ≤ old + total (checks_at (deep_under callers) program start) place → old + written_out (8 - length callers) program start ≤ most → now + checks_at (deep_under callers) program start place ≤ most
room_for_one callers program start place old now most few inside so_far room =
    let value : ℕ → ℕ = checks_at (deep_under callers) program start in
    omega (arith, so_far, room, whole_count callers program start few, total_more value place, total_within value (place + 1) (length program) (omega (arith, inside)))

pub within_whole : (callers : List SavedRegisters) (program : List Slot) (start place old now : ℕ) → length callers < 8 → place ≤ length program → now ≤ old + total (checks_at (deep_under callers) program start) place → now ≤ old + written_out (8 - length callers) program start
within_whole callers program start place old now few inside so_far =
    omega (arith, so_far, whole_count callers program start few, total_within (checks_at (deep_under callers) program start) place (length program) inside)

pub total_next : (value : ℕ → ℕ) (start at : ℕ) → total value (start + (at + 1)) ≡ total value (start + at) + value (start + at)
total_next value start at = ap (total value) (let e : start + (at + 1) ≡ suc (start + at) = omega arith in e)
