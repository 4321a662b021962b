-- Written out less deep there are at most as many instructions.
use Rattle.std.proofs.Common.{◌≡◌, ℕ, zero, suc, ◌+◌, ◌≤◌, Bool, true, false, cond, List, length, Option, Some, None, ap, arith}
use Rattle.std.specs.Prelude.{◌==◌}
use Rattle.std.specs.Option.{option_map_or}
use Rattle.bpf_insn.specs.declared.insn.Insn.{Insn}
use Rattle.bpf_insn.specs.declared.program.Slot.{Slot}
use Rattle.bpf_insn.specs.Program.{insn_at}
use Rattle.call_shape.specs.Calls.{callee_in, function_of}
use Rattle.call_shape.specs.WrittenOut.{IsWrittenOut, count_at, total, written_out}

pub total_grows : (value : ℕ → ℕ) (n k : ℕ) → total value n ≤ total value (n + k)
total_grows value n zero = let same = ap (total value) (let e : n + 0 ≡ n = omega arith in e) in omega (arith, same)
total_grows value n (suc k) =
    let same = ap (total value) (let e : n + suc k ≡ suc (n + k) = omega arith in e) in
    omega (arith, same, total_grows value n k)

total_least : (f g : ℕ → ℕ) (n : ℕ) → ((place : ℕ) → f place ≤ g place) → total f n ≤ total g n
total_least f g zero each = omega arith
total_least f g (suc n) each = omega (arith, total_least f g n each, each n)

cond_least : (b : Bool) (m n : ℕ) → m ≤ n → cond b m 0 ≤ cond b n 0
cond_least true m n le = le
cond_least false m n le = omega arith

callee_least : (f g : ℕ → ℕ) (callee : Option ℕ) → ((start : ℕ) → f start ≤ g start) → option_map_or f callee 0 ≤ option_map_or g callee 0
callee_least f g None each = omega arith
callee_least f g (Some start) each = each start

count_least : (f g : ℕ → ℕ) (place : ℕ) (o : Option Insn) → ((start : ℕ) → f start ≤ g start) → count_at f place o ≤ count_at g place o
count_least f g place None each = omega arith
count_least f g place (Some insn) each = omega (arith, callee_least f g (callee_in place insn) each)

pub written_out_grows : (deep more : ℕ) (program : List Slot) (start : ℕ) → written_out deep program start ≤ written_out (deep + more) program start
written_out_grows zero more program start = omega arith
written_out_grows (suc deep) more program start =
    let same = ap (λ (d : ℕ). written_out d program start) (let e : suc deep + more ≡ suc (deep + more) = omega arith in e) in
    let few = total_least
    (λ place. cond (function_of program place == start) (count_at (written_out deep program) place (insn_at program place)) 0)
    (λ place. cond (function_of program place == start) (count_at (written_out (deep + more) program) place (insn_at program place)) 0)
    (length program)
    (λ place. cond_least (function_of program place == start) _ _ (count_least (written_out deep program) (written_out (deep + more) program) place (insn_at program place) (written_out_grows deep more program))) in
    omega (arith, few, same)

pub within_count : (deep : ℕ) (program : List Slot) (start count : ℕ) → IsWrittenOut program start count → written_out deep program start ≤ count
within_count deep program start count is =
    let same = ap (λ (d : ℕ). written_out d program start) (let e : deep + is.depth ≡ is.depth + deep = omega arith in e) in
    omega (arith, written_out_grows deep is.depth program start, same, is.settled deep)
