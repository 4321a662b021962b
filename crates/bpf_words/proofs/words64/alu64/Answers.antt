-- Bits of words of 64 bits make no greater word.
use Rattle.std.proofs.Common.{arith, sym, mod-eq_of_lt}
use Rattle.std.proofs.lemmas.Nat.{or_lt, xor_lt}
use Rattle.bpf_words.proofs.words64.alu64.Goals as goal

pub returns-in-Or : goal.returns-in-Or
returns-in-Or c = rw c.in-Or.is (sym (mod-eq_of_lt (or_lt 64 c.args.dst c.args.src (omega arith) (omega arith))))

pub returns-in-Xor : goal.returns-in-Xor
returns-in-Xor c = rw c.in-Xor.is (sym (mod-eq_of_lt (xor_lt 64 c.args.dst c.args.src (omega arith) (omega arith))))
