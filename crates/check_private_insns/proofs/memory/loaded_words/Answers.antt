use Rattle.std.proofs.Common.{arith}
use Rattle.check_private_insns.proofs.memory.loaded_words.Goals as goal

pub returns-in-Byte : goal.returns-in-Byte
returns-in-Byte c = rw c.in-Byte.is (λ word lt. c.within.ensures.has word (omega arith) (omega (arith, lt)))

pub returns-in-HalfWord : goal.returns-in-HalfWord
returns-in-HalfWord c = rw c.in-HalfWord.is (λ word lt. c.within-in-HalfWord.ensures.has word (omega arith) (omega (arith, lt)))

pub returns-in-Word : goal.returns-in-Word
returns-in-Word c = rw c.in-Word.is (λ word lt. c.within-in-Word.ensures.has word (omega arith) (omega (arith, lt)))

pub returns-in-DoubleWord : goal.returns-in-DoubleWord
returns-in-DoubleWord c = rw c.in-DoubleWord.is (λ word lt. c.any.ensures word (omega (arith, lt)))
