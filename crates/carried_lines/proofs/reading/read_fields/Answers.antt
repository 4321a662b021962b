use Rattle.carried_lines.proofs.EachLine.{numbers_reads, clock_reads, openings_reads, word_reads, ccb_reads}
use Rattle.carried_lines.proofs.FreezeLine.{freeze_reads, no_freeze_reads}
use Rattle.carried_lines.proofs.reading.read_fields.Goals as goal

pub returns-in-Numbers : goal.returns-in-Numbers
returns-in-Numbers c = rw c.in-Numbers.is (numbers_reads c.args.version c.args.text.now c.numbers.result c.numbers.ensures)

pub returns-in-Clock : goal.returns-in-Clock
returns-in-Clock c = rw c.in-Clock.is (clock_reads c.args.version c.args.text.now c.clock.result c.clock.ensures)

pub returns-in-Openings : goal.returns-in-Openings
returns-in-Openings c = rw c.in-Openings.is (openings_reads c.args.version c.args.text.now c.openings.result c.openings.ensures)

pub returns-in-Word : goal.returns-in-Word
returns-in-Word c = rw c.in-Word.is (word_reads c.args.version c.args.text.now c.table_word.result c.table_word.ensures)

pub returns-in-Ccb : goal.returns-in-Ccb
returns-in-Ccb c = rw c.in-Ccb.is (ccb_reads c.args.version c.args.text.now c.ccb.result c.ccb.ensures)

pub returns-in-Some : goal.returns-in-Some
returns-in-Some c = rw c.in-Freeze.is (freeze_reads c.args.version c.args.text.now c.in-Some.freeze c.in-Some.ensures)

pub returns-in-None : goal.returns-in-None
returns-in-None c = rw c.in-Freeze.is (no_freeze_reads c.args.version c.args.text.now c.in-None.ensures)
