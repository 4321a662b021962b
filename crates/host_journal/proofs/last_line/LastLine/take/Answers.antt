use Rattle.std.proofs.Common.{◌∙◌, ℕ, List, [], ◌∷◌, ◌++◌, get_or, take, ap, append-nil, append_assoc, subst, sym}
use Rattle.std.proofs.lemmas.List.{take_all, take_more}
use Rattle.host_journal.specs.Texts.{IsScanned}
use Rattle.host_journal.proofs.last_line.LastLine.take.Goals as goal

pub loop-byte-init : goal.loop-byte-init
loop-byte-init c = λ before scanned. subst (λ (t : List ℕ). IsScanned t c.args.self.now.line c.args.self.now.is_long c.args.self.now.is_end) (sym (append-nil before)) scanned

pub loop-byte-preserved : goal.loop-byte-preserved
loop-byte-preserved c = λ before scanned.
    let i = c.loop-byte.byte-index in
    let front : List ℕ = take i c.args.bytes.now in
    let x = get_or c.args.bytes.now i 0 in
    subst (λ (t : List ℕ). IsScanned t c.take_byte.new.self.line c.take_byte.new.self.is_long c.take_byte.new.self.is_end)
    (append_assoc before front (x ∷ []) ∙ ap (λ (t : List ℕ). before ++ t) (sym (take_more c.args.bytes.now i 0 c.loop-byte-test.true)))
    (c.take_byte.ensures (before ++ front) (c.loop-byte.invariant before scanned))

pub returns : goal.returns
returns c = λ before scanned.
    subst (λ (t : List ℕ). IsScanned (before ++ t) c.loop-byte.self.line c.loop-byte.self.is_long c.loop-byte.self.is_end) (take_all c.loop-byte.byte-index c.args.bytes.now c.loop-byte-test.false) (c.loop-byte.invariant before scanned)
