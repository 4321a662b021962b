use Rattle.std.proofs.Common.{◌≡◌, ◌∙◌, List, ℕ, Some, ap, codes, sym}
use Rattle.trace_lines.proofs.Tests.{same_bytes}
use Rattle.host_live.proofs.Spelled.{no_succession_reads, succession_reads}
use Rattle.host_live.proofs.request.succession_in.Goals as goal

pub returns-then-eq : goal.returns-then-eq
returns-then-eq c = succession_reads c.args.line.now _ (ap Some (sym (same_bytes c.args.line.now (codes "rotate") (sym c.eq.ensures ∙ c.if-eq.true))))

pub returns-then-eq-2 : goal.returns-then-eq-2
returns-then-eq-2 c = succession_reads c.args.line.now _ (ap Some (sym (same_bytes c.args.line.now (codes "rotate fresh") (sym c.eq-2.ensures ∙ c.if-eq-2.true))))

pub returns-then-eq-3 : goal.returns-then-eq-3
returns-then-eq-3 c = succession_reads c.args.line.now _ (ap Some (sym (same_bytes c.args.line.now (codes "reload") (sym c.eq-3.ensures ∙ c.if-eq-3.true))))

pub returns-then-eq-4 : goal.returns-then-eq-4
returns-then-eq-4 c = succession_reads c.args.line.now _ (ap Some (sym (same_bytes c.args.line.now (codes "reload fresh") (sym c.eq-4.ensures ∙ c.if-eq-4.true))))

pub returns : goal.returns
returns c = no_succession_reads c.args.line.now (sym c.eq.ensures ∙ c.if-eq.false) (sym c.eq-2.ensures ∙ c.if-eq-2.false) (sym c.eq-3.ensures ∙ c.if-eq-3.false) (sym c.eq-4.ensures ∙ c.if-eq-4.false)
