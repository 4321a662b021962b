use Rattle.std.proofs.Common.{◌≡◌, length, sym, ◌∙◌, arith, refl}
use Rattle.std.proofs.lemmas.Bool.{eqb-true}
use Rattle.bpf_asm.specs.Labels.{label_at}
use Rattle.bpf_asm.proofs.Fronts.{defined_whole, labels_go_on, labels_stay}
use Rattle.bpf_asm.proofs.labels.labels_of.Goals.{in-Some+in_ok-define, in_default}
use Rattle.bpf_asm.proofs.labels.labels_of.Goals as goal

pub loop-rest-init : goal.loop-rest-init
unfolding label_at
loop-rest-init c =
    let m = c.new-labels.ensures in
    record {
      line_fits = omega arith;
      slot_fits = omega arith;
      first = λ name. rw m.empty refl;
    }

pub loop-rest-preserved : goal.loop-rest-preserved
loop-rest-preserved c =
    let first = c.first_line.ensures in
    let before = c.loop-rest.invariant in
    record {
      line_fits = omega (arith, first.shorter, before.line_fits);
      slot_fits = omega (arith, first.fits, c.slots_of-slot.ensures.bound, before.slot_fits);
      first = elim c.match-label_of.branch [
        | in-Some+in_ok-define w ↦ rw w.labels-is (λ name. labels_go_on (label_at c.loop-rest.labels name) _ _ c.loop-rest.line c.loop-rest.slot _ c.loop-rest.rest.now _ _ name _ first.lines w.in-Some.ensures c.slots_of-slot.ensures.slots (w.in_ok-define.ensures name) (before.first name))
        | in_default w ↦ rw w.labels-is (λ name. labels_stay (label_at c.loop-rest.labels name) _ c.loop-rest.line c.loop-rest.slot _ c.loop-rest.rest.now _ _ name first.lines w.in_default.ensures c.slots_of-slot.ensures.slots (before.first name))
      ];
    }

pub returns : goal.returns
returns c =
    let ended : length c.loop-rest.rest.now ≡ 0 = eqb-true _ _ (sym c.is_empty.ensures ∙ c.loop-rest-test.false) in
    λ name. defined_whole (label_at c.loop-rest.labels name) _ c.loop-rest.line c.loop-rest.slot c.loop-rest.rest.now name ended (c.loop-rest.invariant.first name)
