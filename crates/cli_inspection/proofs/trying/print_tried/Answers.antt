use Rattle.std.proofs.Common.{◌≡◌, ◌∙◌, ℕ, List, Vec, ap, inl, inr, subst}
use Rattle.std.specs.Prelude.{IsUtf8}
use Rattle.std.specs.Global.{Global}
use Rattle.cli_commands.specs.Told.{IsManifest}
use Rattle.cli_commands.proofs.Telling.{first_is, of_both, one_of_two}
use Rattle.cli_inspect_line.specs.Files.{kept_path}
use Rattle.cli_inspection.specs.Trials.{IsLeft, IsTriedOut}
use Rattle.cli_inspection.proofs.TriedOut.{is_manifest}
use Rattle.cli_inspection.proofs.trying.print_tried.Goals as goal

pub returns-clause-no_text : goal.returns-clause-no_text
returns-clause-no_text g c = λ input there not_text.
    elim (one_of_two c.args.inputs.now c.index-inputs-0.result c.index-inputs-1.result input c.requires.inputs c.index-inputs-0.is c.index-inputs-1.is there) [
      | inl first ↦ c.print_over.ensures.manifest (λ text. not_text (subst (λ (bytes : List ℕ). IsUtf8 bytes) (c.as_slice.ensures.value ∙ ap (λ (bytes : Vec ℕ Global). bytes.items) first) text))
      | inr second ↦ c.print_over.ensures.disks (λ text. not_text (subst (λ (bytes : List ℕ). IsUtf8 bytes) (c.as_slice-2.ensures.value ∙ ap (λ (bytes : Vec ℕ Global). bytes.items) second) text))
    ]

pub returns-clause-manifest : goal.returns-clause-manifest
returns-clause-manifest g c = λ is first there.
    let read = first_is c.args.inputs.now c.index-inputs-0.result first c.index-inputs-0.is there in
    let same : c.as_slice.result.now ≡ first.items = c.as_slice.ensures.value ∙ ap (λ (bytes : Vec ℕ Global). bytes.items) read in
    subst (λ (bytes : List ℕ). IsManifest bytes) same (is_manifest _ c.as_slice.result.now c.as_slice-2.result.now _ _ _ _ (c.print_over.ensures.done is))

pub returns-clause-done : goal.returns-clause-done
returns-clause-done g c = λ is.
    let old = g.W.Write.contents c.args.out.now in
    let new = g.W.Write.contents c.print_over.new.out in
    let kept-old = g.K.Write.contents c.args.kept.now in
    let kept-new = g.K.Write.contents c.print_over.new.kept in
    of_both (λ (manifest devices : List ℕ). IsTriedOut (kept_path c.args.plan.now) manifest devices old new kept-old kept-new) c.args.inputs.now c.index-inputs-0.is c.index-inputs-1.is
    c.as_slice.ensures.value c.as_slice-2.ensures.value (c.print_over.ensures.done is)

pub returns-clause-left : goal.returns-clause-left
returns-clause-left g c = λ is.
    let old = g.W.Write.contents c.args.out.now in
    let new = g.W.Write.contents c.print_over.new.out in
    let kept-old = g.K.Write.contents c.args.kept.now in
    let kept-new = g.K.Write.contents c.print_over.new.kept in
    of_both (λ (manifest devices : List ℕ). IsLeft (kept_path c.args.plan.now) manifest devices old new kept-old kept-new) c.args.inputs.now c.index-inputs-0.is c.index-inputs-1.is
    c.as_slice.ensures.value c.as_slice-2.ensures.value (c.print_over.ensures.left is)
