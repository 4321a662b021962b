use Rattle.std.proofs.Common.{◌≡◌, ◌∙◌, ℕ, List, Vec, ap, false, inl, inr, length, sym, subst, true}
use Rattle.std.specs.Prelude.{Contains, IsUtf8}
use Rattle.std.specs.Global.{Global}
use Rattle.cli_commands.specs.Told.{IsFaultyManifest, IsManifest, IsManifestFault}
use Rattle.cli_commands.proofs.Telling.{first_is}
use Rattle.cli_inspect_line.specs.Files.{input_paths, kept_path}
use Rattle.cli_inspect_line.specs.declared.plans.Plan.{Plan}
use Rattle.cli_inspection.specs.Shown.{AreReported, IsAccepted, IsAsAsked, IsDecided, IsFaulty, IsOutput, IsPlanDecided, IsPlanLeft, IsPlanTried, IsRejected, IsReported, PutsFault, explains, may_put}
use Rattle.cli_inspection.specs.Trials.{IsLeft, IsTriedOut}
use Rattle.cli_inspection.proofs.Explained.{is_faulty}
use Rattle.cli_inspection.proofs.Inputs.{none_there, only_one}
use Rattle.cli_inspection.proofs.carrying.carry.Goals as goal

pub returns-in-ExplainCode-clause-no_text : goal.returns-in-ExplainCode-clause-no_text
returns-in-ExplainCode-clause-no_text g c = λ input there not_text.
    absurd (none_there c.args.inputs.now input (c.requires ∙ ap (λ (plan : Plan). length (input_paths plan)) c.in-ExplainCode.is) there)

pub returns-in-Explain-clause-no_text : goal.returns-in-Explain-clause-no_text
returns-in-Explain-clause-no_text g c = λ input there not_text.
    let one : length c.args.inputs.now ≡ 1 = c.requires ∙ ap (λ (plan : Plan). length (input_paths plan)) c.in-Explain.is in
    let read = only_one c.args.inputs.now c.index-inputs-0.result input one c.index-inputs-0.is there in
    c.print_explanation.ensures.no_text (λ text. not_text (subst (λ (bytes : List ℕ). IsUtf8 bytes) (c.as_slice.ensures.value ∙ ap (λ (bytes : Vec ℕ Global). bytes.items) read) text))

pub returns-in-Explain-clause-done : goal.returns-in-Explain-clause-done
returns-in-Explain-clause-done g c = λ is input there.
    let read = first_is c.args.inputs.now c.index-inputs-0.result input c.index-inputs-0.is there in
    let same : c.as_slice.result.now ≡ input.items = c.as_slice.ensures.value ∙ ap (λ (bytes : Vec ℕ Global). bytes.items) read in
    subst (λ (plan : Plan). IsAsAsked plan input.items) (sym c.in-Explain.is) (subst (λ (bytes : List ℕ). IsManifest bytes) same (c.print_explanation.ensures.done is))

pub returns-in-Explain-clause-told : goal.returns-in-Explain-clause-told
returns-in-Explain-clause-told g c = λ is input there.
    let old = g.W.Write.contents c.args.out.now in
    let new = g.W.Write.contents c.print_explanation.new.out in
    let read = first_is c.args.inputs.now c.index-inputs-0.result input c.index-inputs-0.is there in
    let same : c.as_slice.result.now ≡ input.items = c.as_slice.ensures.value ∙ ap (λ (bytes : Vec ℕ Global). bytes.items) read in
    subst (λ (plan : Plan). IsReported plan input.items old new) (sym c.in-Explain.is) (subst (λ (bytes : List ℕ). PutsFault (IsManifestFault bytes) old new) same (c.print_explanation.ensures.refused is))

pub returns-in-Explain-clause-refused : goal.returns-in-Explain-clause-refused
returns-in-Explain-clause-refused g c = λ is input there.
    let read = first_is c.args.inputs.now c.index-inputs-0.result input c.index-inputs-0.is there in
    let same : c.as_slice.result.now ≡ input.items = c.as_slice.ensures.value ∙ ap (λ (bytes : Vec ℕ Global). bytes.items) read in
    let put = c.print_explanation.ensures.refused is in
    subst (λ (plan : Plan). IsFaulty plan input.items) (sym c.in-Explain.is) (subst (λ (bytes : List ℕ). IsFaultyManifest bytes) same (is_faulty c.as_slice.result.now put.0 put.2))

pub returns-in-ExplainFile-clause-done : goal.returns-in-ExplainFile-clause-done
returns-in-ExplainFile-clause-done g c = λ is input there.
    subst (λ (plan : Plan). IsAsAsked plan input.items) (sym c.in-ExplainFile.is) (c.print_judged.ensures.manifest is input there)

pub returns-in-ExplainFile-clause-accepted : goal.returns-in-ExplainFile-clause-accepted
returns-in-ExplainFile-clause-accepted g c = λ is first second one other.
    subst (λ (plan : Plan). IsAccepted plan first.items second.items) (sym c.in-ExplainFile.is) (c.print_judged.ensures.done is first second one other)

pub returns-in-ExplainFile-clause-rejected : goal.returns-in-ExplainFile-clause-rejected
returns-in-ExplainFile-clause-rejected g c = λ is first second one other.
    let put = c.print_judged.ensures.rejected is first second one other in
    subst (λ (plan : Plan). IsRejected plan first.items second.items) (sym c.in-ExplainFile.is) (put.0, put.2)

pub returns-in-ExplainFile-clause-reported : goal.returns-in-ExplainFile-clause-reported
returns-in-ExplainFile-clause-reported g c = λ is first second one other.
    let old = g.W.Write.contents c.args.out.now in
    let new = g.W.Write.contents c.print_judged.new.out in
    subst (λ (plan : Plan). AreReported plan first.items second.items old new) (sym c.in-ExplainFile.is) (c.print_judged.ensures.rejected is first second one other)

pub returns-in-Show-clause-done : goal.returns-in-Show-clause-done
returns-in-Show-clause-done g c = λ is input there.
    subst (λ (plan : Plan). IsAsAsked plan input.items) (sym c.in-Show.is) (c.print_traced.ensures.manifest is input there)

pub returns-in-Show-clause-accepted : goal.returns-in-Show-clause-accepted
returns-in-Show-clause-accepted g c = λ is first second one other.
    subst (λ (plan : Plan). IsAccepted plan first.items second.items) (sym c.in-Show.is) (c.print_traced.ensures.done is first second one other)

pub returns-in-Show-clause-rejected : goal.returns-in-Show-clause-rejected
returns-in-Show-clause-rejected g c = λ is first second one other.
    subst (λ (plan : Plan). IsRejected plan first.items second.items) (sym c.in-Show.is) (c.print_traced.ensures.rejected is first second one other)

pub returns-in-Summarise-clause-done : goal.returns-in-Summarise-clause-done
returns-in-Summarise-clause-done g c = λ is input there.
    subst (λ (plan : Plan). IsAsAsked plan input.items) (sym c.in-Summarise.is) (c.print_traced-in-Summarise.ensures.manifest is input there)

pub returns-in-Summarise-clause-accepted : goal.returns-in-Summarise-clause-accepted
returns-in-Summarise-clause-accepted g c = λ is first second one other.
    subst (λ (plan : Plan). IsAccepted plan first.items second.items) (sym c.in-Summarise.is) (c.print_traced-in-Summarise.ensures.done is first second one other)

pub returns-in-Summarise-clause-rejected : goal.returns-in-Summarise-clause-rejected
returns-in-Summarise-clause-rejected g c = λ is first second one other.
    subst (λ (plan : Plan). IsRejected plan first.items second.items) (sym c.in-Summarise.is) (c.print_traced-in-Summarise.ensures.rejected is first second one other)

pub returns-in-Draw-clause-done : goal.returns-in-Draw-clause-done
returns-in-Draw-clause-done g c = λ is input there.
    subst (λ (plan : Plan). IsAsAsked plan input.items) (sym c.in-Draw.is) (c.print_traced-in-Draw.ensures.manifest is input there)

pub returns-in-Draw-clause-accepted : goal.returns-in-Draw-clause-accepted
returns-in-Draw-clause-accepted g c = λ is first second one other.
    subst (λ (plan : Plan). IsAccepted plan first.items second.items) (sym c.in-Draw.is) (c.print_traced-in-Draw.ensures.done is first second one other)

pub returns-in-Draw-clause-rejected : goal.returns-in-Draw-clause-rejected
returns-in-Draw-clause-rejected g c = λ is first second one other.
    subst (λ (plan : Plan). IsRejected plan first.items second.items) (sym c.in-Draw.is) (c.print_traced-in-Draw.ensures.rejected is first second one other)

pub returns-in-ExplainCode-clause-nothing : goal.returns-in-ExplainCode-clause-nothing
returns-in-ExplainCode-clause-nothing g c = λ is other.
    let bad : true ≡ false = sym (ap may_put c.in-ExplainCode.is) ∙ other in
    absurd cc

pub returns-in-Explain-clause-nothing : goal.returns-in-Explain-clause-nothing
returns-in-Explain-clause-nothing g c = λ is other.
    let bad : true ≡ false = sym (ap may_put c.in-Explain.is) ∙ other in
    absurd cc

pub returns-in-ExplainFile-clause-nothing : goal.returns-in-ExplainFile-clause-nothing
returns-in-ExplainFile-clause-nothing g c = λ is other.
    let bad : true ≡ false = sym (ap may_put c.in-ExplainFile.is) ∙ other in
    absurd cc

pub returns-in-Show-clause-explained : goal.returns-in-Show-clause-explained
returns-in-Show-clause-explained g c = λ is other.
    let bad : false ≡ true = sym (ap explains c.in-Show.is) ∙ other in
    absurd cc

pub returns-in-Summarise-clause-explained : goal.returns-in-Summarise-clause-explained
returns-in-Summarise-clause-explained g c = λ is other.
    let bad : false ≡ true = sym (ap explains c.in-Summarise.is) ∙ other in
    absurd cc

pub returns-in-Draw-clause-explained : goal.returns-in-Draw-clause-explained
returns-in-Draw-clause-explained g c = λ is other.
    let bad : false ≡ true = sym (ap explains c.in-Draw.is) ∙ other in
    absurd cc

pub returns-in-ExplainFile-clause-output : goal.returns-in-ExplainFile-clause-output
returns-in-ExplainFile-clause-output g c = λ is.
    let old = g.W.Write.contents c.args.out.now in
    let new = g.W.Write.contents c.print_judged.new.out in
    subst (λ (plan : Plan). IsOutput plan old new) (sym c.in-ExplainFile.is) (c.print_judged.ensures.output is)

pub returns-in-Decide-clause-no_text : goal.returns-in-Decide-clause-no_text
returns-in-Decide-clause-no_text g c = λ input there not_text.
    let one : length c.args.inputs.now ≡ 1 = c.requires ∙ ap (λ (plan : Plan). length (input_paths plan)) c.in-Decide.is in
    let read = only_one c.args.inputs.now c.index-inputs-0-in-Decide.result input one c.index-inputs-0-in-Decide.is there in
    c.print_decided.ensures.no_text (λ text. not_text (subst (λ (bytes : List ℕ). IsUtf8 bytes) (c.as_slice-in-Decide.ensures.value ∙ ap (λ (bytes : Vec ℕ Global). bytes.items) read) text))

pub returns-in-Decide-clause-done : goal.returns-in-Decide-clause-done
returns-in-Decide-clause-done g c = λ is input there.
    let read = first_is c.args.inputs.now c.index-inputs-0-in-Decide.result input c.index-inputs-0-in-Decide.is there in
    let same : c.as_slice-in-Decide.result.now ≡ input.items = c.as_slice-in-Decide.ensures.value ∙ ap (λ (bytes : Vec ℕ Global). bytes.items) read in
    subst (λ (plan : Plan). IsAsAsked plan input.items) (sym c.in-Decide.is) (subst (λ (bytes : List ℕ). IsManifest bytes) same (c.print_decided.ensures.done is))

pub returns-in-Decide-clause-refused : goal.returns-in-Decide-clause-refused
returns-in-Decide-clause-refused g c = λ is input there.
    let read = first_is c.args.inputs.now c.index-inputs-0-in-Decide.result input c.index-inputs-0-in-Decide.is there in
    let same : c.as_slice-in-Decide.result.now ≡ input.items = c.as_slice-in-Decide.ensures.value ∙ ap (λ (bytes : Vec ℕ Global). bytes.items) read in
    subst (λ (plan : Plan). IsFaulty plan input.items) (sym c.in-Decide.is) (subst (λ (bytes : List ℕ). IsFaultyManifest bytes) same (c.print_decided.ensures.refused is))

pub returns-in-Decide-clause-decided : goal.returns-in-Decide-clause-decided
returns-in-Decide-clause-decided g c = λ is input there.
    let old = g.W.Write.contents c.args.out.now in
    let new = g.W.Write.contents c.print_decided.new.out in
    let read = first_is c.args.inputs.now c.index-inputs-0-in-Decide.result input c.index-inputs-0-in-Decide.is there in
    let same : c.as_slice-in-Decide.result.now ≡ input.items = c.as_slice-in-Decide.ensures.value ∙ ap (λ (bytes : Vec ℕ Global). bytes.items) read in
    subst (λ (plan : Plan). IsPlanDecided plan input.items old new) (sym c.in-Decide.is)
    (subst (λ (bytes : List ℕ). IsDecided c.in-Decide.extent c.in-Decide.question bytes old new) same (c.print_decided.ensures.decided is))

pub returns-in-Try-clause-done : goal.returns-in-Try-clause-done
returns-in-Try-clause-done g c = λ is input there. subst (λ (plan : Plan). IsAsAsked plan input.items) (sym c.in-Try.is) (c.print_tried.ensures.manifest is input there)

pub returns-in-Try-clause-tried : goal.returns-in-Try-clause-tried
returns-in-Try-clause-tried g c = λ is first second here there.
    let old = g.W.Write.contents c.args.out.now in
    let new = g.W.Write.contents c.print_tried.new.out in
    let kept-old = g.K.Write.contents c.args.kept.now in
    let kept-new = g.K.Write.contents c.print_tried.new.kept in
    subst (λ (plan : Plan). IsPlanTried plan first.items second.items old new kept-old kept-new) (sym c.in-Try.is)
    (subst (λ (plan : Plan). IsTriedOut (kept_path plan) first.items second.items old new kept-old kept-new) c.in-Try.is (c.print_tried.ensures.done is first second here there))

pub returns-in-Try-clause-left : goal.returns-in-Try-clause-left
returns-in-Try-clause-left g c = λ is first second here there.
    let old = g.W.Write.contents c.args.out.now in
    let new = g.W.Write.contents c.print_tried.new.out in
    let kept-old = g.K.Write.contents c.args.kept.now in
    let kept-new = g.K.Write.contents c.print_tried.new.kept in
    subst (λ (plan : Plan). IsPlanLeft plan first.items second.items old new kept-old kept-new) (sym c.in-Try.is)
    (subst (λ (plan : Plan). IsLeft (kept_path plan) first.items second.items old new kept-old kept-new) c.in-Try.is (c.print_tried.ensures.left is first second here there))

pub returns-in-Try-clause-nothing : goal.returns-in-Try-clause-nothing
returns-in-Try-clause-nothing g c = λ is other.
    let bad : true ≡ false = sym (ap may_put c.in-Try.is) ∙ other in
    absurd cc

pub returns-in-Try-clause-explained : goal.returns-in-Try-clause-explained
returns-in-Try-clause-explained g c = λ is other.
    let bad : false ≡ true = sym (ap explains c.in-Try.is) ∙ other in
    absurd cc
