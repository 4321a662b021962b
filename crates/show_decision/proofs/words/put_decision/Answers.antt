use Rattle.std.proofs.Common.{◌++◌, List, refl, subst}
use Rattle.std.specs.List.{flat_map}
use Rattle.cli_text_page.specs.Page.{Puts}
use Rattle.show_account.proofs.Putting.{puts_both}
use Rattle.host_decision.specs.declared.decision.LeftFreeze.{LeftFreeze}
use Rattle.show_decision.specs.Words.{advised_text, last_text, other_text, own_text, traced_text}
use Rattle.show_decision.proofs.words.put_decision.Goals as goal

pub returns : goal.returns
returns c =
    let decision = c.args.decision.now in
    let end = c.put_end.ensures in
    let advised = advised_text decision.advice in
    let own = own_text decision.freeze in
    let others = flat_map other_text decision.others.items in
    let traced = flat_map traced_text c.args.records.now in
    let others_put : Puts c.put_own.new.page others c.put_others.new.page =
    subst (λ (its : List LeftFreeze). Puts c.put_own.new.page (flat_map other_text its) c.put_others.new.page) c.deref.ensures.value c.put_others.ensures in (
      end.0 ++ last_text decision c.args.records.now,
      (end.0, end.1, refl),
      puts_both c.args.page.now c.put_end.new.page c.put_all_traced.new.page end.0 (advised ++ (own ++ (others ++ traced))) end.2
          (puts_both c.put_end.new.page c.put_advised.new.page c.put_all_traced.new.page advised (own ++ (others ++ traced)) c.put_advised.ensures
          (puts_both c.put_advised.new.page c.put_own.new.page c.put_all_traced.new.page own (others ++ traced) c.put_own.ensures
          (puts_both c.put_own.new.page c.put_others.new.page c.put_all_traced.new.page others traced others_put c.put_all_traced.ensures))),
    )
