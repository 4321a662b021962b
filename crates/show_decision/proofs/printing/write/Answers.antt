use Rattle.std.proofs.Common.{◌≡◌, ◌∙◌, ◌++◌, ℕ, List, ap, string_bytes, subst}
use Rattle.std.specs.Io.KnownBytes.{Appends}
use Rattle.show_decision.proofs.Written.{appends_both}
use Rattle.show_decision.proofs.printing.write.Goals as goal

pub returns : goal.returns
returns g c =
    let last = c.put_last.ensures in
    let calls = c.in_ok-write_calls.ensures in
    let written = c.in_ok-write_to.ensures.written in
    let text_is : string_bytes c.put_last.new.page.text ≡ last.0 =
    (last.2 written.0).1 ∙ ap (λ (t : List ℕ). t ++ last.0) c.new-page.ensures.1 in
    record {
      lines = c.args.told.lines.items;
      are = c.requires.lines;
      decided = c.args.told.decided;
      is = c.requires.decided;
      account = calls.0;
      last = last.0;
      is_last = last.1;
      output = appends_both (g.W.Write.contents c.args.out.now) (g.W.Write.contents c.write_calls.new.out) (g.W.Write.contents c.write_to.new.out) calls.0 last.0 calls.1
          (subst (Appends (g.W.Write.contents c.write_calls.new.out) (g.W.Write.contents c.write_to.new.out)) text_is written.1);
    }
