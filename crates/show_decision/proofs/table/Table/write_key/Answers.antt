use Rattle.std.proofs.Common.{◌≡◌, ◌<◌, ℕ, Global, List, arith, get_or, length, map, string_bytes, subst, sym}
use Rattle.std.specs.Io.KnownBytes.{Appends}
use Rattle.std.proofs.lemmas.List.{length-map}
use Rattle.std.proofs.lemmas.Result.{on_ok_weaker}
use Rattle.show_decision.specs.Rows.{AreRowsOf, IsUsual}
use Rattle.show_decision.specs.RowTexts.{key_rows_text}
use Rattle.show_decision.specs.Table.{heading_of}
use Rattle.show_decision.specs.declared.rows.Row.{Row}
use Rattle.show_decision.specs.declared.writing.Heading.{Heading}
use Rattle.show_decision.proofs.Keys.{key_so, numbers_within}
use Rattle.show_decision.proofs.table.Table.write_key.Goals as goal

pub most_frequent-requires-clause-each : goal.most_frequent-requires-clause-each
most_frequent-requires-clause-each g c =
    let it = c.args.self.now in
    let decisions = c.in_ok-decisions.decisions in
    let texts = map (string_bytes {Z = Global}) decisions.texts.items in
    let count : c.len.result ≡ length texts = omega (arith, c.len.ensures, decisions.texts.ok.0, length-map decisions.texts.items (string_bytes {Z = Global})) in
    subst (λ (numbers : List ℕ). (code : ℕ) → code < length numbers → get_or numbers code 0 < c.len.result) (sym c.deref.ensures.value)
    (subst (λ (many : ℕ). (code : ℕ) → code < length decisions.numbers.items → get_or decisions.numbers.items code 0 < many) (sym count)
    (numbers_within it.config.now it.lines.items it.failure it.response c.args.key decisions.numbers.items texts c.in_ok-decisions.ensures.decided))

pub returns : goal.returns
returns g c =
    let it = c.args.self.now in
    let decisions = c.in_ok-decisions.decisions in
    let numbers = decisions.numbers.items in
    let texts = map (string_bytes {Z = Global}) decisions.texts.items in
    let usual = c.in_ok-usual.usual in
    let rows = c.in_ok-rows.rows.items in
    let old = g.W.Write.contents c.args.out.now in
    let new = g.W.Write.contents c.write_key_rows.new.out in
    let are : AreRowsOf numbers usual (length numbers) rows = subst (λ (its : List ℕ). AreRowsOf its usual (length its) rows) c.deref-2.ensures.value c.in_ok-rows.ensures in
    let most : IsUsual numbers usual = subst (λ (its : List ℕ). IsUsual its usual) c.deref.ensures.value c.in_ok-usual.ensures in
    let text = key_rows_text (heading_of it.failure it.response c.args.key) texts usual rows in
    on_ok_weaker c.write_key_rows.result
    (λ (out : Appends old new (key_rows_text c.heading-heading.result texts usual c.deref-3.result.now)). (
      text,
      key_so it.config.now it.lines.items it.failure it.response c.args.key usual numbers texts rows c.in_ok-decisions.ensures.decided c.in_ok-decisions.ensures.apart are most,
      subst (λ (heading : Heading). Appends old new (key_rows_text heading texts usual rows)) c.heading-heading.ensures
          (subst (λ (its : List Row). Appends old new (key_rows_text c.heading-heading.result texts usual its)) c.deref-3.ensures.value out),
    )) c.write_key_rows.ensures
