use Rattle.std.proofs.Common.{◌≡◌, ◌≢◌, ◌<◌, List, drop, length, rules, arith, refl, ap, subst, sym, inr, ◌∙◌}
use Rattle.world_calls.specs.declared.carried_line.CarriedLine.{CarriedLine}
use Rattle.host_embedding.specs.declared.call_result.CallResult.{CallResult}
use Rattle.host_embedding.specs.declared.call_result.CallResult.TheVariants.{Done, NoRoom, NoText, Taken}
use Rattle.carried_lines.specs.CarriedText.{carried_text}
use Rattle.host_embedding.specs.Lines.{first_line, FindsNoRoom}
use Rattle.host_embedding.proofs.Lines.{finds_moved, same_behind}
use Rattle.host_embedding.proofs.continued.put_from.Goals.{then-from-eq0+else-not-finds_room+in-Some, else-from-eq0}
use Rattle.host_embedding.proofs.continued.put_from.Goals as goal

-- lines that are there are never told to be taken
never_taken : (result : CallResult) (fact : Type 0) → (result ≢ NoRoom → result ≢ Done → (result ≡ NoText) × fact) → result ≡ Taken → ⊥
never_taken result fact others told =
    let other = others (λ e. let bad : Taken ≡ NoRoom = sym told ∙ e in cc) (λ e. let bad : Taken ≡ Done = sym told ∙ e in cc) in
    let bad : Taken ≡ NoText = sym told ∙ other.0 in
    cc

pub returns-clause-lines : goal.returns-clause-lines
returns-clause-lines c =
    let before = c.if-from-eq0.place in
    let started = c.if-from-eq0.put in
    let written = c.put_rest.new.put.written in
    let later = c.put_rest.new.place in
    elim c.if-from-eq0.branch [
      | then-from-eq0+else-not-finds_room+in-Some w ↦
          let first = w.as_bytes-text.result.now in
          let number : started.next ≡ 0 = search rules in
          let count : started.written ≡ length first = search rules in
          let size : length later ≡ length c.args.place.now = search rules in (
            search rules,
            λ told.
                let none = c.put_rest.ensures.none told in
                let some : 0 < length c.args.lines.now = (let within = none.2 in omega (arith, within, number)) in
                absurd (w.finds_room.ensures.room w.if-not-finds_room.false some
                (finds_moved (carried_text c.args.version) c.args.lines.now started.next 0 started.written (length first) later c.args.place.now number count size none.3)),
            search rules,
            search rules,
            (let begun : drop started.written before ≡ drop started.written c.args.place.now = search rules in
                same_behind c.args.place.now before later started.written written c.put_rest.ensures.behind.0 begun c.put_rest.ensures.behind.1),
            (λ told. absurd (never_taken c.put_rest.result _ c.put_rest.ensures.others told)),
            (λ below. absurd (omega (arith, below))),
          )
      | else-from-eq0 w ↦ (
        search rules,
        λ told.
            let none = c.put_rest.ensures.none told in
            let same = c.put_rest.ensures.same told in
            let count : started.written ≡ length (first_line c.args.first.now c.args.from) = search rules in
            let number : started.next ≡ c.args.from = search rules in
            let items : c.args.lines.now ≡ c.args.lines.now = search rules in
            let moved = finds_moved (carried_text c.args.version) c.args.lines.now started.next c.args.from started.written (length (first_line c.args.first.now c.args.from)) later later number count refl none.3 in (
              search (rules, none),
              search (rules, none, number),
              same ∙ w.place-is,
              inr (
                (let within = none.2 in omega (arith, within, number, ap length items)),
                subst (λ (its : List CarriedLine). FindsNoRoom (carried_text c.args.version) its c.args.from later (length (first_line c.args.first.now c.args.from))) items moved,
              ),
            ),
        search rules,
        search rules,
        c.put_rest.ensures.behind.1 ∙ ap (drop written) w.place-is,
        (λ told. absurd (never_taken c.put_rest.result _ c.put_rest.ensures.others told)),
        (λ below. absurd (omega (arith, below))),
      )
    ]
