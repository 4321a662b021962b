use Rattle.std.proofs.Common.{ℕ, ◌<◌, List, [], length, get_or, ap, sym, ◌∙◌, arith}
use Rattle.std.specs.Global.{Global}
use Rattle.std.specs.declared.vec.Vec.{Vec}
use Rattle.std.proofs.lemmas.List.{get_or-map, length-map}
use Rattle.engine_config.specs.Configured.{firsts_of}
use Rattle.engine_config.proofs.Firsts.{are_words, room_for_one_more}
use Rattle.engine_config.proofs.config.have_room.Goals as goal

pub loop-number-preserved : goal.loop-number-preserved
loop-number-preserved c =
    let there : c.loop-number.number < length c.args.tables.now = omega (arith, c.loop-number-test.true) in
    let inside : c.loop-number.number < length (firsts_of c.args.tables.now) = omega (arith, there, length-map c.args.tables.now (λ (words : Vec ℕ Global). words.items)) in
    room_for_one_more c.args.limits.now.table_lengths (firsts_of c.args.tables.now) c.loop-number.number c.as_slice-words.result.now c.from.result inside
    (c.as_slice-words.ensures.value
    ∙ (ap (λ (words : Vec ℕ Global). words.items) c.index-tables-number.is
    ∙ sym (get_or-map (λ (words : Vec ℕ Global). words.items) c.args.tables.now c.loop-number.number c.index-tables-number.result [] there)))
    (c.from.ensures ∙ ap (λ (lengths : List ℕ). get_or lengths c.loop-number.number 0) c.as_slice-lengths.ensures)
    (omega (arith, c.if-words-from.false)) c.words_fit.ensures c.loop-number.invariant

pub returns-clause-known : goal.returns-clause-known
returns-clause-known c _ =
    are_words c.args.limits.now.table_lengths (firsts_of c.args.tables.now) c.loop-number.number
    (omega (arith, c.loop-number-test.false, length-map c.args.tables.now (λ (words : Vec ℕ Global). words.items))) c.loop-number.invariant
