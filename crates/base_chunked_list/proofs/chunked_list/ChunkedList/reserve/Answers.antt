use Rattle.std.proofs.Common.{sym, ◌∙◌, arith, true≢false}
use Rattle.base_chunked_list.proofs.Chunks.{count_from, room_is}
use Rattle.base_chunked_list.proofs.chunked_list.ChunkedList.reserve.Goals as goal

pub returns-then-has_room-clause-room : goal.returns-then-has_room-clause-room
returns-then-has_room-clause-room g c = rw (← c.self.view_is) ((room_is c.self.inside.gone c.self.inside.full c.self.inside.last c.self.inside.spare c.args.more c.self.invariant).0 (c.has_room.ensures.value.0 c.if-has_room.true))

pub returns-in_err-chunk-clause-had_room : goal.returns-in_err-chunk-clause-had_room
returns-in_err-chunk-clause-had_room g c =
    rw (← c.self.view_is)
    (λ room. absurd (true≢false (sym (c.has_room.ensures.value.1 ((room_is c.self.inside.gone c.self.inside.full c.self.inside.last c.self.inside.spare c.args.more c.self.invariant).1 room)) ∙ c.if-has_room.false)))

pub returns-clause-room : goal.returns-clause-room
returns-clause-room g c =
    rw (c.chunk_for.ensures.items, c.replace.ensures.after) ((let left = count_from c.self.inside.gone c.self.inside.full c.self.inside.last c.self.inside.spare c.self.invariant in omega (arith, left.0, left.1)))

pub returns-clause-had_room : goal.returns-clause-had_room
returns-clause-had_room g c =
    rw (← c.self.view_is)
    (λ room. absurd (true≢false (sym (c.has_room.ensures.value.1 ((room_is c.self.inside.gone c.self.inside.full c.self.inside.last c.self.inside.spare c.args.more c.self.invariant).1 room)) ∙ c.if-has_room.false)))
