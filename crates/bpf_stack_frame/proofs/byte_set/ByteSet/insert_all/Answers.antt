use Rattle.std.proofs.Common.{◌≡◌, ◌+◌, ◌-◌, ◌%◌, Bool, List, length, ap, sym, ◌∙◌, arith}
use Rattle.bpf_stack_frame.specs.ByteSet.{with_all}
use Rattle.bpf_stack_frame.proofs.Sets.{with_all_none, with_all_twice}
use Rattle.bpf_stack_frame.proofs.Words.{length-set_of}
use Rattle.bpf_stack_frame.proofs.byte_set.ByteSet.insert_all.Goals as goal

pub returns-then-count-eq0 : goal.returns-then-count-eq0
returns-then-count-eq0 c =
    sym (with_all_none c.args.self.now c.args.offset) ∙ ap (with_all c.args.self.now c.args.offset) (sym c.if-count-eq0.true)

pub returns-else-count-room : goal.returns-else-count-room
returns-else-count-room c =
    let old = c.args.self.now in
    let offset = c.args.offset in
    let room = 64 - offset % 64 in
    let long : length old ≡ 512 = sym (ap (λ (bytes : List Bool). length bytes) c.self.view_is) ∙ length-set_of c.self.inside.words in
    let inside = c.requires.inside in
    let more = c.if-count-room.false in
    let parts : room + (c.args.count - room) ≡ c.args.count = omega arith in
    c.insert_in_word-else-count-room-2.ensures
    ∙ ap (λ (bytes : List Bool). with_all bytes (offset + room) (c.args.count - room)) c.insert_in_word-else-count-room.ensures
    ∙ with_all_twice old offset room (c.args.count - room) (omega arith)
    ∙ ap (with_all old offset) parts
