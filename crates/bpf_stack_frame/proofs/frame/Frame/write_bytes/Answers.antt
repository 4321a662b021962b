use Rattle.std.proofs.Common.{ℕ, Bool, List, ◌≡◌, ◌+◌, ◌-◌, length, ap, sym, subst, ◌∙◌}
use borrow.Rule.Slice.PartMut.{put_mid}
use Rattle.bpf_stack_frame.specs.ByteSet.{with_all}
use Rattle.bpf_stack_frame.specs.Frame.{written_at}
use Rattle.bpf_stack_frame.specs.FrameBytes.{frame_of, AreFrame}
use Rattle.bpf_stack_frame.proofs.FrameLists.{pasted, frame_of-pasted, pasted_kept, put_mid_is}
use Rattle.bpf_stack_frame.proofs.frame.Frame.write_bytes.Goals as goal

-- the bytes that are left
bytes_left : (bytes new now : List ℕ) (offset : ℕ) → now ≡ new → put_mid offset (offset + length new - offset) bytes now ≡ pasted offset new bytes
bytes_left bytes new now offset same =
    ap (λ (l : List ℕ). put_mid offset (offset + length new - offset) bytes l) same ∙ put_mid_is bytes new offset

pub invariant_of-self : goal.invariant_of-self
invariant_of-self c =
    let new = c.args.bytes.now in
    let offset = c.args.offset in
    let written = with_all c.self.inside.written offset (length new) in
    let kept : AreFrame (pasted offset new c.self.inside.bytes) written = pasted_kept c.self.inside.bytes c.self.inside.written offset new c.self.invariant c.requires.inside in
    subst (λ (set : List Bool). AreFrame (put_mid offset (offset + length new - offset) c.self.inside.bytes c.copy_from_slice.new.self) set) (sym c.insert_all.ensures)
    (subst (λ (bytes : List ℕ). AreFrame bytes written) (sym (bytes_left c.self.inside.bytes new c.copy_from_slice.new.self offset c.copy_from_slice.ensures.after)) kept)

pub returns : goal.returns
returns c =
    let new = c.args.bytes.now in
    let offset = c.args.offset in
    ap (λ (bytes : List ℕ). frame_of bytes c.insert_all.new.self) (bytes_left c.self.inside.bytes new c.copy_from_slice.new.self offset c.copy_from_slice.ensures.after)
    ∙ ap (frame_of (pasted offset new c.self.inside.bytes)) c.insert_all.ensures
    ∙ frame_of-pasted c.self.inside.bytes c.self.inside.written offset new c.self.invariant c.requires.inside
    ∙ ap (written_at offset new) c.self.view_is
