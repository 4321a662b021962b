use Rattle.std.proofs.Common.{◌≡◌, ◌<◌, ◌≤◌, ◌+◌, ℕ, Bool, List, [], length, set, get_or, subst, sym, ap, ◌∙◌, arith}
use Rattle.std.specs.Prelude.{slice_index_or}
use Rattle.std.proofs.lemmas.List.{get_or_default}
use Rattle.bpf_stack_frame.specs.ByteSet.{with_all}
use Rattle.stack_domain.specs.Sets.{AreSets}
use Rattle.stack_domain.specs.Stack.{MarksCover, AreWritten}
use Rattle.stack_domain.specs.Stores.{stored}
use Rattle.stack_domain.proofs.Stores.{covers_stored, stored_written}
use Rattle.stack_domain.proofs.Places.{kept_marked}
use Rattle.stack_domain.proofs.Covered.{with_marks, covers_before, covers_after}
use Rattle.stack_domain.proofs.stack.Stack.mark.Goals as goal

-- the frame's set is read, changed and put back
marked : (sets stack : List (List Bool)) (frame offset count : ℕ) (read new : List Bool) → sets ≡ stack → frame < length stack
    → read ≡ slice_index_or sets frame read → new ≡ with_all read offset count → set sets frame new ≡ with_marks stack frame offset count
marked sets stack frame offset count read new view live at made =
    let there : read ≡ slice_index_or stack frame [] = at ∙ ap (λ (s : List (List Bool)). get_or s frame read) view ∙ get_or_default stack frame read [] live in
    ap (λ (b : List Bool). set sets frame b) (made ∙ ap (λ (b : List Bool). with_all b offset count) there)
    ∙ ap (λ (s : List (List Bool)). set s frame (with_all (slice_index_or stack frame []) offset count)) view

pub invariant_of-self : goal.invariant_of-self
invariant_of-self c =
    let stack = c.args.self.now in
    let is = marked c.self.inside.sets stack c.args.frame c.args.offset c.args.count c.at.result.now c.insert_all.new.self c.self.view_is c.requires.live c.at.ensures c.insert_all.ensures in
    subst AreSets (sym (c.set.ensures ∙ is)) (kept_marked stack (subst AreSets c.self.view_is c.self.invariant) c.args.frame c.args.offset c.args.count c.requires.live c.requires.inside)

pub returns-clause-covers : goal.returns-clause-covers
returns-clause-covers c frames =
    let stack = c.args.self.now in
    let frame = c.args.frame in
    let offset = c.args.offset in
    let count = c.args.count in
    let live = c.requires.live in
    let are : AreSets stack = subst AreSets c.self.view_is c.self.invariant in
    let inside : offset + count ≤ length (slice_index_or stack frame []) = omega (arith, are.whole frame live, c.requires.inside) in
    let is = c.set.ensures ∙ marked c.self.inside.sets stack frame offset count c.at.result.now c.insert_all.new.self c.self.view_is live c.at.ensures c.insert_all.ensures in
    let CoversThem : List (List Bool) → Type 0 = λ s. MarksCover s frames in (
      λ covers. covers_before stack frame offset count live inside frames (subst CoversThem is covers),
      λ both. subst CoversThem (sym is) (covers_after stack frame offset count live inside frames both.0 both.1),
    )

pub returns-clause-stored : goal.returns-clause-stored
returns-clause-stored c frames bytes covers many =
    let frame = c.args.frame in
    let offset = c.args.offset in
    let live : frame < length frames = omega (arith, covers.depth, c.requires.live) in
    let inside : offset + length bytes ≤ 512 = omega (arith, c.requires.inside) in
    let are : AreWritten (stored frames frame offset bytes) frame offset (offset + c.args.count) =
    subst (λ (n : ℕ). AreWritten (stored frames frame offset bytes) frame offset (offset + n)) many
    (stored_written c.args.self.now frames covers frame offset bytes live inside) in
    (returns-clause-covers c (stored frames frame offset bytes)).1 (covers_stored c.args.self.now frames covers frame offset bytes live inside, are)
