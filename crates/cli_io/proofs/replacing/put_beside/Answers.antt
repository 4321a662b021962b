use Rattle.std.proofs.Common.{◌∙◌, List, None, ℕ, subst, sym}
use Rattle.cli_io.specs.Replacing.{At, Done, Drafting, Seen, new_draft}
use Rattle.cli_io.proofs.Stages.{removed_there, settled_there}
use Rattle.cli_io.proofs.replacing.put_beside.Goals as goal

pub returns-in-Ok : goal.returns-in-Ok
returns-in-Ok g c = λ path base at.
    let bytes = c.args.bytes.now in
    let made = c.in_ok-name.ensures path bytes base at in
    let named = subst (λ (n : List ℕ). At path bytes base (g.F.Folder.steps c.create_beside.new.folder) (Drafting (new_draft c.args.out.now c.args.look n))) (sym c.as_str.ensures.value) made in
    (Done c.args.out.now, settled_there path bytes base _ _ c.args.out.now (c.in-Ok.ensures path base named) c.settle.ensures, tt)

pub returns : goal.returns
returns g c = λ path base at.
    let bytes = c.args.bytes.now in
    let made = c.in_ok-name.ensures path bytes base at in
    let named = subst (λ (n : List ℕ). At path bytes base (g.F.Folder.steps c.create_beside.new.folder) (Drafting (new_draft c.args.out.now c.args.look n))) (sym c.as_str.ensures.value) made in
    let left = c.in-Err.ensures path base named in
    (Seen left.0.out left.0.look None, removed_there path bytes base _ _ left.0 _ left.1 c.remove.ensures (c.as_str-in-Err.ensures.value ∙ sym c.as_str.ensures.value ∙ sym left.2), tt)
