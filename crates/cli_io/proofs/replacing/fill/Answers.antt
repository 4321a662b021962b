use Rattle.std.proofs.Common.{false, refl}
use Rattle.std.proofs.lemmas.Result.{err_from_is_err_and}
use Rattle.cli_io.specs.Replacing.{Drafting, draft_of, new_draft}
use Rattle.cli_io.proofs.Stages.{at_stays, front_of_all, moved_or_not, synced_there}
use Rattle.cli_io.proofs.replacing.fill.Goals as goal

pub returns-in_err-sync : goal.returns-in_err-sync
returns-in_err-sync g c = λ path base at.
    let out = c.args.out.now in
    let look = c.args.look in
    let name = c.args.name.now in
    let bytes = c.args.bytes.now in
    let written = c.in_ok-write_all.ensures path bytes base (Drafting (new_draft out look name)) (refl, front_of_all bytes) at in
    let dressed = c.in_ok-dress.ensures path bytes out name base written in
    let p = err_from_is_err_and c.from_residual-in_err-sync.result c.from_residual-in_err-sync.ensures.1 in
    rw p.1 (draft_of out look name bytes dressed.0 false, at_stays path bytes base _ _ _ dressed.2 c.in_err-sync.ensures, refl)

pub returns : goal.returns
returns g c = λ path base at.
    let out = c.args.out.now in
    let look = c.args.look in
    let name = c.args.name.now in
    let bytes = c.args.bytes.now in
    let written = c.in_ok-write_all.ensures path bytes base (Drafting (new_draft out look name)) (refl, front_of_all bytes) at in
    let dressed = c.in_ok-dress.ensures path bytes out name base written in
    moved_or_not path bytes base _ _ out look name dressed.0 _ (synced_there path bytes base _ _ out look name dressed.0 dressed.2 c.in_ok-sync.ensures) dressed.1 c.rename.ensures
