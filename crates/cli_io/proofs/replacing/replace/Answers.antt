use Rattle.std.proofs.Common.{List, None, ℕ, refl, subst, sym}
use Rattle.std.proofs.lemmas.Result.{err_from_is_err_and}
use Rattle.cli_io.specs.declared.folder.Look.{Look}
use Rattle.cli_io.specs.Replacing.{At, AtOut, Begun, Seen}
use Rattle.cli_io.proofs.Stages.{at_stays, begun_there, led_there, looked_there}
use Rattle.cli_io.proofs.replacing.replace.Goals as goal

pub returns-in_err-led : goal.returns-in_err-led
returns-in_err-led g c =
    let path = c.args.path.now in
    let bytes = c.args.bytes.now in
    let base = g.F.Folder.steps c.args.folder.now in
    let p = err_from_is_err_and c.from_residual.result c.from_residual.ensures.1 in
    rw p.1 (Begun, at_stays path bytes base _ _ _ (begun_there path bytes base) c.in_err-led.ensures, tt)

pub returns-in_err-look : goal.returns-in_err-look
returns-in_err-look g c =
    let path = c.args.path.now in
    let bytes = c.args.bytes.now in
    let base = g.F.Folder.steps c.args.folder.now in
    let p = err_from_is_err_and c.from_residual-in_err-look.result c.from_residual-in_err-look.ensures.1 in
    let led = led_there path bytes base _ _ _ (begun_there path bytes base) c.in_ok-led.ensures in
    rw p.1 (AtOut _, at_stays path bytes base _ _ _ led c.in_err-look.ensures, tt)

pub returns-in-Stream : goal.returns-in-Stream
returns-in-Stream g c =
    let path = c.args.path.now in
    let bytes = c.args.bytes.now in
    let base = g.F.Folder.steps c.args.folder.now in
    let led = led_there path bytes base _ _ _ (begun_there path bytes base) c.in_ok-led.ensures in
    let there = subst (λ (o : List ℕ). At path bytes base (g.F.Folder.steps c.lead.new.self) (AtOut o)) (sym c.as_str-out.ensures.value) led in
    let seen = looked_there path bytes base _ _ _ _ _ there c.in_ok-look.ensures refl in
    c.pour.ensures path base (subst (λ (l : Look). At path bytes base (g.F.Folder.steps c.look.new.self) (Seen c.as_str-out.result.now l None)) c.in-Stream.is seen)

pub returns : goal.returns
returns g c =
    let path = c.args.path.now in
    let bytes = c.args.bytes.now in
    let base = g.F.Folder.steps c.args.folder.now in
    let led = led_there path bytes base _ _ _ (begun_there path bytes base) c.in_ok-led.ensures in
    let there = subst (λ (o : List ℕ). At path bytes base (g.F.Folder.steps c.lead.new.self) (AtOut o)) (sym c.as_str-out.ensures.value) led in
    c.put_beside.ensures path base (looked_there path bytes base _ _ _ _ _ there c.in_ok-look.ensures refl)
