use Rattle.std.proofs.Common.{ap, refl}
use Rattle.world.specs.World.{Setup, queue_count}
use Rattle.engine_carried.proofs.Adding.{parts_left}
use Rattle.engine_carried.proofs.Free.{fits_both, left_begins}
use Rattle.engine_carried.proofs.fitting.fits.Goals as goal

pub leaves_what_fits-requires-clause-openings : goal.leaves_what_fits-requires-clause-openings
leaves_what_fits-requires-clause-openings c =
    (parts_left c.args.engine.now c.config.result.now c.transport.result.now c.args.engine.now.world.runs c.transport.ensures.run c.requires c.config.ensures c.transport.ensures.value refl).0.openings

pub leaves_what_fits-requires-clause-ccbs : goal.leaves_what_fits-requires-clause-ccbs
leaves_what_fits-requires-clause-ccbs c =
    (parts_left c.args.engine.now c.config.result.now c.transport.result.now c.args.engine.now.world.runs c.transport.ensures.run c.requires c.config.ensures c.transport.ensures.value refl).0.ccbs

pub returns : goal.returns
returns c =
    let both = fits_both c.args.engine.now.setup c.args.config.now c.args.engine.now.world c.transport.result.now (queue_count c.args.config.now) (queue_count c.config.result.now) c.args.config.now.controllers c.config.result.now.controllers
    (left_begins c.args.engine.now c.transport.ensures.run c.requires) c.transport.ensures.value refl (ap (λ (s : Setup). queue_count s) c.config.ensures) refl (ap (λ (s : Setup). s.controllers) c.config.ensures) in
    (λ free. both.0 (c.leaves_what_fits.ensures.0 free), λ fits. c.leaves_what_fits.ensures.1 (both.1 fits))
