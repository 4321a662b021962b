-- What a setup takes over changes neither which worlds may be taken over by it nor whether it is lawful.
use Rattle.std.proofs.Common.{Option}
use Rattle.std.specs.Prelude.{All}
use Rattle.world.specs.World.{Setup, World}
use Rattle.world.specs.Beginning.{IsBeginning, IsCarriedFreeze}
use Rattle.world.specs.Lawful.{IsLawful}

pub lawful_over : (setup : Setup) (carried : Option World) → IsLawful setup → IsLawful (record setup { carried = carried })
lawful_over setup carried lawful = record { queue_number = lawful.queue_number; agreed = lawful.agreed; under = lawful.under; queues = lawful.queues; tables = record { lengths = lawful.tables.lengths; words = lawful.tables.words; zero = lawful.tables.zero } }

pub begins_over : (setup : Setup) (carried : Option World) (world : World) → IsBeginning setup world → IsBeginning (record setup { carried = carried }) world
begins_over setup carried world begins =
    let limits = begins.limits in
    let its : All (IsCarriedFreeze (record setup { carried = carried })) world.transport.freezes = λ k d below. record { place = (begins.freezes k d below).place; holder = (begins.freezes k d below).holder } in
    record {
      limits = record {
        freezes = record { places = λ agreed k d below. (its k d below).place; a_place = limits.freezes.a_place; ledger = limits.freezes.ledger; numbered = limits.freezes.numbered; numbers = limits.freezes.numbers };
        ccbs = record { queues = limits.ccbs.queues; plain = limits.ccbs.plain; a_queue = limits.ccbs.a_queue; all = limits.ccbs.all; rising = limits.ccbs.rising; numbers = limits.ccbs.numbers };
        runs = record { queues = limits.runs.queues; controllers = limits.runs.controllers; programs = limits.runs.programs; all = limits.runs.all; rising = limits.runs.rising; numbers = limits.runs.numbers };
        answers = record { queues = limits.answers.queues; openings = limits.answers.openings; lengths = limits.answers.lengths; words = limits.answers.words; clock = limits.answers.clock };
      };
      ccbs = begins.ccbs;
      freezes = its;
      no_run = begins.no_run;
      none_ended = begins.none_ended;
    }
