use Rattle.std.proofs.Common.{refl}
use Rattle.check_description.proofs.KeptNumbers.{number_kept, number_stored}
use Rattle.check_description.proofs.description.Description.store_number_in.Goals as goal

pub returns-then-has_room-clause-stores : goal.returns-then-has_room-clause-stores
returns-then-has_room-clause-stores c =
    number_kept c.args.self.now c.write_in.new.self c.keep.new.self (record { frame = c.args.frame; offset = c.args.offsets.least; bytes = c.args.bytes }) c.args.offsets c.args.number
    c.requires.live c.if-offsets.true refl c.requires.inside c.write_in.ensures.writes (c.has_room.ensures c.if-has_room.true) c.keep.ensures

pub returns-then-has_room-clause-leaves : goal.returns-then-has_room-clause-leaves
returns-then-has_room-clause-leaves c = λ from is.
    let marked = c.write_in.ensures.leaves from is in
    record {
      registers = marked.registers;
      unspilled = marked.unspilled;
      depth = marked.depth;
      written = marked.written;
      known = marked.known;
      held = marked.held;
      disposal = marked.disposal;
    }

pub returns-else-offsets-clause-stores : goal.returns-else-offsets-clause-stores
returns-else-offsets-clause-stores c = number_stored c.args.self.now c.write_in.new.self c.args.frame c.args.bytes c.args.offsets c.args.number c.write_in.ensures.writes
