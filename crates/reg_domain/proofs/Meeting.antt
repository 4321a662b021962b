-- What holds of a machine on one of two paths holds where they meet.
use Rattle.std.proofs.Common.{◌≡◌, ℕ, ◌<◌, List, Option, None, sym, subst, ◌∙◌}
use Rattle.bpf_insn.specs.Reg.{number_of}
use Rattle.stack_domain.specs.Numbers.{AreStanding}
use Rattle.stack_domain.specs.Stack.{MarksCover as CoversFrames}
use Rattle.check_register_kinds.specs.declared.held.HeldFreeze.{HeldFreeze}
use Rattle.check_register_kinds.specs.Freezes.{AreHeld, FreezeNumbers}
use Rattle.check_register_kinds.specs.Kinds.{HoldsKind}
use Rattle.check_description.specs.declared.description.Description.{Description}
use Rattle.check_description.specs.Changes.{at}
use Rattle.check_description.specs.Description.{Covers, IsStillLoaded}
use Rattle.check_description.specs.Spills.{IsFewer}
use Rattle.check_description.proofs.RegisterPlaces.{number_below}
use Rattle.check_description.proofs.Spilled.{fewer_spilled}

pub wider : (d there : Description) → ((i : ℕ) → i < 11 → (numbers : FreezeNumbers) (o : Option ℕ) → HoldsKind numbers (at d.registers i) o → HoldsKind numbers (at there.registers i) o)
    → ((frames : List (List (Option ℕ))) → CoversFrames d.stack frames → CoversFrames there.stack frames) → IsFewer d.spills there.spills → ((frames : List (List (Option ℕ))) → AreStanding frames d.numbers → AreStanding frames there.numbers) → there.loaded ≡ None → there.held ≡ d.held → there.disposed ≡ d.disposed → Covers d there
wider d there registers covers fewer standing unloaded held disposal callers m (numbers, is) = (
  numbers,
  record {
    registers = λ reg. registers (number_of reg) (number_below reg) numbers _ (is.registers reg);
    count = is.count;
    frames = covers m.frames is.frames;
    spills = fewer_spilled numbers d.spills there.spills m.frames fewer is.spills;
    standing = standing m.frames is.standing;
    loaded = subst (IsStillLoaded m.registers m.frames) (sym unloaded) tt;
    bytes = is.bytes;
    context = is.context;
    held = subst (λ (h : List HeldFreeze). AreHeld numbers h m.held) (sym held) is.held;
    disposal = is.disposal ∙ sym disposal;
    calls = is.calls;
    depth = is.depth;
  },
)
