-- Instructions after which a machine goes on at the next one: none is stuck, and what becomes of it is described.
use Rattle.std.proofs.Common.{◌≡◌, ℕ, ℤ, ◌+◌, ◌<◌, true, not, ◌||◌, List, [], Option, Some, None, IfSome, Result, Ok, Err, IfOk, length, refl, ap, sym, subst, ◌∙◌, inl, inr}
use Rattle.std.specs.Prelude.{is_none, slice_index_or}
use Rattle.std.specs.Option.{option_map}
use Rattle.bpf_insn.specs.declared.insn.Insn.{Insn}
use Rattle.bpf_insn.specs.declared.insn.Insn.TheVariants.{Alu, InPlace, SignExtend, LoadImmediate, Load, Store}
use Rattle.bpf_insn.specs.declared.insn.AluOp.{AluOp}
use Rattle.bpf_insn.specs.declared.insn.InPlaceOp.{InPlaceOp}
use Rattle.bpf_insn.specs.declared.insn.LoadForm.{LoadForm}
use Rattle.bpf_insn.specs.declared.insn.Operand.{Operand}
use Rattle.bpf_insn.specs.declared.insn.SignExtension.{SignExtension}
use Rattle.bpf_insn.specs.declared.insn.StoreSize.{StoreSize}
use Rattle.bpf_insn.specs.declared.insn.Width.{Width}
use Rattle.bpf_insn.specs.declared.reg.Reg.{Reg}
use Rattle.bpf_semantics.specs.MachineState.{MachineState, moved_to, register, with_register}
use Rattle.bpf_semantics.specs.Memory.{address_of, load_width, loaded, store_width, word_from}
use Rattle.bpf_semantics.specs.Step.{compute, compute_one, does, load, operand, request_in, store}
use Rattle.bpf_semantics.specs.Stuck.{load_is_stuck, store_is_stuck}
use Rattle.bpf_words.specs.Words.{in_place, sign_extended}
use Rattle.stack_domain.specs.declared.numbers.NumberPlace.{NumberPlace}
use Rattle.stack_domain.specs.Numbers.{number_in}
use Rattle.check_description.specs.declared.description.Description.{Description}
use Rattle.check_private_insns.specs.declared.way.Way.{Way}
use Rattle.check_private_insns.specs.declared.way.Way.TheVariants.{FallThrough}
use Rattle.check_register_kinds.specs.declared.kind.Kind.{Kind}
use Rattle.check_description.specs.declared.saved.SavedRegisters.{SavedRegisters}
use Rattle.check_register_kinds.specs.Computes.{ChangesKind, ComputesKind}
use Rattle.check_description.specs.Description.{DescribesWith, kind_at}
use Rattle.check_private_insns.specs.Enough.{ChangesOnly, Replaces}
use Rattle.check_private_insns.specs.Follows.{Follows}
use Rattle.check_register_kinds.specs.Freezes.{FreezeNumbers}
use Rattle.check_private_insns.specs.GoesOn.{GoesOn}
use Rattle.check_register_kinds.specs.Kinds.{HoldsKind}
use Rattle.check_private_insns.specs.Memory.{Loads, ReadsPlace, Stores}
use Rattle.check_private_insns.proofs.Accessible.{word_read, word_stored}
use Rattle.check_private_insns.proofs.Described.{moved_described, replaced_described, set_described, still_loaded}

pub some_same : {X : Type 0} (x y : X) → Some x ≡ Some y → x ≡ y
some_same x y e = cc

-- each machine that is described does a step of its own, and is described then
abbrev pub DoesSo : Insn → Description → Description → Type 0
DoesSo insn d there = (numbers : FreezeNumbers) (callers : List SavedRegisters) (m : MachineState) → DescribesWith numbers callers d m → (next : MachineState) × (does m insn ≡ Some next) × DescribesWith numbers callers there next

pub goes_by : (insn : Insn) (way : Way) (d there : Description) → ((m : MachineState) → request_in m insn ≡ None) → DoesSo insn d there → (callers : List SavedRegisters) → Follows callers insn way d true there
goes_by insn way d there no_call does_so = λ callers m m' (numbers, is) goes steps. elim steps [
  | inl e ↦ let next = does_so numbers callers m is in (refl, (numbers, subst (DescribesWith numbers callers there) (some_same _ _ (sym next.1 ∙ e)) next.2))
  | inr call ↦ let bad = sym (no_call m) ∙ call.2 in absurd cc
]

-- the words that a register and an operand hold, as a kind says
pub alu_goes : (d there : Description) (width : Width) (op : AluOp) (dst : Reg) (src : Operand) (first second kind : Kind) → first ≡ kind_at d dst → ((numbers : FreezeNumbers) (callers : List SavedRegisters) (m : MachineState) → DescribesWith numbers callers d m → HoldsKind numbers second (operand m src)) → ((numbers : FreezeNumbers) → ComputesKind numbers width op first second kind) → kind_at there dst ≡ kind → Replaces dst d there → GoesOn (Alu width op dst src) d there
alu_goes d there width op dst src first second kind first_is holds means is_set only =
    let has = λ (numbers : FreezeNumbers) (callers : List SavedRegisters) (m : MachineState) (is : DescribesWith numbers callers d m). means numbers (register m dst) (operand m src) (rw first_is (is.registers dst)) (holds numbers callers m is) in record {
      unstuck = λ limits callers m (numbers, is). let words = has numbers callers m is in ap (λ o. is_none {T = ℕ} o || is_none (operand m src)) words.2 ∙ ap is_none words.3;
      follows = goes_by (Alu width op dst src) FallThrough d there (λ m. refl) (λ numbers callers m is.
          let words = has numbers callers m is in
          (_, ap (λ o. compute m width op dst o (operand m src)) words.2 ∙ ap (compute m width op dst (Some words.0)) words.3, replaced_described numbers callers d there m dst _ _ only (rw is_set words.4) is));
    }

-- one register makes a word
one_goes : (insn : Insn) (d there : Description) (dst src : Reg) (f : ℕ → ℕ) (kind : Kind) → ((m : MachineState) → does m insn ≡ compute_one m dst f (register m src)) → ((m : MachineState) → request_in m insn ≡ None) → ((numbers : FreezeNumbers) → ChangesKind numbers f (kind_at d src) kind) → kind_at there dst ≡ kind → Replaces dst d there → (callers : List SavedRegisters) → Follows callers insn FallThrough d true there
one_goes insn d there dst src f kind does_is no_call means is_set only = goes_by insn FallThrough d there no_call (λ numbers callers m is.
    let word = means numbers (register m src) (is.registers src) in
    (_, does_is m ∙ ap (compute_one m dst f) word.1, replaced_described numbers callers d there m dst _ _ only (rw is_set word.2) is))

pub change_goes : (d there : Description) (op : InPlaceOp) (dst : Reg) (kind : Kind) → ((numbers : FreezeNumbers) → ChangesKind numbers (in_place op) (kind_at d dst) kind) → kind_at there dst ≡ kind → Replaces dst d there → GoesOn (InPlace op dst) d there
change_goes d there op dst kind means is_set only = record {
  unstuck = λ limits callers m (numbers, is). ap is_none (means numbers (register m dst) (is.registers dst)).1;
  follows = one_goes (InPlace op dst) d there dst dst (in_place op) kind (λ m. refl) (λ m. refl) means is_set only;
}

pub extend_goes : (d there : Description) (extension : SignExtension) (dst src : Reg) (kind : Kind) → ((numbers : FreezeNumbers) → ChangesKind numbers (sign_extended extension) (kind_at d src) kind) → kind_at there dst ≡ kind → Replaces dst d there → GoesOn (SignExtend extension dst src) d there
extend_goes d there extension dst src kind means is_set only = record {
  unstuck = λ limits callers m (numbers, is). ap is_none (means numbers (register m src) (is.registers src)).1;
  follows = one_goes (SignExtend extension dst src) d there dst src (sign_extended extension) kind (λ m. refl) (λ m. refl) means is_set only;
}

pub constant_goes : (d there : Description) (dst : Reg) (value : ℕ) → ((numbers : FreezeNumbers) → HoldsKind numbers (kind_at there dst) (Some value)) → Replaces dst d there → GoesOn (LoadImmediate dst value) d there
constant_goes d there dst value holds only = record {
  unstuck = λ limits callers m is. refl;
  follows = goes_by (LoadImmediate dst value) FallThrough d there (λ m. refl) (λ numbers callers m is. (_, refl, replaced_described numbers callers d there m dst value (m.pc + 2) only (holds numbers) is));
}

pub load_goes : (d there : Description) (form : LoadForm) (dst src : Reg) (offset : ℤ) (kind : Kind) (place : Option NumberPlace) → Loads d form src offset kind → kind_at there dst ≡ kind → ChangesOnly dst d there → there.numbers ≡ d.numbers
    → IfSome place (ReadsPlace d form src offset) → IfSome there.loaded (λ l. (l.reg ≡ dst) × (place ≡ Some l.place)) → GoesOn (Load form dst src offset) d there
load_goes d there form dst src offset kind place loads is_set only kept reads linked = record {
  unstuck = λ limits callers m (numbers, is). let word = loads numbers callers m is in ap (load_is_stuck m form) word.lies ∙ ap not (word_read (load_width form) m word.address word.word word.is);
  follows = goes_by (Load form dst src offset) FallThrough d there (λ m. refl) (λ numbers callers m is.
      let word = loads numbers callers m is in (
        _,
        ap (load m form dst) word.lies ∙ ap (option_map (λ n. moved_to (with_register m dst (loaded form n)) (m.pc + 1))) word.is,
        set_described numbers callers d there m dst _ _ only kept (still_loaded d m dst (loaded form word.word) place there.loaded is.count linked (each place reads numbers callers m word.address word.word is word.lies word.is)) (rw is_set word.holds) is,
      ));
}
  where
    each : (place : Option NumberPlace) → IfSome place (ReadsPlace d form src offset) → (numbers : FreezeNumbers) (callers : List SavedRegisters) (m : MachineState) (address word : ℕ) → DescribesWith numbers callers d m → address_of m src offset ≡ Some address → word_from (load_width form) m address ≡ Some word
        → IfSome place (λ p. (p.frame < length m.frames) × (number_in p.bytes p.offset (slice_index_or m.frames p.frame []) ≡ Some (loaded form word)))
    each None reads numbers callers m address word is lies from = tt
    each (Some p) reads numbers callers m address word is lies from = reads numbers callers m address word is lies from

pub store_goes : {X E : Type 0} (r : Result X E) (d there : Description) (size : StoreSize) (dst : Reg) (src : Operand) (offset : ℤ) (kind : Kind) → ((numbers : FreezeNumbers) (callers : List SavedRegisters) (m : MachineState) → DescribesWith numbers callers d m → HoldsKind numbers kind (operand m src)) → IfOk r (λ _. Stores d size dst offset kind there) → IfOk r (λ _. GoesOn (Store size dst src offset) d there)
store_goes (Err cause) d there size dst src offset kind holds stores = stores
store_goes (Ok done) d there size dst src offset kind holds stores =
    let has = λ (numbers : FreezeNumbers) (callers : List SavedRegisters) (m : MachineState) (is : DescribesWith numbers callers d m). stores numbers callers m (operand m src) is (holds numbers callers m is) in record {
      unstuck = λ limits callers m (numbers, is).
          let word = has numbers callers m is in
          ap (λ o. is_none {T = ℕ} o || store_is_stuck m size (address_of m dst offset)) word.is
          ∙ (ap (store_is_stuck m size) word.lies ∙ ap not (word_stored (store_width size) m word.with_word word.address word.word word.does));
      follows = goes_by (Store size dst src offset) FallThrough d there (λ m. refl) (λ numbers callers m is.
          let word = has numbers callers m is in (
            _,
            ap (λ a. store m size a (operand m src)) word.lies
                ∙ (ap (store m size (Some word.address)) word.is ∙ ap (option_map (λ next. moved_to next (m.pc + 1))) word.does),
            moved_described numbers callers there word.with_word (m.pc + 1) word.describes,
          ));
    }
