-- What holds of each place of a plain program, by the part where it is.
use Rattle.std.proofs.Common.{◌≡◌, ℕ, ◌+◌, ◌<◌, ◌≤◌, true, false, List, [], ◌∷◌, length, sym, ◌∙◌, arith, inl, inr}
use Rattle.std.proofs.lemmas.Bool.{cases_lt}
use Rattle.bpf_insn.specs.declared.reg.Reg.{Reg}
use Rattle.bpf_insn.specs.declared.reg.Reg.TheVariants.{R0, R1, R2}
use Rattle.bpf_insn.specs.declared.program.Slot.{Slot}
use Rattle.bpf_insn.specs.Reg.{number_of}
use Rattle.check_description.specs.declared.description.Description.{Description}
use Rattle.check_register_kinds.specs.declared.freeze_name.FreezeName.TheVariants.{Start}
use Rattle.check_register_kinds.specs.declared.held.Certainty.TheVariants.{Sure}
use Rattle.check_register_kinds.specs.declared.held.HeldFreeze.{HeldFreeze}
use Rattle.check_register_kinds.specs.declared.kind.Kind.TheVariants.{Freeze}
use Rattle.check_register_kinds.specs.declared.region.Region.TheVariants.{Context}
use Rattle.check_description.specs.Description.{kind_at}
use Rattle.check_register_kinds.specs.Freezes.{open_freeze}
use Rattle.check_register_kinds.specs.Kinds.{IsNumber, IsAtMost, IsAt}
use Rattle.reg_domain.specs.Enough.{Agree, JoinsTo}
use Rattle.verifier.specs.Plain.{is_free, writes_register}
use Rattle.verifier.proofs.Plain.Known.{Comes, IsCommon, common_joined}
use Rattle.verifier.proofs.Plain.List.{AtList}

-- what is held where the freeze of the start was found not to be 0
abbrev pub sure_start : List HeldFreeze
sure_start = record { name = Start; certainty = Sure } ∷ []

-- up to where the freeze is given back no path has written R0 and R3 to R5
pub record AtStart (program : List Slot) (place : ℕ) (d : Description) : Type 0 where
  pub common : IsCommon program place d
  pub low : (reg : Reg) → is_free reg ≡ true → number_of reg < 6 → Comes (writes_register reg) program place

-- at the loads, and at the test of the freeze
pub record AtLoad (program : List Slot) (place : ℕ) (d : Description) : Type 0 where
  pub start : AtStart program place d
  pub context : IsAt Context 0 (kind_at d R1)
  pub freeze : kind_at d R2 ≡ Freeze Start
  pub held : d.held ≡ open_freeze Start ∷ []

pub record AtCopy (program : List Slot) (place : ℕ) (d : Description) : Type 0 where
  pub start : AtStart program place d
  pub freeze : kind_at d R2 ≡ Freeze Start
  pub held : d.held ≡ sure_start

pub record AtRelease (program : List Slot) (place : ℕ) (d : Description) : Type 0 where
  pub start : AtStart program place d
  pub freeze : kind_at d R1 ≡ Freeze Start
  pub held : d.held ≡ sure_start

pub record AtRequeue (d : Description) : Type 0 where
  pub held : d.held ≡ []
  pub waits : d.disposed ≡ false
  pub depth : length d.stack ≡ 1
  pub few : IsAtMost 1 (kind_at d R1)

pub record AtAnswer (d : Description) : Type 0 where
  pub held : d.held ≡ []
  pub done : d.disposed ≡ true
  pub depth : length d.stack ≡ 1

pub record AtExit (d : Description) : Type 0 where
  pub answer : AtAnswer d
  pub number : IsNumber (kind_at d R0)

-- what holds of a place, where there are so many loads, and so many instructions in the list
pub record PlainAt (program : List Slot) (first size place : ℕ) (d : Description) : Type 0 where
  pub at_load : place ≤ first → AtLoad program place d
  pub at_copy : place ≡ first + 1 → AtCopy program place d
  pub at_release : place ≡ first + 2 → AtRelease program place d
  pub in_list : first + 3 ≤ place → place ≤ first + 3 + size → AtList program place d
  pub at_requeue : place ≡ first + 4 + size → AtRequeue d
  pub at_answer : place ≡ first + 5 + size → AtAnswer d
  pub at_exit : place ≡ first + 6 + size → AtExit d

pub load_fits : (program : List Slot) (first size place : ℕ) (d : Description) → place ≤ first → AtLoad program place d → PlainAt program first size place d
load_fits program first size place d at is = record {
  at_load = λ le. is;
  at_copy = λ e. absurd (omega (arith, e, at));
  at_release = λ e. absurd (omega (arith, e, at));
  in_list = λ above below. absurd (omega (arith, above, at));
  at_requeue = λ e. absurd (omega (arith, e, at));
  at_answer = λ e. absurd (omega (arith, e, at));
  at_exit = λ e. absurd (omega (arith, e, at));
}

pub copy_fits : (program : List Slot) (first size place : ℕ) (d : Description) → place ≡ first + 1 → AtCopy program place d → PlainAt program first size place d
copy_fits program first size place d at is = record {
  at_load = λ le. absurd (omega (arith, le, at));
  at_copy = λ e. is;
  at_release = λ e. absurd (omega (arith, e, at));
  in_list = λ above below. absurd (omega (arith, above, at));
  at_requeue = λ e. absurd (omega (arith, e, at));
  at_answer = λ e. absurd (omega (arith, e, at));
  at_exit = λ e. absurd (omega (arith, e, at));
}

pub release_fits : (program : List Slot) (first size place : ℕ) (d : Description) → place ≡ first + 2 → AtRelease program place d → PlainAt program first size place d
release_fits program first size place d at is = record {
  at_load = λ le. absurd (omega (arith, le, at));
  at_copy = λ e. absurd (omega (arith, e, at));
  at_release = λ e. is;
  in_list = λ above below. absurd (omega (arith, above, at));
  at_requeue = λ e. absurd (omega (arith, e, at));
  at_answer = λ e. absurd (omega (arith, e, at));
  at_exit = λ e. absurd (omega (arith, e, at));
}

pub list_fits : (program : List Slot) (first size place : ℕ) (d : Description) → first + 3 ≤ place → place ≤ first + 3 + size → AtList program place d → PlainAt program first size place d
list_fits program first size place d from to is = record {
  at_load = λ le. absurd (omega (arith, le, from));
  at_copy = λ e. absurd (omega (arith, e, from));
  at_release = λ e. absurd (omega (arith, e, from));
  in_list = λ above below. is;
  at_requeue = λ e. absurd (omega (arith, e, to));
  at_answer = λ e. absurd (omega (arith, e, to));
  at_exit = λ e. absurd (omega (arith, e, to));
}

pub requeue_fits : (program : List Slot) (first size place : ℕ) (d : Description) → place ≡ first + 4 + size → AtRequeue d → PlainAt program first size place d
requeue_fits program first size place d at is = record {
  at_load = λ le. absurd (omega (arith, le, at));
  at_copy = λ e. absurd (omega (arith, e, at));
  at_release = λ e. absurd (omega (arith, e, at));
  in_list = λ above below. absurd (omega (arith, below, at));
  at_requeue = λ e. is;
  at_answer = λ e. absurd (omega (arith, e, at));
  at_exit = λ e. absurd (omega (arith, e, at));
}

pub answer_fits : (program : List Slot) (first size place : ℕ) (d : Description) → place ≡ first + 5 + size → AtAnswer d → PlainAt program first size place d
answer_fits program first size place d at is = record {
  at_load = λ le. absurd (omega (arith, le, at));
  at_copy = λ e. absurd (omega (arith, e, at));
  at_release = λ e. absurd (omega (arith, e, at));
  in_list = λ above below. absurd (omega (arith, below, at));
  at_requeue = λ e. absurd (omega (arith, e, at));
  at_answer = λ e. is;
  at_exit = λ e. absurd (omega (arith, e, at));
}

pub exit_fits : (program : List Slot) (first size place : ℕ) (d : Description) → place ≡ first + 6 + size → AtExit d → PlainAt program first size place d
exit_fits program first size place d at is = record {
  at_load = λ le. absurd (omega (arith, le, at));
  at_copy = λ e. absurd (omega (arith, e, at));
  at_release = λ e. absurd (omega (arith, e, at));
  in_list = λ above below. absurd (omega (arith, below, at));
  at_requeue = λ e. absurd (omega (arith, e, at));
  at_answer = λ e. absurd (omega (arith, e, at));
  at_exit = λ e. is;
}

-- after the program nothing is asked
pub behind_fits : (program : List Slot) (first size place : ℕ) (d : Description) → first + 7 + size ≤ place → PlainAt program first size place d
behind_fits program first size place d past = record {
  at_load = λ le. absurd (omega (arith, le, past));
  at_copy = λ e. absurd (omega (arith, e, past));
  at_release = λ e. absurd (omega (arith, e, past));
  in_list = λ above below. absurd (omega (arith, below, past));
  at_requeue = λ e. absurd (omega (arith, e, past));
  at_answer = λ e. absurd (omega (arith, e, past));
  at_exit = λ e. absurd (omega (arith, e, past));
}

-- where paths join

start_joined : (program : List Slot) (place : ℕ) (a b joined : Description) → JoinsTo a b joined → AtStart program place a → AtStart program place b → AtStart program place joined
start_joined program place a b joined joins x y = record { common = common_joined program place a b joined x.common y.common joins; low = x.low }

answer_joined : (a b joined : Description) → JoinsTo a b joined → AtAnswer a → AtAnswer b → AtAnswer joined
answer_joined a b joined joins x y = record { held = joins.held ∙ x.held; done = joins.disposal ∙ x.done; depth = joins.depth ∙ x.depth }

pub plain_joined : (program : List Slot) (first size place : ℕ) (a b joined : Description) → JoinsTo a b joined → PlainAt program first size place a → PlainAt program first size place b → PlainAt program first size place joined
plain_joined program first size place a b joined joins x y = record {
  at_load = λ le. record {
    start = start_joined program place a b joined joins (x.at_load le).start (y.at_load le).start;
    context = joins.equal R1 ((x.at_load le).context ∙ sym (y.at_load le).context) ∙ (x.at_load le).context;
    freeze = joins.equal R2 ((x.at_load le).freeze ∙ sym (y.at_load le).freeze) ∙ (x.at_load le).freeze;
    held = joins.held ∙ (x.at_load le).held;
  };
  at_copy = λ e. record {
    start = start_joined program place a b joined joins (x.at_copy e).start (y.at_copy e).start;
    freeze = joins.equal R2 ((x.at_copy e).freeze ∙ sym (y.at_copy e).freeze) ∙ (x.at_copy e).freeze;
    held = joins.held ∙ (x.at_copy e).held;
  };
  at_release = λ e. record {
    start = start_joined program place a b joined joins (x.at_release e).start (y.at_release e).start;
    freeze = joins.equal R1 ((x.at_release e).freeze ∙ sym (y.at_release e).freeze) ∙ (x.at_release e).freeze;
    held = joins.held ∙ (x.at_release e).held;
  };
  in_list = λ above below. record {
    common = common_joined program place a b joined (x.in_list above below).common (y.in_list above below).common joins;
    held = joins.held ∙ (x.in_list above below).held;
  };
  at_requeue = λ e. record {
    held = joins.held ∙ (x.at_requeue e).held;
    waits = joins.disposal ∙ (x.at_requeue e).waits;
    depth = joins.depth ∙ (x.at_requeue e).depth;
    few = joins.bounds R1 1 (x.at_requeue e).few (y.at_requeue e).few;
  };
  at_answer = λ e. answer_joined a b joined joins (x.at_answer e) (y.at_answer e);
  at_exit = λ e. record {
    answer = answer_joined a b joined joins (x.at_exit e).answer (y.at_exit e).answer;
    number = joins.numbers R0 (x.at_exit e).number (y.at_exit e).number;
  };
}

-- and they agree there

starts_agree : (program : List Slot) (place : ℕ) (a b : Description) → a.held ≡ b.held → IsCommon program place a → IsCommon program place b → Agree a b
starts_agree program place a b held x y = record { held = held; disposal = x.waits ∙ sym y.waits; depth = x.depth ∙ sym y.depth }

answers_agree : (a b : Description) → AtAnswer a → AtAnswer b → Agree a b
answers_agree a b x y = record { held = x.held ∙ sym y.held; disposal = x.done ∙ sym y.done; depth = x.depth ∙ sym y.depth }

pub plain_agree : (program : List Slot) (first size place : ℕ) (a b : Description) → place < first + 7 + size → PlainAt program first size place a → PlainAt program first size place b → Agree a b
plain_agree program first size place a b lt x y =
    elim (cases_lt place (first + 1)) [
      | inl below ↦
          let le : place ≤ first = omega (arith, below) in
          starts_agree program place a b ((x.at_load le).held ∙ sym (y.at_load le).held) (x.at_load le).start.common (y.at_load le).start.common
      | inr past ↦ elim (cases_lt place (first + 2)) [
        | inl below ↦
            let e : place ≡ first + 1 = omega (arith, below, past) in
            starts_agree program place a b ((x.at_copy e).held ∙ sym (y.at_copy e).held) (x.at_copy e).start.common (y.at_copy e).start.common
        | inr past_1 ↦ elim (cases_lt place (first + 3)) [
          | inl below ↦
              let e : place ≡ first + 2 = omega (arith, below, past_1) in
              starts_agree program place a b ((x.at_release e).held ∙ sym (y.at_release e).held) (x.at_release e).start.common (y.at_release e).start.common
          | inr above ↦ elim (cases_lt place (first + 4 + size)) [
            | inl below ↦
                let le : place ≤ first + 3 + size = omega (arith, below) in
                starts_agree program place a b ((x.in_list above le).held ∙ sym (y.in_list above le).held) (x.in_list above le).common (y.in_list above le).common
            | inr past_list ↦ at_end past_list
          ]
        ]
      ]
    ]
  where
    at_end : first + 4 + size ≤ place → Agree a b
    at_end past =
        elim (cases_lt place (first + 5 + size)) [
          | inl below ↦
              let e : place ≡ first + 4 + size = omega (arith, below, past) in
              record {
                held = (x.at_requeue e).held ∙ sym (y.at_requeue e).held;
                disposal = (x.at_requeue e).waits ∙ sym (y.at_requeue e).waits;
                depth = (x.at_requeue e).depth ∙ sym (y.at_requeue e).depth;
              }
          | inr past_1 ↦ elim (cases_lt place (first + 6 + size)) [
            | inl below ↦
                let e : place ≡ first + 5 + size = omega (arith, below, past_1) in
                answers_agree a b (x.at_answer e) (y.at_answer e)
            | inr past_2 ↦
                let e : place ≡ first + 6 + size = omega (arith, lt, past_2) in
                answers_agree a b (x.at_exit e).answer (y.at_exit e).answer
          ]
        ]
