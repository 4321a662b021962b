-- What the host has asked, call by call, and that it has the token of each freeze that its records hold.
use Rattle.std.proofs.Common.{◌≡◌, ℕ, ◌==◌, Bool, true, false, not, ◌||◌, inl, inr, if◌then◌else◌, List, [], ◌∷◌, ◌++◌, All, refl, ap, sym, subst, ◌∙◌, eqb-true, eq-eqb}
use Rattle.std.specs.Prelude.{◌≢◌, MatchOption, None, Option, Some, Result, Ok, Err, OnOk}
use Rattle.std.specs.List.Sorted.{IsPermutation}
use Rattle.std.proofs.lemmas.List.Sorted.{All-permutation, IsPermutation-sym}
use Rattle.std.proofs.lemmas.Bool.{and_parts}
use Rattle.std.proofs.lemmas.List.Elements.{All-cons, All-head, All-tail}
use Rattle.freeze_ledger.specs.declared.freeze.Freeze.{Freeze}
use Rattle.world_calls.specs.declared.call.Call.{Call}
use Rattle.world_calls.specs.declared.call.Call.TheVariants as its
use Rattle.world_calls.specs.declared.call_answer.CallAnswer.{CallAnswer}
use Rattle.world_calls.specs.declared.call_answer.CallAnswer.TheVariants as answers
use Rattle.ccb.specs.declared.call_refusal.CallRefusal.{CallRefusal}
use Rattle.world_calls.specs.declared.record.Record.{Record}
use Rattle.world_calls.specs.declared.record.Record.TheVariants.{Called}
use Rattle.world_calls.specs.Versions.{version_in}
use Rattle.trace_lines.specs.Versions.{has_classes}
use Rattle.helpers.specs.Table.{are_classed}
use Rattle.helpers.specs.declared.limits.HelperSet.{HelperSet}
use Rattle.helpers.specs.declared.limits.HelperSet.TheVariants.{Classes, Controllers, Queues}
use Rattle.world.specs.World.{Setup, class_in, version_of}
use Rattle.engine_core.specs.Replies.{ReplyMatchesEvent, answer_of, call_of as call_made, recorded_call}
use Rattle.engine_core.specs.declared.event.Event.{Event}
use Rattle.engine_core.specs.declared.event.Event.TheVariants.{Submit, Dispatch, Complete, Withdraw, Advance, Clock, GuestFreeze, GuestRelease, Park, Resume}
use Rattle.engine_core.specs.declared.reply.Success.{Success}
use Rattle.engine_core.specs.declared.reply.Success.TheVariants as its_given
use Rattle.engine_core.specs.declared.reply.Reply.{Reply}
use Rattle.engine_core.specs.declared.reply.Reply.TheVariants as replied
use Rattle.host_handles.specs.Handles.{HandlesState, IsAnswer, IsAsked, IsOfCall, IsSettled, IsUnheld, KeepsGiven, TakesAlong}
use Rattle.host_handles.specs.declared.unanswered.Unanswered.{Unanswered}
use Rattle.host_handles.specs.declared.unanswered.Unanswered.TheVariants.{NotHeld, NotAdmitted, OutOfMemory}
use Rattle.monitor.specs.declared.knowledge.Pair.{Pair}
use Rattle.monitor.specs.Telling.{CallerState, Joins}
use Rattle.engine_lock.specs.Sharing.{Section, Tells}
use Rattle.host_scenario.specs.Asked.{call_told, held_after, held_behind, is_held, is_hosts}
use Rattle.host_scenario.specs.Faults.{line_of}
use Rattle.host_scenario.specs.Holding.{HasToken, HoldsAll, IsMade, IsOfLine, fault_of}

-- of both a success and what it says
pub on_ok : {T E P Q : Type 0} (r : Result T E) → (P → Q) → OnOk r P → OnOk r Q
on_ok (Ok value) f p = f p
on_ok (Err fault) f p = p

held_push : (number : ℕ) (was : Bool) (records : List Record) (made : Record) → held_after number was (records ++ made ∷ []) ≡ held_behind number (held_after number was records) made
held_push number was [] made = refl
held_push number was (first ∷ rest) made = held_push number (held_behind number was first) rest made

-- ---- a token more, and a token less

abbrev IsNot : ℕ → Freeze → Type 0
IsNot number token = token.number ≢ number

module _ (number : ℕ) (few more : List Freeze) (token : Freeze) (moved : IsPermutation more (token ∷ few)) where
  all_more : All (IsNot number) more → All (IsNot number) (token ∷ few)
  all_more none = All-permutation (IsNot number) more (token ∷ few) moved none

  has_more : HasToken number few → HasToken number more
  has_more has none = has (All-tail (IsNot number) token few (all_more none))

  has_it : token.number ≡ number → HasToken number more
  has_it is none = All-head (IsNot number) token few (all_more none) is

  has_others : HasToken number more → IsNot number token → HasToken number few
  has_others has other none = has (All-permutation (IsNot number) (token ∷ few) more (IsPermutation-sym more (token ∷ few) moved) (All-cons (IsNot number) token few other none))

same_tokens : (number : ℕ) (xs ys : List Freeze) → ys ≡ xs → HasToken number xs → HasToken number ys
same_tokens number xs ys is has = subst (HasToken number) (sym is) has

same_handles : (number : ℕ) (before after : HandlesState) → after ≡ before → HasToken number before.tokens → HasToken number after.tokens
same_handles number before after is has = subst (λ (it : HandlesState). HasToken number it.tokens) (sym is) has

or_cases : (x y : Bool) (P : Type 0) → (x || y) ≡ true → (x ≡ true → P) → (y ≡ true → P) → P
or_cases true y P is first second = first refl
or_cases false y P is first second = second is

-- what is held after a release was held before, and is another freeze
was_held : (number : ℕ) (was : Bool) (count : ℕ) (call : Call) → held_behind number was (Called (answers.Left count) call) ≡ true → was ≡ true
was_held number was count (its.Submit queue priority retries class) held = held
was_held number was count (its.Dispatch queue) held = held
was_held number was count (its.Complete completion) held = held
was_held number was count (its.Withdraw ccb) held = held
was_held number was count (its.GuestFreeze place guest) held = held
was_held number was count (its.GuestRelease freeze) held = (and_parts (not (freeze == number)) was held).1
was_held number was count (its.Clock reading) held = held
was_held number was count (its.Park run) held = held
was_held number was count (its.Resume run) held = held

is_other : (number freeze : ℕ) (was : Bool) (count : ℕ) → held_behind number was (Called (answers.Left count) (its.GuestRelease freeze)) ≡ true → freeze ≡ number → ⊥
is_other number freeze was count held same =
    let true_is : (freeze == number) ≡ true = eq-eqb freeze number same in
    let not_is : not (freeze == number) ≡ true = (and_parts (not (freeze == number)) was held).0 in
    absurd (let bad : false ≡ true = sym (ap not true_is) ∙ not_is in cc)

-- what is given, and what of it is held
by_given : (number : ℕ) (was : Bool) (given : Success) (call : Call) (left now : HandlesState) → KeepsGiven given left now → held_behind number was (Called (answer_of given) call) ≡ true → (was ≡ true → HasToken number left.tokens) → HasToken number now.tokens
by_given number was (its_given.Ccb ccb) call left now kept held has = same_handles number left now kept (has held)
by_given number was (its_given.Advised start) call left now kept held has = same_handles number left now kept (has held)
by_given number was its_given.Done call left now kept held has = same_handles number left now kept (has held)
by_given number was its_given.Withdrawn call left now kept held has = same_handles number left now kept (has held)
by_given number was (its_given.Started run freeze) call left now kept held has = same_tokens number left.tokens now.tokens kept.1 (has held)
by_given number was (its_given.Goes run r0) call left now kept held has = same_tokens number left.tokens now.tokens kept.1 (has held)
by_given number was (its_given.Ended r0) call left now kept held has = same_handles number left now kept (has held)
by_given number was (its_given.Freeze token) call left now kept held has =
    or_cases (token.number == number) was (HasToken number now.tokens) held
    (λ is. has_it number left.tokens now.tokens token kept.0 (eqb-true token.number number is))
    (λ is. has_more number left.tokens now.tokens token kept.0 (has is))
by_given number was (its_given.Left count) call left now kept held has = same_handles number left now kept (has (was_held number was count call held))
by_given number was (its_given.Removed count) call left now kept held has = same_handles number left now kept (has held)
by_given number was its_given.Parked call left now kept held has = same_handles number left now kept (has held)
by_given number was (its_given.Resumed run) call left now kept held has = same_tokens number left.tokens now.tokens kept.1 (has held)

-- ---- what a call leaves that is recorded

-- a host asks by itself for no completion, and of no run that is out
abbrev AsksAlone : Event → Type 0
AsksAlone (Complete completion) = ⊥
AsksAlone (Advance run) = ⊥
AsksAlone (Park run) = ⊥
AsksAlone event = Unit {0}

-- the tokens that an event takes along
abbrev IsTaken : Event → ℕ → Type 0
IsTaken (GuestRelease token) number = token.number ≡ number
IsTaken event number = ⊥

-- each freeze that is held by these records has its token among these, but for the one that the event takes along
abbrev HoldsBut : Event → List Record → List Freeze → Type 0
HoldsBut event made tokens = (number : ℕ) → is_held number made ≡ true → (IsTaken event number → ⊥) → HasToken number tokens

-- the event's call was recorded
pub record Leaves (setup : Setup) (event : Event) (before after : List Record) (tokens : List Freeze) : Type 0 where
  pub asked : MatchOption (call_made setup event) ⊥ (λ call. IsMade call before after)
  pub holds : HoldsAll after tokens

module _ (setup : Setup) (before after : CallerState) (left now : HandlesState) where
  mine : (history : List Pair) (made : Record) → Joins setup history before (made ∷ []) after → after.mine ≡ before.mine ++ made ∷ []
  mine history made joins = ap (λ (c : CallerState). c.mine) joins.after_is

  behind : (number : ℕ) (made : Record) → after.mine ≡ before.mine ++ made ∷ [] → is_held number after.mine ≡ true → held_behind number (is_held number before.mine) made ≡ true
  behind number made is held = sym (held_push number false before.mine made) ∙ (ap (is_held number) (sym is) ∙ held)

  of_given : (given : Success) (call : Call) → after.mine ≡ before.mine ++ Called (answer_of given) call ∷ [] → KeepsGiven given left now → HoldsAll before.mine left.tokens → HoldsAll after.mine now.tokens
  of_given given call is kept holds number held = by_given number (is_held number before.mine) given call left now kept (behind number (Called (answer_of given) call) is held) (holds number)

  of_refused : (refusal : CallRefusal) (call : Call) → after.mine ≡ before.mine ++ Called (answers.Refused refusal) call ∷ [] → now ≡ left → HoldsAll before.mine left.tokens → HoldsAll after.mine now.tokens
  of_refused refusal call is same holds number held = same_handles number left now same (holds number (behind number (Called (answers.Refused refusal) call) is held))

  -- a token that was given back
  of_left : (count freeze : ℕ) → after.mine ≡ before.mine ++ Called (answers.Left count) (its.GuestRelease freeze) ∷ [] → now ≡ left → ((number : ℕ) → is_held number before.mine ≡ true → (freeze ≡ number → ⊥) → HasToken number left.tokens) → HoldsAll after.mine now.tokens
  of_left count freeze is same but number held =
      let here = behind number (Called (answers.Left count) (its.GuestRelease freeze)) is held in
      same_handles number left now same (but number (was_held number (is_held number before.mine) count (its.GuestRelease freeze) here) (is_other number freeze (is_held number before.mine) count here))

  module _ (history : List Pair) (answer : CallAnswer) where
    leaves : (event : Event) (reply : Reply) → Tells setup history event reply before after → ReplyMatchesEvent event reply → AsksAlone event → IsAnswer answer reply left now → HoldsBut event before.mine left.tokens → Leaves setup event before.mine after.mine now.tokens
    leaves (Submit queue priority retries class) (replied.Success given) tells fits alone kept but =
        let is = mine history _ tells in record { asked = (answer_of given, is); holds = of_given given _ is kept.1 (λ number held. but number held (λ bad. bad)) }
    leaves (Submit queue priority retries class) (replied.Refused refusal) tells fits alone kept but =
        let is = mine history _ tells in record { asked = (answers.Refused refusal, is); holds = of_refused refusal _ is kept.1 (λ number held. but number held (λ bad. bad)) }
    leaves (Dispatch queue) (replied.Success given) tells fits alone kept but =
        let is = mine history _ tells in record { asked = (answer_of given, is); holds = of_given given _ is kept.1 (λ number held. but number held (λ bad. bad)) }
    leaves (Dispatch queue) (replied.Refused refusal) tells fits alone kept but =
        let is = mine history _ tells in record { asked = (answers.Refused refusal, is); holds = of_refused refusal _ is kept.1 (λ number held. but number held (λ bad. bad)) }
    leaves (Withdraw ccb) (replied.Success given) tells fits alone kept but =
        let is = mine history _ tells in record { asked = (answer_of given, is); holds = of_given given _ is kept.1 (λ number held. but number held (λ bad. bad)) }
    leaves (Withdraw ccb) (replied.Refused refusal) tells fits alone kept but =
        let is = mine history _ tells in record { asked = (answers.Refused refusal, is); holds = of_refused refusal _ is kept.1 (λ number held. but number held (λ bad. bad)) }
    leaves (Clock reading) (replied.Success given) tells fits alone kept but =
        let is = mine history _ tells in record { asked = (answer_of given, is); holds = of_given given _ is kept.1 (λ number held. but number held (λ bad. bad)) }
    leaves (Clock reading) (replied.Refused refusal) tells fits alone kept but =
        let is = mine history _ tells in record { asked = (answers.Refused refusal, is); holds = of_refused refusal _ is kept.1 (λ number held. but number held (λ bad. bad)) }
    leaves (GuestFreeze place guest) (replied.Success given) tells fits alone kept but =
        let is = mine history _ tells in record { asked = (answer_of given, is); holds = of_given given _ is kept.1 (λ number held. but number held (λ bad. bad)) }
    leaves (GuestFreeze place guest) (replied.Refused refusal) tells fits alone kept but =
        let is = mine history _ tells in record { asked = (answers.Refused refusal, is); holds = of_refused refusal _ is kept.1 (λ number held. but number held (λ bad. bad)) }
    leaves (Resume run) (replied.Success given) tells fits alone kept but =
        let is = mine history _ tells in record { asked = (answer_of given, is); holds = of_given given _ is kept.1 (λ number held. but number held (λ bad. bad)) }
    leaves (Resume run) (replied.Refused refusal) tells fits alone kept but =
        let is = mine history _ tells in record { asked = (answers.Refused refusal, is); holds = of_refused refusal _ is kept.1 (λ number held. but number held (λ bad. bad)) }
    leaves (GuestRelease token) (replied.Success (its_given.Left count)) tells fits alone kept but =
        let is = mine history _ tells in record { asked = (answers.Left count, is); holds = of_left count token.number is kept.1 but }
    leaves (GuestRelease token) (replied.Success (its_given.Ccb ccb)) tells fits alone kept but = absurd fits
    leaves (GuestRelease token) (replied.Success (its_given.Advised start)) tells fits alone kept but = absurd fits
    leaves (GuestRelease token) (replied.Success its_given.Withdrawn) tells fits alone kept but = absurd fits
    leaves (GuestRelease token) (replied.Success its_given.Done) tells fits alone kept but = absurd fits
    leaves (GuestRelease token) (replied.Success (its_given.Started run freeze)) tells fits alone kept but = absurd fits
    leaves (GuestRelease token) (replied.Success (its_given.Goes run r0)) tells fits alone kept but = absurd fits
    leaves (GuestRelease token) (replied.Success (its_given.Ended r0)) tells fits alone kept but = absurd fits
    leaves (GuestRelease token) (replied.Success (its_given.Freeze other)) tells fits alone kept but = absurd fits
    leaves (GuestRelease token) (replied.Success (its_given.Removed count)) tells fits alone kept but = absurd fits
    leaves (GuestRelease token) (replied.Success its_given.Parked) tells fits alone kept but = absurd fits
    leaves (GuestRelease token) (replied.Success (its_given.Resumed run)) tells fits alone kept but = absurd fits
    leaves (GuestRelease token) (replied.Refused refusal) tells fits alone kept but = absurd (let bad : true ≡ false = fits in cc)
    leaves (Complete completion) reply tells fits alone kept but = absurd alone
    leaves (Advance run) reply tells fits alone kept but = absurd alone
    leaves (Park run) reply tells fits alone kept but = absurd alone
    leaves event (replied.NotAdmitted back) tells fits alone kept but = absurd kept
    leaves event (replied.OutOfMemory back) tells fits alone kept but = absurd kept

-- the event of a call that a host makes

recorded_hosts : (setup : Setup) (call : Call) → is_hosts (recorded_call setup call) ≡ is_hosts call
recorded_hosts setup (its.Submit queue priority retries class) = refl
recorded_hosts setup (its.Dispatch queue) = refl
recorded_hosts setup (its.Complete completion) = refl
recorded_hosts setup (its.Withdraw ccb) = refl
recorded_hosts setup (its.GuestFreeze place guest) = refl
recorded_hosts setup (its.GuestRelease freeze) = refl
recorded_hosts setup (its.Clock reading) = refl
recorded_hosts setup (its.Park run) = refl
recorded_hosts setup (its.Resume run) = refl

alone_by : (setup : Setup) (event : Event) (call : Call) → call_made setup event ≡ Some call → is_hosts call ≡ true → AsksAlone event
alone_by setup (Submit queue priority retries class) call is hosts = tt
alone_by setup (Dispatch queue) call is hosts = tt
alone_by setup (Withdraw ccb) call is hosts = tt
alone_by setup (Clock reading) call is hosts = tt
alone_by setup (GuestFreeze place guest) call is hosts = tt
alone_by setup (GuestRelease token) call is hosts = tt
alone_by setup (Resume run) call is hosts = tt
alone_by setup (Complete completion) call is hosts = let same : its.Complete completion.now ≡ call = cc in let bad : false ≡ true = ap is_hosts same ∙ hosts in absurd cc
alone_by setup (Advance run) call is hosts = absurd cc
alone_by setup (Park run) call is hosts = let same : its.Park run.number ≡ call = cc in let bad : false ≡ true = ap is_hosts same ∙ hosts in absurd cc

alone : (setup : Setup) (event : Event) (call : Call) → IsOfCall call event → is_hosts call ≡ true → AsksAlone event
alone setup event call is hosts = alone_by setup event (recorded_call setup call) (is setup) (recorded_hosts setup call ∙ hosts)

-- ---- what its record says

class_is : (set : HelperSet) (class : Option ℕ) → (if are_classed set then Some (class_in class) else None) ≡ (if has_classes (version_in set) then Some (class_in class) else None)
class_is Queues class = refl
class_is Controllers class = refl
class_is Classes class = refl

-- a setup's record says what one of its version does
told_so : (setup : Setup) (call : Call) → recorded_call setup call ≡ call_told (version_of setup) call
told_so setup (its.Submit queue priority retries class) = ap (its.Submit queue priority retries) (class_is setup.limits.helpers class)
told_so setup (its.Dispatch queue) = refl
told_so setup (its.Complete completion) = refl
told_so setup (its.Withdraw ccb) = refl
told_so setup (its.GuestFreeze place guest) = refl
told_so setup (its.GuestRelease freeze) = refl
told_so setup (its.Clock reading) = refl
told_so setup (its.Park run) = refl
told_so setup (its.Resume run) = refl

-- what is left when it is taken along
left_by : (event : Event) (made : List Record) (held left : HandlesState) → TakesAlong event held left → HoldsAll made held.tokens → HoldsBut event made left.tokens
left_by (GuestRelease token) made held left takes holds number is other = has_others number left.tokens held.tokens token takes.0 (holds number is) other
left_by (Advance run) made held left takes holds number is other = same_tokens number held.tokens left.tokens (sym takes.1) (holds number is)
left_by (Park run) made held left takes holds number is other = same_tokens number held.tokens left.tokens (sym takes.1) (holds number is)
left_by (Submit queue priority retries class) made held left takes holds number is other = same_handles number held left takes (holds number is)
left_by (Dispatch queue) made held left takes holds number is other = same_handles number held left takes (holds number is)
left_by (Complete completion) made held left takes holds number is other = same_handles number held left takes (holds number is)
left_by (Withdraw ccb) made held left takes holds number is other = same_handles number held left takes (holds number is)
left_by (Clock reading) made held left takes holds number is other = same_handles number held left takes (holds number is)
left_by (GuestFreeze place guest) made held left takes holds number is other = same_handles number held left takes (holds number is)
left_by (Resume run) made held left takes holds number is other = same_handles number held left takes (holds number is)

-- ---- what became of a call

abbrev OfCall : Option Call → List Record → List Record → Type 0
OfCall call before after = MatchOption call ⊥ (λ its. IsMade its before after)

module _ (setup : Setup) (Replies : Event → Reply → Type 0) (call : Call) (before after : CallerState) (held now : HandlesState) (hosts : is_hosts call ≡ true) (holds : HoldsAll before.mine held.tokens) where
  -- it was answered
  module _ (told : (event : Event) (reply : Reply) → Replies event reply → Section setup event reply before after) (answer : CallAnswer) (asked : IsAsked Replies (IsOfCall call) held now (Ok answer)) where
    left_so : Leaves setup asked.event before.mine after.mine now.tokens
    left_so =
        let section = told asked.event asked.replied.0 asked.replied.1 in
        leaves setup before after asked.left now section.history answer asked.event asked.replied.0 section.tells section.answers.fits
        (alone setup asked.event call asked.for hosts) asked.replied.2 (left_by asked.event before.mine held asked.left asked.takes holds)

    pub made_so : IsMade (call_told (version_of setup) call) before.mine after.mine
    made_so =
        subst (λ (it : Call). IsMade it before.mine after.mine) (told_so setup call)
        (subst (λ (it : Option Call). OfCall it before.mine after.mine) (asked.for setup) left_so.asked)

    pub holds_so : HoldsAll after.mine now.tokens
    holds_so = left_so.holds

  by_test : (freeze : ℕ) (test : Bool) → is_held freeze before.mine ≡ test → All (IsNot freeze) held.tokens → is_held freeze before.mine ≡ false
  by_test freeze true is none = absurd (holds freeze is none)
  by_test freeze false is none = is

  -- it was not, since nothing is held that it takes along
  unheld : (it : Call) → is_hosts it ≡ true → IsUnheld it held → (freeze : ℕ) × (it ≡ its.GuestRelease freeze) × (is_held freeze before.mine ≡ false)
  unheld (its.GuestRelease freeze) own none = (freeze, refl, by_test freeze (is_held freeze before.mine) refl none)
  unheld (its.Complete completion) own none = absurd (let bad : false ≡ true = own in cc)
  unheld (its.Park run) own none = absurd (let bad : false ≡ true = own in cc)
  unheld (its.Submit queue priority retries class) own none = absurd none
  unheld (its.Dispatch queue) own none = absurd none
  unheld (its.Withdraw ccb) own none = absurd none
  unheld (its.GuestFreeze place guest) own none = absurd none
  unheld (its.Clock reading) own none = absurd none
  unheld (its.Resume run) own none = absurd none

  pub refused_so : {Same : Type 0} (line : ℕ) (fault : Unanswered) → IsSettled Replies (IsOfCall call) (IsUnheld call held) Same held now (Err fault) → (Same → after ≡ before) → IsOfLine line call before.mine after.mine (fault_of fault line)
  refused_so line NotHeld settled same named is =
      let it = unheld call hosts settled.0 in record {
        freeze = it.0;
        release = it.1;
        line_is = let lines : line ≡ named = cc in lines;
        unheld = it.2;
        same = ap (λ (c : CallerState). c.mine) (same settled.1);
      }
  refused_so line NotAdmitted settled same named is = absurd cc
  refused_so line OutOfMemory settled same named is = absurd cc

-- what each reply says, and what stays where nobody was asked, holds of all that was settled
pub settled_so : (Replies : Event → Reply → Type 0) (IsFor : Event → Type 0) (Unheld Same P : Type 0) (held now : HandlesState) (result : Result CallAnswer Unanswered) → IsSettled Replies IsFor Unheld Same held now result → ((event : Event) (reply : Reply) → Replies event reply → P) → (Same → P) → P
settled_so Replies IsFor Unheld Same P held now (Ok answer) settled asked same = asked settled.event settled.replied.0 settled.replied.1
settled_so Replies IsFor Unheld Same P held now (Err NotHeld) settled asked same = same settled.1
settled_so Replies IsFor Unheld Same P held now (Err NotAdmitted) settled asked same = asked settled.event (replied.NotAdmitted settled.replied.0) settled.replied.1
settled_so Replies IsFor Unheld Same P held now (Err OutOfMemory) (inl none) asked same = same none.0
settled_so Replies IsFor Unheld Same P held now (Err OutOfMemory) (inr settled) asked same = asked settled.event (replied.OutOfMemory settled.replied.0) settled.replied.1
