-- What a worker does, step by step.
use Rattle.std.proofs.Common.{◌≡◌, ℕ, suc, ◌+◌, ◌<◌, ◌≤◌, Bool, true, false, ◌||◌, List, [], ◌∷◌, ◌++◌, map, length, take, drop, All, refl, ap, sym, subst, ◌∙◌, arith, append_assoc, append-nil, length-append}
use Rattle.std.specs.Prelude.{slice_index_or}
use Rattle.std.specs.List.{AllZip}
use Rattle.std.proofs.lemmas.List.{take_all, drop_all, length-map}
use Rattle.std.proofs.lemmas.List.Elements.{All-nil, All-cons, All-head, All-tail, All-append, length_all_zip}
use Rattle.ccb.specs.Completion.{Outcome}
use Rattle.inbox.specs.declared.account.Account.{Account}
use Rattle.inbox.specs.InboxLists.{Takes}
use Rattle.inbox.specs.Views.{InboxView, PassView, IsOf}
use Rattle.world.specs.World.{Setup}
use Rattle.engine_core.specs.RunState.{RunState}
use Rattle.std.specs.Borrow.{Bor}
use Rattle.engine_core.specs.declared.event.Event.{Event}
use Rattle.engine_core.specs.declared.event.Event.TheVariants.{Complete, Advance}
use Rattle.engine_core.specs.declared.reply.Success.{Success}
use Rattle.engine_core.specs.declared.reply.Success.TheVariants.{Started}
use Rattle.engine_core.specs.declared.reply.Reply.{Reply}
use Rattle.engine_core.specs.declared.reply.Reply.TheVariants.{Success as Gives, Refused, NotAdmitted, OutOfMemory}
use Rattle.monitor.specs.Telling.{CallerState}
use Rattle.engine_lock.specs.Sharing.{Section}
use Rattle.workers.specs.Calls.{CallMade, made_none, made_more}
use Rattle.workers.proofs.Made.{each_append, made_then}
use Rattle.workers.specs.declared.driving.TheConstants.{MOST_STARTED}
use Rattle.workers.specs.declared.worker.Kept.{Kept}
use Rattle.workers.specs.declared.worker.Kept.TheVariants.{Nothing, Completion, Run}
use Rattle.workers.specs.declared.driving.Why.{Why}
use Rattle.workers.specs.declared.driving.Why.TheVariants.{OutOfMemory as WantOfMemory, NotOut, BudgetUsed}
use Rattle.workers.specs.Serving.{AreCarriedOut, AreServed, Ends, GoUntil, HasDone, HasLeft, HasServed, HasStopped, IsAdvanceOf, IsKeptFor, IsLeftBy, IsReady, Leaves, SeatState, ServedState, Serves, StartsNone, Took, WorkerState, all_of, asked, asked_by, at_rest, completions_in, ended, ended_by, is_answered, is_for_memory, is_given, is_memory, lacks_memory, nothing_served, runs_in, started, started_by, unanswered, unless, with_worker}

pub took_none : (before after : PassView) → after ≡ before → Took before after []
took_none before after same = record {
  queue = ap (λ (p : PassView). p.queue) same;
  shape = ap (λ (p : PassView). p.account.shape) same;
  number = ap (λ (p : PassView). p.account.number) same;
  taken = ap (λ (p : PassView). p.account.taken) same ∙ sym (append-nil before.account.taken);
}

pub took_one : (inbox : InboxView) (before after : PassView) (x : Outcome) → IsOf inbox before → IsOf inbox after → Takes before.account after.account x → Took before after (x ∷ [])
took_one inbox before after x was is takes = record {
  queue = is.queue ∙ sym was.queue;
  shape = is.shape ∙ sym was.shape;
  number = ap (λ (a : Account). a.number) takes.after_is;
  taken = ap (λ (a : Account). a.taken) takes.after_is;
}

-- it counts no more than it may
abbrev pub IsFew : WorkerState → Type 0
IsFew worker = (worker.started ≤ MOST_STARTED) × (worker.ended ≤ worker.started)

-- the calls that advance one run say no more than that
pub record IsQuiet (calls : List CallMade) : Type 0 where
  pub serves : All (λ (call : CallMade). Serves call.event) calls
  pub asks : asked calls ≡ []
  pub answered : unanswered calls ≡ []
  pub starts : started calls ≡ []

record OfAdvance (event : Event) (reply : Reply) : Type 0 where
  pub serves : Serves event
  pub asks : asked_by event ≡ []
  pub answered : unless (is_answered reply) (asked_by event) ≡ []
  pub starts : started_by event reply ≡ []

unless_none : (answered : Bool) → unless answered [] ≡ []
unless_none true = refl
unless_none false = refl

of_advance : (number : ℕ) (event : Event) (reply : Reply) → IsAdvanceOf number event → OfAdvance event reply
of_advance number (Advance run) reply is = record { serves = tt; asks = refl; answered = unless_none (is_answered reply); starts = refl }
of_advance number event reply is = absurd is

pub quiet : (number : ℕ) (calls : List CallMade) → All (λ (call : CallMade). IsAdvanceOf number call.event) calls → IsQuiet calls
quiet number [] all = record { serves = All-nil (λ (call : CallMade). Serves call.event); asks = refl; answered = refl; starts = refl }
quiet number (call ∷ calls) all =
    let here = of_advance number call.event call.reply (All-head (λ (it : CallMade). IsAdvanceOf number it.event) call calls all) in
    let rest = quiet number calls (All-tail (λ (it : CallMade). IsAdvanceOf number it.event) call calls all) in record {
      serves = All-cons (λ (it : CallMade). Serves it.event) call calls here.serves rest.serves;
      asks = ap (λ (xs : List Outcome). xs ++ asked calls) here.asks ∙ rest.asks;
      answered = ap (λ (xs : List Outcome). xs ++ unanswered calls) here.answered ∙ rest.answered;
      starts = ap (λ (xs : List ℕ). xs ++ started calls) here.starts ∙ rest.starts;
    }

-- ---- memory that was refused to a call

pub lacks_append : (xs ys : List CallMade) → lacks_memory (xs ++ ys) ≡ (lacks_memory xs || lacks_memory ys)
lacks_append [] ys = refl
lacks_append (x ∷ xs) ys = lacks_or (is_memory x.reply) (lacks_memory (xs ++ ys)) (lacks_memory xs) (lacks_memory ys) (lacks_append xs ys)
  where
    lacks_or : (a b c d : Bool) → b ≡ (c || d) → (a || b) ≡ ((a || c) || d)
    lacks_or true b c d same = refl
    lacks_or false b c d same = same

given_none : (reply : Reply) → is_given reply ≡ true → is_memory reply ≡ false
given_none (Gives given) is = refl
given_none (Refused refusal) is = refl
given_none (NotAdmitted back) is = refl
given_none (OutOfMemory back) is = absurd (let bad : false ≡ true = is in cc)

pub went_none : (calls : List CallMade) → AreCarriedOut calls → lacks_memory calls ≡ false
went_none [] went = refl
went_none (call ∷ calls) went =
    ap (λ (b : Bool). b || lacks_memory calls) (given_none call.reply (All-head (λ (it : CallMade). is_given it.reply ≡ true) call calls went))
    ∙ went_none calls (All-tail (λ (it : CallMade). is_given it.reply ≡ true) call calls went)

lacks_last : (reply : Reply) (calls : List CallMade) → GoUntil reply calls → lacks_memory calls ≡ (is_memory reply || false)
lacks_last reply calls until =
    ap lacks_memory until.calls_are
    ∙ (lacks_append until.before (until.last ∷ []) ∙ ap (λ (b : Bool). b || lacks_memory (until.last ∷ [])) (went_none until.before until.went)
    ∙ ap (λ (r : Reply). is_memory r || false) until.last_is)

pub lacks_by : (why : Why) (run : RunState) (calls : List CallMade) → HasLeft why run calls → lacks_memory calls ≡ is_for_memory why
lacks_by WantOfMemory run calls left = lacks_last _ calls left
lacks_by NotOut run calls left = lacks_last _ calls left
lacks_by BudgetUsed run calls left = went_none calls left.1

or_false : (b : Bool) → (b || false) ≡ b
or_false true = refl
or_false false = refl

answered_none : (reply : Reply) → is_answered reply ≡ true → is_memory reply ≡ false
answered_none (Gives given) is = refl
answered_none (Refused refusal) is = refl
answered_none (NotAdmitted back) is = refl
answered_none (OutOfMemory back) is = absurd (let bad : false ≡ true = is in cc)

-- the numbers of what is kept
abbrev numbers : Kept → List ℕ
numbers kept = map (λ (run : RunState). run.number) (runs_in kept)

-- what else may be given starts no run
pub none_started : (given : Success) → StartsNone given → (completion : Bor Outcome) → started_by (Complete completion) (Gives given) ≡ []
none_started (Started run freeze) none completion = absurd none
none_started given none completion = refl

pub one_started : (given : Success) (run : RunState) → (freeze : ℕ) × (given ≡ Started run freeze) → (completion : Bor Outcome) → started_by (Complete completion) (Gives given) ≡ run.number ∷ []
one_started given run is completion = ap (λ (it : Success). started_by (Complete completion) (Gives it)) is.1

-- what keeps nothing, or a completion, keeps no run
keeps_none : (kept : Kept) (run : RunState) → runs_in kept ≡ [] → kept ≡ Run run → ⊥
keeps_none kept run none is = omega (arith, ap length none, ap (λ (it : Kept). length (runs_in it)) is)

holds_none : (kept : Kept) (completion : Outcome) → completions_in kept ≡ [] → kept ≡ Completion completion → ⊥
holds_none kept completion none is = omega (arith, ap length none, ap (λ (it : Kept). length (completions_in it)) is)

the_completion : (one other : Outcome) → Completion one ≡ Completion other → one ≡ other
the_completion one other is = ap (λ (kept : Kept). its kept) is
  where
    its : Kept → Outcome
    its (Completion it) = it
    its kept = one

the_same : (run left : RunState) → Run run ≡ Run left → run ≡ left
the_same run left is = ap (λ (kept : Kept). the_run kept) is
  where
    the_run : Kept → RunState
    the_run (Run it) = it
    the_run kept = run

module _ (setup : Setup) where
  -- nothing was taken
  pub idles : (before : WorkerState) (pass : PassView) → Took before.pass pass [] → before.kept ≡ Nothing → before.out_of_memory ≡ false → HasDone setup before (record before { pass = pass })
  idles before pass took free none = record {
    taken = [];
    pass = took;
    calls = [];
    made = made_none before.caller;
    serves = All-nil (λ (call : CallMade). Serves call.event);
    asks = refl;
    keeps = ap completions_in free;
    keeps_run = sym (ap numbers free);
    leaves = λ run is. absurd (keeps_none before.kept run (ap runs_in free) is);
    holds = λ completion is. absurd (holds_none before.kept completion (ap completions_in free) is);
    memory = none;
    starts = omega arith;
    ends = omega arith;
  }

  -- a completion was asked for, and then a run may have been driven
  module _ (before : WorkerState) (caller : CallerState) (pass : PassView) (completion : Bor Outcome) (reply : Reply) (made : Section setup (Complete completion) reply before.caller caller) (took : Took before.pass pass (completion.now ∷ [])) (free : before.kept ≡ Nothing) (none : before.out_of_memory ≡ false) where
    abbrev call : CallMade
    call = record { event = Complete completion; reply = reply }

    alone : All (λ (it : CallMade). Serves it.event) (call ∷ [])
    alone = All-cons (λ (it : CallMade). Serves it.event) call [] tt (All-nil (λ (it : CallMade). Serves it.event))

    -- it was answered, and started no run
    pub answers_one : is_answered reply ≡ true → started_by (Complete completion) reply ≡ [] → HasDone setup before (record before { caller = caller; pass = pass })
    answers_one answered no_run = record {
      taken = completion.now ∷ [];
      pass = took;
      calls = call ∷ [];
      made = made_more before.caller caller caller call [] made (made_none caller);
      serves = alone;
      asks = refl;
      keeps = ap completions_in free ∙ sym (ap (λ (it : Bool). unless it (completion.now ∷ []) ++ []) answered);
      keeps_run = ap (λ (xs : List ℕ). xs ++ []) no_run ∙ sym (ap numbers free);
      leaves = λ run is. absurd (keeps_none before.kept run (ap runs_in free) is);
      holds = λ it is. absurd (holds_none before.kept it (ap completions_in free) is);
      memory = none ∙ sym (ap (λ (b : Bool). b || false) (answered_none reply answered));
      starts = omega (arith, ap (λ (xs : List ℕ). length (xs ++ [])) no_run);
      ends = omega arith;
    }

    -- it was not, and is kept
    pub keeps_one : (lacks : Bool) → is_answered reply ≡ false → IsKeptFor reply → is_memory reply ≡ lacks → started_by (Complete completion) reply ≡ [] → HasDone setup before (record before { caller = caller; pass = pass; kept = Completion completion.now; out_of_memory = lacks })
    keeps_one lacks answered for lacking no_run = record {
      taken = completion.now ∷ [];
      pass = took;
      calls = call ∷ [];
      made = made_more before.caller caller caller call [] made (made_none caller);
      serves = alone;
      asks = refl;
      keeps = sym (ap (λ (it : Bool). unless it (completion.now ∷ []) ++ []) answered);
      keeps_run = ap (λ (xs : List ℕ). xs ++ []) no_run;
      leaves = λ run is. absurd (keeps_none (Completion completion.now) run refl is);
      holds = λ it is. record {
        before = [];
        last = call;
        calls_are = refl;
        its = ap (λ (x : Outcome). x ∷ []) (the_completion completion.now it is);
        why = for;
      };
      memory = sym (ap (λ (b : Bool). b || false) lacking ∙ or_false lacks);
      starts = omega (arith, ap (λ (xs : List ℕ). length (xs ++ [])) no_run);
      ends = omega arith;
    }

    module _ (number : ℕ) (answered : is_answered reply ≡ true) (starts : started_by (Complete completion) reply ≡ number ∷ []) (after : CallerState) where
      -- the run that it started ended
      pub ends_one : Ends setup number caller after → HasDone setup before (record before { caller = after; pass = pass; started = before.started + 1; ended = before.ended + 1 })
      ends_one ended_so =
          let drives = ended_so.drives in
          let still = quiet number drives.calls drives.advances in record {
            taken = completion.now ∷ [];
            pass = took;
            calls = call ∷ drives.calls;
            made = made_more before.caller caller after call drives.calls made drives.made;
            serves = All-cons (λ (it : CallMade). Serves it.event) call drives.calls tt still.serves;
            asks = ap (λ (xs : List Outcome). completion.now ∷ xs) (sym still.asks);
            keeps = ap completions_in free
                ∙ sym (ap (λ (it : Bool). unless it (completion.now ∷ []) ++ unanswered drives.calls) answered ∙ still.answered);
            keeps_run = ap (λ (xs : List ℕ). xs ++ started drives.calls) starts
                ∙ (ap (λ (xs : List ℕ). number ∷ xs) still.starts
                ∙ sym (ap (λ (xs : List ℕ). xs ++ numbers before.kept) drives.ends ∙ ap (λ (kept : Kept). number ∷ numbers kept) free));
            leaves = λ run is. absurd (keeps_none before.kept run (ap runs_in free) is);
            holds = λ it is. absurd (holds_none before.kept it (ap completions_in free) is);
            memory = none ∙ sym (ap (λ (b : Bool). b || lacks_memory drives.calls) (answered_none reply answered) ∙ went_none drives.calls ended_so.went);
            starts = omega (arith, ap (λ (xs : List ℕ). length (xs ++ started drives.calls)) starts, ap length still.starts);
            ends = omega (arith, ap length drives.ends);
          }

      -- or is kept
      pub keeps_run_of : (begun run : RunState) (why : Why) (lacks : Bool) → lacks ≡ is_for_memory why → begun.number ≡ number → Leaves setup begun run why caller after → HasDone setup before (record before { caller = after; pass = pass; kept = Run run; out_of_memory = lacks; started = before.started + 1 })
      keeps_run_of begun run why lacks for same left =
          let calls = left.drives.calls in
          let still = quiet begun.number calls left.drives.advances in record {
            taken = completion.now ∷ [];
            pass = took;
            calls = call ∷ calls;
            made = made_more before.caller caller after call calls made left.drives.made;
            serves = All-cons (λ (it : CallMade). Serves it.event) call calls tt still.serves;
            asks = ap (λ (xs : List Outcome). completion.now ∷ xs) (sym still.asks);
            keeps = sym (ap (λ (it : Bool). unless it (completion.now ∷ []) ++ unanswered calls) answered ∙ still.answered);
            keeps_run = ap (λ (xs : List ℕ). xs ++ started calls) starts
                ∙ (ap (λ (xs : List ℕ). number ∷ xs) still.starts
                ∙ sym (ap (λ (xs : List ℕ). xs ++ run.number ∷ []) left.drives.ends ∙ ap (λ (n : ℕ). n ∷ []) (left.number ∙ same)));
            leaves = λ its is. subst (IsLeftBy (call ∷ calls)) (the_same run its is) (record {
              before = call ∷ [];
              advances = calls;
              calls_are = refl;
              its = subst (λ (n : ℕ). All (λ (it : CallMade). IsAdvanceOf n it.event) calls) (sym left.number) left.drives.advances;
              why = why;
              has_left = left.has_left;
            });
            holds = λ it is. absurd (holds_none (Run run) it refl is);
            memory = for ∙ sym (ap (λ (b : Bool). b || lacks_memory calls) (answered_none reply answered) ∙ lacks_by why run calls left.has_left);
            starts = omega (arith, ap (λ (xs : List ℕ). length (xs ++ started calls)) starts, ap length still.starts);
            ends = omega (arith, ap length left.drives.ends);
          }

  -- what one turn leaves, by how it goes

  pub stays : (inbox : InboxView) (old : WorkerState) → IsReady inbox old → HasServed setup old old
  stays inbox old ready = record {
    did = idles old old.pass (took_none old.pass old.pass refl) ready.free ready.memory;
    started = ready.started;
    ended = ready.ended;
  }

  pub finds_none : (inbox : InboxView) (old : WorkerState) (pass : PassView) → IsReady inbox old → pass ≡ old.pass → HasServed setup old (record old { pass = pass })
  finds_none inbox old pass ready same = record {
    did = idles old pass (took_none old.pass pass same) ready.free ready.memory;
    started = ready.started;
    ended = ready.ended;
  }

  module _ (inbox : InboxView) (old : WorkerState) (caller : CallerState) (pass : PassView) (completion : Bor Outcome) (reply : Reply) (made : Section setup (Complete completion) reply old.caller caller) (ready : IsReady inbox old) (is : IsOf inbox pass) (takes : Takes old.pass.account pass.account completion.now) where
    took : Took old.pass pass (completion.now ∷ [])
    took = took_one inbox old.pass pass completion.now ready.pass is takes

    pub passes : is_answered reply ≡ true → ((it : Bor Outcome) → started_by (Complete it) reply ≡ []) → HasServed setup old (record { caller = caller; pass = pass; kept = old.kept; out_of_memory = old.out_of_memory; started = old.started; ended = old.ended })
    passes answered no_run = record {
      did = answers_one old caller pass completion reply made took ready.free ready.memory answered (no_run completion);
      started = ready.started;
      ended = ready.ended;
    }

    pub leaves_completion : (lacks : Bool) → is_answered reply ≡ false → IsKeptFor reply → is_memory reply ≡ lacks → ((it : Bor Outcome) → started_by (Complete it) reply ≡ []) → HasServed setup old (record { caller = caller; pass = pass; kept = Completion completion.now; out_of_memory = lacks; started = old.started; ended = old.ended })
    leaves_completion lacks answered for lacking no_run = record {
      did = keeps_one old caller pass completion reply made took ready.free ready.memory lacks answered for lacking (no_run completion);
      started = ready.started;
      ended = ready.ended;
    }

    module _ (number : ℕ) (answered : is_answered reply ≡ true) (starts : (it : Bor Outcome) → started_by (Complete it) reply ≡ number ∷ []) (after : CallerState) (few : old.started + 1 ≤ MOST_STARTED) where
      pub drives : Ends setup number caller after → HasServed setup old (record { caller = after; pass = pass; kept = old.kept; out_of_memory = old.out_of_memory; started = old.started + 1; ended = old.ended + 1 })
      drives driven = record {
        did = ends_one old caller pass completion reply made took ready.free ready.memory number answered (starts completion) after driven;
        started = few;
        ended = omega (arith, ready.ended);
      }

      pub leaves_run : (begun run : RunState) (why : Why) (lacks : Bool) → lacks ≡ is_for_memory why → begun.number ≡ number → Leaves setup begun run why caller after → HasServed setup old (record { caller = after; pass = pass; kept = Run run; out_of_memory = lacks; started = old.started + 1; ended = old.ended })
      leaves_run begun run why lacks for same left = record {
        did = keeps_run_of old caller pass completion reply made took ready.free ready.memory number answered (starts completion) after begun run why lacks for same left;
        started = few;
        ended = omega (arith, ready.ended);
      }

  took_more : (a b c : PassView) (xs ys : List Outcome) → Took a b xs → Took b c ys → Took a c (xs ++ ys)
  took_more a b c xs ys first second = record {
    queue = second.queue ∙ first.queue;
    shape = second.shape ∙ first.shape;
    number = second.number ∙ first.number;
    taken = second.taken ∙ (ap (λ (zs : List Outcome). zs ++ ys) first.taken ∙ append_assoc a.account.taken xs ys);
  }

  -- one service after another
  pub did_more : (a b c : WorkerState) → HasDone setup a b → b.kept ≡ Nothing → b.out_of_memory ≡ false → HasDone setup b c → HasDone setup a c
  did_more a b c first free none second =
      let xs = first.calls in
      let ys = second.calls in
      let answered : unanswered xs ≡ [] = sym first.keeps ∙ ap completions_in free in
      let no_run : started xs ≡ ended xs = first.keeps_run ∙ (ap (λ (kept : Kept). ended xs ++ numbers kept) free ∙ append-nil (ended xs)) in
      record {
        taken = first.taken ++ second.taken;
        pass = took_more a.pass b.pass c.pass first.taken second.taken first.pass second.pass;
        calls = xs ++ ys;
        made = made_then setup a.caller b.caller c.caller xs ys first.made second.made;
        serves = All-append (λ (it : CallMade). Serves it.event) xs ys first.serves second.serves;
        asks = ap (λ (zs : List Outcome). zs ++ second.taken) first.asks
            ∙ (ap (λ (zs : List Outcome). asked xs ++ zs) second.asks ∙ sym (each_append (λ (it : CallMade). asked_by it.event) xs ys));
        keeps = second.keeps
            ∙ sym (each_append (λ (it : CallMade). unless (is_answered it.reply) (asked_by it.event)) xs ys ∙ ap (λ (zs : List Outcome). zs ++ unanswered ys) answered);
        keeps_run = each_append (λ (it : CallMade). started_by it.event it.reply) xs ys
            ∙ (ap (λ (zs : List ℕ). zs ++ started ys) no_run
            ∙ (ap (λ (zs : List ℕ). ended xs ++ zs) second.keeps_run
            ∙ sym (ap (λ (zs : List ℕ). zs ++ numbers c.kept) (each_append (λ (it : CallMade). ended_by it.event it.reply) xs ys) ∙ append_assoc (ended xs) (ended ys) (numbers c.kept))));
        leaves = λ run is. let left = second.leaves run is in record {
          before = xs ++ left.before;
          advances = left.advances;
          calls_are = ap (λ (calls : List CallMade). xs ++ calls) left.calls_are ∙ sym (append_assoc xs left.before left.advances);
          its = left.its;
          why = left.why;
          has_left = left.has_left;
        };
        holds = λ completion is. let held = second.holds completion is in record {
          before = xs ++ held.before;
          last = held.last;
          calls_are = ap (λ (calls : List CallMade). xs ++ calls) held.calls_are ∙ sym (append_assoc xs held.before (held.last ∷ []));
          its = held.its;
          why = held.why;
        };
        memory = second.memory ∙ sym (lacks_append xs ys ∙ ap (λ (b : Bool). b || lacks_memory ys) (sym first.memory ∙ none));
        starts = omega (arith, first.starts, second.starts, ap length (each_append (λ (it : CallMade). started_by it.event it.reply) xs ys), length-append (started xs) (started ys));
        ends = omega (arith, first.ends, second.ends, ap length (each_append (λ (it : CallMade). ended_by it.event it.reply) xs ys), length-append (ended xs) (ended ys));
      }

  pub served_more : (a b c : WorkerState) → HasServed setup a b → b.kept ≡ Nothing → b.out_of_memory ≡ false → HasServed setup b c → HasServed setup a c
  served_more a b c first free none second = record {
    did = did_more a b c first.did free none second.did;
    started = second.started;
    ended = second.ended;
  }

  -- what each seat did, from what was done at each place
  pub serve_each : (seats : List SeatState) (workers : List WorkerState) → length workers ≡ length seats → ((i : ℕ) (d : WorkerState) → i < length seats → HasServed setup (slice_index_or (map at_rest seats) i d) (slice_index_or workers i d)) → AllZip (HasDone setup) (map at_rest seats) workers
  serve_each [] [] same at = tt
  serve_each [] (worker ∷ workers) same at = absurd (omega (arith, same))
  serve_each (seat ∷ seats) [] same at = absurd (omega (arith, same))
  serve_each (seat ∷ seats) (worker ∷ workers) same at = (
    (at 0 worker (omega arith)).did,
    serve_each seats workers (omega (arith, same)) (λ i d lt. at (suc i) d (omega (arith, lt))),
  )

  pub few_each : (seats : List SeatState) (workers : List WorkerState) → length workers ≡ length seats → ((i : ℕ) (d : WorkerState) → i < length seats → HasServed setup (slice_index_or (map at_rest seats) i d) (slice_index_or workers i d)) → All IsFew workers
  few_each [] [] same at = All-nil IsFew
  few_each [] (worker ∷ workers) same at = absurd (omega (arith, same))
  few_each (seat ∷ seats) [] same at = All-nil IsFew
  few_each (seat ∷ seats) (worker ∷ workers) same at =
      let here = at 0 worker (omega arith) in
      All-cons IsFew worker workers (here.started, here.ended) (few_each seats workers (omega (arith, same)) (λ i d lt. at (suc i) d (omega (arith, lt))))

  pub stopped_each : (seats : List SeatState) (workers : List WorkerState) → length workers ≡ length seats → ((i : ℕ) (d : WorkerState) → i < length seats → HasStopped (slice_index_or workers i d)) → All HasStopped workers
  stopped_each [] [] same at = All-nil HasStopped
  stopped_each [] (worker ∷ workers) same at = absurd (omega (arith, same))
  stopped_each (seat ∷ seats) [] same at = All-nil HasStopped
  stopped_each (seat ∷ seats) (worker ∷ workers) same at =
      All-cons HasStopped worker workers (at 0 worker (omega arith)) (stopped_each seats workers (omega (arith, same)) (λ i d lt. at (suc i) d (omega (arith, lt))))

-- each seat may serve
pub ready_each : (inbox : InboxView) (seats : List SeatState) → All (λ (seat : SeatState). IsOf inbox seat.pass) seats → All (IsReady inbox) (map at_rest seats)
ready_each inbox [] are = All-nil (IsReady inbox)
ready_each inbox (seat ∷ seats) are =
    All-cons (IsReady inbox) (at_rest seat) (map at_rest seats)
    (record {
      pass = All-head (λ (it : SeatState). IsOf inbox it.pass) seat seats are;
      free = refl;
      memory = refl;
      started = omega arith;
      ended = omega arith;
    })
    (ready_each inbox seats (All-tail (λ (it : SeatState). IsOf inbox it.pass) seat seats are))

-- what a slice of all of a list left is all of it
pub whole : {X : Type 0} (n : ℕ) (xs ys : List X) → length xs ≡ length ys → n ≡ length xs → take n (xs ++ drop (length xs) ys) ≡ xs
whole {X} n xs ys same is =
    ap (λ (zs : List X). take n (xs ++ zs)) (drop_all (length xs) ys (omega (arith, same)))
    ∙ (ap (take n) (append-nil xs) ∙ take_all n xs (omega (arith, is)))

-- the seats that come back are those of all workers
abbrev pub seat_of : WorkerState → SeatState
seat_of worker = record { caller = worker.caller; pass = worker.pass }

pub seats_back : (workers : List WorkerState) (served : ServedState) → (all_of workers served).seats ≡ served.seats ++ map seat_of workers
seats_back [] served = sym (append-nil served.seats)
seats_back (worker ∷ workers) served = seats_back workers (with_worker worker served) ∙ append_assoc served.seats (seat_of worker ∷ []) (map seat_of workers)

-- and they are of the same inbox
pub passes_back : (setup : Setup) (inbox : InboxView) (seats : List SeatState) (workers : List WorkerState) → AllZip (HasDone setup) (map at_rest seats) workers → All (λ (seat : SeatState). IsOf inbox seat.pass) seats → All (λ (seat : SeatState). IsOf inbox seat.pass) (map seat_of workers)
passes_back setup inbox [] [] did are = All-nil (λ (seat : SeatState). IsOf inbox seat.pass)
passes_back setup inbox [] (worker ∷ workers) did are = absurd did
passes_back setup inbox (seat ∷ seats) [] did are = absurd did
passes_back setup inbox (seat ∷ seats) (worker ∷ workers) did are =
    let before = All-head (λ (it : SeatState). IsOf inbox it.pass) seat seats are in
    All-cons (λ (it : SeatState). IsOf inbox it.pass) (seat_of worker) (map seat_of workers)
    (record { queue = did.0.pass.queue ∙ before.queue; shape = did.0.pass.shape ∙ before.shape })
    (passes_back setup inbox seats workers did.1 (All-tail (λ (it : SeatState). IsOf inbox it.pass) seat seats are))

-- of what was served, as a caller needs it
module _ (setup : Setup) (inbox : InboxView) (seats : List SeatState) (served : ServedState) (are : AreServed setup seats served) where
  seats_are : served.seats ≡ map seat_of are.workers
  seats_are = ap (λ (s : ServedState). s.seats) are.served_is ∙ seats_back are.workers nothing_served

  pub all_back : length served.seats ≡ length seats
  all_back =
      omega (arith, ap length seats_are, length-map are.workers seat_of, length_all_zip (HasDone setup) (map at_rest seats) are.workers are.each_did, length-map seats at_rest)

  pub passes_are : All (λ (seat : SeatState). IsOf inbox seat.pass) seats → All (λ (seat : SeatState). IsOf inbox seat.pass) served.seats
  passes_are before = subst (λ (xs : List SeatState). All (λ (seat : SeatState). IsOf inbox seat.pass) xs) (sym seats_are) (passes_back setup inbox seats are.workers are.each_did before)
