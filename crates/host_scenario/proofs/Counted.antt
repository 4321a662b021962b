-- The records that the host made, among all of a history: they are all of their kind, if there are no more of it.
use Rattle.std.proofs.Common.{◌≡◌, ℕ, ◌+◌, ◌<◌, ◌≤◌, ◌==◌, if◌then◌else◌, Bool, true, false, List, [], ◌∷◌, ◌++◌, get_or, length, take, All, Option, Some, None, refl, ap, sym, subst, ◌∙◌, arith, length-append, map}
use Rattle.std.specs.Prelude.{MatchOption}
use Rattle.std.proofs.lemmas.List.{take_more}
use Rattle.std.proofs.lemmas.List.Elements.{All-nil, All-cons, All-head, All-tail}
use Rattle.world_calls.specs.declared.call.Call.{Call}
use Rattle.world_calls.specs.declared.call.Call.TheVariants as its
use Rattle.world_calls.specs.declared.trace.Version.{Version}
use Rattle.world_calls.specs.declared.call_answer.CallAnswer.{CallAnswer}
use Rattle.world_calls.specs.declared.record.Record.{Record}
use Rattle.world_calls.specs.declared.record.Record.TheVariants.{Called, Advance}
use Rattle.monitor.specs.declared.knowledge.Pair.{Pair}
use Rattle.monitor.specs.LegalHistory.{made_by, records}
use Rattle.scenario.specs.declared.command.Command.{Command}
use Rattle.scenario.specs.declared.command.Command.TheVariants as commands
use Rattle.scenario.specs.Commands.{Step}
use Rattle.workers.specs.Recorded.{completion_in, completions_of}
use Rattle.host_scenario.specs.Asked.{AreOf, by_host, call_in, call_of, call_told, calls_of, is_by_host, is_hosts, with_call}

abbrev IsHosts : Record → Type 0
IsHosts made = is_by_host made ≡ true

-- ---- what steps ask for is of that kind

some_is : {X : Type 0} (a b : X) → Some a ≡ Some b → a ≡ b
some_is a b e = cc

head_is : {X : Type 0} (x y : X) (xs ys : List X) → x ∷ xs ≡ y ∷ ys → x ≡ y
head_is x y xs ys e = cc

tail_is : {X : Type 0} (x y : X) (xs ys : List X) → x ∷ xs ≡ y ∷ ys → xs ≡ ys
tail_is x y xs ys e = cc

-- as a record tells it, it is a call of the same kind
still_hosts : (version : Version) (call : Call) → is_hosts (call_told version call) ≡ is_hosts call
still_hosts version (its.Submit queue priority retries class) = refl
still_hosts version (its.Dispatch queue) = refl
still_hosts version (its.Complete completion) = refl
still_hosts version (its.Withdraw ccb) = refl
still_hosts version (its.GuestFreeze place guest) = refl
still_hosts version (its.GuestRelease freeze) = refl
still_hosts version (its.Clock reading) = refl
still_hosts version (its.Park run) = refl
still_hosts version (its.Resume run) = refl

hosts_by : (version : Version) (it call : Call) (own : Bool) → is_hosts it ≡ own → (if own then Some (call_told version it) else None) ≡ Some call → is_hosts call ≡ true
hosts_by version it call true own is = ap is_hosts (sym (some_is (call_told version it) call is)) ∙ (still_hosts version it ∙ own)
hosts_by version it call false own is = absurd cc

hosts : (version : Version) (command : Command) (call : Call) → call_of version command ≡ Some call → is_hosts call ≡ true
hosts version (commands.Call it) call is = hosts_by version it call (is_hosts it) refl is
hosts version commands.Drain call is = absurd cc

of_record : (made : Record) (call : Call) → is_hosts call ≡ true → call_in made ≡ Some call → IsHosts made
of_record (Called answer made_call) call host is = subst (λ (it : Call). is_hosts it ≡ true) (sym (some_is made_call call is)) host
of_record (Advance run instructions stop r0) call host is = absurd cc

by_step : (asks : Option Call) → ((call : Call) → asks ≡ Some call → is_hosts call ≡ true) → (calls : List Call) → ((rest : List Record) → AreOf rest calls → All IsHosts rest)
    → (mine : List Record) → AreOf mine (with_call asks calls) → All IsHosts mine
by_step None host calls more mine are = more mine are
by_step (Some call) host calls more [] are = absurd cc
by_step (Some call) host calls more (made ∷ rest) are =
    All-cons IsHosts made rest
    (of_record made call (host call refl) (head_is (call_in made) (Some call) (map call_in rest) (map Some calls) are))
    (more rest (tail_is (call_in made) (Some call) (map call_in rest) (map Some calls) are))

all_hosts : (version : Version) (steps : List Step) (mine : List Record) → AreOf mine (calls_of version steps) → All IsHosts mine
all_hosts version [] [] are = All-nil IsHosts
all_hosts version [] (made ∷ rest) are = absurd cc
all_hosts version (step ∷ steps) mine are = by_step (call_of version step.command) (hosts version step.command) (calls_of version steps) (all_hosts version steps) mine are

-- ---- among all of a history

record NoMore (mine all : List Record) : Type 0 where
  few : length mine ≤ length all
  same : length all ≡ length mine → all ≡ mine

one_more : (own is : Bool) (made : Record) (mine all : List Record) → (own ≡ true → is ≡ true) → NoMore mine all → NoMore (if own then made ∷ mine else mine) (if is then made ∷ all else all)
one_more true true made mine all kind rest = record {
  few = omega (arith, rest.few);
  same = λ e. ap (λ (xs : List Record). made ∷ xs) (rest.same (omega (arith, e)));
}
one_more true false made mine all kind rest = absurd (let bad : false ≡ true = kind refl in cc)
one_more false true made mine all kind rest = record {
  few = omega (arith, rest.few);
  same = λ e. absurd (omega (arith, e, rest.few));
}
one_more false false made mine all kind rest = rest

record Cut (own : Bool) (made : Record) (mine : List Record) : Type 0 where
  here : own ≡ true → IsHosts made
  rest : All IsHosts mine

cut : (own : Bool) (made : Record) (mine : List Record) → All IsHosts (if own then made ∷ mine else mine) → Cut own made mine
cut true made mine all = record { here = λ e. All-head IsHosts made mine all; rest = All-tail IsHosts made mine all }
cut false made mine all = record { here = λ e. absurd (let bad : false ≡ true = e in cc); rest = all }

no_more : (caller : ℕ) (history : List Pair) → All IsHosts (made_by caller history) → NoMore (made_by caller history) (by_host (records history))
no_more caller [] all = record { few = omega arith; same = λ e. refl }
no_more caller (p ∷ ps) all =
    let parts = cut (p.caller == caller) p.made (made_by caller ps) all in
    one_more (p.caller == caller) (is_by_host p.made) p.made (made_by caller ps) (by_host (records ps)) parts.here (no_more caller ps parts.rest)

-- where there are no more of the kind, the host's are all of it
pub all_are_own : (version : Version) (steps : List Step) (caller : ℕ) (history : List Pair) (told mine : List Record) → AreOf mine (calls_of version steps) → made_by caller history ≡ mine → records history ≡ told → length (by_host told) ≡ length mine → by_host told ≡ mine
all_are_own version steps caller history told mine are own same_told count =
    let all : All IsHosts (made_by caller history) = subst (All IsHosts) (sym own) (all_hosts version steps mine are) in
    let some = no_more caller history all in
    let many : length (by_host (records history)) ≡ length (made_by caller history) =
    ap (λ (rs : List Record). length (by_host rs)) same_told ∙ (count ∙ sym (ap length own)) in
    ap by_host (sym same_told) ∙ (some.same many ∙ own)

-- ---- one record more

counted : (is : Bool) (x : Record) (xs : List Record) (n : ℕ) → length xs ≡ n → length (if is then x ∷ xs else xs) ≡ (if is then n + 1 else n)
counted true x xs n e = omega (arith, e)
counted false x xs n e = e

shifted : (is more : Bool) (n : ℕ) → (if is then (if more then n + 1 else n) + 1 else (if more then n + 1 else n)) ≡ (if more then (if is then n + 1 else n) + 1 else (if is then n + 1 else n))
shifted true true n = refl
shifted true false n = refl
shifted false true n = refl
shifted false false n = refl

count_push : (xs : List Record) (x : Record) → length (by_host (xs ++ x ∷ [])) ≡ (if is_by_host x then length (by_host xs) + 1 else length (by_host xs))
count_push [] x = counted (is_by_host x) x [] 0 refl
count_push (first ∷ xs) x =
    counted (is_by_host first) first (by_host (xs ++ x ∷ [])) _ (count_push xs x)
    ∙ (shifted (is_by_host first) (is_by_host x) (length (by_host xs))
    ∙ ap (λ (n : ℕ). if is_by_host x then n + 1 else n) (sym (counted (is_by_host first) first (by_host xs) (length (by_host xs)) refl)))

-- those of one place more
pub count_more : (records : List Record) (place : ℕ) (made : Record) → place < length records → made ≡ get_or records place made
    → length (by_host (take (place + 1) records)) ≡ (if is_by_host made then length (by_host (take place records)) + 1 else length (by_host (take place records)))
count_more records place made within is =
    ap (λ (xs : List Record). length (by_host xs)) (take_more records place made within ∙ ap (λ (it : Record). take place records ++ it ∷ []) (sym is))
    ∙ count_push (take place records) made

-- ---- a call more, if the step has one

pub asks_one : (asks : Option Call) (before after : List Record) → MatchOption asks (after ≡ before) (λ call. (answer : CallAnswer) × (after ≡ before ++ Called answer call ∷ [])) → length after ≡ length before + length (with_call asks [])
asks_one None before after same = omega (arith, ap length same)
asks_one (Some call) before after told = omega (arith, ap length told.1, length-append before (Called told.0 call ∷ []))

-- ---- completions

completions_push : (xs : List Record) (x : Record) → length (completions_of (xs ++ x ∷ [])) ≡ length (completions_of xs) + length (completion_in x)
completions_push [] x = omega (arith, length-append (completion_in x) [])
completions_push (first ∷ xs) x =
    omega (arith, completions_push xs x, length-append (completion_in first) (completions_of (xs ++ x ∷ [])), length-append (completion_in first) (completions_of xs))

-- those of one place more
pub completions_more : (records : List Record) (place : ℕ) (made : Record) → place < length records → made ≡ get_or records place made
    → length (completions_of (take (place + 1) records)) ≡ length (completions_of (take place records)) + length (completion_in made)
completions_more records place made within is =
    ap (λ (xs : List Record). length (completions_of xs)) (take_more records place made within ∙ ap (λ (it : Record). take place records ++ it ∷ []) (sym is))
    ∙ completions_push (take place records) made
