-- What a line leads to: a call of the host, a completion that is put, or a drain.
use Rattle.std.proofs.Common.{◌≡◌, ℕ, Bool, true, false, if◌then◌else◌, List, [], ◌∷◌, ◌++◌, refl, ap, sym, subst, ◌∙◌, append-nil}
use Rattle.std.specs.Prelude.{MatchOption, Option, Some, None}
use Rattle.ccb.specs.Completion.{Outcome}
use Rattle.world_calls.specs.declared.call.Call.{Call}
use Rattle.world_calls.specs.declared.call.Call.TheVariants as its
use Rattle.world_calls.specs.declared.record.Record.{Record}
use Rattle.world_calls.specs.declared.trace.Version.{Version}
use Rattle.scenario.specs.Commands.{Step}
use Rattle.scenario.specs.Steps.{command_seen}
use Rattle.scenario.specs.declared.command.Command.{Command}
use Rattle.scenario.specs.declared.command.Command.TheVariants as commands
use Rattle.host_scenario.specs.Asked.{call_of, call_told, is_hosts, with_call}
use Rattle.host_scenario.specs.Holding.{Asks, IsMade, IsOfLine, IsOfStep}
use Rattle.host_scenario.specs.Served.{completion_for}
use Rattle.host_scenario.specs.Turns.{doing}
use Rattle.host_scenario.specs.declared.host.RunFault.{RunFault}
use denote.Ref.{Bor}

of_test : (version : Version) (call : Call) (own : Bool) → is_hosts call ≡ own → call_of version (commands.Call call) ≡ (if own then Some (call_told version call) else None)
of_test version call own is = ap (λ (b : Bool). if b then Some (call_told version call) else None) is

none_put : (call : Call) → is_hosts call ≡ true → completion_for (commands.Call call) ≡ []
none_put (its.Submit queue priority retries class) own = refl
none_put (its.Dispatch queue) own = refl
none_put (its.Complete completion) own = absurd (let bad : false ≡ true = own in cc)
none_put (its.Withdraw ccb) own = refl
none_put (its.GuestFreeze place guest) own = refl
none_put (its.GuestRelease freeze) own = refl
none_put (its.Clock reading) own = refl
none_put (its.Park run) own = refl
none_put (its.Resume run) own = refl

abbrev AsksFor : List Record → List Record → Option Call → Type 0
AsksFor before after call = MatchOption call (after ≡ before) (λ it. IsMade it before after)

module _ (version : Version) (line : ℕ) (seen : Option (Bor Call)) (before after : List Record) where
  pub asks_own : (call : Bor Call) → seen ≡ Some call → is_hosts call.now ≡ true → IsMade (call_told version call.now) before after → Asks version (record { line = line; command = command_seen seen }) before after
  asks_own call is own made = subst (AsksFor before after) (sym (ap (λ (it : Option (Bor Call)). call_of version (command_seen it)) is ∙ of_test version call.now true own)) made

  pub asks_other : (call : Bor Call) → seen ≡ Some call → is_hosts call.now ≡ false → after ≡ before → Asks version (record { line = line; command = command_seen seen }) before after
  asks_other call is other same = subst (AsksFor before after) (sym (ap (λ (it : Option (Bor Call)). call_of version (command_seen it)) is ∙ of_test version call.now false other)) same

  pub asks_none : seen ≡ None → after ≡ before → Asks version (record { line = line; command = command_seen seen }) before after
  asks_none is same = subst (AsksFor before after) (sym (ap (λ (it : Option (Bor Call)). call_of version (command_seen it)) is)) same

  pub refused_line : (call : Bor Call) → seen ≡ Some call → (fault : RunFault) → IsOfLine line call.now before after fault → IsOfStep (record { line = line; command = command_seen seen }) before after fault
  refused_line call is fault of named told =
      let it = of named told in record {
        freeze = it.freeze;
        release = ap command_seen is ∙ ap commands.Call it.release;
        line_is = it.line_is;
        unheld = it.unheld;
        same = it.same;
      }

module _ (seen : Option (Bor Call)) (old new : List Outcome) where
  pub puts_own : (call : Bor Call) → seen ≡ Some call → is_hosts call.now ≡ true → new ≡ old → new ≡ old ++ completion_for (command_seen seen)
  puts_own call is own same = same ∙ (sym (append-nil old) ∙ ap (λ (more : List Outcome). old ++ more) (sym (ap (λ (it : Option (Bor Call)). completion_for (command_seen it)) is ∙ none_put call.now own)))

  pub puts_none : seen ≡ None → new ≡ old → new ≡ old ++ completion_for (command_seen seen)
  puts_none is same = same ∙ (sym (append-nil old) ∙ ap (λ (more : List Outcome). old ++ more) (sym (ap (λ (it : Option (Bor Call)). completion_for (command_seen it)) is)))

  pub puts_one : (call : Bor Call) → seen ≡ Some call → (completion : Outcome) → call.now ≡ its.Complete completion → new ≡ old ++ completion ∷ [] → new ≡ old ++ completion_for (command_seen seen)
  puts_one call is completion complete put = put ∙ ap (λ (more : List Outcome). old ++ more) (sym (ap (λ (it : Option (Bor Call)). completion_for (command_seen it)) is ∙ ap (λ (it : Call). completion_for (commands.Call it)) complete))

-- a completion is no call of the host
pub no_own : (call : Call) (completion : Outcome) → call ≡ its.Complete completion → is_hosts call ≡ false
no_own call completion is = ap is_hosts is
