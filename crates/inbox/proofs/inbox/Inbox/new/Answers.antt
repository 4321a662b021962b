-- A queue that is empty keeps the rule, and the passes that are dealt are the inbox's own.
use Rattle.std.proofs.lemmas.List.Elements.{All-same}
use Rattle.inbox.specs.Views.{IsOf}
use Rattle.inbox.proofs.Making.{begins}
use Rattle.inbox.proofs.Passing.{new_passes_are_of}
use Rattle.inbox.proofs.inbox.Inbox.new.Goals as goal

pub ruled-requires-clause-rule : goal.ruled-requires-clause-rule
ruled-requires-clause-rule c = begins

pub returns-clause-ours : goal.returns-clause-ours
returns-clause-ours c =
    let inbox = c.deal.result.0 in
    (All-same (IsOf inbox) _ _ c.deal.ensures.puts (new_passes_are_of inbox 0 c.args.puts), All-same (IsOf inbox) _ _ c.deal.ensures.takes (new_passes_are_of inbox c.args.puts c.args.takes))
