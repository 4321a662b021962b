-- The first pass has the accounts of those that it took in, which stand after those that are still to come.
use Rattle.std.proofs.Common.{◌≡◌, [], ◌∷◌, ◌++◌, map, vec_len}
use Rattle.std.specs.List.{All}
use Rattle.crossbeam_queue.specs.Passes.{IsPassOf}
use Rattle.inbox.specs.Seats.{known, holding}
use Rattle.inbox.proofs.closing.gather.Given as goal

abbrev pub invariant-loop-take_pass : goal.invariant-loop-take_pass
invariant-loop-take_pass l = record {
  seat : IsPassOf l.queue l.last;
  ours : All (λ p. p.queue ≡ l.queue.table.shared.table_id) l.takes.items;
  holds : known l.last ≡ holding (known l.last).account (known l.last).back [];
  first : map (λ p. p.account) l.fn.puts.items ≡ (known l.last).account ∷ map (λ p. p.account) l.puts.items;
  back : map (λ p. p.account) l.fn.takes.items ≡ map (λ p. p.account) l.takes.items ++ (known l.last).back;
}

abbrev pub decreases-loop-take_pass : goal.decreases-loop-take_pass
decreases-loop-take_pass l = vec_len l.takes

abbrev pub invariant-loop-put_pass : goal.invariant-loop-put_pass
invariant-loop-put_pass l = record {
  seat : IsPassOf l.queue l.last;
  ours : All (λ p. p.queue ≡ l.queue.table.shared.table_id) l.puts.items;
  holds : known l.last ≡ holding (known l.last).account (known l.last).back [];
  back : map (λ p. p.account) (l.fn.puts.items ++ l.fn.takes.items) ≡ (known l.last).account ∷ (map (λ p. p.account) l.puts.items ++ (known l.last).back);
}

abbrev pub decreases-loop-put_pass : goal.decreases-loop-put_pass
decreases-loop-put_pass l = vec_len l.puts
