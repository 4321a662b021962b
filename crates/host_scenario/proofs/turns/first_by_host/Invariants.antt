use Rattle.std.proofs.Common.{◌≡◌, ◌+◌, ◌≤◌, drop, length}
use Rattle.host_scenario.specs.Turns.{completions_in, ends_in, from_host, leading, starts_in}
use Rattle.host_scenario.proofs.turns.first_by_host.Given as goal

abbrev pub invariant-loop-place : goal.invariant-loop-place
invariant-loop-place l = record {
  completions : l.completions + leading completions_in (drop l.place l.records.items) ≡ leading completions_in (drop l.from l.records.items);
  starts : l.starts + leading starts_in (drop l.place l.records.items) ≡ leading starts_in (drop l.from l.records.items);
  ends : l.ends + leading ends_in (drop l.place l.records.items) ≡ leading ends_in (drop l.from l.records.items);
  rest : from_host (drop l.place l.records.items) ≡ from_host (drop l.from l.records.items);
  few_completions : l.from + l.completions ≤ l.place;
  few_starts : l.from + l.starts ≤ l.place;
  few_ends : l.from + l.ends ≤ l.place;
  within : l.place ≤ length l.records.items;
}
