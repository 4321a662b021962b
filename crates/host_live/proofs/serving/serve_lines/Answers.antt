use Rattle.std.proofs.Common.{refl, rules}
use Rattle.host_live.proofs.Finishing.{nothing_yet, stops_so_far, turns_asked, turns_end, turns_on, turns_stop}
use Rattle.host_live.proofs.Metering.{has_both, has_none, may_on}
use Rattle.host_live.proofs.serving.serve_lines.Goals as goal

pub loop-init : goal.loop-init
loop-init g c = record {
  grown = λ point is. nothing_yet c.args.manner g.N.Reports.may_refuse point (g.I.Input.came c.args.input.now) c.args.lines.now c.args.host.now.engine (g.S.Outlet.bytes c.args.out.now) (g.S.Outlet.failures c.args.out.now) (g.S.Outlet.answers c.args.out.now) is;
  still = refl;
  kept = refl;
  begun = c.requires.begun;
  counts = c.requires.counts;
  counted = has_none _ _;
}

pub loop-preserved : goal.loop-preserved
loop-preserved g c = record {
  grown = λ point is. let so_far = c.loop.invariant.grown point is in let step = rw c.in-More.is at c.in-Ok.ensures.turned point.base so_far.these.0 so_far.these.2 in turns_on c.args.manner g.N.Reports.may_refuse point _ _ c.args.host.now.engine _ _ _ _ _ _ _ so_far (g.I.Input.came c.serve_next.new.input) c.serve_next.new.lines (g.N.Reports.has_decided c.serve_next.new.reports) c.serve_next.new.host.engine _ _ _ step;
  still = search rules;
  kept = search rules;
  begun = c.serve_next.ensures.going;
  counts = may_on g.N.Reports.may_count _ _ _ _ c.loop.invariant.counts c.serve_next.ensures.counted;
  counted = has_both _ _ _ _ _ _ c.loop.invariant.counted c.serve_next.ensures.counted;
}

pub returns-in-End-clause-grown : goal.returns-in-End-clause-grown
returns-in-End-clause-grown g c = λ point is. let so_far = c.loop.invariant.grown point is in let step = rw c.in-End.is at c.in-Ok.ensures.turned point.base so_far.these.0 so_far.these.2 in turns_end c.args.manner g.N.Reports.may_refuse point _ _ c.args.host.now.engine _ _ _ _ _ _ _ so_far (g.I.Input.came c.serve_next.new.input) c.serve_next.new.lines (g.N.Reports.has_decided c.serve_next.new.reports) c.serve_next.new.host.engine _ _ _ step

pub returns-in-Asked-clause-grown : goal.returns-in-Asked-clause-grown
returns-in-Asked-clause-grown g c = λ point is. let so_far = c.loop.invariant.grown point is in let step = rw c.in-Asked.is at c.in-Ok.ensures.turned point.base so_far.these.0 so_far.these.2 in turns_asked c.args.manner g.N.Reports.may_refuse point _ _ c.args.host.now.engine _ _ _ _ _ _ _ so_far (g.I.Input.came c.serve_next.new.input) c.serve_next.new.lines (g.N.Reports.has_decided c.serve_next.new.reports) c.serve_next.new.host.engine _ _ _ step

pub returns-in-Err-clause-grown : goal.returns-in-Err-clause-grown
returns-in-Err-clause-grown g c = λ point is. let so_far = c.loop.invariant.grown point is in turns_stop c.args.manner g.N.Reports.may_refuse point _ _ c.args.host.now.engine _ _ _ _ _ _ _ so_far (g.I.Input.came c.serve_next.new.input) c.serve_next.new.lines (g.N.Reports.has_decided c.serve_next.new.reports) c.serve_next.new.host.engine _ _ _ c.in-Err.fault (c.in-Err.ensures.turned point.base so_far.these.0 so_far.these.2)

pub returns-clause-grown : goal.returns-clause-grown
returns-clause-grown g c = λ point is. stops_so_far c.args.manner g.N.Reports.may_refuse point _ _ c.args.host.now.engine _ _ _ _ _ _ _ (c.loop.invariant.grown point is)

pub returns-then-number-eq18446744073709551615-clause-grown : goal.returns-then-number-eq18446744073709551615-clause-grown
returns-then-number-eq18446744073709551615-clause-grown g c = λ point is. stops_so_far c.args.manner g.N.Reports.may_refuse point _ _ c.args.host.now.engine _ _ _ _ _ _ _ (c.loop.invariant.grown point is)

pub returns-in-End-clause-counted : goal.returns-in-End-clause-counted
returns-in-End-clause-counted g c = has_both _ _ _ _ _ _ c.loop.invariant.counted c.serve_next.ensures.counted

pub returns-in-Asked-clause-counted : goal.returns-in-Asked-clause-counted
returns-in-Asked-clause-counted g c = has_both _ _ _ _ _ _ c.loop.invariant.counted c.serve_next.ensures.counted

pub returns-in-Err-clause-counted : goal.returns-in-Err-clause-counted
returns-in-Err-clause-counted g c = has_both _ _ _ _ _ _ c.loop.invariant.counted c.serve_next.ensures.counted
