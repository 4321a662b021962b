use Rattle.std.proofs.Common.{[], Bool, Some}
use Rattle.host_live.specs.Metering.{CountsTo}
use Rattle.host_live.specs.declared.reports.Moment.TheVariants.{End}
use Rattle.host_live.proofs.Metering.{counts_to_none, may_now}
use Rattle.host_live.proofs.Told.{continues_none, none_owed, unturned}
use Rattle.host_journal.specs.Disks.{kept_so_far}
use Rattle.host_journal.specs.Made.{first_line}
use Rattle.host_journal.proofs.Served.{none_failed, unserved}
use Rattle.host_journal.proofs.Started.{unbegun_stops}
use Rattle.host_journal.proofs.serving.serve.Goals as goal

pub returns-in-Err-clause-told : goal.returns-in-Err-clause-told
returns-in-Err-clause-told g c = λ records behind are. continues_none c.args.engine c.args.manner records (kept_so_far (g.D.Disk.steps c.args.disk)) behind

pub returns-in-Err-clause-order : goal.returns-in-Err-clause-order
returns-in-Err-clause-order g c = λ point at. record {
  answers = [];
  in_order = unserved c.args.is_synced (first_line c.args.begun.now) (g.D.Disk.steps c.args.disk) [] _;
  given = [];
  owed_is = none_owed Bool c.args.manner c.args.owed c.in-Err.error (kept_so_far (g.D.Disk.steps c.args.disk));
  turned = λ records behind are. unturned c.args.engine c.args.manner g.N.Reports.may_refuse point (g.I.Input.came c.args.input.now) c.args.lines.now (g.N.Reports.has_decided c.counted.new.self) (CountsTo c.args.engine c.args.metrics.now (g.N.Reports.has_counted c.counted.new.self End) c.args.metrics.now) records (kept_so_far (g.D.Disk.steps c.args.disk)) (Some []) (counts_to_none c.args.engine c.args.metrics.now (g.N.Reports.has_counted c.counted.new.self End) c.counted.ensures.counted) at behind;
}

pub returns-in-Err-clause-fault : goal.returns-in-Err-clause-fault
returns-in-Err-clause-fault g c = unbegun_stops c.args.begun.now c.args.begun.now.number (g.D.Disk.steps c.args.disk) c.in-Err.error (none_failed (g.D.Disk.steps c.args.disk)) c.in-Err.ensures.refused

pub counted-requires : goal.counted-requires
counted-requires g c = may_now g.N.Reports.may_count c.args.engine c.args.metrics.now c.requires.counts
