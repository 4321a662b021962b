-- each record before this one is of a trial
use Rattle.std.proofs.Common.{◌≡◌, take, true}
use Rattle.std.specs.List.{list_all}
use Rattle.host_trial.specs.Hosted.{is_of_trial}
use Rattle.host_trial.proofs.hosted.are_hosted.Given as goal

abbrev pub invariant-loop-place : goal.invariant-loop-place
invariant-loop-place l = list_all (is_of_trial l.disks) (take l.place l.records.items) ≡ true
