-- Record by record, that each is of a trial.
use Rattle.std.proofs.Common.{◌≡◌, ◌∙◌, ◌+◌, ◌<◌, ◌≤◌, ◌&&◌, ℕ, Bool, true, List, ap, get_or, length, sym, take}
use Rattle.std.proofs.lemmas.List.{take_all}
use Rattle.std.proofs.lemmas.List.Folds.{list_all_more}
use Rattle.std.specs.List.{list_all}
use Rattle.world_calls.specs.declared.record.Record.{Record}
use Rattle.trial_disks.specs.declared.data.Disks.{Disks}
use Rattle.host_trial.specs.Hosted.{is_of_trial}

pub one_more : (disks : Disks) (records : List Record) (place : ℕ) (told : Record) → place < length records → told ≡ get_or records place told → is_of_trial disks told ≡ true
    → list_all (is_of_trial disks) (take place records) ≡ true → list_all (is_of_trial disks) (take (place + 1) records) ≡ true
one_more disks records place told within there is before =
    list_all_more (is_of_trial disks) records place told within
    ∙ (ap (λ (b : Bool). b && is_of_trial disks (get_or records place told)) before ∙ (ap (is_of_trial disks) (sym there) ∙ is))

pub whole : (disks : Disks) (records : List Record) (place : ℕ) → length records ≤ place → list_all (is_of_trial disks) (take place records) ≡ true
    → list_all (is_of_trial disks) records ≡ true
whole disks records place long before = sym (ap (list_all (is_of_trial disks)) (take_all place records long)) ∙ before
