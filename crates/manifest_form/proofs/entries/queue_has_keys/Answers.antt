use Rattle.manifest_form.proofs.entries.queue_has_keys.Goals as goal

pub returns-in-Some : goal.returns-in-Some
returns-in-Some c = rw c.in-Some.is c.has_keys-in-Some.ensures
