use Rattle.std.proofs.Common.{◌∙◌, Some, ap, codes, refl, sym}
use Rattle.clap.specs.Words.{Text, found_of}
use Rattle.cli_line.proofs.Given.{no_text, text_given}
use Rattle.cli_inspect_line.proofs.trying.try_plan.Goals as goal

pub returns-in_default : goal.returns-in_default
returns-in_default c = λ makes. no_text (found_of c.args.tried.now) (codes "MANIFEST") c.get_str.result makes.0.0 c.get_str.ensures c.in_default.is makes.0.1

pub returns-in_default-get_str : goal.returns-in_default-get_str
returns-in_default-get_str c = λ makes. no_text (found_of c.args.tried.now) (codes "DISKS") c.get_str-2.result makes.1.0 c.get_str-2.ensures c.in_default-get_str.is makes.1.1

pub returns-in_default-seed_given : goal.returns-in_default-seed_given
returns-in_default-seed_given c = λ makes. c.in_default-seed_given.ensures makes.2.0 makes.2.1

pub returns : goal.returns
returns c =
    let f = found_of c.args.tried.now in
    let manifest = text_given f (codes "MANIFEST") c.get_str.result _ c.get_str.ensures c.in-Some.is ∙ ap (λ (t : Text). Some t) (sym c.in_ok-manifest.ensures.ok) in
    let disks = text_given f (codes "DISKS") c.get_str-2.result _ c.get_str-2.ensures c.in-Some-get_str.is ∙ ap (λ (t : Text). Some t) (sym c.in_ok-disks.ensures.ok) in
    (refl, manifest, disks, c.in-Some-seed_given.ensures, c.in_ok-trace.ensures)
