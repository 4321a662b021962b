use Rattle.std.proofs.Common.{ℕ, List, Option, None, Some, ap, refl, subst, sym}
use Rattle.std.specs.Prelude.{◌≡◌, option_map}
use Rattle.host_journal.specs.declared.following.NextManifest.TheVariants.{Given, Same}
use Rattle.cli_commands.specs.Journaling.{IsNextGiven}
use Rattle.cli_commands.proofs.Starting.{own_text}
use Rattle.cli_commands.proofs.journaling.serve_after.Goals as goal

pub returns-in-Some-clause-starts : goal.returns-in-Some-clause-starts
returns-in-Some-clause-starts g c = λ held old own opened.
    let is : option_map (λ bytes. bytes.now) c.args.terms.given ≡ option_map (λ bytes. bytes.now) (Some c.in-Some.bytes) = ap (option_map (λ bytes. bytes.now)) c.in-Some.is in
    c.serve_following.ensures.starts held old (subst (λ (o : Option (List ℕ)). IsNextGiven o (held.manifests c.args.begun.now.number) (Given c.in-Some.bytes)) (sym is) refl) opened

pub returns-in-None-clause-starts : goal.returns-in-None-clause-starts
returns-in-None-clause-starts g c = λ held old own opened.
    let is : option_map (λ bytes. bytes.now) c.args.terms.given ≡ None = ap (option_map (λ bytes. bytes.now)) c.in-None.is in
    c.serve_following-in-None.ensures.starts held old (subst (λ (o : Option (List ℕ)). IsNextGiven o (held.manifests c.args.begun.now.number) (Same c.args.own)) (sym is) (own_text held _ old c.args.begun.now c.args.recovered.now _ c.args.own.now own opened c.requires.shut)) opened
