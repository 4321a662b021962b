use Rattle.std.proofs.Common.{◌∙◌, Some, ap, codes, sym}
use Rattle.std.proofs.lemmas.Result.{IfOk-weaker}
use Rattle.clap.specs.Words.{Text, found_of, rows_of}
use Rattle.cli_line.proofs.Given.{no_text, nothing_given, text_given}
use Rattle.cli_inspect_line.proofs.Shown.{both_drawn}
use Rattle.cli_inspect_line.proofs.showing.show_plan.Goals as goal

pub returns-in-None-None : goal.returns-in-None-None
returns-in-None-None c =
    let f = found_of c.args.show.now in
    let manifest = text_given f (codes "MANIFEST") c.get_str.result _ c.get_str.ensures c.in-Some.is ∙ ap (λ (t : Text). Some t) (sym c.in_ok-manifest.ensures.ok) in
    let trace = text_given f (codes "TRACE") c.get_str-2.result _ c.get_str-2.ensures c.in-Some-get_str.is ∙ ap (λ (t : Text). Some t) (sym c.in_ok-trace.ensures.ok) in
    let svg = nothing_given f (codes "svg") c.get_str-3.result c.get_str-3.ensures c.in-None-None.is-0 in
    let perfetto = nothing_given f (codes "perfetto") c.get_str-4.result c.get_str-4.ensures c.in-None-None.is-1 in
    c.printed.ensures (svg, perfetto) (manifest, trace) c.in-Some-filter_given.ensures.found c.in-Some-filter_given.ensures.bounded

pub returns-in-None-Some : goal.returns-in-None-Some
returns-in-None-Some c =
    let f = found_of c.args.show.now in
    let manifest = text_given f (codes "MANIFEST") c.get_str.result _ c.get_str.ensures c.in-Some.is ∙ ap (λ (t : Text). Some t) (sym c.in_ok-manifest.ensures.ok) in
    let trace = text_given f (codes "TRACE") c.get_str-2.result _ c.get_str-2.ensures c.in-Some-get_str.is ∙ ap (λ (t : Text). Some t) (sym c.in_ok-trace.ensures.ok) in
    let svg = nothing_given f (codes "svg") c.get_str-3.result c.get_str-3.ensures c.in-None-Some.is-0 in
    let perfetto = text_given f (codes "perfetto") c.get_str-4.result _ c.get_str-4.ensures c.in-None-Some.is-1 in
    IfOk-weaker c.drawn.result _ _
    (λ o h. h (svg, perfetto) (manifest, trace) c.in-Some-filter_given.ensures.found c.in-Some-filter_given.ensures.bounded) c.drawn.ensures

pub returns-in-Some-None : goal.returns-in-Some-None
returns-in-Some-None c =
    let f = found_of c.args.show.now in
    let manifest = text_given f (codes "MANIFEST") c.get_str.result _ c.get_str.ensures c.in-Some.is ∙ ap (λ (t : Text). Some t) (sym c.in_ok-manifest.ensures.ok) in
    let trace = text_given f (codes "TRACE") c.get_str-2.result _ c.get_str-2.ensures c.in-Some-get_str.is ∙ ap (λ (t : Text). Some t) (sym c.in_ok-trace.ensures.ok) in
    let svg = text_given f (codes "svg") c.get_str-3.result _ c.get_str-3.ensures c.in-Some-None.is-0 in
    let perfetto = nothing_given f (codes "perfetto") c.get_str-4.result c.get_str-4.ensures c.in-Some-None.is-1 in
    IfOk-weaker c.drawn-in-Some-None.result _ _
    (λ o h. h (svg, perfetto) (manifest, trace) c.in-Some-filter_given.ensures.found c.in-Some-filter_given.ensures.bounded) c.drawn-in-Some-None.ensures

pub returns-in-Some-Some : goal.returns-in-Some-Some
returns-in-Some-Some c =
    let f = found_of c.args.show.now in
    both_drawn (rows_of f) c.in-Some-filter_given.filter _ _
    (text_given f (codes "svg") c.get_str-3.result _ c.get_str-3.ensures c.in-Some-Some.is-0)
    (text_given f (codes "perfetto") c.get_str-4.result _ c.get_str-4.ensures c.in-Some-Some.is-1)
    c.in-Some-filter_given.ensures.found

pub returns-in_default : goal.returns-in_default
returns-in_default c = λ makes. no_text (found_of c.args.show.now) (codes "MANIFEST") c.get_str.result makes.0.0.0 c.get_str.ensures c.in_default.is makes.0.0.1

pub returns-in_default-get_str : goal.returns-in_default-get_str
returns-in_default-get_str c = λ makes. no_text (found_of c.args.show.now) (codes "TRACE") c.get_str-2.result makes.0.1.0.0 c.get_str-2.ensures c.in_default-get_str.is makes.0.1.0.1

pub returns-in_default-filter_given : goal.returns-in_default-filter_given
returns-in_default-filter_given c = λ makes. c.in_default-filter_given.ensures.found makes.1.0 makes.1.1 makes.1.2
