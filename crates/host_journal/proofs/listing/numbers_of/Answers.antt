use Rattle.std.proofs.Common.{◌∙◌, ap, sym, string_bytes}
use Rattle.host_journal.specs.Names.{kind_of}
use Rattle.host_journal.specs.Listings.{is_foreign}
use Rattle.host_journal.proofs.Known.{known_more, manifests_more, not_known, segments_more}
use Rattle.host_journal.proofs.listing.numbers_of.Goals as goal

pub returns-then-is_foreign : goal.returns-then-is_foreign
returns-then-is_foreign c =
    not_known string_bytes c.args.names.now c.loop-name.name-index c.name-item.result c.loop-name-test.true c.name-item.is
    (sym (ap is_foreign (c.kind_of-kind.ensures ∙ ap kind_of c.as_bytes.ensures.value)) ∙ sym c.is_foreign.ensures ∙ c.if-is_foreign.true)

pub loop-name-preserved : goal.loop-name-preserved
loop-name-preserved c =
    let kind = c.kind_of-kind.ensures ∙ ap kind_of c.as_bytes.ensures.value in
    record {
      known = known_more string_bytes c.args.names.now c.loop-name.name-index c.name-item.result c.loop-name-test.true c.name-item.is c.loop-name.invariant.known
          (sym (ap is_foreign kind) ∙ sym c.is_foreign.ensures ∙ c.if-is_foreign.false);
      segments = segments_more string_bytes c.args.names.now c.loop-name.name-index c.name-item.result c.kind_of-kind.result c.loop-name.numbers.segments.items _ c.loop-name-test.true c.name-item.is kind
          c.loop-name.invariant.segments c.in_ok-add.ensures.segments;
      manifests = manifests_more string_bytes c.args.names.now c.loop-name.name-index c.name-item.result c.kind_of-kind.result c.loop-name.numbers.manifests.items _ c.loop-name-test.true c.name-item.is kind
          c.loop-name.invariant.manifests c.in_ok-add.ensures.manifests;
    }
