use Rattle.std.proofs.Common.{◌≡◌, ℕ, List, ap, subst, sym, ◌∙◌}
use Rattle.std.specs.Global.{Global}
use Rattle.std.specs.declared.vec.Vec.{Vec}
use Rattle.table_store.specs.Tables.{word_at}
use Rattle.table_store.proofs.Firsts.{word_with}
use Rattle.world.specs.World.{Setup}
use Rattle.engine_config.specs.Configured.{firsts_of}
use Rattle.engine_config.proofs.config.Config.first_word.Goals as goal

pub returns : goal.returns
returns c =
    let room = c.self.invariant.room in
    subst (λ (setup : Setup). c.word_of.result ≡ word_at setup.tables c.args.table c.args.index) c.self.view_is
    (c.word_of.ensures ∙ (ap (λ (lists : List (Vec ℕ Global)). word_at (firsts_of lists) c.args.table c.args.index) c.deref.ensures.value
    ∙ sym (word_with c.self.inside.limits.table_lengths (firsts_of c.self.inside.tables.items) c.args.table c.args.index room.lists room.words)))
