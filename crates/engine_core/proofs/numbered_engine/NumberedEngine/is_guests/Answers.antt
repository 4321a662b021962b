use Rattle.std.proofs.Common.{List, subst, sym}
use Rattle.freeze_ledger.specs.declared.freeze.Freeze.{Freeze}
use Rattle.engine_core.specs.ByNumber.{AreTokens}
use Rattle.engine_core.specs.Settings.{setup_over}
use Rattle.engine_core.proofs.Numbered.{its_tokens_rise}
use Rattle.engine_core.proofs.numbered_engine.NumberedEngine.is_guests.Goals as goal

pub has_token-requires : goal.has_token-requires
has_token-requires c = subst (λ (tokens : List Freeze). AreTokens tokens) (sym c.deref.ensures.value) (its_tokens_rise (setup_over c.self.inside.config.now c.self.inside.over.world) c.self.inside.parts.transport c.self.inside.parts.runs c.self.inside.tokens.items c.self.invariant)
