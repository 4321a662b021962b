use Rattle.std.proofs.Common.{◌≡◌, ℕ, List, IfOk, map, sym, subst}
use Rattle.std.specs.List.{AllByRecursion}
use Rattle.engine_config.specs.declared.config.Config.{Config}
use Rattle.world.specs.World.{Setup}
use Rattle.world_calls.specs.declared.trace.Version.{Version}
use Rattle.manifest_form.specs.Seen.{table_seen}
use Rattle.manifest.specs.Seen.{IsTableOf}
use Rattle.manifest.proofs.Configured.{wordless}
use Rattle.manifest.proofs.setup.config.Goals as goal

pub returns-in-One-clause-tables : goal.returns-in-One-clause-tables
returns-in-One-clause-tables c =
    let tables = map table_seen c.args.tables.items in
    let none = wordless c.args.limits.table_lengths tables (subst (λ (v : Version). AllByRecursion (IsTableOf v) tables) c.in-One.is c.requires.are_tables) in
    subst (λ (ts : List (List ℕ)). IfOk c.alone.result (λ config. config.tables ≡ ts)) (sym none) c.alone.ensures.tables

pub returns-in-Two-clause-tables : goal.returns-in-Two-clause-tables
returns-in-Two-clause-tables c =
    let tables = map table_seen c.args.tables.items in
    let none = wordless c.args.limits.table_lengths tables (subst (λ (v : Version). AllByRecursion (IsTableOf v) tables) c.in-Two.is c.requires.are_tables) in
    subst (λ (ts : List (List ℕ)). IfOk c.under.result (λ config. config.tables ≡ ts)) (sym none) c.under.ensures.tables
