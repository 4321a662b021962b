-- A step from a world, and the same step from that world with another run changed: both are an event or neither, with the
-- same reply, and lead to the same world but for that change.
use Rattle.std.proofs.Common.{◌≡◌, ℕ, List, Bool, true, false, cond, Option, Some, None, refl, ap, sym, subst, ◌∙◌}
use Rattle.std.specs.Prelude.{⊤}
use Rattle.world.specs.World.{LiveRun, World}
use Rattle.world.specs.Lookups.{run_of, with_run}
use Rattle.world.specs.Event.{Reply}
use Rattle.world.specs.Laws.Moved.{is_start_of}
use Rattle.world.proofs.Lists.Found.{put_other}
use Rattle.world.proofs.Steps.Moves.{run_key}
use Rattle.world_laws.proofs.Apart.{put_swap}

-- the world with this run in the place of the one that has its number
abbrev pub changed : LiveRun → World → World
changed c world = record world { runs = record world.runs { list = with_run c world.runs.list } }

module _ (r : ℕ) (c : LiveRun) (named : c.number ≡ r) (w : World) where
  -- What a step from this world leads to, and what one from the changed world does: the same reply, and, where the run does
  -- not start, the same world but for the change; and the step leaves the run.
  pub record Alike (x y : Reply × World) : Type 0 where
    pub reply_is : x.0 ≡ y.0
    pub world_is : is_start_of r x.0 ≡ false → (y.1 ≡ changed c x.1) × (run_of r x.1.runs.list ≡ run_of r w.runs.list)

  -- or both are no event
  abbrev pub Both : Option (Reply × World) → Option (Reply × World) → Type 0
  Both None None = ⊤
  Both None (Some y) = ⊥
  Both (Some x) None = ⊥
  Both (Some x) (Some y) = Alike x y

  pub record AlikeOr (x y : Option (Reply × World)) : Type 0 where
    pub both : Both x y

  pub neither : AlikeOr None None
  neither = record { both = tt }

  pub an_event : (x y : Reply × World) → Alike x y → AlikeOr (Some x) (Some y)
  an_event x y it = record { both = it }

  pub one_of : (b : Bool) (x x' y y' : Reply × World) → Alike x x' → Alike y y' → Alike (cond b x y) (cond b x' y')
  one_of true x x' y y' first second = first
  one_of false x x' y y' first second = second

  pub either : (b : Bool) (x x' y y' : Option (Reply × World)) → AlikeOr x x' → AlikeOr y y' → AlikeOr (cond b x y) (cond b x' y')
  either true x x' y y' first second = first
  either false x x' y y' first second = second

  pub if_so : (b : Bool) (x x' : Option (Reply × World)) → AlikeOr x x' → AlikeOr (cond b x None) (cond b x' None)
  if_so true x x' it = it
  if_so false x x' it = neither

  -- the runs are as they were
  pub stays : (reply : Reply) (after : World) → after.runs.list ≡ w.runs.list → Alike (reply, after) (reply, changed c after)
  stays reply after e = record { reply_is = refl; world_is = λ other. (refl, ap (run_of r) e) }

  -- another run is changed
  pub changes : (reply : Reply) (between : World) (d : LiveRun) → between.runs.list ≡ w.runs.list → (d.number ≡ r → ⊥) → Alike (reply, changed d between) (reply, changed d (changed c between))
  changes reply between d e apart = record {
    reply_is = refl;
    world_is = λ other. (
      ap (λ (runs : List LiveRun). record between { runs = record between.runs { list = runs } }) (put_swap run_key d c between.runs.list (λ same. apart (same ∙ named))),
      put_other run_key d r between.runs.list apart ∙ ap (run_of r) e,
    );
  }
