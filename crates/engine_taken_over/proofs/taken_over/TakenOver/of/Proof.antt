-- `of` meets its contract: what the parts say is what was taken over. Assumes `Logic`.
use Rattle.std.proofs.Common.{[], ◌∷◌, Some, refl}
use mir.Val.{Val, vptr}
use base.Logic.{emp}
use contract.Running.{tables}
use types.Kit.{‵, raw, ◌⊛◌, ◌$◌, ◌∵◌, !, qed, keep, move, split, drop, fjoin, suffices, done}
use types.Run.{returns, enter, no_more}
use types.Part.{agg}
use types.ByLocal.{alloc_all, pass_all, free_all, look_at, sets}
use denote.Builtin.{RefOf}
use denote.Exit.{yes}
use denote.RattleType.{owns}
use denote.Ref.{shr_vals}
use denote.Signature.{plain, types_at}
use denote.Steps.{nothing}
use denote.Triple.Entry.{alive}
use denote.Triple.Walked.{says, Stays, stay_dropped, walk_of, ends_at, Goes-dropped}
use Rattle.std.proofs.raw_atomic.Walks.{proved}
use Rattle.engine_transport.specs.contracts.transport.Transport as transport
use Rattle.engine_runs.specs.contracts.runs.Runs as runs
use Rattle.engine_taken_over.specs.contracts.taken_over.TakenOver.{the_row as R}
use Rattle.engine_taken_over.specs.contracts.taken_over.TakenOver.of as f
use Rattle.engine_taken_over.proofs.Walks.{empty, made}
use Rattle.engine_taken_over.proofs.taken_over.TakenOver.of.Statement.{statement}
use Rattle.engine_taken_over.proofs.taken_over.TakenOver.of.Code as code

abbrev stayed : Stays f.ended.signature.params f.ended.kept
stayed = (stay_dropped _ yes, (stay_dropped _ yes, tt))

pub of_spec : {M : Type 1} → statement M
of_spec 𝓤 𝓛 𝓜 𝓡 wired =
    let c = f.clauses 𝓛 𝓜.mem 𝓡.returns in let 𝓣 = tables 𝓤 𝓛.H 𝓜 𝓡 𝓡.env in
    proved 𝓛 f.ended stayed c 𝓜 𝓡 (
      Goes-dropped 𝓛 2 (RefOf (0 ∷ []) tt (plain (λ _. transport.the_row)) (λ _. tt)) yes (λ κs x f. refl),
      (Goes-dropped 𝓛 2 (RefOf (1 ∷ []) tt (plain (λ _. runs.the_row)) (λ _. tt)) yes (λ κs x f. refl), tt),
    ) f.Key.name code.function (code.unfolded 𝓤 𝓛.H 𝓜 𝓡 wired)
    (λ κs. (shr_vals, (shr_vals, tt))) (λ κs. ((λ r vs s. s.0), ((λ r vs s. s.0), tt))) (λ κs qs bounds a g are.
    let y : (walk_of 𝓛 f.ended stayed c).Ghost = ((κs, qs, bounds, a, (shr_vals a.0, (shr_vals a.1.0, tt))), g) in
    let told : R.Denot = record { world = Some (record { transport = a.0.now; runs = a.1.0.now.runs; ended = [] }) } in
    let u : Val = vptr a.0.ref_ptr.0 a.0.ref_ptr.1 in let v : Val = vptr a.1.0.ref_ptr.0 a.1.0.ref_ptr.1 in
    qed 𝓛 ((raw (alive 𝓛 f.signature κs qs) ⊛ ‵ (owns (types_at f.signature.params κs) a (shr_vals a.0, (shr_vals a.1.0, tt)))) ∷ raw (emp 𝓤) ∷ []) ∵
    keep ! (0 ∷ []) $ split ! $ move ! (1 ∷ []) $ drop ! $
    enter ! 𝓣.C 𝓣.Λ code.function (u ∷ v ∷ []) ((walk_of 𝓛 f.ended stayed c).post y) $ alloc_all ! (λ l. pass_all ! refl ((tt, tt), ((tt, tt), tt)) $
    sets ! (agg ! (no_more !)) refl (tt, tt) $
    nothing ! $ made ! $ fjoin ! $
    returns ! (look_at ! 0 refl) $ free_all ! refl $
    suffices ! _ (ends_at 𝓛 f.ended stayed c y empty told (tt, (tt, tt)) (tt, (tt, tt))) $ says ! refl $
    nothing ! $ nothing ! $ fjoin ! $ nothing ! $ fjoin ! $ move ! (2 ∷ 0 ∷ 1 ∷ []) $ done !))
