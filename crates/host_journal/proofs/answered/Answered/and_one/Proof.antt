-- `and_one` meets its contract: one answer more was given. Assumes `Logic`.
use Rattle.std.proofs.Common.{[], ◌∷◌, ◌++◌, refl, w8, w64}
use mir.Val.{Val, vint, vptr}
use base.Logic.{emp}
use contract.Running.{tables}
use types.Kit.{‵, raw, ◌⊛◌, ◌$◌, ◌∵◌, !, qed, keep, move, split, drop, fjoin, suffices, done}
use types.Run.{returns, enter, no_more}
use types.Part.{agg}
use types.ByLocal.{alloc_all, pass_all, free_all, look_at, sets}
use denote.Builtin.{RefOf, u8, usize}
use denote.Exit.{yes}
use denote.Plain.{uint_vals, uint_Tells}
use denote.RattleType.{owns}
use denote.Ref.{shr_vals}
use denote.Signature.{plain, types_at}
use denote.Steps.{nothing}
use denote.Triple.Entry.{alive}
use denote.Triple.Walked.{says, Stays, stay_dropped, walk_of, ends_at, Goes-dropped}
use Rattle.std.proofs.raw_atomic.Walks.{proved}
use Rattle.host_journal.specs.contracts.answered.Answered.{the_row as R}
use Rattle.host_journal.specs.contracts.answered.Answered.and_one as f
use Rattle.engine_history.proofs.Walks.{empty, made}
use Rattle.host_journal.specs.Answered.{fault_of_code}
use Rattle.host_journal.proofs.answered.Answered.and_one.Statement.{statement}
use Rattle.host_journal.proofs.answered.Answered.and_one.Code as code

abbrev stayed : Stays f.ended.signature.params f.ended.kept
stayed = (stay_dropped _ yes, (stay_dropped _ yes, (stay_dropped _ yes, tt)))

pub and_one_spec : {M : Type 1} → statement M
and_one_spec 𝓤 𝓛 𝓜 𝓡 wired =
    let c = f.clauses 𝓛 𝓜.mem 𝓡.returns in let 𝓣 = tables 𝓤 𝓛.H 𝓜 𝓡 𝓡.env in
    proved 𝓛 f.ended stayed c 𝓜 𝓡 (
      Goes-dropped 𝓛 1 (RefOf (0 ∷ []) tt (plain (λ _. R)) (λ _. tt)) yes (λ κs x f. refl),
      (Goes-dropped 𝓛 1 (plain (λ _. usize)) yes (λ κs x f. refl), (Goes-dropped 𝓛 1 (plain (λ _. u8)) yes (λ κs x f. refl), tt)),
    ) f.Key.name code.function (code.unfolded 𝓤 𝓛.H 𝓜 𝓡 wired)
    (λ κs. (shr_vals, (uint_vals w64, (uint_vals w8, tt)))) (λ κs. ((λ r vs s. s.0), (uint_Tells w64, (uint_Tells w8, tt)))) (λ κs qs bounds a g are.
    let y : (walk_of 𝓛 f.ended stayed c).Ghost = ((κs, qs, bounds, a, (shr_vals a.0, (uint_vals w64 a.1.0, (uint_vals w8 a.1.1.0, tt)))), g) in
    let told : R.Denot = record { given = a.0.now.given ++ record { line = a.1.0; fault = fault_of_code a.1.1.0; behind = a.0.now.place } ∷ []; place = a.0.now.place } in
    let u : Val = vptr a.0.ref_ptr.0 a.0.ref_ptr.1 in let v : Val = vint w64 a.1.0 in let w : Val = vint w8 a.1.1.0 in
    qed 𝓛 ((raw (alive 𝓛 f.signature κs qs) ⊛ ‵ (owns (types_at f.signature.params κs) a (shr_vals a.0, (uint_vals w64 a.1.0, (uint_vals w8 a.1.1.0, tt))))) ∷ raw (emp 𝓤) ∷ []) ∵
    keep ! (0 ∷ []) $ split ! $ move ! (1 ∷ []) $ drop ! $
    enter ! 𝓣.C 𝓣.Λ code.function (u ∷ v ∷ w ∷ []) ((walk_of 𝓛 f.ended stayed c).post y) $ alloc_all ! (λ l. pass_all ! refl ((tt, tt), ((tt, record { fits = are.1.0.1 }), ((tt, record { fits = are.1.1.0.1 }), tt))) $
    sets ! (agg ! (no_more !)) refl (tt, tt) $
    nothing ! $ made ! $ fjoin ! $
    returns ! (look_at ! 0 refl) $ free_all ! refl $
    suffices ! _ (ends_at 𝓛 f.ended stayed c y empty told (tt, (tt, (tt, tt))) (tt, (tt, (tt, tt)))) $ says ! refl $
    nothing ! $ nothing ! $ fjoin ! $ nothing ! $ fjoin ! $ nothing ! $ fjoin ! $ move ! (2 ∷ 0 ∷ 1 ∷ []) $ done !))
