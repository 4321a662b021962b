-- `fill` meets its contract: the slot's pointer is the box's, and what the box owned is the slot's. Assumes `Logic`.
use Rattle.std.proofs.Common.{List, [], ◌∷◌, ◌++◌, refl, sym, subst}
use Rattle.std.specs.Prelude.{Some}
use base.Fraction.{full_share}
use base.Logic.{SProp, ent, id⊢}
use base.Fml.{ftrue, flft}
use mir.Syntax.{named}
use mir.Val.{Val, vptr, vunit, vstruct, vcons, vnil}
use prog.Wp.{WpFn}
use contract.Running.{tables}
use types.Kit.{‵, ◌⊛◌, ◌$◌, ◌∵◌, !, qed, move, keep, drop, split, join, fsplit, fsplit3, fjoin, fpack, feq_i, rewrite, suffices, frame, group, done}
use types.Run.{stop, fld, of_opd, unit_lit, assigns, returns, enter}
use types.ByLocal.{alloc_all, pass_all, free_all, look_at, get, get_in, through, sets}
use types.Part.{whole, sub, store_in}
use denote.Builtin.{RawPtr}
use denote.Exit.{yes}
use denote.Laws.{shows}
use denote.Memory.{cell_at}
use denote.RattleType.{RattleType, Valss}
use denote.RawPtr.{block_ptr}
use denote.Ref.{MutRef}
use denote.Signature.{plain}
use denote.Steps.{nothing, opens, closes, peeks}
use denote.Struct.Owning.{shape}
use denote.Struct.Struct.{within}
use denote.Triple.Walked.{says, Stays, stay_ref, stay_dropped, walk_of, ends_at, Goes-ref, Goes-dropped}
use Rattle.std.proofs.raw_atomic.Walks.{proved_at}
use Rattle.std.specs.contracts.alloc.Global as heap
use Rattle.std.proofs.alloc.Global.TheLaws as heap_laws
use Rattle.std.specs.contracts.impls.GlobalAllocator.TheImpl.{ghosts}
use Rattle.host_embedding.specs.contracts.run_handle.RunHandle.{the_row as T}
use Rattle.camr_c.specs.declared.run_slot.RunSlot.{RunSlot as Handle}
use Rattle.camr_c.specs.contracts.run_slot.RunSlot.{the_row as R, the_type}
use Rattle.camr_c.proofs.run_slot.RunSlot.TheLaws.{lowers}
use Rattle.camr_c.proofs.Values.{both, RawBox, loose_good, loose_out}
use Rattle.camr_c.specs.contracts.run_slot.RunSlot.fill as f
use Rattle.camr_c.proofs.run_slot.RunSlot.fill.Statement.{statement}
use Rattle.camr_c.proofs.run_slot.RunSlot.fill.Code as code

abbrev Z : RattleType
Z = heap.the_row

abbrev Lr : RattleType
Lr = RawBox T Z heap_laws.the_row_laws ghosts

abbrev stayed : Stays f.ended.signature.params f.ended.kept
stayed = (stay_ref (0 ∷ []) tt (plain (λ _. R)), (stay_dropped (plain (λ _. Lr)) yes, tt))

pub fill_spec : {M : Type 1} → statement M
fill_spec 𝓤 𝓛 𝓜 𝓡 wired =
    let c = f.clauses 𝓛 𝓜.mem 𝓡.returns in let 𝓣 = tables 𝓤 𝓛.H 𝓜 𝓡 𝓡.env in
    proved_at 𝓛 f.ended stayed c 𝓜 𝓡 (Goes-ref 𝓛 1 0 tt (plain (λ _. R)), (Goes-dropped 𝓛 1 (plain (λ _. Lr)) yes (λ κs x g. refl), tt))
    f.Key.name code.function (code.unfolded 𝓤 𝓛.H 𝓜 𝓡 wired) (λ z are.
    let κ = z.0.0.0 in let q = z.0.1.0 in let m = z.0.3.0 in let d = z.0.3.1.0 in let rb = m.ref_ptr.0 in let ro = m.ref_ptr.1 in let h = m.now in
    let Post : Val → SProp 𝓤 = (walk_of 𝓛 f.ended stayed c).post z in let Run : List Val → SProp 𝓤 = λ ws. WpFn 𝓤 𝓛.H 𝓣.C 𝓣.Λ code.function ws Post in
    qed 𝓛 (((‵ (flft κ q) ⊛ ‵ ftrue) ⊛ ‵ ((MutRef (named 0) κ R).own_val m z.0.4.0) ⊛ ‵ (Lr.own_val d z.0.4.1.0) ⊛ ‵ ftrue) ∷ ‵ ftrue ∷ []) ∵
    split ! $ split ! $ move ! (2 ∷ []) $ split ! $ move ! (1 ∷ []) $ split ! $
    -- [the box; nothing; self; the token; nothing; nothing]
    loose_out T Z heap_laws.the_row_laws ghosts ! d z.0.4.1.0 (λ b o hv e ws fits. let w : Val = both (vptr b o) hv in let us : List Val = vptr rb ro ∷ w ∷ [] in
    suffices ! (Run us) (subst (λ (vs : List Val). ent 𝓤 (Run us) (Run vs)) (sym (λ i. are.0.0 i ++ (ws i ++ []))) (id⊢ 𝓤 (Run us))) $
    keep ! (0 ∷ 3 ∷ 4 ∷ []) $
    enter ! 𝓣.C 𝓣.Λ code.function us Post $ alloc_all ! (λ l. pass_all ! refl ((tt, tt), (loose_good T Z heap_laws.the_row_laws ghosts b o hv fits, tt)) $
    sets ! (of_opd ! (get_in ! (fld ! refl (stop !)) (sub ! 0 refl (whole !)))) refl (tt, tt) $
    sets ! (of_opd ! (get ! refl)) refl (tt, tt) $
    -- [what lies after the box; self; the token]
    move ! (1 ∷ []) $ fsplit3 ! $ move ! (1 ∷ 2 ∷ 4 ∷ []) $ opens ! tt R rb ro (λ vs.
    move ! (1 ∷ []) $ peeks ! R _ (shows 𝓛 R) h vs (λ ok. fsplit ! $ drop ! $ drop ! $
    -- [the slot's cell; the open borrow, in three entries; self's first part; what lies after the box]
    let Cell = λ (xs : List Val). ‵ (cell_at full_share R.mir xs rb ro) in let new : Handle = record { at = block_ptr b o; held = Some d.value } in let v : Val = vstruct (vcons (vptr b o) vnil) in
    rewrite ! 0 Cell (lowers.val_is h vs ok) refl $
    assigns ! (of_opd ! (get ! refl)) (through ! refl (fld ! refl (stop !))) (store_in ! 0 (sub ! 0 refl (whole !)) (tt, tt)) $
    sets ! (of_opd ! (unit_lit !)) refl (tt, tt) $
    nothing ! $ feq_i ! (List Val) (vptr b o ∷ []) (vptr b o ∷ []) refl $ fjoin ! $ feq_i ! (List Val) (v ∷ []) (v ∷ []) refl $ fjoin ! $
    fpack ! (Valss (RawPtr ∷ [])) (within (shape the_type) (block_ptr b o, tt) (v ∷ [])) (vptr b o ∷ [], tt) $
    move ! (0 ∷ 6 ∷ []) $ fjoin ! $ move ! (1 ∷ 0 ∷ []) $ closes ! tt R new (v ∷ []) rb ro $
    -- [two parts of self; the token; self's first part]
    returns ! (look_at ! 0 refl) $ free_all ! refl $ move ! (3 ∷ []) $
    suffices ! _ (ends_at 𝓛 f.ended stayed c z vunit tt (new, (tt, tt)) (tt, (tt, tt))) $ says ! refl $
    group ! 3 $ nothing ! $ nothing ! $ join ! $ move ! (1 ∷ 0 ∷ []) $ join ! $ nothing ! $ move ! (2 ∷ 0 ∷ []) $ join ! $ frame ! $ frame ! $
    feq_i ! _ (vunit ∷ []) _ refl $ done !)))))
