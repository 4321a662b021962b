-- `empty` meets its contract: what the slot owned goes out as a box taken apart. Assumes `Logic`.
use Rattle.std.proofs.Common.{◌≡◌, List, [], ◌∷◌, ◌++◌, refl, sym, ap, ◌∙◌, subst}
use Rattle.std.specs.Prelude.{Option, None, Some, IsSome}
use base.Fraction.{full_share}
use base.Logic.{SProp, ent, emp, id⊢, never, fst∗}
use base.Fml.{ftrue, flft}
use mir.Raw.{raw as bare}
use mir.Syntax.{named}
use mir.Val.{Val, vptr}
use prog.Wp.{WpFn}
use types.Logic.{sem}
use contract.Monad.{fact, fact_i}
use contract.Running.{tables}
use types.Kit.{‵, raw, ◌⊛◌, ◌$◌, ◌∵◌, !, qed, by, move, keep, use0, split, join, fsplit, fsplit3, fjoin, fjoin3, rewrite, suffices}
use types.Run.{stop, fld, load, of_opd, no_more, and_then, returns, enter}
use types.ByLocal.{alloc_all, pass_all, free_all, look_at, get, through, sets}
use types.Part.{agg, whole, sub, look_in}
use denote.Exit.{yes}
use denote.Laws.{shows}
use denote.Memory.{lone, cell_at}
use denote.RattleType.{RattleType}
use denote.RawPtr.{Ptr, block_ptr, null_ptr, in_a_block}
use denote.Ref.{MutRef}
use denote.Signature.{plain}
use denote.Steps.{nothing, opens, closes, peeks, heard}
use denote.Triple.Walked.{Stays, stay_ref, stay_dropped, walk_of, Goes-ref, Goes-dropped}
use Rattle.std_alloc.specs.Box.Ownership.{box_owns}
use Rattle.std.proofs.Handle.{heap_val, heap_Tells}
use Rattle.std.proofs.raw_atomic.Walks.{proved_at, leaves}
use Rattle.std.specs.contracts.alloc.Global as heap
use Rattle.std.proofs.alloc.Global.TheLaws as heap_laws
use Rattle.std.specs.contracts.impls.GlobalAllocator.TheImpl.{ghosts}
use Rattle.host_embedding.specs.declared.hosted_engine.HostedEngine.{HostedEngine as Held}
use Rattle.host_embedding.specs.contracts.hosted_engine.HostedEngine.{the_row as T}
use Rattle.camr_c.specs.Holding.{holds, chunk}
use Rattle.camr_c.specs.declared.engine_slot.EngineSlot.{EngineSlot as Handle}
use Rattle.camr_c.specs.contracts.engine_slot.EngineSlot.{the_row as R}
use Rattle.camr_c.proofs.engine_slot.EngineSlot.TheLaws.{lowers}
use Rattle.camr_c.proofs.Steps.{some_is}
use Rattle.camr_c.proofs.Values.{both, RawBox, loose_good, loose_in}
use Rattle.camr_c.specs.contracts.engine_slot.EngineSlot.empty as f
use Rattle.camr_c.proofs.engine_slot.EngineSlot.empty.Statement.{statement}
use Rattle.camr_c.proofs.engine_slot.EngineSlot.empty.Code as code

abbrev Z : RattleType
Z = heap.the_row

abbrev Lr : RattleType
Lr = RawBox T Z heap_laws.the_row_laws ghosts

abbrev stayed : Stays f.ended.signature.params f.ended.kept
stayed = (stay_ref (0 ∷ []) tt (plain (λ _. R)), (stay_dropped (plain (λ _. Z)) yes, tt))

pub empty_spec : {M : Type 1} → statement M
empty_spec 𝓤 𝓛 𝓜 𝓡 wired =
    let c = f.clauses 𝓛 𝓜.mem 𝓡.returns in let 𝓣 = tables 𝓤 𝓛.H 𝓜 𝓡 𝓡.env in let LZ = heap_laws.the_row_laws in
    proved_at 𝓛 f.ended stayed c 𝓜 𝓡 (Goes-ref 𝓛 1 0 tt (plain (λ _. R)), (Goes-dropped 𝓛 1 (plain (λ _. Z)) yes (λ κs x g. refl), tt))
    f.Key.name code.function (code.unfolded 𝓤 𝓛.H 𝓜 𝓡 wired) (λ z are.
    let κ = z.0.0.0 in let q = z.0.1.0 in let m = z.0.3.0 in let a = z.0.3.1.0 in let rb = m.ref_ptr.0 in let ro = m.ref_ptr.1 in let h = m.now in let Needs : Type 0 = IsSome h.held in
    let Post : Val → SProp 𝓤 = (walk_of 𝓛 f.ended stayed c).post z in let Run : List Val → SProp 𝓤 = λ ws. WpFn 𝓤 𝓛.H 𝓣.C 𝓣.Λ code.function ws Post in
    qed 𝓛 (((‵ (flft κ q) ⊛ ‵ ftrue) ⊛ ‵ ((MutRef (named 0) κ R).own_val m z.0.4.0) ⊛ ‵ (Z.own_val a z.0.4.1.0) ⊛ ‵ ftrue) ∷ raw (fact 𝓤 Needs) ∷ []) ∵
    move ! (1 ∷ []) $ heard ! Needs (λ has. let x : Held = (some_is h.held has).0 in let is : h.held ≡ Some x = (some_is h.held has).1 in
    split ! $ split ! $ move ! (2 ∷ []) $ split ! $ move ! (1 ∷ []) $ split ! $
    -- [the heap's handle; nothing; self; the token; nothing]
    let told = heap_Tells a z.0.4.1.0 are.1.0 in let us : List Val = vptr rb ro ∷ heap_val ∷ [] in
    rewrite ! 0 (λ (xs : List Val). ‵ (Z.own_val a xs)) told refl $
    suffices ! (Run us) (subst (λ (vs : List Val). ent 𝓤 (Run us) (Run vs)) (sym (λ i. are.0.0 i ++ (told i ++ []))) (id⊢ 𝓤 (Run us))) $
    keep ! (0 ∷ 2 ∷ 3 ∷ []) $
    enter ! 𝓣.C 𝓣.Λ code.function us Post $ alloc_all ! (λ l. pass_all ! refl ((tt, tt), ((tt, ((tt, tt), tt)), tt)) $
    move ! (1 ∷ []) $ fsplit3 ! $ move ! (1 ∷ 2 ∷ 4 ∷ []) $ opens ! tt R rb ro (λ vs.
    move ! (1 ∷ []) $ peeks ! R _ (shows 𝓛 R) h vs (λ ok. fsplit ! $ move ! (1 ∷ []) $ rewrite ! 0 (λ (v : Option Held). ‵ (holds T h.at v)) is refl $
    in_a_block ! h.at (λ p. box_owns chunk T p x) (fst∗ 𝓤 (never 𝓤) (sem 𝓛 (chunk (bare (lone T.mir)) null_ptr))) (λ b o e.
    let word = lowers.val_is h vs ok ∙ ap (λ (p : Ptr). lowers.lowered (record h { at = p }) ∷ []) e in
    let Cell = λ (xs : List Val). ‵ (cell_at full_share R.mir xs rb ro) in let new : Handle = record h { held = None } in
    rewrite ! 2 Cell word refl $
    -- [what lies after the slot; the fields; the slot's cell; the open borrow, in three entries; self's first part; the heap's handle]
    sets ! (of_opd ! (load ! (through ! refl (fld ! refl (stop !))) (look_in ! 2 (sub ! 0 refl (whole !))))) refl (tt, tt) $
    sets ! (of_opd ! (get ! refl)) refl (tt, tt) $
    sets ! (agg ! (and_then ! (get ! refl) (and_then ! (get ! refl) (no_more !)))) refl (loose_good T Z LZ ghosts b o heap_val (tt, ((tt, tt), tt))) $
    rewrite ! 2 Cell (sym word) refl $
    nothing ! $ move ! (2 ∷ 0 ∷ []) $ fjoin ! $ move ! (2 ∷ 0 ∷ 3 ∷ 4 ∷ 5 ∷ []) $ closes ! tt R new vs rb ro $
    -- [two parts of self; the token; what lay after the slot; self's first part; the heap's handle]
    move ! (3 ∷ 5 ∷ []) $ loose_in T Z LZ ghosts ! b o heap_val a x $
    let r : Lr.Denot = record { at = block_ptr b o; alloc = a; value = x } in
    returns ! (look_at ! 0 refl) $ free_all ! refl $ move ! (4 ∷ 1 ∷ 2 ∷ []) $ fjoin3 ! $
    -- [self; the result; the token]
    use0 𝓛 (raw (fact 𝓤 (new ≡ new))) (fact_i 𝓤 (new ≡ new) (emp 𝓤) refl) $ use0 𝓛 (raw (fact 𝓤 (h.held ≡ Some x))) (fact_i 𝓤 (h.held ≡ Some x) (emp 𝓤) is) $ join ! $
    nothing ! $ nothing ! $ fjoin ! $ move ! (2 ∷ 0 ∷ []) $ fjoin ! $ nothing ! $ move ! (4 ∷ 0 ∷ []) $ join ! $ move ! (0 ∷ 1 ∷ 3 ∷ 2 ∷ []) $
    by ! (leaves 𝓛 f.ended stayed c z (both (vptr b o) heap_val) r (new, (tt, tt)) (tt, (tt, tt)))))))))
