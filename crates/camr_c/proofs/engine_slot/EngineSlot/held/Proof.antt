-- `held` meets its contract: the value in the slot is lent, and the slot follows it. Assumes `Logic`.
use Rattle.std.proofs.Common.{◌≡◌, ℕ, List, [], ◌∷◌, refl, sym, ap, ◌∙◌}
use Rattle.std.specs.Prelude.{Option, Some, IsSome}
use seplogic.Ra.Ura.{Ura}
use base.Fraction.{full_share}
use base.Logic.{SProp, ent, sep, never, fst∗}
use base.Fml.{GName, Fml, ftrue, fsep, flft}
use mir.Syntax.{named}
use mir.Val.{Val, vptr}
use mir.Raw.{raw as bare}
use types.Logic.{Logic, sem}
use contract.Monad.{fact}
use contract.Running.{tables}
use types.Kit.{‵, raw, ◌⊛◌, some, later, at_ret, ◌$◌, ◌∵◌, !, qed, by, move, keep, use1, split, join, pick, await, fsplit, fsplit3, fjoin, fpack, rewrite, suffices, group, frame, done}
use types.Run.{stop, fld, load, of_opd, first, blocks, exec, returns, enter, addr}
use types.ByLocal.{alloc_all, pass_all, free_all, look_at, get, through, sets, sets_last, env}
use types.Part.{whole, sub, look_in}
use denote.Exit.{no}
use denote.Follow.{follows, Part, lends_Part}
use denote.Laws.{shows}
use denote.Memory.{lone, part_at, part_of, mem, cell_at}
use denote.RawPtr.{Ptr, block_ptr, null_ptr, in_a_block}
use denote.Ref.{MutRef, mut_vals, mut_Tells}
use denote.Signature.{plain, mut_ref_to}
use denote.Steps.{nothing, opens, peeks, heard}
use denote.Struct.Owning.{shape}
use denote.Struct.Struct.{Struct}
use denote.Triple.Walked.{says, Stays, stay_dropped, walk_of, ends_at, Goes-spent_ref}
use Rattle.std_alloc.specs.Box.Ownership.{box_owns}
use Rattle.std.proofs.VecSteps.Shapes.{after}
use Rattle.std.proofs.raw_atomic.Walks.{proved}
use Rattle.host_embedding.specs.declared.hosted_engine.HostedEngine.{HostedEngine as Held}
use Rattle.host_embedding.specs.contracts.hosted_engine.HostedEngine.{the_row as T}
use Rattle.camr_c.specs.Holding.{holds, chunk}
use Rattle.camr_c.specs.Lending.{with_engine as with_held}
use Rattle.camr_c.specs.declared.engine_slot.EngineSlot.{EngineSlot as Handle}
use Rattle.camr_c.specs.contracts.engine_slot.EngineSlot.{the_row as R, the_type}
use Rattle.camr_c.proofs.engine_slot.EngineSlot.TheLaws.{lowers}
use Rattle.camr_c.proofs.Steps.{some_is}
use Rattle.camr_c.specs.contracts.engine_slot.EngineSlot.held as f
use Rattle.camr_c.proofs.engine_slot.EngineSlot.held.Statement.{statement}
use Rattle.camr_c.proofs.engine_slot.EngineSlot.held.Code as code

abbrev stayed : Stays f.ended.signature.params f.ended.kept
stayed = (stay_dropped (mut_ref_to (0 ∷ []) tt (plain (λ _. R))) no, tt)

abbrev inside : Ptr → List Val → Fml
inside p us = (Struct (shape the_type)).own_val (p, tt) us

module _ {M : Type 1} {𝓤 : Ura M} (𝓛 : Logic 𝓤) (h : Handle) (b o rb ro : ℕ) (us : List Val) where
  abbrev rest : Fml
  rest = fsep (fsep (chunk (bare (lone T.mir)) (block_ptr b o)) (inside h.at us)) (cell_at full_share R.mir us rb ro)

  back : h.at ≡ block_ptr b o → (w : Held) → ent 𝓤 (sep 𝓤 (sem 𝓛 ((mem T).own_at w b o)) (sem 𝓛 rest)) (sem 𝓛 ((mem R).own_at (with_held h w) rb ro))
  unfolding part_of
  back e w =
      qed 𝓛 (‵ (part_at T full_share w b o) ∷ ‵ rest ∷ []) ∵ move ! (1 ∷ []) $ fsplit ! $ fsplit ! $
      -- [the right to free; the fields; the slot's cell; the value]
      move ! (3 ∷ 0 ∷ []) $ fjoin ! $ rewrite ! 0 (λ (p : Ptr). ‵ (box_owns chunk T p w)) (sym e) refl $ move ! (1 ∷ 0 ∷ []) $ fjoin ! $ move ! (1 ∷ 0 ∷ []) $ fjoin ! $
      fpack ! (List Val) (λ vs. fsep (cell_at full_share R.mir vs rb ro) (R.own_val (with_held h w) vs)) us $ done !

pub held_spec : {M : Type 1} → statement M
held_spec 𝓤 𝓛 𝓜 𝓡 wired =
    let c = f.clauses 𝓛 𝓜.mem 𝓡.returns in let W = walk_of 𝓛 f.ended stayed c in let 𝓣 = tables 𝓤 𝓛.H 𝓜 𝓡 𝓡.env in
    proved 𝓛 f.ended stayed c 𝓜 𝓡 (Goes-spent_ref 𝓛 1 (0 ∷ []) tt (plain (λ _. R)), tt)
    f.Key.name code.function (code.unfolded 𝓤 𝓛.H 𝓜 𝓡 wired)
    (λ κs. (mut_vals, tt)) (λ κs. (mut_Tells (named 0) κs.0 R, tt)) (λ κs qs bounds a _ are.
    let κ = κs.0 in let q = qs.0 in let rb = a.0.ref_ptr.0 in let ro = a.0.ref_ptr.1 in let γ = a.0.ghost_name in let h = a.0.now in let vs = mut_vals a.0 in
    let y : W.Ghost = ((κs, qs, bounds, a, (vs, tt)), tt) in let Needs : Type 0 = IsSome h.held in
    qed 𝓛 (((‵ (flft κ q) ⊛ ‵ ftrue) ⊛ ‵ ((MutRef (named 0) κ R).own_val a.0 vs) ⊛ ‵ ftrue) ∷ raw (fact 𝓤 Needs) ∷ []) ∵
    move ! (1 ∷ []) $ heard ! Needs (λ has. let x : Held = (some_is h.held has).0 in let is : h.held ≡ Some x = (some_is h.held has).1 in
    split ! $ split ! $ move ! (2 ∷ []) $ split ! $ keep ! (0 ∷ 2 ∷ []) $
    enter ! _ _ _ _ _ $ alloc_all ! (λ l. pass_all ! refl ((tt, tt), tt) $ let En = env code.Mir.locals l in
    fsplit3 ! $ move ! (1 ∷ 2 ∷ 3 ∷ []) $ opens ! tt R rb ro (λ us.
    move ! (1 ∷ []) $ peeks ! R _ (shows 𝓛 R) h us (λ ok. fsplit ! $ move ! (1 ∷ []) $ rewrite ! 0 (λ (v : Option Held). ‵ (holds T h.at v)) is refl $
    in_a_block ! h.at (λ p. box_owns chunk T p x) (fst∗ 𝓤 (never 𝓤) (sem 𝓛 (chunk (bare (lone T.mir)) null_ptr))) (λ b o e. fsplit ! $
    let word = lowers.val_is h us ok ∙ ap (λ (p : Ptr). lowers.lowered (record h { at = p }) ∷ []) e in
    let Cell = λ (ws : List Val). ‵ (cell_at full_share R.mir ws rb ro) in
    rewrite ! 3 Cell word refl $
    -- [the value; the right to free; the fields; the slot's cell; the open borrow, in three entries]
    first ! $ blocks ! $
    sets ! (of_opd ! (load ! (through ! refl (fld ! refl (stop !))) (look_in ! 3 (sub ! 0 refl (whole !))))) refl (tt, tt) $
    sets ! (of_opd ! (get ! refl)) refl (tt, tt) $
    sets_last ! (addr ! (through ! refl (stop !))) refl (tt, tt) $
    exec ! 𝓣.C 𝓣.Λ En (after 1 (code.function).body) (at_ret En (W.post y)) $
    sets ! (of_opd ! (get ! refl)) refl (tt, tt) $
    rewrite ! 3 Cell (sym word) refl $ move ! (1 ∷ 2 ∷ []) $ fjoin ! $ move ! (0 ∷ 2 ∷ []) $ fjoin ! $
    move ! (2 ∷ 3 ∷ 4 ∷ 1 ∷ 0 ∷ []) $ group ! 5 $
    use1 𝓛 (later (some (λ (γ' : GName). raw (Part 𝓛 R T (with_held h) (named 0) κ q rb ro b o γ (sem 𝓛 (rest 𝓛 h b o rb ro us)) (back 𝓛 h b o rb ro us e) x γ'))))
    (lends_Part 𝓛 R T (with_held h) (named 0) κ q rb ro b o γ (sem 𝓛 (rest 𝓛 h b o rb ro us)) (back 𝓛 h b o rb ro us e) (R.coded.code h) (R.coded.code h) x) $ await ! tt $ pick ! (λ γ'.
    returns ! (look_at ! 0 refl) $ free_all ! refl $ keep ! (0 ∷ []) $
    use1 𝓛 (‵ ((MutRef (named 0) κ T).own_val (record { ref_ptr = (b, o); ghost_name = γ'; now = x }) (vptr b o ∷ [])) ⊛ ‵ (flft κ q) ⊛ ‵ (follows R T γ γ' (with_held h))) (base.Logic.id⊢ 𝓤 _) $ types.Kit.split3 ! $
    suffices ! _ (ends_at 𝓛 f.ended stayed c y (vptr b o) (record { ref_ptr = (b, o); ghost_name = γ'; now = x }) (tt, tt) (tt, tt)) $
    nothing ! $ nothing ! $ fjoin ! $ join ! $ nothing ! $ move ! (2 ∷ 0 ∷ []) $ join ! $ join ! $ frame ! $ says ! is $ done !)))))))
