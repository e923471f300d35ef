-- `into_parts` moves two fields, and what they own goes with them.
use Rattle.std.specs.Prelude.{Option, Some, is_some, true}
use mathlib.Core.Path.{◌≡◌, refl, sym, subst, ap, ◌∙◌}
use mathlib.Core.List.{List, [], ◌∷◌, ◌++◌}
use seplogic.Ra.Ura.{Ura}
use mir.Val.{Val, vptr, vbool, vstruct, vnil, vcons, of_list}
use base.Logic.{SProp, ent, id⊢, fst∗, never}
use base.Fml.{ftrue, fsep}
use prog.Memory.{Memory}
use prog.Routine.{Routine}
use prog.Wp.{WpFn, Tables}
use types.Logic.{Logic, sem}
use contract.Monad.{Fun, fact}
use contract.Running.{tables, tables_of}
use sound.WpLaws.{WpFn-mono}
use mir.Raw.{raw as bare}
use types.Kit.{Item, ‵, raw, ◌⊛◌, ◌$◌, ◌∵◌, !, qed, by, move, drop, use1, join, split, fsplit, fjoin, fpick, feq_l, suffices, rewrite, done}
use types.Part.{whole, sub, agg}
use types.Run.{stop, fld, no_more, and_then, of_opd, returns, enter}
use types.ByLocal.{alloc_all, pass_all, free_all, look_at, get, get_in, sets}
use denote.Exit.{yes}
use denote.Signature.{type_at}
use denote.RawPtr.{Ptr, null_ptr, ptr_val, in_a_block}
use Rattle.std_alloc.proofs.ResultValues.{and_tt}
use denote.Steps.{nothing, heard}
use denote.Triple.Spec.{triple_of}
use denote.Triple.Table.{entered}
use denote.Triple.Walked.{says, Stays, stay_dropped, walk_of, ends_at, Goes-dropped, walk_Meets}
use Rattle.std.proofs.alloc.Calls.{token, handle_tells}
use Rattle.std_alloc.specs.Box.Ownership.{box_owns}
use Rattle.std_alloc.proofs.BoxSteps.Form.{D, R, X, τ, word, box_typed}
use Rattle.std_alloc.proofs.BoxSteps.Steps.{box_in}
use Rattle.c_engine.specs.Owned.{handle_owns}
use Rattle.c_engine.proofs.Some.{value_of}
use Rattle.c_engine.proofs.AsBox.{E, FromHandle as From}
use Rattle.c_engine.specs.contracts.handle.Handle.into_parts as F
use Rattle.c_engine.specs.contracts.handle.Handle.into_parts.Key.{name as #self}
use Rattle.c_engine.proofs.handle.Handle.into_parts.Statement as stated
use Rattle.c_engine.proofs.handle.Handle.into_parts.Code as code

abbrev stayed : Stays (F.ended).signature.params (F.ended).kept
stayed = (stay_dropped From yes, tt)

module _ {M : Type 1} {𝓤 : Ura M} (𝓛 : Logic 𝓤) (at_mem : Memory → SProp 𝓤) (run : Routine → Fun 𝓤) (𝓣 : Tables 𝓤 𝓛.H) where
  open 𝓛 use {H}

  walk : (z : (walk_of 𝓛 F.ended stayed (F.clauses 𝓛 at_mem run)).Ghost)
      → ent 𝓤 ((walk_of 𝓛 F.ended stayed (F.clauses 𝓛 at_mem run)).pre z) (WpFn 𝓤 H 𝓣.C 𝓣.Λ code.function (z.0.4.0
      ++ []) ((walk_of 𝓛 F.ended stayed (F.clauses 𝓛 at_mem run)).post z))
  walk z =
      let Post = (walk_of 𝓛 F.ended stayed (F.clauses 𝓛 at_mem run)).post z in
      let d = z.0.3.0 in
      let To = type_at (F.signature).result tt in
      qed 𝓛 ((‵ ftrue ⊛ ‵ (fsep ((type_at From tt).own_val d z.0.4.0) ftrue)) ∷ raw (fact 𝓤 (is_some d.engine ≡ true)) ∷ []) ∵ move ! (1
      ∷ []) $ heard ! (is_some d.engine ≡ true) (λ full. split ! $ drop ! $ fsplit ! $
      let x : X E = (value_of d.engine full).0 in let is : d.engine ≡ Some x = (value_of d.engine full).1 in
      let v : D E = record { ptr = d.at; alloc = d.alloc; value = x } in
      let made : To.Denot = record { ptr = d.at; alloc = d.alloc; value = x } in
      fsplit ! $ fpick ! (λ vss. fsplit ! $ feq_l !
      (λ ev. fsplit ! $ feq_l !
      (λ ep. fsplit ! $ feq_l ! (λ ef. fsplit ! $ handle_tells E.al ! d.alloc vss.1.1.0 (λ hv ea fa. move ! (1 ∷ []) $ drop ! $ move ! (1 ∷ []) $
      rewrite ! 0 (λ (o : Option (X E)). ‵ (handle_owns d.alloc d.at o)) is refl $
      in_a_block ! d.at (λ p. box_owns (token E.al d.alloc) (R E) p x) (fst∗ 𝓤 (never 𝓤) (sem 𝓛 (token E.al d.alloc (bare (τ E)) null_ptr)))
      (λ b o e. fsplit ! $
      box_in E ! v b o x e refl $ use1 𝓛 (‵ (To.own_val made (word E hv b o ∷ []))) (id⊢ 𝓤 _) $ move ! (1 ∷ []) $ drop ! $
      let w : Val = vstruct (vcons (vptr b o) (vcons (vbool d.full) (vcons hv vnil))) in
      let ws : z.0.4.0 ≡ w ∷ [] = ev ∙ (λ i. vstruct (of_list ((ep ∙ ap (λ (p : Ptr). ptr_val p ∷ []) e) i ++ (ef i ++ (ea i ++ [])))) ∷ []) in
      let Γ : List (Item 𝓤) = ‵ (To.own_val made (word E hv b o ∷ [])) ∷ [] in
      by ! (subst (λ (us : List Val). ent 𝓤 (types.Kit.⋆ 𝓛 Γ) (WpFn 𝓤 H 𝓣.C 𝓣.Λ code.function (us ++ []) Post)) (sym ws)
      (qed 𝓛 Γ ∵ enter ! 𝓣.C 𝓣.Λ code.function (w ∷ []) _ $ alloc_all ! (λ ls. pass_all ! refl ((and_tt _ fa.0, (tt, (tt, (fa.1, tt)))), tt) $
      sets ! (of_opd ! (get_in ! (fld ! refl (stop !)) (sub ! 0 refl (whole !)))) refl (
        tt,
        tt,
      ) $ sets ! (of_opd ! (get_in ! (fld ! refl (stop !)) (sub ! 2 refl (whole !)))) refl fa $
      sets ! (of_opd ! (get ! refl)) refl (tt, tt) $
      sets ! (agg ! (and_then ! (get ! refl) (and_then ! (get ! refl) (no_more !)))) refl (box_typed E hv b o fa) $ returns ! (look_at ! 0 refl) $ free_all !
      refl $
      suffices ! _ (ends_at 𝓛 F.ended stayed (F.clauses 𝓛 at_mem run) z (word E hv b o) made (tt, tt) (tt, tt)) $ says ! is $
      nothing ! $ nothing ! $ fjoin ! $ join ! $ nothing ! $ join ! $ done !))))))))))

pub into_parts_spec : {M : Type 1} → stated.statement M
unfolding tables_of
into_parts_spec 𝓤 𝓛 𝓜 𝓡 wired =
    let 𝓣 : Tables 𝓤 𝓛.H = tables_of 𝓤 𝓛.H 𝓜 (tables 𝓤 𝓛.H 𝓜 𝓡 𝓡.env) in
    entered 𝓤 𝓛.H (triple_of 𝓛 F.signature (F.spec 𝓛 𝓜.mem 𝓡.returns)) 𝓣.C 𝓣.Λ #self code.function (code.unfolded 𝓤 𝓛.H 𝓜 𝓡 wired)
    (walk_Meets 𝓛 F.ended stayed (
      Goes-dropped 𝓛 0 From yes (λ κs x f. refl),
      tt,
    ) (F.clauses 𝓛 𝓜.mem 𝓡.returns) (WpFn 𝓤 𝓛.H 𝓣.C 𝓣.Λ code.function) (WpFn-mono 𝓤 𝓛.H 𝓛.laws 𝓣 code.function)
    (walk 𝓛 𝓜.mem 𝓡.returns 𝓣))
