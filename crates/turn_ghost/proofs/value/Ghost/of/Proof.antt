-- A value of no bytes is made, at what the argument shows.
use Rattle.std.proofs.Common.{[], ◌∷◌, refl}
use Rattle.std.proofs.raw_atomic.Walks.{proved}
use mir.Syntax.{a_type, dcons, dnil, named}
use mir.MapTy.{inst_fn}
use mir.Val.{Val, vptr, vstruct, vcons, vnil}
use contract.Running.{tables}
use types.Kit.{‵, raw, ◌⊛◌, ◌$◌, ◌∵◌, !, qed, keep, split, move, suffices, done}
use types.Run.{no_more, and_then, enter, returns}
use types.Part.{agg}
use types.ByLocal.{alloc_all, pass_all, free_all, look_at, get, sets}
use denote.Exit.{yes}
use denote.Param.{param, bounded}
use denote.Ref.{shr_vals, shr_Tells}
use denote.Shadow.{pure_i}
use denote.RattleType.{owns}
use denote.Signature.{plain, types_at}
use denote.Triple.Entry.{alive}
use denote.Triple.Walked.{Stays, walk_of, stay_none_ref, Goes-none_ref, ends_at, says}
use Rattle.turn_ghost.specs.contracts.value.Ghost as T
use Rattle.turn_ghost.specs.contracts.value.Ghost.of as f
use Rattle.turn_ghost.proofs.value.Ghost.of.Statement.{statement}
use Rattle.turn_ghost.proofs.value.Ghost.of.Code as code

abbrev no_bytes : Val
no_bytes = vstruct (vcons (vstruct vnil) vnil)

pub of_spec : {M : Type 1} → statement M
of_spec 𝓤 𝓛 𝓜 𝓡 wired S X _ _ shows dictionary _ =
    let row = param 1 X in
    let ended = f.ended S X shows dictionary in
    let stayed : Stays ended.signature.params ended.kept = (stay_none_ref (0 ∷ []) tt (plain (λ _. row)) yes, tt) in
    let c = f.clauses S X shows dictionary 𝓛 𝓜.mem 𝓡.returns in let 𝓣 = tables 𝓤 𝓛.H 𝓜 𝓡 𝓡.env in
    let types = bounded (a_type ∷ a_type ∷ []) (S, (X, tt)) (dcons dictionary dnil) in let function = inst_fn types code.function in
    proved 𝓛 ended stayed c 𝓜 𝓡 (Goes-none_ref 𝓛 3 (0 ∷ []) tt (plain (λ _. row)) yes, tt)
    (f.Key.name types) function (code.unfolded 𝓤 𝓛.H 𝓜 𝓡 wired (S, (X, tt)) dictionary)
    (λ κs. (shr_vals, tt)) (λ κs. (shr_Tells (named 0) κs.0 row, tt)) (λ κs qs bounds a g are.
    let at = vptr a.0.ref_ptr.0 a.0.ref_ptr.1 in let shown = shows.shown a.0.now in
    let y : (walk_of 𝓛 ended stayed c).Ghost = ((κs, qs, bounds, a, (at ∷ [], tt)), g) in
    qed 𝓛 ((raw (alive 𝓛 ended.signature κs qs) ⊛ ‵ (owns (types_at ended.signature.params κs) a (at ∷ [], tt))) ∷ raw ((c κs a).requires g) ∷ []) ∵
    keep ! (0 ∷ []) $ split ! $
    enter ! 𝓣.C 𝓣.Λ function (at ∷ []) _ $ alloc_all ! (λ l. pass_all ! refl ((tt, tt), tt) $
    sets ! (agg ! (no_more !)) refl (tt, tt) $ sets ! (agg ! (and_then ! (get ! refl) (no_more !))) refl (tt, (tt, tt)) $
    returns ! (look_at ! 0 refl) $ free_all ! refl $
    suffices ! _ (ends_at 𝓛 ended stayed c y no_bytes shown (tt, tt) (tt, tt)) $ says ! refl $
    pure_i ! ((T.the_row (param 0 S)).own_val shown (no_bytes ∷ [])) ((λ x. (((λ vss. (tt, ((λ uss. (tt, tt)), tt))), tt), tt)))
    ((record { marker = record {}; value = shown }, (refl, tt)), ((((vstruct vnil ∷ [], tt), (refl, ((tt, (refl, tt)), tt))), tt), tt)) $
    move ! (1 ∷ 2 ∷ 0 ∷ []) $ done !))
