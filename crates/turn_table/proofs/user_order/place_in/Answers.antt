use Rattle.std.proofs.Common.{arith, ◌≡◌, ◌<◌, false, true, ap, ◌∙◌, sym, length, Some, is_lt}
use Rattle.std.proofs.lemmas.Bool.{not-false}
use Rattle.std.proofs.lemmas.Cmp.{nat_list_cmp_total, tied_itself}
use Rattle.std.proofs.lemmas.Option.{slice_get-get_or}
use Rattle.turn_table.specs.Prelude.{name_cmp, names_in}
use Rattle.turn_history.proofs.Maps.{tuple_exact, from_eq}
use Rattle.turn_types.specs.Prelude.{tuple_cmp}
use Rattle.turn_table.proofs.Tuples.{tuple_same}
use Rattle.turn_table.proofs.user_order.place_in.Goals as goal

pub loop-tuple-init : goal.loop-tuple-init
loop-tuple-init g c k d before is =
    let name = names_in c.args.entries.now.entries in
    let user = c.args.user.now in
    let below = c.first_of-place.ensures.point.0 k d (omega arith) before in
    let no : false ≡ true = sym (ap is_lt (tied_itself nat_list_cmp_total user)) ∙ ap (λ n. is_lt (name_cmp n user)) (sym (ap name is ∙ c.requires.named)) ∙ below in
    cc

pub returns : goal.returns
returns g c =
    let listed = c.requires.listed in
    let passed : ¬ (listed.0 < c.loop-tuple.place) = λ before. c.loop-tuple.invariant listed.0 c.args.tuple before listed.2 in
    let within : c.loop-tuple.place < length c.args.tuples.now = omega (arith, listed.1) in
    slice_get-get_or c.args.tuples.now c.loop-tuple.place _ within ∙ ap Some (from_eq tuple_cmp tuple_exact _ c.args.tuple (tuple_same _ c.args.tuple ∙ not-false _ (sym c.ne.ensures ∙ c.loop-tuple-test.false)))
