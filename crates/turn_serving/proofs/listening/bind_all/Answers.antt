use Rattle.std.proofs.Common.{List, ap, arith, get_or, length, subst, sym}
use Rattle.std.proofs.lemmas.Grind.{common_steps}
use Rattle.turn_types.specs.declared.address.Endpoint.{Endpoint}
use Rattle.turn_serving.specs.Listening.{IsBoundFor}
use Rattle.turn_serving.proofs.Sockets.{bound_one_for, bound_same}
use Rattle.turn_serving.proofs.listening.bind_all.Goals as goal

pub loop-place-init : goal.loop-place-init
loop-place-init g c = record {
  long = ap (λ (all : List Endpoint). length all) (sym c.as_slice-count.ensures.value);
  known = omega arith;
  bound = c.in_ok-sockets.ensures.items;
  asked = bound_same c.args.listening.now;
}

pub loop-place-preserved : goal.loop-place-preserved
loop-place-preserved g c =
    let middle = c.loop-place.listening in
    let place = c.loop-place.place in
    let socket = c.in_ok-socket.socket in
    let none : Endpoint = record { ip = 0; port = 0 } in
    let is = subst (λ (all : List Endpoint). IsBoundFor (get_or all place none) socket) c.as_slice.ensures.value c.in_ok-socket.ensures in
    let at = subst (λ (e : Endpoint). IsBoundFor (get_or middle place none) e) (sym c.at.ensures) is in
    record {
      long = grind (arith, common_steps);
      known = grind (arith, common_steps);
      bound = grind (arith, common_steps);
      asked = rw c.set.ensures (bound_one_for c.args.listening.now middle place c.at.result none c.loop-place.invariant.asked (grind (arith, common_steps)) at);
    }
