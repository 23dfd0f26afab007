use Rattle.std.proofs.Common.{arith, suc, ◌∷◌, ◌++◌, [], ⊎_elim, ap, sym, subst, ◌∙◌, length, Contains, get_or, length-take, take_all}
use Rattle.std.proofs.lemmas.List.{length_push, take_more}
use Rattle.turn_sockets.specs.Own.{AreListened}
use Rattle.turn_sockets.proofs.Listened.{apart_push, not_twice}
use Rattle.turn_sockets.proofs.listening.ListeningAddresses.new.Goals as goal

pub loop-address-init : goal.loop-address-init
loop-address-init c = record {
  known = omega arith;
  added = c.one-all.ensures;
  once = rw c.one-all.ensures (omega arith, λ i j d lt within. absurd (omega arith));
}

pub returns-then-not-add : goal.returns-then-not-add
returns-then-not-add c once =
    let others = c.args.others.now in
    let i = c.loop-address.address-index in
    let x = get_or others i (record { ip = 0; port = 0 }) in
    let long = length-take i others in
    let added = ap length c.loop-address.invariant.added in
    let few = once.0 in
    let more = c.loop-address-test.true in
    ⊎_elim
    (λ found. not_twice (c.args.first ∷ others) (suc i) (record { ip = 0; port = 0 }) once.1 (omega arith) (subst (λ l. Contains l x) c.loop-address.invariant.added found))
    (λ full. absurd (omega arith))
    (c.add.ensures.refused c.if-not-add.true)

pub loop-address-preserved : goal.loop-address-preserved
loop-address-preserved c =
    let others = c.args.others.now in
    let i = c.loop-address.address-index in
    let x = get_or others i (record { ip = 0; port = 0 }) in
    let more = c.loop-address-test.true in
    let added = c.add.ensures.added c.if-not-add.false in
    let lt = added.1 in
    record {
      known = omega arith;
      added = added.0 ∙ ap (λ l. l ++ x ∷ []) c.loop-address.invariant.added ∙ ap (λ l. c.args.first ∷ l) (sym (take_more others i (record { ip = 0; port = 0 }) more));
      once = subst AreListened (sym added.0) (omega (arith, length_push c.loop-address.all x), apart_push c.loop-address.all x c.loop-address.invariant.once.1 added.2);
    }

pub returns : goal.returns
returns c =
    let others = c.args.others.now in
    let i = c.loop-address.address-index in
    let over = c.loop-address-test.false in
    let whole = c.loop-address.invariant.added ∙ ap (λ l. c.args.first ∷ l) (take_all i others (omega arith)) in
    (subst AreListened whole c.loop-address.invariant.once, whole)
