use Rattle.std.proofs.Common.{Bool, None, option_map, false, subst, IfSome}
use Rattle.turn_history.specs.Prelude.{History}
use Rattle.turn_step.specs.Prelude.{AnswersArrival, IsAfter, IsRequestOf, NeedsTable, setting_of, arrival_of, data_outcome, reply_outcome, sent_of}
use Rattle.turn_engine.specs.Prelude.{is_behind, is_later}
use Rattle.turn_engine.proofs.Besides.{data_is_answered, not_both, relays_data, relays_reply, reply_is_answered}
use Rattle.turn_engine.proofs.beside.Beside.relay.Goals as goal
use Rattle.turn_engine.proofs.beside.Beside.relay.Goals.{then-not-is_at_clock-via-then-not-is_at_clock, then-not-is_at_clock-via-else-not-is_at_clock+then-not-is_apart}

pub returns-then-not-is_at_clock-clause-waits : goal.returns-then-not-is_at_clock-clause-waits
returns-then-not-is_at_clock-clause-waits g c = λ _. elim c.then-not-is_at_clock.branch [
  | then-not-is_at_clock-via-then-not-is_at_clock w ↦ is_later (λ at. not_both _ w.if-not-is_at_clock.true (c.is_at_clock.ensures.1 at))
  | then-not-is_at_clock-via-else-not-is_at_clock+then-not-is_apart w ↦ is_behind (w.is_apart.ensures.behind w.if-not-is_apart.true)
]

pub returns-in-Reply-clause-answers : goal.returns-in-Reply-clause-answers
returns-in-Reply-clause-answers g c =
    let a = arrival_of c.args.arrival.now in
    let keys = g.H.AuthHandler.key_of in
    let range = g.G.RelayAddressGenerator.range in
    let sent = option_map sent_of c.in-Reply.datagram in
    relays_reply keys range c.args.self.now a sent
    (subst (λ v. ¬ NeedsTable (setting_of keys range v.machine) v.machine.table.moment a) c.self.view_is (λ needs. reply_is_answered _ _ (c.answer.ensures.requests.1 needs) c.in-Ok.is c.in-Reply.is))
    (c.is_at_clock.ensures.0 c.if-not-is_at_clock.false) (c.is_apart.ensures.apart c.if-not-is_apart.false)
    (subst (λ v. (h : History) (failed : Bool) → AnswersArrival (setting_of keys range v.machine) h v.machine.table.moment failed a (record { change = None; sent = sent })) c.self.view_is
    (subst (λ x. IfSome (reply_outcome x) (λ o. IsRequestOf a
    × ((h : History) (failed : Bool) → AnswersArrival (setting_of keys range c.self.inside.machine.now) h c.self.inside.machine.now.table.moment failed a o))) c.in-Reply.is
    c.in-Ok.ensures.reply).1)

pub returns-in-Data-clause-answers : goal.returns-in-Data-clause-answers
returns-in-Data-clause-answers g c =
    let a = arrival_of c.args.arrival.now in
    let keys = g.H.AuthHandler.key_of in
    let range = g.G.RelayAddressGenerator.range in
    let sent = option_map sent_of c.in-Data.datagram in
    let answered = subst (λ x. IfSome (data_outcome x) (λ o. (¬ IsRequestOf a)
    × ((h : History) → IsAfter c.self.inside.machine.now h → AnswersArrival (setting_of keys range c.self.inside.machine.now) h c.self.inside.machine.now.table.moment false a o))) c.in-Data.is
    c.in-Ok.ensures.data in
    relays_data keys range c.args.self.now a sent
    (subst (λ v. ¬ NeedsTable (setting_of keys range v.machine) v.machine.table.moment a) c.self.view_is (λ needs. data_is_answered _ _ (c.answer.ensures.requests.1 needs) c.in-Ok.is c.in-Data.is))
    (c.is_at_clock.ensures.0 c.if-not-is_at_clock.false) (c.is_apart.ensures.apart c.if-not-is_apart.false)
    answered.0
    (subst (λ v. (h : History) → IsAfter v.machine h → AnswersArrival (setting_of keys range v.machine) h v.machine.table.moment false a (record { change = None; sent = sent })) c.self.view_is answered.1)
