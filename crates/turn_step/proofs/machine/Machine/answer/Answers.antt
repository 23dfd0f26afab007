use Rattle.std.proofs.Common.{◌≡◌, ◌≤◌, Bool, false, None, Ok, IfOk, IfSome, ap, subst, sym, ◌∙◌, option_map}
use Rattle.std.proofs.lemmas.Option.{IfSome_then}
use Rattle.std.proofs.lemmas.Result.{IfOk-weaker}
use Rattle.turn_history.specs.Prelude.{History, clock}
use Rattle.turn_relay.specs.FromClient.{SendsToPeer}
use Rattle.turn_relay.specs.Views.{peer_data}
use Rattle.turn_table.specs.Prelude.{Agrees}
use Rattle.turn_step.specs.declared.answer.Answer.TheVariants.{Request}
use Rattle.turn_step.specs.Prelude.{AnswersArrival, AnswersPeer, IsRequestOf, NeedsTable, arrival_of, reply_outcome, sends_only, setting_of}
use Rattle.turn_step.proofs.Exclusion.{no_request, of_request, of_sent}
use Rattle.turn_step.proofs.NoTable.{depends_where_needs, needs_where_depends}
use Rattle.turn_step.proofs.machine.Machine.answer.Goals as goal

-- ---- A request

pub returns-in-Request-clause-requests : goal.returns-in-Request-clause-requests
returns-in-Request-clause-requests g c =
    let s = setting_of g.H.AuthHandler.key_of g.G.RelayAddressGenerator.range c.args.self.now in
    let t = c.args.self.now.table.moment in
    let r = c.answer_request.result in
    let d = c.in-Request.message in
    let bytes = c.in-Client.bytes.now in
    subst (λ a. (r ≡ Ok Request → NeedsTable s t a) × (NeedsTable s t a → r ≡ Ok Request)) (sym (ap arrival_of c.in-Client.is)) (
      λ is. needs_where_depends s t c.in-Client.five_tuple bytes d c.in-Request.ensures.0 c.in-Request.ensures.1 (c.answer_request.ensures.requests.0 is),
      λ needs. c.answer_request.ensures.requests.1 (depends_where_needs s t c.in-Client.five_tuple bytes d c.in-Request.ensures.0 c.in-Request.ensures.1 needs),
    )

pub returns-in-Request-clause-reply : goal.returns-in-Request-clause-reply
returns-in-Request-clause-reply g c =
    let s = setting_of g.H.AuthHandler.key_of g.G.RelayAddressGenerator.range c.args.self.now in
    let t = c.args.self.now.table.moment in
    let d = c.in-Request.message in
    let bytes = c.in-Client.bytes.now in
    subst (λ a. IfOk c.answer_request.result (λ x. IfSome (reply_outcome x) (λ o. IsRequestOf a × ((h : History) (failed : Bool) → AnswersArrival s h t failed a o)))) (sym (ap arrival_of c.in-Client.is))
    (IfOk-weaker c.answer_request.result _ _ (λ x decided. IfSome_then (reply_outcome x) decided (λ o is. (
      (d.content, c.in-Request.ensures.1, c.in-Request.ensures.2),
      λ h failed. of_request s h t failed c.in-Client.five_tuple bytes d c.in-Request.ensures.0 c.in-Request.ensures.1 c.in-Request.ensures.2 o (is h failed),
    )))
    c.answer_request.ensures.reply)

-- ---- Data

pub returns-in_ok-to_peer-in-Data-clause-data :
    goal.returns-in_ok-to_peer-in-Data-clause-data
returns-in_ok-to_peer-in-Data-clause-data g c = (
  λ asks. c.in-Data.ensures.0 (subst IsRequestOf (ap arrival_of c.in-Client.is) asks),
  λ h after.
      let s = setting_of g.H.AuthHandler.key_of g.G.RelayAddressGenerator.range c.args.self.now in
      let t = c.args.self.now.table.moment in
      let o = sends_only c.in_ok-to_peer-in-Data.field-0 in
      subst (λ a. AnswersArrival s h t false a o) (sym (ap arrival_of c.in-Client.is))
      (of_sent s h t false c.in-Client.five_tuple c.in-Client.bytes.now (option_map peer_data c.in-Data.payload) o
      (no_request c.in-Client.five_tuple c.in-Client.bytes.now c.in-Data.ensures.0)
      (subst (λ x. SendsToPeer x c.in-Client.five_tuple c.in-Client.bytes.now (option_map peer_data c.in-Data.payload))
      (ap (λ m. m.table.contents) c.self.view_is ∙ after.agrees) c.in-Data.ensures.1)
      (λ j. record { change = None; sent = c.in_ok-to_peer-in-Data.ensures j })),
)

pub returns-in_ok-sent-in-Peer-clause-data : goal.returns-in_ok-sent-in-Peer-clause-data
returns-in_ok-sent-in-Peer-clause-data g c = (
  λ asks. subst IsRequestOf (ap arrival_of c.in-Peer.is) asks,
  λ h after.
      let s = setting_of g.H.AuthHandler.key_of g.G.RelayAddressGenerator.range c.args.self.now in
      let o = sends_only c.in_ok-sent-in-Peer.sent in
      subst (λ a. AnswersArrival s h c.args.self.now.table.moment false a o) (sym (ap arrival_of c.in-Peer.is))
      (subst (λ m. clock h ≤ m.table.moment → Agrees m.table h → AnswersPeer h m.table.moment c.in-Peer.port c.in-Peer.from c.in-Peer.bytes.now c.in-Peer.id.0 o) c.self.view_is
      (c.in_ok-sent-in-Peer.ensures c.args.self.now.config.limits h after.fitting) after.late after.agrees),
)
