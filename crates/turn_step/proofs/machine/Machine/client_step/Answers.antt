use Rattle.std.proofs.Common.{◌<◌, arith, ap, subst, refl, ◌∙◌, option_map}
use Rattle.std.proofs.lemmas.List.Elements.{All-from_get_or}
use Rattle.std.proofs.lemmas.Result.{IfOk-weaker}
use Rattle.turn_relay.specs.FromClient.{SendsToPeer}
use Rattle.turn_relay.specs.Views.{peer_data}
use Rattle.turn_step.proofs.Exclusion.{made_of_bytes, no_request, of_request, of_sent}
use Rattle.turn_step.proofs.machine.Machine.client_step.Goals as goal

pub request_step-requires : goal.request_step-requires
request_step-requires g c =
    made_of_bytes c.args.bytes.now c.in-Request.message.content
    (All-from_get_or (λ x. x < 256) c.args.bytes.now 0 (λ i lt. omega (arith, c.type_inv.bytes i))) c.in-Request.ensures.1

pub returns-in-Request-clause-answers : goal.returns-in-Request-clause-answers
returns-in-Request-clause-answers g c h agrees =
    IfOk-weaker c.request_step.result _ _
    (of_request _ h c.args.self.now.table.moment _ c.args.five_tuple c.args.bytes.now c.in-Request.message c.in-Request.ensures.0 c.in-Request.ensures.1 c.in-Request.ensures.2)
    (c.request_step.ensures.answers h c.in-Request.message agrees refl)

pub returns-in-Data-clause-answers : goal.returns-in-Data-clause-answers
returns-in-Data-clause-answers g c h agrees =
    IfOk-weaker c.data_step.result _ _ (λ o. of_sent _ h c.args.self.now.table.moment _ c.args.five_tuple c.args.bytes.now (option_map peer_data c.in-Data.payload) o
    (no_request c.args.five_tuple c.args.bytes.now c.in-Data.ensures.0)
    (subst (λ x. SendsToPeer x c.args.five_tuple c.args.bytes.now (option_map peer_data c.in-Data.payload))
    (ap (λ m. m.table.contents) c.self.view_is ∙ agrees) c.in-Data.ensures.1))
    c.data_step.ensures.value
