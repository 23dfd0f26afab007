use Rattle.std.proofs.Common.{◌≡◌, ap, subst, sym, ◌∙◌, option_map}
use Rattle.turn_codec.specs.Prelude.{Content, Datagram, Encodes}
use Rattle.turn_relay.specs.FromClient.{SendsToPeer}
use Rattle.turn_relay.specs.Views.{peer_data}
use Rattle.turn_relay.proofs.Datagrams.{not_both, of_neither}
use Rattle.turn_rules.specs.Prelude.{is_request}
use Rattle.turn_step.proofs.client.read.Goals as goal

pub returns-in-Some : goal.returns-in-Some
returns-in-Some g c = (
  λ asks. not_both c.args.bytes.now asks.0 c.in-Some.data.number c.in-Some.data.payload.now asks.1 c.in-Some.ensures.found,
  c.from_channel_data-payload.ensures.sends c.args.bytes.now c.in-Some.ensures.found,
)

pub returns-in_default-parse : goal.returns-in_default-parse
returns-in_default-parse g c =
    let none : (m : Content) → ¬ Encodes c.args.bytes.now m = λ m encodes. (let is = c.in_default-parse.ensures.only m encodes in cc) in (
      λ asks. none asks.0 asks.1,
      of_neither c.args.table.now.contents c.args.five_tuple c.args.bytes.now none (λ n p s. c.in_default.ensures.only n p s),
    )

pub returns-then-is_request : goal.returns-then-is_request
returns-then-is_request g c = (c.in-Ok.ensures.found.0, c.in-Ok.ensures.found.1, sym c.is_request.ensures ∙ c.if-is_request.true)

pub returns : goal.returns
returns g c = (
  λ asks. (
      let same : c.in-Ok.message ≡ record { bytes = c.args.bytes.now; content = asks.0 } = (let is = c.in-Ok.ensures.only asks.0 asks.1 in cc) in
      let no = ap (λ (d : Datagram). is_request d.content.class) (sym same) ∙ sym c.is_request.ensures ∙ c.if-is_request.false in
      let yes = asks.2 in cc),
  subst (λ b. SendsToPeer c.args.table.now.contents c.args.five_tuple b (option_map peer_data c.from_message-payload.result)) c.in-Ok.ensures.found.0 c.from_message-payload.ensures.sends,
)
