use Rattle.std.proofs.Common.{◌∙◌, []}
use Rattle.turn_commands.proofs.NoUsers.{is_after, nothing_if_no_bytes, sends_no_reply, sends_reply}
use Rattle.turn_commands.proofs.reply.reply_to.Goals as goal

pub returns-clause-message : goal.returns-clause-message
returns-clause-message g c m encoded =
    let machine = c.in_ok-machine.machine in
    let answered = c.in_ok-step.ensures.answers [] (is_after machine c.args.moment c.in_ok-machine.ensures.table) in
    c.to_client.ensures ∙ sends_reply machine.pairs machine.config _ _ c.args.moment _ c.args.five_tuple c.args.datagram.now m _ answered encoded c.in_ok-machine.ensures.config

pub returns-clause-malformed : goal.returns-clause-malformed
returns-clause-malformed g c no_message =
    let machine = c.in_ok-machine.machine in
    let answered = c.in_ok-step.ensures.answers [] (is_after machine c.args.moment c.in_ok-machine.ensures.table) in
    nothing_if_no_bytes _ _ (c.to_client.ensures ∙ sends_no_reply machine.pairs machine.config _ _ c.args.moment _ c.args.five_tuple c.args.datagram.now _ answered no_message)
