use Rattle.std.proofs.Common.{ap, length, not, sym, ◌∙◌, ◌==◌}
use Rattle.turn_sockets.specs.Backlog.{bytes_of, count_of}
use Rattle.turn_sockets.proofs.Waiting.{found, length-bytes_of, nothing_at, place_is}
use Rattle.turn_sockets.proofs.backlog.Backlog.has.Goals as goal

pub returns-in-Some : goal.returns-in-Some
returns-in-Some g c =
    let client = c.args.five_tuple.client in
    let at = found c.args.five_tuple.server c.self.inside.queues.items c.in-Some.place c.index.result.now (place_is c.args.five_tuple.server _ _ c.deref.ensures.value c.place_of.ensures c.in-Some.is) in
    rw (← c.self.view_is)
    (ap (λ n. not (n == 0)) (c.count_of.ensures ∙ ap (λ q. count_of client q.datagrams) c.index.ensures ∙ sym (length-bytes_of client _) ∙ sym (ap (λ l. length (bytes_of client l)) at)))

pub returns-in-None : goal.returns-in-None
returns-in-None g c =
    let none = nothing_at c.args.five_tuple.server c.self.inside.queues.items (place_is c.args.five_tuple.server _ _ c.deref.ensures.value c.place_of.ensures c.in-None.is) in
    rw (← c.self.view_is) (ap (λ l. not (length (bytes_of c.args.five_tuple.client l) == 0)) (sym none))
