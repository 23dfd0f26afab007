use Rattle.std.proofs.Common.{subst, sym, ◌<◌}
use Rattle.turn_sockets.proofs.Listing.{AreFlagsBut, can_be_listed, cleared, has_flag, taken_clients, taken_fresh, taken_peers}
use Rattle.turn_sockets.proofs.schedule.Schedule.next.Given.{Over}
use Rattle.turn_sockets.proofs.schedule.Schedule.next.Goals as goal
use Rattle.turn_sockets.proofs.schedule.Schedule.next.Goals.{in-Fresh+in_ok-token-in-Fresh, in-Peers+in_ok-token-in-Peers, in-Clients+in_ok-token-in-Clients}

pub index_mut-requires : goal.index_mut-requires
index_mut-requires g c =
    let but = elim c.match-source.branch as (λ b. AreFlagsBut c.match-source.token c.match-source.self-inside.flags.items c.match-source.self-inside.fresh.items c.match-source.self-inside.clients.items c.match-source.self-inside.peers.items) [
      | in-Fresh+in_ok-token-in-Fresh w ↦ rw (w.token-is, w.self-inside-is) (taken_fresh _ _ c.self.invariant w.in_ok-token-in-Fresh.ensures.items)
      | in-Peers+in_ok-token-in-Peers w ↦ rw (w.token-is, w.self-inside-is) (taken_peers _ _ c.self.invariant w.in_ok-token-in-Peers.ensures.items)
      | in-Clients+in_ok-token-in-Clients w ↦ rw (w.token-is, w.self-inside-is) (taken_clients _ _ c.self.invariant w.in_ok-token-in-Clients.ensures.items)
    ] in
    subst (λ n. c.match-source.token < n) (sym c.match-source.self-inside.flags.ok.0) (has_flag c.match-source.token but)

-- the flag of the socket that is taken is the only one that doesn't say what is listed
taken : (g : Over) (c : goal.After-self-2-1 g)
    → AreFlagsBut c.match-source.token c.match-source.self-inside.flags.items c.match-source.self-inside.fresh.items c.match-source.self-inside.clients.items c.match-source.self-inside.peers.items
taken g c = elim c.match-source.branch as (λ b. AreFlagsBut c.match-source.token c.match-source.self-inside.flags.items c.match-source.self-inside.fresh.items c.match-source.self-inside.clients.items c.match-source.self-inside.peers.items) [
  | in-Fresh+in_ok-token-in-Fresh w ↦ rw (w.token-is, w.self-inside-is) (taken_fresh _ _ c.self.invariant w.in_ok-token-in-Fresh.ensures.items)
  | in-Peers+in_ok-token-in-Peers w ↦ rw (w.token-is, w.self-inside-is) (taken_peers _ _ c.self.invariant w.in_ok-token-in-Peers.ensures.items)
  | in-Clients+in_ok-token-in-Clients w ↦ rw (w.token-is, w.self-inside-is) (taken_clients _ _ c.self.invariant w.in_ok-token-in-Clients.ensures.items)
]

pub invariant_of-self-2 : goal.invariant_of-self-2
invariant_of-self-2 g c = cleared c.match-source.token (taken g c)

pub returns-clause-unlisted : goal.returns-clause-unlisted
returns-clause-unlisted g c = can_be_listed c.match-source.token (taken g c)
