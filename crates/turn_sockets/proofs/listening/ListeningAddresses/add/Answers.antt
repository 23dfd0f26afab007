use Rattle.std.proofs.Common.{◌∙◌, inl, sym, subst, Contains}
use Rattle.turn_sockets.proofs.Listened.{among}
use Rattle.turn_sockets.proofs.listening.ListeningAddresses.add.Goals as goal

pub returns-then-is_among-clause-refused : goal.returns-then-is_among-clause-refused
returns-then-is_among-clause-refused c refused = inl (subst (λ l. Contains l c.args.address) c.as_slice.ensures.value (among _ c.args.address (sym c.is_among.ensures ∙ c.if-is_among.true)))
