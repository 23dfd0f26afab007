use Rattle.turn_nbd.proofs.Durable.{noted_through}
use Rattle.turn_nbd.proofs.disk.NbdDiskDisk.write_durably.Goals as goal

pub returns-then-self-2-clause-outcome : goal.returns-then-self-2-clause-outcome
returns-then-self-2-clause-outcome g c = λ follows.
    noted_through _ g.S.Start.found c.args.at c.args.bytes.now c.args.self.now.events c.ask_durable_write.new.self.events c.ask_durable_write.result follows.1 c.ask_durable_write.ensures.noted
