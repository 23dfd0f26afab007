-- What contracts see of the code's data.
use Rattle.std.specs.Prelude.{Option, Some, None, option_map}
use Rattle.turn_engine.specs.declared.beside.Relayed.{Relayed}
use Rattle.turn_engine.specs.declared.beside.Relayed.TheVariants.{Waits, Answered}
use Rattle.turn_step.specs.Prelude.{Sent, sent_of}

-- what is sent about an arrival that was answered beside what is staged, if anything is; there is nothing of one that has to wait
abbrev pub relayed_of : {A : Type 0} → Relayed A → Option (Option Sent)
relayed_of Waits = None
relayed_of (Answered datagram) = Some (option_map sent_of datagram)
