-- The names of this crate's definitions that proofs and the crates above cite, passed on from one place. Declares nothing.
pub use Rattle.turn_step.specs.Answer.{AnswersArrival, AnswersClient, AnswersPeer, IsDecided, Setting, to_client, to_peer, undecided}
pub use Rattle.turn_step.specs.Data.{IsOwner, IsRequestOf, NeedsTable}
pub use Rattle.turn_step.specs.Holding.{ArePicked, ports_with, takes_in}
pub use Rattle.turn_step.specs.Laws.{EncodesNoAllocate, HasNoReply, SameForAllocates}
pub use Rattle.turn_step.specs.Outcome.{Arrives, Change, Sent, StepOutcome, added, change_of, decided_for, event_at, nothing}
pub use Rattle.turn_step.specs.Outcome.Arrives.{FromClient, FromPeer}
pub use Rattle.turn_step.specs.Outcome.Sent.{ToClient, ToPeer}
pub use Rattle.turn_step.specs.State.{Answered, CountsOne, HoldsPorts, IsAfter, IsPurged, IsReady, IsSameTable, KeepsSetting, MachineState, MayBeNext, changed, setting_of}
pub use Rattle.turn_step.specs.Views.{arrival_of, data_outcome, is_reserved, reply_outcome, sends_only, sent_of}
