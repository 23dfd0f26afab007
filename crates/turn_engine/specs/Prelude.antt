-- The names of this crate's definitions that proofs and the crates above cite, passed on from one place. Declares nothing.
pub use Rattle.turn_engine.specs.Calls.{Advances, Commits, Opening, Submits, committed, disk_after}
pub use Rattle.turn_engine.specs.Images.{AtLeast}
pub use Rattle.turn_engine.specs.Recovering.{Opens, RecoversTo, tuples_of}
pub use Rattle.turn_engine.specs.Relaying.{BesideState, HasToWait, IsApart, IsAtClock, IsBehind, Relays, beside, has_no_owner, is_behind, is_later, is_of_another, is_staged, needs_table, none_is_staged}
pub use Rattle.turn_engine.specs.Runs.{Advance, Asked, BeginsWith, Commit, IsAnswered, IsAtPlace, IsCall, IsNoAdvance, IsRun, IsSilent, Lasts, Leads, NeverFails, Place, Relay, ServerCall, Serves, Submit, Taken, accepted, after_of, all_asked, asked, asked_after, asked_at, beside_at, count_at, datagrams_of, handed_by, handed_out, history_at, last_moment, last_of, sent_about, start}
pub use Rattle.turn_engine.specs.Staged.{Staged}
pub use Rattle.turn_engine.specs.State.{ServerState, emptied, has_pairs, limits_of, now_of}
pub use Rattle.turn_engine.specs.Stops.{IsImageOfOne, IsLeft}
