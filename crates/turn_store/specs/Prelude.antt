-- The names of this crate's definitions that proofs and the crates above cite, passed on from one place. Declares nothing.
unfoldable pub use Rattle.turn_store.specs.Areas.{area_front}
pub use Rattle.turn_store.specs.Applied.{Applies}
pub use Rattle.turn_store.specs.Areas.{AreAreas, AreaHolds, Form, Holds, HoldsAt, HoldsIn, IsBelow, IsForm, RecoversToParts, Yields, version_byte}
pub use Rattle.turn_store.specs.Bytes.{AreBytes}
pub use Rattle.turn_store.specs.Carrying.{Carries, IsActiveAs, IsCarried}
pub use Rattle.turn_store.specs.Encodes.{Encodes, HasSize, all_of}
pub use Rattle.turn_store.specs.Format.{FormatsInOrder, HoldsNothing, HoldsNothingOrRepresents, IsFormatted, IsLaid, fresh}
pub use Rattle.turn_store.specs.Formatting.{Formats}
pub use Rattle.turn_store.specs.Head.{Beats, IsHead, NoneIsActive}
pub use Rattle.turn_store.specs.Images.{EachImage, EitherBy, IsInVersion, IsInVersionOr2, RepresentsAt, RepresentsBy}
pub use Rattle.turn_store.specs.Opened.{AreaIsRead, IsChosen, IsOpened, LogIsRead, OpensTo}
pub use Rattle.turn_store.specs.Opening.{disk_of}
pub use Rattle.turn_store.specs.Refused.{AreaIsBad, BreaksAt, FaultWith, HasBytes, IsBadAt, IsBadLog, IsBadSnapshot, IsGoodSnapshot, IsPlain, ReadsBad, ReadsOn, StoreIsBad, WhyRefused}
pub use Rattle.turn_store.specs.Replay.{GoOn, GoesOn, HasFrames, IsNext, Replays, ReplaysTo, Snapshot, after, after_all}
pub use Rattle.turn_store.specs.Stages.{InStages, InStagesAt, IsRead, Leaves, Replaces, Settles}
pub use Rattle.turn_store.specs.State.{CompactsFor, MayFollow, RecoversToAt, Shows, StoreState, carried, carried_area, form_of, framed, stopped_over, swapped}
unfoldable pub use Rattle.turn_store.specs.Superblock.{superblock}
pub use Rattle.turn_store.specs.Superblock.{HasSuperblock, least_area, zeros}
pub use Rattle.turn_store.specs.Tables.{IsTableIn, encoded, snapshot_of}
pub use Rattle.turn_store.specs.Writes.{IsCommit, IsStep, IsWrite}
pub use Rattle.turn_record.specs.declared.error.DecodeError.{DecodeError}
pub use Rattle.turn_record.specs.declared.error.ReadError.{ReadError}
pub use Rattle.turn_record.specs.declared.version.Version.{Version}
pub use Rattle.turn_record.specs.declared.version.Version.TheVariants.{V1, V2}
