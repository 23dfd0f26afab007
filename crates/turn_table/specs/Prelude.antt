-- The names of this crate's definitions that proofs and the crates above cite, passed on from one place. Declares nothing.
pub use Rattle.turn_table.specs.ByUser.{IsByUser, IsEndOf, IsFirstOf, NamesRise, name_cmp, name_of, names_in, user_of}
pub use Rattle.turn_table.specs.Indexed.{IsIndexed, held_in}
unfoldable pub use Rattle.turn_table.specs.Kept.{still}
pub use Rattle.turn_table.specs.Kept.{ahead_by, map_in, still_entry, still_pair}
unfoldable pub use Rattle.turn_table.specs.Live.{entries_of}
pub use Rattle.turn_table.specs.Live.{Changes, HasRoom, Holdings, IsQuiet, Live, listed, placed}
pub use Rattle.turn_table.specs.Order.{AreReservationsQuiet, IsReady, room_of, state_of}
pub use Rattle.turn_table.specs.Sorted.{further, scan, scan_on}
pub use Rattle.turn_table.specs.State.{Held, Room, State, pair_of, pairs}
pub use Rattle.turn_table.specs.Table.{Agrees, AgreesOncePurged, BecomesFree, IsAbove, IsAboveLast, IsAboveLastReserved, IsAboveReserved, IsChannelTo, RemovesEntry, RemovesExpired, RemovesReservation, freed_by, port_of_token, room_for, with_allocation, with_entry, with_reserved, without_entry}
