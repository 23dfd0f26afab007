-- The names of this crate's definitions that proofs and the crates above cite, passed on from one place. Declares nothing.
pub use Rattle.turn_history.specs.Act.{act_of, event_of}
pub use Rattle.turn_history.specs.ChannelNumber.{in_range}
pub use Rattle.turn_history.specs.Codes.{bounds_code, contents_code, entry_code, tuple_code}
pub use Rattle.turn_history.specs.Fitting.{AreEntriesInRange, AreReservationsInRange, Fits, FitsAfter, FitsChannel, FitsReservation, Follows, IsActInRange, IsEndpoint, IsEntryInRange, IsFitting, IsInRange, IsLifetime, IsReservationInRange, IsTokenAfter, IsTokenOf, IsTuple, IsUnreserved, PortIsFree, exceeds, goes_with, has_port, is_bound_elsewhere, is_peer, is_taken}
unfoldable pub use Rattle.turn_history.specs.History.{own, reservation}
pub use Rattle.turn_history.specs.History.{Allocates, Allocation, Binds, Event, History, IsLive, Permits, PlainAct, Renews, addresses_of, allocation_at, channel, channel_at, channel_by, clock, first_some, flat, made, numbers_of, permission, permission_at, reservation_at, reservation_by, reservation_with, reserved_by, since_alloc, span, span_at, until_first}
pub use Rattle.turn_history.specs.Laws.{AllFrom, BoundAt, ChannelEnds, HasChannel, HasNoTokens, HasPermission, HoldsFrom, Installs, IsAfterAlloc, IsAfterLatest, IsAllocOf, IsBindOf, IsBound, IsEntryAt, IsEntryOf, IsLast, IsPermitted, IsTableAt, IsWithin, NeverFall, PeersApart, PermissionEnds, PortsApart, ReservedApart, ReservedAt, Reserves, ReservesNone, allocation_of, events_of}
unfoldable pub use Rattle.turn_history.specs.Table.{applied, channels_in, entry_in, map_of, no_contents, permissions_in, purged, reservations, still_bound, still_permitted, still_reserved, table}
pub use Rattle.turn_history.specs.Table.{Contents, Entries, Entry, Reservations, ahead, allocated, applied_to, binding, channel_ahead, entry_of, entry_with, insert_some, install, kept, permitting, renewed, reservation_ahead, reserving, with_entry, with_reservation}
pub use Rattle.turn_types.specs.declared.address.Addr.{Addr}
pub use Rattle.turn_types.specs.declared.address.Addr.TheVariants.{V4, V6}
pub use Rattle.turn_types.specs.declared.address.Endpoint.{Endpoint}
pub use Rattle.turn_types.specs.declared.address.FiveTuple.{FiveTuple}
pub use Rattle.turn_types.specs.declared.address.PeerAddress.{PeerAddress}
pub use Rattle.turn_types.specs.declared.config.ConfigError.{ConfigError}
pub use Rattle.turn_types.specs.declared.config.ConfigError.TheVariants.{BadQuota, BadRange, BadRealm}
pub use Rattle.turn_types.specs.declared.config.IpRange.{IpRange}
pub use Rattle.turn_types.specs.declared.config.Settings.{Settings}
pub use Rattle.turn_types.specs.declared.error.ErrorCode.{ErrorCode}
pub use Rattle.turn_types.specs.declared.error.ErrorCode.TheVariants.{AddressFamilyNotSupported, AllocationMismatch, AllocationQuotaReached, BadRequest, Forbidden, InsufficientCapacity, PeerAddressFamilyMismatch, StaleNonce, Unauthenticated, UnknownAttribute, UnsupportedTransportProtocol, WrongCredentials}
pub use Rattle.turn_types.specs.declared.limits.Bounds.{Bounds}
pub use Rattle.turn_types.specs.declared.message.Class.{Class}
pub use Rattle.turn_types.specs.declared.message.Class.TheVariants.{Error, Indication, Request, Success}
pub use Rattle.turn_types.specs.declared.message.Token.{Token}
pub use Rattle.turn_types.specs.declared.message.TxId.{TxId}
