-- The names of this crate's definitions that proofs and the crates above cite, passed on from one place. Declares nothing.
pub use Rattle.turn_types.specs.Config.{Config, is_between, is_denied, is_ordered}
pub use Rattle.turn_types.specs.ErrorCode.{number_of, reason_of}
unfoldable pub use Rattle.turn_types.specs.FiveTuple.{endpoint_bytes, tuple_bytes}
pub use Rattle.turn_types.specs.FiveTuple.{IsEndpoint, TuplesGoByBytes, endpoint_cmp, same_tuple, tuple_cmp}
pub use Rattle.turn_types.specs.Limits.{AreInRange, max_bounds}
pub use Rattle.turn_types.specs.Methods.{allocate, binding, channel_bind, create_permission, data_method, refresh, send}
pub use Rattle.turn_types.specs.Profile.{channel_lifetime, default_lifetime, end_of_moments, max_allocations, max_lifetime, nonce_lifetime, permission_lifetime, reservation_lifetime}
pub use Rattle.turn_types.specs.Rows.{first_row}
