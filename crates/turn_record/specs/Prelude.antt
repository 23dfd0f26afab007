-- The names of this crate's definitions that proofs and the crates above cite, passed on from one place. Declares nothing.
unfoldable pub use Rattle.turn_record.specs.Bytes.{channels, entry, permissions, reserved, snapshot}
pub use Rattle.turn_record.specs.Bytes.{act_entry, addresses, allocation, body, channel, each, endpoint, five_tuple, head, joined, mark, name, payload, permission, reservation, tag}
pub use Rattle.turn_record.specs.Pieces.{Expects, WasFed}
unfoldable pub use Rattle.turn_record.specs.Places.{gives}
pub use Rattle.turn_record.specs.Places.{HasRoom, IsCut, IsWaiting, IsWaitingAt, Next, Place, ends_with_entries, if_whole, is_done, is_short, more_at, most_items}
unfoldable pub use Rattle.turn_record.specs.Reading.{act_in, address_at, addresses_at, allocation_at, binding_at, body_at, channel_number_at, count_at, endpoint_at, event_at, events_at, granted_at, many, moment_after, moment_at, name_at, name_len_at, pair_at, payload_in, port_at, renewed_at, tag_at, token_at, token_bytes_at, tuple_at, tx_at}
pub use Rattle.turn_record.specs.Reading.{Binding, Fails, Field, Gives, begins_with, byte_at, bytes_at, checked, is_even, last_passes, max_tag, number_at, passes, whole, ◌>>=◌}
pub use Rattle.turn_record.specs.Records.{EncodesAct, EncodesPayload, EncodesSnapshot, HasShortParts, Holds, IsBatch, IsSnapshot, Writes, entry_size, max_act, max_act_bytes, max_entry, max_entry_bytes, max_payload, max_reserved, max_reserved_bytes, max_snapshot, max_snapshot_bytes}
unfoldable pub use Rattle.turn_record.specs.Snapshots.{address_after, channel_at, channel_list_at, entry_at, expiry_at, head_at, mark_at, mark_byte_at, number_after, odd_port_at, other_peer_at, permission_at, permission_list_at, reservation_at, reserved_at, reserved_port_after, reserving_at, snapshot_at, snapshot_in, table_at, token_if_at, total_at, tuple_after}
pub use Rattle.turn_record.specs.Snapshots.{Head, channels_at, entry_with, is_free_after, list_at, permissions_at}
pub use Rattle.turn_record.specs.Views.{events_of}
pub use Rattle.turn_record.specs.Written.{AreShort, IsShort}
