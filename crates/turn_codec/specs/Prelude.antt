-- The names of this crate's definitions that proofs and the crates above cite, passed on from one place. Declares nothing.
unfoldable pub use Rattle.turn_codec.specs.Address.{xor_value}
pub use Rattle.turn_codec.specs.Address.{address_of, port_mask}
unfoldable pub use Rattle.turn_codec.specs.AttributeTypes.{is_unknown}
pub use Rattle.turn_codec.specs.AttributeTypes.{channel_number, error_code, even_port, fingerprint, lifetime, message_integrity, nonce, payload, realm, requested_address_family, requested_transport, reservation_token, unknown_attributes, username, xor_mapped_address, xor_peer_address, xor_relayed_address}
pub use Rattle.turn_codec.specs.Channel.{EncodesChannelData, IsChannel, channel_encoding}
unfoldable pub use Rattle.turn_codec.specs.Grammar.{canonical}
pub use Rattle.turn_codec.specs.Grammar.{Attribute, Content, Datagram, Encodes, EncodesAttribute, EncodesAttributes, FirstHas, before, body_size, canonical_attribute, canonical_attributes, class_number, cookie, from, offset_of, padding_size, size_of, type_number, value_of, with_attribute}
unfoldable pub use Rattle.turn_codec.specs.Reading.{attributes_in, attributes_of, attributes_within, content_of, datagram_of, first_attribute}
pub use Rattle.turn_codec.specs.Reading.{IsCanonical, IsDatagram, IsMessage, class_of, grown, method_of, number_at, padded, value_at}
unfoldable pub use Rattle.turn_codec.specs.Seen.{seen_value}
pub use Rattle.turn_codec.specs.Seen.{has_unknown, is_seen, seen, values_of}
