-- The names of this crate's definitions that proofs and the crates above cite, passed on from one place. Declares nothing.
unfoldable pub use Rattle.turn_rules.specs.Allocate.{before_port, named_port, own_outcome, token_of}
pub use Rattle.turn_rules.specs.Allocate.{allocate_outcome, asks_for_next_port, capacity_outcome, capacity_rows, count_of_user, is_repeat, need_of, needed_for, own_rows, port_for, token_in, with_port}
unfoldable pub use Rattle.turn_rules.specs.Answer.{credential_outcome, decision, outcome_of, port_needed}
pub use Rattle.turn_rules.specs.Answer.{Answers, Decided, MayAnswer, by_verdict, is_allocate, is_dropped, is_expired, is_protected, is_request, key_of, needed_if_passed, passed_outcome, user_of}
pub use Rattle.turn_rules.specs.Assessed.{IsAssessed}
pub use Rattle.turn_rules.specs.Binding.{binding_outcome}
unfoldable pub use Rattle.turn_rules.specs.Channel.{named_number, named_peer}
pub use Rattle.turn_rules.specs.Channel.{bind_outcome, bind_rows, channel_outcome, number_at, to_address, to_peer}
pub use Rattle.turn_rules.specs.Decided.{decided_of, verdict_in}
pub use Rattle.turn_rules.specs.Distinct.{each_once, is_in, with_once}
unfoldable pub use Rattle.turn_rules.specs.Fields.{first_byte, granted, lifetime_of}
pub use Rattle.turn_rules.specs.Fields.{four_bytes, number_in}
pub use Rattle.turn_rules.specs.Laws.{AreReservedPorts, IsFreeFor, IsMadeOfBytes, IsNextFree, IsPicked, IsPlain, NamesInRange, SameForOthers, plain_before_port, plain_capacity_rows, plain_rows, plain_with_port}
pub use Rattle.turn_rules.specs.Need.{MayHavePicked, MayPickFor}
pub use Rattle.turn_rules.specs.Outcome.{act_by, response_of}
pub use Rattle.turn_rules.specs.Owner.{entry_outcome, owner_outcome, owner_rows}
pub use Rattle.turn_rules.specs.Peers.{ipv4_in, ipv4_of, is_denied_peer, is_ipv6, named_in, named_peers}
unfoldable pub use Rattle.turn_rules.specs.Permission.{named_addresses}
pub use Rattle.turn_rules.specs.Permission.{permission_outcome, permission_rows}
pub use Rattle.turn_rules.specs.Refresh.{refresh_outcome, refresh_rows, renewed_for}
unfoldable pub use Rattle.turn_rules.specs.Response.{response, signed}
pub use Rattle.turn_rules.specs.Response.{attribute_of, plain_response}
pub use Rattle.turn_rules.specs.Tableless.{HasOutcome, IsOutcome, depends_on_table, is_passed, tableless_decision}
pub use Rattle.turn_rules.specs.Taking.{is_picked, picks, takes, takes_if_any}
unfoldable pub use Rattle.turn_rules.specs.Token.{token_for, token_input}
unfoldable pub use Rattle.turn_rules.specs.Unknown.{unknown_types}
pub use Rattle.turn_rules.specs.Unknown.{unknown_kinds}
