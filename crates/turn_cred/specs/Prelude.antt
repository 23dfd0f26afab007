-- The names of this crate's definitions that proofs and the crates above cite, passed on from one place. Declares nothing.
unfoldable pub use Rattle.turn_cred.specs.Credential.{user_key, verdict}
pub use Rattle.turn_cred.specs.Credential.{Keys, Policy, Verdict, has_expired, has_integrity, may_be_known, no_key, policy_of}
pub use Rattle.turn_cred.specs.Credential.Verdict.{Bad400, Passed, Stale438}
pub use Rattle.turn_cred.specs.Found.{IsClaimOf, verdict_of}
unfoldable pub use Rattle.turn_cred.specs.Memo.{AddsNone, AddsOne, AreKeysIn, Knows}
pub use Rattle.turn_cred.specs.Memo.{Known, known, named}
pub use Rattle.turn_cred.specs.Names.{HasExpiry, IsSharedKey, colon_and}
unfoldable pub use Rattle.turn_cred.specs.Nonce.{is_fresh, nonce_input, nonce_of, second_text, some_below}
pub use Rattle.turn_cred.specs.Nonce.{Holds}
pub use Rattle.turn_cred.specs.Passed.{IsSentBy, NonceHolds}
pub use Rattle.turn_cred.specs.Remembered.{AreSigned, IsIssued}
unfoldable pub use Rattle.turn_cred.specs.Shared.{expiry_of, key_in, moment_from, password_of, shared_key}
pub use Rattle.turn_cred.specs.Shared.{Sources, as_moment, expiring_key, lasting}
pub use Rattle.turn_cred.specs.Users.{KeyMap, key_map}
