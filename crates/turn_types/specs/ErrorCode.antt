-- The numbers of the error codes (RFC 8489, section 14.8; RFC 8656, section 19), and this project's reason texts.
use Rattle.std.specs.Prelude.{ℕ, List, codes}
use Rattle.turn_types.specs.declared.error.ErrorCode.{ErrorCode}
use Rattle.turn_types.specs.declared.error.ErrorCode.TheVariants.{BadRequest, Unauthenticated, Forbidden, UnknownAttribute, AllocationMismatch, StaleNonce, AddressFamilyNotSupported, WrongCredentials, UnsupportedTransportProtocol, PeerAddressFamilyMismatch, AllocationQuotaReached, InsufficientCapacity}

-- the number of an error code
abbrev pub number_of : ErrorCode → ℕ
number_of BadRequest = 400
number_of Unauthenticated = 401
number_of Forbidden = 403
number_of UnknownAttribute = 420
number_of AllocationMismatch = 437
number_of StaleNonce = 438
number_of AddressFamilyNotSupported = 440
number_of WrongCredentials = 441
number_of UnsupportedTransportProtocol = 442
number_of PeerAddressFamilyMismatch = 443
number_of AllocationQuotaReached = 486
number_of InsufficientCapacity = 508

-- the reason text of an error code, in UTF-8
abbrev pub reason_of : ErrorCode → List ℕ
reason_of BadRequest = codes "Bad Request"
reason_of Unauthenticated = codes "Unauthenticated"
reason_of Forbidden = codes "Forbidden"
reason_of UnknownAttribute = codes "Unknown Attribute"
reason_of AllocationMismatch = codes "Allocation Mismatch"
reason_of StaleNonce = codes "Stale Nonce"
reason_of AddressFamilyNotSupported = codes "Address Family not Supported"
reason_of WrongCredentials = codes "Wrong Credentials"
reason_of UnsupportedTransportProtocol = codes "Unsupported Transport Protocol"
reason_of PeerAddressFamilyMismatch = codes "Peer Address Family Mismatch"
reason_of AllocationQuotaReached = codes "Allocation Quota Reached"
reason_of InsufficientCapacity = codes "Insufficient Capacity"
