-- Requests and their replies, as the protocol's transmission phase has them. Numbers are big-endian.
use Rattle.std.specs.Prelude.{ℕ, ◌≡◌, ◌≢◌, ◌+◌, ◌%◌, ◌^◌, Bool, true, false, List, [], ◌∷◌, ◌++◌, length, take, drop}
use Rattle.std.specs.Int.{w16, w32, w64, to_be_bytes}
use Rattle.turn_nbd.specs.Wire.{sent, received}
use Rattle.turn_nbd.specs.declared.error.NbdError.{NbdError}
use Rattle.turn_nbd.specs.declared.error.NbdError.TheVariants.{Reply, Structured, Cookie, Failed}
use Rattle.turn_nbd.specs.declared.request.Kind.{Kind}
use Rattle.turn_nbd.specs.declared.request.Kind.TheVariants.{Read, Write, DurableWrite, Disconnect, Flush}

-- the number of a kind of request
abbrev pub kind_number : Kind → ℕ
kind_number Read = 0
kind_number Write = 1
kind_number DurableWrite = 1
kind_number Disconnect = 2
kind_number Flush = 3

-- the command flags of a kind of request: FUA (bit 0) says that what is written is durable before the reply comes
abbrev pub command_flags : Kind → ℕ
command_flags DurableWrite = 1
command_flags _ = 0

-- a write, which is durable before its reply comes or not
abbrev pub write_kind : Bool → Kind
write_kind true = DurableWrite
write_kind false = Write

-- a request without its data: magic, command flags, kind, cookie, position, and how many bytes
unfoldable pub request : Kind → ℕ → ℕ → ℕ → List ℕ
request kind cookie at count =
    to_be_bytes w32 0x25609513 ++ to_be_bytes w16 (command_flags kind) ++ to_be_bytes w16 (kind_number kind) ++ to_be_bytes w64 cookie
    ++ to_be_bytes w64 at ++ to_be_bytes w32 count

-- what a reply begins with
abbrev pub reply_magic : List ℕ
reply_magic = 0x67 ∷ 0x44 ∷ 0x66 ∷ 0x98 ∷ []

-- what a structured reply begins with, which a client gets that agreed to such ones
abbrev pub structured_magic : List ℕ
structured_magic = 0x66 ∷ 0x8E ∷ 0x33 ∷ 0xEF ∷ []

-- the error code of a request that succeeded
abbrev pub no_error : List ℕ
no_error = 0 ∷ 0 ∷ 0 ∷ 0 ∷ []

-- the reply of a request that succeeded, without its data: magic, the error code, and the request's cookie
unfoldable pub success : ℕ → List ℕ
success cookie = reply_magic ++ no_error ++ to_be_bytes w64 cookie

-- what a reply is that begins with other bytes than one does
abbrev pub IsOtherReply : NbdError → List ℕ → Type 0
IsOtherReply Reply magic = (magic ≢ reply_magic) × (magic ≢ structured_magic)
IsOtherReply Structured magic = magic ≡ structured_magic
IsOtherReply _ magic = ⊥

-- why a reply to the request of this cookie isn't one of success
abbrev pub IsNoSuccess : NbdError → ℕ → List ℕ → Type 0
IsNoSuccess Reply cookie bytes = IsOtherReply Reply (take 4 bytes)
IsNoSuccess Structured cookie bytes = IsOtherReply Structured (take 4 bytes)
IsNoSuccess Cookie cookie bytes = (take 4 bytes ≡ reply_magic) × (take 8 (drop 8 bytes) ≢ to_be_bytes w64 cookie)
IsNoSuccess (Failed reason) cookie bytes =
    (take 4 bytes ≡ reply_magic) × (take 8 (drop 8 bytes) ≡ to_be_bytes w64 cookie) × (take 4 (drop 4 bytes) ≢ no_error)
IsNoSuccess _ cookie bytes = ⊥

-- what passes at a request that succeeds: the request with its data, and then its reply with the reply's data
abbrev pub exchange : Kind → ℕ → ℕ → ℕ → List ℕ → List ℕ → List (Bool × ℕ)
exchange kind cookie at count data_sent data_received =
    sent (request kind cookie at count ++ data_sent) ++ received (success cookie ++ data_received)

-- the cookie of the next request
abbrev pub next_cookie : ℕ → ℕ
next_cookie cookie = (cookie + 1) % 2 ^ 64

-- the bytes of these pieces, one after another
abbrev pub joined : List (List ℕ) → List ℕ
joined [] = []
joined (piece ∷ pieces) = piece ++ joined pieces

-- what passes at reads of these pieces, each from the end of the one before on
abbrev pub reads : ℕ → ℕ → List (List ℕ) → List (Bool × ℕ)
reads cookie at [] = []
reads cookie at (piece ∷ pieces) =
    exchange Read cookie at (length piece) [] piece ++ reads (next_cookie cookie) (at + length piece) pieces

-- what passes at writes of these pieces, likewise
abbrev pub writes : Bool → ℕ → ℕ → List (List ℕ) → List (Bool × ℕ)
writes is_durable cookie at [] = []
writes is_durable cookie at (piece ∷ pieces) =
    exchange (write_kind is_durable) cookie at (length piece) piece []
    ++ writes is_durable (next_cookie cookie) (at + length piece) pieces
