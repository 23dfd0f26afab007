-- The handshake, fixed newstyle, as far as a client needs it that asks for one export. Numbers are big-endian.
use Rattle.std.specs.Prelude.{ℕ, ◌≡◌, ◌≢◌, ◌+◌, ◌<◌, ◌≤◌, ◌^◌, ◌⊎◌, Bool, IsTrue, List, [], ◌∷◌, ◌++◌, length, codes, bit_and}
use Rattle.std.specs.Int.{w16, w32, to_be_bytes, from_be_bytes}
use Rattle.turn_nbd.specs.declared.error.NbdError.{NbdError}
use Rattle.turn_nbd.specs.declared.error.NbdError.TheVariants.{Handshake, Unsupported, ReadOnly, NoFlush, Size}
use Rattle.turn_nbd.specs.declared.handshake.Found.{Found}

-- what the server sends first; flags follow, of which bit 0 says that it has the fixed newstyle handshake
abbrev pub greeting_magic : List ℕ
greeting_magic = codes "NBDMAGICIHAVEOPT"

-- why a greeting isn't accepted
abbrev pub IsNoGreeting : NbdError → List ℕ → List ℕ → Type 0
IsNoGreeting Handshake magic flags = magic ≢ greeting_magic
IsNoGreeting Unsupported magic flags = (magic ≡ greeting_magic) × (bit_and (from_be_bytes w16 flags) 1 ≡ 0)
IsNoGreeting _ magic flags = ⊥

-- what an option begins with: its number, and how many bytes of data follow
unfoldable pub option_head : ℕ → ℕ → List ℕ
option_head number count = codes "IHAVEOPT" ++ to_be_bytes w32 number ++ to_be_bytes w32 count

-- the option GO, with the name of an export and no request for information
abbrev pub go : List ℕ → List ℕ
go name = option_head 7 (length name + 6) ++ to_be_bytes w32 (length name) ++ name ++ 0 ∷ 0 ∷ []

-- the option EXPORT_NAME, which all servers have
abbrev pub export_name : List ℕ → List ℕ
export_name name = option_head 1 (length name) ++ name

-- what the reply to an option begins with
abbrev pub option_reply_magic : List ℕ
option_reply_magic = 0 ∷ 3 ∷ 0xe8 ∷ 0x89 ∷ 4 ∷ 0x55 ∷ 0x65 ∷ 0xa9 ∷ []

-- the export can't be written: transmission flag 1
abbrev pub IsReadOnly : Found → Type 0
IsReadOnly found = bit_and found.flags 2 ≢ 0

-- the server has FLUSH: transmission flag 2, where flag 0 says that there are flags
abbrev pub HasFlush : Found → Type 0
HasFlush found = bit_and found.flags 5 ≡ 5

-- the server has FUA: transmission flag 3, where flag 0 says that there are flags
abbrev pub HasFua : Found → Type 0
HasFua found = bit_and found.flags 9 ≡ 9

-- why an export isn't one to write to, or, where it isn't to be written, not one to read
abbrev pub IsUnfit : NbdError → Bool → Found → Type 0
IsUnfit Size writes found = (found.size ≡ 0) ⊎ (2 ^ 63 ≤ found.size)
IsUnfit ReadOnly writes found = IsTrue writes × IsReadOnly found
IsUnfit NoFlush writes found = IsTrue writes × (HasFlush found → ⊥)
IsUnfit _ writes found = ⊥

-- a size is one of a disk, and one that is to be written can be, with FLUSH
pub record IsFit (writes : Bool) (found : Found) : Type 0 where
  pub size : (0 < found.size) × (found.size < 2 ^ 63)
  pub writable : IsTrue writes → IsReadOnly found → ⊥
  pub durable : IsTrue writes → HasFlush found
