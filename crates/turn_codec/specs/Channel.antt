-- ChannelData (RFC 8656, section 12.4).
use Rattle.std.specs.Prelude.{◌≡◌, ℕ, ◌^◌, ◌<◌, ◌≤◌, List, ◌++◌, length}
use Rattle.std.specs.Int.{w16, to_be_bytes}

-- the number has the first bits 01
abbrev pub IsChannel : ℕ → Type 0
IsChannel number = (0x4000 ≤ number) × (number < 0x8000)

-- a number, the length of the payload, and the payload
abbrev pub channel_encoding : ℕ → List ℕ → List ℕ
channel_encoding number payload = to_be_bytes w16 number ++ to_be_bytes w16 (length payload) ++ payload

-- a datagram begins with channel data; any bytes follow
pub record EncodesChannelData (bytes : List ℕ) (number : ℕ) (payload : List ℕ) : Type 0 where
  -- padding, or anything else
  pub rest : List ℕ
  pub is : bytes ≡ channel_encoding number payload ++ rest
  pub is_channel : IsChannel number
  pub fits : length payload < 2 ^ 16
