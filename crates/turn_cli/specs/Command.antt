-- The commands, by the texts of their values.
use Rattle.std.specs.Prelude.{ℕ, ◌≡◌, ◌≢◌, ◌≤◌, ◌<◌, ◌+◌, ◌^◌, ⊤, ◌&&◌, Bool, not, nat_eq, nat_le, List, length, Ok, IsErr, Option, Some, None, option_map}
use Rattle.hex.specs.Hex.{decode_of}
use Rattle.turn_types.specs.declared.address.Endpoint.{Endpoint}
use Rattle.turn_cli.specs.declared.command.Command.{Command}
use Rattle.turn_cli.specs.declared.command.Command.TheVariants.{Answer, Replay, Credential, Format, Inspect, Check, Serve, End, Probe, Status, Demo, Version, Help}
use Rattle.turn_cli.specs.declared.error.CliError.{CliError}
use Rattle.turn_cli.specs.declared.error.CliError.TheVariants.{Usage, BadDatagram, Memory}
use Rattle.turn_config.specs.Values.{number_of, IsNumberBelow, IsIp, IsEndpoint}
use Rattle.turn_types.specs.Prelude.{end_of_moments}

-- the option is not there, or its text is a number below the bound
abbrev pub IsBelowIfGiven : ℕ → Option (List ℕ) → Type 0
IsBelowIfGiven bound None = ⊤
IsBelowIfGiven bound (Some text) = IsNumberBelow bound text

-- the option's number, if it is there
abbrev pub number_if_given : Option (List ℕ) → Option ℕ
number_if_given text = option_map number_of text

-- the option `--at` is not there, or its text is that of a moment
abbrev pub IsMomentWord : Option (List ℕ) → Type 0
IsMomentWord at = IsBelowIfGiven end_of_moments at

-- the moment that the option sets: 0 if it is not there
abbrev pub seconds_at : Option (List ℕ) → ℕ
seconds_at None = 0
seconds_at (Some text) = number_of text

-- the option `--burst` is not there, or its text is a number from 1 to 64
abbrev pub IsBurst : Option (List ℕ) → Type 0
IsBurst None = ⊤
IsBurst (Some text) = IsNumberBelow 65 text × (1 ≤ number_of text)

-- the burst where there is no such option: 1 where turns are counted, and else the greatest
abbrev pub default_burst : Option ℕ → ℕ
default_burst None = 64
default_burst (Some turns) = 1

-- the burst that the option sets
abbrev pub burst_of : Option ℕ → Option (List ℕ) → ℕ
burst_of turns None = default_burst turns
burst_of turns (Some text) = number_of text

-- the option `--relay-bind` is not there and sets nothing, or its text is this address
abbrev pub IsBind : Option (List ℕ) → Option ℕ → Type 0
IsBind None None = ⊤
IsBind None (Some ip) = ⊥
IsBind (Some text) None = ⊥
IsBind (Some text) (Some ip) = IsIp text ip

-- the text of an option `--listen` is this address, whose port isn't 0
abbrev pub IsListen : List ℕ → Endpoint → Type 0
IsListen text address = IsEndpoint text address × (address.port ≢ 0)

-- ---- answer

-- the texts of an endpoint and of a moment
pub record AreWellFormed (from : List ℕ) (at : Option (List ℕ)) : Type 0 where
  pub endpoint : Endpoint
  pub is_endpoint : IsEndpoint from endpoint
  pub is_at : IsMomentWord at

-- the command has the values that the texts are
abbrev pub IsAnswer : List ℕ → Option (List ℕ) → List ℕ → Command → Type 0
IsAnswer from at hex (Answer endpoint moment datagram) =
    IsEndpoint from endpoint × IsMomentWord at × (moment ≡ seconds_at at) × (decode_of hex ≡ Ok datagram.items)
IsAnswer from at hex (Replay file log) = ⊥
IsAnswer from at hex (Credential config name expiry log) = ⊥
IsAnswer from at hex (Format config store area log) = ⊥
IsAnswer from at hex (Inspect store moment log) = ⊥
IsAnswer from at hex (Check config store listen log) = ⊥
IsAnswer from at hex (Serve config store turns burst bind listen held log) = ⊥
IsAnswer from at hex (End config store ended log) = ⊥
IsAnswer from at hex (Probe server asker only log) = ⊥
IsAnswer from at hex (Status config store log) = ⊥
IsAnswer from at hex Demo = ⊥
IsAnswer from at hex Version = ⊥
IsAnswer from at hex (Help synopsis) = ⊥

-- why they make no command: a malformed text before a datagram that is not hex
abbrev pub IsAnswerError : List ℕ → Option (List ℕ) → List ℕ → CliError → Type 0
IsAnswerError from at hex Usage = ¬ (AreWellFormed from at)
IsAnswerError from at hex BadDatagram = AreWellFormed from at × IsErr (decode_of hex)
IsAnswerError from at hex Memory = AreWellFormed from at

-- ---- credential

-- no control character of ASCII
abbrev pub is_shown : ℕ → Bool
is_shown byte = nat_le 32 byte && not (nat_eq byte 127)

-- the texts of a moment and of seconds from then on, up to a moment other than 0
pub record AreTimes (at life : List ℕ) : Type 0 where
  pub is_at : IsNumberBelow end_of_moments at
  pub is_life : IsNumberBelow (2 ^ 64) life
  pub some : 1 ≤ number_of at + number_of life
  pub below : number_of at + number_of life < end_of_moments

-- ---- All commands

-- a server takes 1 to 64 datagrams of a socket in a turn, and listens on at most eight addresses beside the configuration's
abbrev pub IsInRange : Command → Type 0
IsInRange (Answer endpoint moment datagram) = ⊤
IsInRange (Replay file log) = ⊤
IsInRange (Credential config name expiry log) = 1 ≤ expiry
IsInRange (Format config store area log) = ⊤
IsInRange (Inspect store moment log) = ⊤
IsInRange (Check config store listen log) = length listen.items ≤ 8
IsInRange (Serve config store turns burst bind listen held log) = (1 ≤ burst) × (burst ≤ 64) × (length listen.items ≤ 8)
IsInRange (End config store ended log) = ⊤
IsInRange (Probe server asker only log) = ⊤
IsInRange (Status config store log) = ⊤
IsInRange Demo = ⊤
IsInRange Version = ⊤
IsInRange (Help synopsis) = ⊤
