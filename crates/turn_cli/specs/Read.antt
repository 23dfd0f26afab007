-- What the commands have of what their words were given.
use Rattle.std.specs.Prelude.{◌≡◌, ◌≢◌, ◌+◌, ◌^◌, ⊤, codes, string_bytes, String, List, [], ◌∷◌, Option, Some, None, IsSomeAnd, option_map}
use Rattle.std.specs.declared.alloc.Global.{Global}
use Rattle.clap.specs.Walk.{Text}
use Rattle.turn_types.specs.declared.address.Endpoint.{Endpoint}
use Rattle.turn_config.specs.Values.{number_of, IsNumberBelow, IsEndpoint}
use Rattle.turn_cli.specs.Command.{AreTimes, IsAnswer, IsBelowIfGiven, IsBind, IsBurst, IsListen, IsMomentWord, burst_of, number_if_given}
use Rattle.clap.specs.Simple.{HasMatchesOf}
use Rattle.clap.specs.declared.parser.matches.ArgMatches.{ArgMatches}
use Rattle.turn_cli.specs.Table.{IsFlag, IsFoundIn, all_given, app_of_rows, given}
use Rattle.turn_cli.specs.declared.command.table.Synopsis.{Synopsis}
use Rattle.turn_cli.specs.declared.command.Command.{Command}
use Rattle.turn_cli.specs.declared.command.Command.TheVariants.{Answer, Replay, Credential, Format, Inspect, Check, Serve, End, Probe, Status, Demo, Version, Help}
use Rattle.turn_cli.specs.declared.command.end.Ended.{Ended}
use Rattle.turn_cli.specs.declared.command.end.Ended.TheVariants.{User, Client}
use Rattle.turn_cli.specs.declared.command.found.Found.{Found}
use Rattle.turn_cli.specs.declared.command.probe.Asker.{Asker}
use Rattle.turn_cli.specs.declared.command.probe.Asker.TheVariants as asker
use Rattle.turn_cli.specs.declared.command.table.Kind.TheVariants as kinds

-- the text of a word that has to stand
abbrev pub IsText : Option Text → String Global → Type 0
IsText word text = word ≡ Some (string_bytes text)

-- the text of a word, if it stands
abbrev pub IsTextIfGiven : Option Text → Option (String Global) → Type 0
IsTextIfGiven word text = option_map string_bytes text ≡ word

-- one of the two words stands, and says whose allocations end
abbrev pub IsEnded : Option Text → Option Text → Ended → Type 0
IsEnded None client (User name) = ⊥
IsEnded (Some user) None (User name) = string_bytes name ≡ user
IsEnded (Some user) (Some client) (User name) = ⊥
IsEnded (Some user) client (Client address) = ⊥
IsEnded None None (Client address) = ⊥
IsEnded None (Some client) (Client address) = IsEndpoint client address

-- the words that say who asks, and no other: a name with a password or with the path of its file, or a configuration
abbrev pub IsAsker : Option Text → Option Text → Option Text → Option Text → Asker → Type 0
IsAsker user password file config asker.Nobody = (user ≡ None) × (password ≡ None) × (file ≡ None) × (config ≡ None)
IsAsker user password file config (asker.User name secret) =
    (user ≡ Some (string_bytes name)) × (password ≡ Some (string_bytes secret)) × (file ≡ None) × (config ≡ None)
IsAsker user password file config (asker.UserByFile name path) =
    (user ≡ Some (string_bytes name)) × (password ≡ None) × (file ≡ Some (string_bytes path)) × (config ≡ None)
IsAsker user password file config (asker.Configured path) =
    (user ≡ None) × (password ≡ None) × (file ≡ None) × (config ≡ Some (string_bytes path))

-- the address that is asked, or a configuration where there is none
abbrev pub IsServer : Option Text → Option Text → Option Endpoint → Type 0
IsServer address config None = (address ≡ None) × (config ≢ None)
IsServer address config (Some server) = IsSomeAnd address (λ text. IsEndpoint text server)

-- each text is that of the address at its place
abbrev pub AreListen : List Text → List Endpoint → Type 0
AreListen [] [] = ⊤
AreListen [] (address ∷ addresses) = ⊥
AreListen (text ∷ texts) [] = ⊥
AreListen (text ∷ texts) (address ∷ addresses) = IsListen text address × AreListen texts addresses

-- the addresses of all texts, and none if there is no text
abbrev pub AreListenIfGiven : Option (List Text) → List Endpoint → Type 0
AreListenIfGiven None addresses = addresses ≡ []
AreListenIfGiven (Some texts) addresses = AreListen texts addresses

-- each value of the command is that of its word
abbrev pub IsRead : Found → Command → Type 0
IsRead found (Answer from at datagram) =
    IsSomeAnd (given found (codes "from") kinds.Endpoint) (λ address.
    IsSomeAnd (given found (codes "HEX") kinds.Hex) (λ hex.
    IsAnswer address (given found (codes "at") kinds.Moment) hex (Answer from at datagram)))
IsRead found (Replay file log) = IsText (given found (codes "FILE") kinds.File) file × IsFlag found (codes "log") log
IsRead found (Credential config name expiry log) =
    IsSomeAnd (given found (codes "at") kinds.Moment) (λ at.
    IsSomeAnd (given found (codes "life") kinds.Number) (λ life. AreTimes at life × (expiry ≡ number_of at + number_of life)))
    × IsTextIfGiven (given found (codes "name") kinds.ShownName) name × IsText (given found (codes "config") kinds.File) config
    × IsFlag found (codes "log") log
IsRead found (Format config store area log) =
    IsSomeAnd (given found (codes "area") kinds.Size) (λ size. IsNumberBelow (2 ^ 32) size × (area ≡ number_of size)) × IsFlag found (codes "log") log
    × IsText (given found (codes "config") kinds.File) config × IsText (given found (codes "store") kinds.Store) store
IsRead found (Inspect store at log) =
    (at ≡ number_if_given (given found (codes "at") kinds.Moment)) × IsMomentWord (given found (codes "at") kinds.Moment)
    × IsText (given found (codes "store") kinds.Store) store × IsFlag found (codes "log") log
IsRead found (Check config store listen log) =
    IsText (given found (codes "config") kinds.File) config × IsTextIfGiven (given found (codes "store") kinds.Store) store
    × AreListenIfGiven (all_given found (codes "listen") kinds.Listen) listen.items × IsFlag found (codes "log") log
IsRead found (Serve config store turns burst bind listen held log) =
    (turns ≡ number_if_given (given found (codes "turns") kinds.Number))
    × IsBelowIfGiven (2 ^ 64) (given found (codes "turns") kinds.Number)
    × (burst ≡ burst_of turns (given found (codes "burst") kinds.Burst)) × IsBurst (given found (codes "burst") kinds.Burst)
    × IsBind (given found (codes "relay-bind") kinds.Ip) bind
    × AreListenIfGiven (all_given found (codes "listen") kinds.Listen) listen.items × IsFlag found (codes "held") held × IsFlag found (codes "log") log
    × IsText (given found (codes "config") kinds.File) config × IsText (given found (codes "store") kinds.Store) store
IsRead found (End config store ended log) =
    IsEnded (given found (codes "user") kinds.Name) (given found (codes "client") kinds.Endpoint) ended × IsFlag found (codes "log") log
    × IsText (given found (codes "config") kinds.File) config × IsText (given found (codes "store") kinds.Store) store
IsRead found (Probe server who only log) =
    IsServer (given found (codes "IP:PORT") kinds.Endpoint) (given found (codes "config") kinds.File) server
    × IsAsker (given found (codes "user") kinds.Name) (given found (codes "password") kinds.Password)
    (given found (codes "password-file") kinds.File) (given found (codes "config") kinds.File) who
    × IsFlag found (codes "binding") only × IsFlag found (codes "log") log
IsRead found (Status config store log) =
    IsFlag found (codes "log") log × IsText (given found (codes "config") kinds.File) config × IsText (given found (codes "store") kinds.Store) store
IsRead found Demo = ⊤
IsRead found Version = ⊤
IsRead found (Help row) = given found (codes "COMMAND") kinds.Command ≡ option_map (λ r. r.now.name.now) row

-- the words call the command: they have the matches of the program that the rows describe, and its values are those of the row's words
pub record IsCalled (rows : List Synopsis) (words : List Text) (command : Command) : Type 0 where
  pub matches : ArgMatches
  pub parsed : HasMatchesOf (app_of_rows rows) words matches
  pub found : Found
  pub is_found : IsFoundIn rows matches found
  pub is_read : IsRead found command
