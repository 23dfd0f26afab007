-- The settings of a configuration, and the words of their lines.
use Rattle.std.specs.Prelude.{ℕ, List, codes}
use Rattle.turn_config.specs.declared.settings.Setting.{Setting}
use Rattle.turn_config.specs.declared.settings.Setting.TheVariants.{Realm, Secret, Listen, Relay, RelayBind, Quota, Limits, Deny, Local, User, AuthSecret}

-- the first word of the line of a setting
abbrev pub name_of : Setting → List ℕ
name_of Realm = codes "realm"
name_of Secret = codes "secret"
name_of Listen = codes "listen"
name_of Relay = codes "relay"
name_of RelayBind = codes "relay-bind"
name_of Quota = codes "quota"
name_of Limits = codes "limits"
name_of Deny = codes "deny"
name_of Local = codes "local-peer"
name_of User = codes "user"
name_of AuthSecret = codes "auth-secret"
