-- What the reason for a bad line quotes.
use Rattle.std.specs.Prelude.{ℕ, Bool, true, false, List, Option, None, option_map}
use Rattle.turn_config.specs.declared.reason.BadLineReason.{BadLineReason}
use Rattle.turn_config.specs.declared.reason.BadLineReason.TheVariants.{NoValue, UnknownWord, OtherForm, Repeated, Missing}
use Rattle.turn_config.specs.declared.settings.Setting.{Setting}
use Rattle.turn_config.specs.declared.settings.Setting.TheVariants.{Realm, Secret, Listen, Relay, RelayBind, Quota, Limits, Deny, Local, User, AuthSecret}

-- a password or a secret is in the values of this setting
abbrev pub is_secret : Setting → Bool
is_secret Realm = false
is_secret Secret = true
is_secret Listen = false
is_secret Relay = false
is_secret RelayBind = false
is_secret Quota = false
is_secret Limits = false
is_secret Deny = false
is_secret Local = false
is_secret User = true
is_secret AuthSecret = true

-- the bytes of the line that a reason quotes, if it does
abbrev pub quoted_of : BadLineReason → Option (List ℕ)
quoted_of NoValue = None
quoted_of (UnknownWord word) = option_map (λ w. w.now) word
quoted_of (OtherForm word form value) = option_map (λ v. v.now) value
quoted_of (Repeated word times) = None
quoted_of (Missing word) = None
