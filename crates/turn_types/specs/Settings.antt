-- What a configuration is made of.
use Rattle.turn_types.specs.Config.{Config}
use Rattle.turn_types.specs.declared.config.Settings.{Settings}

-- the configuration that settings of the code make, with lists where they have slices
abbrev pub config_of : Settings → Config
config_of s = record {
  realm = s.realm.now;
  secret = s.secret;
  relay = s.relay;
  quota = s.quota;
  denied = s.denied.now;
  limits = s.limits;
}
