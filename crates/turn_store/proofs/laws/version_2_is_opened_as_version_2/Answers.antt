use Rattle.turn_store.proofs.Versions.{stays_second}
use Rattle.turn_store.proofs.laws.version_2_is_opened_as_version_2.Goals as goal

pub returns : goal.returns
returns g c = stays_second
