use Rattle.turn_store.proofs.Versions.{version_once}
use Rattle.turn_store.proofs.laws.an_image_has_one_version.Goals as goal

pub returns : goal.returns
returns c = version_once
