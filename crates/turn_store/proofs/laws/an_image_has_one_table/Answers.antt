use Rattle.turn_store.proofs.OneTable.{image_once}
use Rattle.turn_store.proofs.laws.an_image_has_one_table.Goals as goal

pub returns : goal.returns
returns c = image_once
