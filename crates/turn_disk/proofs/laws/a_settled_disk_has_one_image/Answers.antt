use Rattle.turn_disk.proofs.Since.{image_settled}
use Rattle.turn_disk.proofs.laws.a_settled_disk_has_one_image.Goals as goal

pub returns : goal.returns
returns c = λ state image settled is. image_settled state settled image is
