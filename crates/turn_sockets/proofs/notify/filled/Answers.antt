use Rattle.std.proofs.Common.{◌++◌, ap, List, ℕ, length}
use Rattle.std.proofs.lemmas.List.{drop-replicate}
use Rattle.turn_sockets.proofs.notify.filled.Goals as goal

pub returns : goal.returns
returns c = rw c.copy_from_slice.ensures.after (ap (λ (t : List ℕ). c.args.rest.now ++ t) (drop-replicate (length c.args.rest.now) 125 0))
