use Rattle.std.proofs.Common.{rules}
use Rattle.turn_service.specs.Serving.{IsOpened}
use Rattle.turn_service.proofs.Serves.{serves_opened}
use Rattle.turn_service.proofs.serve.run_serve.Goals as goal

pub returns-in-Ok : goal.returns-in-Ok
returns-in-Ok g c =
    let is_new : IsOpened c.holding-disk.result = search rules in
    serves_opened _ _ _ _ _ _ is_new c.serve_over.ensures
