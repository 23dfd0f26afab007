use Rattle.std.proofs.Common.{sym}
use Rattle.turn_service.specs.Serving.{serves}
use Rattle.turn_service.proofs.serve.serve_over.Goals as goal

pub returns : goal.returns
returns g c = serves c.in-Ok.serving.server c.tell-told.new.serving.server c.in-Ok.ensures.started c.tell-told.ensures (sym c.close-disk.ensures.disk)
