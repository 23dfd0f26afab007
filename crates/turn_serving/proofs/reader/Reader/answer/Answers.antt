use Rattle.std.proofs.Common.{Ok, ap, refl}
use Rattle.turn_serving.proofs.reader.Reader.answer.Goals as goal

pub returns-in-Ok-Waits : goal.returns-in-Ok-Waits
returns-in-Ok-Waits g c = (c.in-Ok-Waits.ensures.waits (ap Ok c.in-Ok-Waits.field-0-is), refl)
