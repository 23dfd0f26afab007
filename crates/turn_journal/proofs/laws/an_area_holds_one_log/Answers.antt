use Rattle.turn_journal.proofs.Once.{frames_once}
use Rattle.turn_journal.proofs.laws.an_area_holds_one_log.Goals as goal

pub returns : goal.returns
returns c = λ from limit payloads others content first second. frames_once from payloads others limit content first second
