use Rattle.std.proofs.Common.{ℕ, List, sym, ◌∙◌}
use Rattle.std.proofs.lemmas.Map.Keys.{ge_from_not_lt}
use Rattle.turn_record.proofs.Last.{begins, rises}
use Rattle.turn_record.proofs.read.moment_after.Goals as goal
use Rattle.turn_record.proofs.read.moment_after.Goals.{in-Some+else-lt, in_default}

pub returns : goal.returns
returns g c =
    let before = c.args.before.now in
    let m : ℕ × List ℕ = (c.in-Ok.read.0, c.in-Ok.read.1.now) in
    let read = c.in-Ok.ensures in
    elim c.match-last.branch [
      | in-Some+else-lt w ↦ rises before c.args.bytes.now m w.in-Some.last.now read (sym w.in-Some.ensures.value) (ge_from_not_lt _ _ (sym w.lt.ensures ∙ w.if-lt.false))
      | in_default w ↦ begins before c.args.bytes.now m read (sym w.in_default.ensures.value)
    ]
