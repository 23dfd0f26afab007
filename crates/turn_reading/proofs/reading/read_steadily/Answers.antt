use Rattle.turn_reading.proofs.Told.{reads_after, reads_before, reads_steadily}
use Rattle.turn_reading.proofs.reading.read_steadily.Goals as goal

pub returns-in-Err : goal.returns-in-Err
returns-in-Err g c = rw c.in-Err.is at c.try_once-disk.ensures

pub returns-in-Err-second : goal.returns-in-Err-second
returns-in-Err-second g c =
    let first = c.try_once-disk.ensures in
    reads_after first.crash_model first.same (rw c.in-Err-second.is at c.try_once-disk-2.ensures)

pub returns-in-Ok-third : goal.returns-in-Ok-third
returns-in-Ok-third g c =
    let first = c.try_once-disk.ensures in
    let third = c.try_once-disk-3.ensures in
    let second = reads_after first.crash_model first.same (rw c.in-Ok-second.is at c.try_once-disk-2.ensures) in
    reads_steadily c.in-Ok-second.reading c.steady.result (reads_before third.crash_model third.same second) c.steady.ensures.second c.steady.ensures.changing

pub returns-in-Err-third : goal.returns-in-Err-third
returns-in-Err-third g c =
    let first = c.try_once-disk.ensures in
    let second = c.try_once-disk-2.ensures in
    reads_after first.crash_model first.same (reads_after second.crash_model second.same (rw c.in-Err-third.is at c.try_once-disk-3.ensures))
