use Rattle.std.proofs.Common.{◌≡◌, ◌∙◌, ◌+◌, ℕ, inl, inr, refl, ap, sym, subst, arith, rules}
use Rattle.std.proofs.lemmas.Result.{err_from_is_err_and}
use Rattle.turn_disk.proofs.Device.{reads_as, reads_then}
use Rattle.turn_disk.specs.Prelude.{Trace}
use Rattle.turn_journal.specs.Area.{end_of, limit_of}
use Rattle.turn_journal.specs.declared.area.Area.{Area}
use Rattle.turn_store.specs.Prelude.{AreaIsRead, LogIsRead, BreaksAt, snapshot_of}
use Rattle.turn_store.proofs.Logs.{faults_weaken}
use Rattle.turn_store.proofs.Choices.{area_is_read}
use Rattle.turn_store.proofs.Staged.{read_of}
use Rattle.turn_store.proofs.open.load_area.Goals as goal

pub new-requires-clause-short : goal.new-requires-clause-short
new-requires-clause-short g c = omega (arith, c.max_payload.ensures, c.in-Some.ensures.small)

pub returns-in_default-clause-read : goal.returns-in_default-clause-read
returns-in_default-clause-read g c = record { reads = search rules; found = λ crash_model. (tt, inl (refl, c.in_default.ensures.none refl)) }

pub returns-in_err-table-clause-read : goal.returns-in_err-table-clause-read
returns-in_err-table-clause-read g c =
    let p = err_from_is_err_and c.from_residual.result c.from_residual.ensures.1 in
    let read = c.in_err-table.ensures.read in
    rw (p.1, p.2) (record { reads = reads_as (λ e. cc) (λ e. cc) read.reads; found = λ crash_model. (tt, faults_weaken _ _ (λ place is. inr (c.in-Some.version, c.in-Some.ensures.some, inl is)) c.in_err-table.field-0.0 (read.found crash_model).1) })

pub returns-in_err-end-clause-read : goal.returns-in_err-end-clause-read
returns-in_err-end-clause-read g c =
    let p = err_from_is_err_and c.from_residual-in_err-end.result c.from_residual-in_err-end.ensures.1 in
    let first = snapshot_of c.in_ok-table.table in
    let table = c.in_ok-table.ensures.read in
    let log = c.in_err-end.ensures.read in
    let content = (g.D.Disk.trace c.args.disk.now).now.bytes in
    let place : c.args.start + (14 + c.args.head.snapshot) ≡ c.args.start + 14 + c.args.head.snapshot = omega arith in
    rw (p.1, p.2) (read_of (reads_as (λ e. cc) (λ e. cc) (reads_then table.reads (λ e. cc) log.reads)) (λ crash_model.
    let here = log.reads.crash_model crash_model in (
      tt,
      faults_weaken _ _
          (λ at is.
          let there = subst (λ (a : Area). BreaksAt c.in-Some.version c.args.limits (end_of a) (limit_of a) first (g.D.Disk.trace c.read_snapshot.new.disk).now.bytes at) c.in_ok-journal.ensures is in
          let at_first = subst (λ (t : Trace). BreaksAt c.in-Some.version c.args.limits (c.args.start + (14 + c.args.head.snapshot)) (c.args.start + c.args.size) first t.now.bytes at) (table.reads.same here) there in
          inr (c.in-Some.version, c.in-Some.ensures.some, inr (first, (table.found here).0, subst (λ (n : ℕ). BreaksAt c.in-Some.version c.args.limits n (c.args.start + c.args.size) first content at) place at_first)))
          c.in_err-end.field-0.0 (log.found crash_model).1,
    )))

pub returns-clause-read : goal.returns-clause-read
returns-clause-read g c =
    let v = c.in-Some.version in
    let table = c.in_ok-table.ensures.read in
    let log = c.in_ok-end.ensures.read in
    let first = snapshot_of c.in_ok-table.table in
    let end = c.in_ok-end.end in
    let frames = c.in_ok-end.frames in
    let t = snapshot_of c.replay_log.new.table in
    let content = (g.D.Disk.trace c.args.disk.now).now.bytes in
    read_of (reads_as (λ e. cc) (λ e. cc) (reads_then table.reads (λ e. cc) log.reads)) (λ crash_model.
    let here = log.reads.crash_model crash_model in
    let there = subst (λ (a : Area). LogIsRead v c.args.limits (end_of a) first (a.start + end) (limit_of a) frames t (g.D.Disk.trace c.read_snapshot.new.disk).now.bytes) c.in_ok-journal.ensures (log.found crash_model).0 in
    let at_first = subst (λ (x : Trace). LogIsRead v c.args.limits (c.args.start + (14 + c.args.head.snapshot)) first (c.args.start + end) (c.args.start + c.args.size) frames t x.now.bytes) (table.reads.same here) there in
    let read = area_is_read v c.args.limits c.args.start c.args.size c.args.head first t end frames content c.requires.generation c.requires.snapshot c.in-Some.ensures.some.version (table.found here).0 at_first in
    (subst (λ (n : ℕ). AreaIsRead v c.args.limits c.args.start c.args.size c.args.head n frames t content) (sym (ap (λ (a : Area). a.end) c.move_to.ensures)) read, tt))

pub returns-clause-table : goal.returns-clause-table
returns-clause-table g c = (c.replay_log.ensures.bounds ∙ c.in_ok-table.ensures.table.0, c.in_ok-end.ensures.holds c.in_ok-table.ensures.table.1)
