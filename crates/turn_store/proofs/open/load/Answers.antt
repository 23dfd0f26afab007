use Rattle.std.proofs.Common.{◌≡◌, ◌+◌, ◌*◌, ℕ, List, length, refl, sym, ◌∙◌, subst}
use Rattle.std.proofs.lemmas.Result.{err_from_is_err_and}
use Rattle.turn_disk.proofs.Device.{reads_then}
use Rattle.turn_store.specs.Prelude.{IsChosen, FaultWith, StoreIsBad, WhyRefused, HasSuperblock, snapshot_of}
use Rattle.turn_store.proofs.Choices.{why_of_bad}
use Rattle.turn_store.proofs.NeverRefused.{plain_of}
use Rattle.turn_store.proofs.Staged.{settles_as, settles_then}
use Rattle.turn_store.proofs.open.load.Goals as goal

pub returns-in_err-settle-clause-settles : goal.returns-in_err-settle-clause-settles
returns-in_err-settle-clause-settles g c =
    let p = err_from_is_err_and c.from_residual.result c.from_residual.ensures.1 in
    rw (p.1, p.2) (settles_as (λ _. refl) (λ _. refl) c.in_err-settle.ensures)

pub returns-in_err-size-clause-settles : goal.returns-in_err-size-clause-settles
returns-in_err-size-clause-settles g c =
    let p = err_from_is_err_and c.from_residual-in_err-size.result c.from_residual-in_err-size.ensures.1 in
    rw (p.1, p.2) (settles_as (λ e. cc) (λ e. cc) (settles_then c.in_ok-settle.ensures (λ is. cc) c.in_err-size.ensures.read.reads))

pub returns-in_err-chosen-clause-settles : goal.returns-in_err-chosen-clause-settles
returns-in_err-chosen-clause-settles g c =
    let p = err_from_is_err_and c.from_residual-in_err-chosen.result c.from_residual-in_err-chosen.ensures.1 in
    rw (p.1, p.2) (settles_as (λ e. cc) (λ e. cc) (settles_then c.in_ok-settle.ensures (λ is. cc) (reads_then c.in_ok-size.ensures.read.reads (λ e. cc) c.in_err-chosen.ensures.chosen.reads)))

pub returns-clause-settles : goal.returns-clause-settles
returns-clause-settles g c = settles_as (λ e. cc) (λ e. cc) (settles_then c.in_ok-settle.ensures (λ is. cc) (reads_then c.in_ok-size.ensures.read.reads (λ e. cc) c.in_ok-chosen.ensures.chosen.reads))

pub returns-in_err-size-clause-why : goal.returns-in_err-size-clause-why
returns-in_err-size-clause-why g c = λ h.
    let p = err_from_is_err_and c.from_residual-in_err-size.result c.from_residual-in_err-size.ensures.1 in
    rw (p.1, p.2) (subst (λ (l : List ℕ). WhyRefused c.args.limits l c.in_err-size.field-0.0) (c.settle.ensures.same (c.read_area_size.ensures.read.reads.crash_model h)) (c.in_err-size.ensures.read.found h).1)

pub returns-in_err-size-clause-sound : goal.returns-in_err-size-clause-sound
returns-in_err-size-clause-sound g c = λ crash_model form h clock same stands. plain_of _ form h clock _ _ same stands (returns-in_err-size-clause-why g c crash_model)

pub returns-clause-superblock : goal.returns-clause-superblock
returns-clause-superblock g c = λ h.
    let still = c.choose.ensures.chosen.reads.crash_model h in
    let there = subst (λ (l : List ℕ). HasSuperblock c.in_ok-size.size c.args.limits l) (c.settle.ensures.same (c.read_area_size.ensures.read.reads.crash_model still)) (c.in_ok-size.ensures.read.found still).0 in
    subst (λ (n : ℕ). HasSuperblock n c.args.limits (g.D.Disk.trace c.args.disk.now).now.bytes) (sym c.in_ok-chosen.ensures.area.0) there

pub returns-clause-chosen : goal.returns-clause-chosen
returns-clause-chosen g c = λ h.
    let r = c.in_ok-chosen.chosen in
    let t = snapshot_of r.loaded.table in
    let content = (settles_then c.in_ok-settle.ensures (λ is. cc) c.in_ok-size.ensures.read.reads).same (c.choose.ensures.chosen.reads.crash_model h) in
    let there = subst (λ (l : List ℕ). IsChosen r.loaded.version c.args.limits c.in_ok-size.size r.loaded.journal.start r.other r.generation r.loaded.journal.end r.loaded.frames r.other_is_below t l) content (c.in_ok-chosen.ensures.chosen.found h).0 in
    subst (λ (n : ℕ). IsChosen r.loaded.version c.args.limits n r.loaded.journal.start r.other r.generation r.loaded.journal.end r.loaded.frames r.other_is_below t (g.D.Disk.trace c.args.disk.now).now.bytes) (sym c.in_ok-chosen.ensures.area.0) there

pub returns-in_err-chosen-clause-why : goal.returns-in_err-chosen-clause-why
returns-in_err-chosen-clause-why g c = λ h.
    let p = err_from_is_err_and c.from_residual-in_err-chosen.result c.from_residual-in_err-chosen.ensures.1 in
    let b = c.args.limits in
    let size = c.in_ok-size.size in
    let content = (g.D.Disk.trace c.args.disk.now).now.bytes in
    let still = c.choose.ensures.chosen.reads.crash_model h in
    let synced = c.read_area_size.ensures.read.reads.crash_model still in
    let whole : length content ≡ 64 + 2 * size = g.met.D.Disk.sized c.args.disk.now (c.settle.ensures.uses.crash_model synced) ∙ sym c.settle.ensures.uses.size ∙ sym c.in_ok-size.ensures.place in
    let superblock = subst (λ (l : List ℕ). HasSuperblock size b l) (c.settle.ensures.same synced) (c.in_ok-size.ensures.read.found still).0 in
    let read = settles_then c.in_ok-settle.ensures (λ is. cc) c.in_ok-size.ensures.read.reads in
    let why = subst (λ (l : List ℕ). FaultWith (StoreIsBad b size l) c.in_err-chosen.field-0.0) (read.same still) (c.in_err-chosen.ensures.chosen.found h).1 in
    rw (p.1, p.2) (why_of_bad b size content superblock c.in_ok-size.ensures.room whole c.in_err-chosen.field-0.0 why)

pub returns-in_err-chosen-clause-sound : goal.returns-in_err-chosen-clause-sound
returns-in_err-chosen-clause-sound g c = λ crash_model form h clock same stands. plain_of _ form h clock _ _ same stands (returns-in_err-chosen-clause-why g c crash_model)
