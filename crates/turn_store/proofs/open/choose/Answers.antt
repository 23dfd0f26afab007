use Rattle.std.proofs.Common.{◌∙◌, ℕ, refl, sym, subst, nat_lt}
use Rattle.std.proofs.lemmas.Result.{err_from_is_err_and}
use Rattle.turn_disk.proofs.Device.{reads_as, reads_then}
use Rattle.turn_disk.specs.Prelude.{Trace}
use Rattle.turn_store.specs.Prelude.{AreaIsRead, IsChosen, AreaIsBad, FaultWith, StoreIsBad, snapshot_of}
use Rattle.turn_store.proofs.Choices.{bad_store, chosen_is, found, read_both}
use Rattle.turn_store.proofs.Logs.{faults_weaken}
use Rattle.turn_store.proofs.Staged.{read_of}
use Rattle.turn_store.proofs.open.choose.Goals as goal

pub returns-clause-chosen : goal.returns-clause-chosen
returns-clause-chosen g c =
    let b = c.args.limits in
    let size = c.args.size in
    let area = c.in-Some.area in
    let other = c.in-Some.other in
    let loaded = c.in_ok-loaded.loaded in
    let t = snapshot_of loaded.table in
    let first = c.in_ok-first_head.ensures.head in
    let second = c.in_ok-second_head.ensures.head in
    let load = c.in_ok-loaded.ensures.read in
    read_of (reads_as (λ e. cc) (λ e. cc) (reads_then first.reads (λ e. cc) (reads_then second.reads (λ e. cc) load.reads))) (λ crash_model.
    let h2 = load.reads.crash_model crash_model in
    let h1 = second.reads.crash_model h2 in
    let s1 = first.reads.same h1 in
    let read = read_both size _ _ area other _ _ s1 refl refl (first.found h1) (second.found h2) c.in-Some.ensures.both in
    let here = found size _ _ area other _ read in
    let its = subst (λ (x : Trace). AreaIsRead loaded.version b area.start size area.head loaded.journal.end loaded.frames t x.now.bytes) (second.reads.same h2 ∙ s1) (load.found crash_model).0 in
    let chosen = chosen_is loaded.version b size area.start other.start area.head other.head loaded.journal.end loaded.frames t _ here.0 its c.in-Some.ensures.counts here.1 here.2 in
    (subst (λ (n : ℕ). IsChosen loaded.version b size n other.start area.head.generation loaded.journal.end loaded.frames (nat_lt other.head.generation area.head.generation) t (g.D.Disk.trace c.args.disk.now).now.bytes) (sym c.in_ok-loaded.ensures.area.0) chosen, tt))

pub returns-in_err-loaded-clause-chosen : goal.returns-in_err-loaded-clause-chosen
returns-in_err-loaded-clause-chosen g c =
    let p = err_from_is_err_and c.from_residual-in_err-loaded.result c.from_residual-in_err-loaded.ensures.1 in
    let area = c.in-Some.area in
    let first = c.in_ok-first_head.ensures.head in
    let second = c.in_ok-second_head.ensures.head in
    let load = c.in_err-loaded.ensures.read in
    rw (p.1, p.2) (read_of (reads_as (λ e. cc) (λ e. cc) (reads_then first.reads (λ e. cc) (reads_then second.reads (λ e. cc) load.reads))) (λ crash_model.
    let h2 = load.reads.crash_model crash_model in
    let h1 = second.reads.crash_model h2 in
    let s1 = first.reads.same h1 in
    let read = read_both c.args.size _ _ area c.in-Some.other _ _ s1 refl refl (first.found h1) (second.found h2) c.in-Some.ensures.both in
    let why = subst (λ (x : Trace). FaultWith (AreaIsBad c.args.limits area.start c.args.size area.head x.now.bytes) c.in_err-loaded.field-0.0) (second.reads.same h2 ∙ s1) (load.found crash_model).1 in
    (tt, faults_weaken _ (StoreIsBad c.args.limits c.args.size _) (bad_store c.args.size _ _ area c.in-Some.other _ read c.args.limits c.in-Some.ensures.counts) c.in_err-loaded.field-0.0 why)))
