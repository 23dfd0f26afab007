use Rattle.std.proofs.Common.{◌≡◌, ◌+◌, ℕ, ap, refl, sym, ◌∙◌, subst, arith, length, rules}
use Rattle.std.proofs.lemmas.Result.{err_from_is_err_and}
use Rattle.turn_disk.specs.Prelude.{Trace, StandsAt}
use Rattle.turn_journal.specs.Area.{end_of, limit_of}
use Rattle.turn_journal.specs.Frames.{IsClosed, IsFrame, IsOpen}
use Rattle.turn_journal.specs.Scan.{HasLength, IsBadFrame, IsFound}
use Rattle.turn_store.specs.Prelude.{FaultWith, ReadsBad, ReadsOn, snapshot_of}
use Rattle.turn_store.proofs.Logs.{SoFar, none_yet, one_more, all_read, frame_is, broken_frame, broken_payload, faults_weaken}
use Rattle.turn_store.proofs.Staged.{read_of}
use Rattle.turn_store.proofs.log.replay_log.Goals as goal

pub frames-init : goal.frames-init
frames-init g c = record {
  within = omega (arith, c.end-end.ensures.end, c.end-end.ensures.within);
  few = omega arith;
  size = refl;
  count = refl;
  crash_model = λ h. h;
  same = λ h. refl;
  buffer = refl;
  bounds = refl;
  holds = λ is. is;
  so_far = λ h.
      let j = c.args.journal.now in
      let s = snapshot_of c.args.table.now in
      let content = (g.D.Disk.trace c.args.disk.now).now.bytes in
      subst (λ (e : ℕ). SoFar c.args.version c.args.limits (j.start + j.end) s (j.start + e) 0 s content) (sym c.end-end.ensures.end) (none_yet c.args.version c.args.limits (j.start + j.end) s content);
}

pub returns-in_err-found_at-clause-read : goal.returns-in_err-found_at-clause-read
returns-in_err-found_at-clause-read g c =
    let p = err_from_is_err_and c.from_residual.result c.from_residual.ensures.1 in
    rw (p.1, p.2) (read_of (search rules) (λ h.
    let inv = c.frames.invariant in
    let before = c.found_at.ensures.found.reads.crash_model h in
    let j = c.args.journal.now in
    let gate = j.start + c.frames.end in
    let content = (g.D.Disk.trace c.args.disk.now).now.bytes in
    let why = subst (λ (t : Trace). FaultWith (λ place. (place ≡ gate) × IsBadFrame place (limit_of j) j.max_payload t.now.bytes) c.in_err-found_at.field-0.0) (inv.same before) (c.in_err-found_at.ensures.found.found h).1 in
    (tt, faults_weaken _ _ (broken_frame c.args.version c.args.limits (end_of j) (limit_of j) (snapshot_of c.args.table.now) gate c.frames.frames j.max_payload (snapshot_of c.frames.table) content (inv.so_far before) c.requires.payload) c.in_err-found_at.field-0.0 why)))

pub returns-in-End-clause-read : goal.returns-in-End-clause-read
returns-in-End-clause-read g c = read_of (search rules) (λ h.
    let inv = c.frames.invariant in
    let before = c.found_at.ensures.found.reads.crash_model h in
    let j = c.args.journal.now in
    let gate = j.start + c.frames.end in
    let content = (g.D.Disk.trace c.args.disk.now).now.bytes in
    let found = subst (λ f. IsFound gate (limit_of j) j.max_payload (g.D.Disk.trace c.frames.disk).now.bytes f) c.in-End.is (c.in_ok-found_at.ensures.found.found h).0 in
    let closed : IsClosed gate content = subst (λ (t : Trace). IsClosed gate t.now.bytes) (inv.same before) found in
    (all_read c.args.version c.args.limits (end_of j) (snapshot_of c.args.table.now) gate (limit_of j) c.frames.frames (snapshot_of c.frames.table) content (inv.so_far before) closed (omega (arith, inv.within)), tt))

pub returns-in-Err-clause-read : goal.returns-in-Err-clause-read
returns-in-Err-clause-read g c = read_of (search rules) (λ h.
    let inv = c.frames.invariant in
    let j = c.args.journal.now in
    let gate = j.start + c.frames.end in
    let content = (g.D.Disk.trace c.args.disk.now).now.bytes in
    let still = c.replay_frame.ensures.read.reads.crash_model h in
    let here = c.found_at.ensures.found.reads.crash_model still in
    let found = subst (λ f. IsFound gate (limit_of j) j.max_payload (g.D.Disk.trace c.frames.disk).now.bytes f) c.in-Frame.is (c.in_ok-found_at.ensures.found.found still).0 in
    let there = subst (λ (t : Trace). IsOpen gate t.now.bytes × HasLength gate c.in-Frame.count t.now.bytes) (inv.same here) (found.0, found.1) in
    let start_is = c.start-start.ensures.start in
    let place : c.start-start.result + c.frames.end + 5 ≡ gate + 5 = ap (λ (n : ℕ). n + c.frames.end + 5) start_is in (
      tt,
      faults_weaken _ _
          (λ place_ is.
          let read : ReadsBad c.args.version c.args.limits (snapshot_of c.frames.table) (c.start-start.result + c.frames.end + 5) c.in-Frame.count content =
          subst (λ (t : Trace). ReadsBad c.args.version c.args.limits (snapshot_of c.frames.table) (c.start-start.result + c.frames.end + 5) c.in-Frame.count t.now.bytes) (c.found_at.ensures.found.reads.same still ∙ inv.same here)
          ((c.in-Err.ensures.read.found h).1 is.1) in
          let frame : IsFrame gate read.bytes content = frame_is gate c.in-Frame.count read.bytes content read.has.long there.0 there.1 (subst (λ (n : ℕ). StandsAt n read.bytes content) place read.has.stands) in
          broken_payload c.args.version c.args.limits (end_of j) (limit_of j) (snapshot_of c.args.table.now) gate c.frames.frames (snapshot_of c.frames.table) read.bytes content (inv.so_far here) frame
          read.none place_ (is.0 ∙ ap (λ (n : ℕ). n + c.frames.end) start_is))
          c.fault_at.result c.fault_at.ensures.damaged,
    ))

pub frames-preserved : goal.frames-preserved
frames-preserved g c =
    let inv = c.frames.invariant in
    let j = c.args.journal.now in
    let gate = j.start + c.frames.end in
    let content = (g.D.Disk.trace c.args.disk.now).now.bytes in
    let admitted = c.in_ok-found_at.ensures.admitted c.in-Frame.count c.in-Frame.is in
    let start_is = c.start-start.ensures.start in
    record {
      within = omega (arith, admitted.1);
      few = omega (arith, inv.few);
      size = c.replay_frame.ensures.read.reads.size ∙ (c.found_at.ensures.found.reads.size ∙ inv.size);
      count = c.in-Ok.ensures.read.reads.count (λ e. cc) ∙ (c.in_ok-found_at.ensures.found.reads.count (λ e. cc) ∙ inv.count);
      crash_model = λ h. inv.crash_model (c.found_at.ensures.found.reads.crash_model (c.replay_frame.ensures.read.reads.crash_model h));
      same = λ h.
          let still = c.replay_frame.ensures.read.reads.crash_model h in
          c.replay_frame.ensures.read.reads.same h ∙ (c.found_at.ensures.found.reads.same still ∙ inv.same (c.found_at.ensures.found.reads.crash_model still));
      buffer = c.replay_frame.ensures.len ∙ inv.buffer;
      bounds = c.replay_frame.ensures.bounds ∙ inv.bounds;
      holds = λ is. c.in-Ok.ensures.holds (inv.holds is);
      so_far = λ h.
          let still = c.replay_frame.ensures.read.reads.crash_model h in
          let here = c.found_at.ensures.found.reads.crash_model still in
          let found = subst (λ f. IsFound gate (limit_of j) j.max_payload (g.D.Disk.trace c.frames.disk).now.bytes f) c.in-Frame.is (c.in_ok-found_at.ensures.found.found still).0 in
          let there = subst (λ (t : Trace). IsOpen gate t.now.bytes × HasLength gate c.in-Frame.count t.now.bytes) (inv.same here) (found.0, found.1) in
          let place : c.start-start.result + c.frames.end + 5 ≡ gate + 5 = ap (λ (n : ℕ). n + c.frames.end + 5) start_is in
          let read : ReadsOn c.args.version c.args.limits (snapshot_of c.frames.table) (c.start-start.result + c.frames.end + 5) c.in-Frame.count (snapshot_of c.replay_frame.new.table) content =
          subst (λ (t : Trace). ReadsOn c.args.version c.args.limits (snapshot_of c.frames.table) (c.start-start.result + c.frames.end + 5) c.in-Frame.count (snapshot_of c.replay_frame.new.table) t.now.bytes) (c.found_at.ensures.found.reads.same still ∙ inv.same here)
          (c.in-Ok.ensures.read.found h).0 in
          let frame : IsFrame gate read.bytes content = frame_is gate c.in-Frame.count read.bytes content read.has.long there.0 there.1 (subst (λ (n : ℕ). StandsAt n read.bytes content) place read.has.stands) in
          let more = one_more c.args.version c.args.limits (end_of j) (snapshot_of c.args.table.now) gate c.frames.frames (snapshot_of c.frames.table) (snapshot_of c.replay_frame.new.table) read.bytes content (inv.so_far here) frame read.goes in
          let next : gate + 5 + length read.bytes ≡ j.start + (c.frames.end + (5 + c.in-Frame.count)) = omega (arith, read.has.long) in
          subst (λ (n : ℕ). SoFar c.args.version c.args.limits (end_of j) (snapshot_of c.args.table.now) n (c.frames.frames + 1) (snapshot_of c.replay_frame.new.table) content) next more;
    }
