use Rattle.std.proofs.Common.{◌∙◌, ap, arith, length, refl}
use Rattle.std.proofs.lemmas.Result.{err_from_is_err_and}
use Rattle.turn_store.specs.Prelude.{stopped_over}
use Rattle.turn_store.proofs.Appends.{frame_stages, frame_done, rest_stages, snapshot_stages, snapshot_done}
use Rattle.turn_store.proofs.Commits.{failed, refused, worn_as, written}
use Rattle.turn_store.proofs.store.Store.append.Goals as goal

pub returns-in-Some-clause-stages : goal.returns-in-Some-clause-stages
returns-in-Some-clause-stages g c = rw (← c.self.view_is) (λ crash_model at h es recovers follows size is contents.
    (0, rest_stages _ (g.D.Disk.trace c.self.inside.disk) at h es _ recovers follows 0))

pub returns-in_err-add_frame-in-Frame-clause-stages : goal.returns-in_err-add_frame-in-Frame-clause-stages
returns-in_err-add_frame-in-Frame-clause-stages g c = λ crash_model at h es recovers follows size is contents.
    (_, frame_stages _ _ at h es _ recovers follows size c.args.payload.now is _ _ _ (c.add_frame.ensures.writes.stages crash_model recovers.snapshot recovers.payloads recovers.shows))

pub returns-in_ok-add_frame-in-Frame-clause-stages : goal.returns-in_ok-add_frame-in-Frame-clause-stages
returns-in_ok-add_frame-in-Frame-clause-stages g c = λ crash_model at h es recovers follows size is contents.
    (_, frame_stages _ _ at h es _ recovers follows size c.args.payload.now is _ _ _ (c.add_frame.ensures.writes.stages crash_model recovers.snapshot recovers.payloads recovers.shows))

pub returns-in_err-replace_snapshot-in-Snapshot-clause-stages : goal.returns-in_err-replace_snapshot-in-Snapshot-clause-stages
returns-in_err-replace_snapshot-in-Snapshot-clause-stages g c = λ crash_model at h es recovers follows size is contents.
    (_, snapshot_stages _ _ at h es _ recovers follows c.args.self.now.version c.args.table.now.contents contents c.requires.table.1 _ _ _ (c.replace_snapshot.ensures.writes.stages crash_model recovers.snapshot recovers.payloads recovers.shows))

pub returns-in_ok-replace_snapshot-in-Snapshot-clause-stages : goal.returns-in_ok-replace_snapshot-in-Snapshot-clause-stages
returns-in_ok-replace_snapshot-in-Snapshot-clause-stages g c = λ crash_model at h es recovers follows size is contents.
    (_, snapshot_stages _ _ at h es _ recovers follows c.args.self.now.version c.args.table.now.contents contents c.requires.table.1 _ _ _ (c.replace_snapshot.ensures.writes.stages crash_model recovers.snapshot recovers.payloads recovers.shows))

pub returns-in_ok-add_frame-in-Frame-clause-done : goal.returns-in_ok-add_frame-in-Frame-clause-done
returns-in_ok-add_frame-in-Frame-clause-done g c = λ crash_model at h es recovers follows size is contents.
    let after = c.in_ok-add_frame-in-Frame.ensures.writes.ok in
    frame_done _ _ at h es _ recovers follows size c.args.payload.now is _ _ (ap (λ st. st.version) after) (ap (λ st. st.bounds) after) (ap (λ st. st.stopped) after ∙ recovers.runs)
    (c.in_ok-add_frame-in-Frame.ensures.writes.shown crash_model recovers.snapshot recovers.payloads recovers.shows)

pub returns-in_ok-replace_snapshot-in-Snapshot-clause-done : goal.returns-in_ok-replace_snapshot-in-Snapshot-clause-done
returns-in_ok-replace_snapshot-in-Snapshot-clause-done g c = λ crash_model at h es recovers follows size is contents.
    let after = c.in_ok-replace_snapshot-in-Snapshot.ensures.writes.ok in (
      c.args.table.now.moment,
      omega arith,
      snapshot_done _ _ at h es _ recovers follows c.args.self.now.version c.args.table.now.contents contents c.requires.table.1 _ _ (ap (λ st. st.version) after) (ap (λ st. st.bounds) after) (ap (λ st. st.stopped) after ∙ recovers.runs)
          (c.in_ok-replace_snapshot-in-Snapshot.ensures.writes.shown crash_model recovers.snapshot recovers.payloads recovers.shows),
    )

pub returns-in-Some-clause-commits : goal.returns-in-Some-clause-commits
returns-in-Some-clause-commits g c =
    let is = c.in-Some.ensures in
    refused g.D.Disk g.M.Meanwhile.passes _ _ _ _ _ (ap (λ st. stopped_over st st.disk) c.self.view_is) is.stopped (worn_as c.args.self.now (length c.args.payload.now) is.worn c.written_as-written.ensures) is.device

pub returns-in_err-add_frame-in-Frame-clause-commits : goal.returns-in_err-add_frame-in-Frame-clause-commits
returns-in_err-add_frame-in-Frame-clause-commits g c =
    let p = err_from_is_err_and c.from_residual.result c.from_residual.ensures.1 in
    let is = c.in_default.ensures in
    rw (p.1, p.2) (failed g.D.Disk g.M.Meanwhile.passes _ _ _ _ _ c.add_frame.ensures.meanwhile is.stopped (worn_as c.args.self.now (length c.args.payload.now) is.worn c.written_as-written.ensures) _ c.in_err-add_frame-in-Frame.ensures.writes refl)

pub returns-in_ok-add_frame-in-Frame-clause-commits : goal.returns-in_ok-add_frame-in-Frame-clause-commits
returns-in_ok-add_frame-in-Frame-clause-commits g c =
    let is = c.in_default.ensures in
    written g.D.Disk g.M.Meanwhile.passes _ _ _ _ _ c.add_frame.ensures.meanwhile is.stopped (worn_as c.args.self.now (length c.args.payload.now) is.worn c.written_as-written.ensures) _ _ c.in_ok-add_frame-in-Frame.ensures.writes refl

pub returns-in_err-replace_snapshot-in-Snapshot-clause-commits : goal.returns-in_err-replace_snapshot-in-Snapshot-clause-commits
returns-in_err-replace_snapshot-in-Snapshot-clause-commits g c =
    let p = err_from_is_err_and c.from_residual-in_err-replace_snapshot-in-Snapshot.result c.from_residual-in_err-replace_snapshot-in-Snapshot.ensures.1 in
    let is = c.in_default.ensures in
    rw (p.1, p.2) (failed g.D.Disk g.M.Meanwhile.passes _ _ _ _ _ c.replace_snapshot.ensures.meanwhile is.stopped (worn_as c.args.self.now (length c.args.payload.now) is.worn c.written_as-written.ensures) _ c.in_err-replace_snapshot-in-Snapshot.ensures.writes refl)

pub returns-in_ok-replace_snapshot-in-Snapshot-clause-commits : goal.returns-in_ok-replace_snapshot-in-Snapshot-clause-commits
returns-in_ok-replace_snapshot-in-Snapshot-clause-commits g c =
    let is = c.in_default.ensures in
    written g.D.Disk g.M.Meanwhile.passes _ _ _ _ _ c.replace_snapshot.ensures.meanwhile is.stopped (worn_as c.args.self.now (length c.args.payload.now) is.worn c.written_as-written.ensures) _ _ c.in_ok-replace_snapshot-in-Snapshot.ensures.writes refl
