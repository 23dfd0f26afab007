use Rattle.std.proofs.Common.{◌≡◌, ◌∙◌, ◌^◌, ◌-◌, [], ◌++◌, refl, sym, ap, subst, append-nil}
use Rattle.std.proofs.lemmas.Result.{err_from_is_err_and}
use Rattle.turn_history.specs.Prelude.{History}
use Rattle.turn_history.specs.Table as tables
use Rattle.turn_store.specs.Prelude.{RecoversToAt, stopped_over}
use Rattle.turn_store.proofs.Appends.{alone_stages, rest_stages, snapshot_stages, snapshot_done}
use Rattle.turn_store.proofs.Commits.{failed, refused, written}
use Rattle.turn_store.proofs.store.Store.compact.Goals as goal

pub returns-in-Some-clause-stages : goal.returns-in-Some-clause-stages
returns-in-Some-clause-stages g c = rw (← c.self.view_is) (λ crash_model at h recovers follows contents.
    alone_stages _ _ at h _ _ _ (rest_stages _ (g.D.Disk.trace c.self.inside.disk) at h [] _ recovers follows _))

pub returns-in_err-replace_snapshot-clause-stages : goal.returns-in_err-replace_snapshot-clause-stages
returns-in_err-replace_snapshot-clause-stages g c = λ crash_model at h recovers follows contents.
    let t = c.args.table.now in
    let there : t.contents ≡ tables.table (h ++ []) t.moment = contents ∙ ap (λ (l : History). tables.table l t.moment) (sym (append-nil h)) in
    alone_stages _ _ at h _ _ _ (snapshot_stages _ _ at h [] _ recovers follows c.args.self.now.version t.contents there c.requires.table.1 _ _ _ (c.replace_snapshot.ensures.writes.stages crash_model recovers.snapshot recovers.payloads recovers.shows))

pub returns-clause-stages : goal.returns-clause-stages
returns-clause-stages g c = λ crash_model at h recovers follows contents.
    let t = c.args.table.now in
    let there : t.contents ≡ tables.table (h ++ []) t.moment = contents ∙ ap (λ (l : History). tables.table l t.moment) (sym (append-nil h)) in
    alone_stages _ _ at h _ _ _ (snapshot_stages _ _ at h [] _ recovers follows c.args.self.now.version t.contents there c.requires.table.1 _ _ _ (c.replace_snapshot.ensures.writes.stages crash_model recovers.snapshot recovers.payloads recovers.shows))

pub returns-clause-done : goal.returns-clause-done
returns-clause-done g c = λ crash_model at h recovers follows contents.
    let t = c.args.table.now in
    let there : t.contents ≡ tables.table (h ++ []) t.moment = contents ∙ ap (λ (l : History). tables.table l t.moment) (sym (append-nil h)) in
    let after = c.in_ok-replace_snapshot.ensures.writes.ok in
    subst (λ (l : History). RecoversToAt c.replace_snapshot.new.self (g.D.Disk.trace c.replace_snapshot.new.self.disk).now t.moment l) (append-nil h)
    (snapshot_done _ _ at h [] _ recovers follows c.args.self.now.version t.contents there c.requires.table.1 _ _ (ap (λ st. st.version) after) (ap (λ st. st.bounds) after) (ap (λ st. st.stopped) after ∙ recovers.runs)
    (c.in_ok-replace_snapshot.ensures.writes.shown crash_model recovers.snapshot recovers.payloads recovers.shows))

pub returns-in-Some-clause-commits : goal.returns-in-Some-clause-commits
returns-in-Some-clause-commits g c =
    let is = c.in-Some.ensures in
    refused g.D.Disk g.M.Meanwhile.passes _ _ _ _ _ (ap (λ st. stopped_over st st.disk) c.self.view_is) is.stopped (λ e. let all = is.worn.0 e in (all.0, all.2), λ facts. is.worn.1 (facts.0, refl, facts.1)) is.device

pub returns-in_err-replace_snapshot-clause-commits : goal.returns-in_err-replace_snapshot-clause-commits
returns-in_err-replace_snapshot-clause-commits g c =
    let p = err_from_is_err_and c.from_residual.result c.from_residual.ensures.1 in
    let is = c.in_default.ensures in
    rw (p.1, p.2) (failed g.D.Disk g.M.Meanwhile.passes (c.args.self.now.generation ≡ 2 ^ 64 - 1) _ _ _ _ c.replace_snapshot.ensures.meanwhile is.stopped (λ e. cc, λ facts. is.worn.1 (facts.0, refl, facts.1)) _ c.in_err-replace_snapshot.ensures.writes refl)

pub returns-clause-commits : goal.returns-clause-commits
returns-clause-commits g c =
    let is = c.in_default.ensures in
    written g.D.Disk g.M.Meanwhile.passes (c.args.self.now.generation ≡ 2 ^ 64 - 1) _ _ _ _ c.replace_snapshot.ensures.meanwhile is.stopped (λ e. cc, λ facts. is.worn.1 (facts.0, refl, facts.1)) _ _ c.in_ok-replace_snapshot.ensures.writes refl
