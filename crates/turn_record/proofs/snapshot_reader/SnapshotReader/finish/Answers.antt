use Rattle.turn_record.proofs.Onward.{expected_end, refused_end}
use Rattle.std.proofs.Common.{subst, sym}
use Rattle.turn_record.specs.Prelude.{IsWaiting, gives, Gives}
use Rattle.turn_record.specs.declared.version.Version.{Version}
use Rattle.turn_record.proofs.snapshot_reader.SnapshotReader.finish.Goals as goal

pub returns-in-Some-clause-gives : goal.returns-in-Some-clause-gives
returns-in-Some-clause-gives g c = λ v b fed was. refused_end v b c.args.self.refused c.in-Some.error c.args.self.restored c.args.self.held.items fed c.in-Some.is was.expects

pub returns-in-None-clause-gives : goal.returns-in-None-clause-gives
returns-in-None-clause-gives g c = λ v b fed was.
    let p = expected_end v b c.args.self.refused c.args.self.restored c.args.self.held.items fed c.in-None.is was.expects in
    let waits = subst (λ (w : Version). IsWaiting w b c.args.self.restored c.args.self.held.items) (sym was.version) p.1 in
    rw p.0 (subst (λ (w : Version). Gives (λ t. (t.moment, t.contents)) c.conclude.result (gives w b c.args.self.restored c.args.self.held.items)) was.version (c.conclude.ensures.gives b c.args.self.held.items waits))

pub returns-in-None-clause-limits : goal.returns-in-None-clause-limits
returns-in-None-clause-limits g c = λ v b fed was. c.conclude.ensures.bounds b was.under
