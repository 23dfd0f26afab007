use Rattle.turn_record.proofs.Onward.{fed_more, refused_now, refused_still, still_under}
use Rattle.turn_record.proofs.snapshot_reader.SnapshotReader.feed.Goals as goal

pub returns-in-Some-clause-fed : goal.returns-in-Some-clause-fed
returns-in-Some-clause-fed g c = λ v b fed was. record { version = was.version; limits = was.limits; under = was.under; expects = refused_still v b _ c.in-Some.error _ _ fed c.args.piece.now c.in-Some.is was.expects }

pub returns-in-Ok-clause-fed : goal.returns-in-Ok-clause-fed
returns-in-Ok-clause-fed g c = λ v b fed was. record {
  version = was.version;
  limits = was.limits;
  under = still_under b c.args.self.now.limits c.args.self.now.restored c.take-restored.result c.in-Ok.restored was.limits c.take-restored.ensures.value was.under c.in-Ok.ensures.bounds;
  expects = fed_more v c.args.self.now.version b c.args.self.now.limits c.args.self.now.refused c.args.self.now.restored c.in-Ok.restored c.args.self.now.held.items c.step.new.held.items fed c.args.piece.now
      was.version was.limits c.in_default.is was.expects (λ more. rw c.take-restored.ensures.value at (c.in-Ok.ensures.goes more)) c.in-Ok.ensures.waits;
}

pub returns-in-Err-clause-fed : goal.returns-in-Err-clause-fed
returns-in-Err-clause-fed g c = λ v b fed was. record {
  version = was.version;
  limits = was.limits;
  under = rw c.take-restored.ensures.after tt;
  expects = refused_now v c.args.self.now.version b c.args.self.now.limits c.args.self.now.refused c.in-Err.error c.args.self.now.restored c.take-restored.new.self c.args.self.now.held.items c.step.new.held.items fed c.args.piece.now
      was.version was.limits c.in_default.is was.expects (λ more. rw c.take-restored.ensures.value at (c.in-Err.ensures.goes more));
}
