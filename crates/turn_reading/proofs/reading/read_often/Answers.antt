use Rattle.std.proofs.Common.{◌∙◌, List, ℕ, sym, subst}
use Rattle.turn_reading.specs.Readings.{IsUnread, WhyUnread}
use Rattle.turn_reading.proofs.Told.{reads_after, unread_joined, unread_last, why_joined, why_last}
use Rattle.turn_reading.proofs.reading.read_often.Goals as goal
use Rattle.turn_store.specs.Prelude.{RepresentsAt}

pub returns-in-Ok : goal.returns-in-Ok
returns-in-Ok g c = let before = c.loop.invariant in reads_after before.crash_model before.same (rw c.in-Ok.is at c.read_steadily-again.ensures)

pub returns-in-Err : goal.returns-in-Err
returns-in-Err g c = let before = c.loop.invariant in reads_after before.crash_model before.same (rw c.in-Err.is at c.read_steadily-again.ensures)

pub loop-preserved : goal.loop-preserved
loop-preserved g c =
    let tried = c.read_steadily-again.ensures in
    record {
      crash_model = λ now. c.loop.invariant.crash_model (tried.crash_model now);
      same = λ now. tried.same now ∙ c.loop.invariant.same (tried.crash_model now);
      why = λ crash_model.
          let why = rw c.in-Err-2.is at (tried.why crash_model) in
          let same = subst (λ (content : List ℕ). WhyUnread c.args.limits.now content c.in-Err-2.fault) (c.loop.invariant.same (tried.crash_model crash_model)) why in
          why_joined _ _ c.in-Err-2.fault c.joined.result c.joined.ensures.either same;
      unread = λ crash_model form h clock is stands.
          let still = subst (RepresentsAt form h clock) (sym (c.loop.invariant.same (tried.crash_model crash_model))) stands in
          let unread = rw c.in-Err-2.is at (tried.tells crash_model form h clock is still) in
          unread_joined c.in-Err-2.fault c.joined.result c.joined.ensures.either unread;
    }

pub returns : goal.returns
returns g c =
    let tried = c.loop.invariant in
    record {
      crash_model = tried.crash_model;
      same = tried.same;
      read = λ crash_model. tt;
      why = λ crash_model. subst (WhyUnread _ _) (sym c.unwrap_or.ensures) (why_last _ _ _ (tried.why crash_model));
      tells = λ crash_model form h clock is stands. subst IsUnread (sym c.unwrap_or.ensures) (unread_last _ (tried.unread crash_model form h clock is stands));
    }
