use Rattle.std.proofs.Common.{◌∙◌, ap, sym, subst}
use Rattle.turn_disk.specs.Prelude.{Trace}
use Rattle.turn_reading.specs.Readings.{IsUnread, WhyUnread}
use Rattle.turn_reading.proofs.Told.{form_is_under, read_under, unread_limits, unread_open, why_limits, why_open}
use Rattle.turn_reading.proofs.reading.try_once.Goals as goal
use Rattle.turn_store.specs.Prelude.{RepresentsAt, WhyRefused}

pub returns-in-Err : goal.returns-in-Err
returns-in-Err g c = record {
  crash_model = c.in-Err.ensures.crash_model;
  same = λ crash_model. ap (λ (t : Trace). t.now.bytes) (c.in-Err.ensures.same crash_model);
  read = λ crash_model. tt;
  why = λ crash_model. subst (WhyUnread _ _) (sym c.from.ensures) (why_limits _ _ c.in-Err.refused (c.in-Err.ensures.none crash_model));
  tells = λ crash_model form h clock is stands. subst IsUnread (sym c.from.ensures) (unread_limits form h clock _ stands c.in-Err.refused (c.in-Err.ensures.none crash_model));
}

pub returns-in-Ok-outcome : goal.returns-in-Ok-outcome
returns-in-Ok-outcome g c =
    let found = c.in-Ok.ensures in
    let once = c.read_once-disk.ensures in
    record {
      crash_model = λ now. found.crash_model (once.crash_model now);
      same = λ now. once.same now ∙ ap (λ (t : Trace). t.now.bytes) (found.same (once.crash_model now));
      read = λ now. read_under _ c.in-Ok.under _ _ _ found.given (ap (λ (t : Trace). t.now.bytes) (found.same (once.crash_model now))) (rw c.in-Ok-outcome.is at (once.read now));
      why = λ now. tt;
      tells = λ now form h clock is stands.
          let before = once.crash_model now in
          let limits = form_is_under _ form h clock _ c.in-Ok.under found.given (found.own before) is stands in
          let still = subst (λ (t : Trace). RepresentsAt form h clock t.now.bytes) (sym (found.same before)) stands in
          rw c.in-Ok-outcome.is at (once.tells now form h clock limits still);
    }

pub returns-in-Err-outcome : goal.returns-in-Err-outcome
returns-in-Err-outcome g c =
    let found = c.in-Ok.ensures in
    let once = c.read_once-disk.ensures in
    record {
      crash_model = λ now. found.crash_model (once.crash_model now);
      same = λ now. once.same now ∙ ap (λ (t : Trace). t.now.bytes) (found.same (once.crash_model now));
      read = λ now. tt;
      why = λ now.
          let why = subst (λ (t : Trace). WhyRefused c.in-Ok.under t.now.bytes c.in-Err-outcome.fault) (found.same (once.crash_model now)) (rw c.in-Err-outcome.is at (once.why now)) in
          subst (WhyUnread _ _) (sym c.fault_of.ensures) (why_open _ c.in-Ok.under _ c.in-Err-outcome.fault found.given why);
      tells = λ now form h clock is stands.
          let before = once.crash_model now in
          let limits = form_is_under _ form h clock _ c.in-Ok.under found.given (found.own before) is stands in
          let still = subst (λ (t : Trace). RepresentsAt form h clock t.now.bytes) (sym (found.same before)) stands in
          subst IsUnread (sym c.fault_of.ensures) (unread_open _ c.in-Err-outcome.fault (rw c.in-Err-outcome.is at (once.tells now form h clock limits still)));
    }
