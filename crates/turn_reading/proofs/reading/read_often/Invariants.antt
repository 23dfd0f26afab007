use Rattle.std.proofs.Common.{◌≡◌, ℕ, IfSome}
use Rattle.turn_history.specs.Prelude.{History}
use Rattle.turn_reading.specs.Readings.{IsUnder, IsUnread, WhyUnread}
use Rattle.turn_reading.proofs.reading.read_often.Given as goal
use Rattle.turn_store.specs.Prelude.{Form, RepresentsAt}

abbrev pub invariant-loop : goal.invariant-loop
invariant-loop g l = record {
  crash_model : g.D.Disk.follows_crash_model l.disk → g.D.Disk.follows_crash_model l.initial.disk;
  same : g.D.Disk.follows_crash_model l.disk → (g.D.Disk.trace l.disk).now.bytes ≡ (g.D.Disk.trace l.initial.disk).now.bytes;
  why : g.D.Disk.follows_crash_model l.disk → IfSome l.last (WhyUnread l.limits (g.D.Disk.trace l.initial.disk).now.bytes);
  unread : g.D.Disk.follows_crash_model l.disk → (form : Form) (h : History) (clock : ℕ) → IsUnder l.limits form.bounds
      → RepresentsAt form h clock (g.D.Disk.trace l.initial.disk).now.bytes → IfSome l.last IsUnread;
}
