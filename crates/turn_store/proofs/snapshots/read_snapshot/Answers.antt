use Rattle.std.proofs.Common.{◌≡◌, [], ◌+◌, ◌≤◌, ◌++◌, ◌∙◌, ℕ, length, take, drop, refl, sym, subst, arith}
use Rattle.turn_disk.specs.Prelude.{Trace}
use Rattle.turn_record.specs.Prelude.{WasFed, Fails, snapshot_in}
use Rattle.turn_store.specs.Prelude.{ReadError, AreBytes, snapshot_of}
use Rattle.turn_store.proofs.Fed.{piece_more, bytes_join, fed_snapshot, good_snapshot, bad_snapshot}
use Rattle.turn_types.specs.Prelude.{AreInRange}
use Rattle.turn_store.proofs.Staged.{read_of}
use Rattle.turn_store.proofs.snapshots.read_snapshot.Goals as goal

pub loop-done-init : goal.loop-done-init
loop-done-init g c = record {
  within = omega arith;
  size = refl;
  count = refl;
  crash_model = λ h. h;
  same = λ h. refl;
  some = ([], (λ i. omega arith), c.new-reader.ensures.fed);
  bytes = λ h i. omega arith;
  fed = λ h. c.new-reader.ensures.fed;
}

pub loop-done-preserved : goal.loop-done-preserved
loop-done-preserved g c =
    let inv = c.loop-done.invariant in
    record {
      within = omega (arith, inv.within);
      size = c.feed_piece.ensures.fed.reads.size ∙ inv.size;
      count = c.in_ok-feed_piece.ensures.fed.reads.count (λ e. cc) ∙ inv.count;
      crash_model = λ h. inv.crash_model (c.feed_piece.ensures.fed.reads.crash_model h);
      same = λ h. c.feed_piece.ensures.fed.reads.same h ∙ inv.same (c.feed_piece.ensures.fed.reads.crash_model h);
      some = c.in_ok-feed_piece.ensures.fed_some c.args.version c.args.limits inv.some.0 inv.some.1 inv.some.2;
      bytes = λ h.
          let earlier = c.feed_piece.ensures.fed.reads.crash_model h in
          let content = (g.D.Disk.trace c.args.disk.now).now.bytes in
          let size = c.min-size.result in
          let fits : c.args.at + c.loop-done.done ≤ length content = omega (arith, inv.within, c.requires.place, g.met.D.Disk.sized c.args.disk.now (inv.crash_model earlier)) in
          let piece = subst (λ (t : Trace). AreBytes (take size (drop (c.args.at + c.loop-done.done) t.now.bytes))) (inv.same earlier) (c.in_ok-feed_piece.ensures.fed.found h).0 in
          subst AreBytes (sym (piece_more c.args.at c.loop-done.done size content fits)) (bytes_join _ _ (inv.bytes earlier) piece);
      fed = λ h.
          let earlier = c.feed_piece.ensures.fed.reads.crash_model h in
          let content = (g.D.Disk.trace c.args.disk.now).now.bytes in
          let size = c.min-size.result in
          let fits : c.args.at + c.loop-done.done ≤ length content = omega (arith, inv.within, c.requires.place, g.met.D.Disk.sized c.args.disk.now (inv.crash_model earlier)) in
          let before = take c.loop-done.done (drop c.args.at content) in
          let piece = subst (λ (t : Trace). WasFed c.args.version c.args.limits c.feed_piece.new.reader (before ++ take size (drop (c.args.at + c.loop-done.done) t.now.bytes))) (inv.same earlier) ((c.in_ok-feed_piece.ensures.fed.found h).1 c.args.version c.args.limits before (inv.fed earlier)) in
          subst (WasFed c.args.version c.args.limits c.feed_piece.new.reader) (sym (piece_more c.args.at c.loop-done.done size content fits)) piece;
    }

pub returns-in-Ok-clause-read : goal.returns-in-Ok-clause-read
returns-in-Ok-clause-read g c =
    let inv = c.loop-done.invariant in
    read_of (record { size = inv.size; device = λ e. cc; count = λ none. inv.count; crash_model = inv.crash_model; same = inv.same }) (λ h.
    let content = (g.D.Disk.trace c.args.disk.now).now.bytes in
    let range : AreInRange c.args.limits = subst AreInRange c.bounds-bounds.ensures.value c.bounds-bounds.ensures.range in
    let all : c.loop-done.done ≡ c.args.count = omega (arith, inv.within, c.loop-done-test.false) in
    let fed = subst (λ (n : ℕ). WasFed c.args.version c.args.limits c.loop-done.reader (take n (drop c.args.at content))) all (inv.fed h) in
    let bytes = subst (λ (n : ℕ). AreBytes (take n (drop c.args.at content))) all (inv.bytes h) in
    let fits : c.args.at + c.args.count ≤ length content = omega (arith, c.requires.place, g.met.D.Disk.sized c.args.disk.now (inv.crash_model h)) in
    (good_snapshot c.args.version c.args.limits range c.args.at c.args.count content (snapshot_of c.in-Ok.table) fits bytes (c.in-Ok.ensures.gives c.args.version c.args.limits _ fed), tt))

pub returns-in-Err-Malformed-clause-read : goal.returns-in-Err-Malformed-clause-read
returns-in-Err-Malformed-clause-read g c =
    let inv = c.loop-done.invariant in
    read_of (record { size = inv.size; device = λ e. cc; count = λ none. inv.count; crash_model = inv.crash_model; same = inv.same }) (λ h.
    let content = (g.D.Disk.trace c.args.disk.now).now.bytes in
    let range : AreInRange c.args.limits = subst AreInRange c.bounds-bounds.ensures.value c.bounds-bounds.ensures.range in
    let all : c.loop-done.done ≡ c.args.count = omega (arith, inv.within, c.loop-done-test.false) in
    let fed = subst (λ (n : ℕ). WasFed c.args.version c.args.limits c.loop-done.reader (take n (drop c.args.at content))) all (inv.fed h) in
    let fits : c.args.at + c.args.count ≤ length content = omega (arith, c.requires.place, g.met.D.Disk.sized c.args.disk.now (inv.crash_model h)) in
    let fails = subst (λ (e : ReadError). Fails e (snapshot_in c.args.version c.args.limits (take c.args.count (drop c.args.at content)))) c.in-Err-Malformed.field-0-is (c.in-Err-Malformed.ensures.gives c.args.version c.args.limits _ fed) in
    (tt, (refl, bad_snapshot c.args.version c.args.limits range c.args.at c.args.count content _ fits fails)))

pub returns-in-Ok-clause-table : goal.returns-in-Ok-clause-table
returns-in-Ok-clause-table g c =
    let some = c.loop-done.invariant.some in
    let range : AreInRange c.args.limits = subst AreInRange c.bounds-bounds.ensures.value c.bounds-bounds.ensures.range in
    (c.in-Ok.ensures.limits c.args.version c.args.limits some.0 some.2, (fed_snapshot c.args.version c.args.limits range some.0 some.1 (snapshot_of c.in-Ok.table) (c.in-Ok.ensures.gives c.args.version c.args.limits some.0 some.2)).holds)
