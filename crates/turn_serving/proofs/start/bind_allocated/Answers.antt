use Rattle.std.proofs.Common.{◌==◌, ℕ, List, subst}
use Rattle.std.specs.FinMap as fin
use Rattle.turn_history.specs.Prelude.{Entry, FiveTuple}
use Rattle.turn_serving.proofs.Held.{IsBinding, bound_all, bound_one_more}
use Rattle.turn_serving.specs.Starts.{AreBoundToo}
use Rattle.turn_serving.proofs.start.bind_allocated.Goals as goal

pub loop-entry-preserved : goal.loop-entry-preserved
loop-entry-preserved g c =
    let all = fin.entries c.args.table.now.contents.entries in
    let old = c.args.sockets.now.sockets in
    let mid = c.loop-entry.sockets.sockets in
    let new = c.bind.new.sockets.sockets in
    let left = subst (λ (l : List (FiveTuple × Entry)). IsBinding (λ p. p.1.port) old mid l all) c.in-Some.ensures.steps c.loop-entry.invariant.binding in
    let bound = subst (λ (n : ℕ). AreBoundToo mid new (λ p. n == p)) c.port.ensures c.in_ok-bind.ensures.bound in
    record {
      can_next = search;
      is_finite = search;
      ip = search;
      first = search;
      last = search;
      draws = search;
      binding = bound_one_more (λ p. p.1.port) old mid new (c.in-Some.field-0-0, c.in-Some.entry.now.entry) c.next.new.self all left bound;
    }

pub returns-clause-bound : goal.returns-clause-bound
returns-clause-bound g c =
    bound_all (λ p. p.1.port) c.args.sockets.now.sockets c.loop-entry.sockets.sockets c.loop-entry.entry-iterator (fin.entries c.args.table.now.contents.entries)
    c.in-None.ensures.steps.0 c.loop-entry.invariant.binding
