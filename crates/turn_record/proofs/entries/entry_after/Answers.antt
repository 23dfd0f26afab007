use Rattle.std.proofs.Common.{◌≡◌, Ok, arith, rules}
use Rattle.std.specs.FinMap as fin
use Rattle.turn_record.specs.Prelude.{entry_at}
use Rattle.turn_record.proofs.Tables.{entry_read}
use Rattle.turn_record.proofs.entries.entry_after.Goals as goal

pub returns-clause-entry : goal.returns-clause-entry
unfolding entry_at
returns-clause-entry g c =
    let s = c.args.table.now in
    let before = fin.entries s.contents.entries in
    let is : entry_at c.args.version s.bounds s.moment before c.args.bytes.now ≡ Ok ((c.in_ok-tuple.tuple, c.new-entry.result.entry), c.in_ok-channels.rest.now) = search rules in
    entry_read c.args.version s.bounds c.limits.ensures.range s.moment c.moment.ensures.at.moment before c.args.bytes.now (λ i. omega (arith, c.type_inv.bytes i)) _ _ is
