use Rattle.std.proofs.Common.{length, ap, arith, Option}
use Rattle.std.specs.FinMap.{len-entries}
use Rattle.turn_record.specs.Prelude.{mark}
use Rattle.turn_record.proofs.SnapshotSizes.{size_entry}
use Rattle.turn_record.proofs.snapshot_writer.entry_size.Goals as goal
use Rattle.turn_types.specs.declared.message.Token.{Token}

pub returns-clause-size : goal.returns-clause-size
returns-clause-size g c = λ f.
    let e = c.args.kept.now.entry in
    let token = ap (λ (o : Option Token). length (mark c.args.version o)) c.token.ensures in
    omega (arith, size_entry c.args.version f e c.requires.tx, token, c.mark_size-mark.ensures.size, ap length c.user.ensures, ap length c.permissions.ensures, len-entries e.permissions, ap length c.channels.ensures, len-entries e.channels)

pub returns-clause-small : goal.returns-clause-small
returns-clause-small g c =
    let e = c.args.kept.now.entry in
    omega (arith, c.requires.user, c.requires.permissions, c.requires.channels, c.mark_size-mark.ensures.small, ap length c.user.ensures, ap length c.permissions.ensures, len-entries e.permissions, ap length c.channels.ensures, len-entries e.channels)
