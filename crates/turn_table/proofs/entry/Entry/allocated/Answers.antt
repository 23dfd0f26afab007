use Rattle.std.proofs.Common.{◌+◌}
use Rattle.turn_table.proofs.entry.Entry.allocated.Goals as goal

pub returns : goal.returns
returns g c = λ j. record {
  user = c.args.user;
  port = c.args.port;
  granted = c.args.granted;
  tx = c.args.tx;
  token = c.args.token;
  expiry = c.seconds.ensures.value j + c.from.ensures j;
  permissions = c.new.ensures j;
  channels = c.new-2.ensures j;
}
