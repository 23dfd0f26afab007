use Rattle.std.specs.FinMap as fin
use Rattle.turn_table.proofs.entry.Entry.new.Goals as goal

pub returns : goal.returns
returns g c = λ j. record {
  user = c.args.parts.user;
  port = c.args.parts.port;
  granted = c.args.parts.granted;
  tx = c.args.parts.tx;
  token = c.args.parts.token;
  expiry = c.args.parts.expiry;
  permissions = fin.from_sorted (c.from_sorted.ensures j);
  channels = fin.from_sorted (c.from_sorted-2.ensures j);
}
