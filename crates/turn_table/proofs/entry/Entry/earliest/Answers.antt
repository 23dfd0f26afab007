use Rattle.std.proofs.Common.{arith, subst}
use Rattle.turn_table.specs.Prelude.{IsQuiet}
use Rattle.turn_table.proofs.Ready.{min_below}
use Rattle.turn_table.proofs.entry.Entry.earliest.Goals as goal

pub returns : goal.returns
returns g c =
    let first = min_below c.self.inside.expiry c.earliest-permissions.result c.min.result c.min.ensures in
    let both = min_below c.min.result c.earliest-channels.result c.min-2.result c.min-2.ensures in
    subst (λ h. IsQuiet c.min-2.result h.entry) c.self.view_is
    (record {
      entry = omega (arith, first.0, both.0);
      permissions = λ a x is. let le = c.earliest-permissions.ensures a x is in omega (arith, le, first.1, both.0);
      channels = λ n x is. let le = c.earliest-channels.ensures n x is in omega (arith, le, both.1);
    })
