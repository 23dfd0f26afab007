use Rattle.std.proofs.Common.{ap, ◌∙◌, count_by, bytes_eq}
use Rattle.std.specs.FinMap as fin
use Rattle.turn_table.specs.Prelude.{entries_of}
use Rattle.turn_table.proofs.Changing.{users_counted}
use Rattle.turn_table.proofs.allocations.Allocations.count_of_user.Goals as goal

pub returns : goal.returns
returns g c =
    c.count_of.ensures
    ∙ users_counted c.self.inside.entries.entries c.self.inside.users.0 c.self.invariant.1 c.args.user.now
    ∙ ap (λ l. count_by (λ p. bytes_eq p.1.user c.args.user.now) (fin.entries (entries_of l.held))) c.self.view_is
