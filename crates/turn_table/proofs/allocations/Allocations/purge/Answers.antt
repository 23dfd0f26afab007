use Rattle.std.proofs.Common.{ap, ◌∙◌, option_map}
use Rattle.std.specs.FinMap as fin
use Rattle.turn_table.specs.Prelude.{still_entry, entries_of}
use Rattle.turn_table.proofs.Changing.{lists_purged}
use Rattle.turn_table.proofs.Purged.{get-purged_entries}
use Rattle.turn_table.proofs.allocations.Allocations.purge.Goals as goal

pub invariant_of-self : goal.invariant_of-self
invariant_of-self g c = lists_purged c.args.moment c.self.inside.entries.entries c.purge_entries.new.entries.entries c.purge_entries.ensures c.self.inside.users.0 c.self.invariant

pub returns : goal.returns
returns g c f =
    get-purged_entries c.args.moment c.self.inside.entries.entries c.purge_entries.new.entries.entries c.purge_entries.ensures f
    ∙ ap (λ l. option_map (still_entry c.args.moment) (fin.get (entries_of l.held) f)) c.self.view_is
