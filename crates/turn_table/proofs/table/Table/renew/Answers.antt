use Rattle.std.proofs.Common.{ap, option_map}
use Rattle.std.specs.FinMap as fin
use Rattle.turn_history.specs.Prelude.{renewed}
use Rattle.turn_table.specs.Prelude.{room_of}
use Rattle.turn_table.proofs.Options.{some_is}
use Rattle.turn_table.proofs.Ready.{holds_of, min_below, quiet_renewed, ready_changed}
use Rattle.turn_table.proofs.States.{changed-is, there_of}
use Rattle.turn_table.proofs.table.Table.renew.Goals as goal

pub returns : goal.returns
returns g c =
    changed-is c.self.inside.limits c.self.inside.moment c.self.inside.allocations.held (option_map room_of c.self.inside.room) c.args.self.now c.self.view_is
    c.renew.new.self.held c.args.tuple (renewed c.args.expiry) c.renew.ensures

pub invariant_of-self : goal.invariant_of-self
invariant_of-self g c =
    let least = min_below c.self.inside.quiet_until c.args.expiry c.min-self-inside.result c.min-self-inside.ensures in
    ready_changed _ _ c.args.self.now c.self.invariant.range (holds_of c.self.view_is c.self.invariant) least.0 c.args.tuple (renewed c.args.expiry)
    (λ e quiet. quiet_renewed _ _ e least.0 quiet c.args.expiry least.1) c.requires (returns g c)

pub renew-requires : goal.renew-requires
renew-requires g c = there_of c.self.inside.allocations.held c.args.self.now.contents (ap (λ s. s.contents) c.self.view_is) c.args.tuple (some_is _ (fin.get c.args.self.now.contents.entries c.args.tuple) c.requires)
