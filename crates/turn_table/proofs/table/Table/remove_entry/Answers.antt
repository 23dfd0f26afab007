use Rattle.std.proofs.Common.{◌≡◌, ap, sym, ◌∙◌, is_some, option_map, subst, IsSomeAnd}
use Rattle.std.specs.FinMap as fin
use Rattle.turn_history.proofs.TableAt.{at-removed}
use Rattle.turn_table.specs.Prelude.{room_of}
use Rattle.turn_table.proofs.Options.{is_some_then, mapped_then}
use Rattle.turn_table.proofs.Ready.{at_of, holds_of, holds_removed, ready_of}
use Rattle.turn_table.proofs.States.{entry_of, there_of, without_entry-is}
use Rattle.turn_table.proofs.table.Table.remove_entry.Goals as goal

pub unwrap-requires : goal.unwrap-requires
unwrap-requires g c =
    is_some_then _ (there_of c.self.inside.allocations.held c.args.self.now.contents (ap (λ s. s.contents) c.self.view_is) c.args.tuple c.requires)
    (λ h at. ap is_some (c.remove.ensures.port ∙ ap (option_map (λ h. h.entry.port)) at))

pub returns-clause-state : goal.returns-clause-state
returns-clause-state g c =
    without_entry-is c.self.inside.limits c.self.inside.moment c.self.inside.allocations.held (option_map room_of c.self.inside.room) c.args.self.now c.self.view_is
    c.remove.new.self.held c.args.tuple c.remove.ensures.held

pub invariant_of-self : goal.invariant_of-self
invariant_of-self g c =
    ready_of (returns-clause-state g c) c.self.invariant.range (at-removed _ _ c.args.self.now.contents (at_of c.self.view_is c.self.invariant) c.args.tuple)
    (holds_removed (holds_of c.self.view_is c.self.invariant) c.args.tuple)

pub returns-clause-port : goal.returns-clause-port
returns-clause-port g c =
    mapped_then (λ h. h.entry.port) (fin.get c.self.inside.allocations.held c.args.tuple) c.unwrap.result (sym (sym c.unwrap.ensures ∙ c.remove.ensures.port)) (λ h at is.
    subst (λ o. IsSomeAnd o (λ e. e.port ≡ c.unwrap.result)) (sym (entry_of c.self.inside.allocations.held c.args.self.now.contents (ap (λ s. s.contents) c.self.view_is) c.args.tuple h at)) is)
