use Rattle.std.proofs.Common.{ap, ◌∙◌, subst}
use Rattle.std.specs.FinMap as fin
use Rattle.std.specs.List.{AllByRecursion}
use Rattle.turn_table.specs.Prelude.{IsQuiet}
use Rattle.turn_table.proofs.Places.{all_in}
use Rattle.turn_table.proofs.allocations.Allocations.quiet_until.Goals as goal

pub returns : goal.returns
returns g c f h is =
    all_in (λ k. IsQuiet c.earliest_of.result k.entry) c.self.inside.entries.entries
    (subst (AllByRecursion (λ k. IsQuiet c.earliest_of.result k.entry)) (c.as_slice.ensures ∙ c.values.ensures.rest) c.earliest_of.ensures)
    f h (ap (λ l. fin.get l.held f) c.self.view_is ∙ is)
