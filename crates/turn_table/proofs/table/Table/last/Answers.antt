use Rattle.std.proofs.Common.{◌-◌, ap, ◌∙◌, ℕ, List, length, slice_get, option_map}
use Rattle.std.specs.FinMap as fin
use Rattle.turn_types.specs.declared.address.FiveTuple.{FiveTuple}
use Rattle.turn_table.proofs.States.{last-placed}
use Rattle.turn_table.proofs.table.Table.last.Goals as goal

pub returns-in-Some : goal.returns-in-Some
returns-in-Some g c =
    ap (option_map (λ (p : FiveTuple × ℕ). p.0)) c.in-Some.ensures.value
    ∙ ap (λ (xs : List (FiveTuple × ℕ)). option_map (λ p. p.0) (slice_get xs (length xs - 1))) c.order.ensures
    ∙ last-placed c.self.inside.allocations.held
    ∙ ap (λ s. option_map (λ p. p.0) (slice_get (fin.entries s.contents.entries) (length (fin.entries s.contents.entries) - 1))) c.self.view_is

pub returns-in-None : goal.returns-in-None
returns-in-None g c =
    ap (option_map (λ (p : FiveTuple × ℕ). p.0)) c.in-None.ensures.value
    ∙ ap (λ (xs : List (FiveTuple × ℕ)). option_map (λ p. p.0) (slice_get xs (length xs - 1))) c.order.ensures
    ∙ last-placed c.self.inside.allocations.held
    ∙ ap (λ s. option_map (λ p. p.0) (slice_get (fin.entries s.contents.entries) (length (fin.entries s.contents.entries) - 1))) c.self.view_is
