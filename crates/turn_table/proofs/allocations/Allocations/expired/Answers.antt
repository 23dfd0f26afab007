use Rattle.std.proofs.Common.{◌≤◌, ◌<◌, length, ap, sym, ◌∙◌, subst, Some, IsSomeAnd, nat_le}
use Rattle.std.specs.FinMap as fin
use Rattle.std.specs.List.{position_from}
use Rattle.turn_table.proofs.Changing.{get-view}
use Rattle.turn_table.proofs.Options.{is_some_none, match_none}
use Rattle.turn_table.proofs.Places.{none_past, past, within}
use Rattle.turn_table.proofs.allocations.Allocations.expired.Goals as goal

pub returns-in_err-place : goal.returns-in_err-place
returns-in_err-place g c =
    match_none _ _ c.from_residual.result c.from_residual.ensures (λ f h is.
    none_past c.args.seconds c.self.inside.entries.entries
    (sym c.in_err-place.was ∙ c.expired_entry_of.ensures ∙ ap (position_from (λ h. nat_le h.entry.expiry c.args.seconds) 0) (c.as_slice.ensures ∙ c.values.ensures.rest))
    f h (ap (λ l. fin.get l.held f) c.self.view_is ∙ is))

pub returns-in_err-tuple : goal.returns-in_err-tuple
returns-in_err-tuple g c =
    let place : c.in_ok-place.place < length c.self.inside.entries.entries =
    within c.args.seconds c.self.inside.entries.entries c.in_ok-place.place
    (sym c.in_ok-place.was ∙ c.expired_entry_of.ensures ∙ ap (position_from (λ h. nat_le h.entry.expiry c.args.seconds) 0) (c.as_slice.ensures ∙ c.values.ensures.rest)) in
    absurd (is_some_none (c.get_index.ensures.found.1 place) c.in_err-tuple.was)

pub returns : goal.returns
returns g c =
    subst (λ o. IsSomeAnd o (λ h. h.entry.expiry ≤ c.args.seconds)) (sym (get-view c.self.inside.entries.entries c.args.self.now.held (ap (λ l. l.held) c.self.view_is) c.in_ok-tuple.tuple.now (Some c.in_ok-tuple.field-0-1.now) c.in_ok-tuple.ensures.value))
    (past c.args.seconds c.self.inside.entries.entries c.in_ok-place.place
    (sym c.in_ok-place.was ∙ c.expired_entry_of.ensures ∙ ap (position_from (λ h. nat_le h.entry.expiry c.args.seconds) 0) (c.as_slice.ensures ∙ c.values.ensures.rest))
    (c.in_ok-tuple.tuple.now, c.in_ok-tuple.field-0-1.now) (sym c.in_ok-tuple.ensures.entry))
