use Rattle.std.proofs.Common.{◌≡◌, ℕ, ap, sym, ◌∙◌}
use Rattle.std.specs.FinMap as fin
use Rattle.turn_history.proofs.Histories.{ports-apart, table-events_of}
use Rattle.turn_history.specs.Prelude.{FiveTuple, History, events_of, table}
use Rattle.turn_relay.proofs.Datagrams.{same_entry}
use Rattle.turn_relay.proofs.Holders.{same_holder}
use Rattle.turn_relay.proofs.laws.sends_by_own_events.Goals as goal

own_entry : (h g : History) (t : ℕ) (f : FiveTuple) → events_of f h ≡ events_of f g → fin.get (table h t).entries f ≡ fin.get (table g t).entries f
own_entry h g t f same = table-events_of h t f ∙ ap (λ l. fin.get (table l t).entries f) same ∙ sym (table-events_of g t f)

pub returns-clause-client : goal.returns-clause-client
returns-clause-client c h g t f bytes o same = (
  same_entry (table h t) (table g t) f bytes o (own_entry h g t f same),
  same_entry (table g t) (table h t) f bytes o (sym (own_entry h g t f same)),
)

pub returns-clause-peer : goal.returns-clause-peer
returns-clause-peer c b h g t f e peer payload o fits-h fits-g now-h now-g same here =
    let there = sym (own_entry h g t f same) ∙ here in (
      same_holder (table h t) (table g t) f e peer payload o (ports-apart b h t fits-h now-h) here there,
      same_holder (table g t) (table h t) f e peer payload o (ports-apart b g t fits-g now-g) there here,
    )
