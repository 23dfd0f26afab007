-- A server without pairs answers an Allocate by the rows of one that reserves no ports.
use Rattle.std.proofs.Common.{◌≡◌, ℕ, Bool, false, is_some, List, refl, sym, ap, ◌∙◌, Option, Some, None, if◌then◌else◌}
use Rattle.std.specs.FinMap as fin
use Rattle.std.specs.Option.{option_or}
use Rattle.std.proofs.Math.Bool.{and-true}
use Rattle.turn_types.specs.Prelude.{Config, first_row}
use Rattle.turn_history.specs.Prelude.{FiveTuple, Contents, Entry}
use Rattle.turn_codec.specs.Prelude.{even_port, reservation_token, Content, is_seen}
use Rattle.turn_rules.specs.declared.need.Need.TheVariants.{Any, Even}
use Rattle.turn_rules.specs.declared.outcome.Outcome.{Outcome}
use Rattle.turn_rules.specs.Prelude.{asks_for_next_port, before_port, capacity_outcome, named_port, needed_for, own_outcome, port_for, token_of, with_port, IsPlain, plain_before_port, plain_capacity_rows, plain_rows, plain_with_port}
use Rattle.turn_rules.proofs.Chosen.{none_named}
use Rattle.turn_rules.proofs.Reached.{IsUndecided, QuietOr, own_is}

module _ (s : Config) (c : Contents) (f : FiveTuple) (t : ℕ) (user : List ℕ) (m : Content) where
  abbrev valid : Bool
  valid = is_some (named_port c m)

  abbrev entry : Option Entry
  entry = fin.get c.entries f

  abbrev own : Option Outcome
  own = own_outcome false valid entry user m

  own_plain : own ≡ first_row (plain_rows entry user m) None
  unfolding own_outcome
  own_plain = rw (and-true (is_seen m reservation_token), and-true (asks_for_next_port m)) refl

  -- where no row of its own applies, the request names no port by a token and asks for no next port
  module _ (undecided : IsUndecided false valid entry m) where
    no_next : asks_for_next_port m ≡ false
    no_next = sym (and-true (asks_for_next_port m)) ∙ undecided.may_pair

    unnamed : named_port c m ≡ None
    unnamed = none_named c m (sym (and-true (is_seen m reservation_token)) ∙ undecided.may_name)

    capacity_plain : capacity_outcome s c user m ≡ first_row (plain_capacity_rows s c user) None
    capacity_plain = rw no_next refl

    port_plain : (picked : Option ℕ) → with_port s f t m (port_for c m picked) ≡ plain_with_port m picked
    unfolding token_of
    port_plain None = rw unnamed refl
    port_plain (Some port) = rw (unnamed, no_next) refl

    need_plain : needed_for c m ≡ Some (if is_seen m even_port then Even else Any)
    need_plain = rw (unnamed, no_next) refl

  module _ (x : Option Outcome) (is : own ≡ x) where
    before_by : before_port false s c f user m ≡ option_or x (capacity_outcome s c user m)
    unfolding before_port
    before_by = ap (λ o. option_or o (capacity_outcome s c user m)) is

    plain_by : plain_before_port s c f user m ≡ option_or x (first_row (plain_capacity_rows s c user) None)
    plain_by = ap (λ o. option_or o (first_row (plain_capacity_rows s c user) None)) (sym own_plain ∙ is)

  pub is_plain : IsPlain s c f t user m
  is_plain = by_own own refl (own_is false valid entry user m)
    where
      by_own : (x : Option Outcome) → own ≡ x → QuietOr (IsUndecided false valid entry m) x → IsPlain s c f t user m
      by_own (Some o) is quiet = record {
        outcome = λ picked. rw (before_by (Some o) is, plain_by (Some o) is) refl;
        needed = rw (before_by (Some o) is, plain_by (Some o) is) refl;
      }
      by_own None is undecided =
          let before : before_port false s c f user m ≡ plain_before_port s c f user m = before_by None is ∙ capacity_plain undecided ∙ sym (plain_by None is) in
          record { outcome = λ picked. rw (before, port_plain undecided picked) refl; needed = rw (before, need_plain undecided) refl }
