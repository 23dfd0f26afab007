-- Which requests' answers depend on the table, and what is answered to the others.
use Rattle.std.specs.Prelude.{◌≡◌, ℕ, not, ◌&&◌, Bool, false, true, Option, Some, None, option_map, List}
use Rattle.turn_types.specs.Prelude.{Config}
use Rattle.turn_history.specs.Prelude.{Contents, FiveTuple}
use Rattle.turn_codec.specs.Prelude.{Datagram, has_unknown}
use Rattle.turn_cred.specs.Prelude.{Verdict, Bad400, Stale438, Passed}
use Rattle.turn_cred.specs.Credential.Verdict.{Challenge401}
use Rattle.turn_rules.specs.declared.outcome.Outcome.{Outcome}
use Rattle.turn_rules.specs.declared.tableless.Tableless.{Tableless}
use Rattle.turn_rules.specs.declared.tableless.Tableless.TheVariants as replies
use Rattle.turn_rules.specs.declared.tableless.TablelessOutcome.{TablelessOutcome}
use Rattle.turn_rules.specs.declared.tableless.TablelessOutcome.TheVariants as outcomes
use Rattle.turn_rules.specs.Answer.{Decided, is_dropped, is_protected, outcome_of, port_needed}
use Rattle.turn_rules.specs.Outcome.{act_by}

-- the credentials were checked and hold
abbrev pub is_passed : Option Verdict → Bool
is_passed None = false
is_passed (Some Challenge401) = false
is_passed (Some Bad400) = false
is_passed (Some Stale438) = false
is_passed (Some (Passed user key)) = true

-- The answer to a datagram may depend on the table: it isn't dropped, its method is one of the four that ask for
-- credentials, these hold, and no unknown type is seen. All others are answered alike over every table.
abbrev pub depends_on_table : Datagram → Option Verdict → Bool
depends_on_table d v = not (is_dropped d) && (is_protected d.content.method && (is_passed v && not (has_unknown d.content)))

-- a datagram has this outcome whatever the table has, needs no port, and does nothing
pub record HasOutcome (d : Datagram) (v : Option Verdict) (o : Outcome) : Type 0 where
  pub same : (pairs : Bool) (s : Config) (c : Contents) (f : FiveTuple) (t : ℕ) (port : Option ℕ) → outcome_of pairs s c f t d v port ≡ o
  pub no_port : (pairs : Bool) (s : Config) (c : Contents) (f : FiveTuple) (t : ℕ) → port_needed pairs s c f t d v ≡ None
  pub no_act : (user : List ℕ) → act_by user d.content o ≡ None

-- what is known of a datagram's outcome without a table: the outcome, or that it may depend on the table, and the user whose
-- credentials hold
abbrev pub IsOutcome : Datagram → Option Verdict → TablelessOutcome → Type 0
IsOutcome d v (outcomes.Depends user key) = (depends_on_table d v ≡ true) × (v ≡ Some (Passed user.now key))
IsOutcome d v (outcomes.Same o) = (depends_on_table d v ≡ false) × HasOutcome d v o

-- what is decided without a table, if the answer doesn't depend on it: a reply, if any, and no act
abbrev pub tableless_decision : {A : Type 0} → Tableless A → Option Decided
tableless_decision replies.Depends = None
tableless_decision (replies.Reply bytes) = Some (record { reply = option_map (λ v. v.items) bytes; act = None })
