-- The acts that are decided fit the table, and are in range.
use Rattle.std.proofs.Common.{◌≡◌, ◌⊎◌, ◌≤◌, ◌+◌, arith, ℕ, Bool, false, List, is_some, refl, sym, ap, subst, Option, None, IfSome}
use Rattle.std.specs.FinMap as fin
use Rattle.std.proofs.lemmas.Bool.{false≢true}
use Rattle.turn_types.specs.Prelude.{Config}
use Rattle.turn_history.specs.Prelude.{FiveTuple, Fits, FitsChannel, FitsReservation, IsActInRange, IsLifetime, IsTokenAfter, PlainAct, Allocates, Renews, Permits, Binds, ReservedApart, ReservesNone, Contents, install}
use Rattle.turn_history.proofs.Live.{of_entry}
use Rattle.turn_history.specs.Fitting.{IsChannelNumber}
use Rattle.turn_codec.specs.Prelude.{Content, Datagram}
use Rattle.turn_cred.specs.Prelude.{Verdict}
use Rattle.turn_rules.specs.declared.outcome.Outcome.{Outcome}
use Rattle.turn_rules.specs.Prelude.{decision, outcome_of, port_needed, lifetime_of, AreReservedPorts, IsMadeOfBytes, IsPicked, NamesInRange, act_by, named_addresses}
use Rattle.turn_rules.proofs.Chosen.{next_free, of_token, port_free, port_is_port}
use Rattle.turn_rules.proofs.EachOnce.{many}
use Rattle.turn_rules.proofs.InRange.{lifetime, named_addresses_in_range, named_distinct, peer_in_range, renewed, some_named}
use Rattle.turn_rules.proofs.Reached.{IsOfUser, IsQuiet, IsReached, of_decided}
use Rattle.turn_rules.proofs.Tokens.{token_is_of}

-- a quiet outcome has no act
pub quiet_act : (user : List ℕ) (m : Content) (o : Outcome) → IsQuiet o → act_by user m o ≡ None
quiet_act user m o is = is user m

module _ (pairs : Bool) (s : Config) (c : Contents) (f : FiveTuple) (t : ℕ) (d : Datagram) (v : Option Verdict) (port : Option ℕ) where
  abbrev Holds : (PlainAct → Type 0) → Type 0
  Holds P = (is : IsOfUser pairs s c f t d v port (outcome_of pairs s c f t d v port)) (act : PlainAct) → IsReached pairs s c f t is.user d.content port act → P act

  pub decided_fits : ReservedApart c → IsPicked c (port_needed pairs s c f t d v) port → IfSome (decision pairs s c f t d v port).act (Fits s.limits c f)
  decided_fits apart picked = of_decided pairs s c f t d v port (Fits s.limits c f) fits
    where
      fits : Holds (Fits s.limits c f)
      fits is (Allocates name p seconds tx token) known = (
        known.2.absent,
        port_free is known.2 picked apart,
        known.2.room,
        of_token known.2 (FitsReservation s.limits c p)
            (λ asks. let next = next_free is known.2 picked asks in (next.is_port, next.free, next.unreserved, (known.2.next asks).room)) tt,
      )
      fits is (Renews seconds) known = ap is_some known.at
      fits is (Permits addresses) known =
          of_entry (λ x. fin.len (install 0 addresses x.permissions) ≤ s.limits.permissions) (fin.get c.entries f) known.entry known.at
          (subst (λ xs. fin.len (install 0 xs known.entry.permissions) ≤ s.limits.permissions) (sym known.named) known.within)
      fits is (Binds n p) known = of_entry (λ x. FitsChannel s.limits n p x × IsChannelNumber n) (fin.get c.entries f) known.entry known.at (known.fits, known.number)

  pub decided_in_range : IsMadeOfBytes d.content → AreReservedPorts c → IsPicked c (port_needed pairs s c f t d v) port → NamesInRange s.limits v
      → IfSome (decision pairs s c f t d v port).act (IsActInRange s.limits)
  decided_in_range bytes ports picked names = of_decided pairs s c f t d v port (IsActInRange s.limits) in_range
    where
      in_range : Holds (IsActInRange s.limits)
      in_range is (Allocates name p seconds tx token) known = rw (known.0, known.1) (
        names is.user is.key is.verdict,
        port_is_port is known.2 picked ports,
        subst IsLifetime (sym known.2.granted_is) (lifetime (lifetime_of d.content)),
        (bytes.tx_size, bytes.tx),
        of_token known.2 (λ o. IfSome o (IsTokenAfter p))
            (λ asks. let next = next_free is known.2 picked asks in (next.even, token_is_of s.secret t f d.content.tx (p + 1) next.is_port)) tt,
      )
      in_range is (Renews seconds) known = subst (λ n. (n ≡ 0) ⊎ IsLifetime n) (sym known.granted_is) (renewed (lifetime_of d.content))
      in_range is (Permits addresses) known = subst (λ xs. IsActInRange s.limits (Permits xs)) (sym known.named) (
        (some_named d.content known.present known.well_formed known.of_ipv4, omega (arith, many (named_addresses d.content) known.entry.permissions (named_distinct d.content), known.within), named_addresses_in_range d.content bytes),
        named_distinct d.content,
      )
      in_range is (Binds n p) known = (known.number, peer_in_range d.content bytes p known.peer)

-- without pairs
pub none_reserved : (s : Config) (c : Contents) (f : FiveTuple) (t : ℕ) (d : Datagram) (v : Option Verdict) (port : Option ℕ) → IfSome (decision false s c f t d v port).act ReservesNone
none_reserved s c f t d v port = of_decided false s c f t d v port ReservesNone none
  where
    none : Holds false s c f t d v port ReservesNone
    none is (Allocates name p seconds tx token) known = of_token known.2 (λ o. o ≡ None) (λ asks. absurd (false≢true (known.2.next asks).may)) refl
    none is (Renews seconds) known = tt
    none is (Permits addresses) known = tt
    none is (Binds n p) known = tt
