-- What is decided takes what was picked.
use Rattle.std.proofs.Common.{◌≡◌, ℕ, ◌+◌, Bool, true, false, ◌||◌, ◌&&◌, is_some, List, refl, sym, ap, ◌∙◌, Option, Some, None, inl, inr, ◌==◌, if◌then◌else◌, unwrap_or, IfSome}
use Rattle.std.proofs.Math.Bool.{or-false, or-true}
use Rattle.std.proofs.lemmas.Bool.{cases_Bool, eqb-true}
use Rattle.std.proofs.lemmas.Option.{none-some}
use Rattle.std.specs.Option.{option_or}
use Rattle.turn_types.specs.Prelude.{Config}
use Rattle.turn_history.specs.Prelude.{FiveTuple, has_port, is_taken, PlainAct, Allocates, Renews, Permits, Binds, Contents}
use Rattle.turn_codec.specs.Prelude.{even_port, Content, Datagram, is_seen}
use Rattle.turn_cred.specs.Prelude.{Verdict}
use Rattle.turn_rules.specs.declared.need.Need.{Need}
use Rattle.turn_rules.specs.declared.need.Need.TheVariants.{Any, Even, Pair}
use Rattle.turn_rules.specs.Prelude.{asks_for_next_port, named_port, need_of, port_for, token_of, with_port, decision, outcome_of, port_needed, user_of, act_by, is_picked, picks, takes, takes_if_any, token_for}
use Rattle.turn_rules.proofs.Chosen.{IsNeeded, by_choice, named_is_reserved, needed_of, not_named, of_token}
use Rattle.turn_rules.proofs.Reached.{IsOfUser, IsReached, of_decided}
use Rattle.turn_rules.proofs.Repeats.{outcome_is}

-- a port that a token names is taken already
named_is_taken : (c : Contents) (m : Content) (p q : ℕ) → named_port c m ≡ Some p → (q == p) || is_taken c q ≡ is_taken c q
named_is_taken c m p q named =
    let taken : is_taken c p ≡ true = ap (λ o. has_port c p || is_some o) (named_is_reserved c m p named).1 ∙ or-true (has_port c p) in
    elim (cases_Bool (q == p)) [
      | inl is ↦ rw (eqb-true q p is, taken) (or-true (p == p))
      | inr is ↦ rw is refl
    ]

-- ---- Where a port is needed

pick_is : (s : Config) (f : FiveTuple) (t : ℕ) (m : Content) (user : List ℕ) (port : Option ℕ) (q : ℕ) → takes_if_any (act_by user m (with_port s f t m port)) q ≡ is_picked (Some (need_of m)) port q
unfolding token_of
pick_is s f t m user None q = refl
pick_is s f t m user (Some p) q = by_tests (asks_for_next_port m) (is_seen m even_port)
  where
    by_tests : (a e : Bool) → (q == p) || (is_some (if a then Some (token_for s.secret t f m.tx (p + 1)) else None) && (q == p + 1)) ≡ picks (if a then Pair else if e then Even else Any) p q
    by_tests true e = refl
    by_tests false true = or-false (q == p)
    by_tests false false = or-false (q == p)

module _ (pairs : Bool) (s : Config) (c : Contents) (f : FiveTuple) (t : ℕ) (d : Datagram) (v : Option Verdict) (need : Need) (is : IsNeeded pairs s c f t d v need) where
  -- the act is that of the port that was picked
  needed_act : (port : Option ℕ) → (decision pairs s c f t d v port).act ≡ act_by is.user d.content (with_port s f t d.content port)
  unfolding decision
  needed_act port =
      ap (λ w. act_by (user_of w) d.content (outcome_of pairs s c f t d w port)) is.verdict
      ∙ ap (act_by is.user d.content) (
      outcome_is pairs s c f t d is.user is.key port is.in_time is.taken is.method
      ∙ ap (λ o. unwrap_or o (with_port s f t d.content (port_for c d.content port))) is.undecided
      ∙ ap (λ o. with_port s f t d.content (option_or o port)) is.named)

  needed_takes : (port : Option ℕ) (q : ℕ) → takes_if_any (decision pairs s c f t d v port).act q ≡ is_picked (Some need) port q
  needed_takes port q = ap (λ a. takes_if_any a q) (needed_act port) ∙ pick_is s f t d.content is.user port q ∙ ap (λ n. is_picked (Some n) port q) is.need_is

-- ---- Where none is needed

unpicked_takes : (pairs : Bool) (s : Config) (c : Contents) (f : FiveTuple) (t : ℕ) (d : Datagram) (v : Option Verdict) (q : ℕ) → takes_if_any (decision pairs s c f t d v None).act q || is_taken c q ≡ is_taken c q
unpicked_takes pairs s c f t d v q = by_act (decision pairs s c f t d v None).act (of_decided pairs s c f t d v None (λ a. takes a q || is_taken c q ≡ is_taken c q) keeps)
  where
    keeps : (is : IsOfUser pairs s c f t d v None (outcome_of pairs s c f t d v None)) (act : PlainAct) → IsReached pairs s c f t is.user d.content None act → takes act q || is_taken c q ≡ is_taken c q
    keeps is (Allocates name p seconds tx token) known = by_choice known.2 _
        (λ named. of_token known.2 (λ o. ((q == p) || (is_some o && (q == p + 1))) || is_taken c q ≡ is_taken c q)
        (λ asks. absurd (none-some p (sym (not_named known.2 asks) ∙ named))) (ap (λ b. b || is_taken c q) (or-false (q == p)) ∙ named_is_taken c d.content p q named))
        (λ named none. absurd (none-some p none))
    keeps is (Renews seconds) known = refl
    keeps is (Permits addresses) known = refl
    keeps is (Binds n peer) known = refl

    by_act : (a : Option PlainAct) → IfSome a (λ x. takes x q || is_taken c q ≡ is_taken c q) → takes_if_any a q || is_taken c q ≡ is_taken c q
    by_act None is = refl
    by_act (Some x) is = is

-- what is decided takes what was picked, beside what is taken already
pub decision_takes : (pairs : Bool) (s : Config) (c : Contents) (f : FiveTuple) (t : ℕ) (d : Datagram) (v : Option Verdict) (port : Option ℕ) → (port_needed pairs s c f t d v ≡ None → port ≡ None)
    → (q : ℕ) → takes_if_any (decision pairs s c f t d v port).act q || is_taken c q ≡ is_picked (port_needed pairs s c f t d v) port q || is_taken c q
decision_takes pairs s c f t d v port only q = by_need (port_needed pairs s c f t d v) refl
  where
    by_need : (n : Option Need) → port_needed pairs s c f t d v ≡ n → takes_if_any (decision pairs s c f t d v port).act q || is_taken c q ≡ is_picked n port q || is_taken c q
    by_need None is = rw (only is) (unpicked_takes pairs s c f t d v q)
    by_need (Some need) is = ap (λ b. b || is_taken c q) (needed_takes pairs s c f t d v need (needed_of pairs s c f t d v need is) port q)
