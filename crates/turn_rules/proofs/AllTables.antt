-- What is answered alike over every table.
use Rattle.std.proofs.Common.{◌≡◌, ℕ, ◌&&◌, ◌||◌, not, Bool, true, false, true≢false, cond, refl, sym, ap, ◌∙◌, inl, inr, Option, Some, None, List, ◌==◌, option_map}
use Rattle.std.proofs.Math.Bool.{and-false}
use Rattle.std.proofs.lemmas.Bool.Decides.{eqb_tells}
use Rattle.turn_types.specs.Prelude.{Config, allocate, binding}
use Rattle.turn_history.specs.Prelude.{BadRequest, Contents, FiveTuple, History, StaleNonce, Unauthenticated, table}
use Rattle.turn_codec.specs.Prelude.{Content, Datagram, canonical, has_unknown}
use Rattle.turn_cred.specs.Prelude.{Verdict, Bad400, Stale438, Passed, has_expired}
use Rattle.turn_cred.specs.Credential.Verdict.{Challenge401}
use Rattle.turn_cred.specs.declared.key.Key.{Key}
use Rattle.turn_rules.specs.declared.outcome.Outcome.{Outcome}
use Rattle.turn_rules.specs.declared.outcome.Outcome.TheVariants.{Challenge, Drop, MappedAddress, Refuse, RefuseUnknown}
use Rattle.turn_rules.specs.Prelude.{Decided, HasOutcome, MayAnswer, act_by, before_port, binding_outcome, by_verdict, decision, depends_on_table, is_dropped, is_expired, is_protected, key_of, needed_if_passed, outcome_of, own_outcome, passed_outcome, port_needed, response_of, user_of}

same_both : {A : Type 0} (b : Bool) (x : A) → cond b x x ≡ x
same_both true x = refl
same_both false x = refl

-- ---- 420

module _ (pairs : Bool) (s : Config) (c : Contents) (f : FiveTuple) (t : ℕ) (user : List ℕ) (key : Key) (m : Content) (unknown : has_unknown m ≡ true) where
  unknown_in_time : is_expired c f t m key ≡ false
  unknown_in_time = rw unknown (ap (λ b. has_expired t key && b) (and-false (m.method == allocate)) ∙ and-false (has_expired t key))

  unknown_before : before_port pairs s c f user m ≡ Some RefuseUnknown
  unfolding before_port own_outcome
  unknown_before = rw unknown refl

  unknown_passed : (port : Option ℕ) → passed_outcome pairs s c f t user m port ≡ RefuseUnknown
  unknown_passed port = rw (unknown_before, unknown) (same_both (m.method == allocate) RefuseUnknown)

  unknown_by_verdict : (port : Option ℕ) → by_verdict pairs s c f t m (Some (Passed user key)) port ≡ RefuseUnknown
  unknown_by_verdict port = rw unknown_in_time (unknown_passed port)

  unknown_needed : needed_if_passed pairs s c f t m (Some (Passed user key)) ≡ None
  unknown_needed = rw (unknown_in_time, unknown_before) refl

module _ (d : Datagram) (user : List ℕ) (key : Key) (taken : is_dropped d ≡ false) (other : (d.content.method == binding) ≡ false) (protected : is_protected d.content.method ≡ true) (unknown : has_unknown d.content ≡ true) where
  -- a request with an unknown type is 420 over every table
  pub unknown_alike : HasOutcome d (Some (Passed user key)) RefuseUnknown
  unfolding outcome_of port_needed
  unknown_alike = record {
    same = λ pairs s c f t port. rw (taken, other, protected) (unknown_by_verdict pairs s c f t user key d.content unknown port);
    no_port = λ pairs s c f t. rw (taken, unknown_needed pairs s c f t user key d.content unknown) (same_both (d.content.method == allocate) None);
    no_act = λ u. refl;
  }

-- ---- All others

or_left : (a b : Bool) → (a || b) ≡ false → a ≡ false
or_left true b is = is
or_left false b is = refl

binding_is_not_allocate : (method : ℕ) → (method == binding) ≡ true → (method == allocate) ≡ false
binding_is_not_allocate method is = elim (eqb_tells method binding) [
  | inl same ↦ rw same.1 refl
  | inr other ↦ let no = sym is ∙ other.0 in absurd (true≢false no)
]

module _ (d : Datagram) (v : Option Verdict) where
  dropped_alike : is_dropped d ≡ true → HasOutcome d v Drop
  unfolding outcome_of port_needed
  dropped_alike is = record {
    same = λ pairs s c f t port. rw is refl;
    no_port = λ pairs s c f t. rw is refl;
    no_act = λ u. refl;
  }

  module _ (taken : is_dropped d ≡ false) where
    binding_alike : (d.content.method == binding) ≡ true → HasOutcome d v (binding_outcome d.content)
    unfolding outcome_of port_needed
    binding_alike is = record {
      same = λ pairs s c f t port. rw (taken, is) refl;
      no_port = λ pairs s c f t. rw (taken, binding_is_not_allocate d.content.method is) refl;
      no_act = λ u. elim (has_unknown d.content) as (λ b. act_by u d.content (cond b RefuseUnknown MappedAddress) ≡ None) [ true ↦ refl | false ↦ refl ];
    }

    module _ (other : (d.content.method == binding) ≡ false) where
      unserved_alike : is_protected d.content.method ≡ false → HasOutcome d v Drop
      unfolding outcome_of port_needed
      unserved_alike is = record {
        same = λ pairs s c f t port. rw (taken, other, is) refl;
        no_port = λ pairs s c f t. rw (taken, or_left (d.content.method == allocate) _ is) refl;
        no_act = λ u. refl;
      }

      by_check : is_protected d.content.method ≡ true → (w : Option Verdict) → v ≡ w → depends_on_table d w ≡ false → (o : Outcome) × HasOutcome d w o
      unfolding outcome_of port_needed
      by_check protected None is alike = (
        Drop,
        record {
          same = λ pairs s c f t port. rw (taken, other, protected) refl;
          no_port = λ pairs s c f t. rw taken (same_both (d.content.method == allocate) None);
          no_act = λ u. refl;
        },
      )
      by_check protected (Some Challenge401) is alike = (
        Challenge Unauthenticated,
        record {
          same = λ pairs s c f t port. rw (taken, other, protected) refl;
          no_port = λ pairs s c f t. rw taken (same_both (d.content.method == allocate) None);
          no_act = λ u. refl;
        },
      )
      by_check protected (Some Bad400) is alike = (
        Refuse BadRequest,
        record {
          same = λ pairs s c f t port. rw (taken, other, protected) refl;
          no_port = λ pairs s c f t. rw taken (same_both (d.content.method == allocate) None);
          no_act = λ u. refl;
        },
      )
      by_check protected (Some Stale438) is alike = (
        Challenge StaleNonce,
        record {
          same = λ pairs s c f t port. rw (taken, other, protected) refl;
          no_port = λ pairs s c f t. rw taken (same_both (d.content.method == allocate) None);
          no_act = λ u. refl;
        },
      )
      by_check protected (Some (Passed user key)) is alike =
          (RefuseUnknown, unknown_alike d user key taken other protected (by_unknown (has_unknown d.content) (rw (taken, protected) at alike)))
        where
          by_unknown : (b : Bool) → not b ≡ false → b ≡ true
          by_unknown true is = refl
          by_unknown false is = absurd (true≢false is)

-- where the answer doesn't depend on the table there is an outcome that is the same over all
pub alike : (d : Datagram) (v : Option Verdict) → depends_on_table d v ≡ false → (o : Outcome) × HasOutcome d v o
alike d v no_table = by_dropped (is_dropped d) refl
  where
    by_protected : is_dropped d ≡ false → (d.content.method == binding) ≡ false → (b : Bool) → is_protected d.content.method ≡ b → (o : Outcome) × HasOutcome d v o
    by_protected taken other true is = by_check d v taken other is v refl no_table
    by_protected taken other false is = (Drop, unserved_alike d v taken other is)

    by_binding : is_dropped d ≡ false → (b : Bool) → (d.content.method == binding) ≡ b → (o : Outcome) × HasOutcome d v o
    by_binding taken true is = (binding_outcome d.content, binding_alike d v taken is)
    by_binding taken false is = by_protected taken is (is_protected d.content.method) refl

    by_dropped : (b : Bool) → is_dropped d ≡ b → (o : Outcome) × HasOutcome d v o
    by_dropped true is = (Drop, dropped_alike d v is)
    by_dropped false is = by_binding is (d.content.method == binding) refl

-- ---- Answers

-- a decision by an outcome that the datagram has over every table may be answered after every history
pub may_answer : (pairs : Bool) (s : Config) (range : ℕ × ℕ) (h : History) (t : ℕ) (failed : Bool) (f : FiveTuple) (d : Datagram) (v : Option Verdict) (o : Outcome) → HasOutcome d v o
    → (reply : Option (List ℕ)) → reply ≡ option_map canonical (response_of s f.client t d.content (key_of d.content v) o)
    → MayAnswer pairs s range h t failed f d v (record { reply = reply; act = None })
unfolding decision
may_answer pairs s range h t failed f d v o has reply is =
    record {
      port = None;
      picked = λ need needed. (let none = has.no_port pairs s (table h t) f t in cc);
      decided = rw (has.same pairs s (table h t) f t None, has.no_act (user_of v), is) refl;
    }

-- the same over every table: what is decided, which does nothing and needs no port, and what may be answered
module _ (d : Datagram) (v : Option Verdict) (no_table : depends_on_table d v ≡ false) where
  pub decided_alike : (pairs later : Bool) (s : Config) (c k : Contents) (f : FiveTuple) (t : ℕ) (port other : Option ℕ) → decision pairs s c f t d v port ≡ decision later s k f t d v other
  unfolding decision
  decided_alike pairs later s c k f t port other =
      let has = (alike d v no_table).1 in
      rw (has.same pairs s c f t port, has.same later s k f t other) refl

  pub no_act_decided : (pairs : Bool) (s : Config) (c : Contents) (f : FiveTuple) (t : ℕ) (port : Option ℕ) → (decision pairs s c f t d v port).act ≡ None
  unfolding decision
  no_act_decided pairs s c f t port =
      let has = (alike d v no_table).1 in
      rw (has.same pairs s c f t port) (has.no_act (user_of v))

  pub answered_alike : (pairs later : Bool) (s : Config) (range other : ℕ × ℕ) (h g : History) (t : ℕ) (failed failed_then : Bool) (f : FiveTuple) (o : Decided)
      → MayAnswer pairs s range h t failed f d v o → MayAnswer later s other g t failed_then f d v o
  answered_alike pairs later s range other h g t failed failed_then f o answer = record {
    port = None;
    picked = λ need needed. (let none = (alike d v no_table).1.no_port later s (table g t) f t in cc);
    decided = answer.decided ∙ decided_alike pairs later s (table h t) (table g t) f t answer.port None;
  }
