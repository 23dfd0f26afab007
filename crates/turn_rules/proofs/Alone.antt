-- What an answer needs of a history: the events of the five-tuple, and for an Allocate what others have.
use Rattle.std.proofs.Common.{◌≡◌, ℕ, ◌+◌, ◌≤◌, Bool, true, false, cond, is_none, is_some, refl, sym, ap, ◌∙◌, subst, Option, Some, None, List, ◌==◌, unwrap_or, IsSome, true≢false}
use Rattle.std.specs.FinMap as fin
use Rattle.std.specs.Option.{option_or}
use Rattle.std.proofs.Math.Bool.{and-true}
use Rattle.turn_history.proofs.Histories.{table-events_of}
use Rattle.turn_history.proofs.Live.{some_is}
use Rattle.turn_types.specs.Prelude.{Config, allocate, binding}
use Rattle.turn_history.specs.Prelude.{is_taken, History, events_of, Contents, table, FiveTuple}
use Rattle.turn_codec.specs.Prelude.{Content, Datagram}
use Rattle.turn_cred.specs.Prelude.{Verdict, Bad400, Stale438, Passed}
use Rattle.turn_cred.specs.Credential.Verdict.{Challenge401}
use Rattle.turn_cred.specs.declared.key.Key.{Key}
use Rattle.turn_ports.specs.Ports.{IsFree, IsFreePair}
use Rattle.turn_rules.specs.declared.outcome.Outcome.{Outcome}
use Rattle.turn_rules.specs.declared.need.Need.{Need}
use Rattle.turn_rules.specs.declared.need.Need.TheVariants.{Any, Even, Pair}
use Rattle.turn_rules.specs.Prelude.{allocate_outcome, before_port, capacity_outcome, count_of_user, named_port, own_outcome, port_for, with_port, Decided, MayAnswer, by_verdict, decision, is_allocate, is_dropped, is_expired, is_protected, is_request, needed_if_passed, outcome_of, port_needed, user_of, SameForOthers, MayPickFor}
use Rattle.turn_rules.proofs.Chosen.{needed_of}

-- an Allocate whose credentials hold has a fact of its user
abbrev ForAllocate : Datagram → Option Verdict → (List ℕ → Type 0) → Type 0
ForAllocate d v P = is_dropped d ≡ false → (user : List ℕ) (key : Key) → v ≡ Some (Passed user key) → (d.content.method == allocate) ≡ true → P user

-- ---- Decisions

cond_same : {A : Type 0} (b : Bool) {x y z w : A} → (b ≡ true → x ≡ z) → (b ≡ false → y ≡ w) → cond b x y ≡ cond b z w
cond_same true first second = first refl
cond_same false first second = second refl

module _ (pairs : Bool) (s : Config) (c k : Contents) (f : FiveTuple) (t : ℕ) (same : fin.get c.entries f ≡ fin.get k.entries f) (port other : Option ℕ) (d : Datagram) where
  abbrev Alike : List ℕ → Type 0
  Alike user = allocate_outcome pairs s c f t user d.content port ≡ allocate_outcome pairs s k f t user d.content other

  verdict_same : (v : Option Verdict) → ((user : List ℕ) (key : Key) → v ≡ Some (Passed user key) → (d.content.method == allocate) ≡ true → Alike user) → by_verdict pairs s c f t d.content v port ≡ by_verdict pairs s k f t d.content v other
  verdict_same None alike = refl
  verdict_same (Some Challenge401) alike = refl
  verdict_same (Some Bad400) alike = refl
  verdict_same (Some Stale438) alike = refl
  verdict_same (Some (Passed user key)) alike = rw same (cond_same (is_expired k f t d.content key) (λ _. refl) (λ _. cond_same (d.content.method == allocate) (alike user key refl) (λ _. refl)))

  outcome_same : (v : Option Verdict) → ForAllocate d v Alike → outcome_of pairs s c f t d v port ≡ outcome_of pairs s k f t d v other
  unfolding outcome_of
  outcome_same v alike = cond_same (is_dropped d) (λ _. refl) (λ taken. cond_same (d.content.method == binding) (λ _. refl) (λ _. cond_same (is_protected d.content.method) (λ _. verdict_same v (alike taken)) (λ _. refl)))

  decision_same : (v : Option Verdict) → ForAllocate d v Alike → decision pairs s c f t d v port ≡ decision pairs s k f t d v other
  unfolding decision
  decision_same v alike = rw (outcome_same v alike) refl

-- ---- Ports

-- the entry of a five-tuple is that of its events
pub entry_same : (h g : History) (t : ℕ) (f : FiveTuple) → events_of f h ≡ events_of f g → fin.get (table h t).entries f ≡ fin.get (table g t).entries f
entry_same h g t f events = table-events_of h t f ∙ ap (λ es. fin.get (table es t).entries f) events ∙ sym (table-events_of g t f)

-- where no port is needed, the answers are those of the five-tuple's events
without_port :
    (pairs : Bool) (s : Config) (range : ℕ × ℕ) (h g : History) (t : ℕ) (failed : Bool) (f : FiveTuple) (d : Datagram) (v : Option Verdict) (o : Decided) → events_of f h ≡ events_of f g
    → ForAllocate d v (λ user. (is_none (before_port pairs s (table g t) f user d.content) ≡ false)
    × ((p q : Option ℕ) → allocate_outcome pairs s (table h t) f t user d.content p ≡ allocate_outcome pairs s (table g t) f t user d.content q))
    → MayAnswer pairs s range h t failed f d v o → MayAnswer pairs s range g t failed f d v o
without_port pairs s range h g t failed f d v o events decides answer = record {
  port = None;
  picked = λ need needed. (
      let is = needed_of pairs s (table g t) f t d v need needed in
      absurd (true≢false (sym (ap is_none is.undecided) ∙ (decides is.taken is.user is.key is.verdict is.method).0)));
  decided = answer.decided ∙ decision_same pairs s (table h t) (table g t) f t (entry_same h g t f events) answer.port None d v (λ a b c e h. (decides a b c e h).1 answer.port None);
}

-- ---- Requests but Allocate

not_allocate : (d : Datagram) → is_allocate d ≡ false → is_dropped d ≡ false → (d.content.method == allocate) ≡ true → ⊥
not_allocate d other taken method =
    let no_request : is_request d.content.class ≡ false = sym (and-true (is_request d.content.class)) ∙ rw method at other in
    let dropped : true ≡ false = rw no_request at taken in
    true≢false dropped

pub answers_same :
    (pairs : Bool) (s : Config) (range : ℕ × ℕ) (h g : History) (t : ℕ) (failed : Bool) (f : FiveTuple) (d : Datagram) (v : Option Verdict) (o : Decided) →
    events_of f h ≡ events_of f g → is_allocate d ≡ false → MayAnswer pairs s range h t failed f d v o → MayAnswer pairs s range g t failed f d v o
answers_same pairs s range h g t failed f d v o events other = without_port pairs s range h g t failed f d v o events (λ taken user key is method. absurd (not_allocate d other taken method))

-- ---- Allocates to which a row before the quota applies

module _ (pairs : Bool) (s : Config) (c : Contents) (f : FiveTuple) (user : List ℕ) (m : Content) (x : Outcome) (own : own_outcome pairs (is_some (named_port c m)) (fin.get c.entries f) user m ≡ Some x) where
  own_decides : before_port pairs s c f user m ≡ Some x
  unfolding before_port
  own_decides = ap (λ o. option_or o (capacity_outcome s c user m)) own

  own_is_outcome : (t : ℕ) (port : Option ℕ) → allocate_outcome pairs s c f t user m port ≡ x
  own_is_outcome t port = ap (λ o. unwrap_or o (with_port s f t m (port_for c m port))) own_decides

-- the entry is the same, and whether a token is valid
own_same : (pairs : Bool) (h g : History) (t : ℕ) (f : FiveTuple) (user : List ℕ) (m : Content) → events_of f h ≡ events_of f g → is_some (named_port (table h t) m) ≡ is_some (named_port (table g t) m)
    → own_outcome pairs (is_some (named_port (table h t) m)) (fin.get (table h t).entries f) user m ≡ own_outcome pairs (is_some (named_port (table g t) m)) (fin.get (table g t).entries f) user m
own_same pairs h g t f user m events valid = rw (valid, entry_same h g t f events) refl

pub own_answers_same :
    (pairs : Bool) (s : Config) (range : ℕ × ℕ) (h g : History) (t : ℕ) (failed : Bool) (f : FiveTuple) (d : Datagram) (user : List ℕ) (key : Key) (o : Decided) →
    events_of f h ≡ events_of f g → is_some (named_port (table h t) d.content) ≡ is_some (named_port (table g t) d.content) →
    IsSome (own_outcome pairs (is_some (named_port (table h t) d.content)) (fin.get (table h t).entries f) user d.content) →
    MayAnswer pairs s range h t failed f d (Some (Passed user key)) o → MayAnswer pairs s range g t failed f d (Some (Passed user key)) o
own_answers_same pairs s range h g t failed f d user key o events valid own =
    let found = some_is (own_outcome pairs (is_some (named_port (table h t) d.content)) (fin.get (table h t).entries f) user d.content) own in
    let other = sym (own_same pairs h g t f user d.content events valid) ∙ found.1 in
    without_port pairs s range h g t failed f d (Some (Passed user key)) o events (λ taken u k is method.
    let same : user ≡ u = ap user_of is in
    subst (λ u. (is_none (before_port pairs s (table g t) f u d.content) ≡ false)
    × ((p q : Option ℕ) → allocate_outcome pairs s (table h t) f t u d.content p ≡ allocate_outcome pairs s (table g t) f t u d.content q)) same (
      ap (is_none {T = Outcome}) (own_decides pairs s (table g t) f user d.content found.0 other),
      λ p q. own_is_outcome pairs s (table h t) f user d.content found.0 found.1 t p ∙ sym (own_is_outcome pairs s (table g t) f user d.content found.0 other t q),
    ))

pub own_too : (pairs : Bool) (h g : History) (t : ℕ) (f : FiveTuple) (user : List ℕ) (m : Content) → events_of f h ≡ events_of f g → is_some (named_port (table h t) m) ≡ is_some (named_port (table g t) m)
    → IsSome (own_outcome pairs (is_some (named_port (table h t) m)) (fin.get (table h t).entries f) user m) → IsSome (own_outcome pairs (is_some (named_port (table g t) m)) (fin.get (table g t).entries f) user m)
own_too pairs h g t f user m events valid own = subst (IsSome {T = Outcome}) (own_same pairs h g t f user m events valid) own

-- ---- Allocates, and what others have

-- the port that a token names is given by the reserved ports
named_same : (c k : Contents) (m : Content) → c.reserved ≡ k.reserved → named_port c m ≡ named_port k m
unfolding named_port
named_same c k m reserved = rw reserved refl

module _ (pairs : Bool) (s : Config) (c k : Contents) (f : FiveTuple) (same : fin.get c.entries f ≡ fin.get k.entries f) (user : List ℕ) (m : Content)
    (of_user : count_of_user c user ≡ count_of_user k user) (all : fin.len c.entries ≡ fin.len k.entries) (reserved : c.reserved ≡ k.reserved) where
  before_same : before_port pairs s c f user m ≡ before_port pairs s k f user m
  unfolding before_port
  before_same = rw (named_same c k m reserved, same, of_user, all, reserved) refl

  allocate_same : (t : ℕ) (port : Option ℕ) → allocate_outcome pairs s c f t user m port ≡ allocate_outcome pairs s k f t user m port
  allocate_same t port = rw (before_same, named_same c k m reserved) refl

  needed_same : (t : ℕ) (key : Key) → needed_if_passed pairs s c f t m (Some (Passed user key)) ≡ needed_if_passed pairs s k f t m (Some (Passed user key))
  needed_same t key = rw (same, before_same, named_same c k m reserved) refl

-- two tables have the same taken ports of a range
abbrev SamePorts : ℕ × ℕ → Contents → Contents → Type 0
SamePorts range c k = (p : ℕ) → range.0 ≤ p → p ≤ range.1 → is_taken c p ≡ is_taken k p

free_same : (range : ℕ × ℕ) (c k : Contents) → SamePorts range c k → (even : Bool) (port : ℕ) → IsFree range (is_taken c) even port → IsFree range (is_taken k) even port
free_same range c k ports even port free =
    record { is_port = free.is_port; in_range = free.in_range; untaken = sym (ports port free.in_range.0 free.in_range.1) ∙ free.untaken; parity = free.parity }

pair_same : (range : ℕ × ℕ) (c k : Contents) → SamePorts range c k → (port : ℕ) → IsFreePair range (is_taken c) port → IsFreePair range (is_taken k) port
pair_same range c k ports port free = record { first = free_same range c k ports true port free.first; second = free_same range c k ports false (port + 1) free.second }

pick_same : (range : ℕ × ℕ) (c k : Contents) (failed : Bool) → SamePorts range c k → SamePorts range k c → (need : Need) (port : Option ℕ) → MayPickFor range c failed need port → MayPickFor range k failed need port
pick_same range c k failed ports back Any (Some port) may = free_same range c k ports false port may
pick_same range c k failed ports back Any None may = λ reached port free. may reached port (free_same range k c back false port free)
pick_same range c k failed ports back Even (Some port) may = free_same range c k ports true port may
pick_same range c k failed ports back Even None may = λ reached port free. may reached port (free_same range k c back true port free)
pick_same range c k failed ports back Pair (Some port) may = pair_same range c k ports port may
pick_same range c k failed ports back Pair None may = λ reached port free. may reached port (pair_same range k c back port free)

-- the premises, the other way round
pub others_too : (range : ℕ × ℕ) (user : List ℕ) (c k : Contents) → SameForOthers range user c k → SameForOthers range user k c
others_too range user c k others =
    record { of_user = sym others.of_user; all = sym others.all; reserved = sym others.reserved; ports = λ port low high. sym (others.ports port low high) }

pub allocates_same :
    (pairs : Bool) (s : Config) (range : ℕ × ℕ) (h g : History) (t : ℕ) (failed : Bool) (f : FiveTuple) (d : Datagram) (v : Option Verdict) (o : Decided) →
    events_of f h ≡ events_of f g → SameForOthers range (user_of v) (table h t) (table g t) → MayAnswer pairs s range h t failed f d v o → MayAnswer pairs s range g t failed f d v o
unfolding port_needed
allocates_same pairs s range h g t failed f d v o events others answer =
    record {
      port = answer.port;
      picked = λ need needed. pick_same range (table h t) (table g t) failed others.ports (others_too range _ _ _ others).ports need answer.port (answer.picked need (rw (needed_by v refl) needed));
      decided = answer.decided ∙ decision_same pairs s (table h t) (table g t) f t entry answer.port answer.port d v (λ taken user key is method.
          allocate_same pairs s (table h t) (table g t) f entry user d.content (count user key is) others.all others.reserved t answer.port);
    }
  where
    entry : fin.get (table h t).entries f ≡ fin.get (table g t).entries f
    entry = entry_same h g t f events

    count : (user : List ℕ) (key : Key) → v ≡ Some (Passed user key) → count_of_user (table h t) user ≡ count_of_user (table g t) user
    count user key is = subst (λ u. count_of_user (table h t) u ≡ count_of_user (table g t) u) (ap user_of is) others.of_user

    needed_by : (w : Option Verdict) → v ≡ w → needed_if_passed pairs s (table h t) f t d.content w ≡ needed_if_passed pairs s (table g t) f t d.content w
    needed_by None is = refl
    needed_by (Some Challenge401) is = refl
    needed_by (Some Bad400) is = refl
    needed_by (Some Stale438) is = refl
    needed_by (Some (Passed user key)) is = needed_same pairs s (table h t) (table g t) f entry user d.content (count user key is) others.all others.reserved t key
