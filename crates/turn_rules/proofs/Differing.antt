-- What depends on the table differs between two tables.
use Rattle.std.proofs.Common.{◌≡◌, ◌≢◌, ℕ, ◌&&◌, Bool, true, false, true≢false, cond, not, refl, sym, ap, ◌∙◌, Option, Some, None, IfSome, List, [], ◌∷◌, ◌==◌, unwrap_or, bytes_eq, inl, inr}
use Rattle.std.specs.FinMap as fin
use Rattle.std.specs.List.{AllByRecursion}
use Rattle.std.specs.Option.{option_or}
use Rattle.std.proofs.Math.Bool.{and-false}
use Rattle.std.proofs.lemmas.Bool.{false_from_ne_true}
use Rattle.std.proofs.lemmas.Slice.Eq.{bytes_eq-Decides}
use Rattle.std.proofs.lemmas.Bool.Decides.{eqb_tells}
use Rattle.turn_types.specs.Prelude.{Config, allocate, binding, first_row}
use Rattle.turn_history.specs.Prelude.{AddressFamilyNotSupported, AllocationMismatch, AllocationQuotaReached, BadRequest, Contents, InsufficientCapacity, UnsupportedTransportProtocol, Entry, FiveTuple, Unauthenticated, WrongCredentials}
use Rattle.turn_codec.specs.Prelude.{Content, Datagram, has_unknown}
use Rattle.turn_cred.specs.Prelude.{Verdict, Bad400, Stale438, Passed, has_expired}
use Rattle.turn_cred.specs.Credential.Verdict.{Challenge401}
use Rattle.turn_cred.specs.declared.key.Key.{Key}
use Rattle.turn_rules.specs.declared.outcome.Outcome.{Outcome}
use Rattle.turn_rules.specs.declared.outcome.Outcome.TheVariants.{Challenge, Refuse, RefuseUnknown}
use Rattle.turn_rules.specs.Prelude.{allocate_outcome, before_port, by_verdict, capacity_outcome, capacity_rows, depends_on_table, is_dropped, is_expired, is_protected, outcome_of, own_outcome, own_rows, owner_outcome, port_for, user_of, with_port}

-- no 437
abbrev IsOther : Outcome → Type 0
IsOther o = o ≢ Refuse AllocationMismatch

-- a row that applies has another outcome
abbrev IsOtherRow : Bool × Option Outcome → Type 0
IsOtherRow x = x.0 ≡ true → IfSome x.1 IsOther

rows : (xs : List (Bool × Option Outcome)) → AllByRecursion IsOtherRow xs → IfSome (first_row xs None) IsOther
rows [] each = tt
rows ((true, o) ∷ xs) each = each.0 refl
rows ((false, o) ∷ xs) each = rows xs each.1

never : {P : Type 0} → false ≡ true → P
never is = absurd (true≢false (sym is))

no_420 : IsOther RefuseUnknown
no_420 is = cc

no_400 : IsOther (Refuse BadRequest)
no_400 is = cc

no_440 : IsOther (Refuse AddressFamilyNotSupported)
no_440 is = cc

no_442 : IsOther (Refuse UnsupportedTransportProtocol)
no_442 is = cc

no_486 : IsOther (Refuse AllocationQuotaReached)
no_486 is = cc

no_508 : IsOther (Refuse InsufficientCapacity)
no_508 is = cc

either : (x y : Option Outcome) → IfSome x IsOther → IfSome y IsOther → IfSome (option_or x y) IsOther
either None y first second = second
either (Some o) y first second = first

or_else : (x : Option Outcome) (o : Outcome) → IfSome x IsOther → IsOther o → IsOther (unwrap_or x o)
or_else None o first second = second
or_else (Some p) o first second = first

module _ (pairs : Bool) (s : Config) (c : Contents) (f : FiveTuple) (t : ℕ) (user : List ℕ) (key : Key) (m : Content) (port : Option ℕ) (understood : has_unknown m ≡ false) where
  -- ---- Without an allocation of the five-tuple

  module _ (absent : fin.get c.entries f ≡ None) where
    own_other : (valid : Bool) → IfSome (own_outcome pairs valid (fin.get c.entries f) user m) IsOther
    unfolding own_outcome
    own_other valid = rw absent (rows (own_rows pairs valid None user m) (
      λ _. no_420,
      (λ is. tt, (λ is. never is, (λ _. no_400, (λ _. no_442, (λ _. no_400, (λ _. no_508, (λ _. no_440, (λ _. no_508, tt)))))))),
    )
        )

    capacity_other : IfSome (capacity_outcome s c user m) IsOther
    capacity_other = rows (capacity_rows s c user m) (λ _. no_486, (λ _. no_508, (λ _. no_508, tt)))

    port_other : (p : Option ℕ) → IsOther (with_port s f t m p)
    port_other None = no_508
    port_other (Some p) = λ is. cc

    allocate_other : IsOther (allocate_outcome pairs s c f t user m port)
    unfolding before_port
    allocate_other = or_else _ _ (either _ _ (own_other _) capacity_other) (port_other (port_for c m port))

    owner_absent : owner_outcome s (fin.get c.entries f) user m ≡ Refuse AllocationMismatch
    owner_absent = rw (absent, understood) refl

  -- ---- Where another user has one

  module _ (e : Entry) (present : fin.get c.entries f ≡ Some e) (another : bytes_eq e.user user ≡ false) where
    allocate_present : allocate_outcome pairs s c f t user m port ≡ Refuse AllocationMismatch
    unfolding before_port own_outcome
    allocate_present = rw (present, understood, another) refl

    owner_present : owner_outcome s (fin.get c.entries f) user m ≡ Refuse WrongCredentials
    owner_present = rw (present, understood, another) refl

    in_time_present : is_expired c f t m key ≡ false
    in_time_present = rw (present, understood) (ap (λ b. has_expired t key && b) (and-false (m.method == allocate)) ∙ and-false (has_expired t key))

-- ---- Both

-- a challenge is no error of a row
expired_other : (b : Bool) (o : Outcome) → IsOther o → IsOther (cond b (Challenge Unauthenticated) o)
expired_other true o other = λ is. cc
expired_other false o other = other

module _ (pairs : Bool) (s : Config) (c k : Contents) (f : FiveTuple) (t : ℕ) (user : List ℕ) (key : Key) (m : Content) (port : Option ℕ) (understood : has_unknown m ≡ false)
    (absent : fin.get c.entries f ≡ None) (e : Entry) (present : fin.get k.entries f ≡ Some e) (another : bytes_eq e.user user ≡ false) where
  abbrev Differ : Bool → Type 0
  Differ is_allocate =
      cond (is_expired c f t m key) (Challenge Unauthenticated) (cond is_allocate (allocate_outcome pairs s c f t user m port) (owner_outcome s (fin.get c.entries f) user m))
      ≢ cond is_allocate (allocate_outcome pairs s k f t user m port) (owner_outcome s (fin.get k.entries f) user m)

  by_method : (b : Bool) → (m.method == allocate) ≡ b → Differ b
  by_method true is = λ same.
      expired_other (is_expired c f t m key) _ (allocate_other pairs s c f t user key m port understood absent)
      (same ∙ allocate_present pairs s k f t user key m port understood e present another)
  by_method false is = λ same.
      let late : is_expired c f t m key ≡ false = rw is (and-false (has_expired t key)) in
      let first = owner_absent pairs s c f t user key m port understood absent in
      let second = owner_present pairs s k f t user key m port understood e present another in
      let both : Refuse AllocationMismatch ≡ Refuse WrongCredentials = sym first ∙ (rw late at same) ∙ second in
      cc

  passed_differ : by_verdict pairs s c f t m (Some (Passed user key)) port ≢ by_verdict pairs s k f t m (Some (Passed user key)) port
  passed_differ = rw (in_time_present pairs s k f t user key m port understood e present another) (by_method (m.method == allocate) refl)

-- what depends on the table
record IsDependent (d : Datagram) : Type 0 where
  taken : is_dropped d ≡ false
  other : (d.content.method == binding) ≡ false
  protected : is_protected d.content.method ≡ true
  understood : has_unknown d.content ≡ false

and_true : (a b : Bool) → (a && b) ≡ true → (a ≡ true) × (b ≡ true)
and_true true b is = (refl, is)
and_true false b is = absurd (true≢false (sym is))

not_true : (a : Bool) → not a ≡ true → a ≡ false
not_true true is = absurd (true≢false (sym is))
not_true false is = refl

protected_other : (method : ℕ) → is_protected method ≡ true → (method == binding) ≡ false
protected_other method is = false_from_ne_true (method == binding) (λ same.
    elim (eqb_tells method binding) [
      | inl here ↦ let no : false ≡ true = rw here.1 at is in true≢false (sym no)
      | inr apart ↦ true≢false (sym same ∙ apart.0)
    ])

dependent : (d : Datagram) (user : List ℕ) (key : Key) → depends_on_table d (Some (Passed user key)) ≡ true → IsDependent d
dependent d user key is =
    let first = and_true (not (is_dropped d)) _ is in
    let second = and_true (is_protected d.content.method) _ first.1 in
    record {
      taken = not_true (is_dropped d) first.0;
      other = protected_other d.content.method second.0;
      protected = second.0;
      understood = not_true (has_unknown d.content) second.1;
    }

unchecked : (d : Datagram) → (not (is_dropped d) && (is_protected d.content.method && false)) ≡ true → ⊥
unchecked d is = true≢false (sym (and_true (is_protected d.content.method) false (and_true (not (is_dropped d)) _ is).1).1)

pub dependent_differ : (pairs : Bool) (s : Config) (c k : Contents) (f : FiveTuple) (t : ℕ) (d : Datagram) (v : Option Verdict) (port : Option ℕ) (e : Entry)
    → depends_on_table d v ≡ true → fin.get c.entries f ≡ None → fin.get k.entries f ≡ Some e → e.user ≢ user_of v
    → outcome_of pairs s c f t d v port ≢ outcome_of pairs s k f t d v port
unfolding outcome_of
dependent_differ pairs s c k f t d None port e is absent present another = absurd (unchecked d is)
dependent_differ pairs s c k f t d (Some Challenge401) port e is absent present another = absurd (unchecked d is)
dependent_differ pairs s c k f t d (Some Bad400) port e is absent present another = absurd (unchecked d is)
dependent_differ pairs s c k f t d (Some Stale438) port e is absent present another = absurd (unchecked d is)
dependent_differ pairs s c k f t d (Some (Passed user key)) port e is absent present another =
    let x = dependent d user key is in
    let apart = false_from_ne_true (bytes_eq e.user user) (λ same. another ((bytes_eq-Decides e.user user).0 same)) in
    rw (x.taken, x.other, x.protected) (passed_differ pairs s c k f t user key d.content port x.understood absent e present apart)
