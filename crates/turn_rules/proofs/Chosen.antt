-- The port of a new allocation: one that was picked, or that a token names.
use Rattle.std.proofs.Common.{◌≡◌, ℕ, ◌+◌, ◌^◌, ◌<◌, Bool, true, false, is_some, is_none, List, [], ◌∷◌, refl, sym, ap, ◌∙◌, subst, Option, Some, None, ◌==◌, if◌then◌else◌, option_map, IfSome, bytes_eq}
use Rattle.std.specs.FinMap as fin
use Rattle.std.specs.FinMap.{nat_cmp-IsAntisymmetric}
use Rattle.std.proofs.lemmas.Cmp.{nat_cmp_total}
use Rattle.std.specs.List.{AllByRecursion, find}
use Rattle.std.specs.Option.{option_and_then, option_or}
use Rattle.std.proofs.lemmas.Bool.{cond_both}
use Rattle.std.proofs.lemmas.Option.{none-some, option_and_then_some, same_Some}
use Rattle.turn_history.proofs.Entries.{all_entries}
use Rattle.turn_types.specs.Prelude.{Config, allocate}
use Rattle.turn_history.specs.Prelude.{FiveTuple, Token, PortIsFree, ReservedApart, Contents}
use Rattle.turn_history.specs.declared.reservation.Reservation.{Reservation}
use Rattle.turn_codec.specs.Prelude.{even_port, reservation_token, Content, Datagram, is_seen, seen_value}
use Rattle.turn_cred.specs.Prelude.{Verdict, Bad400, Stale438, Passed}
use Rattle.turn_cred.specs.Credential.Verdict.{Challenge401}
use Rattle.turn_cred.specs.declared.key.Key.{Key}
use Rattle.turn_rules.specs.declared.need.Need.{Need}
use Rattle.turn_rules.specs.declared.need.Need.TheVariants.{Any, Even, Pair}
use Rattle.turn_rules.specs.declared.outcome.Outcome.{Outcome}
use Rattle.turn_rules.specs.Prelude.{asks_for_next_port, before_port, named_port, need_of, needed_for, token_in, token_of, is_dropped, is_expired, needed_if_passed, port_needed, AreReservedPorts, IsFreeFor, IsNextFree, IsPicked, token_for}
use Rattle.turn_rules.proofs.Reached.{IsNew, IsOfUser}
use Rattle.turn_table.specs.Prelude.{port_of_token}

-- what is found has what all have
found_has : {X : Type 0} (P : X → Type 0) (test : X → Bool) (xs : List X) (x : X) → AllByRecursion P xs → find test xs ≡ Some x → P x
found_has P test [] x all is = absurd (none-some x is)
found_has P test (y ∷ ys) x all is = cond_both (test y) (Some y) (find test ys) (λ o. o ≡ Some x → P x) (λ _ first. subst P (same_Some y x first) all.0) (λ _. found_has P test ys x all.1) is

-- a port that a token names is reserved
pub named_is_reserved : (c : Contents) (m : Content) (q : ℕ) → named_port c m ≡ Some q → (r : Reservation) × (fin.get c.reserved q ≡ Some r)
unfolding named_port
named_is_reserved c m q is =
    option_and_then_some (λ (k : Token). port_of_token c k.0) (token_in (seen_value m reservation_token)) q is
    (λ token _. by_found token (find (λ p. bytes_eq p.1.token.0 token.0) (fin.entries c.reserved)) refl)
  where
    by_found : (token : Token) (o : Option (ℕ × Reservation)) → find (λ p. bytes_eq p.1.token.0 token.0) (fin.entries c.reserved) ≡ o → option_map (λ p. p.0) o ≡ Some q → (r : Reservation) × (fin.get c.reserved q ≡ Some r)
    by_found token None found is = absurd (none-some q is)
    by_found token (Some p) found is =
        let at = found_has (λ x. fin.get c.reserved x.0 ≡ Some x.1) (λ x. bytes_eq x.1.token.0 token.0) (fin.entries c.reserved) p
        (all_entries nat_cmp_total nat_cmp-IsAntisymmetric (λ x. fin.get c.reserved x.0 ≡ Some x.1) c.reserved (λ k v is. is)) found in
        (p.1, subst (λ n. fin.get c.reserved n ≡ Some p.1) (same_Some p.0 q is) at)

-- a request without a RESERVATION-TOKEN names no port
pub none_named : (c : Contents) (m : Content) → is_seen m reservation_token ≡ false → named_port c m ≡ None
unfolding named_port
none_named c m = by_seen (seen_value m reservation_token)
  where
    by_seen : (o : Option (List ℕ)) → is_some o ≡ false → option_and_then (λ (k : Token). port_of_token c k.0) (token_in o) ≡ None
    by_seen None h = refl
    by_seen (Some v) h = cc

-- ---- Where a port is needed

then_some : {X : Type 0} (b : Bool) (o : Option X) (x : X) → (if b then o else None) ≡ Some x → (b ≡ true) × (o ≡ Some x)
then_some true o x is = (refl, is)
then_some false o x is = absurd (none-some x is)

else_some : {X : Type 0} (b : Bool) (o : Option X) (x : X) → (if b then None else o) ≡ Some x → (b ≡ false) × (o ≡ Some x)
else_some true o x is = absurd (none-some x is)
else_some false o x is = (refl, is)

none_if_none : {X : Type 0} (o : Option X) → is_none o ≡ true → o ≡ None
none_if_none None is = refl
none_if_none (Some x) is = cc

none_unless_some : {X : Type 0} (o : Option X) → is_some o ≡ false → o ≡ None
none_unless_some None is = refl
none_unless_some (Some x) is = cc

pub record IsNeeded (pairs : Bool) (s : Config) (c : Contents) (f : FiveTuple) (t : ℕ) (d : Datagram) (v : Option Verdict) (need : Need) : Type 0 where
  pub user : List ℕ
  pub key : Key
  pub taken : is_dropped d ≡ false
  pub method : (d.content.method == allocate) ≡ true
  pub verdict : v ≡ Some (Passed user key)
  pub in_time : is_expired c f t d.content key ≡ false
  pub undecided : before_port pairs s c f user d.content ≡ None
  pub named : named_port c d.content ≡ None
  pub need_is : need_of d.content ≡ need

pub needed_of : (pairs : Bool) (s : Config) (c : Contents) (f : FiveTuple) (t : ℕ) (d : Datagram) (v : Option Verdict) (need : Need) → port_needed pairs s c f t d v ≡ Some need
    → IsNeeded pairs s c f t d v need
unfolding port_needed
needed_of pairs s c f t d v need is =
    let taken = else_some (is_dropped d) (if d.content.method == allocate then needed_if_passed pairs s c f t d.content v else None) need is in
    let method = then_some (d.content.method == allocate) (needed_if_passed pairs s c f t d.content v) need taken.1 in
    by_verdict v refl taken.0 method.0 method.1
  where
    by_verdict : (w : Option Verdict) → v ≡ w → is_dropped d ≡ false → (d.content.method == allocate) ≡ true → needed_if_passed pairs s c f t d.content w ≡ Some need → IsNeeded pairs s c f t d v need
    by_verdict None at taken method is = absurd (none-some need is)
    by_verdict (Some Challenge401) at taken method is = absurd (none-some need is)
    by_verdict (Some Bad400) at taken method is = absurd (none-some need is)
    by_verdict (Some Stale438) at taken method is = absurd (none-some need is)
    by_verdict (Some (Passed user key)) at taken method is =
        let early = else_some (is_expired c f t d.content key) (if is_none (before_port pairs s c f user d.content) then needed_for c d.content else None) need is in
        let undecided = then_some (is_none (before_port pairs s c f user d.content)) (needed_for c d.content) need early.1 in
        let named = else_some (is_some (named_port c d.content)) (Some (need_of d.content)) need undecided.1 in
        record {
          user = user;
          key = key;
          taken = taken;
          method = method;
          verdict = at;
          in_time = early.0;
          undecided = none_if_none (before_port pairs s c f user d.content) undecided.0;
          named = none_unless_some (named_port c d.content) named.0;
          need_is = same_Some (need_of d.content) need named.1;
        }

-- ---- Where an allocation is made

module _ {pairs : Bool} {s : Config} {c : Contents} {f : FiveTuple} {t : ℕ} {user : List ℕ} {m : Content} {picked : Option ℕ} {p seconds : ℕ} {token : Option Token}
    (new : IsNew pairs s c f t user m picked p seconds token) where
  -- the token is that of the next port, where it is asked for, or none
  pub of_token : (P : Option Token → Type 0) → (asks_for_next_port m ≡ true → P (Some (token_for s.secret t f m.tx (p + 1)))) → P None → P token
  unfolding token_of
  of_token P some none = subst P (sym new.token_is) (cond_both (asks_for_next_port m) (Some (token_for s.secret t f m.tx (p + 1))) None P some (λ _. none))

  pub not_named : asks_for_next_port m ≡ true → named_port c m ≡ None
  not_named asks = none_named c m (new.next asks).no_token

  pub by_choice : (P : Type 0) → (named_port c m ≡ Some p → P) → (named_port c m ≡ None → picked ≡ Some p → P) → P
  by_choice P named chosen = by_named (named_port c m) refl new.port_is
    where
      by_named : (o : Option ℕ) → named_port c m ≡ o → option_or o picked ≡ Some p → P
      by_named None at is = chosen at is
      by_named (Some q) at is = named (at ∙ is)

-- what is needed is what the Allocate needs, and what was picked is free for that
module _ {pairs : Bool} {s : Config} {c : Contents} {f : FiveTuple} {t : ℕ} {d : Datagram} {v : Option Verdict} {picked : Option ℕ} {o : Outcome} {p seconds : ℕ} {token : Option Token}
    (of_user : IsOfUser pairs s c f t d v picked o) (new : IsNew pairs s c f t of_user.user d.content picked p seconds token) (are : IsPicked c (port_needed pairs s c f t d v) picked) where
  needed_is : port_needed pairs s c f t d v ≡ needed_for c d.content
  unfolding port_needed
  needed_is = rw (of_user.taken, new.method, of_user.verdict, of_user.in_time, new.undecided) refl

  free_for : named_port c d.content ≡ None → picked ≡ Some p → IsFreeFor c (need_of d.content) p
  free_for at is = subst (λ o. IfSome o (IsFreeFor c (need_of d.content))) is (are (need_of d.content) (needed_is ∙ ap (λ o. if is_some o then None else Some (need_of d.content)) at))

  pub port_free : ReservedApart c → PortIsFree c p
  port_free apart = by_choice new (PortIsFree c p) (λ at. let found = named_is_reserved c d.content p at in apart p found.0 found.1) (λ at is. (free_for at is).free)

  pub port_is_port : AreReservedPorts c → p < 2 ^ 16
  port_is_port ports = by_choice new (p < 2 ^ 16) (λ at. ports p (ap is_some (named_is_reserved c d.content p at).1)) (λ at is. (free_for at is).is_port)

  pub next_free : asks_for_next_port d.content ≡ true → IsNextFree c p
  next_free asks = by_choice new (IsNextFree c p) (λ at. absurd (none-some p (sym (not_named new asks) ∙ at)))
      (λ at is. (free_for at is).next (ap (λ b. if b then Pair else if is_seen d.content even_port then Even else Any) asks))
