use Rattle.std.proofs.Common.{subst, IsSome, List, ◌≡◌, ◌+◌, ℕ, ◌++◌, ◌∷◌, [], true, cond, eqb, refl, sym, ap, ◌∙◌, Option, Some, None, option_map, arith, rules, eq-eqb, ne_eqb, IsSomeAnd}
use Rattle.std.specs.FinMap as fin
use Rattle.turn_history.proofs.Histories.{table-follows}
use Rattle.turn_history.proofs.TableAt.{at-applied}
use Rattle.turn_history.specs.Prelude.{act_of, allocated, Fits, IsInRange, TxId, Token, Follows, Allocates, PlainAct, Renews, Permits, Binds, Event, History, Entry, Reservations, applied, applied_to, renewed, permitting, binding, reserving, with_entry, table, FiveTuple}
use Rattle.turn_types.specs.Prelude.{permission_lifetime}
use Rattle.turn_table.specs.Prelude.{State, Agrees, BecomesFree, freed_by, with_allocation, without_entry}
use Rattle.turn_table.specs.Table as calls
use Rattle.turn_table.proofs.Options.{is_some_then, some_is, some_then}
use Rattle.turn_table.proofs.Ready.{IsAt, at_of}
use Rattle.turn_table.proofs.Purging.{free-remove}
use Rattle.turn_table.proofs.table.Table.apply.Goals as goal

-- what an act makes of the entry that is there, and of the reserved ports, it makes of the table
done : (s : State) (t : ℕ) (f : FiveTuple) (d e : PlainAct) → d ≡ e → (o : Option Entry) (q : Reservations) → applied_to t e (fin.get s.contents.entries f) ≡ o → reserving t e s.contents.reserved ≡ q → record s { contents = applied t f d s.contents; room = None } ≡ record s { contents = record { entries = with_entry s.contents.entries f o; reserved = q }; room = None }
unfolding applied
done s t f d e is o q gives left =
    ap (λ x. record s { contents = applied t f x s.contents; room = None }) is
    ∙ (λ i. record s { contents = record { entries = with_entry s.contents.entries f (gives i); reserved = left i }; room = None })

-- where an act changes the entry that is there, and no reserved port
changed_by : (s new : State) (t : ℕ) (f : FiveTuple) (d e : PlainAct) → d ≡ e → (h : Entry → Entry) → ((v : Entry) → applied_to t e (Some v) ≡ Some (h v)) → reserving t e s.contents.reserved ≡ s.contents.reserved → IsSomeAnd (fin.get s.contents.entries f) (λ v. new ≡ calls.with_entry s f (h v)) → new ≡ record s { contents = applied t f d s.contents; room = None }
changed_by s new t f d e is h gives left some = some_then _ (fin.get s.contents.entries f) some (λ v at new_is.
    new_is ∙ sym (done s t f d e is (Some (h v)) s.contents.reserved (ap (applied_to t e) at ∙ gives v) left))

-- where an act is a Renew of 0, which removes the entry that is there, and no reserved port
removed_by : (s new : State) (t : ℕ) (f : FiveTuple) (granted : ℕ) (d : PlainAct) → d ≡ Renews granted → granted ≡ 0 → new ≡ without_entry s f → new ≡ record s { contents = applied t f d s.contents; room = None }
removed_by s new t f granted d is zero gone =
    gone
    ∙ sym (done s t f d (Renews granted) is None s.contents.reserved (ap (λ b. cond b None (option_map (renewed (t + granted)) (fin.get s.contents.entries f))) (eq-eqb granted 0 zero)) refl)

-- the port of the entry that an act removes is free
free_end : (s new : State) (f : FiveTuple) (port : ℕ) → new ≡ without_entry s f → IsSomeAnd (fin.get s.contents.entries f) (λ e. e.port ≡ port) → BecomesFree s.contents new.contents port
free_end s new f port is some = some_then _ (fin.get s.contents.entries f) some (λ v at port_is. free-remove s.contents new.contents f v port at port_is (ap (λ x. x.contents) is))

-- and it is what the act gives
freed_end : (o : Option Entry) (granted port : ℕ) (d : PlainAct) → eqb granted 0 ≡ true → d ≡ Renews granted → IsSomeAnd o (λ e. e.port ≡ port) → Some port ≡ freed_by d o
freed_end None granted port d zero is none = absurd none
freed_end (Some v) granted port d zero is port_is =
    ap Some (sym port_is) ∙ ap (λ b. cond b (Some v.port) None) (sym zero) ∙ ap (λ x. freed_by x (Some v)) (sym is)

-- a table that agrees with a history agrees with it and the act
agrees_after : (old new : State) (f : FiveTuple) (d : PlainAct) → new ≡ record old { contents = applied old.moment f d old.contents; room = None } → (h : History) → Follows old.bounds h (record { moment = old.moment; tuple = f; act = d }) → Agrees old h → Agrees new (h ++ record { moment = old.moment; tuple = f; act = d } ∷ [])
agrees_after old new f d is h follows same =
    let e : Event = record { moment = old.moment; tuple = f; act = d } in
    ap (λ s. s.contents) is
    ∙ ap (applied old.moment f d) same
    ∙ sym (table-follows old.bounds h e follows)
    ∙ ap (table (h ++ e ∷ [])) (sym (ap (λ s. s.moment) is))

-- an act leaves what a table may hold
applied_at : (s : State) (f : FiveTuple) (d : PlainAct) → Fits s.bounds s.contents f d → IsInRange s.bounds (record { moment = s.moment; tuple = f; act = d }) → IsAt s → IsAt (record s { contents = applied s.moment f d s.contents; room = None })
applied_at s f d fits range at = at-applied s.bounds (record { moment = s.moment; tuple = f; act = d }) s.contents range fits at

-- so does the change of the entry that it makes
changed_at : (s : State) (f : FiveTuple) (d e : PlainAct) → d ≡ e → (h : Entry → Entry) → ((v : Entry) → applied_to s.moment e (Some v) ≡ Some (h v)) → reserving s.moment e s.contents.reserved ≡ s.contents.reserved → IsSome (fin.get s.contents.entries f)
    → IsAt (record s { contents = applied s.moment f d s.contents; room = None }) → IsSomeAnd (fin.get s.contents.entries f) (λ v. IsAt (calls.with_entry s f (h v)))
changed_at s f d e is h gives left some at = is_some_then (fin.get s.contents.entries f) some (λ v there.
    subst (λ o. IsSomeAnd o (λ v. IsAt (calls.with_entry s f (h v)))) (sym there)
    (subst IsAt (done s s.moment f d e is (Some (h v)) s.contents.reserved (ap (applied_to s.moment e) there ∙ gives v) left) at))

-- a new allocation is that of the act, by its moment
allocates : (s : State) (t : ℕ) (f : FiveTuple) (e : Entry) (d : PlainAct) (user : List ℕ) (port granted : ℕ) (tx : TxId) (token : Option Token) → t ≡ s.moment → e ≡ allocated t user port granted tx token → d ≡ Allocates user port granted tx token
    → with_allocation s f e ≡ record s { contents = applied s.moment f d s.contents; room = None }
allocates s t f e d user port granted tx token now is act =
    ap (with_allocation s f) (is ∙ ap (λ m. allocated m user port granted tx token) now)
    ∙ sym (done s s.moment f d (Allocates user port granted tx token) act _ _ refl refl)

-- ---- An Alloc

pub allocate-requires-clause-at : goal.allocate-requires-clause-at
allocate-requires-clause-at g c =
    subst IsAt (sym (allocates c.args.self.now _ c.args.tuple _ (act_of c.args.act) c.in-Alloc.user c.in-Alloc.port c.in-Alloc.granted c.in-Alloc.tx None (ap (λ s. s.moment) c.self.view_is) c.allocated-entry.ensures (ap act_of c.in-Alloc.is)))
    (applied_at c.args.self.now c.args.tuple (act_of c.args.act) c.requires.fits c.requires.range (at_of c.self.view_is c.self.invariant))

pub returns-in-Alloc-clause-state : goal.returns-in-Alloc-clause-state
returns-in-Alloc-clause-state g c =
    c.allocate.ensures
    ∙ allocates c.args.self.now _ c.args.tuple _ (act_of c.args.act) c.in-Alloc.user c.in-Alloc.port c.in-Alloc.granted c.in-Alloc.tx None (ap (λ s. s.moment) c.self.view_is) c.allocated-entry.ensures (ap act_of c.in-Alloc.is)

pub returns-in-Alloc-clause-agrees : goal.returns-in-Alloc-clause-agrees
returns-in-Alloc-clause-agrees g c = agrees_after c.args.self.now _ c.args.tuple (act_of c.args.act) (returns-in-Alloc-clause-state g c)

-- ---- An AllocEven

pub allocate-requires-in-AllocEven-clause-at : goal.allocate-requires-in-AllocEven-clause-at
allocate-requires-in-AllocEven-clause-at g c =
    subst IsAt (sym (allocates c.args.self.now _ c.args.tuple _ (act_of c.args.act) c.in-AllocEven.user c.in-AllocEven.port c.in-AllocEven.granted c.in-AllocEven.tx (Some c.in-AllocEven.token) (ap (λ s. s.moment) c.self.view_is) c.allocated-entry-in-AllocEven.ensures (ap act_of c.in-AllocEven.is)))
    (applied_at c.args.self.now c.args.tuple (act_of c.args.act) c.requires.fits c.requires.range (at_of c.self.view_is c.self.invariant))

pub returns-in-AllocEven-clause-state : goal.returns-in-AllocEven-clause-state
returns-in-AllocEven-clause-state g c =
    c.allocate-in-AllocEven.ensures
    ∙ allocates c.args.self.now _ c.args.tuple _ (act_of c.args.act) c.in-AllocEven.user c.in-AllocEven.port c.in-AllocEven.granted c.in-AllocEven.tx (Some c.in-AllocEven.token) (ap (λ s. s.moment) c.self.view_is) c.allocated-entry-in-AllocEven.ensures (ap act_of c.in-AllocEven.is)

pub returns-in-AllocEven-clause-agrees : goal.returns-in-AllocEven-clause-agrees
returns-in-AllocEven-clause-agrees g c = agrees_after c.args.self.now _ c.args.tuple (act_of c.args.act) (returns-in-AllocEven-clause-state g c)

-- ---- A Renew

pub returns-then-granted-eq0-clause-state : goal.returns-then-granted-eq0-clause-state
returns-then-granted-eq0-clause-state g c = removed_by c.args.self.now _ c.args.self.now.moment c.args.tuple c.in-Renew.granted (act_of c.args.act) (ap act_of c.in-Renew.is) c.if-granted-eq0.true (search rules)

pub returns-then-granted-eq0-clause-freed : goal.returns-then-granted-eq0-clause-freed
returns-then-granted-eq0-clause-freed g c =
    freed_end (fin.get c.args.self.now.contents.entries c.args.tuple) c.in-Renew.granted c.remove_entry.result (act_of c.args.act) (eq-eqb c.in-Renew.granted 0 c.if-granted-eq0.true) (ap act_of c.in-Renew.is) c.remove_entry.ensures.port

pub returns-then-granted-eq0-clause-free : goal.returns-then-granted-eq0-clause-free
returns-then-granted-eq0-clause-free g c = free_end c.args.self.now c.remove_entry.new.self c.args.tuple c.remove_entry.result c.remove_entry.ensures.state c.remove_entry.ensures.port

pub returns-then-granted-eq0-clause-agrees : goal.returns-then-granted-eq0-clause-agrees
returns-then-granted-eq0-clause-agrees g c = agrees_after c.args.self.now _ c.args.tuple (act_of c.args.act) (returns-then-granted-eq0-clause-state g c)

pub renew-requires : goal.renew-requires
renew-requires g c =
    let now = c.seconds.ensures.value ∙ ap (λ s. s.moment) c.self.view_is in
    let expiry : c.seconds.result + c.from.result ≡ c.args.self.now.moment + c.in-Renew.granted = omega (arith, now, c.from.ensures) in
    changed_at c.args.self.now c.args.tuple (act_of c.args.act) (Renews c.in-Renew.granted) (ap act_of c.in-Renew.is) (renewed (c.seconds.result + c.from.result))
    (λ v. ap (λ b. cond b None (Some (renewed (c.args.self.now.moment + c.in-Renew.granted) v))) (ne_eqb c.in-Renew.granted 0 c.if-granted-eq0.false) ∙ ap (λ x. Some (renewed x v)) (sym expiry))
    refl (subst (Fits c.args.self.now.bounds c.args.self.now.contents c.args.tuple) (ap act_of c.in-Renew.is) c.requires.fits)
    (applied_at c.args.self.now c.args.tuple (act_of c.args.act) c.requires.fits c.requires.range (at_of c.self.view_is c.self.invariant))

pub returns-else-granted-eq0-clause-state : goal.returns-else-granted-eq0-clause-state
returns-else-granted-eq0-clause-state g c =
    let now = c.seconds.ensures.value ∙ ap (λ s. s.moment) c.self.view_is in
    let expiry : c.seconds.result + c.from.result ≡ c.args.self.now.moment + c.in-Renew.granted = omega (arith, now, c.from.ensures) in
    changed_by c.args.self.now c.renew.new.self c.args.self.now.moment c.args.tuple (act_of c.args.act) (Renews c.in-Renew.granted) (ap act_of c.in-Renew.is)
    (renewed (c.seconds.result + c.from.result))
    (λ v. ap (λ b. cond b None (Some (renewed (c.args.self.now.moment + c.in-Renew.granted) v))) (ne_eqb c.in-Renew.granted 0 c.if-granted-eq0.false) ∙ ap (λ x. Some (renewed x v)) (sym expiry))
    refl c.renew.ensures

pub returns-else-granted-eq0-clause-agrees : goal.returns-else-granted-eq0-clause-agrees
returns-else-granted-eq0-clause-agrees g c = agrees_after c.args.self.now _ c.args.tuple (act_of c.args.act) (returns-else-granted-eq0-clause-state g c)

-- ---- A Permit

pub permit-requires-clause-at : goal.permit-requires-clause-at
permit-requires-clause-at g c =
    changed_at c.args.self.now c.args.tuple (act_of c.args.act) (Permits c.in-Permit.addresses) (ap act_of c.in-Permit.is)
    (permitting (c.seconds-in-Permit.result + permission_lifetime) c.as_slice.result.now)
    (λ v. ap (λ as'. Some (permitting (c.args.self.now.moment + permission_lifetime) as' v)) (sym c.as_slice.ensures) ∙ ap (λ t. Some (permitting (t + permission_lifetime) c.as_slice.result.now v)) (sym (c.seconds-in-Permit.ensures.value ∙ ap (λ s. s.moment) c.self.view_is)))
    refl (some_is _ _ (subst (Fits c.args.self.now.bounds c.args.self.now.contents c.args.tuple) (ap act_of c.in-Permit.is) c.requires.fits))
    (applied_at c.args.self.now c.args.tuple (act_of c.args.act) c.requires.fits c.requires.range (at_of c.self.view_is c.self.invariant))

pub returns-in-Permit-clause-state : goal.returns-in-Permit-clause-state
returns-in-Permit-clause-state g c =
    changed_by c.args.self.now c.permit.new.self c.args.self.now.moment c.args.tuple (act_of c.args.act) (Permits c.in-Permit.addresses) (ap act_of c.in-Permit.is)
    (permitting (c.seconds-in-Permit.result + permission_lifetime) c.as_slice.result.now)
    (λ v. ap (λ as'. Some (permitting (c.args.self.now.moment + permission_lifetime) as' v)) (sym c.as_slice.ensures) ∙ ap (λ t. Some (permitting (t + permission_lifetime) c.as_slice.result.now v)) (sym (c.seconds-in-Permit.ensures.value ∙ ap (λ s. s.moment) c.self.view_is)))
    refl c.permit.ensures

pub returns-in-Permit-clause-agrees : goal.returns-in-Permit-clause-agrees
returns-in-Permit-clause-agrees g c = agrees_after c.args.self.now _ c.args.tuple (act_of c.args.act) (returns-in-Permit-clause-state g c)

-- ---- A Bind

pub bind-requires-clause-at : goal.bind-requires-clause-at
bind-requires-clause-at g c =
    changed_at c.args.self.now c.args.tuple (act_of c.args.act) (Binds c.in-Bind.number c.in-Bind.peer) (ap act_of c.in-Bind.is)
    (binding c.args.self.now.moment c.in-Bind.number c.in-Bind.peer) (λ v. refl) refl
    (some_is _ _ (subst (Fits c.args.self.now.bounds c.args.self.now.contents c.args.tuple) (ap act_of c.in-Bind.is) c.requires.fits))
    (applied_at c.args.self.now c.args.tuple (act_of c.args.act) c.requires.fits c.requires.range (at_of c.self.view_is c.self.invariant))

pub returns-in-Bind-clause-state : goal.returns-in-Bind-clause-state
returns-in-Bind-clause-state g c =
    changed_by c.args.self.now c.bind.new.self c.args.self.now.moment c.args.tuple (act_of c.args.act) (Binds c.in-Bind.number c.in-Bind.peer) (ap act_of c.in-Bind.is)
    (binding c.args.self.now.moment c.in-Bind.number c.in-Bind.peer) (λ v. refl) refl c.bind.ensures

pub returns-in-Bind-clause-agrees : goal.returns-in-Bind-clause-agrees
returns-in-Bind-clause-agrees g c = agrees_after c.args.self.now _ c.args.tuple (act_of c.args.act) (returns-in-Bind-clause-state g c)
