-- What a Refresh of 0 may do: delete the allocation of its five-tuple, or nothing.
use Rattle.std.proofs.Common.{◌≡◌, ◌⊎◌, inl, inr, ℕ, Bool, true, false, List, [], ◌∷◌, ◌++◌, Contains, Option, Some, None, refl, sym, ap, ◌∙◌, subst, ◌==◌, ◌&&◌, option_map, if◌then◌else◌}
use Rattle.std.specs.FinMap as fin
use Rattle.std.specs.List.{AllByRecursion}
use Rattle.turn_codec.specs.Prelude.{Content, Datagram, lifetime, has_unknown, seen_value}
use Rattle.turn_cred.specs.Prelude.{Keys, Verdict, has_expired, Bad400, Stale438, Passed}
use Rattle.turn_cred.specs.Credential.Verdict.{Challenge401}
use Rattle.turn_engine.proofs.Lists.{all-append}
use Rattle.turn_engine.specs.Prelude.{IsRun, Taken, accepted}
use Rattle.turn_history.specs.Prelude.{Event, History, PlainAct, Renews, Contents, Entry, table, Unauthenticated, FiveTuple}
use Rattle.turn_rules.specs.Prelude.{allocate_outcome, channel_outcome, permission_outcome, Decided, by_verdict, decision, is_dropped, is_expired, is_protected, outcome_of, passed_outcome, user_of, binding_outcome, four_bytes, lifetime_of, number_in, act_by, entry_outcome, owner_outcome, owner_rows, refresh_outcome, refresh_rows, renewed_for}
use Rattle.turn_rules.specs.declared.outcome.Outcome.{Outcome}
use Rattle.turn_rules.specs.declared.outcome.Outcome.TheVariants.{Challenge, Drop, MappedAddress, RefuseUnknown, Renew}
use Rattle.turn_types.specs.Prelude.{first_row, Config, allocate, binding, create_permission, refresh}
use Rattle.turn_step.specs.Prelude.{AnswersArrival, AnswersClient, Setting, Arrives, Change, StepOutcome, added, change_of, FromClient, FromPeer}
use Rattle.turn_ending.specs.Ends.{IsDeletion, IsEnd, IsEndOf}

-- what a LIFETIME of four zeros asks for
pub asks_for_zero : (m : Content) → seen_value m lifetime ≡ Some (0 ∷ 0 ∷ 0 ∷ 0 ∷ []) → lifetime_of m ≡ Some 0
unfolding lifetime_of
asks_for_zero m is = ap (λ v. number_in (four_bytes v)) is

-- no act, or one that deletes
abbrev Deletes : Option PlainAct → Type 0
Deletes act = (act ≡ None) ⊎ (act ≡ Some (Renews 0))

-- an outcome does nothing, or deletes
record EndsOnly (user : List ℕ) (m : Content) (o : Outcome) : Type 0 where
  pub act : Deletes (act_by user m o)

idle : {user : List ℕ} {m : Content} {o : Outcome} → act_by user m o ≡ None → EndsOnly user m o
idle none = record { act = inl none }

module _ (user : List ℕ) (m : Content) where
  either : (b : Bool) (x y : Outcome) → EndsOnly user m x → EndsOnly user m y → EndsOnly user m (if b then x else y)
  either true x y first second = first
  either false x y first second = second

  -- of rows of outcomes and a last one
  by_rows : (rows : List (Bool × Outcome)) (last : Outcome) → AllByRecursion (λ row. EndsOnly user m row.1) rows → EndsOnly user m last → EndsOnly user m (first_row rows last)
  by_rows [] last each end = end
  by_rows (row ∷ rows) last each end = either row.0 row.1 (first_row rows last) each.0 (by_rows rows last each.1 end)

  by_refresh : lifetime_of m ≡ Some 0 → EndsOnly user m (refresh_outcome m)
  by_refresh zero =
      by_rows (refresh_rows m) (Renew (renewed_for (lifetime_of m))) (idle refl, (idle refl, tt)) (record { act = inr (ap (λ x. Some (Renews (renewed_for x))) zero) })

  by_entry : (s : Config) (e : Entry) → m.method ≡ refresh → lifetime_of m ≡ Some 0 → EndsOnly user m (entry_outcome s m e)
  by_entry s e method zero =
      let others = first_row ((m.method == create_permission, permission_outcome s e m) ∷ []) (channel_outcome s e m) in
      subst (λ (b : Bool). EndsOnly user m (if b then refresh_outcome m else others)) (sym (ap (λ n. n == refresh) method)) (by_refresh zero)

  by_owner : (s : Config) (entry : Option Entry) (asker : List ℕ) → m.method ≡ refresh → lifetime_of m ≡ Some 0 → EndsOnly user m (owner_outcome s entry asker m)
  by_owner s None asker method zero = by_rows (owner_rows None asker m) Drop (idle refl, (idle refl, (idle refl, tt))) (idle refl)
  by_owner s (Some e) asker method zero = by_rows (owner_rows (Some e) asker m) (entry_outcome s m e) (idle refl, (idle refl, (idle refl, tt))) (by_entry s e method zero)

  by_binding : EndsOnly user m (binding_outcome m)
  by_binding = by_rows ((has_unknown m, RefuseUnknown) ∷ []) MappedAddress (idle refl, tt) (idle refl)

  by_passed : (pairs : Bool) (s : Config) (c : Contents) (f : FiveTuple) (t : ℕ) (asker : List ℕ) (port : Option ℕ) → m.method ≡ refresh → lifetime_of m ≡ Some 0
      → EndsOnly user m (passed_outcome pairs s c f t asker m port)
  by_passed pairs s c f t asker port method zero =
      subst (λ (b : Bool). EndsOnly user m (if b then allocate_outcome pairs s c f t asker m port else owner_outcome s (fin.get c.entries f) asker m))
      (sym (ap (λ n. n == allocate) method)) (by_owner s (fin.get c.entries f) asker method zero)

  by_credentials : (pairs : Bool) (s : Config) (c : Contents) (f : FiveTuple) (t : ℕ) (v : Option Verdict) (port : Option ℕ) → m.method ≡ refresh → lifetime_of m ≡ Some 0
      → EndsOnly user m (by_verdict pairs s c f t m v port)
  by_credentials pairs s c f t None port method zero = idle refl
  by_credentials pairs s c f t (Some Challenge401) port method zero = idle refl
  by_credentials pairs s c f t (Some Bad400) port method zero = idle refl
  by_credentials pairs s c f t (Some Stale438) port method zero = idle refl
  by_credentials pairs s c f t (Some (Passed asker key)) port method zero =
      either (is_expired c f t m key) (Challenge Unauthenticated) (passed_outcome pairs s c f t asker m port) (idle refl) (by_passed pairs s c f t asker port method zero)

by_outcome : (user : List ℕ) (pairs : Bool) (s : Config) (c : Contents) (f : FiveTuple) (t : ℕ) (d : Datagram) (v : Option Verdict) (port : Option ℕ) → d.content.method ≡ refresh
    → lifetime_of d.content ≡ Some 0 → EndsOnly user d.content (outcome_of pairs s c f t d v port)
unfolding outcome_of
by_outcome user pairs s c f t d v port method zero =
    let m = d.content in
    by_rows user m ((is_dropped d, Drop) ∷ (m.method == binding, binding_outcome m) ∷ (is_protected m.method, by_verdict pairs s c f t m v port) ∷ []) Drop
    (idle refl, (by_binding user m, (by_credentials user m pairs s c f t v port method zero, tt))) (idle refl)

by_decision : (pairs : Bool) (s : Config) (c : Contents) (f : FiveTuple) (t : ℕ) (d : Datagram) (v : Option Verdict) (port : Option ℕ) → d.content.method ≡ refresh
    → lifetime_of d.content ≡ Some 0 → Deletes (decision pairs s c f t d v port).act
unfolding decision
by_decision pairs s c f t d v port method zero = (by_outcome (user_of v) pairs s c f t d v port method zero).act

-- ---- What is added to a history

module _ (tuples : List FiveTuple) where
  deleted : (t : ℕ) (f : FiveTuple) (act : Option PlainAct) (change : Option Change) → Contains tuples f → Deletes act → change ≡ option_map (change_of f) act
      → AllByRecursion (IsDeletion tuples) (added t change)
  deleted t f act change one (inl none) is =
      subst (λ (x : Option Change). AllByRecursion (IsDeletion tuples) (added t x)) (sym (is ∙ ap (option_map (change_of f)) none)) tt
  deleted t f act change one (inr some) is =
      subst (λ (x : Option Change). AllByRecursion (IsDeletion tuples) (added t x)) (sym (is ∙ ap (option_map (change_of f)) some)) (record { tuple = one; deletes = refl }, tt)

  pub one_deletes : (s : Setting) (h : History) (t : ℕ) (failed : Bool) (a : Arrives) (o : StepOutcome) → AnswersArrival s h t failed a o → IsEndOf tuples a
      → AllByRecursion (IsDeletion tuples) (added t o.change)
  one_deletes s h t failed (FromClient f bytes) o answers end =
      let is = end.1 in
      let says = answers.decides.message is.content is.encodes in
      let found = by_decision s.pairs s.config (table h t) f t (record { bytes = bytes; content = is.content }) _ says.port is.method is.lifetime in
      deleted t f answers.decided.act o.change end.0 (subst (λ (d : Decided). Deletes d.act) (sym says.decided) found) answers.change
  one_deletes s h t failed (FromPeer port from bytes id) o answers end = absurd end

  pub run_deletes : (s : Setting) (h : History) (t : ℕ) (taken : List Taken) → IsRun s h t taken → AllByRecursion (λ x. IsEndOf tuples x.arrival) taken
      → AllByRecursion (IsDeletion tuples) (accepted taken)
  run_deletes s h t [] run ends = tt
  run_deletes s h t (x ∷ xs) run ends =
      all-append (IsDeletion tuples) (added x.moment x.outcome.change) (accepted xs)
      (one_deletes (record s { pairs = x.pairs }) h x.moment x.failed x.arrival x.outcome run.1 ends.0)
      (run_deletes s (h ++ added x.moment x.outcome.change) x.moment xs run.2 ends.1)
