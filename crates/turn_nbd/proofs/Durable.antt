-- A write with FUA, which is noted as a write and a sync.
use Rattle.std.proofs.Common.{◌≡◌, ◌⊎◌, ◌≤◌, ◌+◌, inl, inr, ℕ, true, false, List, [], ◌∷◌, Result, Ok, Err, MatchResult, length, refl, sym, subst, ap}
use Rattle.turn_disk.proofs.Replaced.{changes, middle_is}
use Rattle.turn_disk.specs.Prelude.{FollowCrashModel, LoggedCall, after_call, replay, State, Trace, Overwrites, Syncs, ThroughOutcome, Writes}

wrote : (at : ℕ) (bytes : List ℕ) (t : Trace) → at + length bytes ≤ length t.now.bytes → Writes at bytes t (after_call 1 at true bytes t)
wrote at bytes t fits = record {
  range = record { content = changes at bytes t.now.bytes fits; pending = refl; past = refl };
  written = middle_is at bytes t.now.bytes fits;
}

failed : (at : ℕ) (bytes : List ℕ) (t : Trace) → Overwrites at (length bytes) t (after_call 1 at false bytes t)
failed at bytes t = record { content = record { size = refl; before = λ i below. refl; after = λ i above. refl }; pending = refl; past = refl }

synced : (t : Trace) → Syncs t (after_call 2 0 true [] t)
synced t = record { content = refl; pending = refl; past = refl }

pub noted_through : {E : Type 0} (C : Type 0) (found : State) (at : ℕ) (bytes : List ℕ) (old new : List LoggedCall) (result : Result Unit E) → FollowCrashModel found new
    → MatchResult result (λ _. new ≡ (2, 0, true, []) ∷ (1, at, true, bytes) ∷ old) (λ _. (new ≡ (1, at, false, bytes) ∷ old) ⊎ ((new ≡ old) × C))
    → ThroughOutcome at bytes (replay found old) (replay found new) result
noted_through {E = E} C found at bytes old new (Ok u) follows is =
    let Goal : List LoggedCall → Type 0 = λ events. FollowCrashModel found events → ThroughOutcome {E = E} at bytes (replay found old) (replay found events) (Ok u) in
    subst Goal (sym is) (λ then. (after_call 1 at true bytes (replay found old), wrote at bytes (replay found old) then.1.0, synced (after_call 1 at true bytes (replay found old)))) follows
noted_through {E = E} C found at bytes old new (Err e) follows (inl is) =
    let Goal : List LoggedCall → Type 0 = λ events. FollowCrashModel found events → ThroughOutcome {E = E} at bytes (replay found old) (replay found events) (Err e) in
    subst Goal (sym is) (λ then. inl (failed at bytes (replay found old))) follows
noted_through C found at bytes old new (Err e) follows (inr same) = inr (ap (λ (events : List LoggedCall). replay found events) same.0)
