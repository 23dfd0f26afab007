-- To which moment calls bring the table.
use Rattle.std.proofs.Common.{arith, ◌≡◌, ◌<◌, ◌≤◌, ◌⊎◌, inl, inr, ℕ, Bool, true, false, List, [], ◌∷◌, Result, Ok, Err, refl, sym, ap, ◌∙◌, subst, ⊎_elim}
use Rattle.turn_cred.specs.declared.handler.AuthHandler as handlers
use Rattle.turn_disk.specs.declared.disk.Disk as disks
use Rattle.turn_engine.specs.Prelude.{Advance, Commit, IsCall, Relay, Serves, ServerCall, Submit, after_of, last_of, ServerState, now_of}
use Rattle.turn_engine.specs.declared.error.SubmitError.{SubmitError}
use Rattle.turn_engine.specs.declared.error.SubmitError.TheVariants.{BatchFull, Memory, Stopped}
use Rattle.turn_ports.specs.declared.generator.RelayAddressGenerator as generators
use Rattle.turn_sockets.specs.Moments.{IsMoment}
use Rattle.turn_serving.specs.Turns.{AreAt, At, Served}
use Rattle.turn_types.specs.Prelude.{end_of_moments}

-- of two moments in a row the second is one by the first clock
pub moments_in_row : {told : ℕ → Type 0} {clock middle moment : ℕ} → IsMoment told clock middle → IsMoment told middle moment → IsMoment told clock moment
moments_in_row {told = told} {clock = clock} {middle = middle} {moment = moment} first second = by_second (low_or_high second.second)
  where
    low_or_high : (n : ℕ) → (n < end_of_moments) ⊎ (end_of_moments ≤ n)
    low_or_high n = search arith

    by_first : second.second < end_of_moments → (first.second < end_of_moments) ⊎ (end_of_moments ≤ first.second) → (first.second ≤ second.second) ⊎ (second.second < first.second) → IsMoment told clock moment
    by_first low (inl early) (inl less) = record {
      second = second.second;
      was_told = second.was_told;
      in_range = λ l. let a = first.in_range early in let b = second.in_range low in omega (arith, a, b);
      beyond = λ high. absurd (omega arith);
    }
    by_first low (inl early) (inr more) = record {
      second = first.second;
      was_told = first.was_told;
      in_range = λ l. let a = first.in_range early in let b = second.in_range low in omega (arith, a, b);
      beyond = λ high. absurd (omega arith);
    }
    by_first low (inr late) order = record {
      second = second.second;
      was_told = second.was_told;
      in_range = λ l. let a = first.beyond late in let b = second.in_range low in omega (arith, a, b);
      beyond = λ high. absurd (omega arith);
    }

    by_second : (second.second < end_of_moments) ⊎ (end_of_moments ≤ second.second) → IsMoment told clock moment
    by_second (inl low) = by_first low (low_or_high first.second) (search arith)
    by_second (inr high) = subst (IsMoment told clock) (sym (second.beyond high)) first

module _ {D H G : Type 0} (disk : disks.Ghosts D) (handler : handlers.Ghosts H) (ports : generators.Ghosts G) (told : ℕ → Type 0) where
  -- a call leaves the clock as it is, or brings it to a moment that is one by it
  call_moves : (old : ServerState D H G) (x : ServerCall D H G) → IsCall disk handler ports old x → AreAt (IsMoment told) old (x ∷ []) → (now_of (after_of x) ≡ now_of old) ⊎ IsMoment told (now_of old) (now_of (after_of x))
  call_moves old (Submit moment a (Ok done) new) call at = inr (subst (IsMoment told (now_of old)) (sym call.clock) at.0)
  call_moves old (Submit moment a (Err Stopped) new) call at = inl (ap now_of (call.unchanged refl))
  call_moves old (Submit moment a (Err BatchFull) new) call at = inl (ap now_of (call.unchanged_full refl))
  call_moves old (Submit moment a (Err Memory) new) call at = inr (subst (IsMoment told (now_of old)) (sym (call.memory_clock refl)) at.0)
  call_moves old (Commit (Ok outs) new) call at = inl (ap now_of call.ok)
  call_moves old (Commit (Err fault) new) call at = inl (ap now_of call.err)
  call_moves old (Relay a sent new) call at = inl (ap now_of call.2)
  call_moves old (Advance moment new) call at = inr (subst (IsMoment told (now_of old)) (sym call.clock) at.0)

  calls_before : (old : ServerState D H G) (steps : List (ServerCall D H G)) (moment : ℕ) → Serves disk handler ports old steps → AreAt (IsMoment told) old steps → IsMoment told (now_of (last_of old steps)) moment
      → IsMoment told (now_of old) moment
  calls_before old [] moment serves at is = is
  calls_before old (Submit m a result new ∷ xs) moment serves at is =
      let later = calls_before new xs moment serves.1 at.1 is in
      ⊎_elim (λ same. subst (λ (n : ℕ). IsMoment told n moment) same later) (λ moved. moments_in_row moved later) (call_moves old (Submit m a result new) serves.0 (at.0, tt))
  calls_before old (Commit result new ∷ xs) moment serves at is =
      let later = calls_before new xs moment serves.1 at is in
      ⊎_elim (λ same. subst (λ (n : ℕ). IsMoment told n moment) same later) (λ moved. moments_in_row moved later) (call_moves old (Commit result new) serves.0 tt)
  calls_before old (Relay a sent new ∷ xs) moment serves at is = subst (λ (n : ℕ). IsMoment told n moment) (ap now_of serves.0.2) (calls_before new xs moment serves.1 at.1 is)
  calls_before old (Advance m new ∷ xs) moment serves at is =
      moments_in_row (subst (IsMoment told (now_of old)) (sym serves.0.clock) at.0) (calls_before new xs moment serves.1 at.1 is)

  calls_after : (clock : ℕ) (old : ServerState D H G) (steps : List (ServerCall D H G)) → Serves disk handler ports old steps → AreAt (IsMoment told) old steps → IsMoment told clock (now_of old)
      → IsMoment told clock (now_of (last_of old steps))
  calls_after clock old [] serves at is = is
  calls_after clock old (Submit m a result new ∷ xs) serves at is =
      calls_after clock new xs serves.1 at.1
      (⊎_elim (λ same. subst (IsMoment told clock) (sym same) is) (λ moved. moments_in_row is moved) (call_moves old (Submit m a result new) serves.0 (at.0, tt)))
  calls_after clock old (Commit result new ∷ xs) serves at is =
      calls_after clock new xs serves.1 at
      (⊎_elim (λ same. subst (IsMoment told clock) (sym same) is) (λ moved. moments_in_row is moved) (call_moves old (Commit result new) serves.0 tt))
  calls_after clock old (Relay a sent new ∷ xs) serves at is = calls_after clock new xs serves.1 at.1 (subst (IsMoment told clock) (sym (ap now_of serves.0.2)) is)
  calls_after clock old (Advance m new ∷ xs) serves at is =
      calls_after clock new xs serves.1 at.1 (moments_in_row is (subst (IsMoment told (now_of old)) (sym serves.0.clock) at.0))

module _ {D H G : Type 0} {disk : disks.Ghosts D} {handler : handlers.Ghosts H} {ports : generators.Ghosts G} {told : ℕ → Type 0} where
  -- a moment by the clock after calls is one by the clock before them
  pub moment_before : {old new : ServerState D H G} {moment : ℕ} → Served disk handler ports (IsMoment told) old new → IsMoment told (now_of new) moment → IsMoment told (now_of old) moment
  moment_before {old = old} {moment = moment} served is =
      calls_before disk handler ports told old served.steps moment served.serves served.moments (subst (λ (s : ServerState D H G). IsMoment told (now_of s) moment) (sym served.last) is)

  -- calls after a moment lead to one
  pub moment_after : {clock : ℕ} {old new : ServerState D H G} → IsMoment told clock (now_of old) → Served disk handler ports (IsMoment told) old new → IsMoment told clock (now_of new)
  moment_after {clock = clock} {old = old} is served =
      subst (λ (s : ServerState D H G). IsMoment told clock (now_of s)) served.last (calls_after disk handler ports told clock old served.steps served.serves served.moments is)

-- at the moment itself it is still that moment
pub still : {told : ℕ → Type 0} {clock moment : ℕ} → IsMoment told clock moment → IsMoment told moment moment
still is = record {
  second = is.second;
  was_told = is.was_told;
  in_range = λ low. let same = is.in_range low in omega (arith, same);
  beyond = λ high. refl;
}

module _ {D H G : Type 0} (disk : disks.Ghosts D) (handler : handlers.Ghosts H) (ports : generators.Ghosts G) (told : ℕ → Type 0) (moment : ℕ) where
  -- whatever calls at a moment came to, it is still that moment
  pub calls_still : (old : ServerState D H G) (steps : List (ServerCall D H G)) → Serves disk handler ports old steps → AreAt (At moment) old steps → IsMoment told (now_of old) moment → IsMoment told (now_of (last_of old steps)) moment
  calls_still old [] serves at is = is
  calls_still old (Submit m a (Ok done) new ∷ xs) serves at is = calls_still new xs serves.1 at.1 (subst (λ (n : ℕ). IsMoment told n moment) (sym (serves.0.clock ∙ at.0)) (still is))
  calls_still old (Submit m a (Err Stopped) new ∷ xs) serves at is = calls_still new xs serves.1 at.1 (subst (λ (n : ℕ). IsMoment told n moment) (sym (ap now_of (serves.0.unchanged refl))) is)
  calls_still old (Submit m a (Err BatchFull) new ∷ xs) serves at is = calls_still new xs serves.1 at.1 (subst (λ (n : ℕ). IsMoment told n moment) (sym (ap now_of (serves.0.unchanged_full refl))) is)
  calls_still old (Submit m a (Err Memory) new ∷ xs) serves at is = calls_still new xs serves.1 at.1 (subst (λ (n : ℕ). IsMoment told n moment) (sym (serves.0.memory_clock refl ∙ at.0)) (still is))
  calls_still old (Commit (Ok outs) new ∷ xs) serves at is = calls_still new xs serves.1 at (subst (λ (n : ℕ). IsMoment told n moment) (sym (ap now_of serves.0.ok)) is)
  calls_still old (Commit (Err fault) new ∷ xs) serves at is = calls_still new xs serves.1 at (subst (λ (n : ℕ). IsMoment told n moment) (sym (ap now_of serves.0.err)) is)
  calls_still old (Relay a sent new ∷ xs) serves at is = calls_still new xs serves.1 at.1 (subst (λ (n : ℕ). IsMoment told n moment) (sym (ap now_of serves.0.2)) is)
  calls_still old (Advance m new ∷ xs) serves at is = calls_still new xs serves.1 at.1 (subst (λ (n : ℕ). IsMoment told n moment) (sym (serves.0.clock ∙ at.0)) (still is))
