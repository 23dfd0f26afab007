-- A log, as far as it was replayed.
use Rattle.std.proofs.Common.{◌≡◌, inl, inr, ℕ, ◌+◌, ◌<◌, ◌^◌, List, [], ◌∷◌, ◌++◌, length, refl, sym, ◌∙◌, ap, subst, arith, length-append}
use Rattle.std.specs.Int.{to_be_bytes, w32}
use Rattle.turn_disk.specs.Prelude.{StandsAt}
use Rattle.turn_journal.specs.Frames.{framed, IsFrame, IsOpen, IsClosed, HoldsFrames, gate_after, last_gate}
use Rattle.turn_journal.specs.Scan.{HasLength}
use Rattle.turn_journal.proofs.Growing.{last_gate-push}
use Rattle.turn_store.specs.Prelude.{LogIsRead, Version, BreaksAt, FaultWith, Snapshot, GoOn, GoesOn, Replays, HasFrames, ReplaysTo}
use Rattle.turn_history.specs.Prelude.{Event, Bounds}
use Rattle.turn_journal.specs.Scan.{IsBadFrame}
use Rattle.turn_record.specs.Prelude.{EncodesPayload, max_payload}
use Rattle.turn_store.specs.declared.error.OpenError.{OpenError}
use Rattle.turn_store.specs.declared.error.OpenError.TheVariants.{Device, Memory, NotAStore, LimitsDiffer, Damaged}
use Rattle.turn_store.proofs.Numbers.{stands_join}

pub faults_weaken : (P Q : ℕ → Type 0) → ((place : ℕ) → P place → Q place) → (fault : OpenError) → FaultWith P fault → FaultWith Q fault
faults_weaken P Q to Device why = tt
faults_weaken P Q to Memory why = tt
faults_weaken P Q to NotAStore why = absurd why
faults_weaken P Q to LimitsDiffer why = absurd why
faults_weaken P Q to (Damaged place) why = to place why

-- replayed up to a gate, with so many frames
pub record SoFar (v : Version) (b : Bounds) (from : ℕ) (s : Snapshot) (gate frames : ℕ) (t : Snapshot) (content : List ℕ) : Type 0 where
  pub to : ReplaysTo v b from s gate t content
  pub count : frames ≡ length to.payloads

pub none_yet : (v : Version) (b : Bounds) (from : ℕ) (s : Snapshot) (content : List ℕ) → SoFar v b from s from 0 s content
none_yet v b from s content = record { to = record { payloads = []; frames = tt; ends = refl; replays = refl }; count = refl }

-- a payload with its length before it is a frame, at an open gate
pub frame_is : (gate count : ℕ) (p c : List ℕ) → length p ≡ count → IsOpen gate c → HasLength gate count c → StandsAt (gate + 5) p c → IsFrame gate p c
unfolding framed
frame_is gate count p c long is_open has stands =
    let place : gate + 1 + 4 ≡ gate + 5 = omega arith in
    let head = subst (λ (n : ℕ). StandsAt (gate + 1) (to_be_bytes w32 n) c) (sym long) has.1 in
    record {
      is_open = is_open;
      short = subst (λ (n : ℕ). n < 2 ^ 32) (sym long) has.0;
      stands = stands_join (gate + 1) (to_be_bytes w32 (length p)) p c head (subst (λ (at : ℕ). StandsAt at p c) (sym place) stands);
    }

frames_push : (at : ℕ) (ps : List (List ℕ)) (p c : List ℕ) → HasFrames at ps c → IsFrame (last_gate at ps) p c → HasFrames at (ps ++ p ∷ []) c
frames_push at [] p c frames frame = (frame, tt)
frames_push at (q ∷ ps) p c frames frame = (frames.0, frames_push (gate_after at q) ps p c frames.1 frame)

replays_push : (v : Version) (b : Bounds) (s : Snapshot) (ps : List (List ℕ)) (p : List ℕ) (t u : Snapshot) → Replays v b s ps t → GoesOn v b t p u → Replays v b s (ps ++ p ∷ []) u
replays_push v b s [] p t u replays goes = (u, subst (λ (x : Snapshot). GoesOn v b x p u) replays goes, refl)
replays_push v b s (q ∷ ps) p t u replays goes = (replays.0, replays.1, replays_push v b replays.0 ps p t u replays.2 goes)

pub one_more : (v : Version) (b : Bounds) (from : ℕ) (s : Snapshot) (gate frames : ℕ) (t u : Snapshot) (p content : List ℕ) → SoFar v b from s gate frames t content → IsFrame gate p content → GoesOn v b t p u
    → SoFar v b from s (gate_after gate p) (frames + 1) u content
one_more v b from s gate frames t u p content so_far frame goes =
    let to = so_far.to in
    let more = to.payloads ++ p ∷ [] in
    record {
      to = record {
        payloads = more;
        frames = frames_push from to.payloads p content to.frames (subst (λ (at : ℕ). IsFrame at p content) (sym to.ends) frame);
        ends = last_gate-push from to.payloads p ∙ ap (λ (at : ℕ). gate_after at p) to.ends;
        replays = replays_push v b s to.payloads p t u to.replays goes;
      };
      count = omega (arith, so_far.count, length-append to.payloads (p ∷ []));
    }

frames_close : (at : ℕ) (ps : List (List ℕ)) (limit : ℕ) (c : List ℕ) → HasFrames at ps c → IsClosed (last_gate at ps) c → last_gate at ps < limit → HoldsFrames at ps limit c
frames_close at [] limit c frames closed below = (below, closed)
frames_close at (q ∷ ps) limit c frames closed below = (frames.0, frames_close (gate_after at q) ps limit c frames.1 closed below)

-- the log ends
pub all_read : (v : Version) (b : Bounds) (from : ℕ) (s : Snapshot) (gate limit frames : ℕ) (t : Snapshot) (content : List ℕ) → SoFar v b from s gate frames t content → IsClosed gate content → gate < limit → LogIsRead v b from s gate limit frames t content
all_read v b from s gate limit frames t content so_far closed below =
    let to = so_far.to in
    record {
      payloads = to.payloads;
      holds = record {
        frames = frames_close from to.payloads limit content to.frames (subst (λ (at : ℕ). IsClosed at content) (sym to.ends) closed) (subst (λ (at : ℕ). at < limit) (sym to.ends) below);
        ends = to.ends;
      };
      replays = to.replays;
      count = so_far.count;
    }

-- a frame that isn't one
pub broken_frame : (v : Version) (b : Bounds) (from limit : ℕ) (s : Snapshot) (gate frames max : ℕ) (t : Snapshot) (content : List ℕ) → SoFar v b from s gate frames t content → max ≡ max_payload v b
    → (place : ℕ) → (place ≡ gate) × IsBadFrame place limit max content → BreaksAt v b from limit s content place
broken_frame v b from limit s gate frames max t content so_far max_is place is = record {
  reached = t;
  before = subst (λ (g : ℕ). ReplaysTo v b from s g t content) (sym is.0) so_far.to;
  bad = inl (subst (λ (n : ℕ). IsBadFrame place limit n content) max_is is.1);
}

-- a payload that encodes no batch that goes on
pub broken_payload : (v : Version) (b : Bounds) (from limit : ℕ) (s : Snapshot) (gate frames : ℕ) (t : Snapshot) (p content : List ℕ) → SoFar v b from s gate frames t content → IsFrame gate p content
    → ((es : List Event) → EncodesPayload v b es p → GoOn b t es → ⊥) → (place : ℕ) → place ≡ gate → BreaksAt v b from limit s content place
broken_payload v b from limit s gate frames t p content so_far frame bad place is = record {
  reached = t;
  before = subst (λ (g : ℕ). ReplaysTo v b from s g t content) (sym is) so_far.to;
  bad = inr (p, subst (λ (g : ℕ). IsFrame g p content) (sym is) frame, bad);
}
