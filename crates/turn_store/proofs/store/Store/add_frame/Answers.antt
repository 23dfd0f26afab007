use Rattle.std.proofs.Common.{◌+◌, ◌≤◌, length, refl, ap, arith, rules}
use Rattle.turn_store.proofs.Rows.{recovers_frames}
use Rattle.turn_store.proofs.Steps.{frame_stages, frame_shown}
use Rattle.turn_store.proofs.store.Store.add_frame.Goals as goal

pub returns-in-Ok-clause-writes : goal.returns-in-Ok-clause-writes
returns-in-Ok-clause-writes g c = rw (← c.self.view_is) (
    let area = c.self.inside.journal in
    let room : area.end + 6 + length c.args.payload.now ≤ area.size = omega (arith, c.requires.room, ap (λ st. st.area.end) c.self.view_is, ap (λ st. st.area.size) c.self.view_is) in
    record {
      uses = search rules;
      ok = search rules;
      err = tt;
      stages = λ crash_model s ps shows. frame_stages _ _ s ps shows c.args.payload.now room _ (c.append.ensures.stages crash_model shows.recovers.holds.settled _ ps (recovers_frames _ _ _ _ _ _ _ s ps _ shows.recovers));
      shown = λ crash_model s ps shows.
          frame_shown _ (g.D.Disk.trace c.self.inside.disk) s ps shows c.args.payload.now room _ _ _ _ c.in-Ok.ensures.appended refl
          (c.in-Ok.ensures.done crash_model shows.recovers.holds.settled _ ps (recovers_frames _ _ _ _ _ _ _ s ps _ shows.recovers));
    })

pub returns-in-Err-clause-writes : goal.returns-in-Err-clause-writes
returns-in-Err-clause-writes g c = rw (← c.self.view_is) (
    let area = c.self.inside.journal in
    let room : area.end + 6 + length c.args.payload.now ≤ area.size = omega (arith, c.requires.room, ap (λ st. st.area.end) c.self.view_is, ap (λ st. st.area.size) c.self.view_is) in
    let staged = c.append.ensures.stages in
    record { uses = search rules; ok = tt; err = search rules; stages = λ crash_model s ps shows. frame_stages _ _ s ps shows c.args.payload.now room _ (staged crash_model shows.recovers.holds.settled _ ps (recovers_frames _ _ _ _ _ _ _ s ps _ shows.recovers)); shown = λ _ _ _ _. tt })
