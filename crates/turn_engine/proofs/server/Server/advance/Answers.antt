use Rattle.std.proofs.Common.{◌≤◌, None, sym, ap, ◌∙◌, subst, arith}
use Rattle.turn_types.specs.Prelude.{Config}
use Rattle.turn_step.specs.Prelude.{HoldsPorts, IsAfter, IsPurged, KeepsSetting}
use Rattle.turn_engine.specs.Prelude.{ServerState, now_of}
use Rattle.turn_engine.proofs.Taken.{recovers_later, sound_later}
use Rattle.turn_engine.proofs.server.Server.advance.Goals as goal

pub invariant_of-self : goal.invariant_of-self
invariant_of-self g c =
    let le = subst (λ s. now_of s ≤ c.args.moment) (sym c.self.view_is) c.requires in (
      sound_later _ _ _ _ _ _ _ _ c.args.moment _ _ c.self.inside.machine.table c.advance.new.self.table le c.advance.ensures.table
          (ap (λ (x : Config). x.limits) c.advance.ensures.setting.config) c.advance.ensures.setting.pairs c.self.invariant.0,
      c.self.invariant.1,
    )

pub returns : goal.returns
returns g c =
    let generator = g.G.RelayAddressGenerator in
    let moment = c.advance.ensures.table.moment in
    record {
      call = record {
        in_time = c.requires;
        rest = ap (λ (s : ServerState _ _ _). record s { machine = c.advance.new.self }) c.self.view_is;
        clock = moment;
        table = subst (λ s. IsPurged c.args.moment s.machine.table c.advance.new.self.table) c.self.view_is c.advance.ensures.table;
        setting = subst (λ s. KeepsSetting generator.range s.machine c.advance.new.self) c.self.view_is c.advance.ensures.setting;
        count = c.advance.ensures.count ∙ ap (λ s. generator.failures s.machine.ports) c.self.view_is;
        held = λ held. c.advance.ensures.held (subst (λ s. HoldsPorts generator.holds s.machine None) (sym c.self.view_is) held);
        recovers = λ h k recovers. recovers_later _ c.args.self.now _ h k recovers (ap (λ s. s.store) c.self.view_is) (ap (λ s. s.payload) c.self.view_is) (ap (λ s. s.acts) c.self.view_is)
            (ap (λ s. s.tuples) c.self.view_is) (ap (λ s. s.since) c.self.view_is) (omega (arith, c.requires, moment)) (c.advance.ensures.after h (subst (λ m. IsAfter m h) (sym (ap (λ s. s.machine) c.self.view_is)) recovers.after));
      };
    }
