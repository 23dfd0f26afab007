use Rattle.std.proofs.Common.{arith, false, refl}
use Rattle.turn_serving.proofs.Events.{does_failed, does_in_row, does_less, does_nothing, same_addresses, same_manner, served}
use Rattle.turn_serving.proofs.Moments.{moment_before}
use Rattle.turn_serving.proofs.Turns.{in_time, keeps}
use Rattle.turn_serving.proofs.Visiting.{not_ok}
use Rattle.turn_serving.proofs.serving.Serving.turns.Goals as goal

pub loop-turned-init : goal.loop-turned-init
loop-turned-init g c = record {
  does = does_nothing refl;
  none = λ none. refl;
  current = λ some. absurd (omega (arith, some));
  done = λ some. absurd (omega (arith, some));
  runs = λ some. absurd (omega (arith, some));
}

pub loop-turned-preserved : goal.loop-turned-preserved
loop-turned-preserved g c =
    let before = c.loop-turned.invariant in
    record {
      does = does_in_row {more = 1} (λ d. refl) before.does c.in_ok-turn.ensures.does;
      none = λ none. absurd (omega (arith, none));
      current = λ some. moment_before (served before.does) c.in_ok-turn.ensures.current;
      done = λ some. c.in_ok-turn.ensures.done;
      runs = λ some. c.in_ok-turn.ensures.runs;
    }

pub returns-in_err-turn-clause-does : goal.returns-in_err-turn-clause-does
returns-in_err-turn-clause-does g c =
    does_failed {first_done = false} (not_ok _ c.from_residual.result c.from_residual.ensures.1) (does_in_row {more = 1} (λ d. refl) c.loop-turned.invariant.does c.in_err-turn.ensures.does)

pub returns-clause-does : goal.returns-clause-does
returns-clause-does g c = does_less (λ d. d) (let ends = c.loop-turned-test.false in omega (arith, ends)) c.loop-turned.invariant.does

pub returns-in_err-turn-clause-served : goal.returns-in_err-turn-clause-served
returns-in_err-turn-clause-served g c = served (returns-in_err-turn-clause-does g c)

pub returns-in_err-turn-clause-clock : goal.returns-in_err-turn-clause-clock
returns-in_err-turn-clause-clock g c = in_time (served (returns-in_err-turn-clause-does g c))

pub returns-in_err-turn-clause-addresses : goal.returns-in_err-turn-clause-addresses
returns-in_err-turn-clause-addresses g c = same_addresses (returns-in_err-turn-clause-does g c)

pub returns-in_err-turn-clause-manner : goal.returns-in_err-turn-clause-manner
returns-in_err-turn-clause-manner g c = same_manner (returns-in_err-turn-clause-does g c)

pub returns-in_err-turn-clause-stop : goal.returns-in_err-turn-clause-stop
returns-in_err-turn-clause-stop g c s h t p is = keeps g.D.Disk g.H.AuthHandler g.G.RelayAddressGenerator s h t (served (returns-in_err-turn-clause-does g c)) p is

pub returns-clause-served : goal.returns-clause-served
returns-clause-served g c = served (returns-clause-does g c)

pub returns-clause-clock : goal.returns-clause-clock
returns-clause-clock g c = in_time (served (returns-clause-does g c))

pub returns-clause-addresses : goal.returns-clause-addresses
returns-clause-addresses g c = same_addresses (returns-clause-does g c)

pub returns-clause-manner : goal.returns-clause-manner
returns-clause-manner g c = same_manner (returns-clause-does g c)

pub returns-clause-stop : goal.returns-clause-stop
returns-clause-stop g c s h t p is = keeps g.D.Disk g.H.AuthHandler g.G.RelayAddressGenerator s h t (served (returns-clause-does g c)) p is
