use Rattle.std.proofs.Common.{ap, refl, subst, sym}
use Rattle.turn_engine.specs.Prelude.{now_of}
use Rattle.turn_sockets.specs.Moments.{IsMoment}
use Rattle.turn_serving.proofs.Events.{always, does_failed, does_from, does_in_row, does_never, same_addresses, served}
use Rattle.turn_serving.proofs.Moments.{moment_after, still}
use Rattle.turn_serving.proofs.Turns.{in_time, keeps}
use Rattle.turn_serving.proofs.Visiting.{not_ok}
use Rattle.turn_serving.proofs.serving.Serving.turn.Goals as goal

pub commit_due-requires-clause-current : goal.commit_due-requires-clause-current
commit_due-requires-clause-current g c = subst (λ n. IsMoment (g.T.Time.told c.args.system.now) n n) (ap (λ s. now_of s.server) (sym c.self.view_is)) (still c.in_ok-tally.ensures.current)

pub returns-in_err-commit_left-clause-does : goal.returns-in_err-commit_left-clause-does
returns-in_err-commit_left-clause-does g c = does_failed {least = 0} (not_ok _ c.from_residual.result c.from_residual.ensures.1) (does_never c.commit_left.ensures.does)

pub returns-in_err-tally-clause-does : goal.returns-in_err-tally-clause-does
returns-in_err-tally-clause-does g c =
    does_failed {least = 1} (not_ok _ c.from_residual-in_err-tally.result c.from_residual-in_err-tally.ensures.1)
    (does_in_row {least = 0} {more = 1} (λ d. refl) (does_never c.in_ok-commit_left.ensures.does) c.take.ensures.does)

pub returns-clause-does : goal.returns-clause-does
returns-clause-does g c =
    does_in_row {least = 1} {more = 0} (λ d. refl) (does_in_row {least = 0} {more = 1} (λ d. refl) (does_never c.in_ok-commit_left.ensures.does) c.in_ok-tally.ensures.does) (does_from c.self.view_is c.commit_due.ensures.does)

pub returns-clause-current : goal.returns-clause-current
returns-clause-current g c =
    always c.commit_due.result (subst (λ n. IsMoment (g.T.Time.told c.args.system.now) n (now_of c.commit_due.new.self.server)) c.in_ok-commit_left.ensures.clock
    (moment_after c.in_ok-tally.ensures.current (served (does_from c.self.view_is c.commit_due.ensures.does))))

pub returns-in_err-commit_left-clause-served : goal.returns-in_err-commit_left-clause-served
returns-in_err-commit_left-clause-served g c = served (returns-in_err-commit_left-clause-does g c)

pub returns-in_err-commit_left-clause-clock : goal.returns-in_err-commit_left-clause-clock
returns-in_err-commit_left-clause-clock g c = in_time (served (returns-in_err-commit_left-clause-does g c))

pub returns-in_err-commit_left-clause-addresses : goal.returns-in_err-commit_left-clause-addresses
returns-in_err-commit_left-clause-addresses g c = same_addresses (returns-in_err-commit_left-clause-does g c)

pub returns-in_err-commit_left-clause-stop : goal.returns-in_err-commit_left-clause-stop
returns-in_err-commit_left-clause-stop g c s h t p is = keeps g.D.Disk g.H.AuthHandler g.G.RelayAddressGenerator s h t (served (returns-in_err-commit_left-clause-does g c)) p is

pub returns-in_err-tally-clause-served : goal.returns-in_err-tally-clause-served
returns-in_err-tally-clause-served g c = served (returns-in_err-tally-clause-does g c)

pub returns-in_err-tally-clause-clock : goal.returns-in_err-tally-clause-clock
returns-in_err-tally-clause-clock g c = in_time (served (returns-in_err-tally-clause-does g c))

pub returns-in_err-tally-clause-addresses : goal.returns-in_err-tally-clause-addresses
returns-in_err-tally-clause-addresses g c = same_addresses (returns-in_err-tally-clause-does g c)

pub returns-in_err-tally-clause-stop : goal.returns-in_err-tally-clause-stop
returns-in_err-tally-clause-stop g c s h t p is = keeps g.D.Disk g.H.AuthHandler g.G.RelayAddressGenerator s h t (served (returns-in_err-tally-clause-does g c)) p is

pub returns-clause-served : goal.returns-clause-served
returns-clause-served g c = served (returns-clause-does g c)

pub returns-clause-clock : goal.returns-clause-clock
returns-clause-clock g c = in_time (served (returns-clause-does g c))

pub returns-clause-addresses : goal.returns-clause-addresses
returns-clause-addresses g c = same_addresses (returns-clause-does g c)

pub returns-clause-stop : goal.returns-clause-stop
returns-clause-stop g c s h t p is = keeps g.D.Disk g.H.AuthHandler g.G.RelayAddressGenerator s h t (served (returns-clause-does g c)) p is
