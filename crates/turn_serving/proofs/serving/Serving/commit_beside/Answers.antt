use Rattle.std.proofs.Common.{ap, refl, ◌∙◌}
use Rattle.turn_serving.specs.Reading.{meanwhile_flow}
use Rattle.turn_serving.specs.Visits.{flow}
use Rattle.turn_serving.proofs.Events.{commits_as, rounds_beside}
use Rattle.turn_serving.proofs.Visiting.{all_beside}
use Rattle.turn_serving.proofs.serving.Serving.commit_beside.Goals as goal

pub returns-clause-call : goal.returns-clause-call
returns-clause-call g c = commits_as (ap (λ s. s.server) c.self.view_is) c.commit_while-committed.ensures.call

pub returns-clause-reads : goal.returns-clause-reads
returns-clause-reads g c =
    rounds_beside c.self.view_is (all_beside c.commit_while-committed.ensures.meanwhile) refl refl (ap (λ t. t.schedule) c.replace.ensures.value) (ap (λ t. flow t.intake.backlog t.intake.record.passed) c.replace.ensures.value)
    (ap (λ t. t.schedule) c.replace-2.ensures.after ∙ ap (λ m. m.agenda) c.meanwhile.view_is)
    (ap (λ t. flow t.intake.backlog t.intake.record.passed) c.replace-2.ensures.after ∙ ap meanwhile_flow c.meanwhile.view_is) (ap (λ m. m.fault) c.meanwhile.view_is)
