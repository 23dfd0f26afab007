use Rattle.std.proofs.Common.{map, option_map, refl, sym, ap, ◌∙◌}
use Rattle.turn_player.specs.Held.{world_of}
use Rattle.turn_player.specs.Plays.{said_of}
use Rattle.turn_player.proofs.Plays.{goes_on, ran}
use Rattle.turn_player.proofs.player.Player.run.Goals as goal

pub returns-clause-plays : goal.returns-clause-plays
returns-clause-plays g c = λ s same.
    ran _ _ _ s _ _ (world_of c.in-Some.held) (world_of c.in_ok-held.held) _ _ _
    (sym (ap (λ p. p.world) c.self.view_is) ∙ ap (λ o. option_map (λ x. world_of x) o) (sym c.in-Some.ensures.value)) refl (ap (λ l. map said_of l) c.new-events.ensures.items)
    (c.in_ok-held.ensures s (same ∙ sym (ap (λ p. p.config) c.self.view_is)))

pub returns-clause-lives : goal.returns-clause-lives
returns-clause-lives g c = λ form s p same bounds. goes_on _ _ _ s form p _ _ _ _ (λ old new. refl) (λ d. tt) bounds (returns-clause-plays g c s same)
