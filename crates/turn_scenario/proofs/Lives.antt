-- Lives one after another.
use Rattle.std.proofs.Common.{◌≡◌, ◌++◌, ℕ, Bool, false, List, [], ◌∷◌, Some, refl, sym, ap, ◌∙◌, ◌<◌, ◌⊎◌}
use Rattle.turn_cred.specs.Prelude.{Sources}
use Rattle.turn_cred.specs.declared.handler.AuthHandler as handlers
use Rattle.turn_disk.specs.Prelude.{InMemory, Rises}
use Rattle.turn_disk.specs.declared.disk.Disk as disks
use Rattle.turn_ports.specs.declared.generator.RelayAddressGenerator as generators
use Rattle.turn_store.specs.Prelude.{Version, Form, EachImage, RepresentsAt, least_area}
use Rattle.turn_step.specs.Prelude.{Setting}
use Rattle.turn_types.specs.Prelude.{Config}
use Rattle.turn_player.proofs.Worlds.{formatted_represents}
use Rattle.turn_player.specs.Worlds.{Down}
use Rattle.turn_player.specs.Lives.{Input, Life, Point, Said, ends, formatted, goes_on}
use Rattle.turn_player.specs.Plays as plays
use Rattle.turn_player.specs.Plays.{PlayerState}
use Rattle.turn_scenario.specs.Lived.{IsRefused, Lived, LivesOn}

record Joined (s : Setting) (f : Bool) (p q : Point) : Type 0 where
  inputs : List Input
  said : List Said
  life : Life s f p inputs said q

joined : (s : Setting) (f : Bool) (p q r : Point) (inputs later : List Input) (said more : List Said)
    → Life s f p inputs said q → Life s f q later more r → Joined s f p r
joined s f p q r _ later _ more ends l = record { inputs = later; said = more; life = l }
joined s f p q r _ later _ more (goes_on {input = input} {inputs = inputs} {said = said} {later = after} next goes rest) l =
    let j = joined s f next q r inputs later after more rest l in
    record { inputs = input ∷ j.inputs; said = said ++ j.said; life = goes_on next goes j.life }

-- what a run of the player's steps does
pub lives_on : (disk : disks.Ghosts InMemory) (handler : handlers.Ghosts Sources) (ports : generators.Ghosts (ℕ × ℕ)) (old new : PlayerState)
    (inputs : List Input) (said : List Said) → new.config ≡ old.config
    → ((form : Form) (s : Setting) (p : Point) → s.config ≡ old.config → form.bounds ≡ s.config.limits
    → plays.GoesOn disk handler ports form s p old.world inputs said new.world)
    → LivesOn disk handler ports old new
lives_on disk handler ports old new inputs said same runs l =
    let after = runs l.form l.setting l.end l.config l.bounds l.world l.is l.stands in
    let j = joined l.setting false _ l.end after.2.end _ _ _ _ l.life after.2.life in
    record {
      form = l.form;
      setting = l.setting;
      bounds = l.bounds;
      config = l.config ∙ sym same;
      inputs = j.inputs;
      said = j.said;
      end = after.2.end;
      life = j.life;
      world = after.0;
      is = after.1;
      stands = after.2.stands;
    }

-- a player over a formatted disk stands at the start of a life
pub starts : (disk : disks.Ghosts InMemory) (handler : handlers.Ghosts Sources) (ports : generators.Ghosts (ℕ × ℕ)) (form : Form) (p : PlayerState)
    (config : Config) (d : InMemory) (h : Sources) (g : ℕ × ℕ) → p ≡ record { config = config; world = Some (Down d h g) } → form.bounds ≡ config.limits
    → disk.follows_crash_model d → EachImage (disk.trace d).now (RepresentsAt form [] 0) → Lived disk handler ports p
starts disk handler ports form p config d h g is bounds crash_model images =
    let setting : Setting = record { config = config; keys = handler.key_of h; range = ports.range g; pairs = false } in
    record {
      form = form;
      setting = setting;
      bounds = bounds;
      config = sym (ap (λ (q : PlayerState). q.config) is);
      inputs = [];
      said = [];
      end = formatted;
      life = ends;
      world = Down d h g;
      is = ap (λ (q : PlayerState). q.world) is;
      stands = formatted_represents disk handler ports form setting d h g crash_model images refl refl;
    }

pub refused : (version : Version) (area : ℕ) (p q : PlayerState) (config : Config) (d : InMemory) (h : Sources) (g : ℕ × ℕ) → p ≡ record { config = config; world = Some (Down d h g) }
    → q ≡ p → (area < least_area version config.limits) ⊎ Rises 0 d.failures → IsRefused version area q
refused version area p q config d h g is same why = record {
  disk = d;
  keys = h;
  range = g;
  is = ap (λ (x : PlayerState). x.world) (same ∙ is);
  why = rw (ap (λ (x : PlayerState). x.config) (same ∙ is)) why;
}
