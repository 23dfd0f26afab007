-- Where the player of a scenario stands.
use Rattle.std.specs.Prelude.{◌≡◌, ◌<◌, ◌⊎◌, ℕ, false, List, Some}
use Rattle.turn_cred.specs.Prelude.{Sources}
use Rattle.turn_cred.specs.declared.handler.AuthHandler as handlers
use Rattle.turn_disk.specs.Prelude.{Rises, InMemory}
use Rattle.turn_disk.specs.declared.disk.Disk as disks
use Rattle.turn_ports.specs.declared.generator.RelayAddressGenerator as generators
use Rattle.turn_store.specs.Prelude.{Version, Form, least_area}
use Rattle.turn_step.specs.Prelude.{Setting}
use Rattle.turn_player.specs.Lives.{Input, Life, Point, Said, formatted}
use Rattle.turn_player.specs.Plays.{PlayerState}
use Rattle.turn_player.specs.Worlds.{Down, Stands, World}

-- the player stands at the end of a life from a formatted disk on
pub record Lived (disk : disks.Ghosts InMemory) (handler : handlers.Ghosts Sources) (ports : generators.Ghosts (ℕ × ℕ)) (p : PlayerState) : Type 0 where
  pub form : Form
  pub setting : Setting
  pub bounds : form.bounds ≡ setting.config.limits
  pub config : setting.config ≡ p.config
  pub inputs : List Input
  pub said : List Said
  pub end : Point
  pub life : Life setting false formatted inputs said end
  pub world : World InMemory Sources (ℕ × ℕ)
  pub is : p.world ≡ Some world
  pub stands : Stands disk handler ports form setting world end

-- if the player stood at the end of a life from a formatted disk on, it does so still
abbrev pub LivesOn : disks.Ghosts InMemory → handlers.Ghosts Sources → generators.Ghosts (ℕ × ℕ) → PlayerState → PlayerState → Type 0
LivesOn disk handler ports old new = Lived disk handler ports old → Lived disk handler ports new

-- no store was made, for the area is too small or a device call failed
pub record IsRefused (version : Version) (area : ℕ) (p : PlayerState) : Type 0 where
  pub disk : InMemory
  pub keys : Sources
  pub range : ℕ × ℕ
  pub is : p.world ≡ Some (Down disk keys range)
  pub why : (area < least_area version p.config.limits) ⊎ Rises 0 disk.failures
