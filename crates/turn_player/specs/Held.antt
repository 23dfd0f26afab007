-- What contracts see of what a player holds.
use Rattle.std.specs.Prelude.{◌≡◌, ◌++◌, List}
use Rattle.turn_player.specs.Lives.{Said}
use Rattle.turn_player.specs.Worlds.{World, Serving, Down}
use Rattle.turn_player.specs.declared.player.Held.{Held}
use Rattle.turn_player.specs.declared.player.Held.TheVariants as held

-- a server with an open store, or a disk alone, as contracts see what a player holds
abbrev pub world_of : {D H G A : Type 0} → Held D H G A → World D H G
world_of (held.Serving server) = Serving server
world_of (held.Down closed) = Down closed.disk closed.handler closed.ports

-- what was said comes after what was said before
pub record Adds (old new : List Said) (P : List Said → Type 0) : Type 0 where
  pub said : List Said
  pub is : new ≡ old ++ said
  pub does : P said
