-- What a call that applies events to a table says.
use Rattle.std.specs.Prelude.{◌≡◌, ◌≢◌, Result, OnOk, IfErr}
use Rattle.turn_store.specs.declared.replay.FrameError.{FrameError}
use Rattle.turn_store.specs.declared.replay.FrameError.TheVariants.{Device, Bad}
use Rattle.turn_table.specs.Prelude.{State}

-- Events that go on are applied, unless memory is out: after Ok they go on and the table is theirs, and Bad comes only if they do not.
pub record Applies (old new : State) (goes theirs : Type 0) (result : Result Unit FrameError) : Type 0 where
  pub bounds : new.bounds ≡ old.bounds
  pub no_device : IfErr result (λ fault. fault ≢ Device)
  pub ok : OnOk result goes
  pub after : OnOk result theirs
  pub bad : IfErr result (λ fault. fault ≡ Bad → goes → ⊥)
