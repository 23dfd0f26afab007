-- Where a store is.
use Rattle.std.specs.Prelude.{◌≡◌, [], true}
use Rattle.turn_nbd.specs.Views.{InExport}

-- a disk over an export was just opened, to be written: it has made no call
abbrev pub IsConnected : InExport → Type 0
IsConnected opened = (opened.failures ≡ 0) × (opened.events ≡ []) × (opened.can_write ≡ true)
