-- What a formatting of a disk says.
use Rattle.std.specs.Prelude.{◌≡◌, ◌<◌, ◌↔◌, [], ℕ, Result, Err, OnOk}
use Rattle.turn_disk.specs.Prelude.{Uses}
use Rattle.turn_disk.specs.declared.disk.Disk as disks
use Rattle.turn_record.specs.declared.version.Version.{Version}
use Rattle.turn_store.specs.Areas.{Form}
use Rattle.turn_store.specs.Format.{FormatsInOrder, IsFormatted}
use Rattle.turn_store.specs.Images.{EachImage, RepresentsAt}
use Rattle.turn_store.specs.Superblock.{least_area}
use Rattle.turn_store.specs.declared.formatting.FormatError.{FormatError}
use Rattle.turn_store.specs.declared.formatting.FormatError.TheVariants.{AreaTooSmall, Device}

-- A formatting of a disk as a store of this version and form.
pub record Formats {D : Type 0} (disk : disks.Ghosts D) (v : Version) (form : Form) (old new : D) (result : Result Unit FormatError) : Type 0 where
  -- Device comes with one failed call
  pub uses : Uses disk old new (result ≡ Err Device)
  -- an area below the min size is refused, and nothing is written
  pub too_small : (needed : ℕ) → (result ≡ Err (AreaTooSmall needed)) ↔ ((form.area < least_area v form.bounds) × (needed ≡ least_area v form.bounds))
  pub untouched : form.area < least_area v form.bounds → new ≡ old
  -- the first area is active, with generation 1, and each image represents the empty history
  pub formatted : disk.follows_crash_model new → OnOk result (IsFormatted v form (disk.trace new).now)
  pub done : disk.follows_crash_model new → OnOk result (EachImage (disk.trace new).now (RepresentsAt form [] 0))
  -- from the first sync on a stop leaves an image that holds nothing, or one that represents the empty history
  pub order : disk.follows_crash_model new → FormatsInOrder form (disk.trace old) (disk.trace new)
