-- What a log says of the file of a store.
use Rattle.std.specs.Prelude.{◌==◌, ◌&&◌, not, if◌then◌else◌, Option, Some, None}
use Rattle.turn_service.specs.declared.watch.Place.{Place}
use Rattle.turn_service.specs.declared.watch.Change.{Change}
use Rattle.turn_service.specs.declared.watch.Change.TheVariants.{OtherFile, Size}

-- what has changed between two looks at a path that leads to files: it is another file, by its device or its number, or has another size
abbrev pub change_between : Place → Place → Option Change
change_between opened now =
    if not ((now.device == opened.device) && (now.number == opened.number)) then Some OtherFile
    else if not (now.size == opened.size) then Some (Size now.size)
    else None
