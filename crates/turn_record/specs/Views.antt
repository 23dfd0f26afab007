-- What contracts see of the code's events and allocations.
use Rattle.std.specs.Prelude.{List, None, map}
use Rattle.turn_history.specs.Prelude.{event_of}
use Rattle.turn_history.specs.History as histories
use Rattle.turn_history.specs.declared.event.Event.{Event}
use Rattle.turn_record.specs.declared.entries.Allocation.{Allocation}

-- events of the code as histories have them
abbrev pub events_of : {A : Type 0} → List (Event A) → List histories.Event
events_of es = map event_of es

-- what an Alloc of the code gave, as histories have it, without a token
abbrev pub allocation_of : {A : Type 0} → Allocation A → histories.Allocation
allocation_of a = record { user = a.user; port = a.port; granted = a.granted; tx = a.tx; token = None }
