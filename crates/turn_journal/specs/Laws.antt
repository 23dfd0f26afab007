-- Laws of the definitions.
use Rattle.std.specs.Prelude.{◌≡◌, ℕ, List}
use Rattle.turn_journal.specs.Frames.{HoldsFrames}
use Rattle.turn_journal.specs.Scan.{IsFound, IsBadFrame}
use Rattle.turn_journal.specs.declared.found.Found.{Found}

-- an area holds at most one list of payloads: whoever reads its frames reads what was written
abbrev pub AnAreaHoldsOneLog : Type 0
AnAreaHoldsOneLog = (from limit : ℕ) (payloads others : List (List ℕ)) (content : List ℕ)
    → HoldsFrames from payloads limit content → HoldsFrames from others limit content → payloads ≡ others

-- what a scan finds at a gate is no bad frame
abbrev pub WhatIsFoundIsNotBad : Type 0
WhatIsFoundIsNotBad = (gate limit max_payload : ℕ) (content : List ℕ) (found : Found)
    → IsFound gate limit max_payload content found → IsBadFrame gate limit max_payload content → ⊥
