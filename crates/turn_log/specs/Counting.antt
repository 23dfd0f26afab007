-- How often a second had lines about the same, of so many subjects at most.
use Rattle.std.specs.Prelude.{ℕ, ◌+◌, ◌-◌, ◌^◌, ◌==◌, ◌&&◌, nat_lt, if◌then◌else◌, Bool, List, [], ◌∷◌, ◌++◌, Option, Some, None, length, min, position, slice_index_or, slice_set}
use Rattle.turn_log.specs.declared.cause.Cause.{Cause}
use Rattle.turn_log.specs.declared.cause.Cause.TheVariants.{Realm, Unknown, Integrity, Expired}
use Rattle.turn_log.specs.declared.counts.About.{About}
use Rattle.turn_log.specs.declared.counts.About.TheVariants.{Commit, Repeat, Error}
use Rattle.turn_log.specs.declared.counts.Subject.{Subject}
use Rattle.turn_log.specs.declared.counts.Counted.{Counted}
use Rattle.turn_log.specs.declared.counts.Room.{Room}
use Rattle.turn_log.specs.declared.counts.Room.TheVariants.{Written, Repeated, LeftOut}

-- a number for each cause, and for none
abbrev pub ordinal : Option Cause → ℕ
ordinal None = 0
ordinal (Some Realm) = 1
ordinal (Some Unknown) = 2
ordinal (Some Integrity) = 3
ordinal (Some Expired) = 4

-- a number for what a line is about
abbrev pub number_of : About → ℕ
number_of Commit = 0
number_of Repeat = 1
number_of (Error code) = 2 + code

-- two lines are about the same: address, matter and cause
abbrev pub is_same : Subject → Subject → Bool
is_same a b = (a.ip == b.ip) && ((number_of a.about == number_of b.about) && (ordinal a.cause == ordinal b.cause))

-- the place of a subject among those that were counted
abbrev pub place_in : List Counted → Subject → Option ℕ
place_in counts s = position (λ c. is_same c.subject s) counts

-- one more, up to 2^64 - 1
abbrev pub more : ℕ → ℕ
more n = min (n + 1) (2 ^ 64 - 1)

-- the counts after one more of a subject that has a place
abbrev pub again_at : List Counted → ℕ → List Counted
again_at counts place =
    let c = slice_index_or counts place (record { subject = record { ip = 0; about = Commit; cause = None }; count = 0 }) in
    slice_set counts place (record { subject = c.subject; count = more c.count })

-- the counts after one more of a subject, of which there are so many at most; one that finds no place changes nothing
abbrev pub counted : ℕ → List Counted → Subject → List Counted
counted most counts s = go (place_in counts s) where
  go : Option ℕ → List Counted
  go (Some place) = again_at counts place
  go None = if nat_lt (length counts) most then counts ++ record { subject = s; count = 1 } ∷ [] else counts

-- what comes of a line about a subject, of which so many at most have one: the first of each is written
abbrev pub room_in : ℕ → List Counted → Subject → Room
room_in most counts s = go (place_in counts s) where
  go : Option ℕ → Room
  go (Some place) = Repeated
  go None = if nat_lt (length counts) most then Written else LeftOut
