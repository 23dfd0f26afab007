-- How turns are taken.
use Rattle.std.specs.Prelude.{ℕ, ◌/◌, max}
use Rattle.turn_serving.specs.declared.manner.Commits.{Commits}
use Rattle.turn_serving.specs.declared.manner.Commits.TheVariants.{EachTurn, Paced}
use Rattle.turn_serving.specs.declared.manner.Manner.{Manner}

-- how many datagrams are read in a visit of a socket
abbrev pub reads_by : Commits → ℕ → ℕ
reads_by EachTurn burst = burst
reads_by Paced burst = max (burst / 8) 1

-- the same of how turns are taken
abbrev pub reads_of : Manner → ℕ
reads_of m = reads_by m.commits m.burst
