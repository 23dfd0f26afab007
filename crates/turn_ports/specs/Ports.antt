-- Ports that may be allocated, and what a generator of relayed addresses may pick. A range is its first and its last port,
-- both included. A set of ports is a function from numbers to yes or no.
use Rattle.std.specs.Prelude.{ℕ, ◌≡◌, ◌==◌, ◌≤◌, ◌<◌, ◌+◌, ◌%◌, ◌^◌, ◌&&◌, ◌||◌, Bool, true, false, not, Option, Some, None}

-- a port that may be allocated: below 2^16, of the range, not taken, and even if asked (RFC 8656, section 7.2)
pub record IsFree (range : ℕ × ℕ) (taken : ℕ → Bool) (even : Bool) (port : ℕ) : Type 0 where
  pub is_port : port < 2 ^ 16
  pub in_range : (range.0 ≤ port) × (port ≤ range.1)
  pub untaken : taken port ≡ false
  pub parity : even ≡ true → port % 2 ≡ 0

-- no number is a port that may be allocated
abbrev pub NoneIsFree : ℕ × ℕ → (ℕ → Bool) → Bool → Type 0
NoneIsFree range taken even = (port : ℕ) → ¬ IsFree range taken even port

-- what may be picked: any free port; none only where there is none or the generator failed
abbrev pub MayPick : ℕ × ℕ → (ℕ → Bool) → Bool → Bool → Option ℕ → Type 0
MayPick range taken even failed (Some port) = IsFree range taken even port
MayPick range taken even failed None = failed ≡ false → NoneIsFree range taken even

-- the lowest free port; none exactly where there is none
abbrev pub IsLowestFree : ℕ × ℕ → (ℕ → Bool) → Bool → Option ℕ → Type 0
IsLowestFree range taken even (Some port) =
    IsFree range taken even port × ((other : ℕ) → IsFree range taken even other → port ≤ other)
IsLowestFree range taken even None = NoneIsFree range taken even

-- a pair that may be allocated: an even port and the next one
pub record IsFreePair (range : ℕ × ℕ) (taken : ℕ → Bool) (port : ℕ) : Type 0 where
  pub first : IsFree range taken true port
  pub second : IsFree range taken false (port + 1)

-- no number is the even port of a pair that may be allocated
abbrev pub NoPairIsFree : ℕ × ℕ → (ℕ → Bool) → Type 0
NoPairIsFree range taken = (port : ℕ) → ¬ IsFreePair range taken port

-- what may be picked of pairs: the even port of any free pair; none only where there is none or the generator failed
abbrev pub MayPickPair : ℕ × ℕ → (ℕ → Bool) → Bool → Option ℕ → Type 0
MayPickPair range taken failed (Some port) = IsFreePair range taken port
MayPickPair range taken failed None = failed ≡ false → NoPairIsFree range taken

-- the even port of the lowest free pair; none exactly where there is none
abbrev pub IsLowestFreePair : ℕ × ℕ → (ℕ → Bool) → Option ℕ → Type 0
IsLowestFreePair range taken (Some port) =
    IsFreePair range taken port × ((other : ℕ) → IsFreePair range taken other → port ≤ other)
IsLowestFreePair range taken None = NoPairIsFree range taken

-- a set of ports with one more, if there is one
abbrev pub with_port : (ℕ → Bool) → Option ℕ → ℕ → Bool
with_port held None = held
with_port held (Some new) = λ port. (port == new) || held port

-- a set of ports with one more and the next one, if there is one
abbrev pub with_pair : (ℕ → Bool) → Option ℕ → ℕ → Bool
with_pair held None = held
with_pair held (Some new) = λ port. (port == new) || (port == new + 1) || held port

-- a set of ports without one
abbrev pub without_port : (ℕ → Bool) → ℕ → ℕ → Bool
without_port held gone = λ port. not (port == gone) && held port

-- a port that is picked and released is held no more, and the others are held as before
abbrev pub ReleasesUndoPicks : Type 0
ReleasesUndoPicks = (held : ℕ → Bool) (new port : ℕ) → held new ≡ false → without_port (with_port held (Some new)) new port ≡ held port

-- both ports of a pair, released one after the other, are held no more, and the others are held as before
abbrev pub ReleasesUndoPairs : Type 0
ReleasesUndoPairs = (held : ℕ → Bool) (new port : ℕ) → held new ≡ false → held (new + 1) ≡ false
    → without_port (without_port (with_pair held (Some new)) (new + 1)) new port ≡ held port

-- the count of failures went up by one, modulo 2^64
abbrev pub Failed : ℕ → ℕ → Type 0
Failed old new = new ≡ (old + 1) % 2 ^ 64

-- whether the generator failed between two readings of its count
abbrev pub has_failed : ℕ → ℕ → Bool
has_failed old new = not (old == new)

-- a count of 64 bits that went up by one has another value
abbrev pub FailuresAreSeen : Type 0
FailuresAreSeen = (old new : ℕ) → old < 2 ^ 64 → Failed old new → has_failed old new ≡ true
