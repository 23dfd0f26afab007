-- How often each of some keys came: users' names, or ports in two bytes.
use Rattle.std.specs.Prelude.{ℕ, List, Vec, map, unwrap_or}
use Rattle.std.specs.Ordering.{nat_cmp}
use Rattle.std.specs.Cmp.Lexicographic.{slice_cmp}
use Rattle.std.specs.Coded.{Coded, coded_ℕ, coded_list}
use Rattle.std.specs.FinMap.{FinMap, get, insert, from_entries, code}
use Rattle.turn_log.specs.Counting.{more}

-- the counts by their keys
abbrev pub Tallied : Type 0
Tallied = FinMap (slice_cmp nat_cmp) ℕ

-- the code of such counts
abbrev pub tallied_code : Coded Tallied
tallied_code = code (coded_list coded_ℕ) coded_ℕ

-- the counts of a list of keys with their counts
abbrev pub tallied : {A : Type 0} → List (Vec ℕ A × ℕ) → Tallied
tallied entries = from_entries (map (λ e. (e.0.items, e.1)) entries)

-- how often a key came
abbrev pub count_of : Tallied → List ℕ → ℕ
count_of t key = unwrap_or (get t key) 0

-- the counts after one more of a key
abbrev pub one_more : Tallied → List ℕ → Tallied
one_more t key = insert t key (more (count_of t key))
