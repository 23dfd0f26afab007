-- Which stores are carried over to version 2.
use Rattle.std.specs.Prelude.{◌≡◌, ◌≤◌, ◌<◌, ◌^◌, ◌-◌, ◌+◌, ℕ, Bool, true, List, length}
use Rattle.turn_record.specs.declared.version.Version.{Version}
use Rattle.turn_record.specs.declared.version.Version.TheVariants.{V1, V2}
use Rattle.turn_store.specs.Areas.{HoldsIn, Yields}
use Rattle.turn_store.specs.State.{StoreState}
use Rattle.turn_store.specs.Superblock.{least_area}
use Rattle.turn_types.specs.declared.limits.Bounds.{Bounds}

-- an area of a store with areas of this size is active, and of this version and generation, with so many frames
pub record IsActiveAs (size : ℕ) (b : Bounds) (v : Version) (generation frames : ℕ) (content : List ℕ) : Type 0 where
  pub start : ℕ
  pub other : ℕ
  pub snapshot : List ℕ
  pub payloads : List (List ℕ)
  pub active : HoldsIn v (record { bounds = b; area = size }) start other generation snapshot payloads content
  pub yields : Yields other generation content
  pub count : frames ≡ length payloads

-- a store is carried over: it was asked for, the version is the first, an area has room for the second, and there is a next
-- generation
pub record IsCarried (carry : Bool) (size : ℕ) (b : Bounds) (v : Version) (generation : ℕ) : Type 0 where
  pub asked : carry ≡ true
  pub old : v ≡ V1
  pub room : least_area V2 b ≤ size
  pub next : generation < 2 ^ 64 - 1

-- The store that was opened over this content: where it was carried over it is of version 2 and of the next generation, without a
-- frame; else it is as the active area of the content says.
pub record Carries {D : Type 0} (carry : Bool) (content : List ℕ) (store : StoreState D) : Type 0 where
  pub version : Version
  pub generation : ℕ
  pub frames : ℕ
  pub counts : IsActiveAs store.area.size store.bounds version generation frames content
  pub over : IsCarried carry store.area.size store.bounds version generation
      → (store.version ≡ V2) × (store.generation ≡ generation + 1) × (store.frames ≡ 0)
  pub kept : (IsCarried carry store.area.size store.bounds version generation → ⊥)
      → (store.version ≡ version) × (store.generation ≡ generation) × (store.frames ≡ frames)
