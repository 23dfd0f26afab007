-- Why a store is refused, and where.
use Rattle.std.specs.Prelude.{◌≡◌, ◌≢◌, ◌⊎◌, ◌<◌, ◌≤◌, ◌+◌, List, ℕ, length}
use Rattle.turn_disk.specs.Prelude.{StandsAt}
use Rattle.turn_history.specs.Prelude.{Event, Contents, Bounds}
use Rattle.turn_journal.specs.Frames.{IsFrame}
use Rattle.turn_journal.specs.Scan.{IsBadFrame}
use Rattle.turn_record.specs.Prelude.{EncodesPayload, EncodesSnapshot, max_payload, max_snapshot}
use Rattle.turn_record.specs.declared.version.Version.{Version}
use Rattle.turn_record.specs.declared.version.Version.TheVariants.{V1}
use Rattle.turn_store.specs.Areas.{version_byte}
use Rattle.turn_store.specs.Head.{IsHead, Beats, NoneIsActive}
use Rattle.turn_store.specs.Layout.{area_size_at, first_area, head_size, second_area, store_size}
use Rattle.turn_store.specs.Replay.{Snapshot, GoOn, GoesOn, ReplaysTo}
use Rattle.turn_store.specs.Superblock.{HasSuperblock, least_area}
use Rattle.turn_store.specs.declared.error.OpenError.{OpenError}
use Rattle.turn_store.specs.declared.error.OpenError.TheVariants.{Device, Memory, NotAStore, LimitsDiffer, Damaged}
use Rattle.turn_store.specs.declared.heads.Head.{Head}

-- a failed device call, or a failed allocation, or damage at a place of which this holds
abbrev pub FaultWith : (ℕ → Type 0) → OpenError → Type 0
FaultWith P Device = Unit {0}
FaultWith P Memory = Unit {0}
FaultWith P NotAStore = ⊥
FaultWith P LimitsDiffer = ⊥
FaultWith P (Damaged place) = P place

-- a failed device call, or a failed allocation
abbrev pub IsPlain : OpenError → Type 0
IsPlain fault = FaultWith (λ place. ⊥) fault

-- ---- An area

-- a content has these bytes, so many, from this position on
pub record HasBytes (at count : ℕ) (bytes content : List ℕ) : Type 0 where
  pub long : length bytes ≡ count
  pub stands : StandsAt at bytes content

-- at this gate there is no frame that an area may have, or one whose payload encodes no batch that goes on
abbrev pub IsBadAt : Version → Bounds → ℕ → ℕ → Snapshot → List ℕ → Type 0
IsBadAt v b gate limit s content =
    IsBadFrame gate limit (max_payload v b) content
    ⊎ ((payload : List ℕ) × IsFrame gate payload content × ((es : List Event) → EncodesPayload v b es payload → GoOn b s es → ⊥))

-- these bytes are a payload that encodes a batch that goes on
pub record ReadsOn (v : Version) (b : Bounds) (s : Snapshot) (at count : ℕ) (t : Snapshot) (content : List ℕ) : Type 0 where
  pub bytes : List ℕ
  pub has : HasBytes at count bytes content
  pub goes : GoesOn v b s bytes t

-- these bytes are no payload that encodes a batch that goes on
pub record ReadsBad (v : Version) (b : Bounds) (s : Snapshot) (at count : ℕ) (content : List ℕ) : Type 0 where
  pub bytes : List ℕ
  pub has : HasBytes at count bytes content
  pub none : (es : List Event) → EncodesPayload v b es bytes → GoOn b s es → ⊥

-- after good frames there is a bad one, at this gate
pub record BreaksAt (v : Version) (b : Bounds) (from limit : ℕ) (s : Snapshot) (content : List ℕ) (gate : ℕ) : Type 0 where
  pub reached : Snapshot
  pub before : ReplaysTo v b from s gate reached content
  pub bad : IsBadAt v b gate limit reached content

-- An area of this size may have this head in a version: it names the version, the area is no smaller than the version's min, and the
-- snapshot is no longer than its longest.
pub record IsHeadOf (v : Version) (b : Bounds) (size : ℕ) (head : Head) : Type 0 where
  pub version : head.version ≡ version_byte v
  pub room : least_area v b ≤ size
  pub short : head.snapshot ≤ max_snapshot v b

-- these bytes encode a table at a moment
pub record IsGoodSnapshot (v : Version) (b : Bounds) (at count : ℕ) (s : Snapshot) (content : List ℕ) : Type 0 where
  pub bytes : List ℕ
  pub has : HasBytes at count bytes content
  pub encodes : EncodesSnapshot v b s.moment s.contents bytes

-- these bytes encode no table
pub record IsBadSnapshot (v : Version) (b : Bounds) (at count : ℕ) (content : List ℕ) : Type 0 where
  pub bytes : List ℕ
  pub has : HasBytes at count bytes content
  pub none : (t : ℕ) (c : Contents) → EncodesSnapshot v b t c bytes → ⊥

-- a bad frame after a good snapshot
abbrev pub IsBadLog : Version → Bounds → ℕ → ℕ → Head → List ℕ → ℕ → Type 0
IsBadLog v b start size head content place =
    (s : Snapshot) × IsGoodSnapshot v b (start + head_size) head.snapshot s content
    × BreaksAt v b (start + head_size + head.snapshot) (start + size) s content place

-- what is wrong with an area, with the place: the first that applies
abbrev pub AreaIsBad : Bounds → ℕ → ℕ → Head → List ℕ → ℕ → Type 0
AreaIsBad b start size head content place =
    ((place ≡ start) × ((v : Version) → IsHeadOf v b size head → ⊥))
    ⊎ ((v : Version) × IsHeadOf v b size head
    × (((place ≡ start + head_size) × IsBadSnapshot v b (start + head_size) head.snapshot content) ⊎ IsBadLog v b start size head content place))

-- ---- A store

-- no area is active, or the active one is bad
pub record StoreIsBad (b : Bounds) (size : ℕ) (content : List ℕ) (place : ℕ) : Type 0 where
  pub first : Head
  pub second : Head
  pub is_first : IsHead first_area first content
  pub is_second : IsHead (second_area size) second content
  pub why : ((place ≡ first_area) × NoneIsActive first second)
      ⊎ ((Beats first second × AreaIsBad b first_area size first content place)
      ⊎ (Beats second first × AreaIsBad b (second_area size) size second content place))

-- The reason of each refusal under these limits: the first that applies.
abbrev pub WhyRefused : Bounds → List ℕ → OpenError → Type 0
WhyRefused b content Device = Unit {0}
WhyRefused b content Memory = Unit {0}
WhyRefused b content NotAStore = (area : ℕ) (its : Bounds) → HasSuperblock area its content → ⊥
WhyRefused b content LimitsDiffer = (area : ℕ) × (its : Bounds) × HasSuperblock area its content × (its ≢ b)
WhyRefused b content (Damaged place) = (area : ℕ) × HasSuperblock area b content
    × (((place ≡ area_size_at) × ((area < least_area V1 b) ⊎ (length content ≢ store_size area)))
    ⊎ ((least_area V1 b ≤ area) × (length content ≡ store_size area) × StoreIsBad b area content place))
