-- What a stream's bytes make, as far as they came.
use Rattle.std.specs.Prelude.{◌≡◌, ◌≤◌, ℕ, List, ◌++◌, map, Some, None}
use Rattle.std.specs.FinMap.{empty}
use Rattle.lsn_core.specs.Segment.{StoreSettings, settings_with}
use Rattle.lsn_core.specs.Store.{Store}
use Rattle.lsn_core.specs.Tip.{Tip}
use Rattle.lsn_core.specs.declared.lsn.Lsn.{Lsn}
use Rattle.wal_record.specs.declared.record.Record.{Record}
use Rattle.wal_record.specs.Tips.{first_tip}
use Rattle.wal_archive.specs.Rules.{Found, End, Gives, Bad}
use Rattle.wal_archive.specs.declared.fault.Damage.{Damage}
use Rattle.wal_reader.specs.Settings.{system_in}
use Rattle.wal_reader.specs.Wal.{stands_behind, ReadsOn}
use Rattle.history.specs.Apply.{apply, apply_all}
use Rattle.history.specs.Whole.{entry_of}
use Rattle.stream_laws.specs.Waiting.{IsCutShort}
use Rattle.stream_laws.specs.Streams.{stream_files}

-- the settings of a stream's archive: those that the follower was given, and the first page's
-- identifier
abbrev pub stream_settings : ℕ → ℕ → List ℕ → StoreSettings
stream_settings mib relseg bytes = settings_with mib relseg (system_in bytes)

-- what stands behind a tip of the archive of a stream
abbrev pub behind_in : ℕ → ℕ → List ℕ → Tip → Found
behind_in mib relseg bytes tip =
    stands_behind (stream_settings mib relseg bytes) (stream_files mib bytes) tip

-- nothing is read yet: the archive ends there, or within an entry or a head
abbrev pub AwaitsMore : Found → Type 0
AwaitsMore End = Unit {0}
AwaitsMore (Gives r) = ⊥
AwaitsMore (Bad d) = IsCutShort d

-- the entries of a stream so far, the tip behind them, and the store that they make from nothing
pub record IsReadSo (mib relseg : ℕ) (bytes : List ℕ) (rs : List Record) (tip : Tip) (store : Store)
    : Type 0 where
  pub walk : ReadsOn (stream_settings mib relseg bytes) (stream_files mib bytes) (first_tip mib)
      rs tip
  pub makes : apply_all empty (map entry_of rs) ≡ Some store

-- a stream is followed so: behind these entries it waits
pub record IsFollowed (mib relseg : ℕ) (bytes : List ℕ) (rs : List Record) (tip : Tip)
    (store : Store) : Type 0 where
  pub read : IsReadSo mib relseg bytes rs tip store
  pub waits : AwaitsMore (behind_in mib relseg bytes tip)

-- why a stream isn't followed on: the archive is damaged, or an entry can't be applied
pub data Unfollowed : Type 0 where
  Damaged : Damage → Unfollowed
  BadDelta : Lsn → Unfollowed

-- what is found behind entries that make a store is refused so
abbrev pub RefusesFound : Store → Found → Unfollowed → Type 0
RefusesFound store (Bad d) (Damaged e) = (e ≡ d) × (IsCutShort d → ⊥)
RefusesFound store (Gives r) (BadDelta at) = (at ≡ r.start) × (apply store (entry_of r) ≡ None)
RefusesFound store End why = ⊥
RefusesFound store (Bad d) (BadDelta at) = ⊥
RefusesFound store (Gives r) (Damaged d) = ⊥

pub record IsUnfollowed (mib relseg : ℕ) (bytes : List ℕ) (why : Unfollowed) : Type 0 where
  pub rs : List Record
  pub tip : Tip
  pub store : Store
  pub read : IsReadSo mib relseg bytes rs tip store
  pub refused : RefusesFound store (behind_in mib relseg bytes tip) why

-- bytes are followed in one way, however they came
abbrev pub FollowingIsOne : Type 0
FollowingIsOne =
    (mib relseg : ℕ) (bytes : List ℕ) (rs qs : List Record) (tip end : Tip) (store other : Store)
    → IsFollowed mib relseg bytes rs tip store → IsFollowed mib relseg bytes qs end other
    → (rs ≡ qs) × (tip ≡ end) × (store ≡ other)

-- what is followed isn't refused
abbrev pub FollowedOrRefused : Type 0
FollowedOrRefused =
    (mib relseg : ℕ) (bytes : List ℕ) (rs : List Record) (tip : Tip) (store : Store)
    (why : Unfollowed)
    → IsFollowed mib relseg bytes rs tip store → IsUnfollowed mib relseg bytes why → ⊥

-- and what is refused is so in one way
abbrev pub RefusedInOneWay : Type 0
RefusedInOneWay =
    (mib relseg : ℕ) (bytes : List ℕ) (why other : Unfollowed)
    → IsUnfollowed mib relseg bytes why → IsUnfollowed mib relseg bytes other → why ≡ other

-- a refusal stays, whatever bytes come
abbrev pub RefusalsStay : Type 0
RefusalsStay =
    (mib relseg : ℕ) (bytes more : List ℕ) (why : Unfollowed) → 1 ≤ mib
    → IsUnfollowed mib relseg bytes why → IsUnfollowed mib relseg (bytes ++ more) why
