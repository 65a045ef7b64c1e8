-- What private functions answer to those that call them. None of it stands in the contract of a
-- public call.
use Rattle.std.specs.Prelude.{◌≡◌, ℕ, ◌-◌, ◌<◌, ◌≤◌, ◌⊎◌, ◌==◌, List, [], ◌∷◌, ◌++◌, length, map, slice_get, Option, Some, None, Result, Ok, Err, IfSome, ◌≢◌}
use Rattle.std.specs.Global.{Vec}
use Rattle.std.specs.List.{position}
use Rattle.std.specs.Option.{option_map, unwrap_or}
use Rattle.std.specs.FinMap.{empty}
use Rattle.lsn_core.specs.byte_words.Numbers.{◌>>=◌}
use Rattle.lsn_core.specs.declared.lsn.Lsn.{Lsn}
use Rattle.lsn_core.specs.Segment.{StoreSettings}
use Rattle.lsn_core.specs.declared.fault.AreaFault.TheVariants.{Failed, NoMemory}
use Rattle.vault.specs.declared.area.Vault.{Ghosts as Vaults}
use Rattle.vault.specs.declared.lending.Held.{Held}
use Rattle.vault.specs.Frame.{IsDurable}
use Rattle.vault.specs.Stops.{Event}
use Rattle.vault.specs.Lending.{Names, AreDistinct, IsNoneOf}
use Rattle.vault.specs.Site.{AreaState, at_home, state_in}
use Rattle.manifest.specs.Listing.{Listing}
use Rattle.recovery.specs.declared.replaying.Replayed.{Replayed}
use Rattle.recovery.specs.Causes.{CauseOf, HasSettings}
use Rattle.chain_check.specs.declared.chain.ChainRefusal.{ChainRefusal}
use Rattle.chain_check.specs.declared.link.LinkFault.TheVariants as link
use Rattle.chain_check.specs.declared.member.Member.{Member}
use Rattle.chain_check.specs.declared.refusal.Refusal.{Refusal}
use Rattle.chain_files.specs.Told.{told_at, faults_at, chain_told}
use Rattle.combine.specs.Calls.{Combines, CombineCause}
use Rattle.incr_merge.specs.Calls.{Merges, MergeCause}
use Rattle.combine.specs.declared.fault.CombineFault.{CombineFault as Uncombined}
use Rattle.combine.specs.declared.fault.CombineFault.TheVariants as uncombined
use Rattle.backup_restore.specs.declared.fault.RestoreFault.{RestoreFault as Unrestored}
use Rattle.backup_restore.specs.declared.fault.RestoreFault.TheVariants as unrestored
use Rattle.chain_commands.specs.declared.restoring.RestoreFault.{RestoreFault}
use Rattle.chain_commands.specs.declared.restoring.RestoreFault.TheVariants as restore
use Rattle.command_base.specs.Areas.{AreaCause, AreaFails, IsClear, IsFull, backup_name}
use Rattle.command_base.specs.Outside.{Never}
use Rattle.store_commands.specs.Inner.{reported}
use Rattle.chain_commands.specs.Verify.{VerifyResult, VerifyAnswer, DirectoryRefused}
use Rattle.chain_commands.specs.declared.chain.Joining.{Joining}
use Rattle.chain_commands.specs.declared.chain.Joining.TheVariants as join
use Rattle.chain_commands.specs.declared.chain.MemberAreas.{MemberAreas}
use Rattle.chain_commands.specs.declared.chain.MembersFault.{MembersFault}
use Rattle.chain_commands.specs.declared.combining.CombineFault.{CombineFault}
use Rattle.chain_commands.specs.declared.combining.CombineFault.TheVariants as combine
use Rattle.chain_commands.specs.Chain.{IsMemberIn, AreMembersIn, IsAcceptedAs, IsRefusedAs, IsJoinedTo, IsChainTo, MembersRefusedAs}
use Rattle.chain_commands.specs.Joined.{CombineSeen, CombineResult, IsListable, JoinAnswer}
use Rattle.chain_commands.specs.Restore.{RestoreSeen, RestoreResult, RestoreAnswer, IsLate, EndsAt, ReadsPast, reading_causes_from}

-- ---- `verify`

-- why `verify` of a backup of this name comes to its answer over the area of its directory
abbrev pub AnswersVerify : {V : Type 0} → Vaults V → List ℕ → V → V → VerifyResult → Type 0
AnswersVerify vaults name area now r =
    VerifyAnswer name Never (state_in vaults area) (state_in vaults now) r

-- ---- the members of a chain

-- each of so many areas is that of a member
abbrev pub AreOwnPlaces : ℕ → List ℕ → Type 0
AreOwnPlaces count places =
    (area : ℕ) → area < count → (member : ℕ) × (slice_get places member ≡ Some area)

-- among names of areas that of each member's stands at its place
abbrev pub StandAt : Names → Names → List ℕ → Type 0
StandAt areas [] [] = Unit {0}
StandAt areas (name ∷ names) (place ∷ places) =
    (slice_get areas place ≡ Some (backup_name name)) × StandAt areas names places
StandAt areas [] (place ∷ places) = ⊥
StandAt areas (name ∷ names) [] = ⊥

-- the areas of these members: each name once
pub record AreMemberAreas (names : Names) (areas : MemberAreas) : Type 0 where
  pub distinct : AreDistinct areas.names.items
  pub stand : StandAt areas.names.items names areas.places.items
  pub own : AreOwnPlaces (length areas.names.items) areas.places.items
  pub few : length areas.names.items ≤ length names

-- the area of one more member stands at this place: it stood there before, or was noted behind the
-- others
abbrev pub PlacesArea : List ℕ → Names → Names → ℕ → Type 0
PlacesArea area old new place =
    ((new ≡ old) × (slice_get old place ≡ Some area))
    ⊎ ((new ≡ old ++ (area ∷ [])) × IsNoneOf area old × (place ≡ length old))

-- what is known of the area of a place, and of those of some places
abbrev pub past_at : {V : Type 0} → Vaults V → List (Held V) → ℕ → Option (List Event)
past_at vaults areas place = slice_get areas place >>= λ held. vaults.past held.area

abbrev pub area_at : {V : Type 0} → Vaults V → List (Held V) → ℕ → AreaState
area_at vaults areas place =
    at_home (told_at vaults areas place) (past_at vaults areas place) (faults_at vaults areas place)

abbrev pub areas_at : {V : Type 0} → Vaults V → List (Held V) → List ℕ → List AreaState
areas_at vaults areas places = map (λ place. area_at vaults areas place) places

-- the directory in the area of a place is that of a member, or is refused
abbrev pub AnswersMember : {V : Type 0} → Vaults V → List ℕ → ℕ → List (Held V) → List (Held V)
    → Result Member Refusal → Type 0
AnswersMember vaults name place areas now (Ok member) =
    IsMemberIn name (area_at vaults areas place) member
AnswersMember vaults name place areas now (Err refusal) =
    DirectoryRefused (area_at vaults areas place) (area_at vaults now place) refusal

-- why members are refused as a chain, or as a series, in the areas of these places
abbrev pub RefusesMembers : {V : Type 0} → Vaults V → Joining → Names → List ℕ
    → List (Held V) → List (Held V) → MembersFault → Type 0
RefusesMembers vaults joining names places areas now fault =
    MembersRefusedAs joining names (areas_at vaults areas places) (areas_at vaults now places)
    fault

-- the members, or why they are refused as either
abbrev pub AnswersMembers : {V : Type 0} → Vaults V → Names → List ℕ → List (Held V) → List (Held V)
    → Result (Vec Member) MembersFault → Type 0
AnswersMembers vaults names places areas now (Ok members) =
    AreMembersIn names (areas_at vaults areas places) members.items
AnswersMembers vaults names places areas now (Err fault) =
    (joining : Joining) → RefusesMembers vaults joining names places areas now fault

-- some members are accepted as a chain, or as a series, or are refused
abbrev pub AnswersJoined : Joining → List Member → Result (Unit {0}) ChainRefusal → Type 0
AnswersJoined joining members (Ok done) = IsAcceptedAs joining members
AnswersJoined joining members (Err refusal) =
    refusal.why ≢ link.NoMemory → IsRefusedAs joining members refusal

-- the members, which are accepted so, or why they are refused
abbrev pub AnswersChain : {V : Type 0} → Vaults V → Joining → Names → List ℕ
    → List (Held V) → List (Held V) → Result (Vec Member) MembersFault → Type 0
AnswersChain vaults joining names places areas now (Ok members) =
    AreMembersIn names (areas_at vaults areas places) members.items
    × IsAcceptedAs joining members.items
AnswersChain vaults joining names places areas now (Err fault) =
    RefusesMembers vaults joining names places areas now fault

-- and the newest of them
abbrev pub AnswersNewest : {V : Type 0} → Vaults V → Joining → Names → List ℕ
    → List (Held V) → List (Held V) → Result Member MembersFault → Type 0
AnswersNewest vaults joining names places areas now (Ok newest) =
    IsJoinedTo joining names (areas_at vaults areas places) newest
AnswersNewest vaults joining names places areas now (Err fault) =
    RefusesMembers vaults joining names places areas now fault

-- ---- `restore`

abbrev pub restore_seen_in :
    {V : Type 0} → Vaults V → List ℕ → V → List (Held V) → V → RestoreSeen
restore_seen_in vaults places wal areas out = record {
  wal = state_in vaults wal;
  members = areas_at vaults areas places;
  out = state_in vaults out;
}

-- why `restore` comes to its answer over the areas of the WAL, of the members and of the output
abbrev pub AnswersRestore : {V : Type 0} → Vaults V → Option Lsn → Names → List ℕ
    → V → List (Held V) → V → V → List (Held V) → V → RestoreResult → Type 0
AnswersRestore vaults upto names places wal areas out wal_now areas_now out_now r =
    RestoreAnswer upto names Never (restore_seen_in vaults places wal areas out)
    (restore_seen_in vaults places wal_now areas_now out_now) r

-- a place that is known is at an end or past it, or is refused
abbrev pub AnswersPlace : Option Lsn → Lsn → Result (Unit {0}) RestoreFault → Type 0
AnswersPlace upto end (Ok done) = IfSome upto (λ target. end.0 ≤ target.0)
AnswersPlace upto end (Err (restore.Early target over)) =
    (upto ≡ Some target) × (over ≡ end) × (target.0 < end.0)
AnswersPlace upto end (Err fault) = ⊥

-- a member can be restored up to a target, as far as is known before anything is written
pub record IsReady (upto : Option Lsn) (member : Member) (wal out : AreaState) (s : StoreSettings)
    : Type 0 where
  pub late : IsLate upto member
  pub clear : IsClear out
  pub given : HasSettings wal.files s
  pub past : ReadsPast s wal.files upto member.label.start member.manifest.end

-- so it can, or is refused
abbrev pub ReadyAnswer : Option Lsn → Member → AreaState → AreaState → AreaState → AreaState
    → Result StoreSettings RestoreFault → Type 0
ReadyAnswer upto member wal out wal_now out_now (Ok settings) =
    IsReady upto member wal out settings
ReadyAnswer upto member wal out wal_now out_now (Err (restore.Early target end)) =
    (end.0 ≡ member.manifest.end) × (target.0 < end.0)
    × ((upto ≡ Some target) ⊎ ((upto ≡ None) × EndsAt wal out member.label.start target))
ReadyAnswer upto member wal out wal_now out_now (Err restore.NotEmpty) =
    IsLate upto member × IsFull out
ReadyAnswer upto member wal out wal_now out_now (Err (restore.Wal why)) =
    IsLate upto member × IsClear out
    × CauseOf (reading_causes_from upto wal.files member.label.start) wal.faults wal_now.faults why
ReadyAnswer upto member wal out wal_now out_now (Err (restore.Out why)) =
    AreaFails out out_now why
ReadyAnswer upto member wal out wal_now out_now (Err fault) = ⊥

abbrev pub AnswersReady : {V : Type 0} → Vaults V → Option Lsn → Member → V → V → V → V
    → Result StoreSettings RestoreFault → Type 0
AnswersReady vaults upto member wal out wal_now out_now r =
    ReadyAnswer upto member (state_in vaults wal) (state_in vaults out)
    (state_in vaults wal_now) (state_in vaults out_now) r

-- what is known before anything is written, or why nothing is
abbrev pub AnswersRestorable : {V : Type 0} → Vaults V → Option Lsn → Names → List ℕ
    → V → List (Held V) → V → V → List (Held V) → V
    → Result (Member × StoreSettings) RestoreFault → Type 0
AnswersRestorable vaults upto names places wal areas out wal_now areas_now out_now (Ok p) =
    IsChainTo names (areas_at vaults areas places) p.0
    × IsReady upto p.0 (state_in vaults wal) (state_in vaults out) p.1
AnswersRestorable vaults upto names places wal areas out wal_now areas_now out_now (Err fault) =
    AnswersRestore vaults upto names places wal areas out wal_now areas_now out_now (Err fault)

-- the first member whose area has a place
abbrev pub member_of : List ℕ → ℕ → ℕ
member_of places area = unwrap_or (position (λ place. place == area) places) (length places)

-- how a restore into an area ends: what was written is as it was, and durable, or, where the WAL
-- couldn't be redone, it is taken away
abbrev pub EndsRestore : {V : Type 0} → Vaults V → List ℕ → Result Replayed Unrestored → V → V
    → RestoreResult → Type 0
EndsRestore vaults places (Ok r) old new (Ok report) =
    (vaults.files new ≡ vaults.files old)
    × ((report ≡ reported r) × IsDurable (vaults.files new) (vaults.past new))
EndsRestore vaults places (Ok r) old new (Err (restore.Out why)) =
    AreaCause (vaults.faults old) (vaults.faults new) why
EndsRestore vaults places (Err (unrestored.Backup f)) old new result =
    result ≡ Err (restore.Backup (member_of places f.area) f.why)
EndsRestore vaults places (Err (unrestored.Out f)) old new result =
    (vaults.faults new ≡ vaults.faults old) × (result ≡ Err (restore.Out f))
EndsRestore vaults places (Err (unrestored.Wal f)) old new (Err (restore.Wal why)) =
    (vaults.files new ≡ option_map (λ m. empty) (vaults.files old)) × (why ≡ f)
EndsRestore vaults places (Err (unrestored.Wal f)) old new (Err (restore.Out why)) =
    AreaCause (vaults.faults old) (vaults.faults new) why
EndsRestore vaults places came old new result = ⊥

-- ---- `combine` and `merge-incr`

abbrev pub combine_seen_in : {V : Type 0} → Vaults V → List ℕ → List (Held V) → V → CombineSeen
combine_seen_in vaults places areas out = record {
  members = areas_at vaults areas places;
  out = state_in vaults out;
}

-- the output is what a chain was combined to, or a series was merged to
abbrev pub Joins : {V : Type 0} → Vaults V → Joining → List ℕ → Member → ℕ
    → List (Held V) → V → ℕ → Type 0
Joins vaults join.Chain places newest when areas out count =
    Combines vaults places newest when areas out count
Joins vaults join.Series places newest when areas out count =
    Merges vaults places newest when areas out count

-- why it wasn't
abbrev pub JoinCause : {V : Type 0} → Vaults V → Joining → List ℕ → Listing
    → List (Held V) → V → List (Held V) → V → Uncombined → Type 0
JoinCause vaults join.Chain places m areas out areas_now out_now why =
    CombineCause vaults m areas out areas_now out_now why
JoinCause vaults join.Series places m areas out areas_now out_now why =
    MergeCause vaults places m areas out areas_now out_now why

-- a manifest can list it
abbrev pub ListsJoined : {V : Type 0} → Vaults V → Joining → List ℕ → Listing → List (Held V)
    → Type 0
ListsJoined vaults joining places m areas = IsListable joining (chain_told vaults areas places) m

-- why joining comes to its answer over the areas of the members and of the output
abbrev pub AnswersJoin : {V : Type 0} → Vaults V → Joining → ℕ → Names → List ℕ
    → List (Held V) → V → List (Held V) → V → CombineResult → Type 0
AnswersJoin vaults joining when names places areas out areas_now out_now r =
    JoinAnswer joining when names Never (combine_seen_in vaults places areas out)
    (combine_seen_in vaults places areas_now out_now) r

-- why members with areas of these places aren't joined
abbrev pub combine_fault : List ℕ → Uncombined → CombineFault
combine_fault places uncombined.NotEmpty = combine.NotEmpty
combine_fault places uncombined.Unlisted = combine.Unlisted (length places - 1)
combine_fault places (uncombined.MemberFailed area) =
    combine.Backup (member_of places area) Failed
combine_fault places uncombined.OutFailed = combine.Out Failed
combine_fault places uncombined.NoMemory = combine.Out NoMemory
