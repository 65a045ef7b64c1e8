-- The backups that a command is given by the names of its members, the oldest first, which have to
-- be a chain, or a series of incremental ones: what is found of them, and what is printed where
-- they aren't taken (profile).
use Rattle.std.specs.Prelude.{◌≡◌, ◌<◌, ◌≤◌, ◌⊎◌, ℕ, List, [], ◌∷◌, ◌++◌, length, map, take, slice_get, IfSome, Option, Some, ◌≢◌}
use Rattle.std.specs.Option.{option_map, unwrap_or}
use Rattle.lsn_core.specs.Causes.{Rose}
use Rattle.lsn_core.specs.Files.{Files}
use Rattle.lsn_core.specs.declared.fault.AreaFault.{AreaFault}
use Rattle.lsn_core.specs.declared.fault.AreaFault.TheVariants.{Failed}
use Rattle.vault.specs.Lending.{Names}
use Rattle.vault.specs.Site.{AreaState, Areas}
use Rattle.chain_check.specs.Chain.{most_members, IsAccepted, IsChainRefused}
use Rattle.chain_check.specs.Directory.{IsAsListed}
use Rattle.chain_check.specs.declared.chain.ChainRefusal.{ChainRefusal}
use Rattle.chain_check.specs.declared.link.LinkFault.TheVariants as link
use Rattle.chain_check.specs.declared.member.Member.{Member}
use Rattle.chain_check.specs.declared.refusal.Refusal.{Refusal}
use Rattle.series_check.specs.Series.{IsSeriesAccepted, IsSeriesRefused}
use Rattle.chain_files.specs.Told.{all_told}
use Rattle.command_base.specs.Areas.{backup_name}
use Rattle.command_base.specs.Faults.{memory_text}
use Rattle.command_base.specs.declared.status.Status.{Status}
use Rattle.command_base.specs.declared.status.Status.TheVariants as status
use Rattle.chain_commands.specs.declared.chain.Joining.{Joining}
use Rattle.chain_commands.specs.declared.chain.Joining.TheVariants as join
use Rattle.chain_commands.specs.declared.chain.MembersFault.{MembersFault}
use Rattle.chain_commands.specs.declared.chain.MembersFault.TheVariants as members
use Rattle.chain_commands.specs.Directory.{directory_text, directory_status}
use Rattle.chain_commands.specs.Link.{link_text, link_status}
use Rattle.chain_commands.specs.Verify.{DirectoryRefused}

-- ---- the areas of the members

-- the names of the areas of the members' directories
abbrev pub backup_names : Names → Names
backup_names names = map backup_name names

-- these areas, in the members' order
abbrev pub backup_areas : Names → Areas → List AreaState
backup_areas names areas = map (λ name. areas (backup_name name)) names

-- the files of all of them, where each tells its files
abbrev pub files_told : List AreaState → Option (List Files)
files_told areas = all_told (map (λ area. area.files) areas)

-- how often the area of the member of a place has failed
abbrev pub faults_of : List AreaState → ℕ → ℕ
faults_of areas place = unwrap_or (option_map (λ area. area.faults) (slice_get areas place)) 0

-- the area of the member of a place failed, whose count rose; or memory ran out
abbrev pub BackupFails : List AreaState → List AreaState → ℕ → AreaFault → Type 0
BackupFails old new place why = why ≡ Failed → Rose (faults_of old place) (faults_of new place)

-- ---- the members

-- the files in an area, where they are told, are those of the backup of a name as its manifest
-- lists them, and this is that backup
abbrev pub IsMemberIn : List ℕ → AreaState → Member → Type 0
IsMemberIn name area member =
    IfSome area.files (λ files. (member.name ≡ name) × IsAsListed files member)

-- so it is of each name and area
abbrev pub AreMembersIn : Names → List AreaState → List Member → Type 0
AreMembersIn [] [] [] = Unit {0}
AreMembersIn (name ∷ names) (area ∷ areas) (member ∷ members) =
    IsMemberIn name area member × AreMembersIn names areas members
AreMembersIn [] [] (member ∷ members) = ⊥
AreMembersIn [] (area ∷ areas) members = ⊥
AreMembersIn (name ∷ names) [] members = ⊥
AreMembersIn (name ∷ names) (area ∷ areas) [] = ⊥

-- these members are accepted as a chain, or as a series
abbrev pub IsAcceptedAs : Joining → List Member → Type 0
IsAcceptedAs join.Chain members = IsAccepted members
IsAcceptedAs join.Series members = IsSeriesAccepted members

-- the members of these names are accepted so, and this is the newest of them
pub record IsJoinedTo
    (joining : Joining) (names : Names) (areas : List AreaState) (newest : Member)
    : Type 0 where
  pub older : List Member
  pub are : AreMembersIn names areas (older ++ (newest ∷ []))
  pub accepted : IsAcceptedAs joining (older ++ (newest ∷ []))

-- and of that one this holds
pub record IsOfJoined
    (joining : Joining) (names : Names) (areas : List AreaState) (P : Member → Type 0)
    : Type 0 where
  pub newest : Member
  pub chain : IsJoinedTo joining names areas newest
  pub holds : P newest

-- the same of a chain, and of a series
abbrev pub IsChainTo : Names → List AreaState → Member → Type 0
IsChainTo names areas newest = IsJoinedTo join.Chain names areas newest

abbrev pub IsOfChain : Names → List AreaState → (Member → Type 0) → Type 0
IsOfChain names areas P = IsOfJoined join.Chain names areas P

abbrev pub IsSeriesTo : Names → List AreaState → Member → Type 0
IsSeriesTo names areas newest = IsJoinedTo join.Series names areas newest

abbrev pub IsOfSeries : Names → List AreaState → (Member → Type 0) → Type 0
IsOfSeries names areas P = IsOfJoined join.Series names areas P

-- ---- why members aren't taken

-- the directory of the member of a place is refused, and it is the first one that is
pub record IsFirstRefused (names : Names) (old new : List AreaState) (place : ℕ) (refusal : Refusal)
    : Type 0 where
  pub few : length names ≤ most_members
  pub before : List Member
  pub are : AreMembersIn (take place names) (take place old) before
  pub was : AreaState
  pub there : slice_get old place ≡ Some was
  pub now : AreaState
  pub is : slice_get new place ≡ Some now
  pub refused : DirectoryRefused was now refusal

-- these members are refused as a chain, or as a series
abbrev pub IsRefusedAs : Joining → List Member → ChainRefusal → Type 0
IsRefusedAs join.Chain members refusal = IsChainRefused members refusal
IsRefusedAs join.Series members refusal = IsSeriesRefused members refusal

-- the members are all as listed, and are refused so
pub record IsNotJoined
    (joining : Joining) (names : Names) (areas : List AreaState) (refusal : ChainRefusal)
    : Type 0 where
  pub few : length names ≤ most_members
  pub members : List Member
  pub are : AreMembersIn names areas members
  pub refused : IsRefusedAs joining members refusal

-- there are too many of them, and nothing was looked at
abbrev pub too_many : ChainRefusal
too_many = record { member = most_members; why = link.TooManyMembers }

abbrev pub AreTooMany : Names → ChainRefusal → Type 0
AreTooMany names refusal = (most_members < length names) × (refusal ≡ too_many)

-- why the members of these names aren't taken
abbrev pub MembersRefusedAs :
    Joining → Names → List AreaState → List AreaState → MembersFault → Type 0
MembersRefusedAs joining names old new (members.Directory place refusal) =
    IsFirstRefused names old new place refusal
MembersRefusedAs joining names old new (members.Link refusal) =
    refusal.why ≢ link.NoMemory
    → AreTooMany names refusal ⊎ IsNotJoined joining names old refusal
MembersRefusedAs joining names old new members.NoMemory = Unit {0}

-- the same of a chain
abbrev pub MembersRefused :
    Names → List AreaState → List AreaState → MembersFault → Type 0
MembersRefused names old new fault = MembersRefusedAs join.Chain names old new fault

-- ---- what is printed of that, and the status that it gives

-- the name of the member of a place
abbrev pub name_at : Names → ℕ → List ℕ
name_at names place = unwrap_or (slice_get names place) []

abbrev pub members_fault_text : Names → MembersFault → List ℕ
members_fault_text names (members.Directory place refusal) =
    directory_text (name_at names place) refusal.fault
members_fault_text names (members.Link refusal) =
    link_text (name_at names refusal.member) refusal.why
members_fault_text names members.NoMemory = memory_text

abbrev pub members_status : MembersFault → Status
members_status (members.Directory place refusal) = directory_status refusal.fault
members_status (members.Link refusal) = link_status refusal.why
members_status members.NoMemory = status.Memory
