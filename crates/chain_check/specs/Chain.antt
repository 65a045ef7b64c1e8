-- The chains of backups that may be combined, each member an incremental backup over the one before
-- but the first (PostgreSQL manual, pg_combinebackup).
use Rattle.std.specs.Prelude.{◌≡◌, ◌≤◌, ◌<◌, ◌⊎◌, ℕ, ◌+◌, true, false, List, [], ◌∷◌, length, not, ◌==◌, ◌||◌, nat_lt, Option, Some, None, if◌then◌else◌}
use Rattle.std.specs.List.{AllByRecursion, find}
use Rattle.std.specs.Option.{option_map, option_or, unwrap_or}
use Rattle.lsn_core.specs.declared.lsn.Lsn.{Lsn}
use Rattle.backup_label.specs.declared.label.Label.{Label}
use Rattle.manifest.specs.declared.listing.FileRow.{FileRow}
use Rattle.chain_files.specs.Paths.{file_path, IsIncrementalPath}
use Rattle.chain_check.specs.Directory.{is_listed}
use Rattle.chain_check.specs.declared.member.Member.{Member}
use Rattle.chain_check.specs.declared.link.LinkFault.{LinkFault}
use Rattle.chain_check.specs.declared.link.LinkFault.TheVariants.{TooManyMembers, ManifestVersion, TimelineDiffers, FirstIncremental, LaterFull, SystemDiffers, WrongPrior, Overlap, NoPriorFile}
use Rattle.chain_check.specs.declared.chain.ChainRefusal.{ChainRefusal}

-- ---- what label and manifest of a member tell

-- the timelines that a label tells, in the order of its lines: that on which the backup was begun,
-- and that of its prior
abbrev pub prior_timelines : Option (Lsn × ℕ) → List ℕ
prior_timelines None = []
prior_timelines (Some prior) = prior.1 ∷ []

abbrev pub timelines_of : Label → List ℕ
timelines_of label = label.timeline ∷ prior_timelines label.prior

-- all of them are 1
abbrev pub IsOnOneTimeline : Label → Type 0
IsOnOneTimeline label = AllByRecursion (λ timeline. timeline ≡ 1) (timelines_of label)

-- the system identifier: a manifest of version 2 tells one
abbrev pub system_of : Member → ℕ
system_of member = unwrap_or member.manifest.system 0

-- ---- chains that are accepted

-- the first member: a full backup, whose manifest is of version 2
pub record IsFirst (member : Member) : Type 0 where
  pub version : member.manifest.version ≡ 2
  pub timelines : IsOnOneTimeline member.label
  pub full : member.label.prior ≡ None

-- a file of this path can be rebuilt from a backup with these rows: where it is incremental, they
-- list it in one of its two forms
pub record IsHeld (rows : List FileRow) (path : List ℕ) : Type 0 where
  pub listed : (f : IsIncrementalPath path)
      → (is_listed rows path || is_listed rows (file_path f.folder f.name false)) ≡ true

-- a later member and its predecessor: its manifest is of version 2, it names the predecessor's
-- start, is of the same store, starts where the predecessor has ended, and the predecessor has its
-- incremental files in a form
pub record IsLinked (prior member : Member) : Type 0 where
  pub version : member.manifest.version ≡ 2
  pub timelines : IsOnOneTimeline member.label
  pub system : system_of member ≡ system_of prior
  pub timeline : ℕ
  pub named : member.label.prior ≡ Some (prior.label.start, timeline)
  pub behind : prior.manifest.end ≤ member.label.start.0
  pub held : AllByRecursion (λ row. IsHeld prior.manifest.files row.path) member.manifest.files

-- members in order, each later one linked to the one before
abbrev pub AreLinked : Member → List Member → Type 0
AreLinked prior [] = Unit {0}
AreLinked prior (member ∷ later) = IsLinked prior member × AreLinked member later

abbrev pub IsChain : List Member → Type 0
IsChain [] = ⊥
IsChain (first ∷ later) = IsFirst first × AreLinked first later

-- the most members of a chain (profile)
abbrev pub most_members : ℕ
most_members = 64

-- a chain that is accepted, its oldest member first
pub record IsAccepted (members : List Member) : Type 0 where
  pub few : length members ≤ most_members
  pub chain : IsChain members

-- ---- the first fault of a chain that isn't

-- the version of its manifest isn't 2
abbrev pub version_fault : Member → Option LinkFault
version_fault member =
    if member.manifest.version == 2 then None else Some (ManifestVersion member.manifest.version)

-- the first timeline that isn't 1
abbrev pub timeline_fault : Label → Option LinkFault
timeline_fault label =
    option_map (λ t. TimelineDiffers t) (find (λ t. not (t == 1)) (timelines_of label))

-- what the first member is refused for: its version, a timeline, or that it names a prior
abbrev pub first_fault : Member → Option LinkFault
first_fault member =
    option_or (version_fault member)
    (option_or (timeline_fault member.label)
    (option_map (λ prior. FirstIncremental) member.label.prior))

-- what a later member that names this prior start is refused for: another system identifier than
-- its predecessor's, another start, or a start before the predecessor's end
abbrev pub system_fault : Member → Member → Option LinkFault
system_fault prior member =
    if system_of member == system_of prior then None
    else Some (SystemDiffers (system_of member) (system_of prior))

abbrev pub prior_fault : Member → Lsn → Option LinkFault
prior_fault prior start =
    if start.0 == prior.label.start.0 then None else Some (WrongPrior start prior.label.start)

abbrev pub overlap_fault : Member → Member → Option LinkFault
overlap_fault prior member =
    if nat_lt member.label.start.0 prior.manifest.end
    then Some (Overlap member.label.start (record { 0 = prior.manifest.end })) else None

abbrev pub named_fault : Member → Member → Option (Lsn × ℕ) → Option LinkFault
named_fault prior member None = Some LaterFull
named_fault prior member (Some named) =
    option_or (system_fault prior member)
    (option_or (prior_fault prior named.0) (overlap_fault prior member))

-- what it is refused for by its version, the two labels and system identifiers: the version, a
-- timeline, that it names no prior, or one of these
abbrev pub label_fault : Member → Member → Option LinkFault
label_fault prior member =
    option_or (version_fault member)
    (option_or (timeline_fault member.label) (named_fault prior member member.label.prior))

-- the first of some rows, in their order, whose incremental file isn't held by these
abbrev pub IsFirstUnheld : List FileRow → List FileRow → List ℕ → Type 0
IsFirstUnheld held [] path = ⊥
IsFirstUnheld held (row ∷ rows) path =
    ((row.path ≡ path) × (IsHeld held row.path → ⊥))
    ⊎ (IsHeld held row.path × IsFirstUnheld held rows path)

-- a later member is refused so: for what labels tell, and, where that is nothing, for a file
abbrev pub RefusesLater : Member → Member → LinkFault → Type 0
RefusesLater prior member (NoPriorFile path) =
    (label_fault prior member ≡ None)
    × IsFirstUnheld prior.manifest.files member.manifest.files path
RefusesLater prior member why = label_fault prior member ≡ Some why

-- the first of the later members, in their order, the first being of this place, that is refused
abbrev pub IsFirstUnlinked : ℕ → Member → List Member → ChainRefusal → Type 0
IsFirstUnlinked place prior [] refusal = ⊥
IsFirstUnlinked place prior (member ∷ later) refusal =
    ((refusal.member ≡ place) × RefusesLater prior member refusal.why)
    ⊎ (IsLinked prior member × IsFirstUnlinked (place + 1) member later refusal)

abbrev pub RefusesMember : List Member → ChainRefusal → Type 0
RefusesMember [] refusal = ⊥
RefusesMember (first ∷ later) refusal =
    ((refusal.member ≡ 0) × (first_fault first ≡ Some refusal.why))
    ⊎ (IsFirst first × IsFirstUnlinked 1 first later refusal)

-- the chain is refused so: for its length, and else for the first member that is refused
abbrev pub IsChainRefused : List Member → ChainRefusal → Type 0
IsChainRefused members refusal =
    ((most_members < length members) × (refusal.member ≡ most_members)
    × (refusal.why ≡ TooManyMembers))
    ⊎ ((length members ≤ most_members) × RefusesMember members refusal)
