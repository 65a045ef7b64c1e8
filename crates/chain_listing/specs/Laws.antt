-- What the chains of a listing are, beside how they are found.
use Rattle.std.specs.Prelude.{◌≡◌, ◌≤◌, ◌⊎◌, ℕ, true, List, [], ◌∷◌, length, map, Some, None}
use Rattle.chain_check.specs.Chain.{first_fault, label_fault}
use Rattle.chain_check.specs.declared.member.Member.{Member}
use Rattle.chain_listing.specs.Backups.{is_full, backup_of}
use Rattle.chain_listing.specs.Chains.{is_prior, prior_of, chain_of, reaches, newest_in}
use Rattle.chain_listing.specs.Shown.{other_timeline}
use Rattle.chain_listing.specs.declared.backup.Backup.{Backup}

-- ---- chains

-- each of the later members stands on the one before it
abbrev pub AreLinked : List Backup → Backup → List Backup → Type 0
AreLinked backups prior [] = Unit {0}
AreLinked backups prior (member ∷ later) =
    (prior_of backups member ≡ Some prior) × AreLinked backups member later

abbrev pub last_of : Backup → List Backup → Backup
last_of first [] = first
last_of first (member ∷ later) = last_of member later

-- members in order, of which the first is a full backup and this is the last
abbrev pub IsChainTo : List Backup → Backup → List Backup → Type 0
IsChainTo backups last [] = ⊥
IsChainTo backups last (first ∷ later) = (is_full first ≡ true)
    × AreLinked backups first later × (last_of first later ≡ last)

-- such members have these names, and there are 64 at most
pub record HasChain (backups : List Backup) (last : Backup) (names : List (List ℕ)) : Type 0 where
  pub members : List Backup
  pub chain : IsChainTo backups last members
  pub named : names ≡ map (λ b. b.name) members
  pub few : length members ≤ 64

abbrev pub ChainsAreLinked : Type 0
ChainsAreLinked = (backups : List Backup) (last : Backup) (names : List (List ℕ))
    → chain_of backups last ≡ Some names → HasChain backups last names

-- ---- the newest one for a place

abbrev pub IsAmong : Backup → List Backup → Type 0
IsAmong b [] = ⊥
IsAmong b (first ∷ backups) = (b ≡ first) ⊎ IsAmong b backups

-- a backup that is found ends a chain at or before the place
abbrev pub FoundReaches : Type 0
FoundReaches = (backups : List Backup) (upto : ℕ) (last : Backup)
    → newest_in backups upto None backups ≡ Some last
    → IsAmong last backups × (reaches backups upto last ≡ true)

-- and no other that does so has a greater end; one is found where any does
abbrev pub FoundIsNewest : Type 0
FoundIsNewest = (backups : List Backup) (upto : ℕ) (other : Backup)
    → IsAmong other backups → reaches backups upto other ≡ true
    → (last : Backup) × (newest_in backups upto None backups ≡ Some last)
    × (other.end.0 ≤ last.end.0)

-- ---- what `restore` and `combine` judge of a chain by labels

-- a member's label and manifest are such as a folder shows
pub record IsShown (member : Member) : Type 0 where
  pub version : member.manifest.version ≡ 2
  pub timelines : other_timeline member.label ≡ None
  pub start : member.label.start.0 ≡ member.manifest.start

-- and this is listed of it
abbrev pub seen : Member → Backup
seen member = backup_of member.name member.manifest member.label

-- a full backup may be the first member
abbrev pub FullAreFirst : Type 0
FullAreFirst = (member : Member) → IsShown member → is_full (seen member) ≡ true
    → first_fault member ≡ None

-- and one that stands on another may come behind it
abbrev pub PriorsAreBefore : Type 0
PriorsAreBefore = (prior member : Member) → IsShown prior → IsShown member
    → is_prior (seen member) (seen prior) ≡ true → label_fault prior member ≡ None
