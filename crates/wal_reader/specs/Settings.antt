-- The settings of a WAL: its file `settings` (profile), the timeline of its files, and the system
-- identifier in the first page of its first segment.
use Rattle.std.specs.Prelude.{◌≡◌, ℕ, ◌≤◌, Bool, true, false, Option, Some, None, IfSome, Result, Ok, Err, List, [], ◌∷◌, ◌++◌, codes, length, nat_le, if◌then◌else◌}
use Rattle.std.specs.Fmt.{decimal}
use Rattle.std.specs.List.{list_any}
use Rattle.std.specs.FinMap.{get, keys}
use Rattle.lsn_core.specs.byte_words.Numbers.{u64_in}
use Rattle.lsn_core.specs.Files.{Files}
use Rattle.lsn_core.specs.Names.{segment_name_bytes}
use Rattle.lsn_core.specs.Segment.{IsSegmentMib, IsRelseg, StoreSettings}
use Rattle.lsn_core.specs.Sizes.{most_relseg}
use Rattle.vault.specs.Area.{bytes_of}
use Rattle.wal_archive.specs.Archive.{has_segment}
use Rattle.wal_reader.specs.declared.fault.WalFault.{WalFault}
use Rattle.wal_reader.specs.Causes.{WalCauses, no_causes, CauseOf}
use Rattle.wal_reader.specs.Names.{is_wal_name, IsFirstOther, HasNoOther}

-- ---- the file `settings`

-- its text: two lines
abbrev pub settings_text : ℕ → ℕ → List ℕ
settings_text mib relseg =
    codes "segment-mib " ++ (decimal mib ++ (10 ∷
    (codes "blocks-per-segment " ++ (decimal relseg ++ (10 ∷ [])))))

-- it gives these numbers, in their ranges
pub record IsSettingsText (bytes : List ℕ) (mib relseg : ℕ) : Type 0 where
  pub segment : IsSegmentMib mib
  pub blocks : IsRelseg relseg
  pub text : bytes ≡ settings_text mib relseg

-- the settings that files give: those of the file `settings`, or 16 MiB and 131072 blocks where it
-- isn't there
abbrev pub GivesSettings : Option (List ℕ) → ℕ → ℕ → Type 0
GivesSettings None mib relseg = (mib ≡ 16) × (relseg ≡ most_relseg)
GivesSettings (Some bytes) mib relseg = IsSettingsText bytes mib relseg

-- the file is there and not of its grammar
abbrev pub IsDamagedText : Option (List ℕ) → Type 0
IsDamagedText None = ⊥
IsDamagedText (Some bytes) = (mib relseg : ℕ) → IsSettingsText bytes mib relseg → ⊥

abbrev pub HasDamagedSettings : Files → Type 0
HasDamagedSettings files = IsDamagedText (get files (codes "settings"))

-- ---- the system identifier

-- a segment of the archive has a file
abbrev pub HasSegment : ℕ → Files → ℕ → Type 0
HasSegment mib files seg = has_segment mib files seg ≡ true

-- the least number that has P, or none where no number has it
abbrev pub IsLeastOf : (ℕ → Type 0) → Option ℕ → Type 0
IsLeastOf P None = (n : ℕ) → P n → ⊥
IsLeastOf P (Some least) = P least × ((n : ℕ) → P n → least ≤ n)

-- the identifier that stands in a page head, 0 where its first 32 bytes aren't held
abbrev pub system_in : List ℕ → ℕ
system_in page = if nat_le 32 (length page) then u64_in page 24 else 0

abbrev pub system_at : ℕ → Files → Option ℕ → ℕ
system_at mib files None = 0
system_at mib files (Some seg) = system_in (bytes_of files (segment_name_bytes seg mib))

-- the identifier of a WAL: that of the first page of its least segment, 0 where it has none
pub record IsSystemOf (mib : ℕ) (files : Files) (system : ℕ) : Type 0 where
  pub segment : Option ℕ
  pub least : IsLeastOf (HasSegment mib files) segment
  pub identifier : system ≡ system_at mib files segment

-- ---- the settings

-- there is a WAL: one of the names is 24 upper-case hexadecimal digits
abbrev pub is_wal : Files → Bool
is_wal files = list_any is_wal_name (keys files)

-- the settings of a WAL
pub record IsSettingsOf (files : Files) (s : StoreSettings) : Type 0 where
  pub there : is_wal files ≡ true
  pub given : GivesSettings (get files (codes "settings")) s.segment s.relseg
  pub timeline : HasNoOther s.segment (keys files)
  pub system : IsSystemOf s.segment files s.system

-- there is a WAL, its settings are whole, and this is its first name of another timeline
pub record HasOtherTimeline (files : Files) (name : List ℕ) : Type 0 where
  pub there : is_wal files ≡ true
  pub mib : ℕ
  pub relseg : ℕ
  pub given : GivesSettings (get files (codes "settings")) mib relseg
  pub first : IsFirstOther mib (keys files) name

-- why files have no settings
abbrev pub refusals : Files → WalCauses
refusals files = record no_causes {
  missing = is_wal files ≡ false;
  settings = (is_wal files ≡ true) × HasDamagedSettings files;
  timeline = HasOtherTimeline files;
}

-- the same where the files are told
abbrev pub settings_causes : Option Files → WalCauses
settings_causes files = record no_causes {
  missing = IfSome files (λ m. (refusals m).missing);
  settings = IfSome files (λ m. (refusals m).settings);
  timeline = λ name. IfSome files (λ m. (refusals m).timeline name);
}

-- the settings of the WAL, or why there are none
abbrev pub SettingsAnswer : Option Files → ℕ → ℕ → Result StoreSettings WalFault → Type 0
SettingsAnswer files before now (Ok s) = IfSome files (λ m. IsSettingsOf m s) × IsRelseg s.relseg
SettingsAnswer files before now (Err fault) = CauseOf (settings_causes files) before now fault
