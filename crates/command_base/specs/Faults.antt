-- What is printed of faults that several commands have, the status that they give, and the number
-- of a status (profile).
use Rattle.std.specs.Prelude.{ℕ, List, [], ◌∷◌, ◌++◌, codes}
use Rattle.std.specs.Fmt.{decimal}
use Rattle.lsn_core.specs.Names.{lsn_bytes, segment_name_bytes}
use Rattle.lsn_core.specs.declared.lsn.Lsn.{Lsn}
use Rattle.lsn_core.specs.declared.fault.AreaFault.{AreaFault}
use Rattle.lsn_core.specs.declared.fault.AreaFault.TheVariants as area
use Rattle.lsn_core.specs.declared.fault.StoreFault.{StoreFault}
use Rattle.lsn_core.specs.declared.fault.StoreFault.TheVariants as store
use Rattle.vault.specs.declared.lending.TakeFault.{TakeFault}
use Rattle.wal_pages.specs.declared.heads.HeadFault.{HeadFault}
use Rattle.wal_pages.specs.declared.heads.HeadFault.TheVariants as head
use Rattle.wal_record.specs.declared.record.Why.{Why}
use Rattle.wal_record.specs.declared.record.Why.TheVariants as content
use Rattle.wal_archive.specs.declared.fault.Broken.{Broken}
use Rattle.wal_archive.specs.declared.fault.Broken.TheVariants as broken
use Rattle.wal_archive.specs.declared.fault.Damage.{Damage}
use Rattle.wal_archive.specs.declared.fault.Damage.TheVariants as damage
use Rattle.recovery.specs.declared.fault.RecoveryFault.{RecoveryFault}
use Rattle.recovery.specs.declared.fault.RecoveryFault.TheVariants as wal
use Rattle.command_base.specs.declared.status.Status.{Status}
use Rattle.command_base.specs.declared.status.Status.TheVariants as status
use Rattle.command_base.specs.Areas.{wal_name, area_name}

-- texts behind each other
abbrev pub joined : List (List ℕ) → List ℕ
joined [] = []
joined (text ∷ []) = text
joined (text ∷ (next ∷ texts)) = text ++ joined (next ∷ texts)

-- the line of a refusal, by its number, name and arguments
abbrev pub refused_line : List ℕ → List ℕ
refused_line text = codes "refused " ++ (text ++ (10 ∷ []))

abbrev pub memory_text : List ℕ
memory_text = codes "61 NoMemory"

-- the device of this area failed, or memory ran out
abbrev pub area_text : List ℕ → AreaFault → List ℕ
area_text name area.Failed = codes "60 DeviceFault " ++ name
area_text name area.NoMemory = memory_text

-- the same of an area of a store
abbrev pub store_text : StoreFault → List ℕ
store_text (store.Failed which) = area_text (area_name which) area.Failed
store_text store.NoMemory = memory_text

-- an area that was to be empty holds a file
abbrev pub full_text : List ℕ → List ℕ
full_text name = codes "41 AreaNotEmpty " ++ name

-- an area wasn't handed out
abbrev pub take_text : TakeFault → List ℕ
take_text fault = area_text fault.area fault.why

-- why the head of a page is none
abbrev pub head_text : HeadFault → List ℕ
head_text head.PageMagic = codes "PageMagic"
head_text head.PageInfo = codes "PageInfo"
head_text head.PageTimeline = codes "PageTimeline"
head_text head.PageAddr = codes "PageAddr"
head_text head.SysId = codes "SysId"
head_text head.PageSizes = codes "PageSizes"
head_text head.RemLen = codes "RemLen"

-- why the archive is broken at a place
abbrev pub broken_text : Broken → List ℕ
broken_text (broken.Head why) = head_text why
broken_text broken.Length = codes "Length"
broken_text broken.Prev = codes "Prev"
broken_text broken.Crc = codes "Crc"
broken_text broken.Header = codes "Header"
broken_text broken.Torn = codes "Torn"
broken_text broken.SegSize = codes "SegSize"
broken_text broken.Place = codes "Place"

-- why what an entry says is refused
abbrev pub content_text : Why → List ℕ
content_text content.CommitBits = codes "CommitBits"
content_text content.Compressed = codes "Compressed"
content_text content.NotApplied = codes "NotApplied"
content_text content.Tablespace = codes "Tablespace"
content_text content.Fork = codes "Fork"
content_text content.Relation = codes "Relation"
content_text content.BlockRange = codes "BlockRange"
content_text content.ImagePage = codes "ImagePage"
content_text content.Fragments = codes "Fragments"
content_text content.Shape = codes "Shape"
content_text content.First = codes "First"

-- a name and a place, and what stands behind these
abbrev pub placed : List ℕ → Lsn → List ℕ → List ℕ
placed name place text = name ++ (lsn_bytes place.0 ++ (32 ∷ text))

-- an archive with segments of so many MiB is damaged
abbrev pub damage_text : ℕ → Damage → List ℕ
damage_text mib (damage.Missing number) = codes "10 WalMissing " ++ segment_name_bytes number mib
damage_text mib (damage.Broken place why) = placed (codes "11 WalDamaged ") place (broken_text why)
damage_text mib (damage.Unsupported place manager info) =
    placed (codes "12 WalUnsupported ") place (decimal manager ++ (32 ∷ decimal info))
damage_text mib (damage.Content place why) =
    placed (codes "14 WalContent ") place (content_text why)

-- the WAL can't be replayed
abbrev pub wal_text : RecoveryFault → List ℕ
wal_text (wal.Damaged mib damage) = damage_text mib damage
wal_text (wal.Short end target) = placed (codes "13 WalShort ") end (lsn_bytes target.0)
wal_text (wal.BadDelta place) = placed (codes "14 WalContent ") place (codes "BadDelta")
wal_text wal.SettingsDamaged = codes "15 SettingsDamaged"
wal_text (wal.Timeline name) = codes "16 WalTimeline " ++ name
wal_text wal.NotInit = codes "43 NotInit"
wal_text wal.Failed = area_text wal_name area.Failed
wal_text wal.NoMemory = memory_text

-- the status of a fault
abbrev pub area_status : AreaFault → Status
area_status area.Failed = status.Device
area_status area.NoMemory = status.Memory

abbrev pub store_status : StoreFault → Status
store_status (store.Failed which) = status.Device
store_status store.NoMemory = status.Memory

abbrev pub wal_status : RecoveryFault → Status
wal_status (wal.Damaged mib damage) = status.Refused
wal_status (wal.Short end target) = status.Refused
wal_status (wal.BadDelta place) = status.Refused
wal_status wal.SettingsDamaged = status.Refused
wal_status (wal.Timeline name) = status.Refused
wal_status wal.NotInit = status.Refused
wal_status wal.Failed = status.Device
wal_status wal.NoMemory = status.Memory

-- the number that the process ends with
abbrev pub code_of : Status → ℕ
code_of status.Done = 0
code_of status.Refused = 1
code_of status.Usage = 2
code_of status.Device = 3
code_of status.Memory = 4
