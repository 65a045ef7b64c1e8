-- What functions inside the crate answer. No public contract cites these.
use Rattle.std.specs.Prelude.{◌≡◌, ℕ, true, false, Result, Ok, Err, if◌then◌else◌, ◌<◌, ◌^◌, Bool, ◌==◌, ◌&&◌, nat_le, List, [], ◌∷◌, ◌++◌, length, take, min, get_or, codes, Option, Some, None, IfSome}
use Rattle.std.specs.FinMap.{get}
use Rattle.std.specs.Fmt.{decimal}
use Rattle.std.specs.Global.{Vec}
use Rattle.std.specs.Option.{option_map}
use Rattle.lsn_core.specs.Files.{Files}
use Rattle.lsn_core.specs.Names.{segment_name_bytes}
use Rattle.lsn_core.specs.Sizes.{page_size}
use Rattle.vault.specs.Area.{bytes_of}
use Rattle.vault.specs.declared.area.Vault.{Ghosts}
use Rattle.lsn_core.specs.Segment.{StoreSettings, segment_bytes}
use Rattle.lsn_core.specs.Tip.{Tip}
use Rattle.lsn_core.specs.declared.lsn.Lsn.{Lsn}
use Rattle.wal_pages.specs.Places.{start_after, end_of}
use Rattle.wal_record.specs.declared.record.Record.{Record}
use Rattle.wal_record.specs.declared.record.RecordFault.{RecordFault}
use Rattle.wal_record.specs.declared.record.RecordFault.TheVariants as refusal
use Rattle.wal_record.specs.Decoding.{record_at}
use Rattle.wal_record.specs.Sound.{IsSound}
use Rattle.wal_record.specs.Tips.{wal_limit}
use Rattle.wal_archive.specs.declared.fault.Damage.{Damage}
use Rattle.wal_archive.specs.Archive.{is_segment}
use Rattle.wal_archive.specs.Rules.{Found, Gives, Bad, judged, place_behind, refused, as_first}
use Rattle.wal_reader.specs.declared.fault.WalFault.{WalFault}
use Rattle.wal_reader.specs.declared.fault.WalFault.TheVariants.{Damaged, NoMemory}
use Rattle.wal_reader.specs.Causes.{WalCauses, no_causes, CauseOf}
use Rattle.wal_reader.specs.Cursor.{StepAnswer}
use Rattle.wal_reader.specs.Settings.{settings_text, GivesSettings, IsDamagedText, system_at}

-- ---- files

-- the bytes of a file's first page
abbrev pub IsFileFront : Option Files → List ℕ → List ℕ → Type 0
IsFileFront files name bytes = IfSome files (λ m. bytes ≡ take page_size (bytes_of m name))

-- the same; none where the file isn't there
abbrev pub IsFrontIfThere : Option Files → List ℕ → Option (Vec ℕ) → Type 0
IsFrontIfThere files name found =
    IfSome files (λ m. option_map (λ v. v.items) found ≡ option_map (take page_size) (get m name))

-- so many bytes at the start of a buffer are the front of a file, of as many as wanted
abbrev pub IsFrontRead : Option Files → List ℕ → ℕ → List ℕ → ℕ → Type 0
IsFrontRead files name wanted buffer count =
    IfSome files (λ m. take count buffer ≡ take wanted (bytes_of m name))

-- ---- names

-- the name of the file of a segment of the archive, by the segment's number
pub record NamesSegment (mib : ℕ) (name : List ℕ) (seg : ℕ) : Type 0 where
  pub segment : is_segment seg ≡ true
  pub named : name ≡ segment_name_bytes seg mib

-- one of the names is that of a segment's file
abbrev pub IsNamedIn : ℕ → List (List ℕ) → ℕ → Type 0
IsNamedIn mib names seg = (i : ℕ) × (i < length names) × NamesSegment mib (get_or names i []) seg

abbrev pub lesser : Option ℕ → Option ℕ → Option ℕ
lesser None b = b
lesser (Some a) None = Some a
lesser (Some a) (Some b) = Some (min a b)

-- ---- the cursor

-- an entry from a start to an end lies in the room of the WAL
abbrev pub is_in_room : ℕ → ℕ → ℕ → Bool
is_in_room mib start end = nat_le (segment_bytes mib) start && nat_le end (wal_limit mib)

-- what a refusal of the bytes from a place on is to a cursor
abbrev pub fault_at : ℕ → RecordFault → WalFault
fault_at start refusal.Length = Damaged (refused start refusal.Length)
fault_at start refusal.Prev = Damaged (refused start refusal.Prev)
fault_at start refusal.Crc = Damaged (refused start refusal.Crc)
fault_at start (refusal.Unsupported manager info) =
    Damaged (refused start (refusal.Unsupported manager info))
fault_at start refusal.Header = Damaged (refused start refusal.Header)
fault_at start (refusal.Content why) = Damaged (refused start (refusal.Content why))
fault_at start refusal.NoMemory = NoMemory

-- the place that bytes have behind an end, in the room or not
abbrev pub has_room : ℕ → ℕ → List ℕ → Bool
has_room mib end bytes =
    is_in_room mib (start_after mib end) (end_of mib (start_after mib end) (length bytes))

-- bytes behind an end are refused so
abbrev pub judge_causes : ℕ → ℕ → Option Lsn → List ℕ → WalCauses
judge_causes mib end prev bytes = record no_causes {
  damaged = λ damage.
      judged (start_after mib end) (record_at (place_behind mib end bytes) prev bytes) ≡ Bad damage;
}

-- the entry that bytes are behind an end; none where they lie outside the room. No area is asked:
-- its count stands
abbrev pub JudgeAnswer : ℕ → ℕ → Option Lsn → List ℕ → Result (Option Record) WalFault → Type 0
JudgeAnswer mib end prev bytes (Ok None) = has_room mib end bytes ≡ false
JudgeAnswer mib end prev bytes (Ok (Some r)) =
    (has_room mib end bytes ≡ true)
    × ((record_at (place_behind mib end bytes) prev bytes ≡ Ok r) × IsSound r.kind)
JudgeAnswer mib end prev bytes (Err fault) = CauseOf (judge_causes mib end prev bytes) 0 0 fault

-- what a cursor that is set at a place finds where an entry is read there
abbrev pub as_first_at : ℕ → ℕ → Record → Found
as_first_at mib from r =
    if from == start_after mib (segment_bytes mib) then as_first (Gives r) else Gives r

-- the entry, or why it may not be the archive's first one
abbrev pub FirstAnswer : ℕ → ℕ → Record → Result (Option Record) WalFault → Type 0
FirstAnswer mib from r (Ok None) = ⊥
FirstAnswer mib from r (Ok (Some q)) = (q ≡ r) × (as_first_at mib from r ≡ Gives r)
FirstAnswer mib from r (Err fault) =
    (damage : Damage) × (fault ≡ Damaged damage) × (as_first_at mib from r ≡ Bad damage)

-- what stands where a cursor does
abbrev pub StepsFrom : {V : Type 0} → Ghosts V
    → StoreSettings → Bool → Tip → V → V → Result (Option Record) WalFault → Type 0
StepsFrom g s set tip old now result =
    StepAnswer s set tip (g.files old) (g.faults old) (g.faults now) result

-- ---- settings

-- a line of a key and a number, and what stands behind the line
abbrev pub line_of : List ℕ → ℕ → List ℕ → List ℕ
line_of key number tail = key ++ (decimal number ++ (10 ∷ tail))

-- no such line of a 64-bit number stands there
abbrev pub HasNoLine : List ℕ → List ℕ → Type 0
HasNoLine bytes key =
    (number : ℕ) (tail : List ℕ) → number < 2 ^ 64 → bytes ≡ line_of key number tail → ⊥

-- the bytes are the text of no settings of 64-bit numbers
abbrev pub HasNoNumbers : List ℕ → Type 0
HasNoNumbers bytes =
    (mib relseg : ℕ) → mib < 2 ^ 64 → relseg < 2 ^ 64 → bytes ≡ settings_text mib relseg → ⊥

-- what a reader of the file `settings` tells: its numbers, or none where it is damaged
abbrev pub TellsNumbers : Option (List ℕ) → Option (ℕ × ℕ) → Type 0
TellsNumbers file (Some numbers) = GivesSettings file numbers.0 numbers.1
TellsNumbers file None = IsDamagedText file

abbrev pub TellsSettings : Option Files → Option (ℕ × ℕ) → Type 0
TellsSettings files told = IfSome files (λ m. TellsNumbers (get m (codes "settings")) told)

-- the system identifier in the first page of a segment
abbrev pub TellsSystem : ℕ → Option Files → Option ℕ → ℕ → Type 0
TellsSystem mib files seg system = IfSome files (λ m. system ≡ system_at mib m seg)
