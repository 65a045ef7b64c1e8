-- What calls that read an archive answer.
use Rattle.std.specs.Prelude.{◌≡◌, ℕ, ◌+◌, ◌-◌, ◌/◌, ◌%◌, ◌<◌, ◌≤◌, ◌^◌, min, Bool, true, not, List, length, get_or, Option, Some, None, Result, Ok, Err, IfSome, nat_le, ◌==◌, ◌&&◌, ◌||◌, if◌then◌else◌}
use Rattle.std.specs.Global.{Vec}
use Rattle.std.specs.Option.{option_map}
use Rattle.lsn_core.specs.byte_words.Numbers.{u32_in}
use Rattle.lsn_core.specs.Files.{Files}
use Rattle.lsn_core.specs.Segment.{segment_bytes}
use Rattle.lsn_core.specs.Sizes.{page_size}
use Rattle.wal_pages.specs.Places.{head_size, IsBehindHead, start_after}
use Rattle.lsn_core.specs.Causes.{Rose}
use Rattle.lsn_core.specs.declared.fault.AreaFault.{AreaFault}
use Rattle.lsn_core.specs.declared.fault.AreaFault.TheVariants as area
use Rattle.wal_pages.specs.wal_heads.Header.{least_total, most_total}
use Rattle.vault.specs.declared.area.Vault.{Ghosts}
use Rattle.wal_archive.specs.Archive.{Archive, archive_of}
use Rattle.wal_archive.specs.Rules.{◌>>=◌, missing, is_ok, not_held, bytes_at, head_at, left_on_page, first_head, entry_bytes, entry_at, next_bytes, set_heads, set_bytes}
use Rattle.wal_archive.specs.declared.fault.Damage.{Damage}
use Rattle.wal_archive.specs.declared.fault.ReadFault.{ReadFault}
use Rattle.wal_archive.specs.declared.fault.ReadFault.TheVariants.{Bad, Failed, NoMemory}

-- bytes that were read from a place on: so many are held, and where fewer came than were wanted the
-- next one isn't
pub record IsRunOf (a : Archive) (x : ℕ) (bytes : List ℕ) (count : ℕ) : Type 0 where
  pub held : (i : ℕ) → i < count → a.byte (x + i) ≡ Some (get_or bytes i 0)
  pub short : count < length bytes → a.byte (x + count) ≡ None

abbrev pub read_fault_of : AreaFault → ReadFault
read_fault_of area.Failed = Failed
read_fault_of area.NoMemory = NoMemory

-- bytes that were read from a place on, with room for so many: each is held, and where fewer came
-- the next one isn't
pub record IsFront (a : Archive) (x room : ℕ) (bytes : List ℕ) : Type 0 where
  pub most : length bytes ≤ room
  pub held : (i : ℕ) → i < length bytes → a.byte (x + i) ≡ Some (get_or bytes i 0)
  pub short : length bytes < room → a.byte (x + length bytes) ≡ None

-- the same over an area that may not tell
abbrev pub ReadsFront : ℕ → Option Files → ℕ → ℕ → List ℕ → Type 0
ReadsFront mib files x room bytes =
    IfSome files (λ m. IsFront (archive_of mib m) x room bytes)

-- a call answers what a rule gives on the archive, where the area tells its files
abbrev pub Says : {A T : Type 0} → (Archive → Result A Damage) → (T → A)
    → ℕ → Option Files → ℕ → ℕ → Result T ReadFault → Type 0
Says rule shown mib files before now (Ok x) =
    IfSome files (λ m. rule (archive_of mib m) ≡ Ok (shown x))
Says rule shown mib files before now (Err (Bad d)) =
    IfSome files (λ m. rule (archive_of mib m) ≡ Err d)
Says rule shown mib files before now (Err Failed) = Rose before now
Says rule shown mib files before now (Err NoMemory) = Unit {0}

-- the same of a call on an area, by what it tells
abbrev pub Tells : {V A T : Type 0} → Ghosts V → (Archive → Result A Damage) → (T → A)
    → ℕ → V → V → Result T ReadFault → Type 0
Tells g rule shown mib old now result =
    Says rule shown mib (g.files old) (g.faults old) (g.faults now) result

-- bytes read into a buffer are those that stand there
abbrev pub TakesFrom : {V : Type 0} → Ghosts V → ℕ → V → V → ℕ → ℕ → List ℕ
    → Result (Unit {0}) ReadFault → Type 0
TakesFrom g mib old now begin x bytes result =
    Tells g (λ a. bytes_at a mib begin x (length bytes)) (λ done. bytes) mib old now result

-- a page's head passes, or is damaged
abbrev pub TellsHead : {V : Type 0} → Ghosts V → ℕ → ℕ → V → V → ℕ → ℕ → Option ℕ
    → Result (Unit {0}) ReadFault → Type 0
TellsHead g mib system old now begin page size result =
    Tells g (λ a. head_at a mib system begin page size) (λ done. 0) mib old now result

-- an entry's own bytes from a place on
abbrev pub TellsEntry : {V : Type 0} → Ghosts V → ℕ → ℕ → V → V → ℕ → ℕ → ℕ
    → Result (Vec ℕ) ReadFault → Type 0
TellsEntry g mib system old now begin x count result =
    Tells g (λ a. entry_bytes a mib system begin count x count) (λ bytes. bytes.items) mib old now
    result

-- the own bytes of the entry that starts at a place
abbrev pub TellsEntryAt : {V : Type 0} → Ghosts V → ℕ → ℕ → V → V → ℕ
    → Result (Vec ℕ) ReadFault → Type 0
TellsEntryAt g mib system old now start result =
    Tells g (λ a. entry_at a mib system start) (λ bytes. bytes.items) mib old now result

abbrev pub items_of : Option (Vec ℕ) → Option (List ℕ)
items_of found = option_map (λ bytes. bytes.items) found

-- what stands behind an end
abbrev pub TellsNext : {V : Type 0} → Ghosts V → ℕ → ℕ → V → V → ℕ
    → Result (Option (Vec ℕ)) ReadFault → Type 0
TellsNext g mib system old now end result =
    Tells g (λ a. next_bytes a mib system end) items_of mib old now result

-- what stands where a cursor is set
abbrev pub TellsSet : {V : Type 0} → Ghosts V → ℕ → ℕ → V → V → ℕ
    → Result (Option (Vec ℕ)) ReadFault → Type 0
TellsSet g mib system old now from result =
    Tells g (λ a. set_bytes a mib system from) items_of mib old now result

-- bytes that were read into a buffer
abbrev pub ReadsRun : ℕ → Option Files → ℕ → List ℕ → ℕ → Type 0
ReadsRun mib files x bytes count = IfSome files (λ m. IsRunOf (archive_of mib m) x bytes count)

-- why a byte isn't held
abbrev pub IsNotHeld : ℕ → Option Files → ℕ → ℕ → Damage → Type 0
IsNotHeld mib files begin x d = IfSome files (λ m. d ≡ not_held (archive_of mib m) mib begin x)

-- what a rule gives that can't be damaged
abbrev pub ok : Bool → Result Bool Damage
ok told = Ok told

-- these bytes stand at a place
abbrev pub ReadsBytes : ℕ → Option Files → ℕ → List ℕ → Type 0
ReadsBytes mib files x bytes =
    IfSome files (λ m. bytes_at (archive_of mib m) mib x x (length bytes) ≡ Ok bytes)

-- how many bytes of an entry a page has behind its head, where so many are still to come
abbrev pub piece_size : ℕ → ℕ → ℕ → ℕ
piece_size mib page left = min left (page_size - head_size mib page)

-- these bytes of an entry, behind a page's head
abbrev pub held_piece : Archive → ℕ → ℕ → ℕ → ℕ → Result (List ℕ) Damage
held_piece a mib begin page left =
    bytes_at a mib begin (page + head_size mib page) (piece_size mib page left)

-- the same, where the head passes with so many still to come
abbrev pub page_piece : Archive → ℕ → ℕ → ℕ → ℕ → ℕ → Result (List ℕ) Damage
page_piece a mib system begin page left =
    head_at a mib system begin page (Some left) >>= λ h. held_piece a mib begin page left

-- whether all that is held from a place on is zero, where anything is and the place has a file
abbrev pub zeros_from : Archive → ℕ → ℕ → Result Bool Damage
zeros_from a mib e =
    if nat_le a.top e then Ok true
    else (if not (a.has_file (e / segment_bytes mib)) then Err (missing (e / segment_bytes mib))
    else Ok (nat_le a.mark e))

-- whether e begins a page whose head passes, and all that is held behind that is zero
abbrev pub ends_with_head : Archive → ℕ → ℕ → ℕ → Bool
ends_with_head a mib system e =
    (e % page_size == 0)
    && (is_ok (head_at a mib system e e (Some 0)) && nat_le a.mark (e + head_size mib e))

-- whether the archive ends at e
abbrev pub ended : Archive → ℕ → ℕ → ℕ → Result Bool Damage
ended a mib system e = zeros_from a mib e >>= λ zeros. Ok (zeros || ends_with_head a mib system e)

-- the own bytes of the entry behind e, where the archive goes on there
abbrev pub entry_behind : Archive → ℕ → ℕ → ℕ → Result (List ℕ) Damage
entry_behind a mib system e =
    first_head a mib system e >>= λ h. entry_at a mib system (start_after mib e)

-- the bytes from an index on begin with a number other than zero
abbrev pub shows_more : List ℕ → ℕ → Bool
shows_more bytes at = nat_le (at + 4) (length bytes) && not (u32_in bytes at == 0)

-- where the page of an end is read from: from the end on, or from the start behind it
abbrev pub front_place : ℕ → ℕ → ℕ
front_place end start = if end % page_size == 0 then end else start

-- an entry may start at a place: it is a multiple of 8 behind its page's head, and so far an
-- archive may reach
pub record MayStart (mib from : ℕ) : Type 0 where
  pub eight : from % 8 ≡ 0
  pub behind : IsBehindHead mib from
  pub most : from ≤ 2 ^ 51

-- as many bytes as they tell, and not more than an entry has
pub record IsEntrySized (bytes : List ℕ) : Type 0 where
  pub total : u32_in bytes 0 ≡ length bytes
  pub least : least_total ≤ length bytes
  pub most : length bytes ≤ most_total

-- the same answers of a call on an area, of the steps of the rules
abbrev pub TellsZero : {V : Type 0} → Ghosts V → ℕ → V → V → ℕ → Result Bool ReadFault → Type 0
TellsZero g mib old now e result =
    Tells g (λ a. zeros_from a mib e) (λ zeros. zeros) mib old now result

abbrev pub TellsPass : {V : Type 0} → Ghosts V → ℕ → ℕ → V → V → ℕ → Result Bool ReadFault
    → Type 0
TellsPass g mib system old now page result =
    Tells g (λ a. ok (is_ok (head_at a mib system page page (Some 0)))) (λ passes. passes) mib
    old now result

abbrev pub TellsHeadEnd : {V : Type 0} → Ghosts V → ℕ → ℕ → V → V → ℕ → Result Bool ReadFault
    → Type 0
TellsHeadEnd g mib system old now e result =
    Tells g (λ a. ok (ends_with_head a mib system e)) (λ ends. ends) mib old now result

abbrev pub TellsEnded : {V : Type 0} → Ghosts V → ℕ → ℕ → V → V → ℕ → Result Bool ReadFault
    → Type 0
TellsEnded g mib system old now e result =
    Tells g (λ a. ended a mib system e) (λ end. end) mib old now result

abbrev pub TellsBehind : {V : Type 0} → Ghosts V → ℕ → ℕ → V → V → ℕ → Result (Vec ℕ) ReadFault
    → Type 0
TellsBehind g mib system old now e result =
    Tells g (λ a. entry_behind a mib system e) (λ bytes. bytes.items) mib old now result

abbrev pub TellsSetHeads : {V : Type 0} → Ghosts V → ℕ → ℕ → V → V → ℕ
    → Result (Unit {0}) ReadFault → Type 0
TellsSetHeads g mib system old now from result =
    Tells g (λ a. set_heads a mib system from) (λ done. 0) mib old now result

-- what is held of the page of an end, from where it is read on
abbrev pub ReadsEnd : ℕ → Option Files → ℕ → ℕ → List ℕ → Type 0
ReadsEnd mib files end start bytes =
    ReadsFront mib files (front_place end start) (left_on_page (front_place end start)) bytes

-- the same answers of a call on an area, of an entry over several pages
abbrev pub TellsHeld : {V : Type 0} → Ghosts V → ℕ → V → V → ℕ → ℕ → ℕ → Result (Vec ℕ) ReadFault
    → Type 0
TellsHeld g mib old now begin page left result =
    Tells g (λ a. held_piece a mib begin page left) (λ piece. piece.items) mib old now result

abbrev pub TellsPiece : {V : Type 0} → Ghosts V → ℕ → ℕ → V → V → ℕ → ℕ → ℕ
    → Result (Vec ℕ) ReadFault → Type 0
TellsPiece g mib system old now begin page left result =
    Tells g (λ a. page_piece a mib system begin page left) (λ piece. piece.items) mib old now
    result
