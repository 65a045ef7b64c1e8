-- The reading rules: what stands behind an end of the archive, and why nothing does.
use Rattle.std.specs.Prelude.{◌≡◌, ℕ, zero, suc, ◌+◌, ◌-◌, ◌/◌, ◌%◌, min, Bool, true, false, List, [], ◌∷◌, ◌++◌, length, Option, Some, None, Result, Ok, Err, nat_le, not, ◌==◌, ◌&&◌, ◌||◌, if◌then◌else◌}
use Rattle.lsn_core.specs.byte_words.Numbers.{u32_in}
use Rattle.lsn_core.specs.Files.{Files}
use Rattle.lsn_core.specs.Segment.{segment_bytes}
use Rattle.lsn_core.specs.Sizes.{page_size}
use Rattle.lsn_core.specs.Tip.{Tip}
use Rattle.lsn_core.specs.declared.lsn.Lsn.{Lsn}
use Rattle.lsn_core.specs.declared.lsn.Place.{Place}
use Rattle.wal_pages.specs.Places.{head_size, page_of, start_after, end_of}
use Rattle.wal_pages.specs.Heads.{head_fault}
use Rattle.wal_pages.specs.declared.heads.HeadFault.{HeadFault}
use Rattle.wal_pages.specs.wal_heads.Header.{least_total, most_total}
use Rattle.wal_record.specs.Tips.{first_tip, tip_after}
use Rattle.wal_record.specs.declared.record.Record.{Record}
use Rattle.wal_record.specs.declared.record.RecordFault.{RecordFault}
use Rattle.wal_record.specs.declared.record.RecordFault.TheVariants as refusal
use Rattle.wal_record.specs.declared.record.Why.TheVariants.{First}
use Rattle.wal_record.specs.Decoding.{is_own_redo}
use Rattle.wal_archive.specs.Archive.{Archive, archive_of}
use Rattle.wal_archive.specs.declared.fault.Broken.{Broken}
use Rattle.wal_archive.specs.declared.fault.Broken.TheVariants as broken
use Rattle.wal_archive.specs.declared.fault.Damage.{Damage}
use Rattle.wal_archive.specs.declared.fault.Damage.TheVariants as damage

abbrev pub lsn : ℕ → Lsn
lsn at = record { 0 = at }

-- the archive is broken at a place, or a segment is missing
abbrev pub broken_at : ℕ → Broken → Damage
broken_at at why = damage.Broken (lsn at) why

abbrev pub missing : ℕ → Damage
missing seg = damage.Missing seg

-- what a step of the reading goes on with
infixl 10 ◌>>=◌
abbrev pub ◌>>=◌ : {A B : Type 0} → Result A Damage → (A → Result B Damage) → Result B Damage
(Ok x) >>= f = f x
(Err d) >>= f = Err d

-- why a byte isn't held, for an entry or a page's head that is said to begin at a place
unfoldable pub not_held : Archive → ℕ → ℕ → ℕ → Damage
not_held a mib begin x =
    if nat_le a.top x then broken_at begin broken.Torn
    else (if not (a.has_file (x / segment_bytes mib)) then missing (x / segment_bytes mib)
    else broken_at (a.file_end (x / segment_bytes mib)) broken.SegSize)

abbrev pub held_or : Damage → Option ℕ → Result ℕ Damage
held_or d None = Err d
held_or d (Some b) = Ok b

-- so many bytes side by side
unfoldable pub bytes_at : Archive → ℕ → ℕ → ℕ → ℕ → Result (List ℕ) Damage
bytes_at a mib begin x zero = Ok []
bytes_at a mib begin x (suc n) =
    held_or (not_held a mib begin x) (a.byte x) >>= λ b.
    bytes_at a mib begin (x + 1) n >>= λ bs. Ok (b ∷ bs)

abbrev pub head_said : ℕ → Option HeadFault → Result ℕ Damage
head_said page None = Ok 0
head_said page (Some why) = Err (broken_at page (broken.Head why))

-- a page's head is held and passes; None leaves untested what an entry has on the page
unfoldable pub head_at : Archive → ℕ → ℕ → ℕ → ℕ → Option ℕ → Result ℕ Damage
head_at a mib system begin page size =
    bytes_at a mib begin page (head_size mib page) >>= λ bytes.
    head_said page (head_fault mib system page size bytes)

-- how many bytes are from a place to the end of its page
abbrev pub left_on_page : ℕ → ℕ
left_on_page x = page_size - x % page_size

-- the bytes of an entry from a place on, so many, over no more than so many pages
unfoldable pub entry_bytes : Archive → ℕ → ℕ → ℕ → ℕ → ℕ → ℕ → Result (List ℕ) Damage
entry_bytes a mib system begin zero x count = Ok []
entry_bytes a mib system begin (suc pages) x count =
    bytes_at a mib begin x (min count (left_on_page x)) >>= λ front.
    if nat_le count (left_on_page x) then Ok front
    else (head_at a mib system begin (x + left_on_page x) (Some (count - left_on_page x)) >>= λ h.
    entry_bytes a mib system begin pages
    (x + left_on_page x + head_size mib (x + left_on_page x)) (count - left_on_page x) >>= λ more.
    Ok (front ++ more))

-- the total lengths that an entry may tell
abbrev pub is_total : ℕ → Bool
is_total total = nat_le least_total total && nat_le total most_total

-- the own bytes of the entry that starts at a place
unfoldable pub entry_at : Archive → ℕ → ℕ → ℕ → Result (List ℕ) Damage
entry_at a mib system start =
    bytes_at a mib start start 4 >>= λ len.
    if is_total (u32_in len 0)
    then entry_bytes a mib system start (u32_in len 0) start (u32_in len 0)
    else Err (broken_at start broken.Length)

abbrev pub is_ok : {A : Type 0} → Result A Damage → Bool
is_ok (Ok x) = true
is_ok (Err d) = false

-- the archive ends at e: all that is held from e on is zero, or e begins a page whose head passes
-- and all behind it is zero
unfoldable pub ends_at : Archive → ℕ → ℕ → ℕ → Bool
ends_at a mib system e =
    nat_le a.mark e
    || ((e % page_size == 0)
    && (is_ok (head_at a mib system e e (Some 0)) && nat_le a.mark (e + head_size mib e)))

-- the head of the page that begins at e, if one does
abbrev pub first_head : Archive → ℕ → ℕ → ℕ → Result ℕ Damage
first_head a mib system e = if e % page_size == 0 then head_at a mib system e e (Some 0) else Ok 0

-- the own bytes of the entry behind e, and none where the archive ends there
unfoldable pub next_bytes : Archive → ℕ → ℕ → ℕ → Result (Option (List ℕ)) Damage
next_bytes a mib system e =
    if nat_le a.top e then Ok None
    else (if not (a.has_file (e / segment_bytes mib)) then Err (missing (e / segment_bytes mib))
    else (if ends_at a mib system e then Ok None
    else (first_head a mib system e >>= λ h.
    entry_at a mib system (start_after mib e) >>= λ bytes. Ok (Some bytes))))

-- who judges an entry: by its place, the start of the entry before it (None: not tested), and its
-- own bytes
abbrev pub Judge : Type 0
Judge = Place → Option Lsn → List ℕ → Result Record RecordFault

-- how an archive is damaged where an entry that starts at a place is refused. Want of memory is no
-- judgement; no judge answers it
abbrev pub refused : ℕ → RecordFault → Damage
refused start refusal.Length = broken_at start broken.Length
refused start refusal.Prev = broken_at start broken.Prev
refused start refusal.Crc = broken_at start broken.Crc
refused start (refusal.Unsupported manager info) = damage.Unsupported (lsn start) manager info
refused start refusal.Header = broken_at start broken.Header
refused start (refusal.Content why) = damage.Content (lsn start) why
refused start refusal.NoMemory = broken_at start broken.Length

-- what a reader finds behind an end
pub data Found : Type 0 where
  End : Found
  Gives : Record → Found
  Bad : Damage → Found

-- the place of an entry with these bytes behind e
abbrev pub place_behind : ℕ → ℕ → List ℕ → Place
place_behind mib e bytes = record {
  start = lsn (start_after mib e);
  end = lsn (end_of mib (start_after mib e) (length bytes));
}

abbrev pub judged : ℕ → Result Record RecordFault → Found
judged start (Ok r) = Gives r
judged start (Err why) = Bad (refused start why)

abbrev pub found : Judge → ℕ → ℕ → Option Lsn → Result (Option (List ℕ)) Damage → Found
found judge mib e prev (Ok None) = End
found judge mib e prev (Ok (Some bytes)) =
    judged (start_after mib e) (judge (place_behind mib e bytes) prev bytes)
found judge mib e prev (Err d) = Bad d

-- what stands behind a tip
unfoldable pub next_in : Judge → ℕ → ℕ → Archive → Tip → Found
next_in judge mib system a tip =
    found judge mib tip.end (Some (lsn tip.prev)) (next_bytes a mib system tip.end)

-- the heads of the segment and of the page of a place where a cursor is set
abbrev pub set_heads : Archive → ℕ → ℕ → ℕ → Result ℕ Damage
set_heads a mib system from =
    head_at a mib system (from - from % segment_bytes mib) (from - from % segment_bytes mib) None
    >>= λ h. head_at a mib system (page_of from) (page_of from) None

-- the own bytes of the entry that starts where a cursor is set, and none where the archive ends
-- there
unfoldable pub set_bytes : Archive → ℕ → ℕ → ℕ → Result (Option (List ℕ)) Damage
set_bytes a mib system from =
    if not ((from % 8 == 0) && nat_le (head_size mib from) (from % page_size))
    then Err (broken_at from broken.Place)
    else (if nat_le a.top from then Ok None
    else (if not (a.has_file (from / segment_bytes mib))
    then Err (missing (from / segment_bytes mib))
    else (if nat_le a.mark from then Ok None
    else (set_heads a mib system from >>= λ h.
    entry_at a mib system from >>= λ bytes. Ok (Some bytes)))))

-- the archive's first entry has to be a shutdown checkpoint whose redo point is its own start.
-- Where the link is tested the judge tells that; where it isn't, this does
abbrev pub as_first : Found → Found
as_first End = End
as_first (Gives r) =
    if is_own_redo r.start r.kind then Gives r else Bad (damage.Content r.start First)
as_first (Bad d) = Bad d

-- what a cursor that is set at a place finds first
unfoldable pub first_in : Judge → ℕ → ℕ → Archive → ℕ → Found
first_in judge mib system a from =
    if from == start_after mib (segment_bytes mib)
    then as_first (found judge mib from None (set_bytes a mib system from))
    else found judge mib from None (set_bytes a mib system from)

-- from a tip on just these entries come, one behind the other
abbrev pub Walks : Judge → ℕ → ℕ → Archive → Tip → List Record → Tip → Type 0
Walks judge mib system a tip [] last = last ≡ tip
Walks judge mib system a tip (r ∷ rs) last =
    (next_in judge mib system a tip ≡ Gives r)
    × Walks judge mib system a (tip_after tip r) rs last

-- the archive of these files is just these entries, and ends there
pub record IsWal (judge : Judge) (mib system : ℕ) (files : Files) (rs : List Record) (tip : Tip)
    : Type 0 where
  pub walk : Walks judge mib system (archive_of mib files) (first_tip mib) rs tip
  pub ended : next_in judge mib system (archive_of mib files) tip ≡ End

-- behind these entries the archive is damaged so
pub record IsDamaged (judge : Judge) (mib system : ℕ) (files : Files) (rs : List Record)
    (damage : Damage) : Type 0 where
  pub tip : Tip
  pub walk : Walks judge mib system (archive_of mib files) (first_tip mib) rs tip
  pub broken : next_in judge mib system (archive_of mib files) tip ≡ Bad damage
