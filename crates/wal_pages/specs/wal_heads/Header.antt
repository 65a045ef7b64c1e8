-- The header of an entry, which is its first 24 bytes (access/xlogrecord.h).
use Rattle.std.specs.Prelude.{ℕ, ◌/◌, ◌%◌, ◌^◌, Bool, true, List, ◌++◌, length, take, Option, Some, None, nat_lt, ◌==◌, ◌||◌, if◌then◌else◌}
use Rattle.std.specs.Int.{w8, w16, w32, w64}
use Rattle.lsn_core.specs.byte_words.Numbers.{◌>>=◌, number_at}
use Rattle.lsn_core.specs.declared.lsn.Lsn.{Lsn}
use Rattle.wal_crc.specs.Crc.{crc32c}
use Rattle.wal_pages.specs.declared.wal_heads.header.Header.{Header}
use Rattle.wal_pages.specs.declared.wal_heads.header.Form.{Form}
use Rattle.wal_pages.specs.declared.wal_heads.header.Form.TheVariants.{Shutdown, Online, RedoMark, NoOp, BackupEnd, Images, Generic, Create, Truncate, Commit, CommitMore}

-- the least total length of an entry, which is its header's, and the greatest one (profile)
abbrev pub least_total : ℕ
least_total = 24

abbrev pub most_total : ℕ
most_total = 4194304

-- the bytes of the entry at the front, as many as its total length tells
unfoldable pub entry_at : List ℕ → Option (List ℕ)
entry_at bytes =
    number_at w32 bytes >>= λ total.
    if nat_lt total.0 least_total
    || (nat_lt most_total total.0 || nat_lt (length bytes) total.0) then None
    else Some (take total.0 bytes)

-- the header's fields behind its total length, and the bytes behind the header; bytes 18 and 19
-- aren't looked at
unfoldable pub header_at : List ℕ → Option (Header × List ℕ)
header_at bytes = do
  total ← number_at w32 bytes
  xid ← number_at w32 total.1
  prev ← number_at w64 xid.1
  info ← number_at w8 prev.1
  manager ← number_at w8 info.1
  spare ← number_at w16 manager.1
  crc ← number_at w32 spare.1
  Some (
    record {
      xid = xid.0;
      prev = prev.0;
      info = info.0;
      manager = manager.0;
      crc = crc.0;
    },
    crc.1,
  )

-- the sum of an entry, as four bytes hold it: of the bytes behind the header and then of the
-- header's first 20 bytes
abbrev pub entry_sum : List ℕ → List ℕ → ℕ
entry_sum front body = crc32c (body ++ front) % 2 ^ 32

-- an entry that tells this link may stand behind one that starts at a place; None asks for no link
abbrev pub is_linked : Option Lsn → ℕ → Bool
is_linked None at = true
is_linked (Some prev) at = prev.0 == at

-- the kinds of a resource manager, by the upper four bits of the info byte
abbrev pub xlog_form : ℕ → Option Form
xlog_form kind =
    if kind == 0 then Some Shutdown
    else (if kind == 1 then Some Online
    else (if kind == 2 then Some NoOp
    else (if kind == 5 then Some BackupEnd
    else (if kind == 11 then Some Images
    else (if kind == 14 then Some RedoMark
    else None)))))

abbrev pub transaction_form : ℕ → Option Form
transaction_form kind =
    if kind == 0 then Some Commit else (if kind == 8 then Some CommitMore else None)

abbrev pub storage_form : ℕ → Option Form
storage_form kind =
    if kind == 1 then Some Create else (if kind == 2 then Some Truncate else None)

abbrev pub generic_form : ℕ → Option Form
generic_form kind = if kind == 0 then Some Generic else None

-- what kind of entry a manager and an info byte announce
abbrev pub form_of : ℕ → ℕ → Option Form
form_of manager info =
    if manager == 0 then xlog_form (info / 16)
    else (if manager == 1 then transaction_form (info / 16)
    else (if manager == 2 then storage_form (info / 16)
    else (if manager == 20 then generic_form (info / 16)
    else None)))

-- the header of the entry at the front, and the entry's bytes behind it
unfoldable pub parts_at : List ℕ → Option (Header × List ℕ)
parts_at bytes = entry_at bytes >>= header_at
