-- Which bytes are an entry, and which entry they are: the grammar of entries.
use Rattle.std.specs.Prelude.{◌≡◌, ℕ, ◌<◌, ◌≤◌, ◌^◌, true, List, ◌++◌, length, Option, Some, Ok}
use Rattle.std.specs.Int.{w8, w16, w32, w64, to_le_bytes}
use Rattle.lsn_core.specs.declared.lsn.Lsn.{Lsn}
use Rattle.lsn_core.specs.declared.lsn.Place.{Place}
use Rattle.wal_pages.specs.declared.wal_heads.header.Header.{Header}
use Rattle.wal_pages.specs.declared.wal_heads.header.Form.{Form}
use Rattle.wal_record.specs.declared.record.Record.{Record}
use Rattle.wal_pages.specs.wal_heads.Header.{most_total, entry_sum, is_linked, form_of}
use Rattle.wal_pages.specs.wal_heads.Heads.{heads_bytes, AreHeads}
use Rattle.wal_pages.specs.wal_heads.Announcements.{Heads}
use Rattle.wal_record.specs.Content.{said}
use Rattle.wal_record.specs.Decoding.{may_come}

-- the first 20 bytes of a header, with this total length and these bytes 18 and 19
abbrev pub header_front : ℕ → Header → ℕ → List ℕ
header_front total h spare =
    to_le_bytes w32 total ++ (to_le_bytes w32 h.xid ++ (to_le_bytes w64 h.prev
    ++ (to_le_bytes w8 h.info ++ (to_le_bytes w8 h.manager ++ to_le_bytes w16 spare))))

-- a header's numbers have room in its bytes
pub record HeaderFits (h : Header) : Type 0 where
  pub xid : h.xid < 2 ^ 32
  pub prev : h.prev < 2 ^ 64
  pub info : h.info < 2 ^ 8
  pub manager : h.manager < 2 ^ 8
  pub crc : h.crc < 2 ^ 32

-- what stands behind the header
abbrev pub tree_bytes : Heads → List ℕ
tree_bytes heads = heads_bytes heads.0 heads.1 heads.2

-- the bytes are an entry at a place, behind one that starts at a place that may be asked: a header
-- with their number and their sum, announcements of the grammar, and what these say
pub record IsEntry (bytes : List ℕ) (place : Place) (prev : Option Lsn) (r : Record) : Type 0 where
  pub header : Header
  pub spare : ℕ
  pub form : Form
  pub heads : Heads
  pub fits : HeaderFits header
  pub spare_fits : spare < 2 ^ 16
  pub spelled : bytes ≡ header_front (length bytes) header spare
      ++ (to_le_bytes w32 header.crc ++ tree_bytes heads)
  pub most : length bytes ≤ most_total
  pub linked : is_linked prev header.prev ≡ true
  pub summed : header.crc ≡ entry_sum (header_front (length bytes) header spare) (tree_bytes heads)
  pub known : form_of header.manager header.info ≡ Some form
  pub are : AreHeads 0 0 heads.0 heads.1 heads.2
  pub says : said form heads.0 heads.1 heads.2 ≡ Ok r.kind
  pub comes : may_come prev place.start r.kind ≡ true
  pub start : r.start ≡ place.start
  pub end : r.end ≡ place.end
  pub prev_is : r.prev.0 ≡ header.prev
  pub xid_is : r.xid ≡ header.xid

-- where an entry itself says that it stands
abbrev pub own_place : Record → Place
own_place r = record { start = r.start; end = r.end }
