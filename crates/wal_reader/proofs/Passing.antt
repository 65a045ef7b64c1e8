-- Entries read so far, for a loop over a cursor; and what is known of where a WAL ends.
use Rattle.std.proofs.Common.{◌≡◌, ◌≤◌, List, [], ◌∷◌, Some, sym, subst}
use Rattle.lsn_core.specs.Files.{Files}
use Rattle.lsn_core.specs.Segment.{IsSegmentMib, StoreSettings}
use Rattle.lsn_core.specs.Tip.{Tip}
use Rattle.wal_record.specs.declared.record.Record.{Record}
use Rattle.wal_record.specs.Decoding.{record_at}
use Rattle.wal_record.proofs.Sounding.{read_sound}
use Rattle.wal_record.specs.Tips.{first_tip, tip_after, tip_behind}
use Rattle.wal_archive.specs.Archive.{archive_of}
use Rattle.wal_archive.specs.Rules.{lsn, Gives}
use Rattle.wal_archive.proofs.Next.{next_stands}
use Rattle.wal_archive.proofs.Chain.{given}
use Rattle.wal_reader.specs.Wal.{stands_behind, ReadsOn, IsWal}
use Rattle.wal_reader.specs.Cursor.{IsReached, IsGiven}
use Rattle.wal_reader.proofs.Reached.{base, first_reached}
use Rattle.wal_reader.proofs.Room.{next_room}
use Rattle.wal_reader.proofs.Steps.{given as given_read}

-- the last of them tells the tip
pub reads_tip : (s : StoreSettings) (files : Files) (tip : Tip) (rs : List Record) (last : Tip) → ReadsOn s files tip rs last → last ≡ tip_behind tip rs
reads_tip s files tip [] last walk = walk
reads_tip s files tip (r ∷ rs) last walk = reads_tip s files (tip_after tip r) rs last walk.1

-- an entry that stands behind a tip is what a cursor gives there
pub stands_given : (s : StoreSettings) (files : Files) (tip : Tip) (r : Record) → 1 ≤ s.segment → IsReached s.segment tip → stands_behind s files tip ≡ Gives r → IsGiven s.segment tip r
stands_given s files tip r some is gives =
    let g = given record_at s.segment s.system (archive_of s.segment files) tip r gives in
    let stands = next_stands (archive_of s.segment files) s.segment s.system tip.end g.bytes some is.ends g.read in
    given_read s.segment tip (Some (lsn tip.prev)) g.bytes r some (base s.segment tip is) stands.least (next_room s.segment s.system files tip.end g.bytes some is.ends g.read) g.taken (read_sound _ _ g.bytes r g.taken)

-- so each end that is read is one that an entry may have, in the room of the WAL
pub reads_reached : (s : StoreSettings) (files : Files) (tip : Tip) (rs : List Record) (last : Tip) → 1 ≤ s.segment → IsReached s.segment tip → ReadsOn s files tip rs last → IsReached s.segment last
reads_reached s files tip [] last some is walk = subst (IsReached s.segment) (sym walk) is
reads_reached s files tip (r ∷ rs) last some is walk = reads_reached s files (tip_after tip r) rs last some (stands_given s files tip r some is walk.0).reached walk.1

pub wal_reached : (s : StoreSettings) (files : Files) (rs : List Record) (tip : Tip) → IsSegmentMib s.segment → IsWal s files rs tip → IsReached s.segment tip
wal_reached s files rs tip size wal = reads_reached s files (first_tip s.segment) rs tip size.least (first_reached s.segment size) wal.walk
