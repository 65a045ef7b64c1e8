-- The reading of entries gives the place that it was told.
use Rattle.std.proofs.Common.{◌≡◌, ℕ, List, take, Option, Ok, sym, ap}
use Rattle.std.specs.Prelude.{◌==◌}
use Rattle.lsn_core.specs.declared.lsn.Lsn.{Lsn}
use Rattle.lsn_core.specs.declared.lsn.Place.{Place}
use Rattle.wal_pages.specs.declared.wal_heads.header.Header.{Header}
use Rattle.wal_record.specs.declared.record.Record.{Record}
use Rattle.wal_record.specs.declared.record.Kind.{Kind}
use Rattle.wal_record.specs.declared.record.RecordFault.TheVariants as faults
use Rattle.wal_record.specs.Outcome.{or_fault}
use Rattle.wal_pages.specs.wal_heads.Header.{parts_at, is_linked, entry_sum}
use Rattle.wal_record.specs.Decoding.{kind_at, may_come, record_in, record_at}
use Rattle.wal_record.proofs.EntryTaken.{went, held, held_at_last}
use Rattle.wal_archive.specs.Laws.{IsFair}

abbrev Keeps : Place → Record → Type 0
Keeps place r = (r.start ≡ place.start) × (r.end ≡ place.end)

record_of : Place → Header → Kind → Record
record_of place h kind = record
    { start = place.start; end = place.end; prev = record { 0 = h.prev }; xid = h.xid; kind = kind }

keeps_in : (place : Place) (prev : Option Lsn) (front : List ℕ) (x : Header × List ℕ) (r : Record)
    → record_in place prev front x ≡ Ok r → Keeps place r
unfolding record_in record_of
keeps_in place prev front (h, body) r e =
    held (is_linked prev h.prev) _ _ r (Keeps place r) e (λ linked g1.
    held (h.crc == entry_sum front body) _ _ r (Keeps place r) g1 (λ summed g2.
    went (kind_at h.manager h.info body) _ r (Keeps place r) g2 (λ kind e3 g3.
    held_at_last (may_come prev place.start kind) (record_of place h kind) _ r (Keeps place r) g3
    (λ comes same.
    (ap (λ (k : Record). k.start) (sym same), ap (λ (k : Record). k.end) (sym same))))))

pub record_is_fair : IsFair record_at
unfolding record_at
record_is_fair place prev bytes r e =
    went (or_fault faults.Length (parts_at bytes)) (record_in place prev (take 20 bytes)) r
    (Keeps place r) e (λ x e1 e2. keeps_in place prev (take 20 bytes) x r e2)
