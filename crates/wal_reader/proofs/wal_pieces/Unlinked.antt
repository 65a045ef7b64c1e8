-- An entry that is taken behind another one is taken where no link is asked for.
use Rattle.std.proofs.Common.{◌≡◌, ℕ, true, List, take, Some, None, Result, Ok, subst, ap}
use Rattle.std.specs.Prelude.{◌==◌}
use Rattle.lsn_core.specs.declared.lsn.Lsn.{Lsn}
use Rattle.lsn_core.specs.declared.lsn.Place.{Place}
use Rattle.wal_pages.specs.declared.wal_heads.header.Header.{Header}
use Rattle.wal_pages.specs.wal_heads.Header.{parts_at, is_linked, entry_sum}
use Rattle.wal_record.specs.declared.record.Record.{Record}
use Rattle.wal_record.specs.declared.record.RecordFault.{RecordFault}
use Rattle.wal_record.specs.declared.record.RecordFault.TheVariants as faults
use Rattle.wal_record.specs.Outcome.{or_fault}
use Rattle.wal_record.specs.Decoding.{is_own_redo, kind_at, may_come, record_in, record_at}
use Rattle.wal_record.proofs.EntryTaken.{went, held, held_at_last}
use Rattle.wal_archive.specs.Rules.{lsn}

abbrev takes : Record → Result Record RecordFault
takes r = Ok r

unlinked_in : (place : Place) (prev : Lsn) (front : List ℕ) (x : Header × List ℕ) (r : Record) → record_in place (Some prev) front x ≡ Ok r → record_in place None front x ≡ Ok r
unfolding record_in
unlinked_in place prev front (h, body) r e =
    let P : Type 0 = record_in place None front (h, body) ≡ Ok r in
    held (is_linked (Some prev) h.prev) _ _ r P e (λ linked g1.
    held (h.crc == entry_sum front body) _ _ r P g1 (λ summed g2.
    went (kind_at h.manager h.info body) _ r P g2 (λ kind e3 g3.
    held_at_last (may_come (Some prev) place.start kind) _ _ r P g3 (λ comes same.
    rw (summed, e3) (ap takes same)))))

pub unlinked : (place : Place) (prev : Lsn) (bytes : List ℕ) (r : Record) → record_at place (Some prev) bytes ≡ Ok r → record_at place None bytes ≡ Ok r
unfolding record_at
unlinked place prev bytes r e =
    went (or_fault faults.Length (parts_at bytes)) (record_in place (Some prev) (take 20 bytes)) r (record_at place None bytes ≡ Ok r) e (λ x e1 g1.
    rw e1 (unlinked_in place prev (take 20 bytes) x r g1))

-- where none stands before it, it is a checkpoint whose redo point is its own start
own_in : (place : Place) (front : List ℕ) (x : Header × List ℕ) (r : Record) → record_in place (Some (lsn 0)) front x ≡ Ok r → is_own_redo r.start r.kind ≡ true
unfolding record_in
own_in place front (h, body) r e =
    let P : Type 0 = is_own_redo r.start r.kind ≡ true in
    held (is_linked (Some (lsn 0)) h.prev) _ _ r P e (λ linked g1.
    held (h.crc == entry_sum front body) _ _ r P g1 (λ summed g2.
    went (kind_at h.manager h.info body) _ r P g2 (λ kind e3 g3.
    held_at_last (may_come (Some (lsn 0)) place.start kind) _ _ r P g3 (λ comes same.
    subst (λ (q : Record). is_own_redo q.start q.kind ≡ true) same comes))))

pub own_redo : (place : Place) (bytes : List ℕ) (r : Record) → record_at place (Some (lsn 0)) bytes ≡ Ok r → is_own_redo r.start r.kind ≡ true
unfolding record_at
own_redo place bytes r e =
    went (or_fault faults.Length (parts_at bytes)) (record_in place (Some (lsn 0)) (take 20 bytes)) r (is_own_redo r.start r.kind ≡ true) e (λ x e1 g1. own_in place (take 20 bytes) x r g1)
