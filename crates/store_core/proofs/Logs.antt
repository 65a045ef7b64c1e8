-- Where the next record stands, and where there is no room for it.
use Rattle.std.proofs.Common.{◌≡◌, ℕ, ◌<◌, ◌≤◌, arith}
use Rattle.lsn_core.specs.declared.lsn.Lsn.{Lsn}
use Rattle.lsn_core.specs.Tip.{Tip}
use Rattle.wal_pages.specs.Places.{start_after, end_of}
use Rattle.wal_record.specs.declared.record.Record.{Record}
use Rattle.wal_record.specs.declared.record.Kind.{Kind}
use Rattle.wal_record.specs.Spelling.{total_of}
use Rattle.wal_record.specs.Tips.{record_at_tip}
use Rattle.store_core.proofs.Runs.{start_later, end_later}

pub late_start : (mib last limit total : ℕ) → 1 ≤ mib → 0 < total → limit < start_after mib last → limit < end_of mib (start_after mib last) total
late_start mib last limit total some least late = omega (arith, end_later mib last total some least, late)

pub late_end : (mib last limit total : ℕ) → 1 ≤ mib → 0 < total → limit < last → limit < end_of mib (start_after mib last) total
late_end mib last limit total some least late = late_start mib last limit total some least (omega (arith, start_later mib last some, late))

pub next_is : (mib : ℕ) (tip : Tip) (kind : Kind) (start end prev : Lsn) → start.0 ≡ start_after mib tip.end → end.0 ≡ end_of mib (start_after mib tip.end) (total_of kind) → prev.0 ≡ tip.prev
    → ◌≡◌ {A = Record} (record { start = start; end = end; prev = prev; xid = 0; kind = kind }) (record_at_tip mib tip kind)
next_is mib tip kind start end prev a b d = λ i. record { start = record { 0 = a i }; end = record { 0 = b i }; prev = record { 0 = d i }; xid = 0; kind = kind }
