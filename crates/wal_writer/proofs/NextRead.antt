-- The entry that is appended is one that comes next, and is read so.
use Rattle.std.proofs.Common.{◌≡◌, ◌<◌, ◌≤◌, ◌^◌, true, [], length, Some, Ok, refl, sym, ap, ◌∙◌, arith}
use Rattle.std.proofs.lemmas.Bool.{eq-eqb}
use Rattle.std.proofs.lemmas.List.{append-nil}
use Rattle.lsn_core.specs.byte_words.Numbers.{u32_in}
use Rattle.lsn_core.specs.declared.lsn.Place.{Place}
use Rattle.wal_pages.specs.Places.{start_after, end_of}
use Rattle.wal_record.specs.Decoding.{may_come, record_at}
use Rattle.wal_record.specs.Entry.{own_place}
use Rattle.wal_record.specs.Spelling.{total_of, spelling, sealed, IsWritable}
use Rattle.wal_record.specs.Tips.{wal_limit}
use Rattle.wal_record.specs.declared.record.Record.{Record}
use Rattle.wal_record.specs.declared.record.Kind.{Kind}
use Rattle.wal_record.proofs.EntryAgain.{record_again}
use Rattle.wal_record.proofs.Sealed.{length-sealed, sealed_is_entry}
use Rattle.wal_archive.specs.Rules.{lsn, place_behind}
use Rattle.wal_archive.specs.Writing.{IsNext}
use Rattle.wal_writer.specs.Log.{Log, IsLog, next_record}
use Rattle.wal_writer.proofs.Ready.{total_most}

total_told : (r : Record) → total_of r.kind < 2 ^ 32 → u32_in (sealed r) 0 ≡ total_of r.kind
unfolding spelling
total_told r lt = omega (arith, lt)

pub next_comes : (log : Log) (kind : Kind) → IsLog log → IsWritable kind
    → (next_record log kind).end.0 ≤ wal_limit log.mib → may_come (Some (lsn log.tip.prev))
    (next_record log kind).start kind ≡ true → IsNext record_at log.mib log.tip
    (next_record log kind)
next_comes log kind is writable within comes =
    let r : Record = next_record log kind in
    let total : length (sealed r) ≡ total_of kind = length-sealed r in
    let most = total_most kind writable in
    let place : place_behind log.mib log.tip.end (sealed r) ≡ own_place r = ap (λ n. let p : Place =
    record { start = r.start; end = lsn (end_of log.mib (start_after log.mib log.tip.end) n) }
    in p) total in
    let entry = sealed_is_entry r (Some (lsn log.tip.prev)) writable (omega arith)
    (omega (arith, is.within.prev, is.within.most, is.segment.most))
    (eq-eqb log.tip.prev log.tip.prev refl) comes in
    let read : record_at (own_place r) (Some (lsn log.tip.prev)) (sealed r) ≡ Ok r =
    ap (record_at (own_place r) (Some (lsn log.tip.prev))) (sym (append-nil (sealed r)))
    ∙ record_again (sealed r) [] (own_place r) (Some (lsn log.tip.prev)) r entry in
    record {
      start = refl;
      end = ap (end_of log.mib (start_after log.mib log.tip.end)) (sym total);
      total = total_told r (omega (arith, most)) ∙ sym total;
      least = omega (arith, total);
      most = omega (arith, total, most);
      within = within;
      taken = ap (λ (p : Place). record_at p (Some (lsn log.tip.prev)) (sealed r)) place ∙ read;
    }
