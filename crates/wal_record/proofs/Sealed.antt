-- What is written of an entry is of the grammar of entries.
use Rattle.std.proofs.Common.{◌≡◌, ℕ, ◌%◌, ◌/◌, ◌^◌, ◌<◌, ◌≤◌, ◌∙◌, true, List, ◌++◌, length, drop, Option, None, refl, sym, ap, subst, arith}
use Rattle.std.specs.Int.{w32, to_le_bytes}
use Rattle.lsn_core.specs.byte_words.Numbers.{u32_in}
use Rattle.lsn_core.proofs.byte_words.Fields.{wide32, number_again, number_is}
use Rattle.lsn_core.specs.declared.lsn.Lsn.{Lsn}
use Rattle.wal_crc.specs.Crc.{crc32c}
use Rattle.wal_pages.specs.declared.wal_heads.header.Header.{Header}
use Rattle.wal_record.specs.declared.record.Record.{Record}
use Rattle.wal_pages.specs.wal_heads.Header.{entry_sum, is_linked}
use Rattle.wal_pages.specs.wal_heads.Announcements.{Heads}
use Rattle.wal_record.specs.Decoding.{may_come}
use Rattle.wal_record.specs.Entry.{header_front, own_place, IsEntry}
use Rattle.wal_record.specs.Spelling.{manager_of, info_of, main_of, blocks_of, heads_of, main_head_of, bodies_bytes, body_of, total_of, front_of, spelling, sealed, IsWritable}
use Rattle.wal_record.proofs.Lengths.{body_most}
use Rattle.wal_record.proofs.HeadsWritten.{heads_written}
use Rattle.wal_record.proofs.Written.{written_says, form_named, form_told, manager_fits, info_fits}

-- four bytes of a sum hold its last 32 bits
four_bytes : (n : ℕ) → to_le_bytes w32 n ≡ to_le_bytes w32 (n % 2 ^ 32)
four_bytes n =
    let a : n % 256 ≡ (n % 2 ^ 32) % 256 = omega arith in
    let b : n / 256 % 256 ≡ (n % 2 ^ 32) / 256 % 256 = omega arith in
    let c : n / 65536 % 256 ≡ (n % 2 ^ 32) / 65536 % 256 = omega arith in
    let d : n / 16777216 % 256 ≡ (n % 2 ^ 32) / 16777216 % 256 = omega arith in
    cc

spelled_by : (n : ℕ) (r : Record) → spelling n r ≡ spelling (n % 2 ^ 32) r
unfolding spelling
spelled_by n r = ap (λ (l : List ℕ). front_of r ++ (l ++ body_of r.kind)) (four_bytes n)

-- how many bytes are written
pub length-sealed : (r : Record) → length (sealed r) ≡ total_of r.kind
unfolding spelling
length-sealed r = omega arith

header_of : Record → Header
header_of r = record { xid = r.xid; prev = r.prev.0; info = info_of r.kind; manager = manager_of r.kind; crc = entry_sum (front_of r) (body_of r.kind) }

tree_of : Record → Heads
tree_of r = (heads_of 0 None (blocks_of r.kind), main_head_of (main_of r.kind), bodies_bytes (blocks_of r.kind) ++ main_of r.kind)

spelled_of : (r : Record) → sealed r ≡ header_front (total_of r.kind) (header_of r) 0 ++ (to_le_bytes w32 (entry_sum (front_of r) (body_of r.kind)) ++ body_of r.kind)
unfolding spelling header_of
spelled_of r = spelled_by (crc32c (body_of r.kind ++ front_of r)) r

pub sealed_is_entry : (r : Record) (prev : Option Lsn) → IsWritable r.kind → r.xid < 2 ^ 32 → r.prev.0 < 2 ^ 64 → is_linked prev r.prev.0 ≡ true → may_come prev r.start r.kind ≡ true → IsEntry (sealed r) (own_place r) prev r
unfolding header_of tree_of
sealed_is_entry r prev w xid before linked comes =
    let len : length (sealed r) ≡ total_of r.kind = length-sealed r in
    record {
      header = header_of r;
      spare = 0;
      form = form_named r.kind;
      heads = tree_of r;
      fits = record { xid = xid; prev = before; info = info_fits r.kind; manager = manager_fits r.kind; crc = omega arith };
      spare_fits = omega arith;
      spelled = subst (λ (n : ℕ). sealed r ≡ header_front n (header_of r) 0 ++ (to_le_bytes w32 (entry_sum (front_of r) (body_of r.kind)) ++ body_of r.kind)) (sym len) (spelled_of r);
      most = omega (arith, len, body_most r.kind w);
      linked = linked;
      summed = ap (λ (n : ℕ). entry_sum (header_front n (header_of r) 0) (body_of r.kind)) (sym len);
      known = form_told r.kind;
      are = heads_written r.kind w;
      says = written_says r.kind w;
      comes = comes;
      start = refl;
      end = refl;
      prev_is = refl;
      xid_is = refl;
    }

-- an entry's bytes begin with their number
pub record SealedSize (r : Record) : Type 0 where
  pub total : u32_in (sealed r) 0 ≡ length (sealed r)
  pub least : 24 ≤ length (sealed r)
  pub most : length (sealed r) ≤ 4194304

pub sealed_size : (r : Record) → IsWritable r.kind → SealedSize r
unfolding spelling
sealed_size r w =
    let len : length (sealed r) ≡ total_of r.kind = length-sealed r in
    let small : total_of r.kind < 2 ^ 32 = omega (arith, body_most r.kind w) in
    let behind : List ℕ = drop 4 (front_of r) ++ (to_le_bytes w32 (crc32c (body_of r.kind ++ front_of r)) ++ body_of r.kind) in
    record {
      total = number_is (sealed r) (total_of r.kind) behind (number_again w32 (2 ^ 32) wide32 (total_of r.kind) behind small) ∙ sym len;
      least = omega (arith, len);
      most = omega (arith, len, body_most r.kind w);
    }
