use Rattle.std.proofs.Common.{◌≡◌, ◌+◌, ◌*◌, ◌%◌, ◌<◌, ◌≤◌, length}
use Rattle.lsn_core.specs.byte_words.Numbers.{u32_in}
use Rattle.vault.specs.Frame.{OnlyReads}
use Rattle.wal_archive.proofs.Longs.{PagesOn}
use Rattle.wal_archive.proofs.long.long_entry.Given as goal

-- the bytes so far, and what is still to come
abbrev pub invariant-loop-left : goal.invariant-loop-left
invariant-loop-left g l = record {
  page : l.page % 8192 ≡ 0;
  bound : 0 < l.left → l.page + 2 * l.left ≤ l.start + 2 * l.total + 8192;
  last : l.page ≤ l.start + 2 * l.total + 16384;
  on : PagesOn l.size l.system l.start l.total l.page l.left l.bytes.items
      (g.V.Vault.files l.fn.area);
  reads : OnlyReads g.V.Vault l.fn.area l.area;
  whole : length l.bytes.items + l.left ≡ l.total;
  four : 4 ≤ length l.bytes.items;
  number : u32_in l.bytes.items 0 ≡ l.total;
}

abbrev pub decreases-loop-left : goal.decreases-loop-left
decreases-loop-left g l = l.left
