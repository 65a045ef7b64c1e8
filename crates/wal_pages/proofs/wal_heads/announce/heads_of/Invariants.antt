use Rattle.std.proofs.Common.{◌≡◌, ◌-◌, ◌*◌, ◌≤◌}
use Rattle.wal_pages.specs.wal_heads.Announcements.{heads_at}
use Rattle.wal_pages.proofs.wal_heads.OneByOne.{with_front}
use Rattle.wal_pages.proofs.wal_heads.announce.heads_of.Given as goal

-- what is read so far, in front of what the rest gives, is what the whole gives
abbrev pub invariant-loop : goal.invariant-loop
invariant-loop l = record {
  before : l.before ≤ l.counter * 131070;
  read : with_front l.blocks.items (heads_at (34 - l.counter) l.least l.before l.rest) ≡ heads_at 34 0 0 l.bytes;
}
