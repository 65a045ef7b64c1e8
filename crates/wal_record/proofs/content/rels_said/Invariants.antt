use Rattle.std.proofs.Common.{◌≡◌, ◌-◌}
use Rattle.wal_record.specs.Content.{rels_said}
use Rattle.wal_record.proofs.Dropping.{with_rels}
use Rattle.wal_record.proofs.content.rels_said.Given as goal

abbrev pub invariant-loop : goal.invariant-loop
invariant-loop l = with_rels l.rels.items (rels_said (l.count - l.counter) l.rest) ≡ rels_said l.count l.names
