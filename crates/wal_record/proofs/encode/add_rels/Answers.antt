use Rattle.std.proofs.Common.{rules, ◌≡◌, ◌+◌, ℕ, List, ◌∷◌, [], ◌++◌, drop, get_or, ap, sym, ◌∙◌}
use Rattle.std.proofs.lemmas.List.{append_assoc, drop_more}
use Rattle.lsn_core.specs.Relation.{Relation}
use Rattle.wal_record.specs.Spelling.{relation_bytes, rels_bytes}
use Rattle.wal_record.proofs.Dropping.{one_written}
use Rattle.wal_record.proofs.encode.add_rels.Goals as goal

pub loop-rel-preserved : goal.loop-rel-preserved
loop-rel-preserved c =
    one_written c.loop-rel.bytes.items c.extend_from_slice.new.self.items c.relation.result c.args.bytes.now.items c.args.rels.now c.loop-rel.rel-index c.rel-item.result c.loop-rel-test.true c.rel-item.is (search rules) c.relation.ensures c.loop-rel.invariant
