use Rattle.std.proofs.Common.{rules, sym, ap, ◌∙◌, List, ℕ, ◌∷◌, [], length, ◌*◌, ◌+◌}
use Rattle.std.proofs.lemmas.Result.{on_ok_weaker}
use Rattle.wal_record.proofs.Dropping.{commit_body}
use Rattle.wal_record.proofs.encode.add_commit.Goals as goal

pub returns : goal.returns
returns c =
    on_ok_weaker c.add_rels.result
    (λ e. commit_body c.args.bytes.now.items c.announce_main.new.bytes.items c.extend_from_slice.new.self.items c.extend_from_slice-2.new.self.items c.extend_from_slice-3.new.self.items c.add_rels.new.bytes.items c.args.time c.args.rels.now
    (search rules) (search rules) (search rules) (search rules) (search rules) e)
    c.add_rels.ensures
