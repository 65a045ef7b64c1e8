use Rattle.std.proofs.Common.{Some, sym, ap, ◌∙◌}
use Rattle.history.proofs.Histories.{commit_done}
use Rattle.history.proofs.applying.apply_commit.Goals as goal

pub returns : goal.returns
returns c = commit_done c.args.end.0 c.args.store.now c.args.time c.args.rels.now ∙ ap Some (sym c.drop_rels.ensures)
