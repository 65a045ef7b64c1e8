use Rattle.std.proofs.lemmas.Result.{on_ok_weaker}
use Rattle.recovery.proofs.Redoing.{commit_counted}
use Rattle.recovery.proofs.redo.redo_commit.Goals as goal

pub returns-clause-done : goal.returns-clause-done
returns-clause-done g c =
    on_ok_weaker c.drop_rels.result
    (commit_counted g.P.Pages.shows c.args.target.now c.drop_rels.new.target c.args.tally.now c.drop_rels.new.tally c.args.entry.now c.args.time c.args.rels.now c.requires)
    c.drop_rels.ensures.done
