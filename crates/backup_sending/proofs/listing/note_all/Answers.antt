use Rattle.std.proofs.Common.{refl}
use Rattle.backup_files.proofs.Passed.{no_items}
use Rattle.backup_sending.proofs.Lengths.{noted_further, noted_whole}
use Rattle.backup_sending.proofs.listing.note_all.Goals as goal

pub loop-fork-init : goal.loop-fork-init
loop-fork-init c = record { so_far = λ fork. refl }

pub loop-fork-preserved : goal.loop-fork-preserved
loop-fork-preserved c =
    noted_further c.args.list.now c.loop-fork.left.now c.in-Some.behind.now c.in-Some.fork.now c.args.known.now c.loop-fork.known c.note.new.known c.in-Some.ensures.cases.0 c.loop-fork.invariant c.in_ok-note.ensures

pub returns : goal.returns
returns c = noted_whole c.args.list.now c.loop-fork.left.now c.args.known.now c.loop-fork.known (no_items c.loop-fork.left.now c.in_default.ensures.cases) c.loop-fork.invariant
