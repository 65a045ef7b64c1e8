use Rattle.std.proofs.Common.{rules, ◌≢◌}
use Rattle.backup_files.specs.Directory.{manifest_name}
use Rattle.combine.specs.Inside.{IsTarget}
use Rattle.combine.proofs.PathsFor.{all_targets, one_target}
use Rattle.combine.proofs.targets.targets_of.Goals as goal

pub loop-row-preserved-in_ok-push : goal.loop-row-preserved-in_ok-push
loop-row-preserved-in_ok-push c =
    let apart : c.in-Some.row.now.path ≢ manifest_name = search rules in
    let is : IsTarget c.in-Some.row.now.path c.in_ok-target_of.field-0 = search rules in
    record { so_far = one_target c.args.rows.now c.loop-row.left.now c.in-Some.behind.now c.in-Some.row.now c.loop-row.targets.items c.push.new.self.items c.in_ok-target_of.field-0 c.in-Some.ensures.cases.0 apart is c.in_ok-push.ensures.items c.loop-row.invariant.so_far }

pub returns : goal.returns
returns c = all_targets c.args.rows.now c.loop-row.left.now c.loop-row.targets.items c.in_default.ensures.cases c.loop-row.invariant.so_far
