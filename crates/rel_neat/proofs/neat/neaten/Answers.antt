-- Each segment file is made neat in turn.
use Rattle.std.proofs.Common.{ℕ, List, IfSome, sym, subst}
use Rattle.std.specs.List.{All}
use Rattle.lsn_core.specs.declared.ids.ForkId.{ForkId}
use Rattle.vault.proofs.Changed.{changes_on}
use Rattle.rel_files.specs.Forks.{IsForkPath}
use Rattle.rel_files.proofs.ForkFrames.{reads_change}
use Rattle.rel_neat.specs.Segments.{IsSegmentNamed, ListsSegments}
use Rattle.rel_neat.proofs.Staying.{reads_keep, keeps_on}
use Rattle.rel_neat.proofs.Judged.{neatened_none, neatened_more, all_told}
use Rattle.rel_neat.proofs.neat.neaten.Goals as goal

pub returns-in_err-found-clause-keeps : goal.returns-in_err-found-clause-keeps
returns-in_err-found-clause-keeps g c = reads_keep g.V.Vault c.args.relseg c.args.area.now c.segments.new.area c.in_err-found.ensures.reads

pub loop-segment-init : goal.loop-segment-init
loop-segment-init g c =
    let old = c.args.area.now in
    let read = c.segments.new.area in
    let reads = c.in_ok-found.ensures.reads in
    record {
      files = neatened_none (g.V.Vault.files old) (g.V.Vault.files read) c.args.relseg c.deref-segment-items.result.now reads.files;
      keeps = reads_keep g.V.Vault c.args.relseg old read reads;
      changes = reads_change g.V.Vault IsForkPath old read reads;
    }

pub returns-in_err-neaten_segment-clause-keeps : goal.returns-in_err-neaten_segment-clause-keeps
returns-in_err-neaten_segment-clause-keeps g c = keeps_on g.V.Vault c.args.relseg c.args.area.now c.loop-segment.area c.neaten_segment.new.area c.loop-segment.invariant.keeps c.in_err-neaten_segment.ensures.keeps

pub returns-in_err-neaten_segment-clause-changes : goal.returns-in_err-neaten_segment-clause-changes
returns-in_err-neaten_segment-clause-changes g c = changes_on g.V.Vault IsForkPath c.args.area.now c.loop-segment.area c.neaten_segment.new.area c.loop-segment.invariant.changes c.in_err-neaten_segment.ensures.changes

pub loop-segment-preserved : goal.loop-segment-preserved
loop-segment-preserved g c =
    let old = c.args.area.now in
    let before = c.loop-segment.area in
    let now = c.neaten_segment.new.area in
    let inv = c.loop-segment.invariant in
    let e = c.in_ok-neaten_segment.ensures in
    record {
      files =
          neatened_more (g.V.Vault.files old) (g.V.Vault.files before) (g.V.Vault.files now) c.args.relseg c.deref-segment-items.result.now c.loop-segment.segment-index c.segment-item.result c.loop-segment-test.true c.segment-item.is
          inv.files e.neat;
      keeps = keeps_on g.V.Vault c.args.relseg old before now inv.keeps e.keeps;
      changes = changes_on g.V.Vault IsForkPath old before now inv.changes e.changes;
    }

pub returns-clause-neat : goal.returns-clause-neat
returns-clause-neat g c =
    let found = c.in_ok-found.ensures in
    let same = sym c.deref-segment-items.ensures.value in
    all_told (g.V.Vault.files c.args.area.now) (g.V.Vault.files c.loop-segment.area) c.args.relseg c.deref-segment-items.result.now c.loop-segment.segment-index c.loop-segment-test.false
    (subst (λ (xs : List (ForkId × ℕ)). All IsSegmentNamed xs) same found.named)
    (subst (λ (xs : List (ForkId × ℕ)). IfSome (g.V.Vault.files c.args.area.now) (ListsSegments xs)) same found.all) c.loop-segment.invariant.files
