-- What was told of a file's blocks is so of the files that are left when it is cut or removed.
use Rattle.std.proofs.Common.{sym, ◌∙◌, ◌≡◌}
use Rattle.rel_files.proofs.ForkFrames.{reads_on}
use Rattle.rel_neat.specs.Segments.{blocks_in, is_stray}
use Rattle.rel_neat.proofs.Staying.{reads_keep, keeps_on, cut_keeps_all, removal_keeps_all}
use Rattle.rel_neat.proofs.Judged.{both_judged, told_at}
use Rattle.rel_neat.proofs.neat.neaten_segment.Goals as goal

pub returns-in_err-blocks-clause-keeps : goal.returns-in_err-blocks-clause-keeps
returns-in_err-blocks-clause-keeps g c = reads_keep g.V.Vault c.args.relseg c.args.area.now c.count_blocks.new.area c.in_err-blocks.ensures.reads

pub returns-in_err-is_stray-clause-keeps : goal.returns-in_err-is_stray-clause-keeps
returns-in_err-is_stray-clause-keeps g c =
    reads_keep g.V.Vault c.args.relseg c.args.area.now c.is_stray.new.area
    (reads_on g.V.Vault c.args.area.now c.count_blocks.new.area c.is_stray.new.area c.in_ok-blocks.ensures.reads c.in_err-is_stray.ensures.reads)

pub returns-then-branch-clause-keeps : goal.returns-then-branch-clause-keeps
returns-then-branch-clause-keeps g c =
    let old = c.args.area.now in
    let mid = c.count_blocks.new.area in
    let read = c.is_stray.new.area in
    let relseg = c.args.relseg in
    let fork = c.args.fork.now in
    let seg = c.args.seg in
    let blocks = c.in_ok-blocks.blocks in
    let stray = c.in_ok-is_stray.field-0 in
    let first = c.in_ok-blocks.ensures in
    let second = c.in_ok-is_stray.ensures in
    let reads = reads_on g.V.Vault old mid read first.reads second.reads in
    let judged = both_judged (g.V.Vault.files old) (g.V.Vault.files mid) relseg fork seg blocks stray first.reads.files first.count second.told in
    keeps_on g.V.Vault relseg old read c.remove_segment.new.area (reads_keep g.V.Vault relseg old read reads)
    (removal_keeps_all g.V.Vault relseg fork seg read c.remove_segment.new.area c.remove_segment.result c.requires.relseg.least c.requires.named c.remove_segment.ensures.removed
    (λ m is. sym (told_at (g.V.Vault.files old) (λ m. (blocks ≡ blocks_in relseg m fork seg) × (stray ≡ is_stray relseg m fork seg)) judged m (sym reads.files ∙ is)).1 ∙ c.if-branch.true))

pub returns-clause-keeps : goal.returns-clause-keeps
returns-clause-keeps g c =
    let old = c.args.area.now in
    let mid = c.count_blocks.new.area in
    let read = c.is_stray.new.area in
    let relseg = c.args.relseg in
    let fork = c.args.fork.now in
    let seg = c.args.seg in
    let blocks = c.in_ok-blocks.blocks in
    let first = c.in_ok-blocks.ensures in
    let second = c.in_ok-is_stray.ensures in
    let reads = reads_on g.V.Vault old mid read first.reads second.reads in
    keeps_on g.V.Vault relseg old read c.cut_segment.new.area (reads_keep g.V.Vault relseg old read reads)
    (cut_keeps_all g.V.Vault relseg fork seg blocks read c.cut_segment.new.area c.cut_segment.result c.requires.relseg.least c.requires.named c.cut_segment.ensures.cut
    (λ m is. told_at (g.V.Vault.files old) (λ m. blocks ≡ blocks_in relseg m fork seg) first.count m (sym reads.files ∙ is)))
