use Rattle.std.proofs.Common.{◌^◌, ◌<◌, length, subst, sym}
use Rattle.std.specs.List.{AllByRecursion}
use Rattle.summary_file.proofs.Decoding.{counts_fit}
use Rattle.summary_file.proofs.InOrder.{blocks_rise}
use Rattle.summary_file.proofs.writing.encode_summary.Goals as goal

pub put_forks-requires : goal.put_forks-requires
put_forks-requires c =
    let forks = c.args.summary.now.forks in
    subst (AllByRecursion (λ f. length f.blocks < 2 ^ 32)) (sym c.as_slice.ensures) (counts_fit forks (blocks_rise forks c.requires.sorted) c.requires.forks)
