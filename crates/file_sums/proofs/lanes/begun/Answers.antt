use Rattle.std.proofs.Common.{rules}
use Rattle.file_sums.proofs.Known.{nothing_known}
use Rattle.file_sums.proofs.Seen.{no_places}
use Rattle.file_sums.proofs.lanes.begun.Goals as goal

pub returns : goal.returns
returns c =
    let all = c.in_ok-known.ensures.items_if_clones_equal (λ y h. search rules) in
    λ m rows. record { lanes = no_places m rows c.new.result; known = rw all (nothing_known m rows c.args.rows) }
