use Rattle.std.proofs.Common.{◌≡◌, ◌∙◌, ap, subst, List, ℕ, arith}
use Rattle.lsn_core.specs.byte_words.Told.{when_told}
use Rattle.chain_files.specs.Sources.{IsPiece}
use Rattle.file_sums.specs.LaneSums.{IsSeen, holds}
use Rattle.file_sums.specs.Sums.{says_sum}
use Rattle.file_sums.proofs.Seen.{last_known}
use Rattle.file_sums.proofs.lanes.last_sum.Goals as goal

pub returns-clause-known : goal.returns-clause-known
returns-clause-known g c =
    let row = c.args.row.now in
    when_told (g.V.Vault.files c.args.area.now) (λ m. IsPiece m c.as_bytes.result.now c.args.at c.read_piece.new.buffer) (λ m. IsSeen m row c.args.at c.args.lanes.now c.args.lane → c.in_ok-says_sum.field-0 ≡ holds m row)
    (λ m is. last_known m row c.args.lanes.now c.args.lane c.args.at c.read_piece.new.buffer c.digest-digest.result c.in_ok-says_sum.field-0 c.requires.kind (omega (arith, c.requires.size)) (omega (arith, c.requires.end, c.requires.size, c.in_ok-read_piece.ensures.long))
    (subst (λ (p : List ℕ). IsPiece m p c.args.at c.read_piece.new.buffer) c.as_bytes.ensures is) (λ l seen same. c.digest-digest.ensures l seen (c.requires.size ∙ same))
    (c.in_ok-says_sum.ensures ∙ ap (λ (d : List ℕ). says_sum d c.digest-digest.result) c.as_bytes-2.ensures))
    (c.in_ok-read_piece.ensures.piece c.if-not-branch.false)
