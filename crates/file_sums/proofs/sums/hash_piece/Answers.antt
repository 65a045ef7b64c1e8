use Rattle.std.proofs.Common.{subst, List, ℕ, ◌+◌, length, take}
use Rattle.lsn_core.specs.byte_words.Told.{when_told}
use Rattle.vault.specs.Area.{bytes_of}
use Rattle.file_sums.proofs.Pieces.{piece_read}
use Rattle.file_sums.proofs.sums.hash_piece.Goals as goal

pub returns-clause-hashed : goal.returns-clause-hashed
returns-clause-hashed g c =
    when_told (g.V.Vault.files c.args.area.now) _ (λ m. g.D.Digest.holds c.args.hasher.now (take c.args.at (bytes_of m c.args.path.now)) → g.D.Digest.holds c.update.new.self (take (c.args.at + length c.args.buffer.now) (bytes_of m c.args.path.now)))
    (λ m is held. subst (λ (x : List ℕ). g.D.Digest.holds c.update.new.self x) (piece_read m c.args.path.now c.args.buffer.now c.read_at.new.into c.args.at _ is) (c.update.ensures _ held)) c.in_ok-count.ensures.read
