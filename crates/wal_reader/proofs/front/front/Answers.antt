-- The buffer, cut to what was read, is the file's beginning.
use Rattle.std.proofs.Common.{◌≡◌, length, take, sym, ap, ◌∙◌}
use Rattle.lsn_core.specs.byte_words.Told.{when_told}
use Rattle.vault.specs.Area.{bytes_of}
use Rattle.wal_reader.proofs.Fronts.{kept}
use Rattle.wal_reader.proofs.front.front.Goals as goal

pub returns-clause-bytes : goal.returns-clause-bytes
returns-clause-bytes g c =
    let size : length c.deref_mut.result.now ≡ 8192 = ap length c.deref_mut.ensures.value ∙ c.in_ok-page.ensures.size in
    when_told (g.V.Vault.files c.args.wal.now) (λ m. take c.in_ok-count.count c.read_front.new.into ≡ take (length c.deref_mut.result.now) (bytes_of m c.args.name.now)) (λ m. c.truncate.new.self.items ≡ take 8192 (bytes_of m c.args.name.now))
    (λ m h. kept c.in_ok-count.count c.in_ok-page.page.len 8192 c.truncate.new.self.items c.in_ok-page.page.items c.read_front.new.into (bytes_of m c.args.name.now) c.truncate.ensures.items (c.read_front.auto.into ∙ size) c.in_ok-page.ensures.size (sym c.deref_mut.ensures.len ∙ size) (rw size at h)) c.in_ok-count.ensures.read
