use Rattle.std.proofs.Common.{◌*◌, take, arith}
use Rattle.std.proofs.lemmas.List.{length-take}
use Rattle.chain_files.specs.Told.{chain_told}
use Rattle.directory_files.proofs.Grown.{pages_read}
use Rattle.directory_files.proofs.rebuilding.add_pages.Goals as goal

pub returns-clause-added : goal.returns-clause-added
returns-clause-added g c = record {
  piece = take (c.in_ok-count.count * 8192) c.read_pages.new.into;
  few = omega (arith, c.in_ok-add.ensures.sized, length-take (c.in_ok-count.count * 8192) c.read_pages.new.into, c.in_ok-count.ensures.few);
  read = pages_read (chain_told g.V.Vault c.args.areas.now c.args.places.now) c.args.source.now c.args.number c.args.most c.in_ok-count.count c.read_pages.new.into c.in_ok-count.ensures.pages;
  holds = c.in_ok-add.ensures.holds;
  written = c.in_ok-add.ensures.written;
}
