use Rattle.std.proofs.Common.{string_bytes}
use Rattle.vault_os.specs.Paths.{told_in}
use Rattle.vault_os.proofs.Common.{when_ok}
use Rattle.vault_os.proofs.Sorted.{all_names}
use Rattle.vault_os.proofs.area.sorted_names.Goals as goal

pub returns : goal.returns
returns g c = when_ok c.names_of.result (λ names e. all_names (told_in (string_bytes c.args.root.now.path) (g.S.System.files c.args.system.now)) c.in_ok-below.below.files names.items c.names_of.ensures.ordered c.in_ok-below.ensures e) c.names_of.ensures.names
