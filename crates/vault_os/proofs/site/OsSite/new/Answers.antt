-- The areas of a new shelf are at home.
use Rattle.std.proofs.Common.{ap}
use Rattle.vault.specs.Site.{AreaState}
use Rattle.vault_os.proofs.site.OsSite.new.Goals as goal

pub returns-clause-home : goal.returns-clause-home
returns-clause-home c n = ap (λ (a : AreaState). a.home) (c.new-shelf.ensures n)
