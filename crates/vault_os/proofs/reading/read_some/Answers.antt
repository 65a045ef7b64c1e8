use Rattle.std.proofs.Common.{arith, refl}
use Rattle.vault_os.proofs.Common.{when_ok}
use Rattle.vault_os.proofs.Held.{goes_on}
use Rattle.vault_os.proofs.reading.read_some.Goals as goal

pub overflow_add-at : goal.overflow_add-at
overflow_add-at c = λ c'. omega (arith, c'.requires.room, c'.requires.count)

pub returns-clause-more : goal.returns-clause-more
returns-clause-more g c = when_ok c.read.result (λ got once path at. goes_on _ path _ _ _ _ got _ refl c.requires.count (once path at)) c.read.ensures.read
