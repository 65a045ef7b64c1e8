use Rattle.std.proofs.Common.{sym, subst, List, Option, Bool, IfSome}
use Rattle.std.specs.List.{AllByRecursion}
use Rattle.lsn_core.specs.byte_words.Told.{when_both_told}
use Rattle.lsn_core.specs.Files.{Files}
use Rattle.chain_check.specs.Inside.{RowsAnswer}
use Rattle.file_sums.specs.LaneSums.{AreKnown}
use Rattle.chain_check.specs.Sizes.{IsSized}
use Rattle.chain_check.proofs.rows.check_sums.Goals as goal

pub returns-clause-answer : goal.returns-clause-answer
returns-clause-answer g c =
    let rows = c.args.rows.now in
    when_both_told (g.V.Vault.files c.args.area.now) (λ m. AreKnown m rows c.in_ok-known.known.items)
    (λ m. AllByRecursion (IsSized m) rows → AreKnown m rows c.deref.result.now → RowsAnswer m rows c.check_each.result) _
    (λ m known step sized. step sized (subst (λ (l : List (Option Bool)). AreKnown m rows l) (sym c.deref.ensures.value) known))
    c.in_ok-known.ensures.known
    (subst (λ (o : Option Files). IfSome o (λ m. AllByRecursion (IsSized m) rows → AreKnown m rows c.deref.result.now → RowsAnswer m rows c.check_each.result)) c.in_ok-known.ensures.reads.files c.check_each.ensures.answer)
