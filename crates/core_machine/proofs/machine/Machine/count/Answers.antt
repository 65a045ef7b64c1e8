use Rattle.std.proofs.Common.{◌≡◌, ℕ, subst}
use Rattle.std.specs.Result.{IfOk}
use Rattle.std.proofs.lemmas.Bool.{ne_eqb}
use Rattle.core_machine.proofs.Accepting.{count_is}
use Rattle.core_machine.proofs.machine.Machine.count.Goals as goal

pub returns : goal.returns
returns c s shown =
    subst (λ (k : ℕ). IfOk c.page_count-2.result (λ n. n ≡ k)) (count_is c.args.self.now s c.args.at c.args.part c.index-self-at.result c.args.pages.now shown c.requires (ne_eqb c.args.at c.args.part c.if-at-part.false)) c.page_count-2.ensures.count
