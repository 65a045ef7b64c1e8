use Rattle.std.proofs.Common.{IfSome, refl, sym, subst, arith}
use Rattle.shared_summaries.specs.summary_publish.Published.{AreListed, AreThose}
use Rattle.shared_summaries.proofs.summary_publish.Knowing.{read_those, read_listed}
use Rattle.shared_summaries.proofs.summary_publish.advancing.known_or_read.Goals as goal

pub returns-in-Some-clause-those : goal.returns-in-Some-clause-those
returns-in-Some-clause-those g c = subst (AreThose (g.V.Vault.files c.args.area.now) c.in-Some.kept.items) (sym c.in-Some.is) refl

pub returns-in-Some-clause-listed : goal.returns-in-Some-clause-listed
returns-in-Some-clause-listed g c = subst (λ o. IfSome o (λ v. AreListed (g.V.Vault.files c.args.area.now) v.items)) c.in-Some.is c.requires

pub returns-in-Some-clause-reads : goal.returns-in-Some-clause-reads
returns-in-Some-clause-reads g c = record { files = refl; past = refl; faults = omega arith }

pub returns-in-None-clause-those : goal.returns-in-None-clause-those
returns-in-None-clause-those g c = read_those (g.V.Vault.files c.args.area.now) c.kept_of.result c.args.known c.in-None.is c.kept_of.ensures.kept

pub returns-in-None-clause-listed : goal.returns-in-None-clause-listed
returns-in-None-clause-listed g c = read_listed (g.V.Vault.files c.args.area.now) c.kept_of.result c.kept_of.ensures.kept c.kept_of.ensures.order
