-- The directory in the area of one member.
use Rattle.std.proofs.Common.{ℕ, List, get_or, IfSome, refl, subst}
use Rattle.chain_check.specs.Refusals.{DirAnswer}
use Rattle.chain_files.proofs.Told.{reads_refl, reads_set}
use Rattle.chain_commands.proofs.Members.{answered_here}
use Rattle.chain_commands.proofs.chain.member_at.Goals as goal

pub returns-in_err-name-clause-reads : goal.returns-in_err-name-clause-reads
returns-in_err-name-clause-reads g c = reads_refl g.V.Vault c.args.areas.now

pub returns-clause-answer : goal.returns-clause-answer
returns-clause-answer g c =
    answered_here g.V.Vault c.args.areas.now c.args.place c.index-areas-place.result _ c.args.name.now c.check_dir.result c.requires
    (subst (λ (n : List ℕ). IfSome (g.V.Vault.files (get_or c.args.areas.now c.args.place c.index-areas-place.result).area) (λ m. DirAnswer m n c.check_dir.result)) c.in_ok-name.ensures c.check_dir.ensures.answer) c.check_dir.ensures.cause

pub returns-clause-reads : goal.returns-clause-reads
returns-clause-reads g c = reads_set g.V.Vault c.args.areas.now c.args.place c.index-areas-place.result _ c.requires refl c.check_dir.ensures.reads
