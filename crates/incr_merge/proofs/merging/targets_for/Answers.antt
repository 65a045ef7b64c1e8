use Rattle.std.proofs.Common.{rules, ◌≡◌, false, List, map, sym, subst}
use Rattle.backup_files.specs.Area.{HoldsNothing}
use Rattle.chain_files.specs.Told.{chain_told}
use Rattle.chain_files.proofs.Told.{reads_refl}
use Rattle.combine.proofs.PathsFor.{refuted}
use Rattle.directory_files.specs.Relisted.{other_rows}
use Rattle.directory_files.specs.Written.{CanList, to_of}
use Rattle.directory_files.specs.declared.targets.Target.{Target}
use Rattle.incr_merge.specs.Inside.{AreTargets}
use Rattle.incr_merge.proofs.Paths.{cannot_merge}
use Rattle.incr_merge.proofs.merging.targets_for.Goals as goal

pub returns-in_err-is_empty-clause-reads : goal.returns-in_err-is_empty-clause-reads
returns-in_err-is_empty-clause-reads g c = reads_refl g.V.Vault c.args.areas.now

pub returns-then-not-branch-clause-reads : goal.returns-then-not-branch-clause-reads
returns-then-not-branch-clause-reads g c = reads_refl g.V.Vault c.args.areas.now

pub returns-then-not-branch-2-clause-cause : goal.returns-then-not-branch-2-clause-cause
returns-then-not-branch-2-clause-cause g c =
    let told = chain_told g.V.Vault c.args.areas.now c.args.places.now in
    let are : AreTargets told (other_rows c.args.m.now.files) c.in_ok-targets.targets.items = search rules in
    let empty : HoldsNothing (g.V.Vault.files c.args.out.now) = search rules in
    let no : c.in_ok-can_list.field-0 ≡ false = search rules in (
      cannot_merge told (other_rows c.args.m.now.files) c.in_ok-targets.targets.items (λ paths. CanList c.args.m.now paths → ⊥) are
          (refuted c.in_ok-can_list.field-0 (CanList c.args.m.now (map to_of c.in_ok-targets.targets.items)) no (λ can. c.in_ok-can_list.ensures.1 (subst (λ (l : List Target). CanList c.args.m.now (map to_of l)) (sym c.deref-2.ensures.value) can))),
      empty,
    )
