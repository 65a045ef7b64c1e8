use Rattle.std.proofs.Common.{rules, ◌≡◌, false, List, map, sym, subst}
use Rattle.directory_files.specs.Written.{CanList, to_of}
use Rattle.combine.specs.Combined.{other_rows}
use Rattle.combine.specs.Inside.{AreTargets}
use Rattle.directory_files.specs.declared.targets.Target.{Target}
use Rattle.backup_files.specs.Area.{HoldsNothing}
use Rattle.combine.proofs.PathsFor.{paths_for, refuted}
use Rattle.combine.proofs.combining.targets_for.Goals as goal

pub returns-then-not-branch-2-clause-cause : goal.returns-then-not-branch-2-clause-cause
returns-then-not-branch-2-clause-cause g c =
    let are : AreTargets (other_rows c.args.m.now.files) c.in_ok-targets.targets.items = search rules in
    let empty : HoldsNothing (g.V.Vault.files c.args.out.now) = search rules in
    let no : c.in_ok-can_list.field-0 ≡ false = search rules in (
      (
        map to_of c.in_ok-targets.targets.items,
        paths_for (other_rows c.args.m.now.files) c.in_ok-targets.targets.items are,
        refuted c.in_ok-can_list.field-0 (CanList c.args.m.now (map to_of c.in_ok-targets.targets.items)) no (λ can. c.in_ok-can_list.ensures.1 (subst (λ (l : List Target). CanList c.args.m.now (map to_of l)) (sym c.deref-2.ensures.value) can)),
      ),
      empty,
    )
