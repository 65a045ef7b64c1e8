use Rattle.std.proofs.Common.{◌≡◌, ℕ, false, List}
use Rattle.backup_files.proofs.Passed.{ok_more}
use Rattle.combine.specs.Calls.{IsPathFor}
use Rattle.combine.proofs.PathsFor.{only_part, path_of_part}
use Rattle.combine.proofs.targets.path_for.Goals as goal
use Rattle.chain_files.specs.Paths.{file_path}

pub returns-in-Some-clause-path : goal.returns-in-Some-clause-path
returns-in-Some-clause-path c =
    ok_more c.file_path.result (λ to. to ≡ file_path c.in-Some.folder.now c.in-Some.name.now false) (IsPathFor c.args.path.now) (λ to is. path_of_part c.args.path.now to c.in-Some.folder.now c.in-Some.name.now c.in-Some.ensures.placed c.in-Some.ensures.found is) c.file_path.ensures

pub returns-in-Some-clause-only : goal.returns-in-Some-clause-only
returns-in-Some-clause-only c =
    ok_more c.file_path.result (λ to. to ≡ file_path c.in-Some.folder.now c.in-Some.name.now false) (λ to. (other : List ℕ) → IsPathFor c.args.path.now other → other ≡ to)
    (λ to is. only_part c.args.path.now to c.in-Some.folder.now c.in-Some.name.now c.in-Some.ensures.placed c.in-Some.ensures.found is) c.file_path.ensures
