use Rattle.rel_files.proofs.WholeStores as whole
use Rattle.rel_files.proofs.laws.files_are_exact.Goals as goal

pub returns : goal.returns
returns c = whole.files_are_exact
