use Rattle.std.proofs.Common.{◌≡◌, ◌∙◌, sym, true, false}
use Rattle.backup_files.proofs.NoFile.{holds_nothing, holds_something}
use Rattle.backup_files.proofs.empty.is_empty.Goals as goal

pub returns-clause-empty : goal.returns-clause-empty
returns-clause-empty g c = λ is. holds_nothing (g.V.Vault.files c.args.out.now) c.in_ok-names.names.items (sym c.deref.ensures.value ∙ c.has_none.ensures.0 is) c.in_ok-names.ensures.names

pub returns-clause-full : goal.returns-clause-full
returns-clause-full g c = λ is. holds_something (g.V.Vault.files c.args.out.now) c.in_ok-names.names.items (λ none. let no : false ≡ true = sym is ∙ c.has_none.ensures.1 (c.deref.ensures.value ∙ none) in absurd cc) c.in_ok-names.ensures.names
