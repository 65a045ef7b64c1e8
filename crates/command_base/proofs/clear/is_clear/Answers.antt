-- It holds none just where it has no name.
use Rattle.std.proofs.Common.{◌≡◌, IsTrue, ◌↔◌, sym, ◌∙◌}
use Rattle.std.specs.FinMap.{empty, keys}
use Rattle.lsn_core.specs.byte_words.Told.{when_told}
use Rattle.command_base.proofs.NoFile.{clear_of_names, names_of_clear}
use Rattle.command_base.proofs.clear.is_clear.Goals as goal

pub returns-clause-clear : goal.returns-clause-clear
returns-clause-clear g c =
    when_told (g.V.Vault.files c.args.area.now) (λ m. c.in_ok-names.names.items ≡ keys m) (λ m. IsTrue c.has_none.result ↔ (m ≡ empty))
    (λ m named. (λ yes. clear_of_names m (sym named ∙ sym c.deref.ensures.value ∙ c.has_none.ensures.0 yes), λ none. c.has_none.ensures.1 (c.deref.ensures.value ∙ named ∙ names_of_clear m none)))
    c.in_ok-names.ensures.names
