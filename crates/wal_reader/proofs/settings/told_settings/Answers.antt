-- The front of the file tells what the file tells.
use Rattle.std.proofs.Common.{◌≡◌, Some, None, codes, take, ap, ◌∙◌}
use Rattle.std.specs.FinMap.{get}
use Rattle.std.specs.Option.{option_map}
use Rattle.lsn_core.specs.byte_words.Told.{when_told}
use Rattle.wal_reader.specs.Inside.{TellsNumbers}
use Rattle.wal_reader.proofs.SettingsText.{told_by, told_absent}
use Rattle.wal_reader.proofs.settings.told_settings.Goals as goal

pub returns-in-Some-clause-told : goal.returns-in-Some-clause-told
returns-in-Some-clause-told g c =
    when_told (g.V.Vault.files c.args.wal.now) (λ m. Some c.in-Some.bytes.items ≡ option_map (take 8192) (get m (codes "settings"))) (λ m. TellsNumbers (get m (codes "settings")) c.settings_in.result)
    (λ m e. told_by (get m (codes "settings")) c.deref.result.now c.settings_in.result (ap Some c.deref.ensures.value ∙ e) c.settings_in.ensures.found c.settings_in.ensures.none)
    (rw c.in-Some.is at c.in_ok-bytes.ensures.bytes)

pub returns-in-None-clause-told : goal.returns-in-None-clause-told
returns-in-None-clause-told g c =
    when_told (g.V.Vault.files c.args.wal.now) (λ m. None ≡ option_map (take 8192) (get m (codes "settings"))) (λ m. TellsNumbers (get m (codes "settings")) (Some (c.standard.result, 131072)))
    (λ m e. told_absent (get m (codes "settings")) c.standard.result c.standard.ensures e)
    (rw c.in-None.is at c.in_ok-bytes.ensures.bytes)
