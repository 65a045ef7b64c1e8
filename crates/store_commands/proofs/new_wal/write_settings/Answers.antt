-- What was written is the text of the settings.
use Rattle.std.proofs.Common.{◌≡◌, ℕ, List, Option, OnOk, ap, subst, ◌∙◌}
use Rattle.std.specs.Option.{option_map}
use Rattle.lsn_core.specs.Files.{Files}
use Rattle.vault.specs.Area.{after_write}
use Rattle.wal_reader.specs.Settings.{settings_text}
use Rattle.store_commands.specs.Init.{settings_name, settings_file}
use Rattle.store_commands.proofs.new_wal.write_settings.Goals as goal

pub returns-clause-written : goal.returns-clause-written
returns-clause-written g c =
    let bytes : c.as_bytes.result.now ≡ settings_file c.args.settings.now =
    c.as_bytes.ensures ∙ c.in_ok-text.ensures
    ∙ ap (λ (n : ℕ). settings_text n c.relseg.result) c.segment.ensures.value ∙ ap (settings_text c.args.settings.now.segment) c.relseg.ensures.value in
    subst (λ (f : Option Files). OnOk c.write_at.result (g.V.Vault.files c.write_at.new.self ≡ option_map (after_write settings_name 0 (settings_file c.args.settings.now)) f)) c.in_ok-sync.ensures.same
    (subst (λ (b : List ℕ). OnOk c.write_at.result (g.V.Vault.files c.write_at.new.self ≡ option_map (after_write settings_name 0 b) (g.V.Vault.files c.sync.new.self))) bytes c.write_at.ensures.written)
