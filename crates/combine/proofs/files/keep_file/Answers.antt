use Rattle.std.proofs.Common.{rules, ◌≡◌, false, IfSome, refl}
use Rattle.std.specs.Str.{bytes_eq}
use Rattle.vault.specs.Area.{bytes_of}
use Rattle.backup_files.specs.Directory.{label_name}
use Rattle.chain_files.specs.Told.{told_at}
use Rattle.combine.specs.Combined.{kept_bytes}
use Rattle.combine.proofs.Contents.{made_more, other_kept}
use Rattle.combine.proofs.files.keep_file.Goals as goal

pub returns-clause-made : goal.returns-clause-made
returns-clause-made g c =
    let told = told_at g.V.Vault c.args.areas.now c.args.place in
    let other : bytes_eq c.args.path.now label_name ≡ false = search rules in
    made_more (λ bytes. IfSome told (λ m. bytes ≡ bytes_of m c.args.path.now)) (λ bytes. IfSome told (λ m. bytes ≡ kept_bytes m c.args.path.now)) c.args.path.now c.args.path.now (g.V.Vault.files c.args.out.now) (g.V.Vault.files c.copy_file.new.out)
    c.copy_file.result refl (λ bytes is. other_kept told c.args.path.now bytes other is) c.copy_file.ensures.made
