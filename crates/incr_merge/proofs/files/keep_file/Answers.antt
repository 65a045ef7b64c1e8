use Rattle.std.proofs.Common.{rules, ◌≡◌, ◌-◌, false, get_or, length, IfSome, refl, arith}
use Rattle.std.specs.Str.{bytes_eq}
use Rattle.vault.specs.Area.{bytes_of}
use Rattle.backup_files.specs.Directory.{label_name}
use Rattle.chain_files.specs.Told.{chain_told, told_at}
use Rattle.combine.specs.Inside.{IsLast}
use Rattle.combine.proofs.Contents.{made_more}
use Rattle.merge_laws.specs.Merged.{merged_label}
use Rattle.incr_merge.specs.Inside.{IsKept}
use Rattle.incr_merge.proofs.Kept.{first_place, kept_copy, kept_label, last_place}
use Rattle.incr_merge.proofs.files.keep_file.Goals as goal

pub returns-then-eq-clause-made : goal.returns-then-eq-clause-made
returns-then-eq-clause-made g c =
    let newest = get_or c.args.places.now (length c.args.places.now - 1) 0 in
    let oldest = get_or c.args.places.now 0 0 in
    let last : IsLast c.args.places.now newest = last_place c.args.places.now (length c.args.places.now - 1) 0 (omega (arith, c.requires.some)) in
    let is : c.args.path.now ≡ label_name = search rules in
    made_more (λ bytes. IfSome (told_at g.V.Vault c.args.areas.now oldest) (λ first. IfSome (told_at g.V.Vault c.args.areas.now newest) (λ m. bytes ≡ merged_label (bytes_of first c.args.path.now) (bytes_of m c.args.path.now))))
    (IsKept (chain_told g.V.Vault c.args.areas.now c.args.places.now) c.args.path.now) c.args.path.now c.args.path.now (g.V.Vault.files c.args.out.now) (g.V.Vault.files c.write_label.new.out) c.write_label.result refl
    (λ bytes made. kept_label g.V.Vault c.args.areas.now c.args.places.now oldest newest c.args.path.now (first_place c.args.places.now oldest 0 c.requires.some refl) last is bytes made) c.write_label.ensures.made

pub returns-clause-made : goal.returns-clause-made
returns-clause-made g c =
    let newest = get_or c.args.places.now (length c.args.places.now - 1) 0 in
    let last : IsLast c.args.places.now newest = last_place c.args.places.now (length c.args.places.now - 1) 0 (omega (arith, c.requires.some)) in
    let other : bytes_eq c.args.path.now label_name ≡ false = search rules in
    made_more (λ bytes. IfSome (told_at g.V.Vault c.args.areas.now newest) (λ m. bytes ≡ bytes_of m c.args.path.now)) (IsKept (chain_told g.V.Vault c.args.areas.now c.args.places.now) c.args.path.now) c.args.path.now c.args.path.now (g.V.Vault.files c.args.out.now)
    (g.V.Vault.files c.copy_file.new.out) c.copy_file.result refl (λ bytes made. kept_copy g.V.Vault c.args.areas.now c.args.places.now newest newest c.args.path.now last other bytes made) c.copy_file.ensures.made
