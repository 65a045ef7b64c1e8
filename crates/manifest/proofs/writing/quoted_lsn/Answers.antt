use Rattle.std.proofs.Common.{rules, ◌<◌, ◌^◌, sym, subst}
use Rattle.std.specs.Str.{IsUtf8}
use Rattle.manifest.proofs.Texts.{IsUtf8-lsn}
use Rattle.manifest.proofs.writing.quoted_lsn.Goals as goal

pub as_text-requires : goal.as_text-requires
as_text-requires c =
    let small : c.args.at.0 < 2 ^ 64 = search rules in
    subst IsUtf8 (sym c.in_ok-text.ensures) (IsUtf8-lsn c.args.at.0 small)
