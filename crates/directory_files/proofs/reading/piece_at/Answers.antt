use Rattle.std.proofs.Common.{rules, refl, sym, subst, ◌≡◌, ◌++◌, Option, IfSome, length, take, drop, get_or, arith}
use Rattle.std.proofs.lemmas.List.{length-take-le}
use Rattle.lsn_core.specs.Files.{Files}
use Rattle.vault.specs.Area.{bytes_of}
use Rattle.directory_files.proofs.Grown.{piece_read}
use Rattle.chain_files.proofs.Told.{reads_set, fails_here, told_here}
use Rattle.directory_files.proofs.reading.piece_at.Goals as goal

pub returns-in-Ok-clause-reads : goal.returns-in-Ok-clause-reads
returns-in-Ok-clause-reads g c =
    reads_set g.V.Vault c.args.areas.now c.args.place c.index-areas-place.result _ c.requires.place refl (record { files = c.read_at.ensures.same; past = c.read_at.ensures.quiet; faults = c.read_at.ensures.cause.later })

pub returns-in-Err-clause-reads : goal.returns-in-Err-clause-reads
returns-in-Err-clause-reads g c =
    reads_set g.V.Vault c.args.areas.now c.args.place c.index-areas-place.result _ c.requires.place refl (record { files = c.read_at.ensures.same; past = c.read_at.ensures.quiet; faults = c.read_at.ensures.cause.later })

pub returns-in-Err-clause-cause : goal.returns-in-Err-clause-cause
returns-in-Err-clause-cause g c = fails_here g.V.Vault c.args.areas.now c.args.place c.index-areas-place.result _ _ c.requires.place refl (λ failed. c.in-Err.ensures.cause.failed (search rules))

pub returns-in-Ok-clause-read : goal.returns-in-Ok-clause-read
returns-in-Ok-clause-read g c =
    let before = take c.args.most c.args.into.now in
    let behind = drop c.args.most c.args.into.now in
    let long : length before ≡ c.args.most = length-take-le c.args.most c.args.into.now (omega arith) in
    subst (λ (o : Option Files). IfSome o (λ m. take c.in-Ok.count (c.read_at.new.into ++ behind) ≡ take c.args.most (drop c.args.at (bytes_of m c.args.path.now)))) (sym (told_here g.V.Vault c.args.areas.now c.args.place c.index-areas-place.result c.requires.place))
    (piece_read (g.V.Vault.files (get_or c.args.areas.now c.args.place c.index-areas-place.result).area) c.args.path.now before c.read_at.new.into behind c.args.at c.args.most c.in-Ok.count long c.in-Ok.ensures.read)
