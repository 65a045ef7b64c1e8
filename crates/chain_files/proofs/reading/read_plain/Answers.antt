-- The plain file is read over zeros.
use Rattle.std.proofs.Common.{◌≡◌, ◌∙◌, ◌*◌, ap, length, List, ℕ, IfSome}
use Rattle.lsn_core.specs.byte_words.Told.{when_told}
use Rattle.chain_files.specs.Told.{chain_told}
use Rattle.chain_files.specs.Inside.{read_over}
use Rattle.chain_files.specs.Sources.{member_bytes}
use Rattle.chain_files.proofs.Members.{told_ok}
use Rattle.chain_files.proofs.Overs.{over_sized}
use Rattle.chain_files.proofs.reading.read_plain.Goals as goal

pub returns-clause-read : goal.returns-clause-read
returns-clause-read g c =
    told_ok c.fill_from.result _ _
    (λ (filled : IfSome (chain_told g.V.Vault c.args.areas.now c.args.places.now) (λ chain. c.fill_from.new.into ≡ read_over (member_bytes chain c.args.member c.as_bytes.result.now) (c.from-at.result * 8192) c.fill.new.self)).
    when_told (chain_told g.V.Vault c.args.areas.now c.args.places.now) (λ chain. c.fill_from.new.into ≡ read_over (member_bytes chain c.args.member c.as_bytes.result.now) (c.from-at.result * 8192) c.fill.new.self) _
    (λ chain is. is
    ∙ ap (λ (path : List ℕ). read_over (member_bytes chain c.args.member path) (c.from-at.result * 8192) c.fill.new.self) c.as_bytes.ensures
    ∙ ap (λ (k : ℕ). read_over (member_bytes chain c.args.member c.args.paths.now.plain) (k * 8192) c.fill.new.self) c.from-at.ensures
    ∙ over_sized (member_bytes chain c.args.member c.args.paths.now.plain) c.fill.new.self (c.args.number * 8192) (length c.args.into.now) 65536 (c.fill.ensures.after (λ y e. e)) c.told-into)
    filled)
    c.fill_from.ensures.filled
