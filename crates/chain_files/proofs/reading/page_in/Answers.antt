-- A page is read over zeros.
use Rattle.std.proofs.Common.{◌≡◌, ◌∙◌, ap₂, List, ℕ}
use Rattle.lsn_core.specs.byte_words.Told.{when_told}
use Rattle.chain_files.specs.Told.{chain_told}
use Rattle.chain_files.specs.Inside.{read_over}
use Rattle.chain_files.specs.Sources.{member_bytes}
use Rattle.chain_files.proofs.Overs.{over_page}
use Rattle.chain_files.proofs.reading.page_in.Goals as goal

pub returns-clause-page : goal.returns-clause-page
returns-clause-page g c =
    when_told (chain_told g.V.Vault c.args.areas.now c.args.places.now) (λ chain. c.fill_from.new.into ≡ read_over (member_bytes chain c.args.member c.args.path.now) c.from.result c.zeros-page.result) _
    (λ chain is. is ∙ ap₂ (λ (at : ℕ) (before : List ℕ). read_over (member_bytes chain c.args.member c.args.path.now) at before) c.from.ensures c.zeros-page.ensures ∙ over_page (member_bytes chain c.args.member c.args.path.now) c.args.at)
    c.in_ok-fill_from.ensures.filled
