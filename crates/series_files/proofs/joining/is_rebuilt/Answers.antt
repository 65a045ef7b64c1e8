-- Whether the first that isn't incremental is plain.
use Rattle.std.proofs.Common.{◌≡◌}
use Rattle.chain_files.specs.Segments.{forms_at}
use Rattle.chain_files.specs.Sources.{OfChain}
use Rattle.chain_files.specs.Told.{chain_told}
use Rattle.merged_forms.specs.Merged.{rests_on_plain}
use Rattle.series_files.specs.Inside.{Leaves, IsAsked}
use Rattle.series_files.proofs.Asked.{whole_is}
use Rattle.series_files.proofs.ByPaths.{ok_more}
use Rattle.chain_files.proofs.Told.{reads_refl}
use Rattle.series_files.proofs.joining.is_rebuilt.Goals as goal

pub returns-in_err-answered-clause-reads : goal.returns-in_err-answered-clause-reads
returns-in_err-answered-clause-reads g c = reads_refl g.V.Vault c.args.areas.now

pub returns-clause-whole : goal.returns-clause-whole
returns-clause-whole g c =
    let told = chain_told g.V.Vault c.args.areas.now c.args.places.now in
    ok_more c.ask.result (λ plain. OfChain told (λ chain. Leaves (forms_at chain c.args.folder.now c.args.name.now) (forms_at chain c.args.folder.now c.args.name.now) c.in_ok-answered.answered → IsAsked (forms_at chain c.args.folder.now c.args.name.now) plain c.ask.new.answered))
    (λ whole. OfChain told (λ chain. whole ≡ rests_on_plain (forms_at chain c.args.folder.now c.args.name.now)))
    (λ whole asked. whole_is told c.args.folder.now c.args.name.now whole c.in_ok-answered.answered c.ask.new.answered c.in_ok-answered.ensures.least c.in_ok-answered.ensures.had asked) c.ask.ensures.asked
