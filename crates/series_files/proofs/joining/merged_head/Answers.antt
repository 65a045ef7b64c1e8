-- The head by what all members said.
use Rattle.std.proofs.Common.{◌≡◌, ◌∙◌, false, Bool, List, length, ap, arith}
use Rattle.std.proofs.lemmas.List.{length-replicate}
use Rattle.chain_files.specs.Told.{chain_told}
use Rattle.series_files.proofs.Asked.{head_is}
use Rattle.chain_files.proofs.Told.{reads_refl}
use Rattle.series_files.proofs.joining.merged_head.Goals as goal

pub returns-in_err-answered-clause-reads : goal.returns-in_err-answered-clause-reads
returns-in_err-answered-clause-reads g c = reads_refl g.V.Vault c.args.areas.now

pub head-requires-clause-few : goal.head-requires-clause-few
head-requires-clause-few g c =
    let long : length c.in_ok-answered.answered.had.items ≡ c.args.count = ap (λ (l : List Bool). length l) c.in_ok-answered.ensures.had ∙ length-replicate c.args.count false in
    omega (arith, long, c.ask.ensures.long, c.requires.few)

pub returns-clause-head : goal.returns-clause-head
returns-clause-head g c =
    let long : length c.in_ok-answered.answered.had.items ≡ c.args.count = ap (λ (l : List Bool). length l) c.in_ok-answered.ensures.had ∙ length-replicate c.args.count false in
    head_is (chain_told g.V.Vault c.args.areas.now c.args.places.now) c.args.folder.now c.args.name.now c.args.count c.in_ok-ask.field-0 c.in_ok-answered.answered c.ask.new.answered c.in_ok-head.field-0 c.in_ok-answered.ensures.least c.in_ok-answered.ensures.had c.requires.few
    c.in_ok-ask.ensures.asked (c.ask.ensures.long ∙ long) c.in_ok-head.ensures.head
