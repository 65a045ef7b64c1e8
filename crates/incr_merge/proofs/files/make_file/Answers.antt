use Rattle.std.proofs.Common.{◌∙◌, sym, subst, List, ℕ, true}
use Rattle.chain_files.specs.Sources.{OfChain}
use Rattle.chain_files.specs.Told.{chain_told}
use Rattle.chain_files.specs.Paths.{IsIncrementalPath}
use Rattle.combine.proofs.Contents.{made_more}
use Rattle.incr_merge.specs.Inside.{IsContent, IsKept}
use Rattle.incr_merge.proofs.Contents.{JoinedFor, joined_content, kept_content}
use Rattle.incr_merge.proofs.files.make_file.Goals as goal

pub returns-in-Some-clause-made : goal.returns-in-Some-clause-made
returns-in-Some-clause-made g c =
    let told = chain_told g.V.Vault c.args.areas.now c.args.places.now in
    made_more (λ bytes. OfChain told (λ series. JoinedFor series bytes c.in-Some.folder.now c.in-Some.name.now)) (IsContent told c.args.target.now) c.as_bytes-to.result.now c.args.target.now.to (g.V.Vault.files c.args.out.now) (g.V.Vault.files c.join_file.new.out) c.join_file.result c.as_bytes-to.ensures
    (λ bytes is. joined_content told c.args.target.now bytes c.in-Some.folder.now c.in-Some.name.now c.in-Some.ensures.placed (sym c.as_bytes.ensures ∙ c.in-Some.ensures.found) is) c.join_file.ensures.made

pub returns-in-None-clause-made : goal.returns-in-None-clause-made
returns-in-None-clause-made g c =
    let told = chain_told g.V.Vault c.args.areas.now c.args.places.now in
    made_more (IsKept told c.as_bytes-to.result.now) (IsContent told c.args.target.now) c.as_bytes-to.result.now c.args.target.now.to (g.V.Vault.files c.args.out.now) (g.V.Vault.files c.keep_file.new.out) c.keep_file.result c.as_bytes-to.ensures
    (λ bytes is.
    kept_content told c.args.target.now bytes c.requires.target (subst (λ (path : List ℕ). IsIncrementalPath path → ⊥) c.as_bytes.ensures c.in-None.ensures.none) (subst (λ (path : List ℕ). IsKept told path bytes) c.as_bytes-to.ensures is))
    c.keep_file.ensures.made
