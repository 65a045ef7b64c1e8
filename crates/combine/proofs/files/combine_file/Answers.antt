use Rattle.std.proofs.Common.{◌≡◌, ◌∙◌, IfSome, sym, subst, take, List, ℕ, true}
use Rattle.incr_file.specs.Form.{pages_bytes}
use Rattle.chain_files.specs.Segments.{chain_pages}
use Rattle.chain_files.specs.Sources.{OfChain}
use Rattle.chain_files.specs.Told.{chain_told, told_at}
use Rattle.chain_files.specs.Paths.{IsIncrementalPath}
use Rattle.combine.specs.Combined.{kept_bytes}
use Rattle.combine.specs.Inside.{IsContent}
use Rattle.combine.proofs.Contents.{kept_content, made_more, rebuilt_content}
use Rattle.combine.proofs.files.combine_file.Goals as goal

pub returns-in-Some-clause-made : goal.returns-in-Some-clause-made
returns-in-Some-clause-made g c =
    let told = chain_told g.V.Vault c.args.areas.now c.args.places.now in
    made_more (λ bytes. OfChain told (λ chain. IfSome (chain_pages chain c.in-Some.folder.now c.in-Some.name.now) (λ pages. bytes ≡ pages_bytes (take 131072 pages)))) (IsContent told c.args.target.now) c.as_bytes-to.result.now c.args.target.now.to (g.V.Vault.files c.args.out.now)
    (g.V.Vault.files c.rebuild_file.new.out) c.rebuild_file.result c.as_bytes-to.ensures
    (λ bytes is. rebuilt_content told c.args.target.now bytes c.in-Some.folder.now c.in-Some.name.now c.in-Some.ensures.placed (sym c.as_bytes.ensures ∙ c.in-Some.ensures.found) is) c.rebuild_file.ensures.made

pub returns-in-None-clause-made : goal.returns-in-None-clause-made
returns-in-None-clause-made g c =
    let told = told_at g.V.Vault c.args.areas.now c.args.place in
    made_more (λ bytes. IfSome told (λ m. bytes ≡ kept_bytes m c.as_bytes-to.result.now)) (IsContent (chain_told g.V.Vault c.args.areas.now c.args.places.now) c.args.target.now) c.as_bytes-to.result.now c.args.target.now.to (g.V.Vault.files c.args.out.now)
    (g.V.Vault.files c.keep_file.new.out) c.keep_file.result c.as_bytes-to.ensures
    (λ bytes is.
    kept_content g.V.Vault c.args.areas.now c.args.places.now c.args.place c.args.target.now bytes c.requires.last c.requires.target (subst (λ (path : List ℕ). IsIncrementalPath path → ⊥) c.as_bytes.ensures c.in-None.ensures.none)
    (subst (λ (path : List ℕ). IfSome told (λ m. bytes ≡ kept_bytes m path)) c.as_bytes-to.ensures is))
    c.keep_file.ensures.made
