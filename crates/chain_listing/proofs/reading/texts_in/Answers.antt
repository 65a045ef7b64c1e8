use Rattle.std.proofs.Common.{◌≡◌, ◌∙◌, subst, Option, IfSome}
use Rattle.lsn_core.specs.byte_words.Told.{when_both_told}
use Rattle.lsn_core.specs.Files.{Files}
use Rattle.vault.specs.Area.{bytes_of}
use Rattle.chain_listing.specs.Folders.{IsFile, TellsIn}
use Rattle.chain_listing.proofs.ShownFolders.{told_in}
use Rattle.chain_listing.proofs.reading.texts_in.Goals as goal

pub returns-clause-shows : goal.returns-clause-shows
returns-clause-shows g c =
    when_both_told (g.V.Vault.files c.args.area.now) (λ m. IsFile m c.deref.result.now c.in_ok-manifest.manifest) (λ m. c.in_ok-label.label.items ≡ bytes_of m c.deref-2.result.now)
    (λ m. TellsIn m c.args.folder.now c.in_ok-told.field-0)
    (λ m is held. told_in m c.args.folder.now c.deref.result.now c.deref-2.result.now c.in_ok-manifest.manifest c.deref-3.result.now _ c.in_ok-told.field-0
    (c.deref.ensures.value ∙ c.in_ok-path.ensures) (c.deref-2.ensures.value ∙ c.in_ok-path-2.ensures) c.text_of.ensures is (c.deref-3.ensures.value ∙ held) c.in_ok-told.ensures)
    c.in_ok-manifest.ensures.bytes
    (subst (λ (o : Option Files). IfSome o (λ m. c.in_ok-label.label.items ≡ bytes_of m c.deref-2.result.now)) c.in_ok-manifest.ensures.reads.files c.in_ok-label.ensures.bytes)
