use Rattle.std.proofs.Common.{rules, ◌∙◌, ◌∷◌, ◌++◌, map, ap, sym, subst, List, ℕ, Option, IfSome, All}
use Rattle.std.proofs.lemmas.List.Elements.{All-push}
use Rattle.lsn_core.specs.byte_words.Told.{when_both_told}
use Rattle.lsn_core.specs.Files.{Files}
use Rattle.chain_listing.specs.Shown.{Shows}
use Rattle.chain_listing.specs.Folders.{EntryShows}
use Rattle.chain_listing.specs.declared.reading.Folder.{Folder}
use Rattle.chain_listing.proofs.ShownFolders.{names_pushed}
use Rattle.chain_listing.proofs.reading.shown_in.Goals as goal

pub loop-name-preserved : goal.loop-name-preserved
loop-name-preserved g c = record {
  names = ap (λ (x : List Folder). map (λ f. f.name) x ++ c.in-Some.behind.now) c.in_ok-push.ensures.items
      ∙ (names_pushed c.loop-name.folders.items (record { name = c.in_ok-name.name; shows = c.in_ok-shows.shows }) c.in-Some.behind.now
      ∙ (ap (λ (n : List ℕ). map (λ f. f.name) c.loop-name.folders.items ++ (n ∷ c.in-Some.behind.now)) (c.in_ok-name.ensures ∙ c.as_bytes-in-Some.ensures)
      ∙ (ap (λ (l : List (List ℕ)). map (λ f. f.name) c.loop-name.folders.items ++ l) (sym c.in-Some.ensures.cases.0) ∙ c.loop-name.invariant.names)));
  shown = when_both_told (g.V.Vault.files c.args.area.now) (λ m. All (EntryShows m) c.loop-name.folders.items) (λ m. Shows m c.as_bytes.result.now c.in_ok-shows.shows) _
      (λ m all one. subst (All (EntryShows m)) (sym c.in_ok-push.ensures.items)
      (All-push (EntryShows m) c.loop-name.folders.items (record { name = c.in_ok-name.name; shows = c.in_ok-shows.shows }) all
      (subst (λ (n : List ℕ). Shows m n c.in_ok-shows.shows) (c.as_bytes.ensures ∙ sym (c.in_ok-name.ensures ∙ c.as_bytes-in-Some.ensures)) one)))
      c.loop-name.invariant.shown
      (subst (λ (o : Option Files). IfSome o (λ m. Shows m c.as_bytes.result.now c.in_ok-shows.shows)) c.loop-name.invariant.reads.files c.in_ok-shows.ensures.shows);
  reads = search rules;
}
