-- A full backup's directory is a chain of one; and chains stay sound.
use Rattle.std.proofs.Common.{◌≡◌, ℕ, ◌<◌, Bool, true, false, List, [], ◌∷◌, length, Option, Some, None, is_some, unwrap_or, refl, sym, subst, ◌∙◌, arith}
use Rattle.std.specs.List.{AllByRecursion}
use Rattle.std.specs.Ordering.{nat_cmp}
use Rattle.std.specs.Cmp.Lexicographic.{slice_cmp}
use Rattle.std.specs.FinMap.{get, insert, empty, keys, contains_key, contains_key-keys, get-empty}
use Rattle.std.proofs.lemmas.Bool.{true≢false, false_from_ne_true}
use Rattle.std.proofs.lemmas.Cmp.{eq_by_cmp_equiv}
use Rattle.std.proofs.lemmas.List.Elements.{recursion_from_All}
use Rattle.std.proofs.lemmas.Map.Views.{All-from_any}
use Rattle.lsn_core.specs.Blocks.{pages_of}
use Rattle.lsn_core.specs.Files.{Files}
use Rattle.lsn_core.specs.Laws.{HasNamedForks}
use Rattle.lsn_core.specs.Names.{fork_path_bytes, IsNamed}
use Rattle.lsn_core.specs.Store.{Store, ForkPages, fork_files, files_of, segment_content, segment_count, store_files}
use Rattle.lsn_core.specs.declared.ids.ForkId.{ForkId}
use Rattle.lsn_core.proofs.AnyAll.{all_pieces, all_range}
use Rattle.lsn_core.proofs.ForkOrder.{fork_cmp_total}
use Rattle.lsn_core.proofs.ForkPaths.{one_place}
use Rattle.lsn_core.proofs.StoreFiles.{same_name, names_tie, all_files}
use Rattle.history.proofs.fuzzy_copies.Longer.{sound_later}
use Rattle.manifest.specs.Text.{manifest_text}
use Rattle.backup_restore.specs.Directories.{StoresAreHeld, PlainDirectoriesAreChains, AlikeFilesHoldOneStore}
use Rattle.backup_files.specs.Directory.{label_name, manifest_name, listing_with}
use Rattle.backup_sending.specs.Directory.{directory_of}
use Rattle.backup_sending.proofs.Listings.{count_fits}
use Rattle.backup_files.proofs.Appended.{absent}
use Rattle.backup_sending.proofs.Segments.{named_at}
use Rattle.backup_sending.proofs.Texts.{never_named}
use Rattle.chain_files.specs.Held.{IsStoreOfChain}
use Rattle.chain_files.specs.Segments.{chain_segments}
use Rattle.chain_laws.specs.Laws.{FullBackupsHoldTheirCopies, FullBackupsAreSoundChains, SoundChainsStaySound, ChainsCombinedAlikeAreSoundAlike}
use Rattle.chain_laws.proofs.Files.{get_other}

-- label and manifest are at no fork's path
pub at_fork : (relseg : ℕ) (copy : Store) (label manifest : List ℕ) (fork : ForkId) (seg : ℕ) (incr : Bool) → get (directory_of relseg copy label manifest) (fork_path_bytes fork seg incr) ≡ get (files_of relseg copy) (fork_path_bytes fork seg incr)
at_fork relseg copy label manifest fork seg incr =
    get_other (insert (files_of relseg copy) label_name label) manifest_name manifest (fork_path_bytes fork seg incr) (never_named fork seg incr manifest_name (λ x. omega (arith, x)))
    ∙ get_other (files_of relseg copy) label_name label (fork_path_bytes fork seg incr) (never_named fork seg incr label_name (λ x. omega (arith, x)))

there_of : (o : Option ForkPages) → is_some o ≡ true → o ≡ Some (unwrap_or o [])
there_of None e = absurd cc
there_of (Some pages) e = refl

-- a store's files are plain
module _ (relseg : ℕ) (copy : Store) (some : 0 < relseg) (named : HasNamedForks copy) (fork : ForkId) (seg : ℕ) (fits : IsNamed fork seg) where
  abbrev path : List ℕ
  path = fork_path_bytes fork seg true

  other_file : (k : ForkId) (s : ℕ) → contains_key copy k ≡ true → s < segment_count relseg (length (pages_of copy k)) → same_name path (fork_path_bytes k s false) ≡ false
  other_file k s there less = false_from_ne_true (same_name path (fork_path_bytes k s false)) (λ e.
      let long : IsNamed k (length (pages_of copy k)) = named k (pages_of copy k) (there_of (get copy k) there) in
      let here : IsNamed k s = named_at k (length (pages_of copy k)) s long (count_fits relseg (length (pages_of copy k)) s some less long.seg_fits) in
      let one = one_place fork k seg s true false fits here (names_tie path (fork_path_bytes k s false) e) in
      true≢false one.1.1)

  others : AllByRecursion (λ f. same_name path f.0 ≡ false) (store_files relseg copy)
  others =
      let in_store : AllByRecursion (λ k. contains_key copy k ≡ true) (keys copy) =
      recursion_from_All (λ k. contains_key copy k ≡ true) (keys copy) (All-from_any (eq_by_cmp_equiv fork_cmp_total) (λ k. contains_key copy k ≡ true) (keys copy) (λ k any. contains_key-keys copy k ∙ any)) in
      subst (AllByRecursion (λ f. same_name path f.0 ≡ false)) (all_files relseg copy)
      (all_pieces (λ k. contains_key copy k ≡ true) (λ f. same_name path f.0 ≡ false) (λ k. fork_files relseg (k, pages_of copy k)) (keys copy) (λ k there.
      all_range (λ f. same_name path f.0 ≡ false) (λ s. (fork_path_bytes k s false, segment_content relseg (pages_of copy k) s)) 0 (segment_count relseg (length (pages_of copy k))) (λ s least most.
      other_file k s there (omega (arith, most)))) in_store)

  pub no_increment : get (files_of relseg copy) path ≡ None
  no_increment = absent empty path (store_files relseg copy) others ∙ get-empty (slice_cmp nat_cmp) path

-- what is known of directories
pub record KnownOfFiles : Type 0 where
  pub held : StoresAreHeld
  pub chain : PlainDirectoriesAreChains

pub full_held : KnownOfFiles → FullBackupsHoldTheirCopies
full_held known s name when copy start checkpoint end count files range is =
    let text : List ℕ = manifest_text (listing_with s.system is.rows start end) in
    let some : 0 < s.relseg = omega (arith, range.least) in
    subst (λ (m : Files). IsStoreOfChain s.relseg (m ∷ []) copy) (sym is.files_are)
    (known.chain s.relseg (directory_of s.relseg copy is.label text) copy some
    (λ fork seg fits. at_fork s.relseg copy is.label text fork seg true ∙ no_increment s.relseg copy some is.named fork seg fits)
    (known.held s.relseg (directory_of s.relseg copy is.label text) copy some (record { named = is.named; pages = is.whole }) (λ fork seg fits. at_fork s.relseg copy is.label text fork seg false)))

pub full_sound : KnownOfFiles → FullBackupsAreSoundChains
full_sound known s name when copy start checkpoint end count files history range is sound = record {
  copy = copy;
  held = full_held known s name when copy start checkpoint end count files range is;
  sound = sound;
}

pub chain_later : SoundChainsStaySound
chain_later relseg history more chain from to orderly is = record {
  copy = is.copy;
  held = is.held;
  sound = sound_later is.copy history more from to orderly is.sound;
}

pub alike_sound : AlikeFilesHoldOneStore → ChainsCombinedAlikeAreSoundAlike
alike_sound law relseg history one other from to range same is = record {
  copy = is.copy;
  held = law relseg (chain_segments one) (chain_segments other) is.copy (omega (arith, range.least)) same is.held;
  sound = is.sound;
}
