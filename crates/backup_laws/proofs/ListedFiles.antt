-- The directory of a full backup is as its manifest lists it.
use Rattle.std.proofs.Common.{◌≡◌, ℕ, ◌*◌, ◌<◌, true, false, List, [], length, take, drop, Option, Some, None, unwrap_or, is_some, refl, subst, ◌∙◌, arith}
use Rattle.std.specs.List.{AllByRecursion}
use Rattle.std.specs.FinMap.{get, keys, contains_key, contains_key-keys}
use Rattle.std.proofs.lemmas.Cmp.{eq_by_cmp_equiv}
use Rattle.std.proofs.lemmas.List.Elements.{All-drop, All-take, recursion_from_All}
use Rattle.std.proofs.lemmas.Map.Views.{All-from_any}
use Rattle.lsn_core.specs.Blocks.{pages_of}
use Rattle.lsn_core.specs.Files.{Files}
use Rattle.lsn_core.specs.Laws.{HasNamedForks}
use Rattle.lsn_core.specs.Names.{fork_path_bytes, IsNamed}
use Rattle.lsn_core.specs.Segment.{StoreSettings}
use Rattle.lsn_core.specs.Store.{Store, ForkPages, fork_files, segment_content, segment_count, store_files}
use Rattle.lsn_core.specs.declared.ids.ForkId.{ForkId}
use Rattle.lsn_core.specs.declared.lsn.Lsn.{Lsn}
use Rattle.lsn_core.proofs.AnyAll.{all_pieces, all_range}
use Rattle.lsn_core.proofs.ForkOrder.{fork_cmp_total}
use Rattle.lsn_core.proofs.StoreFiles.{all_files}
use Rattle.rel_files.specs.Forks.{HasWholePages}
use Rattle.backup_sending.specs.Directory.{full_label, IsDirectory, IsFullBackup}
use Rattle.backup_sending.proofs.Listings.{count_fits}
use Rattle.backup_sending.proofs.Segments.{named_at}
use Rattle.chain_files.proofs.Pages.{bytes_length}
use Rattle.backup_laws.specs.Finished.{FinishedBackupsAreListed}
use Rattle.backup_laws.proofs.ListedDirectories.{File, IsForkFileIn, directory_listed}

-- ---- the files of the pages

there_of : (o : Option ForkPages) → is_some o ≡ true → o ≡ Some (unwrap_or o [])
there_of None e = absurd cc
there_of (Some pages) e = refl

-- a file of a fork is of whole pages
whole_file : (relseg : ℕ) (copy : Store) (put : List File) (fork : ForkId) (seg : ℕ) → 0 < relseg → HasNamedForks copy → HasWholePages copy → contains_key copy fork ≡ true → seg < segment_count relseg (length (pages_of copy fork)) → IsForkFileIn put (fork_path_bytes fork seg false, segment_content relseg (pages_of copy fork) seg)
whole_file relseg copy put fork seg some named whole in_store lt =
    let pages : ForkPages = pages_of copy fork in
    let is : get copy fork ≡ Some pages = there_of (get copy fork) in_store in
    let long : IsNamed fork (length pages) = named fork pages is in
    let part : ForkPages = take relseg (drop (seg * relseg) pages) in
    let size = bytes_length 8192 part (recursion_from_All (λ page. length page ≡ 8192) part (All-take (λ page. length page ≡ 8192) relseg (drop (seg * relseg) pages) (All-drop (λ page. length page ≡ 8192) (seg * relseg) pages (whole fork pages is)))) in
    record {
      fork = fork;
      seg = seg;
      incr = false;
      named = named_at fork (length pages) seg long (count_fits relseg (length pages) seg some lt long.seg_fits);
      path = refl;
      plain = λ e. omega (arith, size);
      head = λ e. absurd cc;
      alone = λ e. absurd cc;
    }

all_whole : (relseg : ℕ) (copy : Store) (put : List File) → 0 < relseg → HasNamedForks copy → HasWholePages copy → AllByRecursion (IsForkFileIn put) (store_files relseg copy)
all_whole relseg copy put some named whole =
    let in_store : AllByRecursion (λ k. contains_key copy k ≡ true) (keys copy) =
    recursion_from_All (λ k. contains_key copy k ≡ true) (keys copy) (All-from_any (eq_by_cmp_equiv fork_cmp_total) (λ k. contains_key copy k ≡ true) (keys copy) (λ k any. contains_key-keys copy k ∙ any)) in
    subst (AllByRecursion (IsForkFileIn put)) (all_files relseg copy)
    (all_pieces (λ k. contains_key copy k ≡ true) (IsForkFileIn put) (λ k. fork_files relseg (k, pages_of copy k)) (keys copy) (λ k there.
    all_range (IsForkFileIn put) (λ seg. (fork_path_bytes k seg false, segment_content relseg (pages_of copy k) seg)) 0 (segment_count relseg (length (pages_of copy k))) (λ seg least most.
    whole_file relseg copy put k seg some named whole there (omega (arith, most)))) in_store)

-- ---- the law

-- it is that of a backup whose files are the copy's
abbrev full_directory : (s : StoreSettings) (name : List ℕ) (when : ℕ) (copy : Store) (start checkpoint end : Lsn) (count : ℕ) (files : Option Files) → IsFullBackup s name when copy start checkpoint end count files → IsDirectory s (λ begun. full_label start checkpoint begun name) when (store_files s.relseg copy) start end count files
full_directory s name when copy start checkpoint end count files is = record {
  begun = is.begun;
  begun_at = is.begun_at;
  modified = is.modified;
  modified_at = is.modified_at;
  label = is.label;
  label_is = is.label_is;
  label_read = is.label_read;
  rows = is.rows;
  listed = is.listed;
  counted = is.counted;
  manifest_read = is.manifest_read;
  files_are = is.files_are;
}

pub finished_listed : FinishedBackupsAreListed
finished_listed s name when copy start checkpoint end count files is some line =
    let put : List File = store_files s.relseg copy in
    directory_listed s (λ begun. full_label start checkpoint begun name) when put start end count files
    (full_directory s name when copy start checkpoint end count (Some files) is)
    (all_whole s.relseg copy put some is.named is.whole)
    name (is.label_read line) refl
