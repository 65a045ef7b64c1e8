-- The directory of a full backup (PostgreSQL manual, pg_basebackup; Backup Manifest Format).
use Rattle.std.specs.Prelude.{◌≡◌, ℕ, List, [], ◌∷◌, ◌++◌, length, codes, Option, Some, None, IfSome, Ok}
use Rattle.std.specs.FinMap.{insert}
use Rattle.lsn_core.specs.Files.{Files}
use Rattle.lsn_core.specs.Laws.{HasNamedForks}
use Rattle.lsn_core.specs.Segment.{StoreSettings}
use Rattle.lsn_core.specs.Store.{Store, store_files, files_of}
use Rattle.lsn_core.specs.declared.lsn.Lsn.{Lsn}
use Rattle.rel_files.specs.Forks.{HasWholePages}
use Rattle.backup_label.specs.declared.label.Label.{Label}
use Rattle.backup_label.specs.Label.{HasNoLineEnd, IsLabel, label_text}
use Rattle.backup_label.specs.Time.{IsTimeText}
use Rattle.manifest.specs.declared.listing.FileRow.{FileRow}
use Rattle.manifest.specs.Reading.{ReadAnswers}
use Rattle.manifest.specs.Text.{manifest_text}
use Rattle.backup_files.specs.Directory.{label_name, manifest_name, AreRowsOf, listing_with, directory_with}

-- ---- what is listed

-- the files that are listed: those of the pages that were copied, and the label
abbrev pub listed_files : ℕ → Store → List ℕ → List (List ℕ × List ℕ)
listed_files relseg copy label = store_files relseg copy ++ ((label_name, label) ∷ [])

-- ---- the directory

-- the label of a full backup that was begun at a moment, by its text
abbrev pub full_label : Lsn → Lsn → List ℕ → List ℕ → Label
full_label start checkpoint begun name = record {
  start = start;
  checkpoint = checkpoint;
  time = begun;
  label = name;
  timeline = 1;
  prior = None;
}

-- the files of the pages that were copied, the label and the manifest, and no others
abbrev pub directory_of : ℕ → Store → List ℕ → List ℕ → Files
directory_of relseg copy label manifest =
    insert (insert (files_of relseg copy) label_name label) manifest_name manifest

-- files are the directory of a full backup of these pages, which was begun at a moment under a
-- name. It starts at a place and its checkpoint at another, ends at a third, and lists so many
-- files. The copy can be kept as files: its forks' numbers and lengths fit, and its pages are
-- whole. Label and manifest are read as what they were written from, the label where the name is
-- one line
pub record IsFullBackup (settings : StoreSettings) (name : List ℕ) (when : ℕ) (copy : Store)
    (start checkpoint end : Lsn) (count : ℕ) (files : Option Files) : Type 0 where
  pub named : HasNamedForks copy
  pub whole : HasWholePages copy
  pub begun : List ℕ
  pub begun_at : IsTimeText when (codes "UTC") begun
  pub modified : List ℕ
  pub modified_at : IsTimeText when (codes "GMT") modified
  pub label : List ℕ
  pub label_is : label ≡ label_text (full_label start checkpoint begun name) settings.segment
  pub label_read : HasNoLineEnd name → IsLabel label (full_label start checkpoint begun name)
  pub rows : List FileRow
  pub listed : AreRowsOf modified (listed_files settings.relseg copy label) rows
  pub counted : count ≡ length rows
  pub manifest_read : ReadAnswers (manifest_text (listing_with settings.system rows start end))
      (Ok (listing_with settings.system rows start end))
  pub files_are : IfSome files (λ m. m ≡ directory_of settings.relseg copy label
      (manifest_text (listing_with settings.system rows start end)))

-- ---- any backup's directory

-- the label of an incremental backup, whose prior one starts at a place
abbrev pub incr_label : Lsn → Lsn → Lsn → List ℕ → List ℕ → Label
incr_label start checkpoint prior begun name = record {
  start = start;
  checkpoint = checkpoint;
  time = begun;
  label = name;
  timeline = 1;
  prior = Some (prior, 1);
}

-- the files of an area are these, a label and a manifest that lists them, and no others. The label
-- is one that tells when the backup was begun, and the manifest's range of the WAL goes from a
-- place to another. Both are read as what they were written from, the label where its name is one
-- line
pub record IsDirectory (settings : StoreSettings) (label_of : List ℕ → Label) (when : ℕ)
    (put : List (List ℕ × List ℕ)) (start end : Lsn) (count : ℕ) (files : Option Files)
    : Type 0 where
  pub begun : List ℕ
  pub begun_at : IsTimeText when (codes "UTC") begun
  pub modified : List ℕ
  pub modified_at : IsTimeText when (codes "GMT") modified
  pub label : List ℕ
  pub label_is : label ≡ label_text (label_of begun) settings.segment
  pub label_read : HasNoLineEnd (label_of begun).label → IsLabel label (label_of begun)
  pub rows : List FileRow
  pub listed : AreRowsOf modified (put ++ ((label_name, label) ∷ [])) rows
  pub counted : count ≡ length rows
  pub manifest_read : ReadAnswers (manifest_text (listing_with settings.system rows start end))
      (Ok (listing_with settings.system rows start end))
  pub files_are : IfSome files (λ m. m ≡ directory_with put label
      (manifest_text (listing_with settings.system rows start end)))
