-- The places that the directory of a full backup tells.
use Rattle.std.proofs.Common.{◌≡◌, ℕ, List, Bool, cond, Option, Some, Result, Ok, Err, ◌⊎◌, inl, inr, sym, ap, subst, ◌∙◌}
use Rattle.std.specs.FinMap.{get, insert, get-insert}
use Rattle.std.specs.Cmp.Lexicographic.{nat_list_cmp_total}
use Rattle.std.proofs.lemmas.Cmp.{eq_by_cmp_equiv}
use Rattle.lsn_core.specs.Files.{Files}
use Rattle.lsn_core.specs.Segment.{StoreSettings}
use Rattle.lsn_core.specs.Store.{Store}
use Rattle.lsn_core.specs.declared.lsn.Lsn.{Lsn}
use Rattle.manifest.specs.Laws.{TextsHaveOneManifest}
use Rattle.manifest.specs.Listing.{Listing}
use Rattle.manifest.specs.Reading.{ReadAnswers}
use Rattle.manifest.specs.Text.{manifest_text}
use Rattle.recovery.proofs.OneWal.{same_lsn}
use Rattle.backup_files.specs.Directory.{manifest_name, listing_with}
use Rattle.backup_sending.specs.Directory.{IsFullBackup}
use Rattle.backup_label.specs.Laws.{TextsHaveOneLabel}
use Rattle.chain_laws.specs.Laws.{FullBackupsHoldTheirCopies}
use Rattle.chain_check.specs.Laws.{ListedHaveForms}
use Rattle.backup_restore.specs.Directories.{FilesHoldOneStore}
use Rattle.chain_check.specs.Directory.{HasManifest, IsAsListed}
use Rattle.chain_check.specs.declared.member.Member.{Member}
use Rattle.manifest.specs.declared.fault.ManifestFault.TheVariants.{NoMemory}
use Rattle.manifest.specs.declared.fault.ManifestFault.{ManifestFault}

-- what is known of lower crates
pub record Known : Type 0 where
  pub texts : TextsHaveOneManifest
  pub labels : TextsHaveOneLabel
  pub copies : FullBackupsHoldTheirCopies
  pub one : FilesHoldOneStore
  pub forms : ListedHaveForms

-- ---- the manifest

pub some_is : {A : Type 0} (x y : A) → ◌≡◌ {A = Option A} (Some x) (Some y) → x ≡ y
some_is x y e = cc

pub put_there : (m : Files) (name bytes : List ℕ) → get (insert m name bytes) name ≡ Some bytes
put_there m name bytes = get-insert nat_list_cmp_total m name bytes name ∙ ap (λ (b : Bool). cond b (Some bytes) (get m name)) ((eq_by_cmp_equiv nat_list_cmp_total).refl name)

pub manifest_there : (s : StoreSettings) (name : List ℕ) (when : ℕ) (copy : Store) (start checkpoint end : Lsn) (count : ℕ) (files : Files) (is : IsFullBackup s name when copy start checkpoint end count (Some files)) → HasManifest files (listing_with s.system is.rows start end)
manifest_there s name when copy start checkpoint end count files is =
    let text : List ℕ = manifest_text (listing_with s.system is.rows start end) in
    (text, ap (λ (m : Files). get m manifest_name) is.files_are ∙ put_there _ manifest_name text, is.manifest_read)

same_manifest : (m n : Listing) → (◌≡◌ {A = Result Listing ManifestFault} (Ok n) (Ok m)) ⊎ (◌≡◌ {A = Result Listing ManifestFault} (Ok n) (Err NoMemory)) → n ≡ m
same_manifest m n (inl e) = cc
same_manifest m n (inr e) = absurd cc

-- a directory has one
pub manifest_once : TextsHaveOneManifest → (files : Files) (m n : Listing) → HasManifest files m → HasManifest files n → n ≡ m
manifest_once law files m n is was =
    let text : is.0 ≡ was.0 = some_is is.0 was.0 (sym is.1 ∙ was.1) in
    same_manifest m n (law is.0 m (Ok n) is.2 (subst (λ (b : List ℕ). ReadAnswers b (Ok n)) (sym text) was.2))

-- the member that a directory was found to be has the places of the backup that wrote it
pub places_told : TextsHaveOneManifest → (s : StoreSettings) (name : List ℕ) (when : ℕ) (copy : Store) (start checkpoint end : Lsn) (count : ℕ) (files : Files) (member : Member) → IsFullBackup s name when copy start checkpoint end count (Some files) → IsAsListed files member → (member.label.start ≡ start) × (member.manifest.end ≡ end.0)
places_told law s name when copy start checkpoint end count files member is listed =
    let same : member.manifest ≡ listing_with s.system is.rows start end = manifest_once law files (listing_with s.system is.rows start end) member.manifest (manifest_there s name when copy start checkpoint end count files is) listed.manifest in
    (same_lsn member.label.start start (listed.label.1 ∙ ap (λ (m : Listing). m.start) same), ap (λ (m : Listing). m.end) same)
