-- The label of a backup, written and listed.
use Rattle.std.proofs.Common.{◌≡◌, ◌≢◌, ℕ, ◌^◌, ◌<◌, ◌≤◌, List, [], ◌∷◌, ◌++◌, length, get_or, codes, Option, Some, None, IfSome, refl, sym, ap, subst, ◌∙◌, arith}
use Rattle.std.specs.Option.{option_map}
use Rattle.sha2.specs.Sha256.{sha256}
use Rattle.lsn_core.specs.Files.{Files}
use Rattle.lsn_core.specs.Names.{segment_number}
use Rattle.lsn_core.specs.Segment.{IsSegmentMib, StoreSettings}
use Rattle.lsn_core.specs.Sizes.{most_segments}
use Rattle.lsn_core.specs.declared.lsn.Lsn.{Lsn}
use Rattle.backup_label.specs.Label.{IsLabel, label_text}
use Rattle.backup_label.specs.Laws.{WrittenLabelsAreRead, TimesHaveNoLineEnd}
use Rattle.backup_label.specs.Time.{IsTimeText}
use Rattle.vault.specs.Area.{after_write}
use Rattle.manifest.specs.declared.listing.FileRow.{FileRow}
use Rattle.store_locks.specs.declared.receipt.Redo.{Redo}
use Rattle.backup_files.specs.Area.{Lacks}
use Rattle.backup_files.specs.Directory.{label_name, manifest_name}
use Rattle.backup_files.specs.Rows.{row_with}
use Rattle.backup_sending.specs.Inside.{AddsLabel, IsLabelOf, backup_label}
use Rattle.backup_files.proofs.Appended.{written_new_in}

-- it is another file than the manifest
pub label_apart : label_name ≢ manifest_name
label_apart e = let differ : 108 ≡ 109 = ap (λ (x : List ℕ). get_or x 7 0) e in omega (arith, differ)

prior_fits : (prior : Option Lsn) → IfSome prior (λ at. at.0 < 2 ^ 64) → IfSome {T = Lsn × ℕ} (option_map (λ at. (at, 1)) prior) (λ p. (p.0.0 < 2 ^ 64) × (p.1 < 2 ^ 32))
prior_fits None fits = tt
prior_fits (Some at) fits = (fits, omega arith)

-- it is read where its name is one line
pub label_says : WrittenLabelsAreRead → TimesHaveNoLineEnd → (settings : StoreSettings) (redo : Redo) (prior : Option Lsn) (name : List ℕ) (when : ℕ) (begun text : List ℕ) → IsSegmentMib settings.segment → segment_number redo.redo.0 settings.segment ≤ most_segments → redo.redo.0 < 2 ^ 64 → redo.at.0 < 2 ^ 64
    → IfSome prior (λ at. at.0 < 2 ^ 64) → IsTimeText when (codes "UTC") begun → text ≡ label_text (backup_label redo prior name begun) settings.segment → IsLabelOf settings redo prior name when text
label_says written times settings redo prior name when begun text size segment start checkpoint fits moment is =
    let label = backup_label redo prior name begun in
    record {
      begun = begun;
      begun_at = moment;
      text_is = is;
      read = λ single.
          subst (λ (x : List ℕ). IsLabel x label) (sym is)
          (written label settings.segment (record {
            size = size;
            start = start;
            segment = segment;
            checkpoint = checkpoint;
            time = times when (codes "UTC") begun (refl, (refl, (refl, tt))) moment;
            label = single;
            timeline = omega arith;
            prior = prior_fits prior fits;
          }));
    }

pub label_added : (settings : StoreSettings) (redo : Redo) (prior : Option Lsn) (name : List ℕ) (when : ℕ) (modified path text sum : List ℕ) (size : ℕ) (old new : Option Files) (before rows : List FileRow) (row : FileRow) → IsLabelOf settings redo prior name when text → length text < 2 ^ 64 → Lacks old label_name
    → new ≡ option_map (after_write label_name 0 text) old → row ≡ row_with path size modified sum → path ≡ label_name → size ≡ length text → sum ≡ sha256 text → rows ≡ before ++ (row ∷ []) → AddsLabel settings redo prior name when modified old new before rows
label_added settings redo prior name when modified path text sum size old new before rows row label fits lacks wrote row_is path_is size_is sum_is grown = record {
  text = text;
  label = label;
  fits = fits;
  stands = wrote ∙ written_new_in old label_name text lacks;
  listed =
      grown ∙ ap (λ (r : FileRow). before ++ (r ∷ []))
      (row_is ∙ (ap (λ (x : List ℕ). row_with x size modified sum) path_is ∙ (ap (λ (n : ℕ). row_with label_name n modified sum) size_is ∙ ap (λ (x : List ℕ). row_with label_name (length text) modified x) sum_is)));
}
