-- Whether a path is that of an incremental file that rows hold.
use Rattle.std.proofs.Common.{◌≡◌, ℕ, Bool, true, false, ◌||◌, List, refl, sym, ap, ◌∙◌}
use Rattle.manifest.specs.declared.listing.FileRow.{FileRow}
use Rattle.chain_files.specs.Paths.{file_path, IsRelationFile, IsIncrementalPath}
use Rattle.chain_files.proofs.Placed.{one_plain}
use Rattle.chain_check.proofs.ForkFiles.{placed_path}
use Rattle.chain_check.specs.Directory.{is_listed}
use Rattle.chain_check.specs.Chain.{IsHeld}

abbrev Tells : Bool → List FileRow → List ℕ → Type 0
Tells held rows path = (held ≡ true → IsHeld rows path) × (held ≡ false → IsHeld rows path → ⊥)

pub other_held : (rows : List FileRow) (path : List ℕ) → (IsIncrementalPath path → ⊥) → IsHeld rows path
other_held rows path none = record { listed = λ f. absurd (none f) }

first_true : (a b : Bool) → a ≡ true → (a || b) ≡ true
first_true true b e = refl
first_true false b e = absurd (cc)

pub same_held : (rows : List FileRow) (path : List ℕ) → is_listed rows path ≡ true → IsHeld rows path
same_held rows path listed = record { listed = λ f. first_true (is_listed rows path) (is_listed rows (file_path f.folder f.name false)) listed }

second : (a b : Bool) → a ≡ false → (a || b) ≡ b
second true b e = absurd (cc)
second false b e = refl

pub form_held : (rows : List FileRow) (path plain folder name : List ℕ) (held : Bool) → IsRelationFile folder name → path ≡ file_path folder name true → is_listed rows path ≡ false → plain ≡ file_path folder name false → held ≡ is_listed rows plain → Tells held rows path
form_held rows path plain folder name held placed spelled other is told =
    let own : IsIncrementalPath path = placed_path folder name placed spelled in
    let same : (f : IsIncrementalPath path) → (is_listed rows path || is_listed rows (file_path f.folder f.name false)) ≡ held = λ f.
    second (is_listed rows path) (is_listed rows (file_path f.folder f.name false)) other
    ∙ (ap (λ (p : List ℕ). is_listed rows p) (one_plain path f own ∙ sym is) ∙ sym told) in
    (λ t. record { listed = λ f. same f ∙ t }, λ none h. (let never : true ≡ false = sym (h.listed own) ∙ (same own ∙ none) in cc))
