-- Directories whose manifests end in one sum.
use Rattle.std.proofs.Common.{◌≡◌, ◌≢◌, ◌⊎◌, ℕ, Bool, true, false, ◌||◌, List, [], ◌∷◌, ◌++◌, Option, Some, Ok, bytes_eq, refl, sym, ap, subst, ◌∙◌, inl, inr, codes, nat_eq}
use Rattle.std.specs.List.{AllByRecursion, starts_with}
use Rattle.std.specs.FinMap.{get}
use Rattle.std.specs.Option.{unwrap_or}
use Rattle.std.proofs.lemmas.Slice.Eq.{bytes_eq-Decides}
use Rattle.hex.proofs.HexLemmas.{decode_of-same}
use Rattle.sha2.specs.Sha256.{sha256}
use Rattle.lsn_core.specs.Files.{Files}
use Rattle.vault.specs.Area.{bytes_of}
use Rattle.backup_label.specs.declared.label.Label.{Label}
use Rattle.backup_label.proofs.OneReading.{one_label}
use Rattle.manifest.specs.Laws.{TextsHaveOneManifest}
use Rattle.manifest.specs.Lines.{line_front, line_back, IsLined}
use Rattle.manifest.specs.Listing.{Listing}
use Rattle.manifest.specs.Reading.{ReadAnswers}
use Rattle.manifest.specs.declared.kinds.SumKind.{SumKind}
use Rattle.manifest.specs.declared.kinds.SumKind.TheVariants.{Sha256}
use Rattle.manifest.specs.declared.listing.FileRow.{FileRow}
use Rattle.backup_files.specs.Directory.{manifest_name, label_name}
use Rattle.chain_check.specs.Directory.{HasManifest, IsRowAsListed, is_listed, may_stand, HasNoOther, IsLabelFrom}
use Rattle.chain_check.specs.Collisions.{Collision, EndsInSum, RowCollides, RowsCollide, OneSumIsOneDirectory}
use Rattle.file_sums.specs.Sums.{sum_of}
use Rattle.chain_check.proofs.LastLine.{decoded_plain, one_listing}
use Rattle.chain_check.proofs.OneText.{one_value, lined_once}

-- texts of one sum are the same, or a collision
same_or_collision : (kind : SumKind) (a b : List ℕ) → sum_of kind a ≡ sum_of kind b → (a ≡ b) ⊎ Collision kind a b
same_or_collision kind a b same =
    elim (bytes_eq a b) as (λ x. bytes_eq a b ≡ x → (a ≡ b) ⊎ Collision kind a b) [
      | true ↦ λ e. inl ((bytes_eq-Decides a b).0 e)
      | false ↦ λ e. inr (record {
        differ = λ is. let never : true ≡ false = sym ((bytes_eq-Decides a b).1 is) ∙ e in cc;
        same = same;
      })
    ] refl

-- ---- manifests

-- the last line of a manifest that is as listed says the sum of the lines before it
says_sum : (files : Files) (m : Listing) (lines sum : List ℕ) → HasManifest files m → EndsInSum files lines sum → sum ≡ sha256 lines
says_sum files m lines sum has is =
    let same : has.0 ≡ is.text = one_value (get files manifest_name) has.0 is.text has.1 is.there in
    let whole : IsLined is.text has.2.0.0 (sha256 has.2.0.0) = subst (λ (t : List ℕ). IsLined t has.2.0.0 (sha256 has.2.0.0)) same has.2.0.1 in
    let once = lined_once is.text lines has.2.0.0 sum (sha256 has.2.0.0) is.lined whole in
    once.1 ∙ ap sha256 (sym once.0)

lines_same : (files other : Files) (m n : Listing) (lines more sum : List ℕ) → HasManifest files m → HasManifest other n → EndsInSum files lines sum → EndsInSum other more sum → (lines ≡ more) ⊎ Collision Sha256 lines more
lines_same files other m n lines more sum has too a b =
    same_or_collision Sha256 lines more (sym (says_sum files m lines sum has a) ∙ says_sum other n more sum too b)

-- what is read of the lines and of a last line with these digits
reads : (files : Files) (m : Listing) (lines sum : List ℕ) → HasManifest files m → (is : EndsInSum files lines sum) → ReadAnswers (lines ++ (line_front ++ (is.lined.digits ++ line_back))) (Ok m)
reads files m lines sum has is =
    subst (λ (t : List ℕ). ReadAnswers t (Ok m)) (one_value (get files manifest_name) has.0 is.text has.1 is.there ∙ is.lined.spelled) has.2

listing_same : TextsHaveOneManifest → (files other : Files) (m n : Listing) (lines more sum : List ℕ) → lines ≡ more → HasManifest files m → HasManifest other n → EndsInSum files lines sum → EndsInSum other more sum → m ≡ n
listing_same law files other m n lines more sum same has too a b =
    let there = subst (λ (l : List ℕ). ReadAnswers (l ++ (line_front ++ (b.lined.digits ++ line_back))) (Ok n)) (sym same) (reads other n more sum too b) in
    one_listing law a.lined.digits b.lined.digits (decoded_plain a.lined.digits sum a.lined.said) (decoded_plain b.lined.digits sum b.lined.said) m n lines a.lined.ended (reads files m lines sum has a) there

-- ---- listed files

abbrev SameRow : Files → Files → FileRow → Type 0
SameRow files other row = get files row.path ≡ get other row.path

row_same : (files other : Files) (row : FileRow) → IsRowAsListed files row → IsRowAsListed other row → SameRow files other row ⊎ RowCollides files other row
row_same files other row a b =
    elim (same_or_collision row.kind a.bytes b.bytes (decode_of-same row.sum (sum_of row.kind a.bytes) (sum_of row.kind b.bytes) a.summed b.summed)) [
      | inl same ↦ inl (a.there ∙ ap (λ (t : List ℕ). Some t) same ∙ sym b.there)
      | inr hit ↦ inr (a.bytes, b.bytes, a.there, b.there, hit)
    ]

rows_same : (files other : Files) (rows : List FileRow) → AllByRecursion (IsRowAsListed files) rows → AllByRecursion (IsRowAsListed other) rows → AllByRecursion (SameRow files other) rows ⊎ RowsCollide files other rows
rows_same files other [] a b = inl tt
rows_same files other (row ∷ rows) a b =
    elim (row_same files other row a.0 b.0) [
      | inr hit ↦ inr (inl hit)
      | inl first ↦ elim (rows_same files other rows a.1 b.1) [
        | inr hit ↦ inr (inr hit)
        | inl more ↦ inl (first, more)
      ]
    ]

listed_same : (files other : Files) (rows : List FileRow) (name : List ℕ) → AllByRecursion (SameRow files other) rows → is_listed rows name ≡ true → get files name ≡ get other name
listed_same files other [] name all e = absurd cc
listed_same files other (row ∷ rows) name all e =
    elim (bytes_eq row.path name) as (λ b. bytes_eq row.path name ≡ b → (b || is_listed rows name) ≡ true → get files name ≡ get other name) [
      | true ↦ λ is found. subst (λ (p : List ℕ). get files p ≡ get other p) ((bytes_eq-Decides row.path name).0 is) all.0
      | false ↦ λ is found. listed_same files other rows name all.1 found
    ] refl e

-- ---- any file

abbrev in_wal : List ℕ → Bool
in_wal name = starts_with nat_eq name (codes "pg_wal/")

module _ (files other : Files) (rows : List FileRow) (all : AllByRecursion (SameRow files other) rows) (none : HasNoOther files rows) (none_there : HasNoOther other rows) where
  unlisted : (name : List ℕ) → bytes_eq name manifest_name ≡ false → in_wal name ≡ false → is_listed rows name ≡ false → get files name ≡ get other name
  unlisted name a b c =
      let no : may_stand rows name ≡ false = rw (a, b, c) refl in
      none name no ∙ sym (none_there name no)

  beside : (name : List ℕ) → bytes_eq name manifest_name ≡ false → in_wal name ≡ false → get files name ≡ get other name
  beside name a b =
      elim (is_listed rows name) as (λ x. is_listed rows name ≡ x → get files name ≡ get other name) [
        | true ↦ λ e. listed_same files other rows name all e
        | false ↦ λ e. unlisted name a b e
      ] refl

  not_manifest : (name : List ℕ) → bytes_eq name manifest_name ≡ false → (in_wal name ≡ true → is_listed rows name ≡ true) → get files name ≡ get other name
  not_manifest name a listed =
      elim (in_wal name) as (λ x. in_wal name ≡ x → get files name ≡ get other name) [
        | true ↦ λ e. listed_same files other rows name all (listed e)
        | false ↦ λ e. beside name a e
      ] refl

  any_name : (name : List ℕ) → name ≢ manifest_name → (in_wal name ≡ true → is_listed rows name ≡ true) → get files name ≡ get other name
  any_name name apart listed =
      elim (bytes_eq name manifest_name) as (λ x. bytes_eq name manifest_name ≡ x → get files name ≡ get other name) [
        | true ↦ λ e. absurd (apart ((bytes_eq-Decides name manifest_name).0 e))
        | false ↦ λ e. not_manifest name e listed
      ] refl

-- ---- the whole

label_same : (files other : Files) (one start : ℕ) (a b : Label) → get files label_name ≡ get other label_name → IsLabelFrom one (bytes_of files label_name) a → IsLabelFrom start (bytes_of other label_name) b → a ≡ b
label_same files other one start a b same is was =
    let held : bytes_of files label_name ≡ bytes_of other label_name = ap (λ (o : Option (List ℕ)). unwrap_or o []) same in
    one_label (bytes_of other label_name) a b (subst (λ (t : List ℕ). IsLabelFrom one t a) held is).0 was.0

pub one_directory : TextsHaveOneManifest → OneSumIsOneDirectory
one_directory law files other member also lines more sum ended too is was =
    let m : Listing = member.manifest in
    elim (lines_same files other m also.manifest lines more sum is.manifest was.manifest ended too) [
      | inr hit ↦ inr (inl hit)
      | inl texts ↦
          let one : also.manifest ≡ m = sym (listing_same law files other m also.manifest lines more sum texts is.manifest was.manifest ended too) in
          let rows : AllByRecursion (IsRowAsListed other) m.files = subst (λ (l : Listing). AllByRecursion (IsRowAsListed other) l.files) one was.rows in
          let others : HasNoOther other m.files = subst (λ (l : Listing). HasNoOther other l.files) one was.others in
          elim (rows_same files other m.files is.rows rows) [
            | inr hit ↦ inr (inr hit)
            | inl all ↦ inl (
              texts,
              record {
                manifest = sym one;
                label = label_same files other m.start also.manifest.start member.label also.label (listed_same files other m.files label_name all is.label_row) is.label was.label;
                same = any_name files other m.files all is.others others;
              },
            )
          ]
    ]
