-- A directory has one answer.
use Rattle.std.proofs.Common.{◌≡◌, ◌≢◌, ℕ, ◌%◌, false, List, [], ◌∷◌, Some, None, Result, Ok, Err, refl, sym, ap, subst, ◌∙◌, inl, inr, ◌⊎◌}
use Rattle.std.specs.FinMap.{get}
use Rattle.std.specs.List.{AllByRecursion}
use Rattle.lsn_core.specs.Files.{Files}
use Rattle.chain_files.specs.Paths.{IsForkFile}
use Rattle.chain_files.proofs.Placed.{one_form}
use Rattle.vault.specs.Area.{bytes_of}
use Rattle.backup_label.specs.declared.label.Label.{Label}
use Rattle.backup_label.proofs.OneReading.{one_label, one_refused, not_refused}
use Rattle.incr_file.specs.Laws.{HeadsHaveOneAnswer}
use Rattle.incr_file.specs.declared.head.HeadView.{HeadView}
use Rattle.incr_file.specs.declared.decode.HeadFault.{HeadFault}
use Rattle.incr_file.specs.declared.decode.HeadFault.TheVariants as head
use Rattle.manifest.specs.Laws.{TextsHaveOneManifest}
use Rattle.manifest.specs.Listing.{Listing}
use Rattle.manifest.specs.Reading.{ReadAnswers}
use Rattle.manifest.specs.declared.fault.ManifestFault.{ManifestFault}
use Rattle.manifest.specs.declared.fault.ManifestFault.TheVariants as manifest
use Rattle.manifest.specs.declared.listing.FileRow.{FileRow}
use Rattle.backup_files.specs.Directory.{manifest_name, label_name}
use Rattle.chain_check.specs.Directory.{HasManifest, HasForm, IsLabelFrom, IsAsListed}
use Rattle.chain_check.specs.Refusals.{fault_of, chain_fault_read, RefusesManifest, RefusesLine, HasBoth, HasHeadFault, HasFormFault, IsFirstForm, listing_fault, rows_checked, RefusedFor, IsCheckedBefore, HasRefusal, IsOfFiles}
use Rattle.chain_check.specs.declared.fault.ManifestWhy.{ManifestWhy}
use Rattle.chain_check.specs.declared.fault.ManifestWhy.TheVariants.{Lines, Sum, Json, Shape, SumKind}
use Rattle.chain_check.specs.declared.fault.FileWhy.{FileWhy}
use Rattle.chain_check.specs.declared.fault.FileWhy.TheVariants.{Both, Length, Magic, Range, Order, PageLength}
use Rattle.chain_check.specs.declared.refusal.Refusal.{Refusal}
use Rattle.chain_check.specs.declared.fault.ChainFault.{ChainFault}
use Rattle.chain_check.specs.declared.fault.ChainFault.TheVariants.{NoManifest, ManifestDamaged, ManifestVersion, TimelineDiffers, FileMissing, FileSize, FileSum, FileExtra, LabelDamaged, FileDamaged, Failed, NoMemory}
use Rattle.chain_check.specs.declared.member.Member.{Member}
use Rattle.chain_check.proofs.ForkFiles.{alone_or_both}
use Rattle.chain_check.proofs.Listed.{no_listing_fault}
use Rattle.chain_check.proofs.Turns.{some_none}
use Rattle.chain_check.proofs.OneText.{one_value, refused_once}

-- ---- manifests

abbrev pub Reads : Listing → Result Listing ManifestFault → Type 0
Reads m r = (r ≡ Ok m) ⊎ (r ≡ Err manifest.NoMemory)

pub same_ok : (m n : Listing) → Reads m (Ok n) → m ≡ n
same_ok m n (inl e) = cc
same_ok m n (inr e) = absurd (cc)

not_ok : (m : Listing) (f : ManifestFault) → f ≢ manifest.NoMemory → Reads m (Err f) → ⊥
not_ok m f nf (inl e) = cc
not_ok m f nf (inr e) = let same : f ≡ manifest.NoMemory = cc in nf same

module _ (law : TextsHaveOneManifest) where
  pub manifest_once : (files : Files) (m n : Listing) → HasManifest files m → HasManifest files n → m ≡ n
  manifest_once files m n is was =
      let same = one_value (get files manifest_name) was.0 is.0 was.1 is.1 in
      same_ok m n (law is.0 m (Ok n) is.2 (subst (λ (b : List ℕ). ReadAnswers b (Ok n)) same was.2))

  pub read_or_refused : (files : Files) (m : Listing) (f : ManifestFault) → f ≢ manifest.NoMemory → HasManifest files m → RefusesManifest files f → ⊥
  read_or_refused files m f nf is was =
      let same = one_value (get files manifest_name) was.0 is.0 was.1 is.1 in
      not_ok m f nf (law is.0 m (Err f) is.2 (subst (λ (b : List ℕ). ReadAnswers b (Err f)) same was.2))

refusal_once : (files : Files) (f g : ManifestFault) → f ≢ manifest.NoMemory → g ≢ manifest.NoMemory → RefusesManifest files f → RefusesManifest files g → f ≡ g
refusal_once files f g nf ng is was =
    let same = one_value (get files manifest_name) is.0 was.0 is.1 was.1 in
    refused_once was.0 f g nf ng (subst (λ (b : List ℕ). ReadAnswers b (Err f)) same is.2) was.2

-- ---- labels

line_or_label : (start : ℕ) (text : List ℕ) (label : Label) (line : ℕ) → IsLabelFrom start text label → RefusesLine start text line → ⊥
line_or_label start text label line is (inl refused) = not_refused text label line is.0 refused
line_or_label start text label line is (inr other) =
    other.2 (ap (λ (l : Label). l.start.0) (one_label text other.0 label other.1 is.0) ∙ is.1)

line_once : (start : ℕ) (text : List ℕ) (line more : ℕ) → RefusesLine start text line → RefusesLine start text more → line ≡ more
line_once start text line more (inl is) (inl was) = one_refused text line more is was
line_once start text line more (inl is) (inr was) = absurd (not_refused text was.0 line was.1 is)
line_once start text line more (inr is) (inl was) = absurd (not_refused text is.0 more is.1 was)
line_once start text line more (inr is) (inr was) = is.3 ∙ sym was.3

-- ---- forms

-- what a head that is refused is a form's fault of
abbrev why_from : HeadFault → FileWhy
why_from head.Length = Length
why_from head.Magic = Magic
why_from head.Range = Range
why_from head.Order = Order
why_from head.NoMemory = Length

abbrev refused : HeadFault → Result HeadView HeadFault
refused h = Err h

-- which part of a file's form has a fault: both forms, the head, the pages
abbrev FormPart : Files → FileRow → FileWhy → Type 0
FormPart files row why =
    (HasBoth files row.path × (why ≡ Both))
    ⊎ (((h : HeadFault) × (refused h ≢ refused head.NoMemory) × HasHeadFault files row h × (why ≡ why_from h))
    ⊎ (IsForkFile row.path × (row.size % 8192 ≢ 0) × (why ≡ PageLength)))

told_length : refused head.Length ≢ refused head.NoMemory
told_length e = cc

told_magic : refused head.Magic ≢ refused head.NoMemory
told_magic e = cc

told_range : refused head.Range ≢ refused head.NoMemory
told_range e = cc

told_order : refused head.Order ≢ refused head.NoMemory
told_order e = cc

part_of_form : (files : Files) (row : FileRow) (why : FileWhy) → HasFormFault files row why → FormPart files row why
part_of_form files row Both is = inl (is, refl)
part_of_form files row Length is = inr (inl (head.Length, told_length, is, refl))
part_of_form files row Magic is = inr (inl (head.Magic, told_magic, is, refl))
part_of_form files row Range is = inr (inl (head.Range, told_range, is, refl))
part_of_form files row Order is = inr (inl (head.Order, told_order, is, refl))
part_of_form files row PageLength is = inr (inr (is.0, is.1, refl))

head_of_err : HeadFault → Result HeadView HeadFault → HeadFault
head_of_err h (Ok view) = h
head_of_err h (Err other) = other

form_or_fault : (files : Files) (row : FileRow) (why : FileWhy) → HasForm files row → HasFormFault files row why → ⊥
form_or_fault files row Both has fault = fault.1 (has.alone fault.0)
form_or_fault files row Length has fault = fault.1 (has.incremental fault.0.0).front.size
form_or_fault files row Magic has fault = fault.1.1 (has.incremental fault.0.0).front.magic
form_or_fault files row Range has fault =
    let is = has.incremental fault.0.0 in
    fault.1.1 (record { length_fits = is.head.length_fits; blocks_fit = is.head.blocks_fit })
form_or_fault files row Order has fault = fault.1.2 (has.incremental fault.0.0).head.rising
form_or_fault files row PageLength has fault = fault.1 (has.pages fault.0)

forms_or_fault : (files : Files) (rows : List FileRow) (path : List ℕ) (why : FileWhy) → AllByRecursion (HasForm files) rows → IsFirstForm files rows path why → ⊥
forms_or_fault files [] path why all is = is
forms_or_fault files (row ∷ rows) path why all (inl is) = form_or_fault files row why all.0 is.1
forms_or_fault files (row ∷ rows) path why all (inr is) = forms_or_fault files rows path why all.1 is.1

module _ (law : HeadsHaveOneAnswer) where
  part_once : (files : Files) (row : FileRow) (why more : FileWhy) → FormPart files row why → FormPart files row more → why ≡ more
  unfolding head_of_err
  part_once files row why more (inl is) (inl was) = is.1 ∙ sym was.1
  part_once files row why more (inl is) (inr (inl was)) = absurd (alone_or_both files row.path was.2.0 is.0)
  part_once files row why more (inl is) (inr (inr was)) = absurd (one_form row.path was.0 is.0.0)
  part_once files row why more (inr (inl is)) (inl was) = absurd (alone_or_both files row.path is.2.0 was.0)
  part_once files row why more (inr (inl is)) (inr (inl was)) =
      is.3 ∙ (ap (λ (r : Result HeadView HeadFault). why_from (head_of_err is.0 r)) (law (bytes_of files row.path) row.size (Err is.0) (Err was.0) is.2.1 was.2.1 is.1 was.1) ∙ sym was.3)
  part_once files row why more (inr (inl is)) (inr (inr was)) = absurd (one_form row.path was.0 is.2.0.0)
  part_once files row why more (inr (inr is)) (inl was) = absurd (one_form row.path is.0 was.0.0)
  part_once files row why more (inr (inr is)) (inr (inl was)) = absurd (one_form row.path is.0 was.2.0.0)
  part_once files row why more (inr (inr is)) (inr (inr was)) = is.2 ∙ sym was.2

  why_once : (files : Files) (row : FileRow) (why more : FileWhy) → HasFormFault files row why → HasFormFault files row more → why ≡ more
  why_once files row why more is was = part_once files row why more (part_of_form files row why is) (part_of_form files row more was)

  pub form_once : (files : Files) (rows : List FileRow) (path more : List ℕ) (why other : FileWhy) → IsFirstForm files rows path why → IsFirstForm files rows more other → FileDamaged path why ≡ FileDamaged more other
  form_once files [] path more why other is was = absurd is
  form_once files (row ∷ rows) path more why other (inl is) (inl was) =
      ap (λ (p : List ℕ). FileDamaged p why) (sym is.0 ∙ was.0) ∙ ap (λ (w : FileWhy). FileDamaged more w) (why_once files row why other is.1 was.1)
  form_once files (row ∷ rows) path more why other (inl is) (inr was) = absurd (form_or_fault files row why was.0 is.1)
  form_once files (row ∷ rows) path more why other (inr is) (inl was) = absurd (form_or_fault files row other is.0 was.1)
  form_once files (row ∷ rows) path more why other (inr is) (inr was) = form_once files rows path more why other is.1 was.1

-- ---- a directory as listed

abbrev member_with : List ℕ → Label → Listing → Member
member_with name label m = record { name = name; label = label; manifest = m }

same_member : (a b : Member) → a.name ≡ b.name → a.label ≡ b.label → a.manifest ≡ b.manifest → a ≡ b
same_member a b n l m =
    let same : member_with a.name a.label a.manifest ≡ member_with b.name b.label b.manifest = rw (n, l, m) refl in
    same

abbrev refused_at : ChainFault → ℕ → Refusal
refused_at fault checked = record { fault = fault; checked = checked }

same_refusal : (a b : Refusal) → a.fault ≡ b.fault → a.checked ≡ b.checked → a ≡ b
same_refusal a b f c = let same : refused_at a.fault a.checked ≡ refused_at b.fault b.checked = rw (f, c) refl in same

read_fault : (why : ManifestWhy) → fault_of why ≢ manifest.NoMemory
read_fault Lines e = cc
read_fault Sum e = cc
read_fault Json e = cc
read_fault Shape e = cc
read_fault SumKind e = cc

-- ---- refusals, part by part

-- behind the manifest: among the files, of the label, of the forms
abbrev Behind : Files → Listing → ChainFault → Type 0
Behind files m fault =
    (listing_fault files m.files ≡ Some fault)
    ⊎ ((listing_fault files m.files ≡ None)
    × (((line : ℕ) × RefusesLine m.start (bytes_of files label_name) line × (fault ≡ LabelDamaged line))
    ⊎ ((label : Label) × (path : List ℕ) × (why : FileWhy) × IsLabelFrom m.start (bytes_of files label_name) label × IsFirstForm files m.files path why × (fault ≡ FileDamaged path why))))

abbrev Stage : Files → ChainFault → Type 0
Stage files fault =
    ((get files manifest_name ≡ None) × (fault ≡ NoManifest))
    ⊎ (((f : ManifestFault) × (f ≢ manifest.NoMemory) × RefusesManifest files f × (fault ≡ chain_fault_read f))
    ⊎ ((m : Listing) × HasManifest files m × Behind files m fault))

why_read : (why : ManifestWhy) → ManifestDamaged why ≡ chain_fault_read (fault_of why)
why_read Lines = refl
why_read Sum = refl
why_read Json = refl
why_read Shape = refl
why_read SumKind = refl

version_read : (v : ℕ) → manifest.Version v ≢ manifest.NoMemory
version_read v e = cc

timeline_read : (v : ℕ) → manifest.TimelineIs v ≢ manifest.NoMemory
timeline_read v e = cc

stage_of : (files : Files) (fault : ChainFault) → IsOfFiles fault → RefusedFor files fault → Stage files fault
stage_of files NoManifest of is = inl (is, refl)
stage_of files (ManifestDamaged why) of is = inr (inl (fault_of why, read_fault why, is, why_read why))
stage_of files (ManifestVersion v) of is = inr (inl (manifest.Version v, version_read v, is, refl))
stage_of files (TimelineDiffers v) of is = inr (inl (manifest.TimelineIs v, timeline_read v, is, refl))
stage_of files (FileMissing path) of is = inr (inr (is.0, is.1.0, inl is.1.1))
stage_of files (FileSize path have listed) of is = inr (inr (is.0, is.1.0, inl is.1.1))
stage_of files (FileSum path) of is = inr (inr (is.0, is.1.0, inl is.1.1))
stage_of files (FileExtra path) of is = inr (inr (is.0, is.1.0, inl is.1.1))
stage_of files (LabelDamaged line) of is = inr (inr (is.0, is.1.0, inr (is.1.1, inl (line, is.2, refl))))
stage_of files (FileDamaged path why) of is = inr (inr (is.0, is.2.0.0, inr (is.2.0.1, inr (is.1, path, why, is.2.1, is.3, refl))))
stage_of files Failed of is = absurd (of.0 refl)
stage_of files NoMemory of is = absurd (of.1 refl)

missing_text : (files : Files) (bytes : List ℕ) → get files manifest_name ≡ None → get files manifest_name ≡ Some bytes → ⊥
missing_text files bytes e f = let never : None ≡ Some bytes = sym e ∙ f in cc

not_behind : (files : Files) (member : Member) (fault : ChainFault) → IsAsListed files member → Behind files member.manifest fault → ⊥
not_behind files member fault is (inl was) = some_none (listing_fault files member.manifest.files) fault (no_listing_fault files member is) was
not_behind files member fault is (inr (none, inl was)) = line_or_label member.manifest.start (bytes_of files label_name) member.label was.0 is.label was.1
not_behind files member fault is (inr (none, inr was)) = forms_or_fault files member.manifest.files was.1 was.2 is.forms was.4

module _ (law : TextsHaveOneManifest) (heads : HeadsHaveOneAnswer) where
  behind_once : (files : Files) (m : Listing) (f g : ChainFault) → Behind files m f → Behind files m g → f ≡ g
  behind_once files m f g (inl is) (inl was) = one_value (listing_fault files m.files) f g is was
  behind_once files m f g (inl is) (inr was) = absurd (some_none (listing_fault files m.files) f was.0 is)
  behind_once files m f g (inr is) (inl was) = absurd (some_none (listing_fault files m.files) g is.0 was)
  behind_once files m f g (inr (none, inl is)) (inr (also, inl was)) =
      is.2 ∙ (ap (λ (n : ℕ). LabelDamaged n) (line_once m.start (bytes_of files label_name) is.0 was.0 is.1 was.1) ∙ sym was.2)
  behind_once files m f g (inr (none, inl is)) (inr (also, inr was)) = absurd (line_or_label m.start (bytes_of files label_name) was.0 is.0 was.3 is.1)
  behind_once files m f g (inr (none, inr is)) (inr (also, inl was)) = absurd (line_or_label m.start (bytes_of files label_name) is.0 was.0 is.3 was.1)
  behind_once files m f g (inr (none, inr is)) (inr (also, inr was)) =
      is.5 ∙ (form_once heads files m.files is.1 was.1 is.2 was.2 is.4 was.4 ∙ sym was.5)

  stage_once : (files : Files) (f g : ChainFault) → Stage files f → Stage files g → f ≡ g
  stage_once files f g (inl is) (inl was) = is.1 ∙ sym was.1
  stage_once files f g (inl is) (inr (inl was)) = absurd (missing_text files was.2.0 is.0 was.2.1)
  stage_once files f g (inl is) (inr (inr was)) = absurd (missing_text files was.1.0 is.0 was.1.1)
  stage_once files f g (inr (inl is)) (inl was) = absurd (missing_text files is.2.0 was.0 is.2.1)
  stage_once files f g (inr (inl is)) (inr (inl was)) =
      is.3 ∙ (ap chain_fault_read (refusal_once files is.0 was.0 is.1 was.1 is.2 was.2) ∙ sym was.3)
  stage_once files f g (inr (inl is)) (inr (inr was)) = absurd (read_or_refused law files was.0 is.0 is.1 was.1 is.2)
  stage_once files f g (inr (inr is)) (inl was) = absurd (missing_text files is.1.0 was.0 is.1.1)
  stage_once files f g (inr (inr is)) (inr (inl was)) = absurd (read_or_refused law files is.0 was.0 was.1 is.1 was.2)
  stage_once files f g (inr (inr is)) (inr (inr was)) =
      let same = manifest_once law files is.0 was.0 is.1 was.1 in
      behind_once files was.0 f g (subst (λ (m : Listing). Behind files m f) same is.2) was.2

  -- ---- the laws

  pub one_member : (files : Files) (one other : Member) → one.name ≡ other.name → IsAsListed files one → IsAsListed files other → one ≡ other
  one_member files one other name is was =
      same_member one other name (one_label (bytes_of files label_name) one.label other.label is.label.0 was.label.0)
      (manifest_once law files one.manifest other.manifest is.manifest was.manifest)

  listed_stage : (files : Files) (member : Member) (fault : ChainFault) → IsAsListed files member → Stage files fault → ⊥
  listed_stage files member fault is (inl was) = missing_text files is.manifest.0 was.0 is.manifest.1
  listed_stage files member fault is (inr (inl was)) = read_or_refused law files member.manifest was.0 was.1 is.manifest was.2
  listed_stage files member fault is (inr (inr was)) =
      not_behind files member fault is (subst (λ (m : Listing). Behind files m fault) (manifest_once law files was.0 member.manifest was.1 is.manifest) was.2)

  pub not_both : (files : Files) (member : Member) (fault : ChainFault) → IsOfFiles fault → IsAsListed files member → RefusedFor files fault → ⊥
  not_both files member fault of is was = listed_stage files member fault is (stage_of files fault of was)

  one_fault : (files : Files) (fault other : ChainFault) → IsOfFiles fault → IsOfFiles other → RefusedFor files fault → RefusedFor files other → fault ≡ other
  one_fault files fault other of on is was = stage_once files fault other (stage_of files fault of is) (stage_of files other on was)

  -- how many rows of the manifest have files as listed
  abbrev Counted : Files → ℕ → Type 0
  Counted files checked = (m : Listing) × HasManifest files m × (checked ≡ rows_checked files m.files)

  rows_once : (files : Files) (n k : ℕ) → Counted files n → Counted files k → n ≡ k
  rows_once files n k is was =
      is.2 ∙ (ap (λ (m : Listing). rows_checked files m.files) (manifest_once law files is.0 was.0 is.1 was.1) ∙ sym was.2)

  checked_once : (files : Files) (fault : ChainFault) (n k : ℕ) → IsOfFiles fault → IsCheckedBefore files fault n → IsCheckedBefore files fault k → n ≡ k
  checked_once files NoManifest n k of is was = is ∙ sym was
  checked_once files (ManifestDamaged why) n k of is was = is ∙ sym was
  checked_once files (ManifestVersion v) n k of is was = is ∙ sym was
  checked_once files (TimelineDiffers v) n k of is was = is ∙ sym was
  checked_once files (FileMissing path) n k of is was = rows_once files n k is was
  checked_once files (FileSize path have listed) n k of is was = rows_once files n k is was
  checked_once files (FileSum path) n k of is was = rows_once files n k is was
  checked_once files (FileExtra path) n k of is was = rows_once files n k is was
  checked_once files (LabelDamaged line) n k of is was = rows_once files n k is was
  checked_once files (FileDamaged path why) n k of is was = rows_once files n k is was
  checked_once files Failed n k of is was = absurd (of.0 refl)
  checked_once files NoMemory n k of is was = absurd (of.1 refl)

  pub one_refusal : (files : Files) (refusal other : Refusal) → IsOfFiles refusal.fault → IsOfFiles other.fault → HasRefusal files refusal → HasRefusal files other → refusal ≡ other
  one_refusal files refusal other of on is was =
      let fault = one_fault files refusal.fault other.fault of on is.0 was.0 in
      same_refusal refusal other fault
      (checked_once files other.fault refusal.checked other.checked on (subst (λ (f : ChainFault). IsCheckedBefore files f refusal.checked) fault is.1) was.1)
