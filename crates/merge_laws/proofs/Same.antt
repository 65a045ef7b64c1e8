-- In a chain a merged backup stands for the segment files of its series.
use Rattle.std.proofs.Common.{◌≡◌, ◌≢◌, ℕ, Bool, true, false, cond, ◌⊎◌, inl, inr, List, [], ◌∷◌, ◌++◌, map, length, Option, Some, None, IfSome, unwrap_or, refl, sym, ap, ap₂, subst, ◌∙◌}
use Rattle.std.specs.Prelude.{if◌then◌else◌}
use Rattle.std.specs.Str.{bytes_eq}
use Rattle.std.specs.List.{AllByRecursion}
use Rattle.std.specs.FinMap.{get}
use Rattle.std.proofs.lemmas.List.{append_assoc, length-map}
use Rattle.lsn_core.specs.Files.{Files}
use Rattle.lsn_core.specs.Store.{ForkPages}
use Rattle.manifest.specs.Listing.{Listing}
use Rattle.manifest.specs.declared.listing.FileRow.{FileRow}
use Rattle.backup_files.specs.Directory.{manifest_name, label_name}
use Rattle.vault.specs.Area.{bytes_of}
use Rattle.incr_file.specs.declared.head.IncrHead.{IncrHead}
use Rattle.incr_file.specs.Head.{IsHead, head_bytes}
use Rattle.incr_file.specs.Form.{Form, Absent, Plain, Part, form_in, part_in, whole_pages, pages_bytes, pages_in_chain, rebuilt_pages, rebuilt_length}
use Rattle.incr_file.specs.Laws.{WrittenFilesAreRead}
use Rattle.chain_files.specs.Segments.{HasForms, form_at, forms_at}
use Rattle.chain_files.proofs.Pages.{HaveSize, pages_again}
use Rattle.chain_files.specs.Paths.{file_path, IsRelationFile, IsIncrementalPath}
use Rattle.chain_files.proofs.Placed.{one_file, never_incremental}
use Rattle.chain_check.proofs.ForkFiles.{placed_path}
use Rattle.chain_check.specs.Directory.{IsRowAsListed, IsAsListed}
use Rattle.chain_check.specs.Laws.{ListedHaveForms}
use Rattle.chain_check.specs.declared.member.Member.{Member}
use Rattle.merged_forms.specs.Merged.{rests_on_plain, least_length, merged_blocks, merged_part, merged_form, HasNoGap}
use Rattle.merged_forms.specs.Laws.{AreAlike, HasHead, MergedStandsForSeries as MergedForms, MergedHeadsAreWritten}
use Rattle.directory_files.specs.Relisted.{File, IsRelisted, other_rows}
use Rattle.merge_laws.specs.Merged.{IsFileOf, kept_bytes, merged_label, IsMergedFile, IsMerged}
use Rattle.merge_laws.specs.Members.{last_member, AreAsListed}
use Rattle.merge_laws.specs.Laws.{IsMergedOf, MergedStandsForSeries}
use Rattle.directory_files.proofs.Among.{Among, of_all, name_of}
use Rattle.directory_files.proofs.Standing.{NamesOthers, never_manifest, never_label, other_path, none_if, never_both, other_row, is_other, file_for, put_in, stands_in, found_in}
use Rattle.merge_laws.proofs.ListedRows.{file_row}
use Rattle.merge_laws.proofs.Sized.{IsSized, each_sized, by_place, forms_sized}
use Rattle.merge_laws.proofs.NoGaps.{forms_last, forms_behind, no_gap, series_heads}

-- what another file than the label keeps
pub kept_whole : (first newest : Files) (path : List ℕ) → path ≢ label_name → kept_bytes first newest path ≡ bytes_of newest path
kept_whole first newest path apart =
    ap (λ (b : Bool). if b then merged_label (bytes_of first label_name) (bytes_of newest label_name) else bytes_of newest path) (other_path path label_name apart)

-- a file of a form has one of the folder's two paths
path_of_form : (folder name : List ℕ) (form : Form) (file : File) → IsFileOf folder name form file → (incr : Bool) × (file.0 ≡ file_path folder name incr)
path_of_form folder name Absent file is = absurd is
path_of_form folder name (Plain pages) file is = (false, ap name_of is)
path_of_form folder name (Part head pages) file is = (true, ap name_of is)

-- no file has the manifest's name
pub spares : (series : List Files) (first newest : Files) → NamesOthers (IsMergedFile series first newest)
spares series first newest path file apart is e =
    let plain : IsIncrementalPath path → ⊥ = λ f.
    (let at = path_of_form f.folder f.name (merged_form (forms_at series f.folder f.name)) file (is.merged f) in
    never_manifest f.folder f.name at.0 (sym at.1 ∙ e)) in
    apart (sym (ap name_of (is.kept plain)) ∙ e)

-- ---- pages of merged forms

pub merged_sized : (forms : List Form) → AllByRecursion IsSized forms → IsSized (merged_form forms)
merged_sized [] all = tt
merged_sized (Absent ∷ older) all = tt
merged_sized (Plain pages ∷ older) all = all.0
merged_sized (Part head pages ∷ older) all =
    elim (rests_on_plain older) as (λ s. IsSized (cond s (Plain (rebuilt_pages (Part head pages ∷ older) head)) (merged_part (Part head pages ∷ older) (least_length head.truncation older) (rebuilt_length head)))) [
      | true ↦ each_sized (Part head pages ∷ older) _ all
      | false ↦ each_sized (Part head pages ∷ older) _ all
    ]

-- a merged form has as many pages as it lists
abbrev CountsPages : Form → Type 0
CountsPages Absent = Unit {0}
CountsPages (Plain pages) = Unit {0}
CountsPages (Part head pages) = length pages ≡ length head.blocks

newest_counts : (forms : List Form) → CountsPages (merged_form forms)
newest_counts [] = tt
newest_counts (Absent ∷ older) = tt
newest_counts (Plain pages ∷ older) = tt
newest_counts (Part head pages ∷ older) =
    elim (rests_on_plain older) as (λ s. CountsPages (cond s (Plain (rebuilt_pages (Part head pages ∷ older) head)) (merged_part (Part head pages ∷ older) (least_length head.truncation older) (rebuilt_length head)))) [
      | true ↦ tt
      | false ↦ length-map (merged_blocks (Part head pages ∷ older) (least_length head.truncation older) (rebuilt_length head)) _
    ]

pub merged_counted : (forms : List Form) (head : IncrHead) (pages : ForkPages) → merged_form forms ≡ Part head pages → length pages ≡ length head.blocks
merged_counted forms head pages e = subst CountsPages e (newest_counts forms)

-- a merged form is there exactly where the newest one is
pub there_merged : (form : Form) (older : List Form) → merged_form (form ∷ older) ≡ Absent → form ≡ Absent
there_merged Absent older e = refl
there_merged (Plain pages) older e = e
there_merged (Part head pages) older e =
    absurd (elim (rests_on_plain older) as (λ s. cond s (Plain (rebuilt_pages (Part head pages ∷ older) head)) (merged_part (Part head pages ∷ older) (least_length head.truncation older) (rebuilt_length head)) ≡ Absent → ⊥) [
      | true ↦ λ k. cc
      | false ↦ λ k. cc
    ] e)

-- ---- the directory that a series was merged to

module _ (written : WrittenFilesAreRead) (series before : List Files) (first newest : Files) (member : Member) (when count : ℕ) (out : Files)
    (ends : series ≡ before ++ (newest ∷ [])) (listed : IsAsListed newest member) (is : IsMerged series first newest member.manifest when count out)
    (folder name : List ℕ) (named : IsRelationFile folder name) (heads : AllByRecursion HasHead (forms_at series folder name)) (law : MergedHeadsAreWritten) where
  abbrev part : List ℕ
  part = file_path folder name true

  abbrev plain : List ℕ
  plain = file_path folder name false

  abbrev Merged : Form
  Merged = merged_form (forms_at series folder name)

  front : forms_at series folder name ≡ form_at folder name newest ∷ forms_at before folder name
  front = ap (λ (l : List Files). forms_at l folder name) ends ∙ forms_last folder name before newest

  apart_all : NamesOthers (IsMergedFile series first newest)
  apart_all = spares series first newest

  -- the file that stands for that of the folder
  file_of : (incr : Bool) (bytes : List ℕ) → get newest (file_path folder name incr) ≡ Some bytes → (file : File) × Among file is.files × IsMergedFile series first newest (file_path folder name incr) file
  file_of incr bytes e =
      let path = file_path folder name incr in
      let row = file_row newest member folder name incr bytes named listed e in
      let other = other_row member.manifest.files row.0 row.1 (λ m. never_manifest folder name incr (sym row.2 ∙ m)) in
      subst (λ (p : List ℕ). (file : File) × Among file is.files × IsMergedFile series first newest p file) row.2
      (file_for (IsMergedFile series first newest) (other_rows member.manifest.files) is.files row.0 is.stand other)

  held : (file : File) → Among file is.files → get out file.0 ≡ Some file.1
  held file among = found_in (IsMergedFile series first newest) member.manifest when count out is apart_all file among

  -- which files of the folder stand in it
  abbrev StandsSo : Bool → List ℕ → Type 0
  StandsSo incr bytes =
      ((own : List ℕ) × (get newest part ≡ Some own) × IsFileOf folder name Merged (file_path folder name incr, bytes))
      ⊎ ((incr ≡ false) × ((own : List ℕ) × (get newest plain ≡ Some own)))

  pub none_stands : (incr : Bool) → ((bytes : List ℕ) → get out (file_path folder name incr) ≡ Some bytes → StandsSo incr bytes → ⊥) → get out (file_path folder name incr) ≡ None
  none_stands incr refuse = none_if (get out (file_path folder name incr)) (λ bytes e.
      let path = file_path folder name incr in
      let among = put_in (IsMergedFile series first newest) member.manifest when count out is path bytes (never_manifest folder name incr) e in
      let row = stands_in (IsMergedFile series first newest) member.manifest when count out is (path, bytes) among in
      let there = of_all (IsRowAsListed newest) row.0 member.manifest.files listed.rows (is_other member.manifest.files row.0 row.1).0 in
      let none : IsIncrementalPath row.0.path → ⊥ = λ f.
      (let file = row.2.merged f in
      let at = path_of_form f.folder f.name (merged_form (forms_at series f.folder f.name)) (path, bytes) file in
      let same = one_file f.folder folder f.name name at.0 incr f.placed named (sym at.1) in
      let moved = subst (λ (k : List ℕ). IsFileOf k f.name (merged_form (forms_at series k f.name)) (path, bytes)) same.0 file in
      let here : IsFileOf folder name Merged (path, bytes) = subst (λ (s : List ℕ). IsFileOf folder s (merged_form (forms_at series folder s)) (path, bytes)) same.1.0 moved in
      let spelled : row.0.path ≡ part = f.spelled ∙ ap₂ (λ (k s : List ℕ). file_path k s true) same.0 same.1.0 in
      refuse bytes e (inl (there.bytes, ap (get newest) (sym spelled) ∙ there.there, here))) in
      let spelled : path ≡ row.0.path = ap name_of (row.2.kept none) in
      refuse bytes e (inr (plain_form incr row.0.path spelled none, (there.bytes, there_plain incr row.0.path spelled none there.bytes there.there))))
    where
      plain_form : (i : Bool) (path : List ℕ) → file_path folder name i ≡ path → (IsIncrementalPath path → ⊥) → i ≡ false
      plain_form true path spelled none = absurd (none (placed_path folder name named (sym spelled)))
      plain_form false path spelled none = refl

      there_plain : (i : Bool) (path : List ℕ) → file_path folder name i ≡ path → (IsIncrementalPath path → ⊥) → (own : List ℕ) → get newest path ≡ Some own → get newest plain ≡ Some own
      there_plain true path spelled none own there = absurd (none (placed_path folder name named (sym spelled)))
      there_plain false path spelled none own there = ap (get newest) spelled ∙ there

  never_true : true ≡ false → ⊥
  never_true e = cc

  sized : IsSized Merged
  sized = merged_sized (forms_at series folder name) (forms_sized folder name _)

  -- a folder's file has one of its forms' paths alone
  two_shapes : (form : Form) (one other : List ℕ) → IsFileOf folder name form (part, one) → IsFileOf folder name form (plain, other) → ⊥
  two_shapes Absent one other a b = a
  two_shapes (Plain pages) one other a b = (let same = one_file folder folder name name true false named named (ap name_of a) in never_true same.1.1)
  two_shapes (Part head pages) one other a b = (let same = one_file folder folder name name false true named named (ap name_of b) in never_true (sym same.1.1))

  pub alone_if : HasForms newest → (bytes : List ℕ) → get out part ≡ Some bytes → get out plain ≡ None
  alone_if forms bytes e = none_if (get out plain) (λ other f.
      never_both (get out part) bytes (none_stands true (λ b1 e1 s1. elim s1 [
        | inl p1 ↦ never_both (get out plain) other (none_stands false (λ b2 e2 s2. elim s2 [
          | inl p2 ↦ two_shapes Merged b1 b2 p1.2 p2.2
          | inr k2 ↦ never_both (get newest plain) k2.1.0 (forms.alone folder name p1.0 named p1.1) k2.1.1
        ])) f
        | inr k1 ↦ never_true k1.0
      ])) e)

  -- what a file under the incremental path is, is decided where that can't be otherwise
  pub part_decides : (bytes : List ℕ) → get out part ≡ Some bytes → ((head : IncrHead) (pages : ForkPages) → Merged ≡ Part head pages → bytes ≡ head_bytes head ++ pages_bytes pages → ⊥) → ⊥
  part_decides bytes e refuse =
      never_both (get out part) bytes (none_stands true (λ b at s. elim s [
        | inl p ↦ by_shape Merged refl b at p.2
        | inr k ↦ never_true k.0
      ])) e
    where
      by_shape : (form : Form) → Merged ≡ form → (b : List ℕ) → get out part ≡ Some b → IsFileOf folder name form (part, b) → ⊥
      by_shape Absent m b at is = is
      by_shape (Plain pages) m b at is = (let same = one_file folder folder name name true false named named (ap name_of is) in never_true same.1.1)
      by_shape (Part head pages) m b at is =
          let held : Some bytes ≡ Some b = sym e ∙ at in
          let one : bytes ≡ b = cc in
          refuse head pages m (one ∙ ap (λ (f : File). f.1) is)

  -- and the same of a plain one
  pub plain_decides : (bytes : List ℕ) → get out plain ≡ Some bytes → ((pages : ForkPages) → HaveSize 8192 pages → bytes ≡ pages_bytes pages → ⊥) → ((own : List ℕ) → get newest plain ≡ Some own → bytes ≡ own → ⊥) → ⊥
  plain_decides bytes e refuse kept_refuse =
      never_both (get out plain) bytes (none_stands false (λ b at s. elim s [
        | inl p ↦ by_shape Merged refl b at p.2
        | inr k ↦
            let stays : get out plain ≡ Some k.1.0 = kept_stays k.1.0 k.1.1 in
            let held : Some bytes ≡ Some k.1.0 = sym e ∙ stays in
            kept_refuse k.1.0 k.1.1 (let one : bytes ≡ k.1.0 = cc in one)
      ])) e
    where
      kept_stays : (own : List ℕ) → get newest plain ≡ Some own → get out plain ≡ Some own
      kept_stays own there =
          let file = file_of false own there in
          let same = file.2.kept (λ f. never_incremental plain folder name named refl f) in
          subst (λ (f : File). get out f.0 ≡ Some f.1) same (held file.0 file.1)
          ∙ ap (λ (b : List ℕ). Some b) (kept_whole first newest plain (never_label folder name false) ∙ ap (λ (o : Option (List ℕ)). unwrap_or o []) there)

      by_shape : (form : Form) → Merged ≡ form → (b : List ℕ) → get out plain ≡ Some b → IsFileOf folder name form (plain, b) → ⊥
      by_shape Absent m b at is = is
      by_shape (Part head pages) m b at is = (let same = one_file folder folder name name false true named named (ap name_of is) in never_true (sym same.1.1))
      by_shape (Plain pages) m b at is =
          let held : Some bytes ≡ Some b = sym e ∙ at in
          let one : bytes ≡ b = cc in
          refuse pages (subst IsSized m sized) (one ∙ ap (λ (f : File). f.1) is)

  -- an incremental file is merged
  by_form : (form : Form) (file : File) → Merged ≡ form → Among file is.files → IsFileOf folder name form file → form_at folder name out ≡ form
  by_form Absent file e among here = absurd here
  by_form (Plain pages) file e among here =
      let none : get out part ≡ None = none_stands true (λ bytes at stands. elim stands [
        | inl own ↦
            let other : (part, bytes) ≡ (plain, pages_bytes pages) = subst (λ (f : Form). IsFileOf folder name f (part, bytes)) e own.2 in
            let same = one_file folder folder name name true false named named (ap name_of other) in
            never_true same.1.1
        | inr kept ↦ never_true kept.0
      ]) in
      let some : get out plain ≡ Some (pages_bytes pages) = subst (λ (f : File). get out f.0 ≡ Some f.1) here (held file among) in
      ap₂ (λ (a b : Option (List ℕ)). form_in a b) none some
      ∙ ap (λ (ps : ForkPages). Plain ps) (pages_again pages (subst IsSized e sized))
  by_form (Part head pages) file e among here =
      let some : get out part ≡ Some (head_bytes head ++ pages_bytes pages) = subst (λ (f : File). get out f.0 ≡ Some f.1) here (held file among) in
      ap (λ (o : Option (List ℕ)). form_in o (get out plain)) some
      ∙ written head pages (subst HasHead e (law (forms_at series folder name) heads)) (by_place pages (subst IsSized e sized))

  -- the form of the file
  by_forms : (incr whole : Option (List ℕ)) → get newest part ≡ incr → get newest plain ≡ whole → form_at folder name out ≡ Merged
  by_forms (Some bytes) whole i w =
      let file = file_of true bytes i in
      by_form Merged file.0 refl file.1 (file.2.merged (placed_path folder name named refl))
  by_forms None (Some bytes) i w =
      let file = file_of false bytes w in
      let same = file.2.kept (λ f. never_incremental plain folder name named refl f) in
      let some : get out plain ≡ Some bytes = subst (λ (f : File). get out f.0 ≡ Some f.1) same (held file.0 file.1)
      ∙ ap (λ (b : List ℕ). Some b) (kept_whole first newest plain (never_label folder name false) ∙ ap (λ (o : Option (List ℕ)). unwrap_or o []) w) in
      let none : get out part ≡ None = none_stands true (λ b at stands. elim stands [
        | inl own ↦ never_both (get newest part) own.0 i own.1
        | inr kept ↦ never_true kept.0
      ]) in
      ap₂ (λ (a b : Option (List ℕ)). form_in a b) none some
      ∙ sym (ap merged_form front ∙ ap₂ (λ (a b : Option (List ℕ)). merged_form (form_in a b ∷ forms_at before folder name)) i w)
  by_forms None None i w =
      let none : get out part ≡ None = none_stands true (λ b at stands. elim stands [
        | inl own ↦ never_both (get newest part) own.0 i own.1
        | inr kept ↦ never_true kept.0
      ]) in
      let nor : get out plain ≡ None = none_stands false (λ b at stands. elim stands [
        | inl own ↦ never_both (get newest part) own.0 i own.1
        | inr kept ↦ never_both (get newest plain) kept.1.0 w kept.1.1
      ]) in
      ap₂ (λ (a b : Option (List ℕ)). form_in a b) none nor
      ∙ sym (ap merged_form front ∙ ap₂ (λ (a b : Option (List ℕ)). merged_form (form_in a b ∷ forms_at before folder name)) i w)

  pub form_is : form_at folder name out ≡ Merged
  form_is = by_forms (get newest part) (get newest plain) refl refl

-- ---- chains

pub last_listed : (series before : List Files) (newest : Files) (first : Member) (later : List Member) → series ≡ before ++ (newest ∷ []) → AreAsListed series (first ∷ later) → IsAsListed newest (last_member first later)
last_listed series before newest first later ends are = by_before before first later (subst (λ (l : List Files). AreAsListed l (first ∷ later)) ends are)
  where
    by_before : (older : List Files) (m : Member) (ms : List Member) → AreAsListed (older ++ (newest ∷ [])) (m ∷ ms) → IsAsListed newest (last_member m ms)
    by_before [] m [] are = are.0
    by_before [] m (n ∷ ms) are = absurd are.1
    by_before (f ∷ []) m [] are = absurd are.1
    by_before (f ∷ (g ∷ older)) m [] are = absurd are.1
    by_before (f ∷ older) m (n ∷ ms) are = by_before older n ms are.1

pub record Facts : Type 0 where
  pub written : WrittenFilesAreRead
  pub forms : ListedHaveForms
  pub stands : MergedForms
  pub heads : MergedHeadsAreWritten

pub merged_is : Facts → (series : List Files) (first : Member) (later : List Member) (when count : ℕ) (out : Files) → IsMergedOf series first later when count out → (folder name : List ℕ) → IsRelationFile folder name → form_at folder name out ≡ merged_form (forms_at series folder name)
merged_is facts series first later when count out m folder name named =
    form_is facts.written series m.before m.oldest m.newest (last_member first later) when count out m.ends
    (last_listed series m.before m.newest first later m.ends m.listed) m.is folder name named
    (series_heads folder name named facts.forms series (first ∷ later) m.listed) facts.heads

pub stands_for : Facts → MergedStandsForSeries
stands_for facts older series newer first later when count out m folder name named =
    let back = forms_at older folder name in
    let ahead = forms_at newer folder name in
    let own = forms_at m.before folder name in
    let form = form_at folder name m.newest in
    let split : forms_at series folder name ≡ form ∷ own = ap (λ (l : List Files). forms_at l folder name) m.ends ∙ forms_last folder name m.before m.newest in
    let gap : HasNoGap (form ∷ own) = subst HasNoGap split (no_gap folder name named series m.rest m.oldest first later m.begins m.listed m.linked) in
    let alike = facts.stands ahead own back form gap in
    let one : forms_at (older ++ (out ∷ newer)) folder name ≡ ahead ++ (merged_form (form ∷ own) ∷ back) =
    forms_behind folder name older (out ∷ newer)
    ∙ (ap (λ (l : List Form). l ++ back) (forms_behind folder name (out ∷ []) newer)
    ∙ (append_assoc ahead (form_at folder name out ∷ []) back
    ∙ ap (λ (f : Form). ahead ++ (f ∷ back)) (merged_is facts series first later when count out m folder name named ∙ ap merged_form split))) in
    let two : forms_at (older ++ (series ++ newer)) folder name ≡ ahead ++ (form ∷ (own ++ back)) =
    forms_behind folder name older (series ++ newer)
    ∙ (ap (λ (l : List Form). l ++ back) (forms_behind folder name series newer)
    ∙ (append_assoc ahead (forms_at series folder name) back
    ∙ ap (λ (l : List Form). ahead ++ (l ++ back)) split)) in
    ap pages_in_chain one ∙ (alike.file ∙ sym (ap pages_in_chain two))
