-- A merged backup is as its manifest lists it.
use Rattle.std.proofs.Common.{◌≡◌, ◌≢◌, ℕ, zero, suc, ◌+◌, ◌*◌, ◌%◌, ◌<◌, ◌≤◌, Bool, true, false, cond, ◌||◌, ◌⊎◌, inl, inr, List, [], ◌∷◌, ◌++◌, map, length, take, drop, Option, Some, None, IfSome, unwrap_or, bytes_eq, Result, Ok, refl, sym, ap, ap₂, subst, ◌∙◌, arith}
use Rattle.std.specs.Prelude.{codes, nat_eq, if◌then◌else◌}
use Rattle.std.specs.FinMap.{get}
use Rattle.std.specs.List.{AllByRecursion, starts_with}
use Rattle.std.proofs.lemmas.Bool.{cases_eq}
use Rattle.std.proofs.lemmas.Nat.{mod-mul-add}
use Rattle.lsn_core.specs.Files.{Files}
use Rattle.lsn_core.specs.Store.{ForkPages}
use Rattle.lsn_core.specs.declared.lsn.Lsn.{Lsn}
use Rattle.manifest.specs.Listing.{Listing}
use Rattle.manifest.specs.Reading.{ReadAnswers}
use Rattle.manifest.specs.Text.{manifest_text}
use Rattle.manifest.specs.declared.listing.FileRow.{FileRow}
use Rattle.vault.specs.Area.{bytes_of}
use Rattle.backup_label.specs.Label.{IsLabel}
use Rattle.backup_files.specs.Directory.{manifest_name, label_name, row_of}
use Rattle.backup_files.proofs.Appended.{get_here}
use Rattle.backup_files.proofs.Digests.{spelled}
use Rattle.backup_files.proofs.Listable.{all_map}
use Rattle.incr_file.specs.declared.head.IncrHead.{IncrHead}
use Rattle.incr_file.specs.Head.{IsHead, head_bytes, file_size}
use Rattle.incr_file.specs.Reading.{HasFront, HeadAnswers, view_of, listed_count, head_in}
use Rattle.incr_file.specs.Laws.{WrittenHeadsAreRead}
use Rattle.incr_file.specs.Form.{Form, Absent, Plain, Part, form_in, part_in, pages_bytes}
use Rattle.chain_files.specs.Segments.{IsIncrFile, HasForms, forms_at}
use Rattle.std.proofs.lemmas.List.{length-append}
use Rattle.lsn_core.specs.byte_words.Numbers.{u32_in}
use Rattle.incr_file.specs.Head.{head_magic}
use Rattle.merged_forms.specs.Laws.{HasHead}
use Rattle.merge_laws.proofs.HeadSizes.{length-head_bytes}
use Rattle.merge_laws.proofs.NoGaps.{series_heads}
use Rattle.merge_laws.proofs.Sized.{IsSized, forms_sized}
use Rattle.chain_files.proofs.Pages.{HaveSize, bytes_length}
use Rattle.chain_files.specs.Paths.{file_path, IsRelationFile, IsIncrementalPath, fork_folder, fork_name}
use Rattle.lsn_core.specs.Names.{IsNamed, fork_path_bytes}
use Rattle.lsn_core.specs.declared.ids.ForkId.{ForkId}
use Rattle.chain_files.proofs.Placed.{fork_placed, fork_file}
use Rattle.chain_check.specs.Directory.{HasManifest, IsRowAsListed, is_listed, HasNoOther, HasForm, IsAsListed}
use Rattle.chain_check.specs.declared.member.Member.{Member}
use Rattle.merged_forms.specs.Merged.{merged_form}
use Rattle.directory_files.specs.Relisted.{File, IsRelisted, other_rows, relisted}
use Rattle.merge_laws.specs.Merged.{IsFileOf, kept_bytes, merged_label, IsMergedFile, IsMerged}
use Rattle.series_check.specs.Series.{IsIncremental}
use Rattle.series_check.specs.Priors.{label_with_prior}
use Rattle.merge_laws.specs.Members.{last_member, merged_member, AreAsListed}
use Rattle.merge_laws.specs.Laws.{IsMergedOf, MergedIsAsListed}
use Rattle.directory_files.proofs.Among.{Among, of_all, all_among, all_of_map, name_of}
use Rattle.merge_laws.proofs.Labels.{merged_text}
use Rattle.directory_files.proofs.Standing.{never_label, label_apart, same_path, neither, none_if, never_both, other_row, is_other, file_for, put_in, stands_in, found_in, all_listed, all_made}
use Rattle.merge_laws.proofs.ListedRows.{row_at, none_listed, file_row}
use Rattle.merge_laws.proofs.Same.{Facts, spares, kept_whole, last_listed, merged_is, merged_sized, merged_counted, part_decides, plain_decides, alone_if}

never_true : (b : Bool) → b ≡ true → b ≡ false → ⊥
never_true b t f = let never : true ≡ false = sym t ∙ f in cc

-- numbers that can't differ are equal
stable : (a b : ℕ) → ((a ≡ b → ⊥) → ⊥) → a ≡ b
stable a b never = elim (cases_eq a b) [ inl e ↦ e | inr apart ↦ absurd (never apart) ]

-- a range of a manifest that was read rises
pub read_rises : (bytes : List ℕ) (m : Listing) → ReadAnswers bytes (Ok m) → m.start < m.end
read_rises bytes m is =
    let man = is.1.2 in
    let parts = man.2.shape in
    subst (λ (l : Listing). l.start < l.end) (sym man.5) parts.range.rises

module _ (facts : Facts) (heads : WrittenHeadsAreRead) (series : List Files) (first : Member) (later : List Member) (when count : ℕ) (out : Files) (m : IsMergedOf series first later when count out) where
  abbrev newest_member : Member
  newest_member = last_member first later

  abbrev listing : Listing
  listing = newest_member.manifest

  listed : IsAsListed m.newest newest_member
  listed = last_listed series m.before m.newest first later m.ends m.listed

  pub held : (file : File) → Among file m.is.files → get out file.0 ≡ Some file.1
  held file among = found_in (IsMergedFile series m.oldest m.newest) listing when count out m.is (spares series m.oldest m.newest) file among

  -- ---- the rows

  row_listed : (file : File) → Among file m.is.files → IsRowAsListed out (row_of m.is.modified file)
  row_listed file among = record { bytes = file.1; there = held file among; size = refl; summed = spelled file.1 }

  pub rows_listed : AllByRecursion (IsRowAsListed out) m.is.rows
  rows_listed =
      all_listed (IsMergedFile series m.oldest m.newest) listing when count out m.is (IsRowAsListed out)
      (all_map (row_of m.is.modified) (IsRowAsListed out) m.is.files (all_among (λ f. IsRowAsListed out (row_of m.is.modified f)) m.is.files row_listed))

  -- a file that was put is listed
  pub put_listed : (file : File) → Among file m.is.files → is_listed m.is.rows file.0 ≡ true
  put_listed file among =
      elim (is_listed m.is.rows file.0) as (λ b. is_listed m.is.rows file.0 ≡ b → b ≡ true) [
        | true ↦ λ e. refl
        | false ↦ λ e.
            let none = all_made (IsMergedFile series m.oldest m.newest) listing when count out m.is (λ row. bytes_eq row.path file.0 ≡ false) (none_listed m.is.rows file.0 e) in
            let other = of_all (λ (f : File). bytes_eq f.0 file.0 ≡ false) file m.is.files (all_of_map (row_of m.is.modified) (λ row. bytes_eq row.path file.0 ≡ false) m.is.files none) among in
            absurd (never_true (bytes_eq file.0 file.0) (same_path file.0 file.0 refl) other)
      ] refl

  none_other : HasNoOther out m.is.rows
  none_other path e =
      let start = neither (bytes_eq path manifest_name) (starts_with nat_eq path (codes "pg_wal/") || is_listed m.is.rows path) e in
      let rest = neither (starts_with nat_eq path (codes "pg_wal/")) (is_listed m.is.rows path) start.1 in
      none_if (get out path) (λ bytes there.
      let apart : path ≢ manifest_name = λ n. never_true (bytes_eq path manifest_name) (same_path path manifest_name n) start.0 in
      never_true (is_listed m.is.rows path) (put_listed (path, bytes) (put_in (IsMergedFile series m.oldest m.newest) listing when count out m.is path bytes apart there)) rest.1)

  -- ---- the label

  label_put : Among (label_name, kept_bytes m.oldest m.newest label_name) m.is.files
  label_put =
      let rows = listing.files in
      let row = row_at rows label_name listed.label_row in
      let other = other_row rows row.0 row.1 (λ n. label_apart (sym row.2 ∙ n)) in
      let file = file_for (IsMergedFile series m.oldest m.newest) (other_rows rows) m.is.files row.0 m.is.stand other in
      let plain : IsIncrementalPath row.0.path → ⊥ = λ f. never_label f.folder f.name true (sym f.spelled ∙ row.2) in
      let same : file.0 ≡ (label_name, kept_bytes m.oldest m.newest label_name) = file.2.kept plain ∙ ap (λ (p : List ℕ). (p, kept_bytes m.oldest m.newest p)) row.2 in
      subst (λ (f : File). Among f m.is.files) same file.1

  label_kept : kept_bytes m.oldest m.newest label_name ≡ merged_label (bytes_of m.oldest label_name) (bytes_of m.newest label_name)
  label_kept = ap (λ (b : Bool). if b then merged_label (bytes_of m.oldest label_name) (bytes_of m.newest label_name) else bytes_of m.newest label_name) (same_path label_name label_name refl)

  label_bytes : bytes_of out label_name ≡ merged_label (bytes_of m.oldest label_name) (bytes_of m.newest label_name)
  label_bytes = ap (λ (o : Option (List ℕ)). unwrap_or o []) (held (label_name, kept_bytes m.oldest m.newest label_name) label_put) ∙ label_kept

  first_listed : IsAsListed m.oldest first
  first_listed = (subst (λ (l : List Files). AreAsListed l (first ∷ later)) m.begins m.listed).0

  label_is : IsIncremental first → IsLabel (bytes_of out label_name) (label_with_prior newest_member.label first.label.prior)
  label_is incr =
      subst (λ (text : List ℕ). IsLabel text (label_with_prior newest_member.label first.label.prior)) (sym label_bytes)
      (merged_text first.label newest_member.label incr.prior (bytes_of m.oldest label_name) (bytes_of m.newest label_name) incr.named first_listed.label.0 listed.label.0)

  -- ---- the forms

  whole_pages : (pages : ForkPages) → HaveSize 8192 pages → length (pages_bytes pages) % 8192 ≡ 0
  whole_pages pages sized =
      let long : length (pages_bytes pages) ≡ length pages * 8192 + 0 = bytes_length 8192 pages sized ∙ omega arith in
      ap (λ (n : ℕ). n % 8192) long ∙ mod-mul-add (length pages) 8192 0 (omega arith)

  newest_forms : HasForms m.newest
  newest_forms = facts.forms m.newest newest_member listed

  heads_of : (folder name : List ℕ) → IsRelationFile folder name → AllByRecursion HasHead (forms_at series folder name)
  heads_of folder name named = series_heads folder name named facts.forms series (first ∷ later) m.listed

  -- an incremental file is one by its head
  part_front : (folder name : List ℕ) (bytes : List ℕ) → IsRelationFile folder name → get out (file_path folder name true) ≡ Some bytes → HasFront bytes (length bytes)
  part_front folder name bytes named e = record {
    size = stable (length bytes) (file_size (listed_count bytes)) (λ never. decides (λ head pages merged are.
        let front = front_of head pages merged in
        let long = part_long head pages merged in
        never (ap (λ (b : List ℕ). length b) are ∙ (long ∙ (front.size ∙ ap (λ (b : List ℕ). file_size (listed_count b)) (sym are))))));
    magic = stable (u32_in bytes 0) head_magic (λ never. decides (λ head pages merged are.
        let front = front_of head pages merged in
        never (ap (λ (b : List ℕ). u32_in b 0) are ∙ front.magic)));
  }
    where
      decides : ((head : IncrHead) (pages : ForkPages) → merged_form (forms_at series folder name) ≡ Part head pages → bytes ≡ head_bytes head ++ pages_bytes pages → ⊥) → ⊥
      decides refuse = part_decides facts.written series m.before m.oldest m.newest newest_member when count out m.ends listed m.is folder name named (heads_of folder name named) facts.heads bytes e refuse

      front_of : (head : IncrHead) (pages : ForkPages) → merged_form (forms_at series folder name) ≡ Part head pages → HasFront (head_bytes head ++ pages_bytes pages) (file_size (length head.blocks))
      front_of head pages merged = (heads head (pages_bytes pages) (subst HasHead merged (facts.heads (forms_at series folder name) (heads_of folder name named)))).1.0

      part_long : (head : IncrHead) (pages : ForkPages) → merged_form (forms_at series folder name) ≡ Part head pages → length (head_bytes head ++ pages_bytes pages) ≡ file_size (length head.blocks)
      part_long head pages merged =
          let sized = subst IsSized merged (merged_sized (forms_at series folder name) (forms_sized folder name _)) in
          let counted = merged_counted (forms_at series folder name) head pages merged in
          let a = length-head_bytes head in
          let b = bytes_length 8192 pages sized in
          length-append (head_bytes head) (pages_bytes pages) ∙ omega (arith, a, b, counted)

  part_head : (folder name : List ℕ) (bytes : List ℕ) → IsRelationFile folder name → get out (file_path folder name true) ≡ Some bytes → IsHead (head_in bytes)
  part_head folder name bytes named e =
      let form = merged_is facts series first later when count out m folder name named in
      let is : merged_form (forms_at series folder name) ≡ part_in bytes = sym form ∙ ap (λ (o : Option (List ℕ)). form_in o (get out (file_path folder name false))) e in
      subst HasHead is (facts.heads (forms_at series folder name) (heads_of folder name named))

  file_form : (file : File) → Among file m.is.files → HasForm out (row_of m.is.modified file)
  file_form file among = record {
    alone = λ f. alone_if facts.written series m.before m.oldest m.newest newest_member when count out m.ends listed m.is f.folder f.name f.placed (heads_of f.folder f.name f.placed) facts.heads newest_forms file.1 (ap (get out) (sym f.spelled) ∙ held file among);
    incremental = λ f.
        let at : get out (file_path f.folder f.name true) ≡ Some file.1 = ap (get out) (sym f.spelled) ∙ held file among in
        let same : bytes_of out file.0 ≡ file.1 = ap (λ (o : Option (List ℕ)). unwrap_or o []) (held file among) in
        subst (λ (b : List ℕ). IsIncrFile b (length file.1)) (sym same) (record { front = part_front f.folder f.name file.1 f.placed at; head = part_head f.folder f.name file.1 f.placed at });
    pages = λ f. stable (length file.1 % 8192) 0 (λ never.
        plain_decides facts.written series m.before m.oldest m.newest newest_member when count out m.ends listed m.is (fork_folder f.fork) (fork_name f.fork f.seg) (fork_placed f.fork f.seg f.named) (heads_of (fork_folder f.fork) (fork_name f.fork f.seg) (fork_placed f.fork f.seg f.named)) facts.heads file.1
        (ap (get out) (sym f.spelled) ∙ held file among)
        (λ pages sized are. never (ap (λ (b : List ℕ). length b % 8192) are ∙ whole_pages pages sized))
        (λ own there are. never (ap (λ (b : List ℕ). length b % 8192) are ∙ plain_whole f.fork f.seg own f.named there)));
  }
    where
      plain_whole : (fork : ForkId) (seg : ℕ) (own : List ℕ) → IsNamed fork seg → get m.newest (fork_path_bytes fork seg false) ≡ Some own → length own % 8192 ≡ 0
      plain_whole fork seg own named there =
          let row = file_row m.newest newest_member (fork_folder fork) (fork_name fork seg) false own (fork_placed fork seg named) listed there in
          let own_row = of_all (IsRowAsListed m.newest) row.0 listing.files listed.rows row.1 in
          let form = of_all (HasForm m.newest) row.0 listing.files listed.forms row.1 in
          let held : Some own_row.bytes ≡ Some own = sym own_row.there ∙ (ap (get m.newest) row.2 ∙ there) in
          let one : own ≡ own_row.bytes = cc in
          ap (λ (b : List ℕ). length b % 8192) one ∙ (ap (λ (n : ℕ). n % 8192) own_row.size ∙ form.pages (fork_file fork seg named row.2))

  rows_formed : AllByRecursion (HasForm out) m.is.rows
  rows_formed =
      all_listed (IsMergedFile series m.oldest m.newest) listing when count out m.is (HasForm out)
      (all_map (row_of m.is.modified) (HasForm out) m.is.files (all_among (λ f. HasForm out (row_of m.is.modified f)) m.is.files file_form))

  -- ---- the manifest

  manifest_there : HasManifest out (relisted listing m.is.rows)
  manifest_there =
      let text = manifest_text (relisted listing m.is.rows) in
      (text, ap (λ (x : Files). get x manifest_name) m.is.files_are ∙ get_here _ manifest_name text, m.is.read)

  label_listed : is_listed m.is.rows label_name ≡ true
  label_listed = put_listed (label_name, kept_bytes m.oldest m.newest label_name) label_put

pub as_listed : Facts → WrittenHeadsAreRead → MergedIsAsListed
as_listed facts heads series first later when count out name m = record {
  manifest = manifest_there facts heads series first later when count out m;
  rows = rows_listed facts heads series first later when count out m;
  label_row = label_listed facts heads series first later when count out m;
  others = none_other facts heads series first later when count out m;
  label = (label_is facts heads series first later when count out m m.incremental, (last_listed series m.before m.newest first later m.ends m.listed).label.1);
  forms = rows_formed facts heads series first later when count out m;
}
