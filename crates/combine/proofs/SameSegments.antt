-- What a chain is combined to stands for the same files of pages as the chain.
use Rattle.std.proofs.Common.{◌≡◌, ◌≢◌, ℕ, Bool, true, false, List, [], ◌∷◌, map, reverse, Option, Some, None, IfSome, unwrap_or, refl, sym, ap, ap₂, subst, ◌∙◌}
use Rattle.std.specs.Prelude.{if◌then◌else◌}
use Rattle.std.specs.FinMap.{get}
use Rattle.std.proofs.lemmas.List.{reverse-append}
use Rattle.lsn_core.specs.Files.{Files}
use Rattle.lsn_core.specs.Store.{ForkPages}
use Rattle.backup_files.specs.Directory.{label_name}
use Rattle.vault.specs.Area.{bytes_of}
use Rattle.incr_file.specs.Form.{form_in, pages_bytes, pages_in_chain}
use Rattle.chain_files.specs.Segments.{form_at, chain_pages}
use Rattle.chain_check.specs.Directory.{IsRowAsListed, IsAsListed}
use Rattle.chain_check.specs.declared.member.Member.{Member}
use Rattle.directory_files.specs.Labels.{first_lines}
use Rattle.combine.specs.Combined.{EndsWith, IsCombined, IsCombinedFile, kept_bytes, other_rows}
use Rattle.combine.specs.Laws.{CombinedHoldsTheSame}
use Rattle.directory_files.specs.Relisted.{File, Rule}
use Rattle.directory_files.proofs.Among.{of_all, name_of}
use Rattle.directory_files.proofs.Standing.{HasFile, never_manifest, never_label, other_path, none_if, never_both, other_row, is_other, file_for, stands_in, put_in}
use Rattle.chain_files.proofs.Pages.{HaveSize, chain_sized, pages_again}
use Rattle.chain_files.specs.Paths.{file_path, IsRelationFile, IsIncrementalPath}
use Rattle.chain_files.proofs.Placed.{one_file, never_incremental}
use Rattle.combine.proofs.Standing.{found_in, no_part_in, file_row}

-- what another file than the label keeps
pub kept_whole : (newest : Files) (path : List ℕ) → path ≢ label_name → kept_bytes newest path ≡ bytes_of newest path
kept_whole newest path apart =
    ap (λ (b : Bool). if b then first_lines 7 (bytes_of newest path) else bytes_of newest path) (other_path path label_name apart)

module _ (chain : List Files) (newest : Files) (member : Member) (when count : ℕ) (out : Files) (listed : IsAsListed newest member) (is : IsCombined chain newest member.manifest when count out) (folder name : List ℕ) (named : IsRelationFile folder name) where
  abbrev part : List ℕ
  part = file_path folder name true

  abbrev plain : List ℕ
  plain = file_path folder name false

  abbrev rule : Rule
  rule = IsCombinedFile chain newest

  -- the file that stands for that of the folder
  file_of : (incr : Bool) (bytes : List ℕ) → get newest (file_path folder name incr) ≡ Some bytes → HasFile rule (file_path folder name incr) is.files
  file_of incr bytes e =
      let path = file_path folder name incr in
      let row = file_row newest member folder name incr bytes named listed e in
      let other = other_row member.manifest.files row.0 row.1 (λ m. never_manifest folder name incr (sym row.2 ∙ m)) in
      subst (λ (p : List ℕ). HasFile rule p is.files) row.2 (file_for rule (other_rows member.manifest.files) is.files row.0 is.stand other)

  -- an incremental one is rebuilt
  record IsPut : Type 0 where
    pages : ForkPages
    are : chain_pages chain folder name ≡ Some pages
    put : get out plain ≡ Some (pages_bytes pages)

  rebuilt : (bytes : List ℕ) → get newest part ≡ Some bytes → IsPut
  rebuilt bytes e =
      let file = file_of true bytes e in
      let own : IsIncrementalPath part = record { folder = folder; name = name; placed = named; spelled = refl } in
      let made = file.2.rebuilt own in
      record {
        pages = made.0;
        are = made.1;
        put = subst (λ (f : File). get out f.0 ≡ Some f.1) made.2 (found_in chain newest member when count out is file.0 file.1);
      }

  -- a plain one is kept
  kept : (bytes : List ℕ) → get newest plain ≡ Some bytes → get out plain ≡ Some bytes
  kept bytes e =
      let file = file_of false bytes e in
      let same = file.2.kept (λ f. never_incremental plain folder name named refl f) in
      subst (λ (f : File). get out f.0 ≡ Some f.1) same (found_in chain newest member when count out is file.0 file.1)
      ∙ ap (λ (b : List ℕ). Some b) (kept_whole newest plain (never_label folder name false) ∙ ap (λ (o : Option (List ℕ)). unwrap_or o []) e)

  -- and where there is none, none is put
  none_put : get newest part ≡ None → get newest plain ≡ None → get out plain ≡ None
  none_put no_part no_plain = none_if (get out plain) (λ bytes e.
      let row = stands_in rule member.manifest when count out is (plain, bytes) (put_in rule member.manifest when count out is plain bytes (never_manifest folder name false) e) in
      let there = of_all (IsRowAsListed newest) row.0 member.manifest.files listed.rows (is_other member.manifest.files row.0 row.1).0 in
      let other : IsIncrementalPath row.0.path → ⊥ = λ f.
      (let same = one_file f.folder folder f.name name false false f.placed named (sym (ap name_of (row.2.rebuilt f).2)) in
      let spelled : row.0.path ≡ part = f.spelled ∙ ap₂ (λ (k s : List ℕ). file_path k s true) same.0 same.1.0 in
      never_both (get newest part) there.bytes no_part (ap (λ (p : List ℕ). get newest p) (sym spelled) ∙ there.there)) in
      let spelled : plain ≡ row.0.path = ap name_of (row.2.kept other) in
      never_both (get newest plain) there.bytes no_plain (ap (λ (p : List ℕ). get newest p) spelled ∙ there.there))

  -- the forms of the newest member stand before the older ones
  front : (ends : EndsWith chain newest) → chain_pages chain folder name ≡ pages_in_chain (form_in (get newest part) (get newest plain) ∷ map (form_at folder name) (reverse ends.0))
  front ends =
      ap (λ (c : List Files). chain_pages c folder name) ends.1
      ∙ ap (λ (l : List Files). pages_in_chain (map (form_at folder name) l)) (reverse-append ends.0 (newest ∷ []))

  abbrev Here : Option (List ℕ) → Option (List ℕ) → Option ForkPages
  Here incr whole = pages_in_chain (form_in incr whole ∷ [])

  here : (whole : Option (List ℕ)) → get out plain ≡ whole → chain_pages (out ∷ []) folder name ≡ Here None whole
  here whole e = ap₂ (λ (a b : Option (List ℕ)). pages_in_chain (form_in a b ∷ [])) (no_part_in chain newest member when count out is folder name named) e

  by_forms : (ends : EndsWith chain newest) (incr whole : Option (List ℕ)) → get newest part ≡ incr → get newest plain ≡ whole → chain_pages (out ∷ []) folder name ≡ chain_pages chain folder name
  by_forms ends None None i w =
      here None (none_put i w) ∙ sym (front ends ∙ ap₂ (λ (a b : Option (List ℕ)). pages_in_chain (form_in a b ∷ map (form_at folder name) (reverse ends.0))) i w)
  by_forms ends None (Some bytes) i w =
      here (Some bytes) (kept bytes w) ∙ sym (front ends ∙ ap₂ (λ (a b : Option (List ℕ)). pages_in_chain (form_in a b ∷ map (form_at folder name) (reverse ends.0))) i w)
  by_forms ends (Some bytes) whole i w =
      let made = rebuilt bytes i in
      let sized : HaveSize 8192 made.pages = subst (λ (o : Option ForkPages). IfSome o (HaveSize 8192)) made.are (chain_sized chain folder name) in
      here (Some (pages_bytes made.pages)) made.put ∙ (ap (λ (pages : ForkPages). Some pages) (pages_again made.pages sized) ∙ sym made.are)

pub holds_the_same : CombinedHoldsTheSame
holds_the_same chain newest member when count out ends listed is folder name named =
    by_forms chain newest member when count out listed is folder name named ends (get newest (file_path folder name true)) (get newest (file_path folder name false)) refl refl
