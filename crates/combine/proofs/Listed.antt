-- What a chain is combined to is as its manifest lists it, and a chain of one.
use Rattle.std.proofs.Common.{◌≡◌, ◌≢◌, ℕ, zero, suc, ◌+◌, ◌*◌, ◌%◌, Bool, true, false, ◌||◌, List, [], ◌∷◌, ◌++◌, length, Option, IfSome, unwrap_or, bytes_eq, refl, sym, ap, subst, ◌∙◌, arith}
use Rattle.std.specs.Prelude.{codes, nat_eq, if◌then◌else◌}
use Rattle.std.specs.FinMap.{get}
use Rattle.std.specs.List.{AllByRecursion, starts_with}
use Rattle.std.proofs.lemmas.Nat.{mod-mul-add}
use Rattle.lsn_core.specs.Files.{Files}
use Rattle.lsn_core.specs.Store.{ForkPages}
use Rattle.manifest.specs.Text.{manifest_text}
use Rattle.vault.specs.Area.{bytes_of}
use Rattle.backup_label.specs.Label.{IsLabel}
use Rattle.backup_files.specs.Directory.{manifest_name, label_name, row_of}
use Rattle.backup_files.proofs.Appended.{get_here}
use Rattle.backup_files.proofs.Digests.{spelled}
use Rattle.backup_files.proofs.Listable.{all_map}
use Rattle.incr_file.specs.Form.{pages_bytes}
use Rattle.chain_check.specs.Directory.{HasManifest, IsRowAsListed, is_listed, HasNoOther, HasForm, IsAsListed}
use Rattle.chain_check.specs.Chain.{IsOnOneTimeline, AreLinked, IsAccepted}
use Rattle.chain_check.specs.declared.member.Member.{Member}
use Rattle.directory_files.specs.Labels.{first_lines}
use Rattle.combine.specs.Combined.{IsCombined, IsCombinedFile, kept_bytes, other_rows, relisted}
use Rattle.combine.specs.Laws.{CombinedIsAsListed, FullMembersAreChains, full_label}
use Rattle.directory_files.specs.Relisted.{File, Rule}
use Rattle.directory_files.proofs.Among.{Among, of_all, all_among, all_of_map, name_of}
use Rattle.directory_files.proofs.Standing.{never_label, label_apart, same_path, neither, none_if, other_row, is_other, file_for, put_in, stands_in, all_listed, all_made}
use Rattle.combine.proofs.FullLabels.{full_text}
use Rattle.combine.proofs.SameSegments.{kept_whole}
use Rattle.chain_files.proofs.Pages.{HaveSize, chain_sized, bytes_length}
use Rattle.chain_files.specs.Paths.{IsIncrementalPath, fork_folder, fork_name, IsForkFile}
use Rattle.lsn_core.specs.Names.{fork_path_bytes}
use Rattle.chain_files.proofs.Placed.{fork_file}
use Rattle.combine.proofs.Standing.{row_at, none_listed, no_part, found_in}

-- a remainder that can't be other than none is none
none_left : (n : ℕ) → ((n ≡ 0 → ⊥) → ⊥) → n ≡ 0
none_left zero never = refl
none_left (suc n) never = absurd (never (λ e. omega (arith, e)))

never_true : (b : Bool) → b ≡ true → b ≡ false → ⊥
never_true b t f = let never : true ≡ false = sym t ∙ f in cc

module _ (chain : List Files) (newest : Files) (member : Member) (when count : ℕ) (out : Files) (listed : IsAsListed newest member) (is : IsCombined chain newest member.manifest when count out) where
  abbrev rule : Rule
  rule = IsCombinedFile chain newest

  -- ---- the rows

  row_listed : (file : File) → Among file is.files → IsRowAsListed out (row_of is.modified file)
  row_listed file among = record {
    bytes = file.1;
    there = found_in chain newest member when count out is file among;
    size = refl;
    summed = spelled file.1;
  }

  pub rows_listed : AllByRecursion (IsRowAsListed out) is.rows
  rows_listed =
      all_listed rule member.manifest when count out is (IsRowAsListed out)
      (all_map (row_of is.modified) (IsRowAsListed out) is.files (all_among (λ f. IsRowAsListed out (row_of is.modified f)) is.files row_listed))

  -- a file that was put is listed
  put_listed : (file : File) → Among file is.files → is_listed is.rows file.0 ≡ true
  put_listed file among =
      elim (is_listed is.rows file.0) as (λ b. is_listed is.rows file.0 ≡ b → b ≡ true) [
        | true ↦ λ e. refl
        | false ↦ λ e.
            let none = all_made rule member.manifest when count out is (λ row. bytes_eq row.path file.0 ≡ false) (none_listed is.rows file.0 e) in
            let other = of_all (λ (f : File). bytes_eq f.0 file.0 ≡ false) file is.files (all_of_map (row_of is.modified) (λ row. bytes_eq row.path file.0 ≡ false) is.files none) among in
            absurd (never_true (bytes_eq file.0 file.0) (same_path file.0 file.0 refl) other)
      ] refl

  pub none_other : HasNoOther out is.rows
  none_other path e =
      let first = neither (bytes_eq path manifest_name) (starts_with nat_eq path (codes "pg_wal/") || is_listed is.rows path) e in
      let rest = neither (starts_with nat_eq path (codes "pg_wal/")) (is_listed is.rows path) first.1 in
      none_if (get out path) (λ bytes there.
      let apart : path ≢ manifest_name = λ m. never_true (bytes_eq path manifest_name) (same_path path manifest_name m) first.0 in
      never_true (is_listed is.rows path) (put_listed (path, bytes) (put_in rule member.manifest when count out is path bytes apart there)) rest.1)

  -- ---- the label

  label_put : Among (label_name, kept_bytes newest label_name) is.files
  label_put =
      let rows = member.manifest.files in
      let row = row_at rows label_name listed.label_row in
      let other = other_row rows row.0 row.1 (λ m. label_apart (sym row.2 ∙ m)) in
      let file = file_for rule (other_rows rows) is.files row.0 is.stand other in
      let plain : IsIncrementalPath row.0.path → ⊥ = λ f. never_label f.folder f.name true (sym f.spelled ∙ row.2) in
      let same : file.0 ≡ (label_name, kept_bytes newest label_name) = file.2.kept plain ∙ ap (λ (p : List ℕ). (p, kept_bytes newest p)) row.2 in
      subst (λ (f : File). Among f is.files) same file.1

  label_kept : kept_bytes newest label_name ≡ first_lines 7 (bytes_of newest label_name)
  label_kept = ap (λ (b : Bool). if b then first_lines 7 (bytes_of newest label_name) else bytes_of newest label_name) (same_path label_name label_name refl)

  label_bytes : bytes_of out label_name ≡ first_lines 7 (bytes_of newest label_name)
  label_bytes =
      ap (λ (o : Option (List ℕ)). unwrap_or o []) (found_in chain newest member when count out is (label_name, kept_bytes newest label_name) label_put) ∙ label_kept

  pub label_is : IsLabel (bytes_of out label_name) (full_label member.label)
  label_is = subst (λ (text : List ℕ). IsLabel text (full_label member.label)) (sym label_bytes) (full_text (bytes_of newest label_name) member.label listed.label.0)

  pub label_listed : is_listed is.rows label_name ≡ true
  label_listed = put_listed (label_name, kept_bytes newest label_name) label_put

  -- ---- the forms

  made_whole : (pages : ForkPages) → HaveSize 8192 pages → length (pages_bytes pages) % 8192 ≡ 0
  made_whole pages sized =
      let long : length (pages_bytes pages) ≡ length pages * 8192 + 0 = bytes_length 8192 pages sized ∙ omega arith in
      ap (λ (n : ℕ). n % 8192) long ∙ mod-mul-add (length pages) 8192 0 (omega arith)

  plain_whole : (file : File) → Among file is.files → IsForkFile file.0 → length file.1 % 8192 ≡ 0
  plain_whole file among plain = none_left (length file.1 % 8192) (λ never.
      let row = stands_in rule member.manifest when count out is file among in
      let here = (is_other member.manifest.files row.0 row.1).0 in
      let there = of_all (IsRowAsListed newest) row.0 member.manifest.files listed.rows here in
      let form = of_all (HasForm newest) row.0 member.manifest.files listed.forms here in
      let kept : IsIncrementalPath row.0.path → ⊥ = λ f.
      (let made = row.2.rebuilt f in
      let sized : HaveSize 8192 made.0 = subst (λ (o : Option ForkPages). IfSome o (HaveSize 8192)) made.1 (chain_sized chain f.folder f.name) in
      never (ap (λ (g : File). length g.1 % 8192) made.2 ∙ made_whole made.0 sized)) in
      let same = row.2.kept kept in
      let spelled : row.0.path ≡ fork_path_bytes plain.fork plain.seg false = sym (ap name_of same) ∙ plain.spelled in
      let apart : row.0.path ≢ label_name = λ l. never_label (fork_folder plain.fork) (fork_name plain.fork plain.seg) false (sym spelled ∙ l) in
      let bytes : file.1 ≡ there.bytes = ap (λ (g : File). g.1) same ∙ (kept_whole newest row.0.path apart ∙ ap (λ (o : Option (List ℕ)). unwrap_or o []) there.there) in
      never (ap (λ (b : List ℕ). length b % 8192) bytes ∙ (ap (λ (n : ℕ). n % 8192) there.size ∙ form.pages (fork_file plain.fork plain.seg plain.named spelled))))

  file_form : (file : File) → Among file is.files → HasForm out (row_of is.modified file)
  file_form file among = record {
    alone = λ f. absurd (no_part chain newest member when count out is f.folder f.name file f.placed f.spelled among);
    incremental = λ f. absurd (no_part chain newest member when count out is f.folder f.name file f.placed f.spelled among);
    pages = λ f. plain_whole file among f;
  }

  pub rows_formed : AllByRecursion (HasForm out) is.rows
  rows_formed =
      all_listed rule member.manifest when count out is (HasForm out)
      (all_map (row_of is.modified) (HasForm out) is.files (all_among (λ f. HasForm out (row_of is.modified f)) is.files file_form))

  -- ---- the manifest

  pub manifest_there : HasManifest out (relisted member.manifest is.rows)
  manifest_there =
      let text = manifest_text (relisted member.manifest is.rows) in
      (text, ap (λ (m : Files). get m manifest_name) is.files_are ∙ get_here _ manifest_name text, is.read)

pub as_listed : CombinedIsAsListed
as_listed chain newest member when count out name listed is = record {
  manifest = manifest_there chain newest member when count out listed is;
  rows = rows_listed chain newest member when count out listed is;
  label_row = label_listed chain newest member when count out listed is;
  others = none_other chain newest member when count out listed is;
  label = (label_is chain newest member when count out listed is, listed.label.1);
  forms = rows_formed chain newest member when count out listed is;
}

-- ---- the chain of one

last_linked : (prior : Member) (older : List Member) (member : Member) → AreLinked prior (older ++ (member ∷ [])) → IsOnOneTimeline member.label
last_linked prior [] member are = are.0.timelines
last_linked prior (next ∷ older) member are = last_linked next older member are.1

last_timeline : (older : List Member) (member : Member) → IsAccepted (older ++ (member ∷ [])) → IsOnOneTimeline member.label
last_timeline [] member is = is.chain.0.timelines
last_timeline (first ∷ older) member is = last_linked first older member is.chain.1

pub chains_of_one : FullMembersAreChains
chains_of_one older member name rows is = record {
  few = omega arith;
  chain = (record { version = refl; timelines = ((last_timeline older member is).0, tt); full = refl }, tt);
}
