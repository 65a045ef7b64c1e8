-- The members that the directories of a chain were found to be, and the places that they tell.
use Rattle.std.proofs.Common.{◌≡◌, ℕ, List, [], ◌∷◌, ◌++◌, map, Option, Some, None, unwrap_or, refl, sym, ap, subst, ◌∙◌}
use Rattle.std.specs.Option.{option_map}
use Rattle.std.specs.FinMap.{get, insert, empty}
use Rattle.lsn_core.specs.Files.{Files}
use Rattle.lsn_core.specs.Segment.{StoreSettings}
use Rattle.lsn_core.specs.Store.{with_files}
use Rattle.lsn_core.specs.declared.lsn.Lsn.{Lsn}
use Rattle.vault.specs.Area.{bytes_of}
use Rattle.vault.specs.Lending.{Names}
use Rattle.vault.specs.Site.{AreaState}
use Rattle.backup_label.specs.Label.{HasNoLineEnd, IsLabel}
use Rattle.backup_label.specs.declared.label.Label.{Label}
use Rattle.manifest.specs.Listing.{Listing}
use Rattle.manifest.specs.Text.{manifest_text}
use Rattle.backup_files.specs.Directory.{label_name, manifest_name, listing_with}
use Rattle.backup_sending.specs.Directory.{IsDirectory, incr_label}
use Rattle.backup_sending.proofs.Labels.{label_apart}
use Rattle.chain_check.specs.Directory.{HasManifest, IsAsListed}
use Rattle.chain_check.specs.Laws.{ListedHaveForms}
use Rattle.chain_check.specs.declared.member.Member.{Member}
use Rattle.chain_files.specs.Segments.{AllHaveForms}
use Rattle.chain_files.specs.Told.{all_told}
use Rattle.merge_laws.specs.Members.{AreAsListed}
use Rattle.chain_laws.proofs.Files.{get_other}
use Rattle.command_base.proofs.Told.{at_told}
use Rattle.chain_commands.specs.Chain.{AreMembersIn, files_told}
use Rattle.backup_laws.proofs.Members.{Known, manifest_once, put_there, some_is}

-- ---- the directories of a chain

-- where there is a newest one there is a first
pub first_listed : (older : List Member) (newest : Member) (chain : List Files) → AreAsListed chain (older ++ (newest ∷ [])) → (f : Files) × (fs : List Files) × (chain ≡ f ∷ fs)
first_listed [] newest [] listed = absurd listed
first_listed (m ∷ older) newest [] listed = absurd listed
first_listed older newest (f ∷ fs) listed = (f, fs, refl)

-- the first of those that are told, and the others
pub record IsSplit (first : Option Files) (rest : List (Option Files)) (chain : List Files) : Type 0 where
  pub file : Files
  pub files : List Files
  pub is : first ≡ Some file
  pub told : all_told rest ≡ Some files
  pub all : chain ≡ file ∷ files

pub split_told : (first : Option Files) (rest : List (Option Files)) (chain : List Files) → all_told (first ∷ rest) ≡ Some chain → IsSplit first rest chain
split_told None rest chain e = absurd cc
split_told (Some f) rest chain e = by (all_told rest) refl e
  where
    by : (o : Option (List Files)) → all_told rest ≡ o → option_map (λ more. f ∷ more) o ≡ Some chain → IsSplit (Some f) rest chain
    by None is told = absurd cc
    by (Some fs) is told = record { file = f; files = fs; is = refl; told = is; all = sym (some_is (f ∷ fs) chain told) }

pub members_listed : (names : Names) (areas : List AreaState) (members : List Member) (chain : List Files) → AreMembersIn names areas members → files_told areas ≡ Some chain → AreAsListed chain members
members_listed [] [] [] [] are told = tt
members_listed [] [] [] (f ∷ chain) are told = absurd cc
members_listed [] [] (m ∷ members) chain are told = absurd are
members_listed [] (a ∷ areas) members chain are told = absurd are
members_listed (n ∷ names) [] members chain are told = absurd are
members_listed (n ∷ names) (a ∷ areas) [] chain are told = absurd are
members_listed (n ∷ names) (a ∷ areas) (m ∷ members) chain are told =
    let p = split_told a.files (map (λ area. area.files) areas) chain told in
    subst (λ (fs : List Files). AreAsListed fs (m ∷ members)) (sym p.all)
    ((at_told a.files p.file (λ files. (m.name ≡ n) × IsAsListed files m) p.is are.0).1, members_listed names areas members p.files are.1 p.told)

pub all_forms : ListedHaveForms → (chain : List Files) (members : List Member) → AreAsListed chain members → AllHaveForms chain
all_forms law [] [] listed = tt
all_forms law [] (m ∷ members) listed = absurd listed
all_forms law (f ∷ chain) [] listed = absurd listed
all_forms law (f ∷ chain) (m ∷ members) listed = (law f m listed.0, all_forms law chain members listed.1)

-- ---- what an incremental directory's member tells

pub record TellsIncrement (member : Member) (start prior end : Lsn) : Type 0 where
  pub start_is : member.label.start ≡ start
  pub end_is : member.manifest.end ≡ end.0
  pub prior_is : member.label.prior ≡ Some (prior, 1)

pub incr_told : Known → (s : StoreSettings) (name : List ℕ) (when : ℕ) (put : List (List ℕ × List ℕ)) (start checkpoint prior end : Lsn) (count : ℕ) (files : Files) (member : Member) → HasNoLineEnd name → IsDirectory s (λ begun. incr_label start checkpoint prior begun name) when put start end count (Some files)
    → IsAsListed files member → TellsIncrement member start prior end
incr_told known s name when put start checkpoint prior end count files member line is listed =
    let text : List ℕ = manifest_text (listing_with s.system is.rows start end) in
    let own : Label = incr_label start checkpoint prior is.begun name in
    let there : HasManifest files (listing_with s.system is.rows start end) = (text, ap (λ (m : Files). get m manifest_name) is.files_are ∙ put_there _ manifest_name text, is.manifest_read) in
    let same : member.manifest ≡ listing_with s.system is.rows start end = manifest_once known.texts files (listing_with s.system is.rows start end) member.manifest there listed.manifest in
    let label_there : get files label_name ≡ Some is.label =
    ap (λ (m : Files). get m label_name) is.files_are
    ∙ (get_other (insert (with_files empty put) label_name is.label) manifest_name text label_name label_apart ∙ put_there (with_files empty put) label_name is.label) in
    let bytes : bytes_of files label_name ≡ is.label = ap (λ (o : Option (List ℕ)). unwrap_or o []) label_there in
    let one : member.label ≡ own = known.labels (bytes_of files label_name) member.label own listed.label.0 (subst (λ (b : List ℕ). IsLabel b own) (sym bytes) (is.label_read line)) in
    record {
      start_is = ap (λ (l : Label). l.start) one;
      end_is = ap (λ (m : Listing). m.end) same;
      prior_is = ap (λ (l : Label). l.prior) one;
    }
