-- The forms of rows' files, by their paths.
use Rattle.std.proofs.Common.{◌≡◌, ℕ, ◌%◌, Bool, true, false, not, List, length, Option, Some, None, is_some, Result, Ok, Err, IfOk, IfSome, refl, sym, ap, ◌∙◌}
use Rattle.std.specs.Option.{option_map}
use Rattle.std.specs.FinMap.{get}
use Rattle.lsn_core.specs.byte_words.Told.{when_both_told}
use Rattle.lsn_core.specs.Files.{Files}
use Rattle.lsn_core.specs.declared.fault.AreaFault.{AreaFault}
use Rattle.lsn_core.specs.Names.{fork_path_bytes, IsNamed}
use Rattle.lsn_core.specs.declared.ids.ForkId.{ForkId}
use Rattle.manifest.specs.declared.listing.FileRow.{FileRow}
use Rattle.vault.specs.Area.{bytes_of}
use Rattle.chain_files.specs.Paths.{file_path, IsRelationFile, IsIncrementalPath, IsForkFile}
use Rattle.chain_files.specs.Segments.{IsIncrFile}
use Rattle.chain_files.proofs.Placed.{one_plain, one_form, fork_file}
use Rattle.chain_check.specs.Directory.{HasForm}
use Rattle.chain_check.specs.Inside.{HeadWhy, FormWhy}
use Rattle.chain_check.specs.Refusals.{HasBoth, IsAlone}
use Rattle.chain_check.specs.declared.fault.FileWhy.{FileWhy}
use Rattle.chain_check.specs.declared.fault.FileWhy.TheVariants.{Both, Length, Magic, Range, Order, PageLength}

abbrev pub placed_path : {path : List ℕ} (folder name : List ℕ) → IsRelationFile folder name → path ≡ file_path folder name true → IsIncrementalPath path
placed_path folder name placed spelled = record { folder = folder; name = name; placed = placed; spelled = spelled }

pub told_all : {A : Type 0} (o : Option A) (P : A → Type 0) → ((x : A) → P x) → IfSome o P
told_all None P all = tt
told_all (Some x) P all = all x

-- a file that isn't incremental has its form where it is of whole pages, if it is a fork's
pub whole_file : (files : Files) (row : FileRow) → (IsIncrementalPath row.path → ⊥) → (IsForkFile row.path → row.size % 8192 ≡ 0) → HasForm files row
whole_file files row other pages = record { alone = λ f. absurd (other f); incremental = λ f. absurd (other f); pages = pages }

pub no_fork : (files : Files) (row : FileRow) → (IsIncrementalPath row.path → ⊥) → (IsForkFile row.path → ⊥) → HasForm files row
no_fork files row other none = whole_file files row other (λ f. absurd (none f))

pub whole_pages : (files : Files) (row : FileRow) (fork : ForkId) (seg : ℕ) → IsNamed fork seg → row.path ≡ fork_path_bytes fork seg false → row.size % 8192 ≡ 0 → HasForm files row
whole_pages files row fork seg named spelled size = whole_file files row (λ f. one_form row.path (fork_file fork seg named spelled) f) (λ f. size)

pub whole_head : (files : Files) (row : FileRow) (folder name : List ℕ) → IsRelationFile folder name → row.path ≡ file_path folder name true → get files (file_path folder name false) ≡ None → IsIncrFile (bytes_of files row.path) row.size → HasForm files row
whole_head files row folder name placed spelled none is =
    let incr : IsIncrementalPath row.path = placed_path folder name placed spelled in
    record {
      alone = λ f. ap (λ (plain : List ℕ). get files plain) (one_plain row.path f incr) ∙ none;
      incremental = λ f. is;
      pages = λ f. absurd (one_form row.path f incr);
    }

-- a file isn't alone and in both forms
pub alone_or_both : (files : Files) (path : List ℕ) → IsAlone files path → HasBoth files path → ⊥
alone_or_both files path alone both = both.1 (ap (λ (plain : List ℕ). get files plain) (one_plain path both.0 alone.0) ∙ alone.1)

-- by the path, and by whether it is there
pub both_forms : (files : Files) (row : FileRow) (folder name plain : List ℕ) (size : Option ℕ) → IsRelationFile folder name → row.path ≡ file_path folder name true → plain ≡ file_path folder name false → size ≡ option_map (λ (b : List ℕ). length b) (get files plain) → is_some size ≡ true → HasBoth files row.path
both_forms files row folder name plain size placed spelled is sized there = (
  placed_path folder name placed spelled,
  λ none. (let o : size ≡ None = sized ∙ ap (λ (o : Option (List ℕ)). option_map (λ (b : List ℕ). length b) o) (ap (λ (p : List ℕ). get files p) is ∙ none) in let never : false ≡ true = sym (ap is_some o) ∙ there in cc),
)

none_of : (o : Option (List ℕ)) (size : Option ℕ) → size ≡ option_map (λ (b : List ℕ). length b) o → is_some size ≡ false → o ≡ None
none_of None size e f = refl
none_of (Some b) size e f = let never : true ≡ false = sym (ap is_some e) ∙ f in absurd cc

pub not_there : (files : Files) (folder name plain : List ℕ) (size : Option ℕ) → plain ≡ file_path folder name false → size ≡ option_map (λ (b : List ℕ). length b) (get files plain) → is_some size ≡ false → get files (file_path folder name false) ≡ None
not_there files folder name plain size is sized none = ap (λ (p : List ℕ). get files p) (sym is) ∙ none_of (get files plain) size sized none

-- what is wrong with a head is what is wrong with the form of a file that is there in that form alone
pub by_head : (files : Files) (row : FileRow) (folder name : List ℕ) (why : Option FileWhy) → IsRelationFile folder name → row.path ≡ file_path folder name true → get files (file_path folder name false) ≡ None → HeadWhy (bytes_of files row.path) row.size why → FormWhy files row why
by_head files row folder name None placed spelled none is = whole_head files row folder name placed spelled none is
by_head files row folder name (Some Both) placed spelled none is = absurd is
by_head files row folder name (Some Length) placed spelled none is = ((placed_path folder name placed spelled, none), is)
by_head files row folder name (Some Magic) placed spelled none is = ((placed_path folder name placed spelled, none), is)
by_head files row folder name (Some Range) placed spelled none is = ((placed_path folder name placed spelled, none), is)
by_head files row folder name (Some Order) placed spelled none is = ((placed_path folder name placed spelled, none), is)
by_head files row folder name (Some PageLength) placed spelled none is = absurd is

pub told_form : (o : Option Files) (row : FileRow) (folder name plain : List ℕ) (size : Option ℕ) (r : Result (Option FileWhy) AreaFault) → IsRelationFile folder name → row.path ≡ file_path folder name true → plain ≡ file_path folder name false → is_some size ≡ false → IfSome o (λ m. size ≡ option_map (λ (b : List ℕ). length b) (get m plain))
    → IfOk r (λ why. IfSome o (λ m. HeadWhy (bytes_of m row.path) row.size why)) → IfOk r (λ why. IfSome o (λ m. FormWhy m row why))
told_form o row folder name plain size (Ok why) placed spelled is none sized told =
    when_both_told o (λ m. size ≡ option_map (λ (b : List ℕ). length b) (get m plain)) (λ m. HeadWhy (bytes_of m row.path) row.size why) (λ m. FormWhy m row why)
    (λ m there head. by_head m row folder name why placed spelled (not_there m folder name plain size is there none) head)
    sized told
told_form o row folder name plain size (Err fault) placed spelled is none sized told = tt
