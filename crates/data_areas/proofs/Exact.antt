-- Files of forks alone, and the mark beside them.
use Rattle.std.proofs.Common.{◌≡◌, ℕ, ◌<◌, true≢false, Bool, true, false, List, get_or, Option, None, Some, IfSome, IsSome, is_some, refl, sym, ap, ◌∙◌, arith}
use Rattle.std.specs.Prelude.{◌≢◌, bytes_eq}
use Rattle.std.specs.Ordering.{nat_cmp}
use Rattle.std.specs.Cmp.Lexicographic.{slice_cmp}
use Rattle.std.specs.FinMap.{get, empty, get-empty}
use Rattle.std.proofs.lemmas.Slice.Eq.{bytes_eq-Decides}
use Rattle.lsn_core.specs.byte_words.Told.{when_both_told}
use Rattle.lsn_core.specs.Files.{Files}
use Rattle.lsn_core.specs.Names.{fork_path_bytes}
use Rattle.lsn_core.specs.Store.{Store, files_of}
use Rattle.vault.specs.Area.{Related, after_remove}
use Rattle.vault.specs.Frame.{AgreeBut}
use Rattle.rel_files.specs.Forks.{Holds, IsForkPath}
use Rattle.rel_files.specs.Laws.{HasOnlyForks}
use Rattle.rel_files.proofs.WholeStores.{files_are_exact}
use Rattle.data_areas.specs.Marking.{rebuilding_name, IsMark}
use Rattle.data_areas.specs.Settling.{HasOnlyForksAndMark}
use Rattle.data_areas.proofs.Cleared.{apart_removed}
use Rattle.data_areas.proofs.Marks.{gone}

-- no fork has a file of the mark's name
pub no_mark : (path : List ℕ) → IsForkPath path → path ≢ rebuilding_name
no_mark path is same =
    let first : get_or (fork_path_bytes is.fork is.seg false) 0 0 ≡ get_or rebuilding_name 0 0 = ap (λ (l : List ℕ). get_or l 0 0) (sym is.path_is ∙ same) in
    let numbers : 98 ≡ 114 = first in
    omega (arith, numbers)

pub empty_none : (m : Files) (path : List ℕ) → m ≡ empty → get m path ≡ None
empty_none m path none = ap (λ (f : Files). get f path) none ∙ get-empty (slice_cmp nat_cmp) path

pub nothing_told : IsSome {T = Files} None → ⊥
nothing_told some = true≢false (sym some)

pub tells_alike : (R : Files → Files → Type 0) (old new : Option Files) → Related R old new → is_some new ≡ is_some old
tells_alike R None None related = refl
tells_alike R (Some a) (Some b) related = refl
tells_alike R None (Some b) related = absurd related
tells_alike R (Some a) None related = absurd related

-- what holds of files holds so of those that are related to them
pub when_related : (R : Files → Files → Type 0) (P Q : Files → Type 0) (old new : Option Files) → ((a b : Files) → R a b → P a → Q b) → Related R old new → IfSome old P → IfSome new Q
when_related R P Q None None leads related holds = tt
when_related R P Q (Some a) (Some b) leads related holds = leads a b related holds
when_related R P Q None (Some b) leads related holds = absurd related
when_related R P Q (Some a) None leads related holds = absurd related

-- files of forks alone, which hold a store, are just those that it has
pub exact : (relseg : ℕ) (told : Option Files) (pages : Store) → 0 < relseg → IfSome told HasOnlyForks → IfSome told (λ files. Holds relseg files pages) → IfSome told (λ files. files ≡ files_of relseg pages)
exact relseg told pages some only holds =
    when_both_told told HasOnlyForks (λ files. Holds relseg files pages) (λ files. files ≡ files_of relseg pages) (λ files alone held. files_are_exact relseg files pages some held alone) only holds

-- the forks stay where the mark goes
pub apart : (relseg : ℕ) (pages : Store) (a b : Files) → AgreeBut IsMark a b → Holds relseg a pages → Holds relseg b pages
apart relseg pages a b agree held = record {
  segments = λ fork seg named.
      let path = fork_path_bytes fork seg false in
      agree path (no_mark path (record { fork = fork; seg = seg; named = named; path_is = refl })) ∙ held.segments fork seg named;
  named = held.named;
  held = held.held;
}

left_only : (a b : Files) → AgreeBut IsMark a b → HasOnlyForksAndMark a → get b rebuilding_name ≡ None → HasOnlyForks b
left_only a b agree only gone path not = go (bytes_eq path rebuilding_name) refl
  where
    go : (same : Bool) → bytes_eq path rebuilding_name ≡ same → get b path ≡ None
    go true e = ap (get b) ((bytes_eq-Decides path rebuilding_name).0 e) ∙ gone
    go false e = let other : path ≢ rebuilding_name = λ same. (let t = sym e ∙ (bytes_eq-Decides path rebuilding_name).1 same in cc) in agree path other ∙ only path not other

-- and are but for the mark just those that the pages have
pub exact_but_mark : (relseg : ℕ) (pages : Store) (m : Files) → 0 < relseg → HasOnlyForksAndMark m → Holds relseg m pages → AgreeBut IsMark (files_of relseg pages) m
exact_but_mark relseg pages m some only held =
    let bare : Files = after_remove rebuilding_name m in
    let agree : AgreeBut IsMark m bare = λ q not. apart_removed m rebuilding_name q not in
    let alone : HasOnlyForks bare = left_only m bare agree only (gone rebuilding_name (Some m) (Some bare) (Some bare) refl refl) in
    let e : bare ≡ files_of relseg pages = files_are_exact relseg bare pages some (apart relseg pages m bare agree held) alone in
    λ q not. sym (agree q not) ∙ ap (λ (f : Files). get f q) e

-- no store has a file of the mark's name
pub none_of_mark : (relseg : ℕ) (pages : Store) (m : Files) → 0 < relseg → HasOnlyForksAndMark m → Holds relseg m pages → get (files_of relseg pages) rebuilding_name ≡ None
none_of_mark relseg pages m some only held =
    let bare : Files = after_remove rebuilding_name m in
    let agree : AgreeBut IsMark m bare = λ q not. apart_removed m rebuilding_name q not in
    let bared : get bare rebuilding_name ≡ None = gone rebuilding_name (Some m) (Some bare) (Some bare) refl refl in
    let alone : HasOnlyForks bare = left_only m bare agree only bared in
    let e : bare ≡ files_of relseg pages = files_are_exact relseg bare pages some (apart relseg pages m bare agree held) alone in
    ap (λ (f : Files). get f rebuilding_name) (sym e) ∙ bared

pub unmarked_only : (old new : Option Files) → Related (AgreeBut IsMark) old new → IfSome old HasOnlyForksAndMark → IfSome new (λ m. get m rebuilding_name ≡ None) → IfSome new HasOnlyForks
unmarked_only old new agree only gone =
    when_both_told new (λ b. get b rebuilding_name ≡ None → HasOnlyForks b) (λ b. get b rebuilding_name ≡ None) HasOnlyForks (λ b leads none. leads none)
    (when_related (AgreeBut IsMark) HasOnlyForksAndMark (λ b. get b rebuilding_name ≡ None → HasOnlyForks b) old new (λ a b same alone none. left_only a b same alone none) agree only) gone
