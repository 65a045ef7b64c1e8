-- Pages hashed one behind the other.
use Rattle.std.proofs.Common.{◌≡◌, ◌∙◌, ℕ, suc, ◌+◌, ◌<◌, ◌≤◌, List, [], ◌∷◌, ◌++◌, Bool, true, false, length, map, take, drop, get_or, Option, Some, None, IfSome, refl, sym, ap, subst, append-nil, arith}
use Rattle.std.specs.Prelude.{replicate, slice_get}
use Rattle.std.specs.List.{flat_map}
use Rattle.std.specs.FinMap.{entries, get}
use Rattle.std.proofs.Math.Seq.{take-suc}
use Rattle.std.proofs.lemmas.Grind.{flat_map-append}
use Rattle.std.proofs.lemmas.List.{append_assoc, take_all, get_or-map, length-map}
use Rattle.std.proofs.lemmas.List.Concat.{flat_map-cons}
use Rattle.std.proofs.lemmas.Option.{slice_get-get_or}
use Rattle.lsn_core.specs.byte_words.Numbers.{◌>>=◌}
use Rattle.sha2.specs.Hashers.{Holds256}
use Rattle.sha2.specs.declared.Sha256.{Sha256}
use Rattle.lsn_core.specs.declared.ids.BlockId.{BlockId}
use Rattle.lsn_core.specs.declared.ids.ForkId.{ForkId}
use Rattle.lsn_core.specs.declared.ids.ForkLen.{ForkLen}
use Rattle.lsn_core.specs.Blocks.{block_of}
use Rattle.lsn_core.specs.Shown.{BlockAnswer, ReadsBlock, Turns}
use Rattle.lsn_core.specs.Store.{Store, ForkPages}
use Rattle.rel_files.specs.Forks.{HasWholePages, whole_pages, fork_lengths}
use Rattle.rel_files.proofs.WholePages.{whole_all}
use Rattle.rel_files.specs.Shown.{AreFilesOf, HoldsStore, ShowsStore}
use Rattle.rel_files.specs.declared.forks.Forks.{Forks}
use Rattle.lsn_core.specs.Files.{Files}
use Rattle.vault.specs.declared.area.Vault.{Ghosts}
use Rattle.vault.specs.Frame.{OnlyReads}
use Rattle.follow_command.proofs.Copies.{entry_at}
use Rattle.pgbackup_cli.specs.drill_command.Contents.{without_lsn, fork_contents, contents_of, IsSumOf}
use Rattle.pgbackup_cli.specs.drill_command.Hashing.{Hashes, HashesBlock, HashesFork, HashesAll, IsShownSum}

abbrev Entry : Type 0
Entry = ForkId × ForkPages

-- ---- bytes behind bytes

hashes_none : (a : Sha256) → Hashes [] a a
hashes_none a m held = subst (Holds256 a) (sym (append-nil m)) held

hashes_then : (first second : List ℕ) (a b c : Sha256) → Hashes first a b → Hashes second b c → Hashes (first ++ second) a c
hashes_then first second a b c one two m held = subst (Holds256 c) (append_assoc m first second) (two (m ++ first) (one m held))

hashes_as : (x y : List ℕ) (a b : Sha256) → x ≡ y → Hashes x a b → Hashes y a b
hashes_as x y a b e is = subst (λ (z : List ℕ). Hashes z a b) e is

flat_one : {X : Type 0} (f : X → List ℕ) (x : X) → flat_map f (x ∷ []) ≡ f x
flat_one f x = flat_map-cons f x [] ∙ append-nil (f x)

flat_more : {X : Type 0} (f : X → List ℕ) (xs : List X) (k n : ℕ) (d : X) → n ≡ k + 1 → k < length xs → flat_map f (take k xs) ++ f (get_or xs k d) ≡ flat_map f (take n xs)
flat_more f xs k n d next within =
    let is : n ≡ suc k = omega (arith, next) in
    ap (λ (bytes : List ℕ). flat_map f (take k xs) ++ bytes) (sym (flat_one f (get_or xs k d)))
    ∙ sym (flat_map-append f (take k xs) (get_or xs k d ∷ []))
    ∙ ap (flat_map f) (sym (take-suc xs k d within))
    ∙ ap (λ (m : ℕ). flat_map f (take m xs)) (sym is)

-- ---- one page

some_is : {X : Type 0} (x y : X) → Some x ≡ Some y → x ≡ y
some_is x y e = cc

none_is_not : {X : Type 0} (x : X) → None ≡ Some x → ⊥
none_is_not x e = cc

page_read : (s : Store) (at : BlockId) (old new page : List ℕ) (there : Bool) → BlockAnswer s at old new there → block_of s at.fork at.block ≡ Some page → new ≡ page
page_read s at old new page true answer is = some_is new page (sym answer ∙ is)
page_read s at old new page false answer is = absurd (none_is_not page (sym answer.0 ∙ is))

pub block_hashed : (shown : Store → Type 0) (at : BlockId) (old new zeros rest : List ℕ) (there : Bool) (before mid now : Sha256) → ReadsBlock shown at old new there → zeros ≡ replicate 8 0 → rest ≡ drop 8 new → Hashes zeros before mid → Hashes rest mid now → HashesBlock shown at before now
block_hashed shown at old new zeros rest there before mid now reads zero behind first second s page is_shown is =
    let same : new ≡ page = page_read s at old new page there (reads s is_shown) is in
    hashes_as (zeros ++ rest) (without_lsn page) before now
    (ap (λ (z : List ℕ). z ++ rest) zero ∙ ap (λ (z : List ℕ). replicate 8 0 ++ z) (behind ∙ ap (drop 8) same))
    (hashes_then zeros rest before mid now first second)

-- ---- the pages of a fork

-- so many of them
abbrev pub HashesFirst : (Store → Type 0) → ForkLen → ℕ → Sha256 → Sha256 → Type 0
HashesFirst shown len count before now =
    (s : Store) (pages : ForkPages) → shown s → get s len.fork ≡ Some pages → len.blocks ≡ length pages → Hashes (fork_contents (take count pages)) before now

pub fork_start : (shown : Store → Type 0) (len : ForkLen) (a : Sha256) → HashesFirst shown len 0 a a
fork_start shown len a s pages is_shown there size = hashes_none a

pub fork_next : (shown later : Store → Type 0) (len : ForkLen) (k n : ℕ) (a b c : Sha256) → n ≡ k + 1 → k < len.blocks → ((s : Store) → shown s → later s) → HashesFirst shown len k a b → HashesBlock later (record { fork = len.fork; block = k }) b c → HashesFirst shown len n a c
fork_next shown later len k n a b c next less still so_far block s pages is_shown there size =
    let within : k < length pages = omega (arith, less, size) in
    let page : List ℕ = get_or pages k [] in
    let read : block_of s len.fork k ≡ Some page = ap (λ (o : Option ForkPages). o >>= λ ps. slice_get ps k) there ∙ slice_get-get_or pages k [] within in
    hashes_as (fork_contents (take k pages) ++ without_lsn page) (fork_contents (take n pages)) a c (flat_more without_lsn pages k n [] next within)
    (hashes_then (fork_contents (take k pages)) (without_lsn page) a b c (so_far s pages is_shown there size) (block s page (still s is_shown) read))

pub fork_all : (shown : Store → Type 0) (len : ForkLen) (k : ℕ) (a b : Sha256) → len.blocks ≤ k → HashesFirst shown len k a b → HashesFork shown len a b
fork_all shown len k a b all so_far s pages is_shown there size =
    let most : length pages ≤ k = omega (arith, all, size) in
    hashes_as (fork_contents (take k pages)) (fork_contents pages) a b (ap fork_contents (take_all k pages most)) (so_far s pages is_shown there size)

-- ---- the pages of all forks

abbrev entry_contents : Entry → List ℕ
entry_contents e = fork_contents e.1

-- so many forks
abbrev pub HashesForks : (Store → Type 0) → ℕ → Sha256 → Sha256 → Type 0
HashesForks shown count before now =
    (s : Store) → shown s → Hashes (flat_map entry_contents (take count (entries s))) before now

pub forks_start : (shown : Store → Type 0) (a : Sha256) → HashesForks shown 0 a a
forks_start shown a s is_shown = hashes_none a

len_of : Entry → ForkLen
len_of e = record { fork = e.0; blocks = length (whole_pages e.1) }

pub forks_next : (shown later : Store → Type 0) (list : List ForkLen) (len : ForkLen) (k n : ℕ) (a b c : Sha256)
    → n ≡ k + 1 → k < length list → len ≡ get_or list k len → ((s : Store) → shown s → (list ≡ fork_lengths s) × HasWholePages s × later s)
    → HashesForks shown k a b → HashesFork later len b c → HashesForks shown n a c
unfolding len_of
forks_next shown later list len k n a b c next less is known so_far fork s is_shown =
    let of_s = known s is_shown in
    let es : List Entry = entries s in
    let d : Entry = (len.fork, []) in
    let e : Entry = get_or es k d in
    let size : length list ≡ length es = ap length of_s.0 ∙ length-map es len_of in
    let within : k < length es = omega (arith, less, size) in
    let entry = entry_at s k d within in
    let told : len ≡ len_of e = is ∙ ap (λ (l : List ForkLen). get_or l k len) of_s.0 ∙ get_or-map len_of es k d len within in
    let whole : whole_pages e.1 ≡ e.1 = whole_all e.1 (of_s.1 e.0 e.1 entry.here) in
    let there : get s len.fork ≡ Some e.1 = ap (λ (l : ForkLen). get s l.fork) told ∙ entry.here in
    let blocks : len.blocks ≡ length e.1 = ap (λ (l : ForkLen). l.blocks) told ∙ ap length whole in
    hashes_as (flat_map entry_contents (take k es) ++ fork_contents e.1) (flat_map entry_contents (take n es)) a c (flat_more entry_contents es k n d next within)
    (hashes_then (flat_map entry_contents (take k es)) (fork_contents e.1) a b c (so_far s is_shown) (fork s e.1 of_s.2 there blocks))

pub forks_all : (shown : Store → Type 0) (list : List ForkLen) (k : ℕ) (a b : Sha256) → length list ≤ k → ((s : Store) → shown s → list ≡ fork_lengths s) → HashesForks shown k a b → HashesAll shown a b
forks_all shown list k a b all known so_far s is_shown =
    let size : length list ≡ length (entries s) = ap length (known s is_shown) ∙ length-map (entries s) (λ (e : Entry). record { fork = e.0; blocks = length (whole_pages e.1) }) in
    let most : length (entries s) ≤ k = omega (arith, all, size) in
    hashes_as (flat_map entry_contents (take k (entries s))) (contents_of s) a b (ap (flat_map entry_contents) (take_all k (entries s) most)) (so_far s is_shown)

-- ---- the files of an area

pub reads_on : {V : Type 0} (g : Ghosts V) (a b c : V) → OnlyReads g a b → OnlyReads g b c → OnlyReads g a c
reads_on g a b c first second = record {
  files = second.files ∙ first.files;
  past = second.past ∙ first.past;
  faults = omega (arith, first.faults, second.faults);
}

pub none_read : {V : Type 0} (g : Ghosts V) (a : V) → OnlyReads g a a
none_read g a = record { files = refl; past = refl; faults = omega arith }

-- a store that is held is shown still
pub shown_still : {V : Type 0} (g : Ghosts V) (a b : Forks V) → Turns (HoldsStore g) a b (λ s. s) → Turns (ShowsStore g) a b (λ s. s)
shown_still g a b held s shown = record { holds = held s shown.holds; whole = shown.whole }

pub summed : {V : Type 0} (g : Ghosts V) (relseg : ℕ) (forks : Forks V) (told : Option Files) (sum : List ℕ) → ((s : Store) → AreFilesOf relseg told s → HoldsStore g forks s) → IsShownSum (ShowsStore g forks) sum → IfSome told (λ m. IsSumOf relseg m sum)
summed g relseg forks None sum held shown = tt
summed g relseg forks (Some m) sum held shown = λ s holds whole. shown s (record { holds = held s (record { files = m; are_told = refl; hold = holds }); whole = whole })
