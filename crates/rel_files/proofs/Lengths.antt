-- What reads of segment files and their sizes tell of each store that the files hold.
use Rattle.std.proofs.Common.{◌≡◌, ℕ, ◌+◌, ◌*◌, ◌/◌, ◌%◌, ◌^◌, ◌<◌, ◌≤◌, false, nat_eq, List, [], length, Option, Some, None, IfSome, option_map, unwrap_or, refl, sym, ap, subst, ◌∙◌, arith}
use Rattle.std.specs.FinMap.{get}
use Rattle.lsn_core.specs.declared.ids.ForkId.{ForkId}
use Rattle.lsn_core.specs.declared.ids.BlockId.{BlockId}
use Rattle.lsn_core.specs.Files.{Files}
use Rattle.lsn_core.specs.Names.{fork_path_bytes, IsNamed}
use Rattle.lsn_core.specs.Store.{Store, ForkPages, segment_count, segment_content, segment_in}
use Rattle.lsn_core.specs.Shown.{BlockAnswer}
use Rattle.vault.specs.Area.{IsRead, ReadsIn, IsSizeIn, bytes_of}
use Rattle.rel_files.specs.Forks.{whole_pages, mended}
use Rattle.rel_files.specs.Shown.{AreFilesOf, whole_count}
use Rattle.rel_files.specs.Inside.{whole_length, FindsLast}
use Rattle.rel_files.proofs.SegmentFiles.{page_is_read, file_is_there, length_by_last}
use Rattle.rel_files.proofs.TornPuts.{whole_within}
use Rattle.rel_files.proofs.ForkStores.{mended_block}

-- what is told of told files holds of these
pub told_at : (x : Option Files) (P : Files → Type 0) (m : Files) → x ≡ Some m → IfSome x P → P m
told_at x P m e h = subst (λ (o : Option Files). IfSome o P) e h

-- a fork that has a whole page is there
some_pages : (s : Store) (fork : ForkId) (b : ℕ) → b < whole_length s fork → (pages : ForkPages) × ((get s fork ≡ Some pages) × (b < length (whole_pages pages)))
some_pages s fork b l = by (get s fork) refl
  where
    by : (o : Option ForkPages) → get s fork ≡ o → (pages : ForkPages) × ((get s fork ≡ Some pages) × (b < length (whole_pages pages)))
    by None e = let no : b < 0 = subst (λ (o : Option ForkPages). b < length (whole_pages (unwrap_or o []))) e l in absurd (omega arith)
    by (Some pages) e = (pages, (e, subst (λ (o : Option ForkPages). b < length (whole_pages (unwrap_or o []))) e l))

pub page_answer : (relseg : ℕ) (x : Option Files) (s : Store) (at : BlockId) (before now name : List ℕ) (place count : ℕ) → 0 < relseg → AreFilesOf relseg x s → at.block < whole_length s at.fork → length before ≡ 8192
    → name ≡ fork_path_bytes at.fork (at.block / relseg) false → place ≡ at.block % relseg * 8192 → ReadsIn x name place before now count → BlockAnswer (mended s at.fork) at before now (nat_eq count 8192)
page_answer relseg x s at before now name place count some held within size is here reads =
    let there = some_pages s at.fork at.block within in
    let pages = there.0 in
    let read : IsRead held.files (fork_path_bytes at.fork (at.block / relseg) false) (at.block % relseg * 8192) before now count =
    subst (λ (q : List ℕ). IsRead held.files q (at.block % relseg * 8192) before now count) is
    (subst (λ (p : ℕ). IsRead held.files name p before now count) here
    (told_at x (λ m. IsRead m name place before now count) held.files held.are_told reads)) in
    let page = page_is_read relseg held.files s at.fork pages at.block before now count some held.hold there.1.0 there.1.1 size read in
    subst (λ (n : ℕ). BlockAnswer (mended s at.fork) at before now (nat_eq n 8192)) (sym page.0)
    (mended_block s at.fork pages at.block (held.hold.held at.fork pages there.1.0) there.1.0 there.1.1 ∙ page.1)

-- ---- the last file

-- a file's size, where the files hold a store
size_in : (relseg : ℕ) (x : Option Files) (s : Store) (fork : ForkId) (seg : ℕ) (size : Option ℕ) → AreFilesOf relseg x s → IsNamed fork seg → IsSizeIn x (fork_path_bytes fork seg false) size → size ≡ option_map length (segment_in relseg seg (get s fork))
size_in relseg x s fork seg size held named is =
    told_at x (λ m. size ≡ option_map length (get m (fork_path_bytes fork seg false))) held.files held.are_told is
    ∙ ap (λ (o : Option (List ℕ)). option_map length o) (held.hold.segments fork seg named)

-- no fork that files hold has so many files
abbrev pub EndsBefore : Option Files → ForkId → ℕ → Type 0
EndsBefore x fork end = (relseg : ℕ) (s : Store) (pages : ForkPages) → 0 < relseg → AreFilesOf relseg x s → get s fork ≡ Some pages → segment_count relseg (length pages) ≤ end

-- ---- how many whole pages a fork has

pub pages_counted : (relseg : ℕ) (x : Option Files) (s : Store) (fork : ForkId) (first last size n : ℕ) → 0 < relseg → IsNamed fork 0 → AreFilesOf relseg x s → IsSizeIn x (fork_path_bytes fork 0 false) (Some first) → FindsLast x fork (last, size)
    → (last * relseg + size / 8192 < 2 ^ 32 → n ≡ last * relseg + size / 8192) → Some n ≡ whole_count s fork
pages_counted relseg x s fork first last size n some named held is finds adds = by (get s fork) refl
  where
    by : (o : Option ForkPages) → get s fork ≡ o → Some n ≡ whole_count s fork
    by None e =
        let f : Some first ≡ None = size_in relseg x s fork 0 (Some first) held named is ∙ ap (λ (o : Option ForkPages). option_map length (segment_in relseg 0 o)) e in
        absurd cc
    by (Some pages) e =
        let path = fork_path_bytes fork last false in
        let found = finds relseg s pages some held e in
        let bytes : get held.files path ≡ Some (segment_content relseg pages last) = file_is_there relseg held.files s fork pages last some held.hold e (omega (arith, found.count)) in
        let sized : length (bytes_of held.files path) ≡ size = ap (λ (o : Option (List ℕ)). length (unwrap_or o [])) bytes ∙ sym found.bytes in
        let whole : length (whole_pages pages) ≡ last * relseg + size / 8192 = length_by_last relseg held.files s fork pages last some held.hold e found.count ∙ ap (λ (k : ℕ). last * relseg + k / 8192) sized in
        let within : length (whole_pages pages) ≤ length pages = whole_within pages (held.hold.held fork pages e) in
        let fits : length pages < 2 ^ 32 = (held.hold.named fork pages e).seg_fits in
        let small : last * relseg + size / 8192 < 2 ^ 32 = subst (λ (k : ℕ). k < 2 ^ 32) whole (omega (arith, within, fits)) in
        ap (λ (k : ℕ). Some k) (adds small ∙ sym whole) ∙ sym (ap (option_map (λ (ps : ForkPages). length (whole_pages ps))) e)
