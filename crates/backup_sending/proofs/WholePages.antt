-- Copies whose pages are whole, and the sizes of their files.
use Rattle.std.proofs.Common.{◌≡◌, ℕ, ◌*◌, ◌^◌, ◌<◌, List, [], ◌∷◌, length, take, drop, false, zero, suc, sym, subst, ◌∙◌, arith}
use Rattle.std.specs.List.{AllByRecursion}
use Rattle.std.specs.FinMap.{entries, get-entries}
use Rattle.std.proofs.lemmas.List.{length-take}
use Rattle.lsn_core.specs.Names.{fork_path_bytes}
use Rattle.lsn_core.specs.Segment.{IsRelseg}
use Rattle.lsn_core.specs.Store.{Store, ForkPages, fork_files, segment_content, segment_count, store_files}
use Rattle.lsn_core.proofs.AnyAll.{all_pieces, all_range}
use Rattle.rel_files.specs.Forks.{HasWholePages}
use Rattle.backup_sending.specs.Inside.{ArePagesWhole, IsWholeFork}
use Rattle.backup_sending.proofs.PageLists.{bytes_length}
use Rattle.backup_sending.proofs.Stores.{found_one}
use Rattle.backup_files.proofs.Listable.{all_from}

-- ---- pages

pub whole_copy : (copy : Store) → AllByRecursion IsWholeFork (entries copy) → HasWholePages copy
whole_copy copy all fork pages is =
    let e = found_one IsWholeFork (entries copy) fork pages all (sym (get-entries copy fork) ∙ is) in
    all_from (λ (page : List ℕ). length page ≡ 8192) pages (subst ArePagesWhole (sym e.3) e.1)

-- ---- files

all_take : {A : Type 0} (P : A → Type 0) (n : ℕ) (xs : List A) → AllByRecursion P xs → AllByRecursion P (take n xs)
all_take P zero xs all = tt
all_take P (suc n) [] all = tt
all_take P (suc n) (x ∷ xs) all = (all.0, all_take P n xs all.1)

pub all_drop : {A : Type 0} (P : A → Type 0) (n : ℕ) (xs : List A) → AllByRecursion P xs → AllByRecursion P (drop n xs)
all_drop P zero xs all = all
all_drop P (suc n) [] all = tt
all_drop P (suc n) (x ∷ xs) all = all_drop P n xs all.1

-- a file has the bytes of at most as many pages as are in a segment
content_fits : (relseg : ℕ) (pages : ForkPages) (seg : ℕ) → IsRelseg relseg → ArePagesWhole pages → length (segment_content relseg pages seg) < 2 ^ 64
content_fits relseg pages seg range whole =
    let behind = drop (seg * relseg) pages in
    let sized = all_take (λ (page : List ℕ). length page ≡ 8192) relseg behind (all_drop (λ (page : List ℕ). length page ≡ 8192) (seg * relseg) pages whole) in
    omega (arith, bytes_length (take relseg behind) sized, length-take relseg behind, range.most)

pub sizes_fit : (relseg : ℕ) (copy : Store) → IsRelseg relseg → AllByRecursion IsWholeFork (entries copy) → AllByRecursion (λ f. length f.1 < 2 ^ 64) (store_files relseg copy)
sizes_fit relseg copy range whole =
    all_pieces IsWholeFork (λ (f : List ℕ × List ℕ). length f.1 < 2 ^ 64) (fork_files relseg) (entries copy)
    (λ e is. all_range (λ (f : List ℕ × List ℕ). length f.1 < 2 ^ 64) (λ seg. (fork_path_bytes e.0 seg false, segment_content relseg e.1 seg)) 0 (segment_count relseg (length e.1)) (λ s least most. content_fits relseg e.1 s range is))
    whole
