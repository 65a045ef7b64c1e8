-- What files that hold a store tell of its forks: which segment files are there, how long they are, and the pages in them.
use Rattle.std.proofs.Common.{◌≡◌, ℕ, zero, suc, ◌+◌, ◌-◌, ◌*◌, ◌/◌, ◌%◌, ◌^◌, ◌<◌, ◌≤◌, Bool, true, false, cond, List, [], ◌++◌, length, take, drop, slice_get, Option, Some, None, is_some, unwrap_or, refl, ap, sym, subst, ◌∙◌, arith, inl, inr, ◌⊎◌, ⊎_elim, length-drop, append-nil}
use Rattle.std.proofs.lemmas.Bool.{lt-ltb, le-ltb}
use Rattle.std.proofs.lemmas.List.{take_all, drop_all}
use Rattle.std.proofs.lemmas.Nat.{div-add-mod', div-mul-add}
use Rattle.std.proofs.Math.Nat.{mod-lt}
use Rattle.std.specs.Prelude.{nat_lt}
use Rattle.std.specs.FinMap.{get}
use Rattle.lsn_core.specs.byte_words.Numbers.{◌>>=◌}
use Rattle.lsn_core.specs.declared.ids.ForkId.{ForkId}
use Rattle.lsn_core.specs.Files.{Files}
use Rattle.lsn_core.specs.Names.{fork_path_bytes, IsNamed}
use Rattle.lsn_core.specs.Store.{Store, ForkPages, segment_count, segment_content, segment_in}
use Rattle.lsn_core.specs.Blocks.{block_of}
use Rattle.vault.specs.Area.{bytes_of, IsRead}
use Rattle.rel_files.specs.Forks.{whole_pages, Holds}
use Rattle.rel_files.proofs.Pages.{HeldBy, held_by, held_least, held_most, held_drop, flat, bytes_filled, page_bytes, page_room, taken_get, dropped_get}
use Rattle.rel_files.proofs.Segments.{has_segment, segment_there, segments_hold, in_segment, held_segment}

-- a named fork is named with any segment whose number fits
pub renamed : (fork : ForkId) (n m : ℕ) → IsNamed fork n → m < 2 ^ 32 → IsNamed fork m
renamed fork n m named fits = record { some_db = named.some_db; db_fits = named.db_fits; some_rel = named.some_rel; rel_fits = named.rel_fits; seg_fits = fits }

-- a quotient is no greater than the number
pub less_by : (b relseg : ℕ) → 0 < relseg → b / relseg ≤ b
less_by b zero some = absurd (omega (arith, some))
less_by b (suc r) some = let parts = div-add-mod' b (suc r) in omega (arith, parts)

-- the segments of a fork that is there are fewer than its blocks, or it is one
pub count_fits : (relseg blocks seg : ℕ) → 0 < relseg → seg < segment_count relseg blocks → blocks < 2 ^ 32 → seg < 2 ^ 32
count_fits zero blocks seg some l fits = absurd (omega (arith, some))
count_fits (suc r) blocks seg some l fits =
    ⊎_elim (λ first. omega (arith, first)) (λ within. omega (arith, within, fits)) (has_segment (suc r) blocks seg some l)

-- ---- which segment files are there, and how long they are

chosen_in : (relseg seg : ℕ) (o : Option ForkPages) (pages : ForkPages) → o ≡ Some pages → (b : Bool) → nat_lt seg (segment_count relseg (length pages)) ≡ b → segment_in relseg seg o ≡ cond b (Some (segment_content relseg pages seg)) None
chosen_in relseg seg o pages e b f = ap (segment_in relseg seg) e ∙ ap (λ (c : Bool). cond c (Some (segment_content relseg pages seg)) None) f

-- the first files are there
pub file_is_there : (relseg : ℕ) (files : Files) (store : Store) (fork : ForkId) (pages : ForkPages) (seg : ℕ) → 0 < relseg → Holds relseg files store → get store fork ≡ Some pages → seg < segment_count relseg (length pages)
    → get files (fork_path_bytes fork seg false) ≡ Some (segment_content relseg pages seg)
file_is_there relseg files store fork pages seg some holds there l =
    let named = holds.named fork pages there in
    holds.segments fork seg (renamed fork (length pages) seg named (count_fits relseg (length pages) seg some l named.seg_fits))
    ∙ chosen_in relseg seg (get store fork) pages there true (lt-ltb seg (segment_count relseg (length pages)) l)

-- and no others
pub file_is_missing : (relseg : ℕ) (files : Files) (store : Store) (fork : ForkId) (pages : ForkPages) (seg : ℕ) → Holds relseg files store → get store fork ≡ Some pages → seg < 2 ^ 32 → segment_count relseg (length pages) ≤ seg
    → get files (fork_path_bytes fork seg false) ≡ None
file_is_missing relseg files store fork pages seg holds there fits l =
    holds.segments fork seg (renamed fork (length pages) seg (holds.named fork pages there) fits)
    ∙ chosen_in relseg seg (get store fork) pages there false (le-ltb seg (segment_count relseg (length pages)) l)

-- a missing fork has none
pub fork_has_no_file : (relseg : ℕ) (files : Files) (store : Store) (fork : ForkId) (seg : ℕ) → Holds relseg files store → get store fork ≡ None → IsNamed fork seg → get files (fork_path_bytes fork seg false) ≡ None
fork_has_no_file relseg files store fork seg holds none named = holds.segments fork seg named ∙ ap (segment_in relseg seg) none

-- and the first one whether the fork is there
pub first_file_tells : (relseg : ℕ) (files : Files) (store : Store) (fork : ForkId) → 0 < relseg → Holds relseg files store → IsNamed fork 0 → is_some (get files (fork_path_bytes fork 0 false)) ≡ is_some (get store fork)
first_file_tells relseg files store fork some holds named = ap (λ (o : Option (List ℕ)). is_some o) (holds.segments fork 0 named) ∙ first (get store fork)
  where
    first : (o : Option ForkPages) → is_some (segment_in relseg 0 o) ≡ is_some o
    first None = refl
    first (Some pages) =
        ap (λ (o : Option (List ℕ)). is_some o) (chosen_in relseg 0 (Some pages) pages refl true (lt-ltb 0 (segment_count relseg (length pages)) (segment_there relseg (length pages) 0 some (inl refl))))

-- the pages of a fork that files hold, by the number of whole ones
pub fork_held : (relseg : ℕ) (files : Files) (store : Store) (fork : ForkId) (pages : ForkPages) → Holds relseg files store → get store fork ≡ Some pages → HeldBy 8192 (length (whole_pages pages)) pages
fork_held relseg files store fork pages holds there = held_by pages (holds.held fork pages there)

last_length : (size relseg k w : ℕ) (pages : ForkPages) → 0 < size → HeldBy size w pages → (k ≡ 0) ⊎ (k * relseg < length pages) → length pages ≤ k * relseg + relseg → w ≡ k * relseg + length (segment_content relseg pages k) / size
last_length size relseg k w pages some h there most =
    let n = k * relseg in
    let long = held_most size w pages h in
    let le : n ≤ w = ⊎_elim (λ first. let z = ap (λ (x : ℕ). x * relseg) first in omega (arith, z)) (λ more. omega (arith, more, long)) there in
    let behind = held_drop size n w (w - n) pages h (omega (arith, le)) in
    let all : in_segment relseg k pages ≡ drop n pages = take_all relseg (drop n pages) (let l = length-drop n pages in omega (arith, l, most)) in
    let filled = bytes_filled size (w - n) (drop n pages) some behind in
    let rest = length (flat (drop n pages)) - (w - n) * size in
    let sum : length (segment_content relseg pages k) ≡ (w - n) * size + rest = ap (λ (ps : ForkPages). length (flat ps)) all ∙ omega (arith, filled.least) in
    let parts : length (segment_content relseg pages k) / size ≡ w - n = ap (λ (x : ℕ). x / size) sum ∙ div-mul-add (w - n) size rest (omega (arith, filled.most, filled.least)) in
    omega (arith, parts, le)

-- how many whole pages a fork has, by its last file
pub length_by_last : (relseg : ℕ) (files : Files) (store : Store) (fork : ForkId) (pages : ForkPages) (k : ℕ) → 0 < relseg → Holds relseg files store → get store fork ≡ Some pages → segment_count relseg (length pages) ≡ k + 1
    → length (whole_pages pages) ≡ k * relseg + length (bytes_of files (fork_path_bytes fork k false)) / 8192
length_by_last relseg files store fork pages k some holds there last =
    let bytes = file_is_there relseg files store fork pages k some holds there (omega (arith, last)) in
    let most : length pages ≤ k * relseg + relseg = let h = segments_hold relseg (length pages) (k + 1) some last in omega (arith, h) in
    last_length 8192 relseg k (length (whole_pages pages)) pages (omega arith) (fork_held relseg files store fork pages holds there) (has_segment relseg (length pages) k some (omega (arith, last))) most
    ∙ sym (ap (λ (o : Option (List ℕ)). k * relseg + length (unwrap_or o []) / 8192) bytes)

-- ---- the page at a block

-- the bytes at a block's place are its page
pub record IsAtPlace (relseg : ℕ) (files : Files) (store : Store) (fork : ForkId) (b : ℕ) : Type 0 where
  pub there : get files (fork_path_bytes fork (b / relseg) false) ≡ Some (bytes_of files (fork_path_bytes fork (b / relseg) false))
  pub block : block_of store fork b ≡ Some (take 8192 (drop (b % relseg * 8192) (bytes_of files (fork_path_bytes fork (b / relseg) false))))
  pub room : b % relseg * 8192 + 8192 ≤ length (bytes_of files (fork_path_bytes fork (b / relseg) false))

page_in : (size relseg b w : ℕ) (pages : ForkPages) → 0 < relseg → HeldBy size w pages → b < w
    → (slice_get pages b ≡ Some (take size (drop (b % relseg * size) (segment_content relseg pages (b / relseg))))) × (b % relseg * size + size ≤ length (segment_content relseg pages (b / relseg)))
page_in size relseg b w pages some h l =
    let s = b / relseg in
    let c = b % relseg in
    let at : b ≡ s * relseg + c = sym (div-add-mod' b relseg) in
    let small : c < relseg = mod-lt b some in
    let here = held_segment size relseg s c b w pages h at small (omega arith) in (
      ap (slice_get pages) at ∙ sym (taken_get relseg c (drop (s * relseg) pages) small ∙ dropped_get (s * relseg) c pages) ∙ page_bytes size here.count c (in_segment relseg s pages) here.held (here.has l),
      page_room size here.count c (in_segment relseg s pages) here.held (here.has l),
    )

pub block_is_read : (relseg : ℕ) (files : Files) (store : Store) (fork : ForkId) (pages : ForkPages) (b : ℕ) → 0 < relseg → Holds relseg files store → get store fork ≡ Some pages → b < length (whole_pages pages) → IsAtPlace relseg files store fork b
block_is_read relseg files store fork pages b some holds there l =
    let w = length (whole_pages pages) in
    let s = b / relseg in
    let path = fork_path_bytes fork s false in
    let held = fork_held relseg files store fork pages holds there in
    let at : b ≡ s * relseg + b % relseg = sym (div-add-mod' b relseg) in
    let least = held_least 8192 w pages held in
    let is : get files path ≡ Some (segment_content relseg pages s) = file_is_there relseg files store fork pages s some holds there (segment_there relseg (length pages) s some (inr (omega (arith, at, l, least)))) in
    let bytes : bytes_of files path ≡ segment_content relseg pages s = ap (λ (o : Option (List ℕ)). unwrap_or o []) is in
    let page = page_in 8192 relseg b w pages some held l in
    record {
      there = is ∙ ap (λ (x : List ℕ). Some x) (sym bytes);
      block = found (get store fork) there ∙ page.0 ∙ sym (ap (λ (x : List ℕ). Some (take 8192 (drop (b % relseg * 8192) x))) bytes);
      room = subst (λ (x : List ℕ). b % relseg * 8192 + 8192 ≤ length x) (sym bytes) page.1;
    }
  where
    found : (o : Option ForkPages) → o ≡ Some pages → (o >>= λ ps. slice_get ps b) ≡ slice_get pages b
    found o e = ap (λ (p : Option ForkPages). p >>= λ ps. slice_get ps b) e

-- a read at a block's place gives its page
pub page_is_read : (relseg : ℕ) (files : Files) (store : Store) (fork : ForkId) (pages : ForkPages) (b : ℕ) (before now : List ℕ) (count : ℕ) → 0 < relseg → Holds relseg files store → get store fork ≡ Some pages → b < length (whole_pages pages)
    → length before ≡ 8192 → IsRead files (fork_path_bytes fork (b / relseg) false) (b % relseg * 8192) before now count → (count ≡ 8192) × (block_of store fork b ≡ Some now)
page_is_read relseg files store fork pages b before now count some holds there l size read =
    let at = block_is_read relseg files store fork pages b some holds there l in
    let bytes = bytes_of files (fork_path_bytes fork (b / relseg) false) in
    let all : count ≡ 8192 = omega (arith, read.counted, size, at.room) in
    (all, at.block ∙ ap (λ (x : List ℕ). Some x) (sym (read.bytes ∙ whole 8192 count (drop (b % relseg * 8192) bytes) before all size)))
  where
    whole : (n count : ℕ) (xs ys : List ℕ) → count ≡ n → length ys ≡ n → take count xs ++ drop count ys ≡ take n xs
    whole n count xs ys e f = ap (λ (zs : List ℕ). take count xs ++ zs) (drop_all count ys (omega (arith, e, f))) ∙ append-nil (take count xs) ∙ ap (λ (k : ℕ). take k xs) e
