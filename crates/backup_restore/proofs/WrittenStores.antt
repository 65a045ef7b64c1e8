-- Files that have the segment files of a store hold that store.
use Rattle.std.proofs.Common.{◌≡◌, ℕ, zero, suc, ◌+◌, ◌-◌, ◌*◌, ◌/◌, ◌^◌, ◌<◌, ◌≤◌, min, inl, inr, Bool, true, false, cond, List, [], ◌++◌, length, take, drop, Option, Some, None, is_some, unwrap_or, option_map, refl, sym, ap, ◌∙◌, arith}
use Rattle.std.specs.FinMap.{get}
use Rattle.std.proofs.Math.Nat.{mul-le-mul_right, lt-div-mul-add, div-mul-le_self, div-le_self}
use Rattle.std.proofs.Math.Seq.{take-add}
use Rattle.std.proofs.lemmas.Bool.{le-leb, lt-leb, lt-ltb, le-ltb, cases_lt}
use Rattle.std.proofs.lemmas.List.{length-take, length-drop, take_all, drop_all}
use Rattle.std.proofs.lemmas.List.Elements.{All-take, All-drop, recursion_from_All}
use Rattle.lsn_core.specs.Files.{Files}
use Rattle.lsn_core.specs.Names.{fork_path_bytes, IsNamed}
use Rattle.lsn_core.specs.Store.{Store, ForkPages, segment_count, segment_content, segment_in, files_of}
use Rattle.lsn_core.specs.declared.ids.ForkId.{ForkId}
use Rattle.lsn_core.proofs.StoreFiles.{held}
use Rattle.rel_files.proofs.Pages.{flat}
use Rattle.rel_files.proofs.WholePages.{AreWhole}
use Rattle.incr_file.specs.Form.{whole_pages}
use Rattle.chain_files.specs.Held.{most_pages, pages_taken, pages_up_to, is_full, IsForkOf}
use Rattle.chain_files.specs.Segments.{plain_segments}
use Rattle.chain_files.proofs.Pages.{pages_again}
use Rattle.backup_restore.specs.Directories.{IsWritable, StoresAreHeld}
use Rattle.backup_restore.proofs.Directories.{up_to_more}

-- ---- the pages of a segment

abbrev pub part : ℕ → ForkPages → ℕ → ForkPages
part relseg pages seg = take relseg (drop (seg * relseg) pages)

pub part_length : (relseg : ℕ) (pages : ForkPages) (seg : ℕ) → length (part relseg pages seg) ≡ min relseg (length pages - seg * relseg)
part_length relseg pages seg = length-take relseg (drop (seg * relseg) pages) ∙ ap (min relseg) (length-drop (seg * relseg) pages)

pub part_whole : (relseg : ℕ) (pages : ForkPages) (seg : ℕ) → AreWhole pages → AreWhole (part relseg pages seg)
part_whole relseg pages seg whole =
    All-take (λ page. length page ≡ 8192) relseg (drop (seg * relseg) pages) (All-drop (λ page. length page ≡ 8192) (seg * relseg) pages whole)

-- a number of pages that fits isn't past the most
few_enough : (n : ℕ) → n < 2 ^ 32 → n ≤ most_pages
unfolding most_pages
few_enough n fits = omega (arith, fits)

part_few : (relseg : ℕ) (pages : ForkPages) (seg : ℕ) → length (part relseg pages seg) ≤ relseg
part_few relseg pages seg = omega (arith, part_length relseg pages seg)

-- a segment that a fork doesn't have has none of its pages
past_pages : (relseg blocks seg : ℕ) → 0 < relseg → segment_count relseg blocks ≤ seg → blocks ≤ seg * relseg
past_pages relseg blocks seg some past =
    let count : ℕ = (blocks + (relseg - 1)) / relseg in
    let least : blocks + (relseg - 1) < count * relseg + relseg = lt-div-mul-add some in
    let most : count * relseg ≤ seg * relseg = mul-le-mul_right relseg (let le : count ≤ seg = omega (arith, past) in le) in
    omega (arith, least, most, some)

none_past : (relseg : ℕ) (pages : ForkPages) (seg : ℕ) → length pages ≤ seg * relseg → segment_content relseg pages seg ≡ []
none_past relseg pages seg past =
    ap (λ (ps : ForkPages). flat (take relseg ps)) (drop_all (seg * relseg) pages past)
    ∙ ap flat (take_all relseg [] (omega arith))

pub content_or_none : (relseg : ℕ) (pages : ForkPages) (seg : ℕ) → 0 < relseg → unwrap_or (segment_in relseg seg (Some pages)) [] ≡ segment_content relseg pages seg
content_or_none relseg pages seg some = elim (cases_lt seg (segment_count relseg (length pages))) [
  | inl less ↦ ap (λ (b : Bool). unwrap_or (cond b (Some (segment_content relseg pages seg)) None) []) (lt-ltb seg (segment_count relseg (length pages)) less)
  | inr past ↦
      ap (λ (b : Bool). unwrap_or (cond b (Some (segment_content relseg pages seg)) None) []) (le-ltb seg (segment_count relseg (length pages)) past)
      ∙ sym (none_past relseg pages seg (past_pages relseg (length pages) seg some past))
]

-- so its pages are those of the part
pages_or_none : (relseg : ℕ) (pages : ForkPages) (seg : ℕ) → 0 < relseg → AreWhole pages → unwrap_or (option_map whole_pages (segment_in relseg seg (Some pages))) [] ≡ part relseg pages seg
pages_or_none relseg pages seg some whole = elim (cases_lt seg (segment_count relseg (length pages))) [
  | inl less ↦
      ap (λ (b : Bool). unwrap_or (option_map whole_pages (cond b (Some (segment_content relseg pages seg)) None)) []) (lt-ltb seg (segment_count relseg (length pages)) less)
      ∙ pages_again (part relseg pages seg) (recursion_from_All (λ page. length page ≡ 8192) (part relseg pages seg) (part_whole relseg pages seg whole))
  | inr past ↦
      ap (λ (b : Bool). unwrap_or (option_map whole_pages (cond b (Some (segment_content relseg pages seg)) None)) []) (le-ltb seg (segment_count relseg (length pages)) past)
      ∙ sym (ap (take relseg) (drop_all (seg * relseg) pages (past_pages relseg (length pages) seg some past)) ∙ take_all relseg [] (omega arith))
]

-- ---- what is taken of a file

taken_all : (relseg : ℕ) (found : Option ForkPages) → pages_taken relseg found ≡ take relseg (unwrap_or found [])
taken_all relseg None = sym (take_all relseg [] (omega arith))
taken_all relseg (Some pages) = refl

enough : (relseg : ℕ) (found : Option ForkPages) → 0 < relseg → relseg ≤ length (unwrap_or found []) → is_full relseg found ≡ true
enough relseg None some le = absurd (omega (arith, some, le))
enough relseg (Some pages) some le = le-leb relseg (length pages) le

too_few : (relseg : ℕ) (found : Option ForkPages) → length (unwrap_or found []) < relseg → is_full relseg found ≡ false
too_few relseg None less = refl
too_few relseg (Some pages) less = lt-leb relseg (length pages) less

-- a fork that is there has a first segment, and another one none
has_first : (relseg : ℕ) (o : Option ForkPages) → is_some o ≡ is_some (option_map whole_pages (segment_in relseg 0 o))
has_first relseg None = refl
has_first relseg (Some pages) = sym (ap (λ (b : Bool). is_some (option_map whole_pages (cond b (Some (segment_content relseg pages 0)) None))) (lt-ltb 0 (segment_count relseg (length pages)) (omega arith)))

-- so many first segments are full, and the next one isn't
full_before : (relseg blocks seg : ℕ) → seg < blocks / relseg → relseg ≤ blocks - seg * relseg
full_before relseg blocks seg less =
    let most : (seg + 1) * relseg ≤ blocks / relseg * relseg = mul-le-mul_right relseg (let le : seg + 1 ≤ blocks / relseg = omega (arith, less) in le) in
    let within : blocks / relseg * relseg ≤ blocks = div-mul-le_self blocks relseg in
    omega (arith, most, within)

rest_short : (relseg blocks : ℕ) → 0 < relseg → blocks < blocks / relseg * relseg + relseg
rest_short relseg blocks some = lt-div-mul-add some

-- ---- a fork's pages

seg_named : (fork : ForkId) (blocks seg : ℕ) → IsNamed fork blocks → seg ≤ blocks → IsNamed fork seg
seg_named fork blocks seg named le = record {
  some_db = named.some_db;
  db_fits = named.db_fits;
  some_rel = named.some_rel;
  rel_fits = named.rel_fits;
  seg_fits = omega (arith, named.seg_fits, le);
}

named_some : (fork : ForkId) (o : Option ForkPages) → is_some o ≡ true → ((pages : ForkPages) → o ≡ Some pages → IsNamed fork (length pages)) → IsNamed fork 0
named_some fork None there named = absurd cc
named_some fork (Some pages) there named = seg_named fork (length pages) 0 (named pages refl) (omega arith)

abbrev HasSegments : ℕ → Files → Store → Type 0
HasSegments relseg files store = (fork : ForkId) (seg : ℕ) → IsNamed fork seg → get files (fork_path_bytes fork seg false) ≡ get (files_of relseg store) (fork_path_bytes fork seg false)

module _ (relseg : ℕ) (files : Files) (store : Store) (some : 0 < relseg) (is : IsWritable store) (same : HasSegments relseg files store) where
  file_in : (fork : ForkId) (seg : ℕ) → IsNamed fork seg → get files (fork_path_bytes fork seg false) ≡ segment_in relseg seg (get store fork)
  file_in fork seg named = same fork seg named ∙ held relseg store fork seg some is.named named

  module _ (fork : ForkId) (pages : ForkPages) (there : get store fork ≡ Some pages) where
    segs_named : (seg : ℕ) → seg ≤ length pages → IsNamed fork seg
    segs_named seg le = seg_named fork (length pages) seg (is.named fork pages there) le

    pages_are : (seg : ℕ) → seg ≤ length pages → unwrap_or (plain_segments files fork seg) [] ≡ part relseg pages seg
    pages_are seg le =
        ap (λ (o : Option (List ℕ)). unwrap_or (option_map whole_pages o) []) (file_in fork seg (segs_named seg le) ∙ ap (segment_in relseg seg) there)
        ∙ pages_or_none relseg pages seg some (is.pages fork pages there)

    count_is : (seg : ℕ) → seg ≤ length pages → length (unwrap_or (plain_segments files fork seg) []) ≡ min relseg (length pages - seg * relseg)
    count_is seg le = ap length (pages_are seg le) ∙ part_length relseg pages seg

    taken_are : (seg : ℕ) → seg ≤ length pages → pages_taken relseg (plain_segments files fork seg) ≡ part relseg pages seg
    taken_are seg le =
        taken_all relseg (plain_segments files fork seg)
        ∙ ap (take relseg) (pages_are seg le)
        ∙ take_all relseg (part relseg pages seg) (part_few relseg pages seg)

    first_pages_are : (count : ℕ) → count ≤ length pages + 1 → pages_up_to relseg (plain_segments files fork) count ≡ take (count * relseg) pages
    first_pages_are zero le = let none : 0 * relseg ≡ 0 = omega arith in ap (λ (n : ℕ). take n pages) (sym none)
    first_pages_are (suc count) le =
        let more : suc count ≡ count + 1 = omega arith in
        let size : count * relseg + relseg ≡ suc count * relseg = omega arith in
        ap (pages_up_to relseg (plain_segments files fork)) more
        ∙ up_to_more relseg (plain_segments files fork) count
        ∙ ap (λ (l : ForkPages). l ++ pages_taken relseg (plain_segments files fork count)) (first_pages_are count (omega (arith, le)))
        ∙ ap (λ (l : ForkPages). take (count * relseg) pages ++ l) (taken_are count (omega (arith, le)))
        ∙ sym (take-add (count * relseg) relseg pages)
        ∙ ap (λ (n : ℕ). take n pages) size

    fork_held : IsForkOf relseg (plain_segments files fork) pages
    fork_held =
        let blocks : ℕ = length pages in
        let full : ℕ = blocks / relseg in
        let within : full ≤ blocks = div-le_self blocks relseg in
        let short : blocks < full * relseg + relseg = rest_short relseg blocks some in
        let size : full * relseg + relseg ≡ (full + 1) * relseg = omega arith in
        record {
          full = full;
          before = λ seg less. enough relseg (plain_segments files fork seg) some (omega (arith, count_is seg (omega (arith, less, within)), full_before relseg blocks seg less));
          stops = inl (too_few relseg (plain_segments files fork full) (omega (arith, count_is full within, short)));
          are = sym (
              ap (take most_pages) (first_pages_are (full + 1) (omega (arith, within)) ∙ take_all ((full + 1) * relseg) pages (omega (arith, short, size)))
              ∙ take_all most_pages pages (few_enough (length pages) (is.named fork pages there).seg_fits));
        }

-- ---- a store

pub store_held : StoresAreHeld
store_held relseg files store some is same = record {
  named = λ fork there. named_some fork (get store fork) there (is.named fork);
  forks = λ fork named. has_first relseg (get store fork) ∙ ap (λ (o : Option (List ℕ)). is_some (option_map whole_pages o)) (sym (file_in relseg files store some is same fork 0 named));
  pages = λ fork pages there. fork_held relseg files store some is same fork pages there;
}
