-- A store that is held by files that have what stays has it.
use Rattle.std.proofs.Common.{◌≡◌, ℕ, suc, ◌+◌, ◌-◌, ◌*◌, ◌/◌, ◌%◌, ◌<◌, ◌≤◌, ⊎_elim, min, true, false, List, [], length, take, drop, Option, Some, None, is_some, refl, sym, ap, subst, ◌∙◌, arith, length-take, length-drop}
use Rattle.std.specs.Prelude.{slice_get}
use Rattle.std.specs.List.{All}
use Rattle.std.specs.FinMap.{get, contains_key}
use Rattle.std.proofs.lemmas.Bool.Decides.{leb_tells}
use Rattle.std.proofs.lemmas.Option.{slice_get_within, slice_get_past, get_or_from_slice_get}
use Rattle.std.proofs.lemmas.List.Elements.{All-get_or}
use Rattle.std.proofs.lemmas.Grind.{same_number_lists}
use Rattle.std.proofs.lemmas.Nat.{div-add-mod'}
use Rattle.std.proofs.Math.Nat.{mod-lt}
use Rattle.lsn_core.specs.byte_words.Numbers.{◌>>=◌}
use Rattle.lsn_core.specs.declared.ids.ForkId.{ForkId}
use Rattle.lsn_core.specs.Files.{Files}
use Rattle.lsn_core.specs.Names.{IsNamed}
use Rattle.lsn_core.specs.Store.{Store, ForkPages}
use Rattle.rel_files.specs.Forks.{whole_pages, Holds, HasWholePages}
use Rattle.rel_files.proofs.SegmentFiles.{renamed, less_by, first_file_tells, block_is_read}
use Rattle.rel_files.proofs.WholePages.{whole_all}
use Rattle.stop_areas.specs.Left.{segment_of, HasPage, LacksPage}
use Rattle.stop_areas.specs.Laws.{LeftIsHeld}
use Rattle.stop_areas.proofs.Sizes.{in_fork, size_named, bytes_missing, not_further, part_byte}

-- how far a block's file goes where the fork has the block
far_enough : (relseg b len : ℕ) → 0 < relseg → b < len → b % relseg * 8192 + 8192 ≤ min relseg (len - b / relseg * relseg) * 8192
far_enough relseg b len some l =
    let parts = div-add-mod' b relseg in
    let small = mod-lt b some in
    let few : b % relseg + 1 ≤ min relseg (len - b / relseg * relseg) = omega (arith, parts, small, l) in
    omega (arith, few)

-- a page that stands in the files
page_is : (relseg : ℕ) (files : Files) (held : Store) (fork : ForkId) (block : ℕ) (page : List ℕ) (o : Option ForkPages) → 0 < relseg → Holds relseg files held → HasWholePages held → IsNamed fork (block / relseg) → length page ≡ 8192 → get held fork ≡ o → HasPage relseg files fork block page
    → (o >>= λ ps. slice_get ps block) ≡ Some page
page_is relseg files held fork block page None some holds whole named size e has =
    let none = ap length (bytes_missing relseg files held fork (block / relseg) holds e named) in
    let room = has.room in
    absurd (omega (arith, none, room))
page_is relseg files held fork block page (Some pages) some holds whole named size e has =
    let room = has.room in
    let long = size_named relseg files held fork pages (block / relseg) some holds whole e named in
    let inside : block < length pages =
    ⊎_elim (λ x. x.1) (λ x. let most = not_further relseg block (length pages) some (omega (arith, x.1)) in absurd (omega (arith, room, long, most))) (leb_tells (suc block) (length pages)) in
    let all : length (whole_pages pages) ≡ length pages = ap length (whole_all pages (whole fork pages e)) in
    let read = block_is_read relseg files held fork pages block some holds e (omega (arith, inside, all)) in
    let place = block % relseg * 8192 in
    let bytes = segment_of files fork (block / relseg) in
    let part = take 8192 (drop place bytes) in
    let part_size : length part ≡ 8192 = let a = length-take 8192 (drop place bytes) in let b = length-drop place bytes in omega (arith, a, b, room) in
    let same : part ≡ page = same_number_lists part page (part_size ∙ sym size) (λ i less. let l : i < 8192 = omega (arith, less, part_size) in part_byte bytes place i l ∙ has.bytes i l) in
    sym (ap (λ (o : Option ForkPages). o >>= λ ps. slice_get ps block) e) ∙ read.block ∙ ap (λ (l : List ℕ). Some l) same

-- and a block at whose place nothing stands
none_is : (relseg : ℕ) (files : Files) (held : Store) (fork : ForkId) (block : ℕ) (o : Option ForkPages) → 0 < relseg → Holds relseg files held → HasWholePages held → get held fork ≡ o → (IsNamed fork (block / relseg) → LacksPage relseg files fork block)
    → (o >>= λ ps. slice_get ps block) ≡ None
none_is relseg files held fork block None some holds whole e lacks = refl
none_is relseg files held fork block (Some pages) some holds whole e lacks =
    slice_get_past pages block (⊎_elim (λ x. x.1) (λ x.
    let l : block < length pages = omega (arith, x.1) in
    let named = holds.named fork pages e in
    let long = named.seg_fits in
    let few = less_by block relseg some in
    let here = renamed fork (length pages) (block / relseg) named (omega (arith, l, long, few)) in
    let size = size_named relseg files held fork pages (block / relseg) some holds whole e here in
    let room = far_enough relseg block (length pages) some l in
    let lack = lacks here in
    absurd (omega (arith, size, room, lack)))
    (leb_tells (length pages) block))

size_at : (pages : ForkPages) (block : ℕ) (page : List ℕ) → All (λ p. length p ≡ 8192) pages → slice_get pages block ≡ Some page → length page ≡ 8192
size_at pages block page all at = subst (λ (p : List ℕ). length p ≡ 8192) (get_or_from_slice_get pages block page [] at) (All-get_or (λ (p : List ℕ). length p ≡ 8192) pages block [] (slice_get_within pages block page at) all)

pub left_held : LeftIsHeld
left_held relseg base held files some names whole_store holds whole left = record {
  pages = λ fork block page stays. in_fork (get base.store fork) block page stays.there (λ pages there at.
      let named = names fork pages there in
      let inside = slice_get_within pages block page at in
      let long = named.seg_fits in
      let few = less_by block relseg some in
      let here = renamed fork (length pages) (block / relseg) named (omega (arith, inside, long, few)) in
      page_is relseg files held fork block page (get held fork) some holds whole here (size_at pages block page (whole_store fork pages there) at) refl (left.pages fork block page here stays));
  missing = λ fork block stays. none_is relseg files held fork block (get held fork) some holds whole refl (λ here. left.missing fork block here stays);
  forks = λ fork ours unsettled. by fork ours unsettled (get held fork) (get base.store fork) refl refl;
}
  where
    told : (fork : ForkId) → IsNamed fork 0 → base.ours fork ≡ true → base.settled fork ≡ false → contains_key held fork ≡ contains_key base.store fork
    told fork named ours unsettled = sym (first_file_tells relseg files held fork some holds named) ∙ left.forks fork named ours unsettled

    -- a fork without a path is in neither store
    by : (fork : ForkId) → base.ours fork ≡ true → base.settled fork ≡ false → (o p : Option ForkPages) → get held fork ≡ o → get base.store fork ≡ p → contains_key held fork ≡ contains_key base.store fork
    by fork ours unsettled None None e f = ap (λ (o : Option ForkPages). is_some o) (e ∙ sym f)
    by fork ours unsettled None (Some pages) e f = told fork (renamed fork (length pages) 0 (names fork pages f) (omega arith)) ours unsettled
    by fork ours unsettled (Some pages) p e f = told fork (renamed fork (length pages) 0 (holds.named fork pages e) (omega arith)) ours unsettled
