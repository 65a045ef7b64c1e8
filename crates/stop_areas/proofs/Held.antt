-- Files that hold a store have what stays of it, and a stop leaves it where they are durable.
use Rattle.std.proofs.Common.{◌≡◌, ℕ, ◌-◌, ◌*◌, ◌/◌, ◌%◌, ◌<◌, min, Bool, List, length, take, drop, get_or, Option, Some, None, refl, sym, ap, subst, ◌∙◌, arith}
use Rattle.std.specs.Prelude.{slice_get}
use Rattle.std.specs.FinMap.{get, contains_key}
use Rattle.std.proofs.lemmas.Option.{slice_get_within}
use Rattle.std.proofs.lemmas.Nat.{div-add-mod'}
use Rattle.lsn_core.specs.byte_words.Numbers.{◌>>=◌}
use Rattle.lsn_core.specs.declared.ids.ForkId.{ForkId}
use Rattle.lsn_core.specs.Files.{Files}
use Rattle.lsn_core.specs.Names.{IsNamed}
use Rattle.lsn_core.specs.Store.{Store, ForkPages}
use Rattle.lsn_core.specs.Blocks.{block_of}
use Rattle.vault.specs.Stops.{Event}
use Rattle.vault.specs.Frame.{LeavesNow}
use Rattle.rel_files.specs.Forks.{whole_pages, Holds, HasWholePages}
use Rattle.rel_files.proofs.Segments.{below}
use Rattle.rel_files.proofs.SegmentFiles.{renamed, first_file_tells, block_is_read}
use Rattle.rel_files.proofs.WholePages.{whole_all}
use Rattle.stop_areas.specs.Left.{Base, Stays, StaysMissing, segment_of, HasPage, LacksPage, IsLeftOf, ChangesMore}
use Rattle.stop_areas.specs.Laws.{HeldIsLeft, DurableIsLeft, MoreIsLeft}
use Rattle.stop_areas.proofs.Sizes.{in_fork, short_of, size_named, bytes_missing, not_further, part_byte}

-- a block that is there in files that hold whole pages
has_page : (relseg : ℕ) (files : Files) (held : Store) (fork : ForkId) (pages : ForkPages) (block : ℕ) (page : List ℕ) → 0 < relseg → Holds relseg files held → HasWholePages held → get held fork ≡ Some pages → slice_get pages block ≡ Some page → IsNamed fork (block / relseg)
    → HasPage relseg files fork block page
has_page relseg files held fork pages block page some holds whole there at named =
    let inside = slice_get_within pages block page at in
    let all : length (whole_pages pages) ≡ length pages = ap length (whole_all pages (whole fork pages there)) in
    let read = block_is_read relseg files held fork pages block some holds there (omega (arith, inside, all)) in
    let place = block % relseg * 8192 in
    let bytes = segment_of files fork (block / relseg) in
    let is : block_of held fork block ≡ Some page = ap (λ (o : Option ForkPages). o >>= λ ps. slice_get ps block) there ∙ at in
    let same : page ≡ take 8192 (drop place bytes) = one page (take 8192 (drop place bytes)) (sym is ∙ read.block) in
    record {
      full = λ seg less.
          let fits = named.seg_fits in
          let size = size_named relseg files held fork pages seg some holds whole there (renamed fork (block / relseg) seg named (omega (arith, less, fits))) in
          let order = below seg (block / relseg) relseg less in
          let parts = div-add-mod' block relseg in
          let full : min relseg (length pages - seg * relseg) ≡ relseg = omega (arith, inside, order, parts) in
          omega (arith, size, full);
      room = read.room;
      bytes = λ i less. sym (part_byte bytes place i less) ∙ ap (λ (l : List ℕ). get_or l i 0) (sym same);
    }
  where
    one : (a b : List ℕ) → Some a ≡ Some b → a ≡ b
    one a b e = cc

lacks_page : (relseg : ℕ) (files : Files) (held : Store) (fork : ForkId) (block : ℕ) (o : Option ForkPages) → 0 < relseg → Holds relseg files held → HasWholePages held → get held fork ≡ o → (o >>= λ ps. slice_get ps block) ≡ None → IsNamed fork (block / relseg)
    → LacksPage relseg files fork block
lacks_page relseg files held fork block None some holds whole e none named =
    let size = ap length (bytes_missing relseg files held fork (block / relseg) holds e named) in omega (arith, size)
lacks_page relseg files held fork block (Some pages) some holds whole e none named =
    let size = size_named relseg files held fork pages (block / relseg) some holds whole e named in
    let most = not_further relseg block (length pages) some (short_of pages block none) in
    omega (arith, size, most)

pub held_left : HeldIsLeft
held_left relseg base held files some holds whole has = record {
  pages = λ fork block page named stays.
      in_fork (get held fork) block page (has.pages fork block page stays) (λ pages there at.
      has_page relseg files held fork pages block page some holds whole there at named);
  missing = λ fork block named stays. lacks_page relseg files held fork block (get held fork) some holds whole refl (has.missing fork block stays) named;
  forks = λ fork named ours unsettled. first_file_tells relseg files held fork some holds named ∙ has.forks fork ours unsettled;
}

-- ---- after a sync

durable_now : (relseg : ℕ) (base : Base) (files : Files) (past : Option (List Event)) → IsLeftOf relseg base files → LeavesNow (λ left. left ≡ files) past → LeavesNow (IsLeftOf relseg base) past
durable_now relseg base files None has durable = tt
durable_now relseg base files (Some events) has durable = λ c left. subst (IsLeftOf relseg base) (sym (durable c left)) has

pub durable_left : DurableIsLeft
durable_left relseg base None past durable has = tt
durable_left relseg base (Some files) past durable has = durable_now relseg base files past has durable

-- ---- with more flushed

pub less_stays : (relseg : ℕ) (base more : Base) (files : Files) → ChangesMore base more → IsLeftOf relseg base files → IsLeftOf relseg more files
less_stays relseg base more files changes left = record {
  pages = λ fork block page named stays. left.pages fork block page named (stays_before fork block page stays);
  missing = λ fork block named stays. left.missing fork block named (missing_before fork block stays);
  forks = λ fork named ours unsettled.
      left.forks fork named (sym (same_ours fork) ∙ ours) (changes.settled fork unsettled) ∙ sym (ap (λ (s : Store). contains_key s fork) changes.store);
}
  where
    same_ours : (fork : ForkId) → more.ours fork ≡ base.ours fork
    same_ours fork = ap (λ (f : ForkId → Bool). f fork) changes.ours

    stays_before : (fork : ForkId) (block : ℕ) (page : List ℕ) → Stays more fork block page → Stays base fork block page
    stays_before fork block page stays = record {
      ours = sym (same_ours fork) ∙ stays.ours;
      kept = changes.changed fork block stays.kept;
      there = sym (ap (λ (s : Store). block_of s fork block) changes.store) ∙ stays.there;
    }

    missing_before : (fork : ForkId) (block : ℕ) → StaysMissing more fork block → StaysMissing base fork block
    missing_before fork block stays = record {
      ours = sym (same_ours fork) ∙ stays.ours;
      kept = changes.changed fork block stays.kept;
      none = sym (ap (λ (s : Store). block_of s fork block) changes.store) ∙ stays.none;
    }

pub more_left : MoreIsLeft
more_left relseg base more None changes left = tt
more_left relseg base more (Some events) changes left = λ c may. less_stays relseg base more c changes (left c may)
