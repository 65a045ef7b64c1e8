-- Pages of a segment file that a chain is combined to, put behind those of a fork.
use Rattle.std.proofs.Common.{◌≡◌, ℕ, ◌+◌, ◌-◌, ◌*◌, ◌<◌, ◌≤◌, min, false, List, ◌++◌, length, take, drop, Option, Some, None, IfSome, sym, ap, subst, ◌∙◌, arith}
use Rattle.std.specs.Option.{option_map}
use Rattle.std.specs.FinMap.{insert}
use Rattle.std.proofs.Math.Seq.{take-add}
use Rattle.std.proofs.lemmas.List.{append-nil, append_assoc, length-append, length-take, length-drop, drop-take}
use Rattle.std.proofs.lemmas.List.Elements.{All-take, All-drop, All-from_recursion, recursion_from_All}
use Rattle.lsn_core.specs.Files.{Files}
use Rattle.lsn_core.specs.Names.{fork_path_bytes, IsNamed}
use Rattle.lsn_core.specs.Store.{Store, ForkPages}
use Rattle.lsn_core.specs.declared.ids.ForkId.{ForkId}
use Rattle.vault.specs.Area.{after_write}
use Rattle.vault.specs.declared.area.Vault.{Ghosts}
use Rattle.rel_files.proofs.Pages.{flat}
use Rattle.rel_files.proofs.Segments.{take_less}
use Rattle.chain_files.specs.Held.{most_pages, pages_taken}
use Rattle.chain_files.specs.Segments.{chain_segments, chain_pages}
use Rattle.chain_files.specs.Sources.{OfChain, AreRead, IsSourceOf, IsSourceAt}
use Rattle.chain_files.specs.declared.source.SegmentSource.{SegmentSource}
use Rattle.chain_files.proofs.Pages.{HaveSize, chain_sized}
use Rattle.chain_files.specs.Paths.{fork_folder, fork_name}
use Rattle.backup_restore.specs.Inside.{area_shows, taken, PutsPages, PutsSegment}
use Rattle.backup_restore.proofs.Chains.{when_chain, when_both}
use Rattle.backup_restore.proofs.Directories.{long_taken}
use Rattle.backup_restore.proofs.Pieces.{piece_shown}

-- ---- pages that were read, as those that are taken

-- the first pages of some, as far as they are among the first ones
first_read : (relseg : ℕ) (pages : ForkPages) (n most count : ℕ) (piece : List ℕ) → n + most ≤ relseg → AreRead pages n most piece count → AreRead (take relseg pages) n most piece count
first_read relseg pages n most count piece within read =
    let long = length-take relseg pages in
    let few : n + count ≤ relseg = omega (arith, within, read.counted) in
    let same : take count (drop n (take relseg pages)) ≡ take count (drop n pages) =
    sym (drop-take n count (take relseg pages)) ∙ ap (drop n) (take_less (n + count) relseg pages few) ∙ drop-take n count pages in
    record {
      counted = omega (arith, read.counted, long, within);
      are = read.are ∙ ap flat (sym same);
    }

taken_read : (relseg : ℕ) (found : Option ForkPages) (pages : ForkPages) (n most count : ℕ) (piece : List ℕ) → n + most ≤ relseg → found ≡ Some pages → IfSome found (λ ps. AreRead ps n most piece count) → AreRead (pages_taken relseg found) n most piece count
taken_read relseg None pages n most count piece within is read = absurd cc
taken_read relseg (Some ps) pages n most count piece within is read = first_read relseg ps n most count piece within read

-- a source that reads pages reads those that are taken
pub read_as : (told now : Option (List Files)) (fork : ForkId) (seg relseg n most count : ℕ) (source : SegmentSource) (piece : List ℕ) → now ≡ told → n + most ≤ relseg → OfChain told (λ chain. IsSourceOf chain fork seg (Some source))
    → OfChain now (λ chain. (f k : List ℕ) → IsSourceAt chain f k (Some source) → IfSome (chain_pages chain f k) (λ pages. AreRead pages n most piece count)) → OfChain told (λ chain. AreRead (taken relseg chain fork seg) n most piece count)
read_as told now fork seg relseg n most count source piece same within is read =
    when_both told (λ chain. IsSourceOf chain fork seg (Some source)) (λ chain. (f k : List ℕ) → IsSourceAt chain f k (Some source) → IfSome (chain_pages chain f k) (λ pages. AreRead pages n most piece count))
    (λ chain. AreRead (taken relseg chain fork seg) n most piece count)
    (λ chain one all. taken_read relseg (chain_segments chain fork seg) _ n most count piece within one.are (all (fork_folder fork) (fork_name fork seg) one)) is
    (subst (λ (o : Option (List Files)). OfChain o (λ chain. (f k : List ℕ) → IsSourceAt chain f k (Some source) → IfSome (chain_pages chain f k) (λ pages. AreRead pages n most piece count))) same read)

-- ---- the pages that are taken

sized_taken : (relseg : ℕ) (found : Option ForkPages) → IfSome found (HaveSize 8192) → HaveSize 8192 (pages_taken relseg found)
sized_taken relseg None sized = tt
sized_taken relseg (Some pages) sized =
    recursion_from_All (λ page. length page ≡ 8192) (take relseg pages) (All-take (λ page. length page ≡ 8192) relseg pages (All-from_recursion (λ page. length page ≡ 8192) pages sized))

more_sized : (pages : ForkPages) (n count : ℕ) → HaveSize 8192 pages → HaveSize 8192 (take count (drop n pages))
more_sized pages n count sized =
    recursion_from_All (λ page. length page ≡ 8192) (take count (drop n pages))
    (All-take (λ page. length page ≡ 8192) count (drop n pages) (All-drop (λ page. length page ≡ 8192) n pages (All-from_recursion (λ page. length page ≡ 8192) pages sized)))

-- so many pages of the file were put
pub record KeepsSegment {P : Type 0} (shows : P → Store → Type 0) (relseg : ℕ) (told : Option (List Files)) (fork : ForkId) (seg first most : ℕ) (before behind : P) (count : ℕ) : Type 0 where
  pub put : OfChain told (λ chain. PutsPages shows relseg chain fork seg first before behind count)
  pub held : OfChain told (λ chain. count ≤ length (taken relseg chain fork seg))
  pub within : count ≤ most

all_held : (relseg long count left : ℕ) → count ≤ min relseg left → count ≤ long → long ≤ count → count ≡ min long left
all_held relseg long count left few held ends = omega (arith, few, held, ends)

all_most : (relseg long count left : ℕ) → count ≡ min relseg left → count ≤ long → long ≤ relseg → count ≡ min long left
all_most relseg long count left is held most = omega (arith, is, held, most)

module _ {V : Type 0} (g : Ghosts V) (relseg : ℕ) (told : Option (List Files)) (fork : ForkId) (seg first most : ℕ) where
  none_put : (chain : List Files) (p : V) → PutsPages (area_shows g relseg) relseg chain fork seg first p p 0
  none_put chain p pages long s shown = subst (λ (l : ForkPages). area_shows g relseg p (insert s fork l)) (sym (append-nil pages)) shown

  -- a file that isn't there has no pages
  pub none_there : (p : V) → OfChain told (λ chain. IsSourceOf chain fork seg None) → PutsSegment (area_shows g relseg) relseg told fork seg first p p 0
  none_there p none = record {
    put = when_chain told (λ chain. IsSourceOf chain fork seg None) (λ chain. PutsPages (area_shows g relseg) relseg chain fork seg first p p 0) (λ chain is. none_put chain p) none;
    all = when_chain told (λ chain. IsSourceOf chain fork seg None) (λ chain. 0 ≡ min (length (taken relseg chain fork seg)) (most_pages - first))
        (λ chain is. let no_pages : length (taken relseg chain fork seg) ≡ 0 = ap (λ (o : Option ForkPages). length (pages_taken relseg o)) is in omega (arith, no_pages)) none;
    few = omega arith;
    within = omega arith;
  }

  pub segment_begun : (p : V) (source : SegmentSource) → OfChain told (λ chain. IsSourceOf chain fork seg (Some source)) → KeepsSegment (area_shows g relseg) relseg told fork seg first most p p 0
  segment_begun p source is = record {
    put = when_chain told (λ chain. IsSourceOf chain fork seg (Some source)) (λ chain. PutsPages (area_shows g relseg) relseg chain fork seg first p p 0) (λ chain one. none_put chain p) is;
    held = when_chain told (λ chain. IsSourceOf chain fork seg (Some source)) (λ chain. 0 ≤ length (taken relseg chain fork seg)) (λ chain one. omega arith) is;
    within = omega arith;
  }

  piece_put : (chain : List Files) (a b c : V) (count got : ℕ) (piece : List ℕ) → 0 < relseg → IsNamed fork seg → first ≡ seg * relseg → 0 < got → count + got ≤ length (taken relseg chain fork seg) → first + (count + got) ≤ 4294967295 → piece ≡ flat (take got (drop count (taken relseg chain fork seg)))
      → g.files c ≡ option_map (after_write (fork_path_bytes fork seg false) (count * 8192) piece) (g.files b) → PutsPages (area_shows g relseg) relseg chain fork seg first a b count → PutsPages (area_shows g relseg) relseg chain fork seg first a c (count + got)
  piece_put chain a b c count got piece some named place one within fits spelled written put pages long s shown =
      let all : ForkPages = taken relseg chain fork seg in
      let old : ForkPages = pages ++ take count all in
      let more : ForkPages = take got (drop count all) in
      let few : length all ≤ relseg = long_taken relseg (chain_segments chain fork seg) in
      let size : length old ≡ first + count = length-append pages (take count all) ∙ (let first_long = length-take count all in omega (arith, long, first_long, within)) in
      let long_more : length more ≡ got = length-take got (drop count all) ∙ (let rest = length-drop count all in omega (arith, rest, within)) in
      let next = piece_shown relseg fork seg some named (g.files b) (g.files c) more s old count
      (written ∙ ap (λ (p : List ℕ). option_map (after_write (fork_path_bytes fork seg false) (count * 8192) p) (g.files b)) spelled)
      (omega (arith, long_more, one)) (omega (arith, long_more, within, few)) (size ∙ omega (arith, place)) (omega (arith, long_more, size, fits))
      (more_sized all count got (sized_taken relseg (chain_segments chain fork seg) (chain_sized chain (fork_folder fork) (fork_name fork seg)))) (put pages long s shown) in
      subst (λ (l : ForkPages). area_shows g relseg c (insert s fork l))
      (append_assoc pages (take count all) more ∙ ap (λ (l : ForkPages). pages ++ l) (sym (take-add count got all))) next

  pub segment_grown : (a b c : V) (count asked got : ℕ) (piece : List ℕ) → 0 < relseg → IsNamed fork seg → first ≡ seg * relseg → most ≡ min relseg (4294967295 - first) → count + asked ≤ most → 0 < got → got ≤ asked → OfChain told (λ chain. AreRead (taken relseg chain fork seg) count asked piece got)
      → g.files c ≡ option_map (after_write (fork_path_bytes fork seg false) (count * 8192) (take (got * 8192) piece)) (g.files b) → KeepsSegment (area_shows g relseg) relseg told fork seg first most a b count → KeepsSegment (area_shows g relseg) relseg told fork seg first most a c (count + got)
  segment_grown a b c count asked got piece some named place most_is few one less read written kept = record {
    put = when_both told (λ chain. PutsPages (area_shows g relseg) relseg chain fork seg first a b count) (λ chain. AreRead (taken relseg chain fork seg) count asked piece got) (λ chain. PutsPages (area_shows g relseg) relseg chain fork seg first a c (count + got))
        (λ chain put is. piece_put chain a b c count got (take (got * 8192) piece) some named place one (omega (arith, is.counted, one)) (omega (arith, less, few, most_is, one)) is.are written put) kept.put read;
    held = when_chain told (λ chain. AreRead (taken relseg chain fork seg) count asked piece got) (λ chain. count + got ≤ length (taken relseg chain fork seg)) (λ chain is. omega (arith, is.counted, one)) read;
    within = omega (arith, few, less);
  }

  pub segment_ended : (a b : V) (count asked got : ℕ) (piece : List ℕ) → most ≡ min relseg (4294967295 - first) → 0 < asked → got ≡ 0 → OfChain told (λ chain. AreRead (taken relseg chain fork seg) count asked piece got)
      → KeepsSegment (area_shows g relseg) relseg told fork seg first most a b count → PutsSegment (area_shows g relseg) relseg told fork seg first a b count
  unfolding most_pages
  segment_ended a b count asked got piece most_is some none read kept =
      let few : count ≤ min relseg (4294967295 - first) = omega (arith, most_is, kept.within) in
      record {
        put = kept.put;
        all = when_both told (λ chain. count ≤ length (taken relseg chain fork seg)) (λ chain. AreRead (taken relseg chain fork seg) count asked piece got) (λ chain. count ≡ min (length (taken relseg chain fork seg)) (4294967295 - first))
            (λ chain held is. all_held relseg (length (taken relseg chain fork seg)) count (4294967295 - first) few held (omega (arith, is.counted, some, none))) kept.held read;
        few = omega (arith, few);
        within = omega (arith, few);
      }

  pub segment_filled : (a b : V) (count : ℕ) → most ≡ min relseg (4294967295 - first) → most ≤ count → KeepsSegment (area_shows g relseg) relseg told fork seg first most a b count → PutsSegment (area_shows g relseg) relseg told fork seg first a b count
  unfolding most_pages
  segment_filled a b count most_is least kept =
      let is : count ≡ min relseg (4294967295 - first) = omega (arith, most_is, least, kept.within) in
      record {
        put = kept.put;
        all = when_chain told (λ chain. count ≤ length (taken relseg chain fork seg)) (λ chain. count ≡ min (length (taken relseg chain fork seg)) (4294967295 - first))
            (λ chain held. all_most relseg (length (taken relseg chain fork seg)) count (4294967295 - first) is held (long_taken relseg (chain_segments chain fork seg))) kept.held;
        few = omega (arith, is);
        within = omega (arith, is);
      }
