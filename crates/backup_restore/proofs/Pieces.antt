-- A piece of pages written behind those of a fork, in the segment file where they stand.
use Rattle.std.proofs.Common.{◌≡◌, ℕ, ◌+◌, ◌-◌, ◌*◌, ◌/◌, ◌%◌, ◌<◌, ◌≤◌, false, List, [], ◌∷◌, ◌++◌, length, drop, replicate, Option, unwrap_or, refl, sym, ap, subst, ◌∙◌, arith}
use Rattle.std.specs.Option.{option_map}
use Rattle.std.specs.FinMap.{insert}
use Rattle.std.proofs.lemmas.List.{append-nil, append_assoc, length-append, take_all, drop_all}
use Rattle.std.proofs.lemmas.List.Elements.{recursion_from_All}
use Rattle.std.proofs.lemmas.Nat.{div-mul-add, mod-mul-add}
use Rattle.lsn_core.specs.byte_words.Pieces.{overwritten}
use Rattle.lsn_core.specs.Blocks.{with_page, pages_of}
use Rattle.lsn_core.specs.Files.{Files}
use Rattle.lsn_core.specs.Names.{fork_path_bytes, IsNamed}
use Rattle.lsn_core.specs.Store.{Store, ForkPages, segment_content, segment_in}
use Rattle.lsn_core.specs.declared.ids.ForkId.{ForkId}
use Rattle.vault.specs.Area.{bytes_of, after_write, file_written}
use Rattle.rel_files.specs.Forks.{Holds, HasWholePages, whole_pages}
use Rattle.rel_files.proofs.ForkStores.{get_here}
use Rattle.rel_files.proofs.Pages.{flat}
use Rattle.rel_files.proofs.SegmentChanges.{block_is_put, written_here, written_there, same_files}
use Rattle.rel_files.proofs.SegmentFiles.{renamed}
use Rattle.rel_files.proofs.WholePages.{AreWhole, whole_all, put_whole}
use Rattle.chain_files.proofs.Pages.{HaveSize, bytes_length}
use Rattle.backup_restore.specs.Inside.{IsShownIn}
use Rattle.backup_restore.proofs.Behind.{put_behind}
use Rattle.backup_restore.proofs.WrittenStores.{part, part_length, part_whole, content_or_none}

-- ---- a write behind the end of a file

written_behind : (bytes piece : List ℕ) (at : ℕ) → at ≡ length bytes → file_written bytes at piece ≡ bytes ++ piece
written_behind bytes [] at e = sym (append-nil bytes)
written_behind bytes (b ∷ bs) at e =
    let none : at - length bytes ≡ 0 = omega (arith, e) in
    ap (λ (n : ℕ). overwritten (bytes ++ replicate n 0) at (b ∷ bs)) none
    ∙ ap (λ (x : List ℕ). overwritten x at (b ∷ bs)) (append-nil bytes)
    ∙ ap (λ (x : List ℕ). x ++ ((b ∷ bs) ++ drop (at + length (b ∷ bs)) bytes)) (take_all at bytes (omega (arith, e)))
    ∙ ap (λ (x : List ℕ). bytes ++ ((b ∷ bs) ++ x)) (drop_all (at + length (b ∷ bs)) bytes (omega (arith, e)))
    ∙ ap (λ (x : List ℕ). bytes ++ x) (append-nil (b ∷ bs))

insert_again : (m : Files) (name first second : List ℕ) → insert (insert m name first) name second ≡ insert m name second
insert_again m name first second =
    same_files name (insert m name second) (insert (insert m name first) name second)
    (λ q other. written_there (insert m name first) name second q other ∙ written_there m name first q other ∙ sym (written_there m name second q other))
    (written_here (insert m name first) name second ∙ sym (written_here m name second))

behind_file : (m : Files) (name piece : List ℕ) (at : ℕ) → at ≡ length (bytes_of m name) → after_write name at piece m ≡ insert m name (bytes_of m name ++ piece)
behind_file m name piece at e = ap (insert m name) (written_behind (bytes_of m name) piece at e)

-- two writes, one behind the other, are one of both pieces
two_writes : (m : Files) (name first second : List ℕ) (at next : ℕ) → at ≡ length (bytes_of m name) → next ≡ at + length first → after_write name next second (after_write name at first m) ≡ after_write name at (first ++ second) m
two_writes m name first second at next e f =
    let bytes : List ℕ = bytes_of m name in
    let here : bytes_of (insert m name (bytes ++ first)) name ≡ bytes ++ first = ap (λ (o : Option (List ℕ)). unwrap_or o []) (written_here m name (bytes ++ first)) in
    let long : length (bytes ++ first) ≡ length bytes + length first = length-append bytes first in
    ap (after_write name next second) (behind_file m name first at e)
    ∙ behind_file (insert m name (bytes ++ first)) name second next (omega (arith, e, f, long) ∙ ap length (sym here))
    ∙ ap (λ (x : List ℕ). insert (insert m name (bytes ++ first)) name (x ++ second)) here
    ∙ insert_again m name (bytes ++ first) ((bytes ++ first) ++ second)
    ∙ ap (insert m name) (append_assoc bytes first second)
    ∙ sym (behind_file m name (first ++ second) at e)

-- ---- pages written behind those of a fork

module _ (relseg : ℕ) (fork : ForkId) (seg : ℕ) (some : 0 < relseg) (named : IsNamed fork seg) where
  abbrev path : List ℕ
  path = fork_path_bytes fork seg false

  -- files hold a store, of which a fork has so many pages, the last ones in this file
  record IsHeldTo (m : Files) (s : Store) (pages : ForkPages) (n : ℕ) : Type 0 where
    place : length pages ≡ seg * relseg + n
    holds : Holds relseg m (insert s fork pages)
    whole : HasWholePages (insert s fork pages)

  file_length : (m : Files) (s : Store) (pages : ForkPages) (n : ℕ) → n ≤ relseg → IsHeldTo m s pages n → n * 8192 ≡ length (bytes_of m path)
  file_length m s pages n few held =
      let there = get_here s fork pages in
      let all : AreWhole pages = held.whole fork pages there in
      let bytes : bytes_of m path ≡ segment_content relseg pages seg =
      ap (λ (o : Option (List ℕ)). unwrap_or o []) (held.holds.segments fork seg named ∙ ap (segment_in relseg seg) there) ∙ content_or_none relseg pages seg some in
      let count = part_length relseg pages seg in
      let size : length (flat (part relseg pages seg)) ≡ length (part relseg pages seg) * 8192 = bytes_length 8192 (part relseg pages seg) (recursion_from_All (λ page. length page ≡ 8192) (part relseg pages seg) (part_whole relseg pages seg all)) in
      let long : n * 8192 ≡ length (segment_content relseg pages seg) = omega (arith, size, count, held.place, few) in
      long ∙ ap length (sym bytes)

  one_page : (m : Files) (s : Store) (pages : ForkPages) (n : ℕ) (page : List ℕ) → n < relseg → length pages < 4294967295 → length page ≡ 8192 → IsHeldTo m s pages n → IsHeldTo (after_write path (n * 8192) page m) s (pages ++ (page ∷ [])) (n + 1)
  one_page m s pages n page less fits size held =
      let b : ℕ = length pages in
      let store : Store = insert s fork pages in
      let there = get_here s fork pages in
      let here : pages_of store fork ≡ pages = ap (λ (o : Option ForkPages). unwrap_or o []) there in
      let count : length (whole_pages (pages_of store fork)) ≡ b = ap (λ (ps : ForkPages). length (whole_pages ps)) here ∙ ap length (whole_all pages (held.whole fork pages there)) in
      let file : b / relseg ≡ seg = ap (λ (k : ℕ). k / relseg) held.place ∙ div-mul-add seg relseg n less in
      let at : b % relseg ≡ n = ap (λ (k : ℕ). k % relseg) held.place ∙ mod-mul-add seg relseg n less in
      let after : with_page store fork b page ≡ insert s fork (pages ++ (page ∷ [])) = put_behind s (record { fork = fork; block = b }) pages page refl in
      let put = block_is_put relseg m store fork b page some held.holds (renamed fork seg 0 named (omega arith)) (omega (arith, count)) (omega (arith, fits)) size in
      record {
        place = length-append pages (page ∷ []) ∙ omega (arith, held.place);
        holds =
            subst (λ (t : Store). Holds relseg (after_write path (n * 8192) page m) t) after
            (subst (λ (k : ℕ). Holds relseg (after_write (fork_path_bytes fork k false) (n * 8192) page m) (with_page store fork b page)) file
            (subst (λ (k : ℕ). Holds relseg (after_write (fork_path_bytes fork (b / relseg) false) (k * 8192) page m) (with_page store fork b page)) at put));
        whole = subst HasWholePages after (put_whole store fork b page held.whole size);
      }

  pages_written : (more : ForkPages) (m : Files) (s : Store) (pages : ForkPages) (n : ℕ) → 0 < length more → n + length more ≤ relseg → length pages + length more ≤ 4294967295 → HaveSize 8192 more → IsHeldTo m s pages n
      → IsHeldTo (after_write path (n * 8192) (flat more) m) s (pages ++ more) (n + length more)
  pages_written [] m s pages n one few fits sizes held = absurd (omega (arith, one))
  pages_written (page ∷ []) m s pages n one few fits sizes held =
      subst (λ (bytes : List ℕ). IsHeldTo (after_write path (n * 8192) bytes m) s (pages ++ (page ∷ [])) (n + 1)) (sym (append-nil page))
      (one_page m s pages n page (omega (arith, few)) (omega (arith, fits)) sizes.0 held)
  pages_written (page ∷ (next ∷ more)) m s pages n one few fits sizes held =
      let first = one_page m s pages n page (omega (arith, few)) (omega (arith, fits)) sizes.0 held in
      let long = length-append pages (page ∷ []) in
      let rest = pages_written (next ∷ more) (after_write path (n * 8192) page m) s (pages ++ (page ∷ [])) (n + 1) (omega arith) (omega (arith, few)) (omega (arith, fits, long)) sizes.1 first in
      let count : n + 1 + length (next ∷ more) ≡ n + length (page ∷ (next ∷ more)) = omega arith in
      let files = two_writes m path page (flat (next ∷ more)) (n * 8192) ((n + 1) * 8192) (file_length m s pages n (omega (arith, few)) held) (omega (arith, sizes.0)) in
      subst (λ (k : ℕ). IsHeldTo (after_write path (n * 8192) (flat (page ∷ (next ∷ more))) m) s (pages ++ (page ∷ (next ∷ more))) k) count
      (subst (λ (f : Files). IsHeldTo f s (pages ++ (page ∷ (next ∷ more))) (n + 1 + length (next ∷ more))) files
      (subst (λ (ps : ForkPages). IsHeldTo (after_write path ((n + 1) * 8192) (flat (next ∷ more)) (after_write path (n * 8192) page m)) s ps (n + 1 + length (next ∷ more))) (append_assoc pages (page ∷ []) (next ∷ more)) rest))

  -- the same of files that may be told
  pub piece_shown : (x y : Option Files) (more : ForkPages) (s : Store) (pages : ForkPages) (n : ℕ) → y ≡ option_map (after_write path (n * 8192) (flat more)) x → 0 < length more → n + length more ≤ relseg → length pages ≡ seg * relseg + n
      → length pages + length more ≤ 4294967295 → HaveSize 8192 more → IsShownIn relseg x (insert s fork pages) → IsShownIn relseg y (insert s fork (pages ++ more))
  piece_shown x y more s pages n is one few place fits sizes shown =
      let held = pages_written more shown.files.files s pages n one few fits sizes (record { place = place; holds = shown.files.hold; whole = shown.whole }) in
      record {
        files = record {
          files = after_write path (n * 8192) (flat more) shown.files.files;
          are_told = is ∙ ap (option_map (after_write path (n * 8192) (flat more))) shown.files.are_told;
          hold = held.holds;
        };
        whole = held.whole;
      }
