-- The files of a fork, segment behind segment.
use Rattle.std.proofs.Common.{◌≡◌, ℕ, ◌+◌, ◌*◌, ◌-◌, ◌^◌, ◌<◌, ◌≤◌, min, ◌⊎◌, false, List, [], ◌∷◌, ◌++◌, map, length, take, drop, Option, Some, None, zero, suc, refl, sym, ap, subst, ◌∙◌, arith, inl, inr}
use Rattle.std.specs.List.{AllByRecursion, range_with_len}
use Rattle.std.specs.Option.{option_map}
use Rattle.std.proofs.lemmas.Bool.{false_from_ne_true}
use Rattle.std.proofs.lemmas.List.{append-nil, append_assoc, take_all}
use Rattle.std.proofs.lemmas.List.FromFn.{map-range_with_len_more}
use mathlib.Core.List.{IsPrefix}
use Rattle.lsn_core.specs.Files.{Files}
use Rattle.lsn_core.specs.Names.{fork_path_bytes, IsNamed}
use Rattle.lsn_core.specs.Store.{ForkPages, segment_content, segment_count, with_files}
use Rattle.lsn_core.specs.declared.ids.ForkId.{ForkId}
use Rattle.lsn_core.specs.declared.ids.ForkLen.{ForkLen}
use Rattle.lsn_core.proofs.AnyAll.{all_range}
use Rattle.lsn_core.proofs.ForkPaths.{one_place}
use Rattle.lsn_core.proofs.StoreFiles.{same_name, names_tie, with_files-append}
use Rattle.rel_files.proofs.Segments.{below, has_segment, segments_hold}
use Rattle.history.specs.Entry.{Entry}
use Rattle.manifest.specs.declared.listing.FileRow.{FileRow}
use Rattle.backup_files.specs.Area.{Lacks, with_file}
use Rattle.backup_files.specs.Directory.{row_of}
use Rattle.backup_files.specs.Rows.{row_with}
use Rattle.backup_sending.specs.Inside.{AreCopies, WritesCopies, LacksFork, PutsFiles, PutsSegment, PutsFork, first_files, page_bytes}
use Rattle.backup_sending.proofs.PageLists.{copies_none, copies_more, bytes_length}
use Rattle.backup_files.proofs.Appended.{absent}

-- ---- files put into an area, and listed

map-append : {A B : Type 0} (f : A → B) (xs ys : List A) → map f (xs ++ ys) ≡ map f xs ++ map f ys
map-append f [] ys = refl
map-append {B = B} f (x ∷ xs) ys = ap (λ (l : List B). f x ∷ l) (map-append f xs ys)

put_nothing : (o : Option Files) → o ≡ option_map (λ m. with_files m []) o
put_nothing None = refl
put_nothing (Some m) = refl

put_both : (o : Option Files) (xs ys : List (List ℕ × List ℕ)) → option_map (λ m. with_files m ys) (option_map (λ m. with_files m xs) o) ≡ option_map (λ m. with_files m (xs ++ ys)) o
put_both None xs ys = refl
put_both (Some m) xs ys = ap (λ (n : Files). Some n) (sym (with_files-append m xs ys))

pub puts_none : (modified : List ℕ) (files : Option Files) (rows : List FileRow) → PutsFiles modified [] files files rows rows
puts_none modified files rows = record { stand = put_nothing files; listed = sym (append-nil rows) }

pub puts_on : (modified : List ℕ) (xs ys : List (List ℕ × List ℕ)) (a b c : Option Files) (r s t : List FileRow) → PutsFiles modified xs a b r s → PutsFiles modified ys b c s t → PutsFiles modified (xs ++ ys) a c r t
puts_on modified xs ys a b c r s t first rest = record {
  stand = rest.stand ∙ (ap (option_map (λ m. with_files m ys)) first.stand ∙ put_both a xs ys);
  listed =
      rest.listed ∙ (ap (λ (l : List FileRow). l ++ map (row_of modified) ys) first.listed
      ∙ (append_assoc r (map (row_of modified) xs) (map (row_of modified) ys) ∙ ap (λ (l : List FileRow). r ++ l) (sym (map-append (row_of modified) xs ys))));
}

-- ---- names that aren't there

lacks_by : (files : Option Files) (name : List ℕ) (put : List (List ℕ × List ℕ)) → AllByRecursion (λ f. same_name name f.0 ≡ false) put → Lacks files name → Lacks (option_map (λ m. with_files m put) files) name
lacks_by None name put all lacks = tt
lacks_by (Some m) name put all lacks = absent m name put all ∙ lacks

pub named_at : (fork : ForkId) (n k : ℕ) → IsNamed fork n → k < 2 ^ 32 → IsNamed fork k
named_at fork n k named small = record {
  some_db = named.some_db;
  db_fits = named.db_fits;
  some_rel = named.some_rel;
  rel_fits = named.rel_fits;
  seg_fits = small;
}

-- the next segment's file isn't there yet
pub next_missing : (fork : ForkId) (relseg k : ℕ) (pages : ForkPages) (old new : Option Files) → IsNamed fork k → LacksFork old fork → new ≡ option_map (λ m. with_files m (first_files relseg fork pages k)) old → Lacks new (fork_path_bytes fork k false)
next_missing fork relseg k pages old new named lacks stand =
    let path : ℕ → List ℕ = λ s. fork_path_bytes fork s false in
    subst (λ (o : Option Files). Lacks o (path k)) (sym stand)
    (lacks_by old (path k) (first_files relseg fork pages k)
    (all_range (λ (f : List ℕ × List ℕ). same_name (path k) f.0 ≡ false) (λ s. (path s, segment_content relseg pages s)) 0 k (λ s least most. false_from_ne_true (same_name (path k) (path s)) (λ e.
    let small : s < 2 ^ 32 = omega (arith, most, named.seg_fits) in
    let one = one_place fork fork k s false false named (named_at fork k s named small) (names_tie (path k) (path s) e) in
    omega (arith, one.1.0, most))))
    (lacks k named))

-- ---- one segment

pub segment_put : (tells : Type 0) (seen : List Entry) (from relseg : ℕ) (fork : ForkLen) (seg count : ℕ) (modified path sum : List ℕ) (old new : Option Files) (before rows : List FileRow) (row : FileRow) → count ≡ min relseg (fork.blocks - seg * relseg)
    → path ≡ fork_path_bytes fork.fork seg false → WritesCopies tells seen from fork.fork (seg * relseg) count path old new sum → row ≡ row_with path (count * 8192) modified sum → rows ≡ before ++ (row ∷ [])
    → PutsSegment tells seen from relseg fork seg modified old new before rows
segment_put tells seen from relseg fork seg count modified path sum old new before rows row count_is path_is wrote row_is grown =
    let pages = wrote.pages in
    let size : count * 8192 ≡ length (page_bytes pages) = omega (arith, bytes_length pages wrote.copies.sized, ap (λ (n : ℕ). n * 8192) wrote.copies.many) in
    let listed : row ≡ row_of modified (fork_path_bytes fork.fork seg false, page_bytes pages) =
    row_is ∙ (ap (λ (n : ℕ). row_with path n modified sum) size ∙ (ap (λ (x : List ℕ). row_with path (length (page_bytes pages)) modified x) wrote.sum_is ∙ ap (λ (x : List ℕ). row_of modified (x, page_bytes pages)) path_is)) in
    record {
      pages = pages;
      copies = subst (λ (n : ℕ). AreCopies tells seen from fork.fork (seg * relseg) n pages) count_is wrote.copies;
      puts = record {
        stand = wrote.stands ∙ ap (λ (x : List ℕ). with_file x (page_bytes pages) old) path_is;
        listed = grown ∙ ap (λ (r : FileRow). before ++ (r ∷ [])) listed;
      };
    }

-- ---- all segments

pub record ForkSoFar (tells : Type 0) (seen : List Entry) (from relseg : ℕ) (fork : ForkLen) (count : ℕ) (modified : List ℕ) (old new : Option Files) (before rows : List FileRow) : Type 0 where
  pub pages : ForkPages
  pub copies : AreCopies tells seen from fork.fork 0 (min (count * relseg) fork.blocks) pages
  pub puts : PutsFiles modified (first_files relseg fork.fork pages count) old new before rows

pub fork_begun : (tells : Type 0) (seen : List Entry) (from relseg : ℕ) (fork : ForkLen) (modified : List ℕ) (files : Option Files) (rows : List FileRow) → ForkSoFar tells seen from relseg fork 0 modified files files rows rows
fork_begun tells seen from relseg fork modified files rows = record {
  pages = [];
  copies = subst (λ (n : ℕ). AreCopies tells seen from fork.fork 0 n []) (omega arith) (copies_none tells seen from fork.fork 0);
  puts = puts_none modified files rows;
}

same_range : {X : Type 0} (f g : ℕ → X) (a n : ℕ) → ((s : ℕ) → s < a + n → f s ≡ g s) → map f (range_with_len a n) ≡ map g (range_with_len a n)
same_range f g a zero same = refl
same_range {X} f g a (suc n) same =
    ap (λ (x : X). x ∷ map f (range_with_len (a + 1) n)) (same a (omega arith)) ∙ ap (λ (l : List X). g a ∷ l) (same_range f g (a + 1) n (λ s l. same s (omega (arith, l))))

take_front : {A : Type 0} (n : ℕ) (xs ys : List A) → n ≤ length xs → take n (xs ++ ys) ≡ take n xs
take_front zero xs ys l = refl
take_front (suc n) [] ys l = absurd (omega (arith, l))
take_front {A} (suc n) (x ∷ xs) ys l = ap (λ (t : List A). x ∷ t) (take_front n xs ys (omega (arith, l)))

drop_front : {A : Type 0} (n : ℕ) (xs ys : List A) → n ≤ length xs → drop n (xs ++ ys) ≡ drop n xs ++ ys
drop_front zero xs ys l = refl
drop_front (suc n) [] ys l = absurd (omega (arith, l))
drop_front (suc n) (x ∷ xs) ys l = drop_front n xs ys (omega (arith, l))

drop_past : {A : Type 0} (n : ℕ) (xs ys : List A) → n ≡ length xs → drop n (xs ++ ys) ≡ ys
drop_past zero [] ys e = refl
drop_past zero (x ∷ xs) ys e = absurd (omega (arith, e))
drop_past (suc n) [] ys e = absurd (omega (arith, e))
drop_past (suc n) (x ∷ xs) ys e = drop_past n xs ys (omega (arith, e))

drop_length : {A : Type 0} (n : ℕ) (xs : List A) → length (drop n xs) ≡ length xs - n
drop_length zero xs = omega arith
drop_length (suc n) [] = omega arith
drop_length (suc n) (x ∷ xs) = drop_length n xs ∙ omega arith

-- full segments stay as pages are added
content_kept : (relseg s k : ℕ) (ps qs : ForkPages) → s < k → k * relseg ≡ length ps → segment_content relseg (ps ++ qs) s ≡ segment_content relseg ps s
content_kept relseg s k ps qs less long =
    let room = below s k relseg less in
    ap (λ (l : ForkPages). page_bytes (take relseg l)) (drop_front (s * relseg) ps qs (omega (arith, room, long)))
    ∙ ap page_bytes (take_front relseg (drop (s * relseg) ps) qs (omega (arith, drop_length (s * relseg) ps, room, long)))

-- and the next one has the added pages
content_next : (relseg k : ℕ) (ps qs : ForkPages) → k * relseg ≡ length ps → length qs ≤ relseg → segment_content relseg (ps ++ qs) k ≡ page_bytes qs
content_next relseg k ps qs long few = ap (λ (l : ForkPages). page_bytes (take relseg l)) (drop_past (k * relseg) ps qs long) ∙ ap page_bytes (take_all relseg qs few)

files_more : (relseg k : ℕ) (fork : ForkId) (ps qs : ForkPages) → k * relseg ≡ length ps → length qs ≤ relseg
    → first_files relseg fork (ps ++ qs) (k + 1) ≡ first_files relseg fork ps k ++ ((fork_path_bytes fork k false, page_bytes qs) ∷ [])
files_more relseg k fork ps qs long few =
    let path : ℕ → List ℕ = λ s. fork_path_bytes fork s false in
    let file : ForkPages → ℕ → List ℕ × List ℕ = λ pages s. (path s, segment_content relseg pages s) in
    map-range_with_len_more (file (ps ++ qs)) 0 k k (omega arith)
    ∙ ap (λ (l : List (List ℕ × List ℕ)). l ++ (file (ps ++ qs) k ∷ [])) (same_range (file (ps ++ qs)) (file ps) 0 k (λ s l. ap (λ (x : List ℕ). (path s, x)) (content_kept relseg s k ps qs (omega (arith, l)) long)))
    ∙ ap (λ (x : List ℕ). map (file ps) (range_with_len 0 k) ++ ((path k, x) ∷ [])) (content_next relseg k ps qs long few)

pub full_before : (relseg blocks k : ℕ) → 0 < relseg → k < segment_count relseg blocks → k * relseg ≤ blocks
full_before relseg blocks k some less = at (has_segment relseg blocks k some less)
  where
    at : (k ≡ 0) ⊎ (k * relseg < blocks) → k * relseg ≤ blocks
    at (inl first) = let none = ap (λ (n : ℕ). n * relseg) first in omega (arith, none)
    at (inr within) = omega (arith, within)

pub fork_further : (tells : Type 0) (s t : List Entry) (from relseg : ℕ) (fork : ForkLen) (k : ℕ) (modified : List ℕ) (a b c : Option Files) (r u v : List FileRow) → 0 < relseg → k < segment_count relseg fork.blocks → IsPrefix s t
    → ForkSoFar tells s from relseg fork k modified a b r u → PutsSegment tells t from relseg fork k modified b c u v → ForkSoFar tells t from relseg fork (k + 1) modified a c r v
fork_further tells s t from relseg fork k modified a b c r u v some less p far adds =
    let room = full_before relseg fork.blocks k some less in
    let next : (k + 1) * relseg ≡ k * relseg + relseg = omega arith in
    let long : k * relseg ≡ length far.pages = omega (arith, far.copies.many, room) in
    let few : length adds.pages ≤ relseg = omega (arith, adds.copies.many) in
    record {
      pages = far.pages ++ adds.pages;
      copies =
          copies_more tells s t from fork.fork 0 (k * relseg) (min (k * relseg) fork.blocks) (min relseg (fork.blocks - k * relseg)) (min ((k + 1) * relseg) fork.blocks) far.pages adds.pages (omega (arith, room)) (omega (arith, room, next)) p far.copies adds.copies;
      puts =
          subst (λ (fs : List (List ℕ × List ℕ)). PutsFiles modified fs a c r v) (sym (files_more relseg k fork.fork far.pages adds.pages long few))
          (puts_on modified (first_files relseg fork.fork far.pages k) ((fork_path_bytes fork.fork k false, page_bytes adds.pages) ∷ []) a b c r u v far.puts adds.puts);
    }

pub fork_put : (tells : Type 0) (seen : List Entry) (from relseg : ℕ) (fork : ForkLen) (count k : ℕ) (modified : List ℕ) (old new : Option Files) (before rows : List FileRow) → 0 < relseg → IsNamed fork.fork fork.blocks → count ≡ segment_count relseg fork.blocks → k ≡ count
    → ForkSoFar tells seen from relseg fork k modified old new before rows → PutsFork tells seen from relseg fork modified old new before rows
fork_put tells seen from relseg fork count k modified old new before rows some named count_is all far =
    let hold : fork.blocks ≤ k * relseg = subst (λ (n : ℕ). fork.blocks ≤ n * relseg) (sym all) (segments_hold relseg fork.blocks count some (sym count_is)) in
    let whole : min (k * relseg) fork.blocks ≡ fork.blocks = omega (arith, hold) in
    let many : length far.pages ≡ fork.blocks = far.copies.many ∙ whole in
    let is : k ≡ segment_count relseg (length far.pages) = all ∙ (count_is ∙ ap (segment_count relseg) (sym many)) in
    record {
      pages = far.pages;
      named = subst (IsNamed fork.fork) (sym many) named;
      copies = subst (λ (n : ℕ). AreCopies tells seen from fork.fork 0 n far.pages) whole far.copies;
      puts = subst (λ (n : ℕ). PutsFiles modified (first_files relseg fork.fork far.pages n) old new before rows) is far.puts;
    }
