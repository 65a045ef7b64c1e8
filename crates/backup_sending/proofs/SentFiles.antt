-- Files that were sent as they are planned, one behind the other.
use Rattle.std.proofs.Common.{◌≡◌, ℕ, ◌+◌, ◌*◌, ◌^◌, ◌<◌, Bool, true, false, List, [], ◌∷◌, ◌++◌, map, length, Option, Some, None, refl, sym, ap, subst, ◌∙◌, arith}
use Rattle.std.specs.List.{AllByRecursion, IsDistinct, range_with_len}
use Rattle.std.specs.List.Sorted.{IsStrictlySortedBy}
use Rattle.std.specs.Option.{option_map}
use Rattle.std.specs.Ordering.{is_eq, nat_cmp}
use Rattle.std.specs.Cmp.Lexicographic.{slice_cmp}
use Rattle.std.specs.declared.cmp.Ordering.TheVariants.{Less}
use Rattle.std.specs.FinMap.{get, get-empty}
use Rattle.std.proofs.lemmas.Bool.{false_from_ne_true, both_ways}
use Rattle.std.proofs.lemmas.List.{append-nil, append_assoc, length-append, map-append}
use Rattle.std.proofs.lemmas.Simd.{map-map}
use Rattle.std.proofs.lemmas.List.FromFn.{map-range_with_len_more}
use Rattle.std.proofs.lemmas.Grind.{flat_map-append}
use mathlib.Core.List.{IsPrefix}
use Rattle.lsn_core.specs.Files.{Files}
use Rattle.lsn_core.specs.Names.{fork_path_bytes, IsNamed}
use Rattle.lsn_core.specs.Segment.{IsRelseg}
use Rattle.lsn_core.specs.Store.{fork_cmp, segment_count, with_files}
use Rattle.lsn_core.specs.declared.ids.ForkId.{ForkId}
use Rattle.lsn_core.specs.declared.ids.ForkLen.{ForkLen}
use Rattle.lsn_core.proofs.AnyAll.{AreApart, all_append, all_more, all_pieces, all_range, distinct_pieces, distinct_range, map_pieces}
use Rattle.lsn_core.proofs.ForkPaths.{one_place}
use Rattle.lsn_core.proofs.StoreFiles.{same_fork, same_name, fork_itself, names_tie}
use Rattle.history.specs.Entry.{Entry}
use Rattle.manifest.specs.declared.listing.FileRow.{FileRow}
use Rattle.incr_file.specs.Head.{head_bytes}
use Rattle.incr_file.specs.declared.head.IncrHead.{IncrHead}
use Rattle.incr_file.specs.declared.plan.FilePlan.{FilePlan}
use Rattle.incr_file.specs.declared.plan.FilePlan.TheVariants.{Whole, Incr}
use Rattle.store_locks.specs.Copied.{listed_length}
use Rattle.backup_sending.specs.declared.basis.Basis.{Basis}
use Rattle.backup_files.specs.Area.{HoldsNothing, Lacks, with_file}
use Rattle.backup_files.specs.Directory.{row_of}
use Rattle.backup_files.specs.Rows.{row_with}
use Rattle.backup_sending.specs.Inside.{IsGoodPath, ListsForks, PutsFiles, PutsSegment, page_bytes}
use Rattle.backup_sending.specs.Sent.{SegmentPlan, SentFile, blocks_sent, file_of, fork_plans, is_part, list_plans, segment_plan, sent_path}
use Rattle.backup_sending.specs.Sending.{ArePagesOf, IsSeenAs, LacksForms, SendsFiles, SendsList, SendsPart, SendsStore, WritesPart}
use Rattle.backup_sending.proofs.Blocks.{pages_bytes_length, range_pages, seen_later}
use Rattle.backup_sending.proofs.Listings.{count_fits, fork_path_good}
use Rattle.backup_sending.proofs.PageLists.{bytes_length}
use Rattle.backup_files.proofs.Appended.{absent}
use Rattle.backup_sending.proofs.Segments.{named_at, puts_none, puts_on}
use Rattle.backup_sending.proofs.Stores.{listed_later, stands_of}

-- ---- one file

pub part_sent : (tells : Type 0) (seen : List Entry) (from : ℕ) (fork : ForkId) (seg first : ℕ) (head : IncrHead) (modified path front blocks sum : List ℕ) (size : ℕ) (old new : Option Files) (before rows : List FileRow) (row : FileRow) → path ≡ fork_path_bytes fork seg true → front ≡ head_bytes head
    → blocks ≡ head.blocks → size ≡ length front + 8192 * length blocks → size < 2 ^ 64 → WritesPart tells seen from fork first front blocks path old new sum → row ≡ row_with path size modified sum → rows ≡ before ++ (row ∷ []) → SendsPart tells seen from fork seg first head modified old new before rows
part_sent tells seen from fork seg first head modified path front blocks sum size old new before rows row path_is front_is blocks_is size_is small wrote row_is grown =
    let bytes = front ++ page_bytes wrote.pages in
    let all : bytes ≡ head_bytes head ++ page_bytes wrote.pages = ap (λ (x : List ℕ). x ++ page_bytes wrote.pages) front_is in
    let long : size ≡ length bytes = fits size (length blocks) front (page_bytes wrote.pages) size_is (pages_bytes_length tells seen from fork first blocks wrote.pages wrote.are) in
    let listed : row ≡ row_of modified (fork_path_bytes fork seg true, head_bytes head ++ page_bytes wrote.pages) =
    row_is ∙ (ap (λ (n : ℕ). row_with path n modified sum) long ∙ (ap (λ (x : List ℕ). row_with path (length bytes) modified x) wrote.sum_is
    ∙ (ap (λ (x : List ℕ). row_of modified (x, bytes)) path_is ∙ ap (λ (x : List ℕ). row_of modified (fork_path_bytes fork seg true, x)) all))) in
    record {
      pages = wrote.pages;
      are = subst (λ (bs : List ℕ). ArePagesOf tells seen from fork first bs wrote.pages) blocks_is wrote.are;
      fits = subst (λ (x : List ℕ). length x < 2 ^ 64) all (omega (arith, long, small));
      puts = record {
        stand = wrote.stands ∙ (ap (λ (x : List ℕ). with_file x bytes old) path_is ∙ ap (λ (x : List ℕ). with_file (fork_path_bytes fork seg true) x old) all);
        listed = grown ∙ ap (λ (r : FileRow). before ++ (r ∷ [])) listed;
      };
    }
  where
    fits : (n m : ℕ) (xs ys : List ℕ) → n ≡ length xs + 8192 * m → length ys ≡ m * 8192 → n ≡ length (xs ++ ys)
    fits n m xs ys e f = omega (arith, e, f, length-append xs ys)

-- a segment that is sent whole, or in part
pub whole_sent : (tells : Type 0) (seen : List Entry) (from : ℕ) (b : Basis) (l : ForkLen) (seg : ℕ) (modified : List ℕ) (old new : Option Files) (before rows : List FileRow) → IsRelseg b.relseg → Whole ≡ (segment_plan b l seg).plan → PutsSegment tells seen from b.relseg l seg modified old new before rows
    → SendsFiles tells seen from (segment_plan b l seg ∷ []) modified old new before rows
whole_sent tells seen from b l seg modified old new before rows range is puts =
    let p = segment_plan b l seg in
    record {
      files = record { what = p; pages = puts.pages } ∷ [];
      planned_are = refl;
      sent = (subst (λ (plan : FilePlan). ArePagesOf tells seen from p.fork p.first (blocks_sent p.count plan) puts.pages) is (range_pages tells seen from p.fork p.first p.count puts.pages puts.copies), tt);
      fit = (subst (λ (plan : FilePlan). length (front plan ++ page_bytes puts.pages) < 2 ^ 64) is (omega (arith, bytes_length puts.pages puts.copies.sized, puts.copies.many, range.most)), tt);
      puts = subst (λ (plan : FilePlan). PutsFiles modified ((fork_path_bytes p.fork p.seg (is_part plan), front plan ++ page_bytes puts.pages) ∷ []) old new before rows) is puts.puts;
    }
  where
    front : FilePlan → List ℕ
    front Whole = []
    front (Incr head) = head_bytes head

pub incr_sent : (tells : Type 0) (seen : List Entry) (from : ℕ) (b : Basis) (l : ForkLen) (seg first : ℕ) (head : IncrHead) (modified : List ℕ) (old new : Option Files) (before rows : List FileRow) → Incr head ≡ (segment_plan b l seg).plan → first ≡ seg * b.relseg
    → SendsPart tells seen from l.fork seg first head modified old new before rows → SendsFiles tells seen from (segment_plan b l seg ∷ []) modified old new before rows
incr_sent tells seen from b l seg first head modified old new before rows is first_is sends =
    let p = segment_plan b l seg in
    record {
      files = record { what = p; pages = sends.pages } ∷ [];
      planned_are = refl;
      sent = (subst (λ (plan : FilePlan). ArePagesOf tells seen from p.fork p.first (blocks_sent p.count plan) sends.pages) is (subst (λ (n : ℕ). ArePagesOf tells seen from l.fork n head.blocks sends.pages) first_is sends.are), tt);
      fit = (subst (λ (plan : FilePlan). length (front plan ++ page_bytes sends.pages) < 2 ^ 64) is sends.fits, tt);
      puts = subst (λ (plan : FilePlan). PutsFiles modified ((fork_path_bytes p.fork p.seg (is_part plan), front plan ++ page_bytes sends.pages) ∷ []) old new before rows) is sends.puts;
    }
  where
    front : FilePlan → List ℕ
    front Whole = []
    front (Incr head) = head_bytes head

-- ---- several files

pub sends_none : (tells : Type 0) (seen : List Entry) (from : ℕ) (modified : List ℕ) (files : Option Files) (rows : List FileRow) → SendsFiles tells seen from [] modified files files rows rows
sends_none tells seen from modified files rows = record { files = []; planned_are = refl; sent = tt; fit = tt; puts = puts_none modified files rows }

all_later : (tells : Type 0) (s t : List Entry) (from : ℕ) (files : List SentFile) → IsPrefix s t → AllByRecursion (IsSeenAs tells s from) files → AllByRecursion (IsSeenAs tells t from) files
all_later tells s t from files p all =
    all_more (IsSeenAs tells s from) (IsSeenAs tells t from) files (λ f is. seen_later tells s t from f.what.fork f.what.first (blocks_sent f.what.count f.what.plan) f.pages p is) all

pub sends_on : (tells : Type 0) (s t : List Entry) (from : ℕ) (ps qs : List SegmentPlan) (modified : List ℕ) (a b c : Option Files) (r u v : List FileRow) → IsPrefix s t → SendsFiles tells s from ps modified a b r u → SendsFiles tells t from qs modified b c u v
    → SendsFiles tells t from (ps ++ qs) modified a c r v
sends_on tells s t from ps qs modified a b c r u v p x y = record {
  files = x.files ++ y.files;
  planned_are = map-append (λ f. f.what) x.files y.files ∙ (ap (λ (l : List SegmentPlan). l ++ map (λ f. f.what) y.files) x.planned_are ∙ ap (λ (l : List SegmentPlan). ps ++ l) y.planned_are);
  sent = all_append (IsSeenAs tells t from) x.files y.files (all_later tells s t from x.files p x.sent) y.sent;
  fit = all_append (λ f. length (file_of f).1 < 2 ^ 64) x.files y.files x.fit y.fit;
  puts = subst (λ (fs : List (List ℕ × List ℕ)). PutsFiles modified fs a c r v) (sym (map-append file_of x.files y.files)) (puts_on modified (map file_of x.files) (map file_of y.files) a b c r u v x.puts y.puts);
}

-- ---- names

abbrev what_of : SentFile → SegmentPlan
what_of f = f.what

abbrev path_of : List ℕ × List ℕ → List ℕ
path_of f = f.0

-- what holds of all plans holds of all files
of_plans : (P : SegmentPlan → Type 0) (files : List SentFile) → AllByRecursion P (map what_of files) → AllByRecursion (λ f. P f.what) files
of_plans P [] all = tt
of_plans P (f ∷ files) all = (all.0, of_plans P files all.1)

of_files : (P : List ℕ × List ℕ → Type 0) (files : List SentFile) → AllByRecursion (λ f. P (file_of f)) files → AllByRecursion P (map file_of files)
of_files P [] all = tt
of_files P (f ∷ files) all = (all.0, of_files P files all.1)

paths_are : (files : List SentFile) → map path_of (map file_of files) ≡ map sent_path (map what_of files)
paths_are [] = refl
paths_are (f ∷ files) = ap (λ (l : List (List ℕ)). sent_path f.what ∷ l) (paths_are files)

-- the numbers of a planned file have a path
abbrev IsNamedPlan : SegmentPlan → Type 0
IsNamedPlan p = IsNamed p.fork p.seg

named_plans : (b : Basis) (l : ForkLen) → 0 < b.relseg → IsNamed l.fork l.blocks → AllByRecursion IsNamedPlan (fork_plans b l)
named_plans b l some named =
    all_range IsNamedPlan (segment_plan b l) 0 (segment_count b.relseg l.blocks) (λ s least most. named_at l.fork l.blocks s named (count_fits b.relseg l.blocks s some (omega (arith, most)) named.seg_fits))

all_named : (b : Basis) (list : List ForkLen) → 0 < b.relseg → AllByRecursion (λ l. IsNamed l.fork l.blocks) list → AllByRecursion IsNamedPlan (list_plans b list)
all_named b list some named = all_pieces (λ l. IsNamed l.fork l.blocks) IsNamedPlan (fork_plans b) list (λ l is. named_plans b l some is) named

-- two files of one path are of one fork and one segment
one_file : (a b : ForkId) (s t : ℕ) (i j : Bool) → IsNamed a s → IsNamed b t → same_name (fork_path_bytes a s i) (fork_path_bytes b t j) ≡ true → (a ≡ b) × ((s ≡ t) × (i ≡ j))
one_file a b s t i j x y e = one_place a b s t i j x y (names_tie (fork_path_bytes a s i) (fork_path_bytes b t j) e)

-- the next segment's file isn't there yet
abbrev IsBefore : ForkId → ℕ → SegmentPlan → Type 0
IsBefore fork k p = (p.fork ≡ fork) × (p.seg < k)

lacks_by : (files : Option Files) (name : List ℕ) (put : List (List ℕ × List ℕ)) → AllByRecursion (λ f. same_name name f.0 ≡ false) put → Lacks files name → Lacks (option_map (λ m. with_files m put) files) name
lacks_by None name put all lacks = tt
lacks_by (Some m) name put all lacks = absent m name put all ∙ lacks

pub next_missing : (tells : Type 0) (seen : List Entry) (from : ℕ) (b : Basis) (l : ForkLen) (k : ℕ) (incr : Bool) (modified : List ℕ) (old new : Option Files) (before rows : List FileRow) → IsNamed l.fork k → LacksForms old l.fork
    → SendsFiles tells seen from (map (segment_plan b l) (range_with_len 0 k)) modified old new before rows → Lacks new (fork_path_bytes l.fork k incr)
next_missing tells seen from b l k incr modified old new before rows named lacks sends =
    let path = fork_path_bytes l.fork k incr in
    let all : AllByRecursion (IsBefore l.fork k) (map what_of sends.files) =
    subst (AllByRecursion (IsBefore l.fork k)) (sym sends.planned_are) (all_range (IsBefore l.fork k) (segment_plan b l) 0 k (λ s least most. (refl, omega (arith, most)))) in
    subst (λ (o : Option Files). Lacks o path) (sym sends.puts.stand)
    (lacks_by old path (map file_of sends.files)
    (of_files (λ f. same_name path f.0 ≡ false) sends.files
    (all_more (λ f. IsBefore l.fork k f.what) (λ f. same_name path (file_of f).0 ≡ false) sends.files (λ f is. other f.what is) (of_plans (IsBefore l.fork k) sends.files all)))
    (lacks k incr named))
  where
    other : (p : SegmentPlan) → IsBefore l.fork k p → same_name (fork_path_bytes l.fork k incr) (sent_path p) ≡ false
    other p is = false_from_ne_true (same_name (fork_path_bytes l.fork k incr) (sent_path p)) (λ e.
        let there : IsNamed p.fork p.seg = subst (λ (f : ForkId). IsNamed f p.seg) (sym is.0) (named_at l.fork k p.seg named (omega (arith, is.1, named.seg_fits))) in
        let one = one_file l.fork p.fork k p.seg incr (is_part p.plan) named there e in
        omega (arith, one.1.0, is.1))

-- ---- the segments of a fork

pub fork_begun : (tells : Type 0) (seen : List Entry) (from : ℕ) (b : Basis) (l : ForkLen) (modified : List ℕ) (files : Option Files) (rows : List FileRow) → SendsFiles tells seen from (map (segment_plan b l) (range_with_len 0 0)) modified files files rows rows
fork_begun tells seen from b l modified files rows = sends_none tells seen from modified files rows

pub fork_further : (tells : Type 0) (s t : List Entry) (from : ℕ) (b : Basis) (l : ForkLen) (k : ℕ) (modified : List ℕ) (x y z : Option Files) (r u v : List FileRow) → IsPrefix s t → SendsFiles tells s from (map (segment_plan b l) (range_with_len 0 k)) modified x y r u
    → SendsFiles tells t from (segment_plan b l k ∷ []) modified y z u v → SendsFiles tells t from (map (segment_plan b l) (range_with_len 0 (k + 1))) modified x z r v
fork_further tells s t from b l k modified x y z r u v p far one =
    subst (λ (ps : List SegmentPlan). SendsFiles tells t from ps modified x z r v) (sym (map-range_with_len_more (segment_plan b l) 0 k k (omega arith)))
    (sends_on tells s t from (map (segment_plan b l) (range_with_len 0 k)) (segment_plan b l k ∷ []) modified x y z r u v p far one)

pub fork_sent : (tells : Type 0) (seen : List Entry) (from : ℕ) (b : Basis) (l : ForkLen) (k : ℕ) (modified : List ℕ) (old new : Option Files) (before rows : List FileRow) → k ≡ segment_count b.relseg l.blocks → SendsFiles tells seen from (map (segment_plan b l) (range_with_len 0 k)) modified old new before rows
    → SendsFiles tells seen from (fork_plans b l) modified old new before rows
fork_sent tells seen from b l k modified old new before rows all far = subst (λ (n : ℕ). SendsFiles tells seen from (map (segment_plan b l) (range_with_len 0 n)) modified old new before rows) all far

-- ---- the forks of a list

pub record ListSoFar (tells : Type 0) (seen : List Entry) (from : ℕ) (b : Basis) (list left : List ForkLen) (modified : List ℕ) (old new : Option Files) (rows : List FileRow) : Type 0 where
  pub done : List ForkLen
  pub all : done ++ left ≡ list
  pub named : AllByRecursion (λ l. IsNamed l.fork l.blocks) done
  pub sends : SendsFiles tells seen from (list_plans b done) modified old new [] rows

pub list_begun : (tells : Type 0) (seen : List Entry) (from : ℕ) (b : Basis) (list : List ForkLen) (modified : List ℕ) (files : Option Files) (rows : List FileRow) → rows ≡ [] → ListSoFar tells seen from b list list modified files files rows
list_begun tells seen from b list modified files rows none = record {
  done = [];
  all = refl;
  named = tt;
  sends = subst (λ (r : List FileRow). SendsFiles tells seen from [] modified files files [] r) (sym none) (sends_none tells seen from modified files []);
}

pub list_further : (tells : Type 0) (s t : List Entry) (from : ℕ) (b : Basis) (list left rest : List ForkLen) (l : ForkLen) (modified : List ℕ) (x y z : Option Files) (u v : List FileRow) → left ≡ l ∷ rest → IsPrefix s t → IsNamed l.fork l.blocks → ListSoFar tells s from b list left modified x y u
    → SendsFiles tells t from (fork_plans b l) modified y z u v → ListSoFar tells t from b list rest modified x z v
list_further tells s t from b list left rest l modified x y z u v is p named far one = record {
  done = far.done ++ (l ∷ []);
  all = append_assoc far.done (l ∷ []) rest ∙ (ap (λ (r : List ForkLen). far.done ++ r) (sym is) ∙ far.all);
  named = all_append (λ k. IsNamed k.fork k.blocks) far.done (l ∷ []) far.named (named, tt);
  sends =
      subst (λ (ps : List SegmentPlan). SendsFiles tells t from ps modified x z [] v) (sym (flat_map-append (fork_plans b) far.done (l ∷ []) ∙ ap (λ (ps : List SegmentPlan). list_plans b far.done ++ ps) (append-nil (fork_plans b l))))
      (sends_on tells s t from (list_plans b far.done) (fork_plans b l) modified x y z [] u v p far.sends one);
}

pub list_sent : (tells : Type 0) (seen : List Entry) (from : ℕ) (b : Basis) (list left : List ForkLen) (modified : List ℕ) (old new : Option Files) (rows : List FileRow) → left ≡ [] → ListSoFar tells seen from b list left modified old new rows → SendsList tells seen from b list modified old new rows
list_sent tells seen from b list left modified old new rows none far =
    let all : far.done ≡ list = sym (append-nil far.done) ∙ (ap (λ (r : List ForkLen). far.done ++ r) (sym none) ∙ far.all) in
    record {
      named = subst (AllByRecursion (λ l. IsNamed l.fork l.blocks)) all far.named;
      sends = subst (λ (ls : List ForkLen). SendsFiles tells seen from (list_plans b ls) modified old new [] rows) all far.sends;
    }

-- ---- forks in order

all_below : (done : List ForkLen) (l : ForkLen) (rest : List ForkLen) → IsStrictlySortedBy fork_cmp (map (λ x. x.fork) (done ++ (l ∷ rest))) → AllByRecursion (λ d. fork_cmp d.fork l.fork ≡ Less) done
unfolding IsStrictlySortedBy
all_below [] l rest order = tt
all_below (d ∷ done) l rest order = (last_of done order.0, all_below done l rest order.1)
  where
    last_of : (ds : List ForkLen) → AllByRecursion (λ y. fork_cmp d.fork y ≡ Less) (map (λ x. x.fork) (ds ++ (l ∷ rest))) → fork_cmp d.fork l.fork ≡ Less
    last_of [] all = all.0
    last_of (e ∷ ds) all = last_of ds all.1

apart : (a b : ForkId) → fork_cmp a b ≡ Less → same_fork a b ≡ false
apart a b e = ap is_eq e

-- plans of forks before another
abbrev IsEarlier : ForkId → SegmentPlan → Type 0
IsEarlier fork p = IsNamed p.fork p.seg × (same_fork p.fork fork ≡ false)

earlier_plans : (b : Basis) (fork : ForkId) (l : ForkLen) → 0 < b.relseg → IsNamed l.fork l.blocks × (fork_cmp l.fork fork ≡ Less) → AllByRecursion (IsEarlier fork) (fork_plans b l)
earlier_plans b fork l some is =
    all_range (IsEarlier fork) (segment_plan b l) 0 (segment_count b.relseg l.blocks) (λ s least most. (named_at l.fork l.blocks s is.0 (count_fits b.relseg l.blocks s some (omega (arith, most)) is.0.seg_fits), apart l.fork fork is.1))

all_both : {X : Type 0} (A B : X → Type 0) (xs : List X) → AllByRecursion A xs → AllByRecursion B xs → AllByRecursion (λ x. A x × B x) xs
all_both A B [] a b = tt
all_both A B (x ∷ xs) a b = ((a.0, b.0), all_both A B xs a.1 b.1)

lacks_in : (old new : Option Files) (put : List (List ℕ × List ℕ)) (name : List ℕ) → HoldsNothing old → new ≡ option_map (λ m. with_files m put) old → AllByRecursion (λ f. same_name name f.0 ≡ false) put → Lacks new name
lacks_in None new put name nothing stand all = subst (λ (o : Option Files). Lacks o name) (sym stand) tt
lacks_in (Some m) new put name nothing stand all =
    subst (λ (o : Option Files). Lacks o name) (sym stand) (absent m name put all ∙ (ap (λ (x : Files). get x name) nothing ∙ get-empty (slice_cmp nat_cmp) name))

-- the next fork's files aren't there yet
pub next_fork : (tells : Type 0) (seen : List Entry) (from : ℕ) (b : Basis) (list left rest : List ForkLen) (l : ForkLen) (modified : List ℕ) (old new : Option Files) (rows : List FileRow) → 0 < b.relseg → IsStrictlySortedBy fork_cmp (map (λ x. x.fork) list) → HoldsNothing old → left ≡ l ∷ rest
    → ListSoFar tells seen from b list left modified old new rows → LacksForms new l.fork
next_fork tells seen from b list left rest l modified old new rows some order nothing is far seg incr named =
    let path = fork_path_bytes l.fork seg incr in
    let below = all_below far.done l rest (subst (λ (ls : List ForkLen). IsStrictlySortedBy fork_cmp (map (λ x. x.fork) ls)) (sym far.all ∙ ap (λ (r : List ForkLen). far.done ++ r) is) order) in
    let plans : AllByRecursion (IsEarlier l.fork) (map what_of far.sends.files) =
    subst (AllByRecursion (IsEarlier l.fork)) (sym far.sends.planned_are)
    (all_pieces (λ d. IsNamed d.fork d.blocks × (fork_cmp d.fork l.fork ≡ Less)) (IsEarlier l.fork) (fork_plans b) far.done (λ d both. earlier_plans b l.fork d some both)
    (all_both (λ d. IsNamed d.fork d.blocks) (λ d. fork_cmp d.fork l.fork ≡ Less) far.done far.named below)) in
    lacks_in old new (map file_of far.sends.files) path nothing far.sends.puts.stand
    (of_files (λ f. same_name path f.0 ≡ false) far.sends.files
    (all_more (λ f. IsEarlier l.fork f.what) (λ f. same_name path (file_of f).0 ≡ false) far.sends.files (λ f early. other f.what early) (of_plans (IsEarlier l.fork) far.sends.files plans)))
  where
    other : (p : SegmentPlan) → IsEarlier l.fork p → same_name (fork_path_bytes l.fork seg incr) (sent_path p) ≡ false
    other p early = false_from_ne_true (same_name (fork_path_bytes l.fork seg incr) (sent_path p)) (λ e.
        let one = one_file l.fork p.fork seg p.seg incr (is_part p.plan) named early.0 e in
        both_ways (same_fork p.fork l.fork) early.1 (subst (λ (f : ForkId). same_fork f l.fork ≡ true) one.0 (fork_itself l.fork)))

-- ---- all files

distinct_in_fork : (b : Basis) (l : ForkLen) → 0 < b.relseg → IsNamed l.fork l.blocks → IsDistinct same_name (map sent_path (fork_plans b l))
distinct_in_fork b l some named =
    subst (IsDistinct same_name) (sym (map-map sent_path (segment_plan b l) (range_with_len 0 (segment_count b.relseg l.blocks))))
    (distinct_range same_name (λ s. sent_path (segment_plan b l s)) 0 (segment_count b.relseg l.blocks) (λ s t lt within.
    false_from_ne_true (same_name (sent_path (segment_plan b l s)) (sent_path (segment_plan b l t))) (λ e.
    let fits : (k : ℕ) → k < segment_count b.relseg l.blocks → IsNamed l.fork k = λ k less. named_at l.fork l.blocks k named (count_fits b.relseg l.blocks k some less named.seg_fits) in
    let one = one_file l.fork l.fork s t (is_part (segment_plan b l s).plan) (is_part (segment_plan b l t).plan) (fits s (omega (arith, lt, within))) (fits t (omega (arith, within))) e in
    omega (arith, one.1.0, lt))))

abbrev len_eq : ForkLen → ForkLen → Bool
len_eq a b = same_fork a.fork b.fork

apart_forks : (b : Basis) (k z : ForkLen) → 0 < b.relseg → IsNamed k.fork k.blocks → IsNamed z.fork z.blocks → len_eq k z ≡ false → AreApart same_name (map sent_path (fork_plans b k)) (map sent_path (fork_plans b z))
apart_forks b k z some k_named z_named differ =
    let path : (l : ForkLen) → ℕ → List ℕ = λ l s. sent_path (segment_plan b l s) in
    let count : ForkLen → ℕ = λ l. segment_count b.relseg l.blocks in
    let names : (l : ForkLen) → map sent_path (fork_plans b l) ≡ map (path l) (range_with_len 0 (count l)) = λ l. map-map sent_path (segment_plan b l) (range_with_len 0 (count l)) in
    let other : (s t : ℕ) → s < count k → t < count z → same_name (path k s) (path z t) ≡ false = λ s t ks zt. false_from_ne_true (same_name (path k s) (path z t)) (λ e.
    let one = one_file k.fork z.fork s t (is_part (segment_plan b k s).plan) (is_part (segment_plan b z t).plan) (named_at k.fork k.blocks s k_named (count_fits b.relseg k.blocks s some ks k_named.seg_fits)) (named_at z.fork z.blocks t z_named (count_fits b.relseg z.blocks t some zt z_named.seg_fits)) e in
    both_ways (len_eq k z) differ (subst (λ (f : ForkId). same_fork k.fork f ≡ true) one.0 (fork_itself k.fork))) in
    subst (λ (l : List (List ℕ)). AreApart same_name l (map sent_path (fork_plans b z))) (sym (names k))
    (subst (λ (l : List (List ℕ)). AreApart same_name (map (path k) (range_with_len 0 (count k))) l) (sym (names z))
    (all_range (λ x. AllByRecursion (λ y. same_name x y ≡ false) (map (path z) (range_with_len 0 (count z)))) (path k) 0 (count k) (λ s least most.
    all_range (λ y. same_name (path k s) y ≡ false) (path z) 0 (count z) (λ t low high. other s t (omega (arith, most)) (omega (arith, high))))))

distinct_list : (list : List ForkLen) → IsStrictlySortedBy fork_cmp (map (λ x. x.fork) list) → IsDistinct len_eq list
unfolding IsDistinct IsStrictlySortedBy
distinct_list [] order = tt
distinct_list (l ∷ list) order = (each list order.0, distinct_list list order.1)
  where
    each : (ls : List ForkLen) → AllByRecursion (λ y. fork_cmp l.fork y ≡ Less) (map (λ x. x.fork) ls) → AllByRecursion (λ z. len_eq l z ≡ false) ls
    each [] all = tt
    each (z ∷ ls) all = (apart l.fork z.fork all.0, each ls all.1)

distinct_plans : (b : Basis) (list : List ForkLen) → 0 < b.relseg → AllByRecursion (λ l. IsNamed l.fork l.blocks) list → IsStrictlySortedBy fork_cmp (map (λ x. x.fork) list) → IsDistinct same_name (map sent_path (list_plans b list))
distinct_plans b list some named order =
    subst (IsDistinct same_name) (sym (map_pieces sent_path (fork_plans b) list))
    (distinct_pieces len_eq same_name (λ l. IsNamed l.fork l.blocks) (λ l. map sent_path (fork_plans b l)) list (λ l is. distinct_in_fork b l some is) (λ k z x y. apart_forks b k z some x y) named (distinct_list list order))

good_paths : (files : List SentFile) → AllByRecursion IsNamedPlan (map what_of files) → AllByRecursion (λ f. IsGoodPath f.0) (map file_of files)
good_paths files named =
    of_files (λ f. IsGoodPath f.0) files (all_more (λ f. IsNamedPlan f.what) (λ f. IsGoodPath (file_of f).0) files (λ f is. fork_path_good f.what.fork f.what.seg (is_part f.what.plan) is) (of_plans IsNamedPlan files named))

lists_later : (tells : Type 0) (s t : List Entry) (from : ℕ) (list : List ForkLen) → IsPrefix s t → ListsForks tells s from list → ListsForks tells t from list
lists_later tells s t from list p lists = record { order = lists.order; listed = λ told fork. listed_later s t from fork (listed_length list fork) p (lists.listed told fork) }

-- the files of all forks in an area that held nothing
pub store_sent : (tells : Type 0) (s t : List Entry) (from : ℕ) (b : Basis) (list : List ForkLen) (modified : List ℕ) (old new : Option Files) (rows : List FileRow) → 0 < b.relseg → HoldsNothing old → IsPrefix s t → ListsForks tells s from list → SendsList tells t from b list modified old new rows
    → SendsStore tells t from b modified new rows
store_sent tells s t from b list modified old new rows some nothing p lists sent = record {
  list = list;
  lists = lists_later tells s t from list p lists;
  named = sent.named;
  put = sent.sends.files;
  planned_are = sent.sends.planned_are;
  sent = sent.sends.sent;
  held = record {
    listable = record {
      paths = good_paths sent.sends.files (subst (AllByRecursion IsNamedPlan) (sym sent.sends.planned_are) (all_named b list some sent.named));
      distinct = subst (IsDistinct same_name) (sym (paths_are sent.sends.files ∙ ap (map sent_path) sent.sends.planned_are)) (distinct_plans b list some sent.named lists.order);
      sizes = of_files (λ f. length f.1 < 2 ^ 64) sent.sends.files sent.sends.fit;
    };
    stand = stands_of old new (map file_of sent.sends.files) nothing sent.sends.puts.stand;
    listed = sent.sends.puts.listed;
  };
}
