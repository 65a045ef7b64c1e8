-- The files of all forks, fork behind fork.
use Rattle.std.proofs.Common.{◌≡◌, ℕ, ◌+◌, ◌<◌, Bool, true, false, cond, T, ◌&&◌, List, [], ◌∷◌, ◌++◌, map, length, Option, Some, None, IfSome, unwrap_or, zero, suc, refl, sym, ap, subst, ◌∙◌, arith}
use Rattle.std.specs.Prelude.{slice_get}
use Rattle.std.specs.List.{AllByRecursion, flat_map}
use Rattle.std.specs.List as list
use Rattle.std.specs.List.Sorted.{IsStrictlySortedBy}
use Rattle.std.specs.Option.{option_map}
use Rattle.std.specs.declared.cmp.Ordering.{Ordering}
use Rattle.std.specs.declared.cmp.Ordering.TheVariants.{Less}
use Rattle.std.specs.Ordering.{is_lt, is_eq}
use Rattle.std.specs.FinMap.{find, get, empty, entries, is_sorted, from_sorted, entries-from_sorted, get-from_sorted, get-entries}
use Rattle.std.specs.FinMap.Entries.{below_all}
use Rattle.std.proofs.lemmas.Cmp.{eq_by_cmp_equiv}
use Rattle.std.proofs.lemmas.List.{append-nil}
use Rattle.std.proofs.lemmas.Grind.{flat_map-append}
use mathlib.Core.List.{IsPrefix}
use Rattle.timeline.proofs.Prefixes.{prefix_trans}
use Rattle.lsn_core.specs.byte_words.Numbers.{◌>>=◌}
use Rattle.lsn_core.specs.Files.{Files}
use Rattle.lsn_core.specs.Blocks.{block_of, block_count}
use Rattle.lsn_core.specs.Laws.{HasNamedForks}
use Rattle.lsn_core.specs.Names.{fork_path_bytes, IsNamed}
use Rattle.lsn_core.specs.Store.{Store, ForkPages, fork_cmp, fork_files, segment_in, store_files, with_files}
use Rattle.lsn_core.specs.declared.ids.ForkId.{ForkId}
use Rattle.lsn_core.specs.declared.ids.ForkLen.{ForkLen}
use Rattle.lsn_core.proofs.AnyAll.{all_append}
use Rattle.lsn_core.proofs.ForkOrder.{fork_cmp_total}
use Rattle.lsn_core.proofs.StoreFiles.{same_fork, forks_tie, held}
use Rattle.history.specs.Apply.{is_same_fork}
use Rattle.history.specs.Entry.{Entry}
use Rattle.manifest.specs.declared.listing.FileRow.{FileRow}
use Rattle.store_locks.specs.Copied.{listed_length}
use Rattle.backup_files.specs.Area.{HoldsNothing, Lacks}
use Rattle.backup_sending.specs.Inside.{ArePagesCopied, IsPageCopied, LacksFork, PutsFiles, PutsFork, PutsStore, ListsForks, IsForkListed, IsNamedFork, IsWholeFork, CopiesStore}
use Rattle.backup_sending.proofs.PageLists.{pages_later}
use Rattle.backup_sending.proofs.Segments.{puts_none, puts_on}

abbrev Copies : Type 0
Copies = List (ForkId × ForkPages)

abbrev len_of : ForkId × ForkPages → ForkLen
len_of e = record { fork = e.0; blocks = length e.1 }

abbrev fork_of : ForkLen → ForkId
fork_of l = l.fork

-- ---- forks in order

both : (a b : Bool) → T a → T b → T (a && b)
both true b p q = q
both false b p q = p

is_less : (r : Ordering) → r ≡ Less → T (is_lt r)
is_less r e = subst (λ (o : Ordering). T (is_lt o)) (sym e) tt

no_tie : (r : Ordering) → r ≡ Less → is_eq r ≡ false
no_tie r e = ap is_eq e

all_below : (k : ForkId) (es : Copies) (rest : List ForkLen) → AllByRecursion (λ y. fork_cmp k y ≡ Less) (map fork_of (map len_of es ++ rest)) → T (below_all fork_cmp k es)
all_below k [] rest all = tt
all_below k (e ∷ es) rest all = both (is_lt (fork_cmp k e.0)) (below_all fork_cmp k es) (is_less (fork_cmp k e.0) all.0) (all_below k es rest all.1)

sorted_front : (es : Copies) (rest : List ForkLen) → IsStrictlySortedBy fork_cmp (map fork_of (map len_of es ++ rest)) → T (is_sorted fork_cmp es)
unfolding IsStrictlySortedBy
sorted_front [] rest order = tt
sorted_front (e ∷ es) rest order = both (below_all fork_cmp e.0 es) (is_sorted fork_cmp es) (all_below e.0 es rest order.0) (sorted_front es rest order.1)

last_below : (k : ForkId) (es : Copies) (l : ForkLen) (rest : List ForkLen) → AllByRecursion (λ y. fork_cmp k y ≡ Less) (map fork_of (map len_of es ++ (l ∷ rest))) → fork_cmp k l.fork ≡ Less
last_below k [] l rest all = all.0
last_below k (e ∷ es) l rest all = last_below k es l rest all.1

-- the next fork isn't among those before it
not_before : (es : Copies) (l : ForkLen) (rest : List ForkLen) → IsStrictlySortedBy fork_cmp (map fork_of (map len_of es ++ (l ∷ rest))) → find fork_cmp l.fork es ≡ None
unfolding IsStrictlySortedBy
not_before [] l rest order = refl
not_before (e ∷ es) l rest order =
    let apart : same_fork l.fork e.0 ≡ false = (eq_by_cmp_equiv fork_cmp_total).symm l.fork e.0 ∙ no_tie (fork_cmp e.0 l.fork) (last_below e.0 es l rest order.0) in
    ap (λ b. cond b (Some e.1) (find fork_cmp l.fork es)) apart ∙ not_before es l rest order.1

-- ---- what is found

pub found_one : (P : ForkId × ForkPages → Type 0) (es : Copies) (q : ForkId) (pages : ForkPages) → AllByRecursion P es → find fork_cmp q es ≡ Some pages → (e : ForkId × ForkPages) × P e × (q ≡ e.0) × (pages ≡ e.1)
found_one P [] q pages all is = absurd cc
found_one P (e ∷ es) q pages all is =
    elim (same_fork q e.0) as (λ b. same_fork q e.0 ≡ b → cond b (Some e.1) (find fork_cmp q es) ≡ Some pages → (x : ForkId × ForkPages) × P x × (q ≡ x.0) × (pages ≡ x.1)) [
      | true ↦ λ tie here. (e, all.0, forks_tie q e.0 tie, sym (some_is e.1 pages here))
      | false ↦ λ apart there. found_one P es q pages all.1 there
    ] refl is
  where
    some_is : (x y : ForkPages) → Some x ≡ Some y → x ≡ y
    some_is x y e = ap (λ (o : Option ForkPages). unwrap_or o x) e

pub named_copy : (copy : Store) → AllByRecursion IsNamedFork (entries copy) → HasNamedForks copy
named_copy copy all fork pages is =
    let e = found_one IsNamedFork (entries copy) fork pages all (sym (get-entries copy fork) ∙ is) in
    subst (λ (f : ForkId). IsNamed f (length pages)) (sym e.2) (subst (λ (ps : ForkPages). IsNamed e.0.0 (length ps)) (sym e.3) e.1)

-- ---- so far

pub record StoreSoFar (tells : Type 0) (seen : List Entry) (from relseg : ℕ) (list left : List ForkLen) (modified : List ℕ) (old new : Option Files) (rows : List FileRow) : Type 0 where
  pub done : List (ForkId × ForkPages)
  pub named : AllByRecursion (λ e. IsNamed e.0 (length e.1)) done
  pub whole : AllByRecursion IsWholeFork done
  pub all : map (λ e. record { fork = e.0; blocks = length e.1 }) done ++ left ≡ list
  pub pages : tells → AllByRecursion (λ e. ArePagesCopied seen from e.0 0 e.1) done
  pub puts : PutsFiles modified (flat_map (fork_files relseg) done) old new [] rows

pub store_begun : (tells : Type 0) (seen : List Entry) (from relseg : ℕ) (list : List ForkLen) (modified : List ℕ) (files : Option Files) (rows : List FileRow) → rows ≡ [] → StoreSoFar tells seen from relseg list list modified files files rows
store_begun tells seen from relseg list modified files rows none = record {
  done = [];
  named = tt;
  whole = tt;
  all = refl;
  pages = λ t. tt;
  puts = subst (λ (r : List FileRow). PutsFiles modified [] files files [] r) (sym none) (puts_none modified files []);
}

all_later : (s t : List Entry) (from : ℕ) (es : Copies) → IsPrefix s t → AllByRecursion (λ e. ArePagesCopied s from e.0 0 e.1) es → AllByRecursion (λ e. ArePagesCopied t from e.0 0 e.1) es
all_later s t from [] p all = tt
all_later s t from (e ∷ es) p all = (pages_later s t from e.0 0 e.1 p all.0, all_later s t from es p all.1)

map_push : (es : Copies) (e : ForkId × ForkPages) (rest : List ForkLen) → map len_of (es ++ (e ∷ [])) ++ rest ≡ map len_of es ++ (len_of e ∷ rest)
map_push [] e rest = refl
map_push (x ∷ es) e rest = ap (λ (l : List ForkLen). len_of x ∷ l) (map_push es e rest)

pub store_further : (tells : Type 0) (s t : List Entry) (from relseg : ℕ) (list left rest : List ForkLen) (fork : ForkLen) (modified : List ℕ) (a b c : Option Files) (r v : List FileRow) → left ≡ fork ∷ rest → IsPrefix s t
    → StoreSoFar tells s from relseg list left modified a b r → PutsFork tells t from relseg fork modified b c r v → StoreSoFar tells t from relseg list rest modified a c v
store_further tells s t from relseg list left rest fork modified a b c r v is p far adds =
    let e : ForkId × ForkPages = (fork.fork, adds.pages) in
    let same : len_of e ≡ fork = ap (λ (n : ℕ). record { fork = fork.fork; blocks = n }) adds.copies.many in
    record {
      done = far.done ++ (e ∷ []);
      named = all_append IsNamedFork far.done (e ∷ []) far.named (adds.named, tt);
      whole = all_append IsWholeFork far.done (e ∷ []) far.whole (adds.copies.sized, tt);
      all = map_push far.done e rest ∙ (ap (λ (l : ForkLen). map len_of far.done ++ (l ∷ rest)) same ∙ (ap (λ (l : List ForkLen). map len_of far.done ++ l) (sym is) ∙ far.all));
      pages = λ tells. all_append (λ (x : ForkId × ForkPages). ArePagesCopied t from x.0 0 x.1) far.done (e ∷ []) (all_later s t from far.done p (far.pages tells)) (adds.copies.copied tells, tt);
      puts =
          subst (λ (fs : List (List ℕ × List ℕ)). PutsFiles modified fs a c [] v) (sym (flat_map-append (fork_files relseg) far.done (e ∷ []) ∙ ap (λ (l : List (List ℕ × List ℕ)). flat_map (fork_files relseg) far.done ++ l) (append-nil (fork_files relseg e))))
          (puts_on modified (flat_map (fork_files relseg) far.done) (fork_files relseg e) a b c [] r v far.puts adds.puts);
    }

-- the files of copies are those of the store that has them
files_by : (relseg : ℕ) (es : Copies) → T (is_sorted fork_cmp es) → store_files relseg (from_sorted es) ≡ flat_map (fork_files relseg) es
files_by relseg es sorted = ap (flat_map (fork_files relseg)) (entries-from_sorted fork_cmp es sorted)

lacks_in : (old new : Option Files) (put : List (List ℕ × List ℕ)) (name : List ℕ) → HoldsNothing old → new ≡ option_map (λ m. with_files m put) old → get (with_files empty put) name ≡ None → Lacks new name
lacks_in None new put name nothing stand none = subst (λ (o : Option Files). Lacks o name) (sym stand) tt
lacks_in (Some m) new put name nothing stand none =
    subst (λ (o : Option Files). Lacks o name) (sym stand) (ap (λ (x : Files). get (with_files x put) name) nothing ∙ none)

-- the next fork's files aren't there yet
pub next_fork : (tells : Type 0) (seen : List Entry) (from relseg : ℕ) (list left rest : List ForkLen) (fork : ForkLen) (modified : List ℕ) (old new : Option Files) (rows : List FileRow) → 0 < relseg → IsStrictlySortedBy fork_cmp (map fork_of list) → HoldsNothing old → left ≡ fork ∷ rest
    → StoreSoFar tells seen from relseg list left modified old new rows → LacksFork new fork.fork
next_fork tells seen from relseg list left rest fork modified old new rows some order nothing is far seg named =
    let ordered : IsStrictlySortedBy fork_cmp (map fork_of (map len_of far.done ++ (fork ∷ rest))) =
    subst (λ (l : List ForkLen). IsStrictlySortedBy fork_cmp (map fork_of l)) (sym far.all ∙ ap (λ (l : List ForkLen). map len_of far.done ++ l) is) order in
    let sorted = sorted_front far.done (fork ∷ rest) ordered in
    let copy : Store = from_sorted far.done in
    let all : AllByRecursion IsNamedFork (entries copy) = subst (AllByRecursion IsNamedFork) (sym (entries-from_sorted fork_cmp far.done sorted)) far.named in
    let gone : get copy fork.fork ≡ None = get-from_sorted fork_cmp far.done fork.fork sorted ∙ not_before far.done fork rest ordered in
    let path = fork_path_bytes fork.fork seg false in
    lacks_in old new (flat_map (fork_files relseg) far.done) path nothing far.puts.stand
    (ap (λ (fs : List (List ℕ × List ℕ)). get (with_files empty fs) path) (sym (files_by relseg far.done sorted))
    ∙ (held relseg copy fork.fork seg some (named_copy copy all) named ∙ ap (segment_in relseg seg) gone))

pub store_put : (tells : Type 0) (seen : List Entry) (from relseg : ℕ) (list left : List ForkLen) (modified : List ℕ) (old new : Option Files) (rows : List FileRow) → IsStrictlySortedBy fork_cmp (map fork_of list) → left ≡ [] → StoreSoFar tells seen from relseg list left modified old new rows
    → PutsStore tells seen from relseg list modified old new rows
store_put tells seen from relseg list left modified old new rows order none far =
    let all : map len_of far.done ++ [] ≡ list = ap (λ (l : List ForkLen). map len_of far.done ++ l) (sym none) ∙ far.all in
    let ordered : IsStrictlySortedBy fork_cmp (map fork_of (map len_of far.done ++ [])) = subst (λ (l : List ForkLen). IsStrictlySortedBy fork_cmp (map fork_of l)) (sym all) order in
    let sorted = sorted_front far.done [] ordered in
    let copy : Store = from_sorted far.done in
    let is = entries-from_sorted fork_cmp far.done sorted in
    record {
      copy = copy;
      named = subst (AllByRecursion IsNamedFork) (sym is) far.named;
      whole = subst (AllByRecursion IsWholeFork) (sym is) far.whole;
      lengths = ap (map len_of) is ∙ (sym (append-nil (map len_of far.done)) ∙ all);
      pages = λ t. subst (AllByRecursion (λ (x : ForkId × ForkPages). ArePagesCopied seen from x.0 0 x.1)) (sym is) (far.pages t);
      puts = subst (λ (fs : List (List ℕ × List ℕ)). PutsFiles modified fs old new [] rows) (sym (files_by relseg far.done sorted)) far.puts;
    }

-- ---- the copy, block by block

-- a fork has as many blocks as were listed
as_listed : (es : Copies) (fork : ForkId) → option_map length (find fork_cmp fork es) ≡ listed_length (map len_of es) fork
unfolding is_same_fork
as_listed [] fork = refl
as_listed (e ∷ es) fork = by_test (same_fork fork e.0) (as_listed es fork)
  where
    by_test : (b : Bool) → option_map length (find fork_cmp fork es) ≡ option_map (λ l. l.blocks) (list.find (λ l. same_fork fork l.fork) (map len_of es))
        → option_map length (cond b (Some e.1) (find fork_cmp fork es)) ≡ option_map (λ l. l.blocks) (cond b (Some (len_of e)) (list.find (λ l. same_fork fork l.fork) (map len_of es)))
    by_test true rest = refl
    by_test false rest = rest

page_in : (seen : List Entry) (from : ℕ) (fork : ForkId) (at block : ℕ) (pages : ForkPages) (page : List ℕ) → ArePagesCopied seen from fork at pages → slice_get pages block ≡ Some page → IsPageCopied seen from fork (at + block) page
page_in seen from fork at block [] page are is = absurd cc
page_in seen from fork at zero (p ∷ pages) page are is =
    subst (λ (n : ℕ). IsPageCopied seen from fork n page) (omega arith) (subst (IsPageCopied seen from fork at) (some_is p page is) are.0)
  where
    some_is : (x y : List ℕ) → Some x ≡ Some y → x ≡ y
    some_is x y e = ap (λ (o : Option (List ℕ)). unwrap_or o x) e
page_in seen from fork at (suc block) (p ∷ pages) page are is = subst (λ (n : ℕ). IsPageCopied seen from fork n page) (omega arith) (page_in seen from fork (at + 1) block pages page are.1 is)

block_in : (o : Option ForkPages) (block : ℕ) (page : List ℕ) → (o >>= λ pages. slice_get pages block) ≡ Some page → (pages : ForkPages) × (o ≡ Some pages) × (slice_get pages block ≡ Some page)
block_in None block page is = absurd cc
block_in (Some pages) block page is = (pages, refl, is)

page_of : (seen : List Entry) (from : ℕ) (copy : Store) (fork : ForkId) (block : ℕ) (page : List ℕ) → AllByRecursion (λ e. ArePagesCopied seen from e.0 0 e.1) (entries copy) → block_of copy fork block ≡ Some page → IsPageCopied seen from fork block page
page_of seen from copy fork block page all is =
    let b = block_in (get copy fork) block page is in
    let e = found_one (λ x. ArePagesCopied seen from x.0 0 x.1) (entries copy) fork b.0 all (sym (get-entries copy fork) ∙ b.1) in
    let pages : ArePagesCopied seen from fork 0 b.0 = subst (λ (f : ForkId). ArePagesCopied seen from f 0 b.0) (sym e.2) (subst (ArePagesCopied seen from e.0.0 0) (sym e.3) e.1) in
    subst (λ (n : ℕ). IsPageCopied seen from fork n page) (omega arith) (page_in seen from fork 0 block b.0 page pages b.2)

pub listed_later : (s t : List Entry) (from : ℕ) (fork : ForkId) (found : Option ℕ) → IsPrefix s t → IsForkListed s from fork found → IsForkListed t from fork found
listed_later s t from fork found p is = record { moment = is.moment; before = prefix_trans is.moment s t is.before p; redo = is.redo; listed = is.listed }

pub stands_of : (old new : Option Files) (put : List (List ℕ × List ℕ)) → HoldsNothing old → new ≡ option_map (λ m. with_files m put) old → IfSome new (λ m. m ≡ with_files empty put)
stands_of None new put nothing stand = subst (λ (o : Option Files). IfSome o (λ m. m ≡ with_files empty put)) (sym stand) tt
stands_of (Some m) new put nothing stand = subst (λ (o : Option Files). IfSome o (λ n. n ≡ with_files empty put)) (sym stand) (ap (λ (x : Files). with_files x put) nothing)

pub store_copied : (tells : Type 0) (s t : List Entry) (from relseg : ℕ) (list : List ForkLen) (modified : List ℕ) (old new : Option Files) (rows : List FileRow) → HoldsNothing old → IsPrefix s t → ListsForks tells s from list → PutsStore tells t from relseg list modified old new rows
    → CopiesStore tells t from relseg modified new rows
store_copied tells s t from relseg list modified old new rows nothing p lists puts =
    let copy = puts.copy in
    let counted : (fork : ForkId) → block_count copy fork ≡ listed_length list fork = λ fork.
    ap (option_map length) (get-entries copy fork) ∙ (as_listed (entries copy) fork ∙ ap (λ (l : List ForkLen). listed_length l fork) puts.lengths) in
    record {
      copy = copy;
      held = record {
        named = puts.named;
        whole = puts.whole;
        stand = stands_of old new (store_files relseg copy) nothing puts.puts.stand;
        listed = puts.puts.listed;
      };
      copied = λ told. record {
        forks = λ fork. subst (IsForkListed t from fork) (sym (counted fork)) (listed_later s t from fork (listed_length list fork) p (lists.listed told fork));
        pages = λ fork block page is. page_of t from copy fork block page (puts.pages told) is;
      };
    }
