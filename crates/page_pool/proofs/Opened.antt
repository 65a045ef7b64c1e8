-- A partition that is opened over its area: it has the pages that the area's files hold.
use Rattle.std.proofs.Common.{◌≡◌, ℕ, suc, ◌+◌, ◌<◌, Bool, true, false, cond, T, ◌&&◌, List, [], ◌∷◌, ◌++◌, map, fold, take, length, get_or, arith, Option, Some, None, IsSome, option_map, refl, ap, sym, subst, ◌∙◌}
use Rattle.std.specs.Global.{Vec}
use Rattle.std.specs.declared.cmp.Ordering.{Ordering}
use Rattle.std.specs.declared.cmp.Ordering.TheVariants.{Less, Equal, Greater}
use Rattle.std.specs.Ordering.{is_eq, is_lt}
use Rattle.std.specs.FinMap.{get, insert, entries, find, is_sorted, entries_sorted, get-entries, get-insert, empty, get-empty}
use Rattle.std.specs.FinMap.Entries.{below_all}
use Rattle.std.proofs.lemmas.List.Sums.{fold-append}
use Rattle.std.proofs.Math.Seq.{take-suc}
use Rattle.lsn_core.specs.declared.lsn.Lsn.{Lsn}
use Rattle.lsn_core.specs.declared.ids.ForkId.{ForkId}
use Rattle.lsn_core.specs.declared.ids.BlockId.{BlockId}
use Rattle.lsn_core.specs.declared.ids.ForkLen.{ForkLen}
use Rattle.lsn_core.specs.Store.{Store, ForkPages, fork_cmp}
use Rattle.lsn_core.specs.Blocks.{block_count}
use Rattle.lsn_core.specs.Shown.{Turns}
use Rattle.lsn_core.specs.Files.{Files}
use Rattle.lsn_core.proofs.ForkOrder.{fork_cmp_total}
use Rattle.lsn_core.specs.Segment.{IsRelseg}
use Rattle.vault.specs.Frame.{OnlyReads}
use Rattle.vault.specs.declared.area.Vault.{Ghosts}
use Rattle.rel_files.specs.Forks.{whole_pages, fork_lengths}
use Rattle.rel_files.specs.Shown.{HoldsStore}
use Rattle.rel_files.specs.declared.forks.Forks.{Forks}
use Rattle.rel_files.proofs.WholePages.{whole_all}
use Rattle.history.specs.Apply.{is_same_fork}
use Rattle.history.proofs.Stores.{by_test, fork_is}
use Rattle.page_frames.specs.Framed.{Framed, Held, HeldFrames, ForkLengths, held_page, block_cmp}
use Rattle.page_frames.specs.Overlay.{pages_over, marks_over}
use Rattle.page_pool.specs.declared.work.Pending.{Pending}
use Rattle.page_pool.specs.Part.{LacksUnwritten}
use Rattle.page_pool.specs.Told.{told_page}
use Rattle.page_pool.specs.Steps.{IsClean}
use Rattle.page_pool.specs.Calls.{AreWholePages}
use Rattle.page_pool.specs.Laws.{AreFramesOf}
use Rattle.page_pool.specs.Opening.{HoldsWhole, ShowsPages, listed_length, AreLengths}
use Rattle.page_pool.specs.Partition.{part_in, IsPartition}
use Rattle.page_pool.proofs.Behind.{lack_nothing}
use Rattle.page_pool.proofs.Lifted.{has_whole}
use Rattle.page_pool.proofs.Shown.{pages_shown, unheld_clean}

-- ---- lengths that are set in turn

got_length : (m : ForkLengths) (k : ForkId) (v : ℕ) (q : ForkId) → get (insert m k v) q ≡ cond (is_same_fork q k) (Some v) (get m q)
unfolding is_same_fork
got_length m k v q = get-insert fork_cmp_total m k v q

pub none_listed : (lengths : ForkLengths) → lengths ≡ empty → AreLengths [] lengths
none_listed lengths is fork = ap (λ (m : ForkLengths). get m fork) is ∙ get-empty fork_cmp fork

pub one_listed : (list : List ForkLen) (one : ForkLen) (old new : ForkLengths) → AreLengths list old → new ≡ insert old one.fork one.blocks → AreLengths (list ++ (one ∷ [])) new
one_listed list one old new listed is fork =
    ap (λ (m : ForkLengths). get m fork) is ∙ got_length old one.fork one.blocks fork ∙ ap (λ (o : Option ℕ). cond (is_same_fork fork one.fork) (Some one.blocks) o) (listed fork)
    ∙ sym (fold-append (listed_length fork) None list (one ∷ []))

pub one_more : (list : List ForkLen) (i : ℕ) (one : ForkLen) (old new : ForkLengths) → i < length list → one ≡ get_or list i one → AreLengths (take i list) old → new ≡ insert old one.fork one.blocks → AreLengths (take (i + 1) list) new
one_more list i one old new less is listed put =
    let next : i + 1 ≡ suc i = omega arith in
    let more : take (i + 1) list ≡ take i list ++ (one ∷ []) = ap (λ (k : ℕ). take k list) next ∙ take-suc list i one less ∙ ap (λ (x : ForkLen). take i list ++ (x ∷ [])) (sym is) in
    subst (λ (ls : List ForkLen). AreLengths ls new) (sym more) (one_listed (take i list) one old new listed put)

-- ---- of the forks of a store

lower_apart : (o : Ordering) → T (is_lt o) → is_eq o ≡ false
lower_apart Less h = refl
lower_apart Equal h = absurd h
lower_apart Greater h = absurd h

first_of : (a b : Bool) → T (a && b) → T a
first_of true b h = tt
first_of false b h = absurd h

second_of : (a b : Bool) → T (a && b) → T b
second_of true b h = h
second_of false b h = absurd h

abbrev Forks_ : Type 0
Forks_ = List (ForkId × ForkPages)

none_below : (q : ForkId) (es : Forks_) → T (below_all fork_cmp q es) → find fork_cmp q es ≡ None
none_below q [] h = refl
none_below q (e ∷ es) h =
    ap (λ (b : Bool). cond b (Some e.1) (find fork_cmp q es)) (lower_apart (fork_cmp q e.0) (first_of (is_lt (fork_cmp q e.0)) (below_all fork_cmp q es) h))
    ∙ none_below q es (second_of (is_lt (fork_cmp q e.0)) (below_all fork_cmp q es) h)

abbrev len_of : ForkId × ForkPages → ForkLen
len_of e = record { fork = e.0; blocks = length (whole_pages e.1) }

abbrev pick : Option ForkPages → Option ℕ → Option ℕ
pick None before = before
pick (Some pages) before = Some (length (whole_pages pages))

found_or : (q : ForkId) (e : ForkId × ForkPages) (es : Forks_) → find fork_cmp q (e ∷ es) ≡ cond (is_same_fork q e.0) (Some e.1) (find fork_cmp q es)
unfolding is_same_fork
found_or q e es = refl

last_is : (es : Forks_) (before : Option ℕ) (q : ForkId) → T (is_sorted fork_cmp es) → fold (listed_length q) before (map len_of es) ≡ pick (find fork_cmp q es) before
last_is [] before q h = refl
last_is (e ∷ es) before q h =
    last_is es (listed_length q before (len_of e)) q (second_of (below_all fork_cmp e.0 es) (is_sorted fork_cmp es) h)
    ∙ by_test (is_same_fork q e.0)
    (λ here.
    let none = ap (λ (f : ForkId). find fork_cmp f es) (fork_is q e.0 here) ∙ none_below e.0 es (first_of (below_all fork_cmp e.0 es) (is_sorted fork_cmp es) h) in
    ap (λ (o : Option ForkPages). pick o (listed_length q before (len_of e))) none ∙ ap (λ c. cond c (Some (length (whole_pages e.1))) before) here
    ∙ sym (ap (λ (o : Option ForkPages). pick o before) (found_or q e es ∙ ap (λ c. cond c (Some e.1) (find fork_cmp q es)) here)))
    (λ apart.
    ap (λ (m : Option ℕ). pick (find fork_cmp q es) m) (ap (λ c. cond c (Some (length (whole_pages e.1))) before) apart)
    ∙ sym (ap (λ (o : Option ForkPages). pick o before) (found_or q e es ∙ ap (λ c. cond c (Some e.1) (find fork_cmp q es)) apart)))

stored_lengths : (store : Store) (lengths : ForkLengths) → AreWholePages store → AreLengths (fork_lengths store) lengths → (q : ForkId) → get lengths q ≡ block_count store q
stored_lengths store lengths whole listed q =
    listed q ∙ last_is (entries store) None q (entries_sorted store) ∙ ap (λ (o : Option ForkPages). pick o None) (sym (get-entries store q)) ∙ by (get store q) refl
  where
    by : (o : Option ForkPages) → get store q ≡ o → pick o None ≡ option_map length o
    by None is = refl
    by (Some pages) is = ap (λ (ps : ForkPages). Some (length ps)) (whole_all pages (has_whole store whole q pages is))

-- ---- the partition

pub some_blocks : (old new : ℕ) → IsRelseg old → new ≡ old → 0 < new
some_blocks old new is e = (let l = is.least in omega (arith, l, e))

pub told_too : {V : Type 0} (g : Ghosts V) (old new : Forks V) → OnlyReads g old.area new.area → IsSome (g.files new.area) → IsSome (g.files old.area)
told_too g old new reads told = subst (λ (o : Option Files). IsSome o) reads.files told

none_held : (f : Framed) → f.held ≡ empty → (at : BlockId) → held_page f.held at ≡ None
none_held f none at = ap (λ (m : HeldFrames). held_page m at) none ∙ ap (option_map (λ (h : Held). h.page)) (get-empty block_cmp at)

module _ {V : Type 0} (g : Ghosts V) (old new : Forks V) (frames : Framed) (works : Vec Pending) (point flushed : Lsn) (some : 0 < new.relseg) (turns : Turns (HoldsStore g) old new (λ s. s)) (none : frames.held ≡ empty) (empty_works : works.items ≡ [])
    (listed : (s : Store) → HoldsStore g old s → AreLengths (fork_lengths s) frames.lengths) where
  framed : (pages : Store) → HoldsStore g old pages → AreWholePages pages → AreFramesOf pages frames
  framed pages held whole = record {
    lengths = stored_lengths pages frames.lengths whole (listed pages held);
    blocks = λ at page has there is. absurd (let no : None ≡ Some has = sym (none_held frames none at) ∙ is in cc);
  }

  shown : (pages : Store) → HoldsStore g old pages → AreWholePages pages → pages_over (told_page new.relseg (g.files new.area)) frames ≡ pages
  shown pages held whole =
      let files = (turns pages held).files in
      ap (λ (o : Option Files). pages_over (told_page new.relseg o) frames) files.are_told
      ∙ pages_shown new.relseg files.files pages pages [] frames some files.hold (lack_nothing pages (marks_over frames)) whole (framed pages held whole)

  pub opened_holds : {Q : ℕ} → (IsSome (g.files new.area) → HoldsWhole g old) → IsPartition {V = V} {Q = Q} g (record { disk = new; frames = frames; works = works; point = point; flushed = flushed })
  opened_holds {Q} holds = record {
    some = some;
    holds = λ told.
        let h = holds told in
        let is = shown h.pages h.held h.whole in
        record {
          raw = h.pages;
          held = turns h.pages h.held;
          lacks = subst (λ (s : Store). LacksUnwritten h.pages s (marks_over frames) works.items) (sym is)
              (subst (λ (ws : List Pending). LacksUnwritten h.pages h.pages (marks_over frames) ws) (sym empty_works) (lack_nothing h.pages (marks_over frames)));
          whole = subst AreWholePages (sym is) h.whole;
        };
  }

  pub opened_shows : ShowsPages g old (pages_over (told_page new.relseg (g.files new.area)) frames)
  opened_shows told pages held whole = shown pages held whole

  pub opened_clean : (Q : ℕ) → IsClean (part_in {V = V} {Q = Q} g (record { disk = new; frames = frames; works = works; point = point; flushed = flushed }))
  opened_clean Q = record {
    marks = λ fork block. unheld_clean frames (record { fork = fork; block = block }) (none_held frames none (record { fork = fork; block = block }));
    works = empty_works;
  }
