-- Entries redone over pages, in turn, and as many forks and pages as there are.
use Rattle.std.proofs.Common.{◌≡◌, ℕ, ◌+◌, ◌<◌, ◌≤◌, ℤ, List, [], ◌∷◌, ◌++◌, length, take, drop, map, get_or, IfSome, Option, Some, None, Result, Ok, Err, refl, sym, ap, subst, ◌∙◌}
use Rattle.std.specs.Result.{IsErrAnd}
use Rattle.std.specs.Prelude.{slice_get}
use Rattle.std.proofs.lemmas.List.{map-append, take-append-drop, take_more, take_all}
use Rattle.std.proofs.lemmas.Option.{slice_get-get_or}
use Rattle.lsn_core.specs.byte_words.Numbers.{◌>>=◌}
use Rattle.lsn_core.specs.Relation.{Relation}
use Rattle.lsn_core.specs.Shown.{Turns}
use Rattle.lsn_core.specs.declared.ids.ForkId.{ForkId}
use Rattle.lsn_core.specs.Store.{Store}
use Rattle.lsn_core.specs.Blocks.{block_count, without_fork}
use Rattle.lsn_core.specs.declared.pages.Pages.{Ghosts as PagesGhosts}
use Rattle.wal_record.specs.declared.record.Record.{Record}
use Rattle.wal_record.specs.declared.record.BlockRef.{BlockRef}
use Rattle.wal_record.specs.declared.record.Kind.{Kind}
use Rattle.wal_record.specs.declared.record.Kind.TheVariants.{Commit}
use Rattle.wal_record.specs.Spelling.{blocks_of}
use Rattle.history.specs.Apply.{Rule, main_fork, init_fork, without_rel, without_rels, act_by, item_by, items_by}
use Rattle.history.specs.Whole.{item_of, commit_act, act_with}
use Rattle.history.specs.declared.op.Item.{Item}
use Rattle.std.proofs.Math.Seq.{take-length}
use Rattle.history.specs.Redo.{Redoes, redone, redo, redo_all}
use Rattle.generic_redo.specs.Redo.{ref_redone}
use Rattle.generic_redo.proofs.Folds.{refs_redone, refs_more}
use Rattle.recovery.specs.declared.tally.Tally.{Tally}
use Rattle.recovery.specs.Tally.{fork_tally, IsRecounted, IsTallyOf}
use Rattle.recovery.specs.Inside.{IsRedone, RedoesCounted, RedoesNone, IsRefOf, IsChange}
use Rattle.recovery.proofs.Tallies.{recounted, IsMoved, moved_removed}

-- the fault that a function hands on is the one that it was handed
pub fault_again : {T E : Type 0} (r : Result T E) (fault other : E) → IsErrAnd r (λ e. e ≡ fault) → r ≡ Err other → ◌≡◌ {A = Result T E} (Err fault) (Err other)
fault_again (Ok x) fault other is e = absurd is
fault_again (Err f) fault other is e = ap (λ x. Err x) (sym is) ∙ e

-- ---- changes in turn

pub one_after_other : (shown : Store → Type 0) (old mid new : Tally) (s next : Store) (f : Store → Option Store) (o : Option Store) → o ≡ Some next → (IsTallyOf old s → IsTallyOf mid next) → IsRedone shown mid new next (f next) → IsRedone shown old new s (o >>= f)
one_after_other shown old mid new s next f o made counted then = record {
  next = then.next;
  made = ap (λ (x : Option Store). x >>= f) made ∙ then.made;
  shown = then.shown;
  counted = λ tally. then.counted (counted tally);
}

module _ {P : Type 0} (shows : P → Store → Type 0) where
  -- nothing is changed
  pub nothing_redone : (p : P) (tally : Tally) → RedoesCounted shows p p tally tally (λ s. Some s)
  nothing_redone p tally s shown = record { next = s; made = refl; shown = shown; counted = λ t. t }

  -- one change behind another
  pub both_redone : (a b c : P) (old mid new : Tally) (f g h : Store → Option Store) → ((s : Store) → h s ≡ (f s >>= g)) → RedoesCounted shows a b old mid f → RedoesCounted shows b c mid new g → RedoesCounted shows a c old new h
  both_redone a b c old mid new f g h split first then s shown =
      let one = first s shown in
      subst (IsRedone (shows c) old new s) (sym (split s)) (one_after_other (shows c) old mid new s one.next g (f s) one.made one.counted (then one.next one.shown))

  pub none_behind : (a b : P) (old mid : Tally) (f g h : Store → Option Store) → ((s : Store) → h s ≡ (f s >>= g)) → RedoesCounted shows a b old mid f → RedoesNone shows b g → RedoesNone shows a h
  none_behind a b old mid f g h split first then s shown =
      let one = first s shown in
      split s ∙ ap (λ (x : Option Store). x >>= g) one.made ∙ then one.next one.shown

  -- a change of one fork, between two looks at its blocks
  pub fork_redone : (a b c d : P) (before now : Option ℕ) (old new : Tally) (fork : ForkId) (f : Store → Option Store)
      → ((s next : Store) → f s ≡ Some next → IsMoved s next fork)
      → ((s : Store) → shows a s → before ≡ block_count s fork) → ((s : Store) → shows a s → shows b s)
      → Redoes shows b c f
      → ((s : Store) → shows c s → now ≡ block_count s fork) → ((s : Store) → shows c s → shows d s)
      → IsRecounted (fork_tally before) (fork_tally now) old new → RedoesCounted shows a d old new f
  fork_redone a b c d before now old new fork f moves counts same redoes recounts stays told s shown =
      let one = redoes s (same s shown) in
      record {
        next = one.0;
        made = one.1.0;
        shown = stays one.0 one.1.1;
        counted = recounted before now old new s one.0 fork (moves s one.0 one.1.0) (counts s shown) (recounts one.0 one.1.1) told;
      }

-- ---- the block references of an entry

only_some : (s t : Store) → ◌≡◌ {A = Option Store} (Some s) (Some t) → s ≡ t
only_some s t e = cc

commit_by : (end : ℕ) (s : Store) (time : ℤ) (rels : List Relation) → act_by redone end s (commit_act time rels) ≡ Some (without_rels s rels)
commit_by end s time [] = refl
commit_by end s time (rel ∷ rels) = refl

rels_push : (s : Store) (rels : List Relation) (rel : Relation) → without_rels s (rels ++ (rel ∷ [])) ≡ without_rel (without_rels s rels) rel
rels_push s [] rel = refl
rels_push s (x ∷ rels) rel = rels_push (without_rel s x) rels rel

-- with all of them the entry is redone
pub change_is : (r : Record) (blocks : List BlockRef) (s : Store) → IsChange r blocks → redo s r ≡ refs_redone r (length blocks) s
change_is r blocks s change =
    ap (act_by redone r.end.0 s) change.act
    ∙ ap (λ (bs : List BlockRef). items_by redone r.end.0 s (map item_of bs)) (sym (ap (take (length blocks)) (sym change.blocks_are) ∙ take-length blocks))

-- that of a number is of the fork of its block
pub is_ref : (r : Record) (blocks : List BlockRef) (i : ℕ) (d : BlockRef) → IsChange r blocks → i < length blocks → IsRefOf r i (get_or blocks i d).at.fork
is_ref r blocks i d change within = record {
  there = subst (λ (bs : List BlockRef). i < length bs) change.blocks_are within;
  fork_is = subst (λ (o : Option BlockRef). IfSome o (λ b. b.at.fork ≡ (get_or blocks i d).at.fork))
      (sym (ap (λ (bs : List BlockRef). slice_get bs i) (sym change.blocks_are) ∙ slice_get-get_or blocks i d within)) refl;
}

-- where one can't be redone, the entry can't
none_on : (o : Option Store) (f g : Store → Option Store) → ((t : Store) → f t ≡ None → g t ≡ None) → (o >>= f) ≡ None → (o >>= g) ≡ None
none_on None f g step e = refl
none_on (Some t) f g step e = step t e

items_none : (rule : Rule) (end : ℕ) (s : Store) (xs ys : List Item) → items_by rule end s xs ≡ None → items_by rule end s (xs ++ ys) ≡ None
items_none rule end s [] ys e = absurd cc
items_none rule end s (x ∷ xs) ys e = none_on (item_by rule end s x) (λ t. items_by rule end t xs) (λ t. items_by rule end t (xs ++ ys)) (λ t. items_none rule end t xs ys) e

pub change_none : (r : Record) (blocks : List BlockRef) (count : ℕ) (s : Store) → IsChange r blocks → refs_redone r count s ≡ None → redo s r ≡ None
change_none r blocks count s change none =
    ap (act_by redone r.end.0 s) change.act
    ∙ ap (items_by redone r.end.0 s) (ap (map item_of) (sym (take-append-drop count blocks)) ∙ map-append item_of (take count blocks) (drop count blocks))
    ∙ items_none redone r.end.0 s (map item_of (take count blocks)) (map item_of (drop count blocks)) (ap (λ (bs : List BlockRef). items_by redone r.end.0 s (map item_of (take count bs))) change.blocks_are ∙ none)

module _ {P : Type 0} (shows : P → Store → Type 0) where
  pub all_refs : (a b : P) (old new : Tally) (r : Record) (blocks : List BlockRef) (i : ℕ) → i ≡ length blocks → IsChange r blocks → RedoesCounted shows a b old new (refs_redone r i) → RedoesCounted shows a b old new (λ s. redo s r)
  all_refs a b old new r blocks i all change refs s shown =
      subst (IsRedone (shows b) old new s) (ap (λ (n : ℕ). refs_redone r n s) all ∙ sym (change_is r blocks s change)) (refs s shown)

  pub one_more_ref : (a b c : P) (old mid new : Tally) (r : Record) (i : ℕ) → i < length (blocks_of r.kind) → RedoesCounted shows a b old mid (refs_redone r i) → RedoesCounted shows b c mid new (ref_redone r i) → RedoesCounted shows a c old new (refs_redone r (i + 1))
  one_more_ref a b c old mid new r i within first then =
      both_redone shows a b c old mid new (refs_redone r i) (ref_redone r i) (refs_redone r (i + 1)) (λ s. refs_more r i s within) first then

  pub bad_ref : (a b : P) (old mid : Tally) (r : Record) (blocks : List BlockRef) (i : ℕ) → i < length blocks → IsChange r blocks → RedoesCounted shows a b old mid (refs_redone r i) → RedoesNone shows b (ref_redone r i) → RedoesNone shows a (λ s. redo s r)
  bad_ref a b old mid r blocks i within change first then s shown =
      let none : refs_redone r (i + 1) s ≡ None = none_behind shows a b old mid (refs_redone r i) (ref_redone r i) (refs_redone r (i + 1))
      (λ t. refs_more r i t (subst (λ (bs : List BlockRef). i < length bs) change.blocks_are within)) first then s shown in
      change_none r blocks (i + 1) s change none

  -- an entry that changes nothing
  pub still_redone : (p : P) (tally : Tally) (r : Record) (k : Kind) → r.kind ≡ k → ((s : Store) → act_by redone r.end.0 s (act_with (map item_of) k) ≡ Some s) → RedoesCounted shows p p tally tally (λ s. redo s r)
  still_redone p tally r k is still s shown = record {
    next = s;
    made = ap (λ (k : Kind). act_by redone r.end.0 s (act_with (map item_of) k)) is ∙ still s;
    shown = shown;
    counted = λ t. t;
  }

  -- ---- relations that are dropped

  pub dropped_fork : (a b c d : P) (before now : Option ℕ) (old new : Tally) (fork : ForkId) → ((s : Store) → shows a s → before ≡ block_count s fork) → ((s : Store) → shows a s → shows b s)
      → Turns shows b c (λ s. without_fork s fork)
      → ((s : Store) → shows c s → now ≡ block_count s fork) → ((s : Store) → shows c s → shows d s)
      → IsRecounted (fork_tally before) (fork_tally now) old new → RedoesCounted shows a d old new (λ s. Some (without_fork s fork))
  dropped_fork a b c d before now old new fork counts same turns recounts stays told =
      fork_redone shows a b c d before now old new fork (λ s. Some (without_fork s fork))
      (λ s next e. subst (λ (t : Store). IsMoved s t fork) (only_some (without_fork s fork) next e) (moved_removed s fork)) counts same (λ s shown. (without_fork s fork, (refl, turns s shown))) recounts stays told

  -- both forks of the next relation
  pub one_more_rel : (a b c d : P) (old mid then new : Tally) (rels : List Relation) (i : ℕ) (rel : Relation) (main init : ForkId) → i < length rels → rel ≡ get_or rels i rel → main ≡ main_fork rel → init ≡ init_fork rel
      → RedoesCounted shows a b old mid (λ s. Some (without_rels s (take i rels)))
      → RedoesCounted shows b c mid then (λ s. Some (without_fork s main)) → RedoesCounted shows c d then new (λ s. Some (without_fork s init))
      → RedoesCounted shows a d old new (λ s. Some (without_rels s (take (i + 1) rels)))
  one_more_rel a b c d old mid then new rels i rel main init lt is is_main is_init before first second =
      both_redone shows a c d old then new (λ s. Some (without_fork (without_rels s (take i rels)) main)) (λ s. Some (without_fork s init)) (λ s. Some (without_rels s (take (i + 1) rels)))
      (λ s. ap (λ (l : List Relation). Some (without_rels s l)) (take_more rels i rel lt ∙ ap (λ (x : Relation). take i rels ++ (x ∷ [])) (sym is)) ∙ ap (λ (t : Store). Some t) (rels_push s (take i rels) rel)
      ∙ sym (ap (λ (m : ForkId). Some (without_fork (without_fork (without_rels s (take i rels)) m) init)) is_main ∙ ap (λ (n : ForkId). Some (without_fork (without_fork (without_rels s (take i rels)) (main_fork rel)) n)) is_init))
      (both_redone shows a b c old mid then (λ s. Some (without_rels s (take i rels))) (λ s. Some (without_fork s main)) (λ s. Some (without_fork (without_rels s (take i rels)) main)) (λ s. refl) before first)
      second

  pub all_rels : (a b : P) (old new : Tally) (rels : List Relation) (i : ℕ) → length rels ≤ i → RedoesCounted shows a b old new (λ s. Some (without_rels s (take i rels))) → RedoesCounted shows a b old new (λ s. Some (without_rels s rels))
  all_rels a b old new rels i all gone s shown = subst (λ (l : List Relation). IsRedone (shows b) old new s (Some (without_rels s l))) (take_all i rels all) (gone s shown)

  pub commit_counted : (a b : P) (old new : Tally) (r : Record) (time : ℤ) (rels : List Relation) → r.kind ≡ Commit time rels → RedoesCounted shows a b old new (λ s. Some (without_rels s rels)) → RedoesCounted shows a b old new (λ s. redo s r)
  commit_counted a b old new r time rels is gone s shown =
      subst (IsRedone (shows b) old new s) (sym (ap (λ (k : Kind). act_by redone r.end.0 s (act_with (map item_of) k)) is ∙ commit_by r.end.0 s time rels)) (gone s shown)

-- so many relations were dropped
pub record RelsDropped {P : Type 0} (p : PagesGhosts P) (before behind : P) (old new : Tally) (rels : List Relation) (count : ℕ) : Type 0 where
  pub redone : RedoesCounted p.shows before behind old new (λ s. Some (without_rels s (take count rels)))
  pub kept : p.keeps before behind
  pub later : p.faults before ≤ p.faults behind

-- so many of them were redone
pub record RefsKept {P : Type 0} (p : PagesGhosts P) (before behind : P) (old new : Tally) (r : Record) (count : ℕ) : Type 0 where
  pub redone : RedoesCounted p.shows before behind old new (refs_redone r count)
  pub kept : p.keeps before behind
  pub later : p.faults before ≤ p.faults behind

-- ---- entries in turn

last : (o : Option Store) → (o >>= λ t. Some t) ≡ o
last None = refl
last (Some t) = refl

pushed : (o : Option Store) (f g h : Store → Option Store) → ((t : Store) → f t ≡ (g t >>= h)) → (o >>= f) ≡ ((o >>= g) >>= h)
pushed None f g h behind = refl
pushed (Some t) f g h behind = behind t

pub redo_all-push : (s : Store) (rs : List Record) (r : Record) → redo_all s (rs ++ (r ∷ [])) ≡ (redo_all s rs >>= λ t. redo t r)
redo_all-push s [] r = last (redo s r)
redo_all-push s (q ∷ rs) r = pushed (redo s q) (λ t. redo_all t (rs ++ (r ∷ []))) (λ t. redo_all t rs) (λ t. redo t r) (λ t. redo_all-push t rs r)
