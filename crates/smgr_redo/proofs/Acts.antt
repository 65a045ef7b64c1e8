-- What a creation and a truncation do to a store.
use Rattle.std.proofs.Common.{◌≡◌, ℕ, ◌+◌, ◌/◌, ◌<◌, ◌≤◌, ℤ, Bool, true, false, cond, List, [], ◌∷◌, length, get_or, drop, map, Some, refl, ap, sym, subst, ◌∙◌}
use Rattle.lsn_core.specs.Relation.{Relation}
use Rattle.lsn_core.specs.declared.ids.ForkId.{ForkId}
use Rattle.lsn_core.specs.Store.{Store}
use Rattle.lsn_core.specs.Shown.{Turns}
use Rattle.lsn_core.specs.Blocks.{with_fork, with_cut, without_fork}
use Rattle.wal_record.specs.declared.record.Record.{Record}
use Rattle.wal_record.specs.declared.record.Kind.{Kind}
use Rattle.wal_record.specs.declared.record.Kind.TheVariants.{Create, Truncate, Commit}
use Rattle.history.specs.Entry.{Act, Mark, IdleCut}
use Rattle.history.specs.Entry as act
use Rattle.history.proofs.Histories.{drop_more_rels}
use Rattle.lsn_core.specs.declared.pages.Pages.{Ghosts as PagesGhosts}
use Rattle.history.specs.Apply.{main_fork, init_fork, without_rel, without_rels, act_by}
use Rattle.history.specs.Whole.{item_of, cuts_main, commit_act, act_with}
use Rattle.history.specs.Redo.{redone, redo, Redoes}

pub creation_redone : {P : Type 0} (shows : P → Store → Type 0) (before behind : P) (r : Record) (fork : ForkId) → r.kind ≡ Create fork → Turns shows before behind (λ s. with_fork s fork) → Redoes shows before behind (λ s. redo s r)
creation_redone shows before behind r fork is turns s shown = (with_fork s fork, (ap (λ (k : Kind). act_by redone r.end.0 s (act_with (map item_of) k)) is, turns s shown))

-- a truncation, by whether its flags name the main fork
abbrev cut_act : Relation → ℕ → ℕ → Bool → Act
cut_act rel count flags t = cond t (act.Truncate rel count) (Mark (IdleCut rel count (flags / 2)))

truncated : (r : Record) (rel : Relation) (count flags : ℕ) (s : Store) (t : Bool) → r.kind ≡ Truncate rel count flags → cuts_main flags ≡ t → redo s r ≡ act_by redone r.end.0 s (cut_act rel count flags t)
truncated r rel count flags s t is test = ap (λ (k : Kind). act_by redone r.end.0 s (act_with (map item_of) k)) is ∙ ap (λ (b : Bool). act_by redone r.end.0 s (cut_act rel count flags b)) test

pub cut_redone : {P : Type 0} (shows : P → Store → Type 0) (before behind : P) (r : Record) (rel : Relation) (count flags : ℕ) (fork : ForkId) → r.kind ≡ Truncate rel count flags → cuts_main flags ≡ true → fork ≡ main_fork rel
    → Turns shows before behind (λ s. with_cut s fork count) → Redoes shows before behind (λ s. redo s r)
cut_redone shows before behind r rel count flags fork is test main turns s shown =
    (with_cut s fork count, (truncated r rel count flags s true is test ∙ ap (λ (f : ForkId). Some (with_cut s f count)) (sym main), turns s shown))

pub idle_redone : {P : Type 0} (shows : P → Store → Type 0) (pages : P) (r : Record) (rel : Relation) (count flags : ℕ) → r.kind ≡ Truncate rel count flags → cuts_main flags ≡ false → Redoes shows pages pages (λ s. redo s r)
idle_redone shows pages r rel count flags is test s shown = (s, (truncated r rel count flags s false is test, shown))

-- a commit
commit_by : (end : ℕ) (s : Store) (time : ℤ) (rels : List Relation) → act_by redone end s (commit_act time rels) ≡ Some (without_rels s rels)
commit_by end s time [] = refl
commit_by end s time (rel ∷ rels) = refl

pub commit_redone : {P : Type 0} (shows : P → Store → Type 0) (before behind : P) (r : Record) (time : ℤ) (rels told : List Relation) → r.kind ≡ Commit time rels → told ≡ rels → Turns shows before behind (λ s. without_rels s told) → Redoes shows before behind (λ s. redo s r)
commit_redone shows before behind r time rels told is same turns s shown = (
  without_rels s told,
  (
    ap (λ (k : Kind). act_by redone r.end.0 s (act_with (map item_of) k)) is ∙ commit_by r.end.0 s time rels ∙ ap (λ (l : List Relation). Some (without_rels s l)) (sym same),
    turns s shown,
  ),
)

-- both forks of a relation
pub rel_turned : {P : Type 0} (shows : P → Store → Type 0) (a b c : P) (rel : Relation) (main init : ForkId) → main ≡ main_fork rel → init ≡ init_fork rel
    → Turns shows a b (λ s. without_fork s main) → Turns shows b c (λ s. without_fork s init) → Turns shows a c (λ s. without_rel s rel)
rel_turned shows a b c rel main init is_main is_init first then s shown =
    subst (λ (f : ForkId). shows c (without_fork (without_fork s (main_fork rel)) f)) is_init
    (subst (λ (f : ForkId). shows c (without_fork (without_fork s f) init)) is_main (then (without_fork s main) (first s shown)))

-- so many relations were dropped
pub record RelsGone {P : Type 0} (p : PagesGhosts P) (before behind : P) (rels : List Relation) (count : ℕ) : Type 0 where
  pub turns : (s : Store) → p.shows before s → (m : Store) × (p.shows behind m × (without_rels m (drop count rels) ≡ without_rels s rels))
  pub kept : p.keeps before behind
  pub later : p.faults before ≤ p.faults behind

pub one_more_gone : {P : Type 0} (shows : P → Store → Type 0) (a b c : P) (rels : List Relation) (i : ℕ) (rel : Relation) → i < length rels → rel ≡ get_or rels i rel
    → ((s : Store) → shows a s → (m : Store) × (shows b m × (without_rels m (drop i rels) ≡ without_rels s rels))) → Turns shows b c (λ s. without_rel s rel)
    → (s : Store) → shows a s → (m : Store) × (shows c m × (without_rels m (drop (i + 1) rels) ≡ without_rels s rels))
one_more_gone shows a b c rels i rel lt is before then s shown =
    let one = before s shown in
    (without_rel one.0 rel, (then one.0 one.1.0, drop_more_rels one.0 (without_rel one.0 rel) s rels i rel lt is refl one.1.1))

pub all_gone : {P : Type 0} (shows : P → Store → Type 0) (a b : P) (rels : List Relation) (i : ℕ) → drop i rels ≡ []
    → ((s : Store) → shows a s → (m : Store) × (shows b m × (without_rels m (drop i rels) ≡ without_rels s rels))) → Turns shows a b (λ s. without_rels s rels)
all_gone shows a b rels i none before s shown =
    let one = before s shown in
    subst (shows b) (sym (ap (without_rels one.0) none) ∙ one.1.1) one.1.0
