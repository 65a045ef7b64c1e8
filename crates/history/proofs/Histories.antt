-- Where the WAL of a history ends, what its entries make, and what they are written as.
use Rattle.std.proofs.Common.{◌≡◌, ℕ, ◌+◌, ◌<◌, ℤ, length, get_or, drop, sym, Bool, true, false, cond, List, [], ◌∷◌, ◌++◌, map, Option, Some, refl, ap, ◌∙◌}
use Rattle.std.specs.Prelude.{◌==◌, ◌||◌}
use Rattle.std.proofs.lemmas.List.{drop_more}
use Rattle.lsn_core.specs.byte_words.Numbers.{◌>>=◌}
use Rattle.lsn_core.proofs.byte_words.Fields.{bind_some}
use Rattle.lsn_core.specs.Store.{Store}
use Rattle.lsn_core.specs.Tip.{Tip}
use Rattle.lsn_core.specs.Relation.{Relation}
use Rattle.wal_record.specs.declared.record.Record.{Record}
use Rattle.wal_record.specs.declared.record.Kind.{Kind}
use Rattle.wal_record.specs.declared.record.Kind.TheVariants as kind
use Rattle.wal_record.specs.Tips.{is_redo_mark, tip_behind, tip_after}
use Rattle.history.specs.Entry.{Truncate, Mark, IdleCut, Entry, is_of_run}
use Rattle.history.specs.Apply.{without_rel, without_rels, apply_act, apply, apply_all}
use Rattle.history.specs.Whole.{cuts_main, commit_act, act_of, entry_of}
use Rattle.history.specs.Written.{is_redo, tip_over, tip_past, behind, behind_all, next_record, written}
use Rattle.history.specs.Laws.{HistoriesAreWrittenOn}

-- a history that goes on
pub tip_over-append : (tip : Tip) (es fs : List Entry) → tip_over tip (es ++ fs) ≡ tip_over (tip_over tip es) fs
tip_over-append tip [] fs = refl
tip_over-append tip (e ∷ es) fs = tip_over-append (tip_past tip e) es fs

-- a record starts a checkpoint where its act does
no_redo : (rel : Relation) (count flags : ℕ) (b : Bool) → is_redo (cond b (Truncate rel count) (Mark (IdleCut rel count flags))) ≡ false
no_redo rel count flags true = refl
no_redo rel count flags false = refl

pub redo_told : (k : Kind) → is_redo (act_of k) ≡ is_redo_mark k
redo_told (kind.Shutdown redo) = refl
redo_told (kind.Online redo) = refl
redo_told (kind.RedoMark n) = refl
redo_told kind.NoOp = refl
redo_told (kind.BackupEnd start) = refl
redo_told (kind.Images blocks) = refl
redo_told (kind.Generic blocks) = refl
redo_told (kind.Create fork) = refl
redo_told (kind.Truncate rel count flags) = no_redo rel count _ (cuts_main flags)
redo_told (kind.Commit time []) = refl
redo_told (kind.Commit time (rel ∷ rels)) = refl

-- a commit takes away what it names
pub commit_done : (end : ℕ) (store : Store) (time : ℤ) (rels : List Relation) → apply_act end store (commit_act time rels) ≡ Some (without_rels store rels)
commit_done end store time [] = refl
commit_done end store time (rel ∷ rels) = refl

-- one relation more is taken away
pub drop_more_rels : (store now first : Store) (rels : List Relation) (i : ℕ) (rel : Relation) → i < length rels → rel ≡ get_or rels i rel → now ≡ without_rel store rel → without_rels store (drop i rels) ≡ without_rels first rels
    → without_rels now (drop (i + 1) rels) ≡ without_rels first rels
drop_more_rels store now first rels i rel lt is gone e =
    let next : drop i rels ≡ rel ∷ drop (i + 1) rels = drop_more rels i rel lt ∙ ap (λ (x : Relation). x ∷ drop (i + 1) rels) (sym is) in
    ap (λ (s : Store). without_rels s (drop (i + 1) rels)) gone ∙ ap (λ (l : List Relation). without_rels store l) (sym next) ∙ e

-- the entries that were read end where their records do
past_read : (tip : Tip) (r : Record) → tip_past tip (entry_of r) ≡ tip_after tip r
past_read tip r = ap (λ b. record { end = r.end.0; prev = r.start.0; redo = cond ((tip.count == 0) || b) r.start.0 tip.redo; count = tip.count + 1 }) (redo_told r.kind)

pub tip_over_read : (tip : Tip) (rs : List Record) → tip_over tip (map entry_of rs) ≡ tip_behind tip rs
tip_over_read tip [] = refl
tip_over_read tip (r ∷ rs) = ap (λ (t : Tip). tip_over t (map entry_of rs)) (past_read tip r) ∙ tip_over_read (tip_after tip r) rs

then_some : {A : Type 0} (o : Option A) (x : A) → o ≡ Some x → (o >>= λ y. Some y) ≡ Some x
then_some o x e = rw e refl

-- one more entry
pub apply_all-push : (store : Store) (es : List Entry) (next : Store) (e : Entry) (last : Store) → apply_all store es ≡ Some next → apply next e ≡ Some last → apply_all store (es ++ (e ∷ [])) ≡ Some last
apply_all-push store [] next e last applied step =
    let same : store ≡ next = cc in
    then_some (apply store e) last (rw same step)
apply_all-push store (f ∷ es) next e last applied step =
    let b = bind_some (apply store f) (λ s. apply_all s es) next applied in
    ap (λ (o : Option Store). o >>= λ s. apply_all s (es ++ (e ∷ []))) b.1 ∙ apply_all-push b.0 es next e last b.2 step

-- entries behind those that make a store
pub apply_all-behind : (store : Store) (es fs : List Entry) (next : Store) → apply_all store es ≡ Some next → apply_all store (es ++ fs) ≡ apply_all next fs
apply_all-behind store [] fs next made =
    let same : store ≡ next = cc in
    ap (λ (s : Store). apply_all s fs) same
apply_all-behind store (e ∷ es) fs next made =
    let b = bind_some (apply store e) (λ s. apply_all s es) next made in
    ap (λ (o : Option Store). o >>= λ s. apply_all s (es ++ fs)) b.1 ∙ apply_all-behind b.0 es fs next b.2

-- what is written of a history's beginning stands
one_on : (b : Bool) (r : Record) (xs ys : List Record) → cond b (r ∷ (xs ++ ys)) (xs ++ ys) ≡ cond b (r ∷ xs) xs ++ ys
one_on true r xs ys = refl
one_on false r xs ys = refl

pub written_on : HistoriesAreWrittenOn
written_on mib before [] more = refl
written_on mib before (e ∷ es) more =
    ap (λ (rs : List Record). cond (is_of_run e) (next_record mib before e.act ∷ rs) rs) (written_on mib (behind before e) es more)
    ∙ one_on (is_of_run e) (next_record mib before e.act) (written mib (behind before e) es) (written mib (behind_all (behind before e) es) more)
