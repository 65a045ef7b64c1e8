-- Redo points of a shared store, and the ends of its backups.
use Rattle.std.proofs.Common.{◌≡◌, ℕ, ◌&&◌, ◌||◌, Bool, true, false, List, [], ◌∷◌, ◌++◌, Option, Some, is_some, refl, sym, ap, subst, ◌∙◌, append_assoc}
use Rattle.std.specs.Prelude.{◌==◌}
use Rattle.std.specs.List.{list_any}
use Rattle.std.proofs.lemmas.Bool.{eq-eqb}
use Rattle.std.proofs.lemmas.List.Folds.{list_any-append}
use Rattle.timeline.proofs.Prefixes.{prefix_trans}
use Rattle.history.specs.Entry.{Entry, is_of_run}
use Rattle.history.specs.Written.{is_redo}
use Rattle.journal.specs.Journal.{IsEndOf}
use Rattle.journal.proofs.Ends.{end_pushed}
use Rattle.store_locks.specs.Copied.{is_redo_at}
use Rattle.shared_store.specs.Shared.{CheckpointsLeaveRedoPoints, EndsComeBehind}
use Rattle.history.proofs.fuzzy_copies.Taken.{any_weaker}

some_own : (o : Option ℕ) (worker : ℕ) → o ≡ Some worker → is_some o ≡ true
some_own o worker e = ap (λ (x : Option ℕ). is_some x) e

all_three : (a b c : Bool) → a ≡ true → b ≡ true → c ≡ true → ((a && b) && c) ≡ true
all_three a b c e f g = rw (e, f, g) refl

any_second : (a b c : Bool) → b ≡ true → (a || (b || c)) ≡ true
any_second true b c e = refl
any_second false b c e = rw e refl

pub checkpoint_leaves : CheckpointsLeaveRedoPoints
checkpoint_leaves worker old new redo flushed h =
    let place = redo.redo.0 in
    let rest = h.between ++ (h.last ∷ []) in
    let is : is_redo_at place h.first ≡ true = all_three (h.first.start == place) (is_redo h.first.act) (is_of_run h.first) (eq-eqb h.first.start place (sym h.redo_is)) (ap is_redo h.starts.0) (some_own h.first.worker worker h.starts.1) in
    ap (list_any (is_redo_at place)) h.grown
    ∙ (list_any-append (is_redo_at place) h.before (h.first ∷ rest) ∙ any_second (list_any (is_redo_at place) h.before) (is_redo_at place h.first) (list_any (is_redo_at place) rest) is)

pub end_comes_behind : EndsComeBehind
end_comes_behind worker start from seen old new end flushed has p b =
    let q = prefix_trans seen old b.before p b.past in
    record {
      behind = q.0 ++ (b.entry ∷ []);
      all = b.grown ∙ (ap (λ (l : List Entry). l ++ (b.entry ∷ [])) (sym q.1) ∙ append_assoc seen q.0 (b.entry ∷ []));
      holds = any_weaker (λ (e : Entry). e.start == from) (λ (e : Entry). is_redo e.act) seen (any_weaker (λ (e : Entry). (e.start == from) && is_redo e.act) is_of_run seen has);
      ends = subst (λ (n : ℕ). IsEndOf (q.0 ++ (b.entry ∷ [])) n) (sym b.end_is) (end_pushed q.0 b.entry);
    }
