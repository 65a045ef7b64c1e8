-- The entries of checkpoints and backups, by their numbers in a list.
use Rattle.std.proofs.Common.{◌≡◌, ℕ, zero, suc, ◌<◌, ◌≤◌, ◌==◌, ◌&&◌, ◌||◌, Bool, true, false, List, [], ◌∷◌, ◌++◌, length, slice_get, Option, Some, refl, sym, ap, subst, ◌∙◌, arith, append_assoc, length-append}
use Rattle.std.specs.List.{list_any}
use Rattle.std.specs.Option.{is_some}
use Rattle.std.proofs.lemmas.Bool.{eq-eqb}
use mathlib.Core.List.{IsPrefix}
use Rattle.timeline.proofs.Prefixes.{prefix_length, prefix_trans}
use Rattle.lsn_core.specs.declared.lsn.Lsn.{Lsn}
use Rattle.wal_writer.specs.declared.state.Flushed.{Flushed}
use Rattle.history.specs.Entry.{Entry, RedoMark, Online, BackupEnd, is_of_run}
use Rattle.history.specs.Written.{is_redo}
use Rattle.history.specs.fuzzy_copies.Orderly.{AllEndBy}
use Rattle.history.proofs.fuzzy_copies.Ranges.{all_at}
use Rattle.store_locks.specs.declared.receipt.Redo.{Redo}
use Rattle.store_locks.specs.Calls.{IsMarkOf}
use Rattle.store_locks.specs.Copied.{is_redo_at}
use Rattle.shared_store.specs.Shared.{HasCheckpointIn, HasEnded}
use Rattle.backup_sending.specs.Entries.{HasCheckpointAt, HasBackupAt}
use Rattle.backup_sending.specs.Laws.{CheckpointsHaveRedoPoints, BackupsEndBehind, RedoPointsAreOwn}

-- ---- items by their numbers

get_front : (xs ys : List Entry) (n : ℕ) (e : Entry) → slice_get xs n ≡ Some e → slice_get (xs ++ ys) n ≡ Some e
get_front [] ys n e is = absurd cc
get_front (x ∷ xs) ys zero e is = is
get_front (x ∷ xs) ys (suc n) e is = get_front xs ys n e is

-- an item stays where it is as a list goes on
pub get_on : (xs ys : List Entry) (n : ℕ) (e : Entry) → IsPrefix xs ys → slice_get xs n ≡ Some e → slice_get ys n ≡ Some e
get_on xs ys n e p is = subst (λ (l : List Entry). slice_get l n ≡ Some e) p.1 (get_front xs p.0 n e is)

pub get_seam : (xs ys : List Entry) (e : Entry) → slice_get (xs ++ (e ∷ ys)) (length xs) ≡ Some e
get_seam [] ys e = refl
get_seam (x ∷ xs) ys e = get_seam xs ys e

get_there : (all xs ys : List Entry) (e : Entry) → all ≡ xs ++ (e ∷ ys) → slice_get all (length xs) ≡ Some e
get_there all xs ys e is = subst (λ (l : List Entry). slice_get l (length xs) ≡ Some e) (sym is) (get_seam xs ys e)

-- ---- a checkpoint

pub ends_last : (worker : ℕ) (old new : List Entry) (redo : Redo) (flushed : Flushed) (h : HasCheckpointIn worker old new redo flushed) → new ≡ (h.before ++ (h.first ∷ h.between)) ++ (h.last ∷ [])
ends_last worker old new redo flushed h = h.grown ∙ sym (append_assoc h.before (h.first ∷ h.between) (h.last ∷ []))

pub checkpoint_at : (worker : ℕ) (old new : List Entry) (redo : Redo) (flushed : Flushed) → HasCheckpointIn worker old new redo flushed → HasCheckpointAt worker (length old) new redo.redo.0
checkpoint_at worker old new redo flushed h = record {
  first = h.first;
  number = length h.before;
  later = prefix_length old h.before h.past;
  there = get_there new h.before (h.between ++ (h.last ∷ [])) h.first h.grown;
  starts = h.starts;
  redo_is = sym h.redo_is;
  last = h.last;
  number_last = length (h.before ++ (h.first ∷ h.between));
  behind = omega (arith, length-append h.before (h.first ∷ h.between));
  there_last = get_there new (h.before ++ (h.first ∷ h.between)) [] h.last (ends_last worker old new redo flushed h);
  ends = h.ends;
}

pub checkpoint_on : (worker before : ℕ) (now later : List Entry) (redo : ℕ) → IsPrefix now later → HasCheckpointAt worker before now redo → HasCheckpointAt worker before later redo
checkpoint_on worker before now later redo p h = record {
  first = h.first;
  number = h.number;
  later = h.later;
  there = get_on now later h.number h.first p h.there;
  starts = h.starts;
  redo_is = h.redo_is;
  last = h.last;
  number_last = h.number_last;
  behind = h.behind;
  there_last = get_on now later h.number_last h.last p h.there_last;
  ends = h.ends;
}

-- ---- a backup

pub has_backup : (worker by : ℕ) (old mid seen new : List Entry) (redo : Redo) (end : Lsn) (flushed behind : Flushed) → HasCheckpointIn worker old mid redo flushed → IsPrefix mid seen → by ≡ worker → HasEnded by redo.redo.0 seen new end behind
    → HasBackupAt worker (length old) new redo.redo.0 redo.at.0 end.0
unfolding checkpoint_at
has_backup worker by old mid seen new redo end flushed behind h p own b =
    let q = prefix_trans mid seen b.before p b.past in
    let whole : IsPrefix mid new = prefix_trans mid b.before new q (b.entry ∷ [], sym b.grown) in
    let size : length mid ≡ length ((h.before ++ (h.first ∷ h.between)) ++ (h.last ∷ [])) = ap length (ends_last worker old mid redo flushed h) in
    let long = length-append (h.before ++ (h.first ∷ h.between)) (h.last ∷ []) in
    let upto = prefix_length mid b.before q in
    let c = checkpoint_at worker old mid redo flushed h in
    record {
      first = h.first;
      last = h.last;
      stop = b.entry;
      entries = record {
        starts = h.starts;
        completes = subst (λ (n : ℕ). IsMarkOf worker (Online n) h.last) h.redo_is h.ends;
        ends = subst (λ (n : ℕ). IsMarkOf worker (BackupEnd n) b.entry) h.redo_is (subst (λ (w : ℕ). IsMarkOf w (BackupEnd redo.redo.0) b.entry) own b.is);
      };
      number = c.number;
      later = c.later;
      there = get_on mid new c.number h.first whole c.there;
      number_last = c.number_last;
      behind = c.behind;
      there_last = get_on mid new c.number_last h.last whole c.there_last;
      number_stop = length b.before;
      behind_last = omega (arith, size, long, upto);
      there_stop = get_there new b.before [] b.entry b.grown;
      start_is = h.redo_is;
      checkpoint_is = h.at_is;
      end_is = b.end_is;
    }

-- it ends past its start, where no entry ends past its end
pub start_below : (worker : ℕ) (old mid new : List Entry) (redo : Redo) (flushed : Flushed) (end : ℕ) → HasCheckpointIn worker old mid redo flushed → IsPrefix mid new → AllEndBy end new → redo.redo.0 < end
start_below worker old mid new redo flushed end h p all =
    let front = h.before ++ (h.first ∷ h.between) in
    let whole : new ≡ front ++ (h.last ∷ p.0) = sym p.1 ∙ (ap (λ (l : List Entry). l ++ p.0) (ends_last worker old mid redo flushed h) ∙ append_assoc front (h.last ∷ []) p.0) in
    let by : h.last.end ≤ end = all_at (λ (e : Entry). e.end ≤ end) front h.last p.0 (subst (AllEndBy end) whole all) in
    omega (arith, h.rises, by)

-- ---- laws

or_first : (a b : Bool) → a ≡ true → (a || b) ≡ true
or_first true b h = refl
or_first false b h = absurd cc

or_second : (a b : Bool) → b ≡ true → (a || b) ≡ true
or_second true b h = refl
or_second false b h = h

-- an entry that stands behind the first ones of a list
any_there : (p : Entry → Bool) (xs : List Entry) (n : ℕ) (e : Entry) → slice_get xs n ≡ Some e → p e ≡ true → list_any p xs ≡ true
any_there p [] n e there is = absurd cc
any_there p (x ∷ xs) zero e there is = or_first (p x) (list_any p xs) (subst (λ (y : Entry). p y ≡ true) (sym (cc there)) is)
any_there p (x ∷ xs) (suc n) e there is = or_second (p x) (list_any p xs) (any_there p xs n e there is)

any_behind : (p : Entry → Bool) (front back : List Entry) (n : ℕ) (e : Entry) → length front ≤ n → slice_get (front ++ back) n ≡ Some e → p e ≡ true → list_any p back ≡ true
any_behind p [] back n e le there is = any_there p back n e there is
any_behind p (x ∷ xs) back zero e le there is = absurd (omega (arith, le))
any_behind p (x ∷ xs) back (suc n) e le there is = any_behind p xs back n e (omega (arith, le)) there is

both : (a b : Bool) → a ≡ true → b ≡ true → (a && b) ≡ true
both true b h k = k
both false b h k = absurd cc

redo_act : (worker : ℕ) (e : Entry) → IsMarkOf worker (RedoMark 1) e → is_redo e.act ≡ true
redo_act worker e m = ap is_redo m.0

of_run : (worker : ℕ) (e : Entry) → e.worker ≡ Some worker → is_of_run e ≡ true
of_run worker e by = ap (λ (o : Option ℕ). is_some o) by

pub checkpoints_have_redo_points : CheckpointsHaveRedoPoints
checkpoints_have_redo_points worker before now redo c =
    any_there (is_redo_at redo) now c.number c.first c.there
    (both ((c.first.start == redo) && is_redo c.first.act) (is_of_run c.first) (both (c.first.start == redo) (is_redo c.first.act) (eq-eqb c.first.start redo c.redo_is) (redo_act worker c.first c.starts)) (of_run worker c.first c.starts.1))

pub redo_points_are_own : RedoPointsAreOwn
redo_points_are_own worker before found own redo le c =
    any_behind (λ e. is_redo e.act && (e.start == redo)) found own c.number c.first (omega (arith, le, c.later)) c.there
    (both (is_redo c.first.act) (c.first.start == redo) (redo_act worker c.first c.starts) (eq-eqb c.first.start redo c.redo_is))

left_of : (a b : Bool) → (a && b) ≡ true → a ≡ true
left_of true b h = refl
left_of false b h = absurd cc

or_on : (a b c d : Bool) → (a ≡ true → c ≡ true) → (b ≡ true → d ≡ true) → (a || b) ≡ true → (c || d) ≡ true
or_on true b c d f g h = or_first c d (f refl)
or_on false b c d f g h = or_second c d (g h)

redo_starts : (place : ℕ) (xs : List Entry) → list_any (is_redo_at place) xs ≡ true → list_any (λ e. e.start == place) xs ≡ true
redo_starts place [] is = absurd cc
redo_starts place (x ∷ xs) is =
    or_on (is_redo_at place x) (list_any (is_redo_at place) xs) (x.start == place) (list_any (λ e. e.start == place) xs)
    (λ h. left_of (x.start == place) (is_redo x.act) (left_of ((x.start == place) && is_redo x.act) (is_of_run x) h)) (λ h. redo_starts place xs h) is

pub backups_end_behind : BackupsEndBehind
backups_end_behind worker start from seen old new end redo prefix on stop =
    let more : List Entry = prefix.0 ++ on.0 in
    let whole : seen ++ more ≡ new = sym (append_assoc seen prefix.0 on.0) ∙ ap (λ (l : List Entry). l ++ on.0) prefix.1 ∙ on.1 in
    let size = length-append seen prefix.0 in
    let same = ap length prefix.1 in
    record {
      behind = more;
      all = sym whole;
      holds = redo_starts from seen redo;
      ends = any_behind (λ e. e.end == end) seen more stop.number stop.stop (omega (arith, size, same, stop.later))
          (subst (λ (l : List Entry). slice_get l stop.number ≡ Some stop.stop) (sym whole) stop.there) (eq-eqb stop.stop.end end stop.end_is);
    }
