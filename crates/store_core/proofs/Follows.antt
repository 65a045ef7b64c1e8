-- What a partition keeps of the history, over entries and writes.
use Rattle.std.proofs.Common.{◌≡◌, ℕ, ◌≤◌, Bool, true, false, cond, List, [], ◌∷◌, ◌++◌, Option, Some, None, unwrap_or, refl, ap, sym, subst, arith}
use Rattle.std.specs.Prelude.{max, ◌||◌}
use Rattle.std.specs.List.{All}
use Rattle.std.specs.FinMap.{empty, get-empty}
use Rattle.std.proofs.lemmas.List.Elements.{All-nil}
use Rattle.lsn_core.specs.byte_words.Numbers.{◌>>=◌}
use Rattle.lsn_core.specs.declared.ids.BlockId.{BlockId}
use Rattle.lsn_core.specs.Store.{Store, ForkPages, fork_cmp}
use Rattle.lsn_core.specs.Blocks.{page_put}
use Rattle.lsn_core.specs.Tip.{Tip}
use Rattle.wal_record.specs.declared.record.Record.{Record}
use Rattle.history.specs.Entry.{Act, Entry}
use Rattle.history.specs.Apply.{page_at, apply_act}
use Rattle.history.specs.Op.{IsTidy}
use Rattle.history.specs.Written.{tip_of}
use Rattle.history.proofs.Pushes.{all_rest}
use Rattle.history.specs.partitions.Parts.{is_of, IsPart, act_concerns, ConcernsNoOther}
use Rattle.history.proofs.partitions.Folds.{others_leave}
use Rattle.history.specs.fuzzy_copies.Taken.{since}
use Rattle.store_core.specs.declared.step.Work.{Work}
use Rattle.store_core.specs.State.{Part, empty_part}
use Rattle.store_core.specs.Parts.{dirty_after, works_after, part_after, Turn, with_disk, next_write, cleaned, work_done}
use Rattle.store_core.specs.Steps.{entry_at}
use Rattle.store_core.specs.Facts.{work_fork, LacksUnwritten, ComesFrom, KeepsFacts}
use Rattle.store_core.proofs.Behind.{acts_entered, works_done, page_written, lack_nothing}
use Rattle.store_core.proofs.Caused.{new_works, entered_own, caused_longer, caused_on, caused_fewer, caused_done, caused_none, since_push, covers_of}
use Rattle.store_core.proofs.Runs.{IsRun, StandsBehind, tip_push}

-- pending works are of the partition's own forks
abbrev AreOwn : ℕ → List Work → Type 0
AreOwn q works = All (λ work. is_of q (work_fork work) ≡ true) works

none_own : (q : ℕ) → AreOwn q []
none_own q = All-nil (λ (work : Work). is_of q (work_fork work) ≡ true)

-- a partition follows a history that makes this store
pub record Follows (q mib : ℕ) (history : List Entry) (store : Store) (part : Part) : Type 0 where
  pub frames : IsPart q store part.frames
  pub late : part.point ≤ (tip_of mib history).end
  pub unwritten : LacksUnwritten part.disk part.frames part.dirty part.works
  pub own : AreOwn q part.works
  pub caused : ComesFrom (since part.point history) part.dirty part.works

none_either : (b : Bool) (o : Option ForkPages) → o ≡ None → o ≡ cond b o None
none_either true o none = refl
none_either false o none = none

empty_part_of : (q : ℕ) → IsPart q empty empty
empty_part_of q fork = none_either (is_of q fork) _ (get-empty fork_cmp fork)

pub follows_first : (q mib point : ℕ) (history : List Entry) → point ≤ (tip_of mib history).end → Follows q mib history empty (empty_part point)
follows_first q mib point history late = record { frames = empty_part_of q; late = late; unwritten = lack_nothing empty; own = none_own q; caused = caused_none (since point history) }

-- the WAL ends later behind an entry
later_end : (mib : ℕ) (history : List Entry) (r : Record) (act : Act) (worker : ℕ) (seq : Option ℕ) (point : ℕ) → StandsBehind mib history r → point ≤ (tip_of mib history).end → point ≤ (tip_of mib (history ++ (entry_at r act worker seq ∷ []))).end
later_end mib history r act worker seq point stand late =
    let end : (tip_of mib (history ++ (entry_at r act worker seq ∷ []))).end ≡ r.end.0 = ap (λ (t : Tip). t.end) (tip_push mib history (entry_at r act worker seq)) in
    omega (arith, late, stand.start, stand.long, end)

-- an entry that doesn't concern the partition
pub follows_others : (q mib : ℕ) (history : List Entry) (store next : Store) (part : Part) (act : Act) (r : Record) (worker : ℕ) (seq : Option ℕ) → StandsBehind mib history r → act_concerns q act ≡ false → apply_act r.end.0 store act ≡ Some next → Follows q mib history store part
    → Follows q mib (history ++ (entry_at r act worker seq ∷ [])) next part
follows_others q mib history store next part act r worker seq stand none done f =
    let e = entry_at r act worker seq in
    record {
      frames = others_leave q store next part.frames (e ∷ []) f.frames (ap (λ b. b || false) none) (ap (λ (o : Option Store). o >>= λ s. Some s) done);
      late = later_end mib history r act worker seq part.point stand f.late;
      unwritten = f.unwritten;
      own = f.own;
      caused = subst (λ (es : List Entry). ComesFrom es part.dirty part.works) (sym (since_push part.point history e (omega (arith, f.late, stand.start)))) (caused_longer (since part.point history) (e ∷ []) part.dirty part.works f.caused);
    }

some_of : (o : Option Store) (store next : Store) → o ≡ Some next → unwrap_or o store ≡ next
some_of o store next e = rw e refl

-- an entry of its own
pub follows_own : (q mib : ℕ) (history : List Entry) (store next frames : Store) (part : Part) (act : Act) (r : Record) (worker : ℕ) (seq : Option ℕ) → StandsBehind mib history r → ConcernsNoOther q act → IsTidy part.frames act → apply_act r.end.0 part.frames act ≡ Some frames → IsPart q next frames
    → Follows q mib history store part → Follows q mib (history ++ (entry_at r act worker seq ∷ [])) next (part_after r.end.0 act part)
follows_own q mib history store next frames part act r worker seq stand none tidy done is f =
    let e = entry_at r act worker seq in
    let same : unwrap_or (apply_act r.end.0 part.frames act) part.frames ≡ frames = some_of (apply_act r.end.0 part.frames act) part.frames frames done in
    record {
      frames = subst (λ (s : Store). IsPart q next s) (sym same) is;
      late = later_end mib history r act worker seq part.point stand f.late;
      unwritten = subst (λ (s : Store). LacksUnwritten part.disk s (dirty_after part.dirty act) (works_after part.frames part.works act)) (sym same)
          (acts_entered part.disk part.frames frames part.dirty part.works r.end.0 act tidy done f.unwritten);
      own = new_works (λ (work : Work). is_of q (work_fork work) ≡ true) part.frames part.works act f.own (λ work entered. entered_own q act work none entered);
      caused = subst (λ (es : List Entry). ComesFrom es (dirty_after part.dirty act) (works_after part.frames part.works act)) (sym (since_push part.point history e (omega (arith, f.late, stand.start)))) (caused_on (since part.point history) e part.frames part.dirty part.works f.caused);
    }

-- the next write
pub follows_write : (q mib : ℕ) (history : List Entry) (store : Store) (part : Part) (turn : Turn) → next_write part part.works part.dirty ≡ Some turn → Follows q mib history store part → Follows q mib history store turn.part × (turn.part.point ≡ part.point)
follows_write q mib history store part turn e f = go part.works part.dirty e f.unwritten f.own f.caused
  where
    turn_of : (t : Turn) → Some t ≡ Some turn → t.part ≡ turn.part
    turn_of t e = ap (λ (o : Option Turn). (unwrap_or o turn).part) e

    go : (works : List Work) (dirty : List BlockId) → next_write part works dirty ≡ Some turn → LacksUnwritten part.disk part.frames dirty works → AreOwn q works → ComesFrom (since part.point history) dirty works → Follows q mib history store turn.part × (turn.part.point ≡ part.point)
    go (work ∷ works) dirty e lacks own caused =
        let next : Part = with_disk part (work_done work part.disk) dirty works in
        let is : next ≡ turn.part = turn_of _ e in
        let there : Follows q mib history store next = record { frames = f.frames; late = f.late; unwritten = works_done part.disk part.frames dirty work works lacks; own = all_rest (λ (w : Work). is_of q (work_fork w) ≡ true) work works own; caused = caused_done (since part.point history) dirty work works caused } in
        (subst (λ (p : Part). Follows q mib history store p) is there, sym (ap (λ (p : Part). p.point) is))
    go [] (at ∷ dirty) e lacks own caused =
        let there = page_written part.disk part.frames at dirty lacks in
        let next : Part = with_disk part (page_put at (page_at part.frames at) part.disk) dirty [] in
        let is : next ≡ turn.part = turn_of _ e in
        let follows : Follows q mib history store next = record { frames = f.frames; late = f.late; unwritten = there; own = own; caused = caused_fewer (since part.point history) dirty [] at caused } in
        (subst (λ (p : Part). Follows q mib history store p) is follows, sym (ap (λ (p : Part). p.point) is))
    go [] [] e lacks own caused = absurd cc

-- and when all is written, as of a redo point
pub follows_clean : (q mib redo : ℕ) (history : List Entry) (store : Store) (part : Part) → redo ≤ (tip_of mib history).end → Follows q mib history store part → Follows q mib history store (cleaned redo part)
follows_clean q mib redo history store part low f = record {
  frames = f.frames;
  late = omega (arith, f.late, low);
  unwritten = lack_nothing part.frames;
  own = none_own q;
  caused = caused_none (since (max part.point redo) history);
}

-- so it keeps its facts
pub facts_of : (q mib : ℕ) (history : List Entry) (run : IsRun mib history) (part : Part) → Follows q mib history run.store part → KeepsFacts q history run.store part
facts_of q mib history run part f = record {
  frames = f.frames;
  unwritten = f.unwritten;
  own = f.own;
  caused = f.caused;
  covers = covers_of q history run.store part run.orderly run.made run.tidy f.frames f.unwritten f.caused;
}
