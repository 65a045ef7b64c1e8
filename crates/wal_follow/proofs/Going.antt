-- What a loop over steps keeps of what it read and applied.
use Rattle.std.proofs.Common.{◌≡◌, ◌+◌, ◌≤◌, Bool, List, [], ◌∷◌, ◌++◌, length, map, Option, Some, None, IfSome, Result, Ok, Err, refl, sym, ap, subst, ◌∙◌, arith}
use Rattle.std.specs.Prelude.{IfErr, IsErrAnd}
use Rattle.std.proofs.lemmas.List.{map-append, length-append}
use Rattle.lsn_core.specs.byte_words.Told.{when_both_told}
use Rattle.lsn_core.specs.Files.{Files}
use Rattle.lsn_core.specs.Segment.{StoreSettings}
use Rattle.lsn_core.specs.Store.{Store}
use Rattle.lsn_core.specs.Tip.{Tip}
use Rattle.vault.specs.Frame.{OnlyReads}
use Rattle.vault.specs.declared.area.Vault.{Ghosts}
use Rattle.wal_record.specs.declared.record.Record.{Record}
use Rattle.wal_record.specs.Tips.{tip_after}
use Rattle.wal_archive.specs.Rules.{Gives}
use Rattle.wal_reader.specs.Cursor.{IsReached}
use Rattle.wal_reader.specs.Wal.{stands_behind, ReadsOn}
use Rattle.history.specs.Apply.{apply_all}
use Rattle.history.specs.Whole.{entry_of}
use Rattle.history.proofs.Histories.{apply_all-push}
use Rattle.wal_follow.specs.declared.fault.FollowFault.{FollowFault}
use Rattle.wal_follow.specs.declared.fault.FollowFault.TheVariants as follow
use Rattle.wal_follow.specs.Steps.{RefusedIn}
use Rattle.wal_follow.specs.Reading.{WaitsAs, RefusedAt, TakesEntry, GoesTo, ReadsTo, RefusedBehind}

-- ---- refusals

-- what a step is refused for refuses what it finds
pub step_refused : (s : StoreSettings) (files : Option Files) (tip : Tip) (store : Store) (why : FollowFault) → RefusedIn s files tip why → RefusedAt s files tip store why
step_refused s None tip store why is = tt
step_refused s (Some m) tip store (follow.Damaged d) is = is
step_refused s (Some m) tip store (follow.BadDelta at) is = absurd is
step_refused s (Some m) tip store follow.NoMemory is = tt

-- ---- entries

walk_push : (s : StoreSettings) (files : Files) (from tip : Tip) (rs : List Record) (r : Record) → ReadsOn s files from rs tip → stands_behind s files tip ≡ Gives r → ReadsOn s files from (rs ++ (r ∷ [])) (tip_after tip r)
walk_push s files from tip [] r walk gives = (subst (λ (t : Tip). stands_behind s files t ≡ Gives r) walk gives, ap (λ (t : Tip). tip_after t r) walk)
walk_push s files from tip (q ∷ rs) r walk gives = (walk.0, walk_push s files (tip_after from q) tip rs r walk.1 gives)

told_none : (s : StoreSettings) (files : Option Files) (tip : Tip) → IfSome files (λ m. ReadsOn s m tip [] tip)
told_none s None tip = tt
told_none s (Some m) tip = refl

module _ {V : Type 0} (g : Ghosts V) where
  -- an area was only read, and entries were read of it and applied
  pub record HasGone (s : StoreSettings) (old now : V) (tip last : Tip) (store made : Store) (rs : List Record) : Type 0 where
    pub reads : OnlyReads g old now
    pub goes : GoesTo s (g.files old) tip store rs last made

  pub nothing_gone : (s : StoreSettings) (v : V) (tip : Tip) (store : Store) → IsReached s.segment tip → HasGone s v v tip tip store store []
  nothing_gone s v tip store reached = record {
    reads = record { files = refl; past = refl; faults = omega arith };
    goes = record { walk = told_none s (g.files v) tip; makes = refl; reached = reached; later = omega arith; counted = omega arith };
  }

  pub both_read : (old now later : V) → OnlyReads g old now → OnlyReads g now later → OnlyReads g old later
  both_read old now later first second = record { files = second.files ∙ first.files; past = second.past ∙ first.past; faults = omega (arith, first.faults, second.faults) }

  pub one_gone : (s : StoreSettings) (old now later : V) (tip last next : Tip) (store made more : Store) (ended : Bool) (rs : List Record) (r : Record) → HasGone s old now tip last store made rs → OnlyReads g now later → TakesEntry s (g.files now) last next made more ended (Some r) → HasGone s old later tip next store more (rs ++ (r ∷ []))
  one_gone s old now later tip last next store made more ended rs r gone reads takes =
      let t = subst (λ (f : Option Files). TakesEntry s f last next made more ended (Some r)) gone.reads.files takes in
      record {
        reads = both_read old now later gone.reads reads;
        goes = record {
          walk = subst (λ (x : Tip). IfSome (g.files old) (λ m. ReadsOn s m tip (rs ++ (r ∷ [])) x)) (sym t.1)
              (when_both_told (g.files old) (λ m. ReadsOn s m tip rs last) (λ m. stands_behind s m last ≡ Gives r) (λ m. ReadsOn s m tip (rs ++ (r ∷ [])) (tip_after last r))
              (λ m walk gives. walk_push s m tip last rs r walk gives) gone.goes.walk t.0);
          makes = ap (apply_all store) (map-append entry_of rs (r ∷ [])) ∙ apply_all-push store (map entry_of rs) made (entry_of r) more gone.goes.makes t.2;
          reached = subst (λ (x : Tip). IsReached s.segment x) (sym t.1) t.3.reached;
          later = subst (λ (x : Tip). tip.end ≤ x.end) (sym t.1) (let on = t.3.later in let before = gone.goes.later in omega (arith, on, before));
          counted = subst (λ (x : Tip). x.count ≡ tip.count + length (rs ++ (r ∷ []))) (sym t.1) (let l = length-append rs (r ∷ []) in let before = gone.goes.counted in omega (arith, l, before));
        };
      }

  pub all_gone : (s : StoreSettings) (old now : V) (tip last next : Tip) (store made more : Store) (ended : Bool) (rs : List Record) → HasGone s old now tip last store made rs → TakesEntry s (g.files now) last next made more ended None → ReadsTo s (g.files old) tip store next more ended
  all_gone s old now tip last next store made more ended rs gone takes =
      let t = subst (λ (f : Option Files). TakesEntry s f last next made more ended None) gone.reads.files takes in
      record {
        rs = rs;
        goes = record {
          walk = subst (λ (x : Tip). IfSome (g.files old) (λ m. ReadsOn s m tip rs x)) (sym t.1) gone.goes.walk;
          makes = gone.goes.makes ∙ ap (λ (x : Store). Some x) (sym t.2);
          reached = subst (λ (x : Tip). IsReached s.segment x) (sym t.1) gone.goes.reached;
          later = subst (λ (x : Tip). tip.end ≤ x.end) (sym t.1) gone.goes.later;
          counted = subst (λ (x : Tip). x.count ≡ tip.count + length rs) (sym t.1) gone.goes.counted;
        };
        waits = subst (λ (x : Tip). IfSome (g.files old) (λ m. WaitsAs ended (stands_behind s m x))) (sym t.1) t.0;
      }

  pub bad_gone : (s : StoreSettings) (old now : V) (tip last : Tip) (store made : Store) (rs : List Record) (why : FollowFault) → HasGone s old now tip last store made rs → RefusedAt s (g.files now) last made why → RefusedBehind s (g.files old) tip store why
  bad_gone s old now tip last store made rs why gone is = record {
    rs = rs;
    last = last;
    made = made;
    goes = gone.goes;
    refused = subst (λ (f : Option Files). RefusedAt s f last made why) gone.reads.files is;
  }

-- an error that is passed on
pub err_cause : {A : Type 0} (r : Result A FollowFault) (why : FollowFault) (P : FollowFault → Type 0) → IsErrAnd r (λ e. e ≡ why) → P why → IfErr r P
err_cause (Ok x) why P is p = tt
err_cause (Err e) why P is p = subst P (sym is) p
