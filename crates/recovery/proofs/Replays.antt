-- What a replay keeps of pages, and what its answers come to.
use Rattle.std.proofs.Common.{◌≡◌, ℕ, ◌≤◌, inl, inr, List, [], ◌∷◌, ◌++◌, Option, Some, None, Result, Ok, Err, IfSome, sym, ap, subst, ◌∙◌, arith}
use Rattle.std.specs.FinMap.{empty}
use Rattle.lsn_core.specs.byte_words.Told.{when_told}
use Rattle.lsn_core.specs.Files.{Files}
use Rattle.lsn_core.specs.Segment.{StoreSettings}
use Rattle.lsn_core.specs.Store.{Store}
use Rattle.lsn_core.specs.Tip.{Tip}
use Rattle.lsn_core.specs.declared.lsn.Lsn.{Lsn}
use Rattle.lsn_core.specs.declared.pages.Pages.{Ghosts as PagesGhosts}
use Rattle.vault.specs.Frame.{OnlyReads}
use Rattle.vault.specs.declared.area.Vault.{Ghosts}
use Rattle.wal_record.specs.declared.record.Record.{Record}
use Rattle.wal_reader.specs.Cursor.{Cursor}
use Rattle.wal_archive.specs.Rules.{lsn, End}
use Rattle.history.specs.Redo.{redo, redo_all, AreRising}
use Rattle.recovery.specs.declared.fault.RecoveryFault.{RecoveryFault}
use Rattle.recovery.specs.declared.fault.RecoveryFault.TheVariants as fault
use Rattle.recovery.specs.declared.fault.ReplayFault.{ReplayFault}
use Rattle.recovery.specs.declared.fault.ReplayFault.TheVariants.{Wal, Out}
use Rattle.recovery.specs.declared.listener.Listener.{Ghosts as ListenerGhosts}
use Rattle.recovery.specs.declared.reading.Beginning.{Beginning}
use Rattle.recovery.specs.declared.reading.Beginning.TheVariants.{FirstEntry}
use Rattle.recovery.specs.declared.tally.Tally.{Tally}
use Rattle.recovery.specs.declared.replaying.Replayed.{Replayed}
use Rattle.recovery.specs.declared.replaying.Progress.{Progress}
use Rattle.recovery.specs.Tally.{fork_tally, IsTallyOf}
use Rattle.recovery.specs.Onward.{begin_tip, is_at_place, is_set_behind, found_on, IsReadFrom, replayed_to, ending_by, end_from, IsReadFromTo}
use Rattle.recovery.specs.Replay.{IsReadWal, HasBadDelta}
use Rattle.recovery.specs.Causes.{CauseOf, reading_causes}
use Rattle.recovery.specs.Replayed.{ShowsWhole, IsReplayed, HearsReplay, into_causes}
use Rattle.recovery.specs.Recovered.{IsRedoneOver, IsRecovered, first_bad_redo, HasBadRedo, redo_causes, RecoversInto}
use Rattle.recovery.specs.Inside.{IsRedone, RedoesCounted, StepsTo, AddsTo, Takes, IsFinished, FinishAnswer, HasRisingBad, rising_causes, RedoesFrom}
use Rattle.recovery.proofs.Redoing.{nothing_redone, both_redone, redo_all-push}
use Rattle.recovery.proofs.SoFar.{IsReadSoFar, none_taken, taken, taken_is, taken-push, taken-same, rising_taken, end_push, at_end, ends_short, redone_applied, bad_applied, bad_redo-here, bad_redo-more, read_at}
use Rattle.recovery.proofs.Stepping.{HasRead, next_read, IsAllRead}
use Rattle.recovery.proofs.Tallies.{none_counted}

-- ---- entries redone

-- the entries that were taken were redone; or over each store that was shown one can't be
abbrev pub Makes : {P : Type 0} → (P → Store → Type 0) → P → P → Tally → List Record → Option Lsn → Tally → Type 0
Makes shows before behind counted rs None tally = RedoesCounted shows before behind counted tally (λ s. redo_all s rs)
Makes shows before behind counted rs (Some place) tally = (s : Store) → shows before s → first_bad_redo s rs ≡ Some place.0

module _ {P : Type 0} (shows : P → Store → Type 0) where
  pub none_made : (p : P) (counted : Tally) → Makes shows p p counted [] None counted
  none_made p counted = nothing_redone shows p counted

  makes_more : (a b c : P) (counted : Tally) (rs : List Record) (r : Record) (old new : Progress) (bad : Option Lsn)
      → Makes shows a b counted rs bad old.tally → AddsTo shows bad r b c old new → Makes shows a c counted (rs ++ (r ∷ [])) new.bad new.tally
  makes_more a b c counted rs r old new None makes (inl step) =
      subst (λ (bad : Option Lsn). Makes shows a c counted (rs ++ (r ∷ [])) bad new.tally) (sym step.0)
      (both_redone shows a b c counted old.tally new.tally (λ s. redo_all s rs) (λ s. redo s r) (λ s. redo_all s (rs ++ (r ∷ []))) (λ s. redo_all-push s rs r) makes step.1)
  makes_more a b c counted rs r old new None makes (inr step) =
      subst (λ (bad : Option Lsn). Makes shows a c counted (rs ++ (r ∷ [])) bad new.tally) (sym step.0)
      (λ s shown. let one = makes s shown in bad_redo-here s rs one.next r one.made (step.1 one.next one.shown))
  makes_more a b c counted rs r old new (Some at) makes step =
      subst (λ (bad : Option Lsn). Makes shows a c counted (rs ++ (r ∷ [])) bad new.tally) (sym step)
      (λ s shown. bad_redo-more s rs r at.0 (makes s shown))

  -- what was replayed of the entries that were read
  pub record HasReplayed (s : StoreSettings) (begin : Beginning) (upto : Option Lsn) (counted : Tally) (before behind : P) (entries : List Record) (progress : Progress) : Type 0 where
    pub end : progress.end.0 ≡ end_from s.segment begin (taken upto entries)
    pub makes : Makes shows before behind counted (taken upto entries) progress.bad progress.tally

  pub none_replayed : (s : StoreSettings) (begin : Beginning) (upto : Option Lsn) (counted : Tally) (p : P) (progress : Progress) → progress.end.0 ≡ (begin_tip s.segment begin).end → progress.tally ≡ counted → progress.bad ≡ None → HasReplayed s begin upto counted p p [] progress
  none_replayed s begin upto counted p progress end tally bad = record {
    end = end ∙ ap (end_from s.segment begin) (sym (none_taken upto));
    makes = subst (λ (rs : List Record). Makes shows p p counted rs progress.bad progress.tally) (sym (none_taken upto))
        (subst (λ (b : Option Lsn). Makes shows p p counted [] b progress.tally) (sym bad) (subst (λ (t : Tally). Makes shows p p counted [] None t) (sym tally) (none_made p counted)));
  }

  pub one_replayed : (s : StoreSettings) (begin : Beginning) (upto : Option Lsn) (counted : Tally) (before mid behind : P) (entries : List Record) (r : Record) (old new : Progress)
      → HasReplayed s begin upto counted before mid entries old → Takes shows upto r mid behind old new → HasReplayed s begin upto counted before behind (entries ++ (r ∷ [])) new
  one_replayed s begin upto counted before mid behind entries r old new so (inl takes) =
      let more_taken : taken upto (entries ++ (r ∷ [])) ≡ taken upto entries ++ (r ∷ []) = taken-push upto entries r takes.0 in
      record {
        end = ap (λ (x : Lsn). x.0) takes.1.0 ∙ sym (ap (end_from s.segment begin) more_taken ∙ end_push s.segment begin (taken upto entries) r);
        makes = subst (λ (rs : List Record). Makes shows before behind counted rs new.bad new.tally) (sym more_taken)
            (makes_more before mid behind counted (taken upto entries) r old new old.bad so.makes takes.1.1);
      }
  one_replayed s begin upto counted before mid behind entries r old new so (inr stays) =
      let same_taken : taken upto (entries ++ (r ∷ [])) ≡ taken upto entries = taken-same upto entries r stays.0 in
      record {
        end = ap (λ (x : Progress). x.end.0) stays.1.0 ∙ (so.end ∙ ap (end_from s.segment begin) (sym same_taken));
        makes = subst (λ (rs : List Record). Makes shows before behind counted rs new.bad new.tally) (sym same_taken)
            (subst (λ (x : Progress). Makes shows before behind counted (taken upto entries) x.bad x.tally) (sym stays.1.0)
            (subst (λ (p : P). Makes shows before p counted (taken upto entries) old.bad old.tally) (sym stays.1.1) so.makes));
      }

  pub made_over : (behind : P) (counted tally : Tally) (replayed : Replayed) (store : Store) (rs qs : List Record) → qs ≡ rs → replayed.forks ≡ tally.forks → replayed.pages ≡ tally.pages
      → IsRedone (shows behind) counted tally store (redo_all store rs) → IsRedoneOver (shows behind) counted replayed store (redo_all store qs)
  made_over behind counted tally replayed store rs qs same forks pages one = record {
    next = one.next;
    is = ap (redo_all store) same ∙ one.made;
    shown = one.shown;
    forks = λ is. forks ∙ (one.counted is).forks;
    pages = λ is. pages ∙ (one.counted is).pages;
  }

  -- from nothing on it is the whole WAL
  pub shows_whole : (place to : ℕ) (counted : Tally) (behind : P) (entries : List Record) (replayed : Replayed) → counted ≡ fork_tally None → AreRising place entries
      → IsRedoneOver (shows behind) counted replayed empty (redo_all empty (ending_by to entries)) → ShowsWhole (shows behind) entries to replayed.forks replayed.pages
  shows_whole place to counted behind entries replayed none rising one =
      let counts : IsTallyOf counted empty = subst (λ (t : Tally). IsTallyOf t empty) (sym none) none_counted in
      record {
        last = one.next;
        whole = sym (redone_applied place (ending_by to entries) (rising_taken place (Some (lsn to)) entries rising)) ∙ one.is;
        shown = one.shown;
        forks_are = one.forks counts;
        pages_are = one.pages counts;
      }

-- ---- the answers

module _ {V P : Type 0} (g : Ghosts V) (p : PagesGhosts P) where
  unfoldable pub recovered_at : (s : StoreSettings) (begin : Beginning) (upto : Option Lsn) (counted : Tally) (old : V) (before behind : P) (tip : Tip) (entries : List Record) (progress : Progress) (replayed : Replayed)
      → IsAllRead g s begin upto old tip entries → HasReplayed p.shows s begin upto counted before behind entries progress → IsFinished upto tip progress replayed → IsRecovered p s (g.files old) begin upto counted before behind replayed
  recovered_at s begin upto counted old before behind tip entries progress replayed all so done =
      let same : ending_by (replayed_to upto tip) entries ≡ taken upto entries = taken_is upto tip entries all.so_far.below in
      let again : ending_by (replayed_to upto replayed.tip) entries ≡ taken upto entries = ap (λ (t : Tip). ending_by (replayed_to upto t) entries) done.tip ∙ same in
      let makes : RedoesCounted p.shows before behind counted progress.tally (λ store. redo_all store (taken upto entries)) = subst (λ (b : Option Lsn). Makes p.shows before behind counted (taken upto entries) b progress.tally) done.good so.makes in
      record {
        entries = entries;
        read = subst (IsReadFromTo s (g.files old) begin upto entries) (sym done.tip) (at_end s begin upto (g.files old) tip entries all.so_far all.within all.ends done.reached);
        end = ap (λ (x : Lsn). x.0) done.end ∙ (so.end ∙ ap (end_from s.segment begin) (sym again));
        redone = λ store shown. made_over p.shows behind counted progress.tally replayed store (taken upto entries) (ending_by (replayed_to upto replayed.tip) entries) again done.forks done.pages (makes store shown);
      }

  at_bad : (s : StoreSettings) (begin : Beginning) (upto : Option Lsn) (counted : Tally) (files : Option Files) (before behind : P) (tip : Tip) (entries : List Record) (place : Lsn) (progress : Progress) → IsReadSoFar s begin upto files tip entries
      → IfSome files (λ m. found_on s m upto (is_set_behind (is_at_place begin) entries) tip ≡ End)
      → HasReplayed p.shows s begin upto counted before behind entries progress → replayed_to upto tip ≤ tip.end → progress.bad ≡ Some place → IfSome files (λ m. HasRisingBad (p.shows before) s m begin upto place)
  at_bad s begin upto counted files before behind tip entries place progress so ends replayed reached bad =
      let same : ending_by (replayed_to upto tip) entries ≡ taken upto entries = taken_is upto tip entries so.below in
      let first : (store : Store) → p.shows before store → first_bad_redo store (taken upto entries) ≡ Some place.0 = subst (λ (b : Option Lsn). Makes p.shows before behind counted (taken upto entries) b progress.tally) bad replayed.makes in
      when_told files (λ m. IsReadFrom s m begin upto entries tip End) (λ m. HasRisingBad (p.shows before) s m begin upto place)
      (λ m read. record {
        bad = record {
          entries = entries;
          last = tip;
          read = read;
          reached = reached;
          bad = λ store shown. ap (first_bad_redo store) same ∙ first store shown;
        };
        rising = so.rising;
      }) (read_at s begin upto files entries tip End so.passed ends)

  pub redo_refused : (s : StoreSettings) (begin : Beginning) (upto : Option Lsn) (counted : Tally) (old later : V) (before behind : P) (tip : Tip) (entries : List Record) (progress : Progress) (f : RecoveryFault)
      → IsAllRead g s begin upto old tip entries → HasReplayed p.shows s begin upto counted before behind entries progress → FinishAnswer upto tip progress (Err f)
      → CauseOf (rising_causes (p.shows before) s begin upto (g.files old)) (g.faults old) (g.faults later) f
  redo_refused s begin upto counted old later before behind tip entries progress (fault.Damaged mib damage) all so done = absurd done
  redo_refused s begin upto counted old later before behind tip entries progress (fault.Short end target) all so done = ends_short s begin upto (g.files old) tip entries end target all.so_far all.ends done.0 done.1.0 done.1.1
  redo_refused s begin upto counted old later before behind tip entries progress (fault.BadDelta place) all so done = at_bad s begin upto counted (g.files old) before behind tip entries place progress all.so_far all.ends so done.0 done.1
  redo_refused s begin upto counted old later before behind tip entries progress fault.SettingsDamaged all so done = absurd done
  redo_refused s begin upto counted old later before behind tip entries progress (fault.Timeline name) all so done = absurd done
  redo_refused s begin upto counted old later before behind tip entries progress fault.NotInit all so done = absurd done
  redo_refused s begin upto counted old later before behind tip entries progress fault.Failed all so done = absurd done
  redo_refused s begin upto counted old later before behind tip entries progress fault.NoMemory all so done = absurd done

  -- a refusal of the reading is one of the replay
  pub reading_refused : (shown : Store → Type 0) (s : StoreSettings) (begin : Beginning) (upto : Option Lsn) (files : Option Files) (before now : ℕ) (f : RecoveryFault)
      → CauseOf (reading_causes s begin upto files) before now f → CauseOf (rising_causes shown s begin upto files) before now f
  reading_refused shown s begin upto files before now (fault.Damaged mib damage) cause = cause
  reading_refused shown s begin upto files before now (fault.Short end target) cause = cause
  reading_refused shown s begin upto files before now (fault.BadDelta place) cause = absurd cause
  reading_refused shown s begin upto files before now fault.SettingsDamaged cause = absurd cause
  reading_refused shown s begin upto files before now (fault.Timeline name) cause = absurd cause
  reading_refused shown s begin upto files before now fault.NotInit cause = absurd cause
  reading_refused shown s begin upto files before now fault.Failed cause = cause
  reading_refused shown s begin upto files before now fault.NoMemory cause = cause

  -- ---- over what was shown before

  recover_refused : (s : StoreSettings) (begin : Beginning) (upto : Option Lsn) (old later : V) (before : P) (f : RecoveryFault) → CauseOf (rising_causes (p.shows before) s begin upto (g.files old)) (g.faults old) (g.faults later) f
      → CauseOf (redo_causes (p.shows before) s begin upto (g.files old)) (g.faults old) (g.faults later) f
  recover_refused s begin upto old later before (fault.Damaged mib damage) cause = cause
  recover_refused s begin upto old later before (fault.Short end target) cause = cause
  recover_refused s begin upto old later before (fault.BadDelta place) cause =
      when_told (g.files old) (λ m. HasRisingBad (p.shows before) s m begin upto place) (λ m. HasBadRedo (p.shows before) s m begin upto place) (λ m rising. rising.bad) cause
  recover_refused s begin upto old later before fault.SettingsDamaged cause = absurd cause
  recover_refused s begin upto old later before (fault.Timeline name) cause = absurd cause
  recover_refused s begin upto old later before fault.NotInit cause = absurd cause
  recover_refused s begin upto old later before fault.Failed cause = cause
  recover_refused s begin upto old later before fault.NoMemory cause = cause

  pub recovers : {L : Type 0} (l : ListenerGhosts L) (ear later : L) (s : StoreSettings) (begin : Beginning) (upto : Option Lsn) (counted : Tally) (old now : V) (before behind : P) (result : Result Replayed ReplayFault)
      → RedoesFrom g p l s begin upto counted old now before behind ear later result → RecoversInto g p s begin upto counted old now before behind result
  recovers l ear later s begin upto counted old now before behind (Ok replayed) redoes = redoes.recovered
  recovers l ear later s begin upto counted old now before behind (Err (Wal why)) redoes = recover_refused s begin upto old now before why redoes
  recovers l ear later s begin upto counted old now before behind (Err (Out why)) redoes = redoes

  -- ---- over nothing

  unapplied : (s : StoreSettings) (upto : Option Lsn) (m : Files) (before : P) (place : Lsn) → HasRisingBad (p.shows before) s m FirstEntry upto place → p.shows before empty → HasBadDelta s m upto place
  unapplied s upto m before place rising fresh = record {
    entries = rising.bad.entries;
    last = rising.bad.last;
    read = rising.bad.read;
    reached = rising.bad.reached;
    bad = bad_applied (begin_tip s.segment FirstEntry).end place.0 (ending_by (replayed_to upto rising.bad.last) rising.bad.entries)
        (rising_taken (begin_tip s.segment FirstEntry).end (Some (lsn (replayed_to upto rising.bad.last))) rising.bad.entries rising.rising) (rising.bad.bad empty fresh);
  }

  replay_refused : (s : StoreSettings) (upto : Option Lsn) (old later : V) (before : P) (f : RecoveryFault) → CauseOf (rising_causes (p.shows before) s FirstEntry upto (g.files old)) (g.faults old) (g.faults later) f
      → CauseOf (into_causes s upto (g.files old) (p.shows before empty)) (g.faults old) (g.faults later) f
  replay_refused s upto old later before (fault.Damaged mib damage) cause = cause
  replay_refused s upto old later before (fault.Short end target) cause = cause
  replay_refused s upto old later before (fault.BadDelta place) cause =
      when_told (g.files old) (λ m. HasRisingBad (p.shows before) s m FirstEntry upto place) (λ m. p.shows before empty → HasBadDelta s m upto place) (λ m rising. unapplied s upto m before place rising) cause
  replay_refused s upto old later before fault.SettingsDamaged cause = absurd cause
  replay_refused s upto old later before (fault.Timeline name) cause = absurd cause
  replay_refused s upto old later before fault.NotInit cause = absurd cause
  replay_refused s upto old later before fault.Failed cause = cause
  replay_refused s upto old later before fault.NoMemory cause = cause

  replayed_of : (s : StoreSettings) (upto : Option Lsn) (counted : Tally) (files : Option Files) (before behind : P) (replayed : Replayed) → counted ≡ fork_tally None → (done : IsRecovered p s files FirstEntry upto counted before behind replayed)
      → AreRising (begin_tip s.segment FirstEntry).end done.entries → IsReplayed p s files upto before behind replayed
  replayed_of s upto counted files before behind replayed none done rising = record {
    entries = done.entries;
    read = done.read;
    end = done.end;
    redone = λ store shown. let one = done.redone store shown in (one.next, (one.is, one.shown));
    fresh = λ fresh. shows_whole p.shows (begin_tip s.segment FirstEntry).end (replayed_to upto replayed.tip) counted behind done.entries replayed none rising (done.redone empty fresh);
  }

  pub replays : {L : Type 0} (l : ListenerGhosts L) (s : StoreSettings) (upto : Option Lsn) (counted : Tally) (old now : V) (before behind : P) (ear later : L) (result : Result Replayed ReplayFault) → counted ≡ fork_tally None
      → RedoesFrom g p l s FirstEntry upto counted old now before behind ear later result → HearsReplay g p l s upto old now before behind ear later result
  unfolding replayed_of
  replays l s upto counted old now before behind ear later (Ok replayed) none redoes = (replayed_of s upto counted (g.files old) before behind replayed none redoes.recovered redoes.rising, redoes.heard)
  replays l s upto counted old now before behind ear later (Err (Wal why)) none redoes = replay_refused s upto old now before why redoes
  replays l s upto counted old now before behind ear later (Err (Out why)) none redoes = redoes

  -- over the empty store it is a reading into memory
  pub read_from_none : (s : StoreSettings) (upto : Option Lsn) (files : Option Files) (before behind : P) (replayed : Replayed) (done : IsReplayed p s files upto before behind replayed) (fresh : p.shows before empty)
      → IsReadWal s files upto (record { end = replayed.end; tip = replayed.tip; store = (done.fresh fresh).last })
  read_from_none s upto files before behind replayed done fresh = record {
    entries = done.entries;
    archive = done.read.archive;
    tip = done.read.tip;
    ends = done.read.ends;
    reached = done.read.reached;
    store = (done.fresh fresh).whole;
    end = done.end;
    within = done.read.within;
  }

  -- ---- the loop

  -- the area was only read, and what the cursor gave was replayed over the pages
  pub record Keeps (s : StoreSettings) (begin : Beginning) (upto : Option Lsn) (counted : Tally) (old now : V) (before behind : P) (cursor : Cursor) (progress : Progress) : Type 0 where
    pub entries : List Record
    pub read : HasRead g s begin upto old now cursor entries
    pub replayed : HasReplayed p.shows s begin upto counted before behind entries progress
    pub kept : p.keeps before behind
    pub later : p.faults before ≤ p.faults behind

  unfoldable pub next_kept : (s : StoreSettings) (begin : Beginning) (upto : Option Lsn) (counted : Tally) (old now later : V) (before mid behind : P) (c new : Cursor) (progress next : Progress) (r : Record) → Keeps s begin upto counted old now before mid c progress
      → StepsTo g s.segment upto c new now later (Ok (Some r)) → OnlyReads g now later → Takes p.shows upto r mid behind progress next → p.keeps before behind → p.faults mid ≤ p.faults behind
      → Keeps s begin upto counted old later before behind new next
  next_kept s begin upto counted old now later before mid behind c new progress next r kept answer reads takes keeps more = record {
    entries = kept.entries ++ (r ∷ []);
    read = next_read g s begin upto old now later c new kept.entries r kept.read answer reads;
    replayed = one_replayed p.shows s begin upto counted before mid behind kept.entries r progress next kept.replayed takes;
    kept = keeps;
    later = omega (arith, kept.later, more);
  }
