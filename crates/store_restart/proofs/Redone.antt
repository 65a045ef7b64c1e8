-- Survivors that are read from the start of one of them on, and redone over data areas.
use Rattle.std.proofs.Common.{◌≡◌, ℕ, ◌≤◌, Bool, true, cond, List, [], ◌∷◌, ◌++◌, map, Option, Some, None, Result, Ok, Err, IfSome, refl, sym, ap, subst, ◌∙◌, arith, inl, inr}
use Rattle.std.specs.Prelude.{◌==◌, ◌||◌, IfOk, IfErr}
use Rattle.std.proofs.lemmas.Bool.{le-leb, eqb-true, cases_Bool}
use Rattle.lsn_core.specs.Files.{Files}
use Rattle.lsn_core.specs.Segment.{IsSegmentMib, StoreSettings}
use Rattle.lsn_core.specs.Store.{Store}
use Rattle.lsn_core.specs.Tip.{Tip}
use Rattle.lsn_core.specs.declared.lsn.Lsn.{Lsn}
use Rattle.lsn_core.specs.declared.pages.Pages.{Ghosts as PagesGhosts}
use Rattle.vault.specs.declared.area.Vault.{Ghosts}
use Rattle.wal_record.specs.declared.record.Record.{Record}
use Rattle.wal_record.specs.Tips.{first_tip, tip_after}
use Rattle.wal_archive.specs.Rules.{End, Gives}
use Rattle.wal_archive.specs.declared.fault.Damage.{Damage}
use Rattle.wal_reader.specs.Wal.{stands_behind, stands_at, tip_at, ReadsOn}
use Rattle.wal_reader.proofs.wal_pieces.Onwards.{AreLike, like_next, entry_found, parted}
use Rattle.history.specs.Redo.{redo_all}
use Rattle.history.specs.fuzzy_copies.Orderly.{RecordsRise}
use Rattle.recovery.specs.Onward.{IsReadFrom, IsReadFromTo, HasDamageFrom, ending_by}
use Rattle.recovery.specs.declared.fault.RecoveryFault.{RecoveryFault}
use Rattle.recovery.specs.declared.fault.RecoveryFault.TheVariants as recovery
use Rattle.recovery.specs.declared.fault.ReplayFault.{ReplayFault}
use Rattle.recovery.specs.declared.fault.ReplayFault.TheVariants as replay
use Rattle.recovery.specs.declared.reading.Beginning.TheVariants.{AtPlace}
use Rattle.recovery.specs.declared.replaying.Replayed.{Replayed}
use Rattle.recovery.specs.declared.tally.Tally.{Tally}
use Rattle.recovery.specs.Causes.{CauseOf, IsShortFrom}
use Rattle.recovery.specs.Recovered.{IsRedoneOver, HasBadRedo, RecoversInto, redo_causes, first_bad_redo}
use Rattle.backup_restore.proofs.OneReading.{both_end, ends_or_damaged}
use Rattle.backup_restore.proofs.Rising.{replayed_in, replayed_rest, rest_rises}
use Rattle.data_areas.specs.declared.areas.DataAreas.{DataAreas}
use Rattle.data_areas.specs.Areas.{listed, data_fault}
use Rattle.data_areas.specs.Stored.{AreForksOf}
use Rattle.data_areas.proofs.Stored.{named_cause}
use Rattle.restart_areas.specs.Pages.{HoldParts, ShowsPages, KeepsPages, seen}
use Rattle.restart_areas.specs.declared.store_pages.StorePages.{StorePages}
use Rattle.store_restart.specs.declared.fault.RestartWhy.{RestartWhy}
use Rattle.store_restart.specs.Causes.{RestartCause, replayed_to_tally, replay_why}
use Rattle.store_restart.specs.Restart.{StartsAt, RedoesFrom, IsBadOver, replayed_from}
use Rattle.store_restart.specs.Survivors.{SurviveIn, has_start}
use Rattle.store_restart.proofs.Upto.{reach_on, survivors_rise, not_yet, reads_to}
use Rattle.store_restart.proofs.Filled.{data_why, held}

-- ---- from the start of one of them on

record Starts (from : ℕ) (rs : List Record) : Type 0 where
  older : List Record
  r : Record
  later : List Record
  is : rs ≡ older ++ (r ∷ later)
  starts : r.start.0 ≡ from

behind : (from : ℕ) (q : Record) (rs : List Record) → Starts from rs → Starts from (q ∷ rs)
behind from q rs parts = record {
  older = q ∷ parts.older;
  r = parts.r;
  later = parts.later;
  is = ap (λ (l : List Record). q ∷ l) parts.is;
  starts = parts.starts;
}

starts_in : (from : ℕ) (rs : List Record) → has_start rs from ≡ true → Starts from rs
starts_in from [] there = absurd cc
starts_in from (q ∷ rs) there =
    elim (cases_Bool (q.start.0 == from)) [
      | inl here ↦ record { older = []; r = q; later = rs; is = refl; starts = eqb-true q.start.0 from here }
      | inr past ↦ behind from q rs (starts_in from rs (ap (λ (b : Bool). b || has_start rs from) (sym past) ∙ there))
    ]

-- a reading goes on alike from tips that are alike
goes_alike : (s : StoreSettings) (files : Files) (t u : Tip) (rs : List Record) (last : Tip) → AreLike t u → ReadsOn s files t rs last → (end : Tip) × (ReadsOn s files u rs end × (end.end ≡ last.end))
goes_alike s files t u [] last like walk = (u, (refl, sym like.end ∙ ap (λ (x : Tip). x.end) (sym walk)))
goes_alike s files t u (r ∷ rs) last like walk =
    let more = goes_alike s files (tip_after t r) (tip_after u r) rs last (record { end = refl; prev = refl }) walk.1 in
    (more.0, ((sym (like_next s files t u like) ∙ walk.0, more.1.0), more.1.1))

record IsReadOn (s : StoreSettings) (files : Files) (from target : Lsn) (records : List Record) : Type 0 where
  entries : List Record
  last : Tip
  read : IsReadFrom s files (AtPlace from) (Some target) entries last End
  end : last.end ≡ target.0
  rest : replayed_in from.0 target.0 records ≡ ending_by target.0 entries

reads_parted : (s : StoreSettings) (files : Files) (from target : Lsn) (older later : List Record) (r : Record) (tip : Tip) → IsSegmentMib s.segment → target.0 ≡ tip.end → r.start.0 ≡ from.0 → SurviveIn s files (older ++ (r ∷ later)) tip → IsReadOn s files from target (older ++ (r ∷ later))
reads_parted s files from target older later r tip size is starts survive =
    let first = first_tip s.segment in
    let rise = survivors_rise s files (older ++ (r ∷ later)) tip size survive in
    let parts = parted s files first older (r ∷ later) tip survive.walk in
    let rises : RecordsRise r.start.0 (r ∷ later) = rest_rises first.end older r later rise in
    let at : stands_at s files r.start.0 ≡ Gives r = entry_found s files older parts.mid r size parts.up parts.on.0 in
    let alike = goes_alike s files (tip_after parts.mid r) (tip_after (tip_at from.0) r) later tip (record { end = refl; prev = refl }) parts.on.1 in
    let reach : r.end.0 ≤ tip.end = reach_on s files (tip_after parts.mid r) tip later rises.3 parts.on.1 in
    record {
      entries = r ∷ later;
      last = alike.0;
      read = record {
        reads = (
          not_yet target.0 from.0 (stands_at s files from.0) r (omega (arith, starts, rises.1, reach, is)) (ap (stands_at s files) (sym starts) ∙ at),
          reads_to s files target (tip_after (tip_at from.0) r) alike.0 later rises.3 (omega (arith, is, alike.1.1)) alike.1.0,
        );
        behind = ap (λ (b : Bool). cond b End (stands_behind s files alike.0)) (le-leb target.0 alike.0.end (omega (arith, is, alike.1.1)));
      };
      end = alike.1.1 ∙ sym is;
      rest = ap (λ (n : ℕ). replayed_in n target.0 (older ++ (r ∷ later))) (sym starts) ∙ replayed_rest first.end target.0 older r later rise;
    }

reads_from : (s : StoreSettings) (files : Files) (from target : Lsn) (tip : Tip) → IsSegmentMib s.segment → target.0 ≡ tip.end → (at : StartsAt s tip from files) → IsReadOn s files from target at.records
reads_from s files from target tip size is at =
    let parts = starts_in from.0 at.records at.starts in
    subst (IsReadOn s files from target) (sym parts.is)
    (reads_parted s files from target parts.older parts.later parts.r tip size is parts.starts (subst (λ (rs : List Record). SurviveIn s files rs tip) parts.is at.survive))

-- ---- what came of redoing them

lsn_is : (l k : Lsn) → ◌≡◌ {A = Option Lsn} (Some l) (Some k) → l ≡ k
lsn_is l k e = cc

module _ {V : Type 0} (g : Ghosts V) (s : StoreSettings) (wal now : V) (from target : Lsn) (tip : Tip) (a b : DataAreas V) (x y : StorePages V) (size : IsSegmentMib s.segment) (is : target.0 ≡ tip.end) (start : IfSome (g.files wal) (StartsAt s tip from))
    (were : AreForksOf s.relseg a (seen x)) (kept : KeepsPages g x y) (are : map (λ f. f.area) y.parts ≡ listed b) (shown : (store : Store) → HoldParts g s.relseg a store → ShowsPages g x store) where
  abbrev pub over : PagesGhosts (StorePages V)
  over = record { shows = λ f t. ShowsPages g f t; keeps = λ f h. KeepsPages g f h; faults = λ f. f.faults.count }

  redoes_at : (o : Option Files) (counted : Tally) (done : Replayed) (entries : List Record) → IfSome o (StartsAt s tip from) → IsReadFromTo s o (AtPlace from) (Some target) entries done.tip
      → ((store : Store) → ShowsPages g x store → IsRedoneOver (ShowsPages g y) counted done store (redo_all store (ending_by target.0 entries))) → IfSome o (RedoesFrom g s tip from a b)
  redoes_at None counted done entries at read redone = tt
  redoes_at (Some m) counted done entries at read redone =
      let mine = reads_from s m from target tip size is at in
      let one = both_end s m (AtPlace from) (Some target) mine.entries entries mine.last done.tip mine.read read.archive in
      let same : replayed_in from.0 tip.end at.records ≡ ending_by target.0 entries =
      ap (λ (n : ℕ). replayed_in from.0 n at.records) (sym is) ∙ mine.rest ∙ ap (ending_by target.0) one.entries in
      record {
        records = at.records;
        survive = at.survive;
        redone = λ store holds.
            let made = redone store (shown store holds) in
            (made.next, (ap (redo_all store) same ∙ made.is, held g s.relseg a b x y were kept are made.next made.shown));
      }

  pub redoes : (counted : Tally) (answer : Result Replayed ReplayFault) → RecoversInto g over s (AtPlace from) (Some target) counted wal now x y answer → IfOk (replayed_to_tally y.faults.last answer) (λ tally. IfSome (g.files wal) (RedoesFrom g s tip from a b))
  redoes counted (Ok done) comes = redoes_at (g.files wal) counted done comes.entries start comes.read comes.redone
  redoes counted (Err (replay.Wal why)) comes = tt
  redoes counted (Err (replay.Out why)) comes = tt

  -- ---- it came to no end

  none_damaged : (o : Option Files) (damage : Damage) → IfSome o (StartsAt s tip from) → IfSome o (λ m. HasDamageFrom s m (AtPlace from) (Some target) damage) → IfSome o (λ m. ⊥)
  none_damaged None damage at cause = tt
  none_damaged (Some m) damage at cause =
      let mine = reads_from s m from target tip size is at in
      ends_or_damaged s m (AtPlace from) (Some target) mine.entries mine.last damage mine.read cause

  none_short : (o : Option Files) (early to : Lsn) → IfSome o (StartsAt s tip from) → IfSome o (λ m. IsShortFrom s m (AtPlace from) (Some target) early to) → IfSome o (λ m. ⊥)
  none_short None early to at cause = tt
  none_short (Some m) early to at cause =
      let same = lsn_is target to cause.0 in
      let mine = reads_from s m from to tip size (ap (λ (l : Lsn). l.0) (sym same) ∙ is) at in
      let one = both_end s m (AtPlace from) (Some to) mine.entries cause.1.entries mine.last cause.1.last mine.read cause.1.read in
      omega (arith, cause.1.short, cause.1.end_is, ap (λ (t : Tip). t.end) one.tips, mine.end)

  bad_at : (o : Option Files) (place : Lsn) → IfSome o (StartsAt s tip from) → IfSome o (λ m. HasBadRedo (ShowsPages g x) s m (AtPlace from) (Some target) place) → IfSome o (IsBadOver g s tip from a place)
  bad_at None place at cause = tt
  bad_at (Some m) place at cause =
      let mine = reads_from s m from target tip size is at in
      let one = both_end s m (AtPlace from) (Some target) mine.entries cause.entries mine.last cause.last mine.read cause.read in
      let same : replayed_from at.records from.0 tip.end ≡ ending_by target.0 cause.entries =
      ap (λ (n : ℕ). replayed_in from.0 n at.records) (sym is) ∙ mine.rest ∙ ap (ending_by target.0) one.entries in
      record {
        records = at.records;
        survive = at.survive;
        bad = λ store holds. ap (first_bad_redo store) same ∙ cause.bad store (shown store holds);
      }

  abbrev pub Refused : RestartWhy → Type 0
  Refused why = RestartCause g (λ damage. IfSome (g.files wal) (λ m. ⊥)) (λ place. IfSome (g.files wal) (IsBadOver g s tip from a place)) wal now a b why

  wal_refused : (why : RecoveryFault) → CauseOf (redo_causes (ShowsPages g x) s (AtPlace from) (Some target) (g.files wal)) (g.faults wal) (g.faults now) why → Refused (replay_why why)
  wal_refused (recovery.Damaged mib damage) cause = none_damaged (g.files wal) damage start cause.1
  wal_refused (recovery.Short early to) cause = none_short (g.files wal) early to start cause
  wal_refused (recovery.BadDelta place) cause = bad_at (g.files wal) place start cause
  wal_refused recovery.SettingsDamaged cause = absurd cause
  wal_refused (recovery.Timeline name) cause = absurd cause
  wal_refused recovery.NotInit cause = absurd cause
  wal_refused recovery.Failed cause = cause
  wal_refused recovery.NoMemory cause = tt

  pub refused : (counted : Tally) (answer : Result Replayed ReplayFault) → x.faults.count ≡ 0 → RecoversInto g over s (AtPlace from) (Some target) counted wal now x y answer → IfErr (replayed_to_tally y.faults.last answer) Refused
  refused counted (Ok done) none comes = tt
  refused counted (Err (replay.Wal why)) none comes = wal_refused why comes
  refused counted (Err (replay.Out why)) none comes =
      data_why g (λ damage. IfSome (g.files wal) (λ m. ⊥)) (λ place. IfSome (g.files wal) (IsBadOver g s tip from a place)) wal now a b (data_fault y.faults.last why)
      (named_cause g s.relseg a b (seen x) (seen y) were kept are why none comes)
