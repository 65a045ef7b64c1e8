-- A replay into an area that was empty leaves just the files of what it shows.
use Rattle.std.proofs.Common.{◌≡◌, ◌≢◌, ℕ, ◌<◌, ◌≤◌, true, Option, Some, None, IsSome, IfSome, option_map, Result, Ok, Err, refl, ap, sym, subst, ◌∙◌, arith}
use Rattle.std.specs.FinMap.{empty}
use Rattle.lsn_core.specs.Causes.{Rose}
use Rattle.lsn_core.specs.Files.{Files}
use Rattle.lsn_core.specs.Segment.{StoreSettings}
use Rattle.lsn_core.specs.declared.fault.AreaFault.{AreaFault}
use Rattle.lsn_core.specs.declared.fault.AreaFault.TheVariants.{Failed, NoMemory}
use Rattle.lsn_core.specs.declared.lsn.Lsn.{Lsn}
use Rattle.lsn_core.specs.declared.pages.Pages.{Ghosts as Pages}
use Rattle.lsn_core.specs.Store.{Store, files_of}
use Rattle.vault.specs.Area.{Related}
use Rattle.vault.specs.Frame.{AgreeBut}
use Rattle.vault.specs.declared.area.Vault.{Ghosts}
use Rattle.rel_files.specs.Forks.{IsForkPath}
use Rattle.rel_files.specs.Shown.{AreFilesOf, HoldsStore, ShowsStore, KeepsOthers}
use Rattle.rel_files.specs.declared.forks.Forks.{Forks}
use Rattle.backup_restore.proofs.Outputs.{empty_held, empty_shown, files_shown, told_empty}
use Rattle.wal_archive.specs.Rules.{End}
use Rattle.recovery.specs.declared.fault.RecoveryFault.{RecoveryFault}
use Rattle.recovery.specs.declared.fault.ReplayFault.{ReplayFault as Unreplayed}
use Rattle.recovery.specs.declared.fault.ReplayFault.TheVariants as unreplayed
use Rattle.recovery.specs.declared.replaying.Replayed.{Replayed}
use Rattle.recovery.specs.declared.replaying.ReadWal.{ReadWal}
use Rattle.recovery.specs.Replay.{IsRead}
use Rattle.recovery.specs.Causes.{CauseOf, HasSettings, WalCause}
use Rattle.recovery.specs.Replayed.{into_causes, ReplaysInto}
use Rattle.store_commands.specs.declared.replaying.ReplayReport.{ReplayReport}
use Rattle.store_commands.specs.declared.replaying.ReplayFault.TheVariants as replay
use Rattle.command_base.specs.Areas.{AreaCause}
use Rattle.store_commands.specs.Replay.{ReplayResult, ReplayAreas, ReplayRead, ReplayDone, ReplayAnswer, is_of_pages}
use Rattle.command_base.specs.Outside.{Never}
use Rattle.store_commands.specs.Inner.{replay_areas_in, AnswersReplay, FinishAnswer}
use Rattle.store_commands.proofs.ReplayCauses.{rises, replay_told}

-- ---- how a replay ends

pub none_or_empty : (R : Files → Files → Type 0) (old new : Option Files) → IfSome old (λ m. m ≡ empty) → Related R old new → option_map (λ m. empty) new ≡ old
none_or_empty R None None clear related = refl
none_or_empty R None (Some n) clear related = elim related [ ]
none_or_empty R (Some m) None clear related = elim related [ ]
none_or_empty R (Some m) (Some n) clear related = ap (λ (f : Files). Some f) (sym clear)

pub never_full : (told now : Option Files) → IfSome told (λ m. m ≡ empty) → IfSome told (λ m. m ≢ empty → now ≡ told)
never_full None now clear = tt
never_full (Some m) now clear = λ full. absurd (full clear)

pub area_rises : (a b c d : ℕ) (why : AreaFault) → a ≤ b → c ≤ d → AreaCause b c why → AreaCause a d why
area_rises a b c d Failed low high rose = rises a b c d low high rose
area_rises a b c d NoMemory low high cause = tt

pub area_cause : (before now : ℕ) (why : AreaFault) → (why ≡ Failed → Rose before now) → AreaCause before now why
area_cause before now Failed cause = cause refl
area_cause before now NoMemory cause = tt

module _ {V : Type 0} (g : Ghosts V) (p : Pages (Forks V)) where
  -- the parts of a replay into the forks of an area: what was there before, and what each call did
  pub record Came (upto : Option Lsn) (wal out wal_now out_now : V) (s : StoreSettings) (came : Result Replayed Unreplayed) (answer : ReplayResult) : Type 0 where
    pub read : V
    pub old : Forks V
    pub new : Forks V
    pub shows : (f : Forks V) (store : Store) → ShowsStore g f store → p.shows f store
    pub shown : (f : Forks V) (store : Store) → p.shows f store → ShowsStore g f store
    pub faults : (f : Forks V) → p.faults f ≡ g.faults f.area
    pub clear : IfSome (g.files out) (λ m. m ≡ empty)
    pub given : HasSettings (g.files wal) s
    pub relseg : old.relseg ≡ s.relseg
    pub some : 0 < s.relseg
    pub area : g.files old.area ≡ g.files out
    pub held : (store : Store) → AreFilesOf s.relseg (g.files old.area) store → HoldsStore g old store
    pub kept : KeepsOthers g old new
    pub wal_files : g.files read ≡ g.files wal
    pub into : ReplaysInto g p s upto read wal_now old new came
    pub finish : FinishAnswer g came new.area out_now answer
    pub wal_faults : g.faults wal ≤ g.faults read
    pub out_faults : g.faults out ≤ g.faults old.area
    pub later : g.faults old.area ≤ g.faults new.area
    pub last : g.faults new.area ≤ g.faults out_now

  module _ (upto : Option Lsn) (wal out wal_now out_now : V) (s : StoreSettings) where
    abbrev areas : ReplayAreas
    areas = replay_areas_in g wal out

    abbrev now : ReplayAreas
    now = replay_areas_in g wal_now out_now

    empty_there : (came : Result Replayed Unreplayed) (answer : ReplayResult) (c : Came upto wal out wal_now out_now s came answer) → IsSome (g.files out) → g.files c.old.area ≡ Some empty
    empty_there came answer c told = c.area ∙ told_empty (g.files out) c.clear told

    fresh : (came : Result Replayed Unreplayed) (answer : ReplayResult) (c : Came upto wal out wal_now out_now s came answer) → IsSome (g.files out) → p.shows c.old empty
    fresh came answer c told = c.shows c.old empty (empty_shown g c.old (c.held empty (empty_held s.relseg (g.files c.old.area) (empty_there came answer c told))))

    abbrev read_of : (r : Replayed) → Store → ReadWal
    read_of r store = record { end = r.end; tip = r.tip; store = store }

    done : (r : Replayed) (report : ReplayReport) (c : Came upto wal out wal_now out_now s (Ok r) (Ok report)) → IsSome (g.files out) → ReplayDone upto areas now report
    done r report c told =
        let made = c.into.fresh (fresh (Ok r) (Ok report) c told) in
        let files : g.files c.new.area ≡ Some (files_of s.relseg made.last) =
        (files_shown g c.old.area c.new s.relseg made.last c.some (c.kept.relseg ∙ c.relseg) (empty_there (Ok r) (Ok report) c told) c.kept.area (c.shown c.new made.last made.shown)).are in
        record {
          clear = c.clear;
          settings = s;
          given = c.given;
          read = read_of r made.last;
          read_is = record {
            entries = c.into.entries;
            archive = subst (λ (f : Option Files). IfSome f (λ m. IsRead s m upto c.into.entries r.tip End)) c.wal_files c.into.read.archive;
            tip = c.into.read.tip;
            ends = c.into.read.ends;
            reached = c.into.read.reached;
            store = made.whole;
            end = c.into.end;
            within = c.into.read.within;
          };
          made = made.whole;
          written =
              c.finish.0 ∙ files
              ∙ sym (ap (option_map (λ m. files_of s.relseg made.last)) (told_empty (g.files out) c.clear told));
          end = ap (λ (x : ReplayReport). x.end.0) c.finish.1.0 ∙ c.into.end;
          forks = ap (λ (x : ReplayReport). x.forks) c.finish.1.0 ∙ made.forks_are;
          pages = ap (λ (x : ReplayReport). x.pages) c.finish.1.0 ∙ made.pages_are;
          durable = c.finish.1.1;
        }

    was_read : (r : Replayed) (report : ReplayReport) (c : Came upto wal out wal_now out_now s (Ok r) (Ok report)) → ReplayRead upto areas report
    was_read r report c = record {
      clear = c.clear;
      settings = s;
      given = c.given;
      entries = c.into.entries;
      last = r.tip;
      read = record {
        archive = subst (λ (f : Option Files). IfSome f (λ m. IsRead s m upto c.into.entries r.tip End)) c.wal_files c.into.read.archive;
        tip = c.into.read.tip;
        ends = c.into.read.ends;
        reached = c.into.read.reached;
        within = c.into.read.within;
      };
      end = ap (λ (x : ReplayReport). x.end.0) c.finish.1.0 ∙ c.into.end;
    }

    refused : (f why : RecoveryFault) (c : Came upto wal out wal_now out_now s (Err (unreplayed.Wal f)) (Err (replay.Wal why))) → ReplayAnswer upto Never areas now (Err (replay.Wal why))
    refused f why c = (
      c.clear,
      c.finish.0 ∙ none_or_empty (AgreeBut IsForkPath) (g.files out) (g.files c.new.area) c.clear (subst (λ (o : Option Files). Related (AgreeBut IsForkPath) o (g.files c.new.area)) c.area c.kept.area.files),
      λ of. subst (λ (w : RecoveryFault). WalCause upto (g.files wal) (g.faults wal) (g.faults wal_now) w) (sym c.finish.1)
          (replay_told upto s (g.files wal) (p.shows c.old empty) (g.faults wal) (g.faults c.read) (g.faults wal_now) (g.faults wal_now) f c.given c.wal_faults (omega arith)
          (λ is. fresh (Err (unreplayed.Wal f)) (Err (replay.Wal why)) c (of (subst (λ (w : RecoveryFault). is_of_pages w ≡ true) (sym c.finish.1) is)))
          (subst (λ (o : Option Files). CauseOf (into_causes s upto o (p.shows c.old empty)) (g.faults c.read) (g.faults wal_now) f) c.wal_files c.into)),
    )

    out_failed : (came : Result Replayed Unreplayed) (why : AreaFault) (c : Came upto wal out wal_now out_now s came (Err (replay.Out why))) → AreaCause (g.faults out) (g.faults out_now) why → ReplayAnswer upto Never areas now (Err (replay.Out why))
    out_failed came why c cause = (cause, never_full (g.files out) (g.files out_now) c.clear)

    pub answered : (came : Result Replayed Unreplayed) (answer : ReplayResult) → Came upto wal out wal_now out_now s came answer → AnswersReplay g upto wal out wal_now out_now answer
    answered (Ok r) (Ok report) c = (was_read r report c, λ told. done r report c told)
    answered (Ok r) (Err (replay.Out why)) c =
        out_failed (Ok r) why c (area_rises (g.faults out) (g.faults c.new.area) (g.faults out_now) (g.faults out_now) why (omega (arith, c.out_faults, c.later)) (omega arith) c.finish)
    answered (Ok r) (Err (replay.Site fault)) c = elim c.finish [ ]
    answered (Ok r) (Err replay.NotEmpty) c = elim c.finish [ ]
    answered (Ok r) (Err (replay.Wal why)) c = elim c.finish [ ]
    answered (Err (unreplayed.Out f)) answer c =
        let is : answer ≡ Err (replay.Out f) = c.finish.1 in
        subst (λ (r : ReplayResult). AnswersReplay g upto wal out wal_now out_now r) (sym is) (
          area_rises (g.faults out) (g.faults c.old.area) (g.faults c.new.area) (g.faults out_now) f c.out_faults c.last
              (area_cause (g.faults c.old.area) (g.faults c.new.area) f (λ failed. subst (λ (n : ℕ). Rose n (g.faults c.new.area)) (c.faults c.old) (subst (λ (n : ℕ). Rose (p.faults c.old) n) (c.faults c.new) (c.into failed)))),
          never_full (g.files out) (g.files out_now) c.clear,
        )
    answered (Err (unreplayed.Wal f)) (Err (replay.Wal why)) c = refused f why c
    answered (Err (unreplayed.Wal f)) (Err (replay.Out why)) c =
        out_failed (Err (unreplayed.Wal f)) why c (area_rises (g.faults out) (g.faults c.new.area) (g.faults out_now) (g.faults out_now) why (omega (arith, c.out_faults, c.later)) (omega arith) c.finish)
    answered (Err (unreplayed.Wal f)) (Err (replay.Site fault)) c = elim c.finish [ ]
    answered (Err (unreplayed.Wal f)) (Err replay.NotEmpty) c = elim c.finish [ ]
    answered (Err (unreplayed.Wal f)) (Ok report) c = elim c.finish [ ]
