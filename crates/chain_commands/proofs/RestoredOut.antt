-- What a restore of a chain comes to, by what each of its parts did.
use Rattle.std.proofs.Common.{◌≡◌, ℕ, zero, suc, ◌+◌, ◌<◌, ◌≤◌, ◌⊎◌, inl, inr, Bool, true, false, cond, not, ltb, List, [], ◌∷◌, length, get_or, map, Option, Some, None, IsSome, IfSome, Result, Ok, Err, refl, ap, sym, subst, ◌∙◌, arith}
use Rattle.std.specs.Prelude.{slice_get, ◌==◌}
use Rattle.std.specs.List.{position, position_or_len}
use Rattle.std.specs.Option.{unwrap_or}
use Rattle.std.proofs.lemmas.Bool.{ltb-false, eq-eqb, eqb-true}
use Rattle.std.proofs.lemmas.List.Quantifiers.{position-Some}
use Rattle.std.proofs.lemmas.Option.{slice_get-get_or}
use Rattle.lsn_core.specs.Causes.{Rose}
use Rattle.lsn_core.specs.Files.{Files}
use Rattle.lsn_core.specs.Segment.{StoreSettings}
use Rattle.lsn_core.specs.Tip.{Tip}
use Rattle.lsn_core.specs.declared.fault.AreaFault.{AreaFault}
use Rattle.lsn_core.specs.declared.fault.AreaFault.TheVariants.{Failed}
use Rattle.lsn_core.specs.declared.lsn.Lsn.{Lsn}
use Rattle.vault.specs.Frame.{AgreeBut, ChangesOnly, OnlyReads}
use Rattle.vault.specs.Area.{Related}
use Rattle.vault.specs.Lending.{Names}
use Rattle.vault.specs.Site.{AreaState, state_in}
use Rattle.vault.specs.declared.area.Vault.{Ghosts}
use Rattle.vault.specs.declared.lending.Held.{Held}
use Rattle.rel_files.specs.Forks.{IsForkPath}
use Rattle.chain_check.specs.declared.member.Member.{Member}
use Rattle.recovery.specs.declared.fault.RecoveryFault.{RecoveryFault}
use Rattle.recovery.specs.declared.fault.RecoveryFault.TheVariants as recovery
use Rattle.recovery.specs.declared.reading.Beginning.TheVariants.{AtPlace}
use Rattle.recovery.specs.declared.replaying.Replayed.{Replayed}
use Rattle.recovery.specs.Onward.{IsReadFromTo, replayed_to}
use Rattle.recovery.specs.Causes.{CauseOf, HasSettings}
use Rattle.backup_restore.specs.declared.fault.RestoreFault.{RestoreFault as Unrestored}
use Rattle.backup_restore.specs.declared.fault.RestoreFault.TheVariants as unrestored
use Rattle.chain_files.specs.Sources.{OfChain}
use Rattle.chain_files.specs.Told.{all_told, told_at, chain_told, faults_at, AllOnlyRead}
use Rattle.chain_files.proofs.Told.{reads_told, reads_faults, reads_length}
use Rattle.backup_restore.specs.Restored.{RestoreAreas, MakesOf, IsRestored, HasBadEntry, restore_causes}
use Rattle.backup_restore.specs.Inside.{areas_in, Restores}
use Rattle.command_base.specs.Areas.{AreaCause}
use Rattle.store_commands.specs.declared.replaying.ReplayReport.{ReplayReport}
use Rattle.chain_commands.specs.declared.restoring.RestoreFault.TheVariants as restore
use Rattle.chain_commands.specs.Chain.{files_told, faults_of, BackupFails, IsChainTo}
use Rattle.chain_commands.specs.Restore.{RestoreSeen, RestoreResult, IsLate, RestoresChain, ReadsPast, wal_causes_from, restored_areas}
use Rattle.chain_commands.specs.Inner.{AreOwnPlaces, areas_at, member_of, IsReady, EndsRestore, restore_seen_in, AnswersRestore}
use Rattle.backup_restore.proofs.OneReading.{one_tip}
use Rattle.store_commands.proofs.ReplayCauses.{rises}
use Rattle.store_commands.proofs.ReplayedOut.{none_or_empty, never_full, area_rises, area_cause}

-- areas of the same files
pub record SameFiles (a b : RestoreAreas) : Type 0 where
  pub wal : a.wal.files ≡ b.wal.files
  pub chain : a.chain ≡ b.chain
  pub out : a.out.files ≡ b.out.files

restored_there : (s : StoreSettings) (start : Lsn) (upto : Option Lsn) (a b c d : RestoreAreas) (r : Replayed) → SameFiles a c → b.out.files ≡ d.out.files → IsRestored s start upto a b r → IsRestored s start upto c d r
restored_there s start upto a b c d r same out is = record {
  entries = is.entries;
  read = subst (λ (o : Option Files). IsReadFromTo s o (AtPlace start) upto is.entries r.tip) same.wal is.read;
  end = is.end;
  made = λ told.
      let made : OfChain a.chain (λ chain. MakesOf s.relseg chain is.entries (replayed_to upto r.tip) r b.out.files) =
      is.made (subst (λ (o : Option Files). IsSome o) (sym same.out) told) in
      subst (λ (o : Option Files). OfChain c.chain (λ chain. MakesOf s.relseg chain is.entries (replayed_to upto r.tip) r o)) out
      (subst (λ (o : Option (List Files)). OfChain o (λ chain. MakesOf s.relseg chain is.entries (replayed_to upto r.tip) r b.out.files)) same.chain made);
}

-- why the WAL is refused, with the settings that were read
cause_there : (s : StoreSettings) (start : Lsn) (end : ℕ) (upto : Option Lsn) (a : RestoreAreas) (c : RestoreSeen) (low before now : ℕ) (why : RecoveryFault) → SameFiles a (restored_areas c) → HasSettings c.wal.files s → ReadsPast s c.wal.files upto start end → low ≤ before → CauseOf (restore_causes s start upto a) before now why
    → CauseOf (wal_causes_from upto c start end) low now why
cause_there s start end upto a c low before now (recovery.Damaged mib damage) same given past later cause =
    (s, given, subst (λ (o : Option Files). CauseOf (restore_causes s start upto (record a { wal = record a.wal { files = o } })) before now (recovery.Damaged mib damage)) same.wal cause)
cause_there s start end upto a c low before now (recovery.Short at target) same given past later cause =
    (s, given, subst (λ (o : Option Files). CauseOf (restore_causes s start upto (record a { wal = record a.wal { files = o } })) before now (recovery.Short at target)) same.wal cause)
cause_there s start end upto a c low before now (recovery.BadDelta place) same given past later cause =
    (s, given, past, λ told. bad_there s start upto a.wal.files c.wal.files a.chain (files_told c.members) place same.wal same.chain (cause (subst (λ (o : Option Files). IsSome o) (sym same.out) told)))
  where
    bad_there : (s : StoreSettings) (start : Lsn) (upto : Option Lsn) (w x : Option Files) (b d : Option (List Files)) (place : Lsn) → w ≡ x → b ≡ d → OfChain b (λ chain. IfSome w (λ f. HasBadEntry s f chain start upto place)) → OfChain d (λ chain. IfSome x (λ f. HasBadEntry s f chain start upto place))
    bad_there s start upto w x b d place wal chain bad =
        subst (λ (o : Option Files). OfChain d (λ m. IfSome o (λ f. HasBadEntry s f m start upto place))) wal
        (subst (λ (o : Option (List Files)). OfChain o (λ m. IfSome w (λ f. HasBadEntry s f m start upto place))) chain bad)
cause_there s start end upto a c low before now recovery.SettingsDamaged same given past later cause = absurd cause
cause_there s start end upto a c low before now (recovery.Timeline name) same given past later cause = absurd cause
cause_there s start end upto a c low before now recovery.NotInit same given past later cause = absurd cause
cause_there s start end upto a c low before now recovery.Failed same given past later cause = rises low before now now later (omega arith) cause
cause_there s start end upto a c low before now recovery.NoMemory same given past later cause = tt

-- ---- the members

get_told : {V : Type 0} (g : Ghosts V) (areas : List (Held V)) (places : List ℕ) → map (λ (x : AreaState). x.files) (areas_at g areas places) ≡ map (told_at g areas) places
get_told g areas [] = refl
get_told g areas (place ∷ places) = ap (λ (os : List (Option Files)). told_at g areas place ∷ os) (get_told g areas places)

-- what the members tell
pub chain_is : {V : Type 0} (g : Ghosts V) (areas : List (Held V)) (places : List ℕ) → files_told (areas_at g areas places) ≡ chain_told g areas places
chain_is g areas places = ap all_told (get_told g areas places)

count_at : {V : Type 0} (g : Ghosts V) (areas : List (Held V)) (places : List ℕ) (member area : ℕ) → slice_get places member ≡ Some area → faults_of (areas_at g areas places) member ≡ faults_at g areas area
count_at g areas [] member area e = absurd cc
count_at g areas (p ∷ places) zero area e = (let same : p ≡ area = cc in ap (faults_at g areas) same)
count_at g areas (p ∷ places) (suc member) area e = count_at g areas places member area e

cond_none : (b : Bool) (n : ℕ) → cond b (Some n) None ≡ None → b ≡ false
cond_none true n e = absurd cc
cond_none false n e = refl

place_by : (place area : ℕ) (places : List ℕ) (b : Bool) → place == area ≡ b → ((member : ℕ) → slice_get places member ≡ Some area → position_or_len (λ p. p == area) places < length places)
    → (member : ℕ) → slice_get (place ∷ places) member ≡ Some area → cond (not b) (1 + position_or_len (λ p. p == area) places) 0 < length (place ∷ places)
place_by place area places true e rest member there = omega arith
place_by place area places false e rest zero there = (let same : place ≡ area = cc in absurd (let yes : place == area ≡ true = eq-eqb place area same in cc (yes, e)))
place_by place area places false e rest (suc member) there = (let less = rest member there in omega (arith, less))

placed : (area : ℕ) (places : List ℕ) (member : ℕ) → slice_get places member ≡ Some area → position_or_len (λ p. p == area) places < length places
placed area [] member there = absurd cc
placed area (place ∷ places) member there = place_by place area places (place == area) refl (placed area places) member there

-- the area of a member is at the place of the first member that has it
member_there : (area : ℕ) (places : List ℕ) (o : Option ℕ) → position (λ p. p == area) places ≡ o → (member : ℕ) → slice_get places member ≡ Some area → slice_get places (unwrap_or o (length places)) ≡ Some area
member_there area places None e member there =
    (let past : length places ≤ position_or_len (λ p. p == area) places = ltb-false _ _ (cond_none (ltb (position_or_len (λ p. p == area) places) (length places)) (position_or_len (λ p. p == area) places) e) in
    let less = placed area places member there in absurd (omega (arith, past, less)))
member_there area places (Some first) e member there =
    (let p = position-Some (λ p. p == area) places first area e in
    slice_get-get_or places first area p.0 ∙ ap (λ (n : ℕ). Some n) (eqb-true (get_or places first area) area p.1))

none_held : {V : Type 0} (g : Ghosts V) (areas : List (Held V)) (area : ℕ) → length areas ≤ area → faults_at g areas area ≡ 0
none_held g [] area past = refl
none_held g (x ∷ areas) zero past = absurd (omega (arith, past))
none_held g (x ∷ areas) (suc area) past = none_held g areas area (omega (arith, past))

less_or_past : (a n : ℕ) → (a < n) ⊎ (n ≤ a)
less_or_past a zero = inr (omega arith)
less_or_past zero (suc n) = inl (omega arith)
less_or_past (suc a) (suc n) = elim (less_or_past a n) [
  | inl less ↦ inl (omega (arith, less))
  | inr past ↦ inr (omega (arith, past))
]

-- the area of a place failed, and so that of the first member that has it
pub member_fails : {V : Type 0} (g : Ghosts V) (old mid new : List (Held V)) (places : List ℕ) (area : ℕ) (why : AreaFault) → AreOwnPlaces (length old) places → AllOnlyRead g old mid → AllOnlyRead g mid new → (why ≡ Failed → Rose (faults_at g mid area) (faults_at g new area))
    → BackupFails (areas_at g old places) (areas_at g new places) (member_of places area) why
member_fails g old mid new places area why own first second fails = λ failed.
    let rose = fails failed in
    elim (less_or_past area (length old)) [
      | inl less ↦
          (let is = own area less in
          let there = member_there area places (position (λ p. p == area) places) refl is.0 is.1 in
          let was = count_at g old places (member_of places area) area there in
          let now = count_at g new places (member_of places area) area there in
          let before = reads_faults g old mid first area in
          omega (arith, rose, before, was, now))
      | inr past ↦
          (let counts : length new ≡ length old = reads_length g mid new second ∙ reads_length g old mid first in
          let none = none_held g new area (omega (arith, past, counts)) in
          absurd (omega (arith, rose, none)))
    ]

-- a target that is given is where the replay ends
up_to : (upto : Option Lsn) (member : Member) (tip : Tip) → IsSome upto → IsLate upto member → member.manifest.end ≤ replayed_to upto tip
up_to (Some target) member tip given late = late
up_to None member tip given late = absurd cc

module _ {V : Type 0} (g : Ghosts V) where
  -- the parts of a restore: what was known before anything was written, and what each call did
  pub record Came (upto : Option Lsn) (names : Names) (places : List ℕ) (wal : V) (areas : List (Held V)) (out wal_now : V) (areas_now : List (Held V)) (out_now : V) (came : Result Replayed Unrestored) (answer : RestoreResult) : Type 0 where
    pub member : Member
    pub settings : StoreSettings
    pub wal_read : V
    pub areas_read : List (Held V)
    pub out_seen : V
    pub made : V
    pub own : AreOwnPlaces (length areas) places
    pub found : IsChainTo names (areas_at g areas places) member
    pub ready : IsReady upto member (state_in g wal) (state_in g out) settings
    pub wal_same : OnlyReads g wal wal_read
    pub areas_same : AllOnlyRead g areas areas_read
    pub out_same : g.files out_seen ≡ g.files out
    pub out_later : g.faults out ≤ g.faults out_seen
    pub restores : Restores g settings member.label.start upto places wal_read areas_read out_seen wal_now areas_now made came
    pub areas_after : AllOnlyRead g areas_read areas_now
    pub kept : ChangesOnly g IsForkPath out_seen made
    pub ends : EndsRestore g places came made out_now answer
    pub later : g.faults made ≤ g.faults out_now

  module _ (upto : Option Lsn) (names : Names) (places : List ℕ) (wal : V) (areas : List (Held V)) (out wal_now : V) (areas_now : List (Held V)) (out_now : V) where
    abbrev old : RestoreSeen
    old = restore_seen_in g places wal areas out

    abbrev new : RestoreSeen
    new = restore_seen_in g places wal_now areas_now out_now

    same_areas : (came : Result Replayed Unrestored) (answer : RestoreResult) (c : Came upto names places wal areas out wal_now areas_now out_now came answer) → SameFiles (areas_in g places c.wal_read c.areas_read c.out_seen) (restored_areas old)
    same_areas came answer c = record { wal = c.wal_same.files; chain = reads_told g areas c.areas_read c.areas_same places ∙ sym (chain_is g areas places); out = c.out_same }

    done : (r : Replayed) (report : ReplayReport) (c : Came upto names places wal areas out wal_now areas_now out_now (Ok r) (Ok report)) → RestoresChain upto old new report c.member
    done r report c = record {
      clear = c.ready.clear;
      settings = c.settings;
      given = c.ready.given;
      replayed = r;
      restored = restored_there c.settings c.member.label.start upto (areas_in g places c.wal_read c.areas_read c.out_seen) (areas_in g places wal_now areas_now c.made) (restored_areas old) (restored_areas new) r (same_areas (Ok r) (Ok report) c) (sym c.ends.0) c.restores;
      reached = λ known. elim known [
        | inl told ↦ subst (λ (t : Tip). c.member.manifest.end ≤ replayed_to upto t)
            (one_tip c.settings (g.files wal) (g.files c.wal_read) (AtPlace c.member.label.start) upto c.ready.past.entries c.restores.entries c.ready.past.last r.tip c.wal_same.files told c.ready.past.read c.restores.read)
            c.ready.past.reached
        | inr given ↦ up_to upto c.member r.tip given c.ready.late
      ];
      end = ap (λ (x : ReplayReport). x.end.0) c.ends.1.0;
      forks = ap (λ (x : ReplayReport). x.forks) c.ends.1.0;
      pages = ap (λ (x : ReplayReport). x.pages) c.ends.1.0;
      durable = c.ends.1.1;
    }

    seen : (came : Result Replayed Unrestored) (answer : RestoreResult) (c : Came upto names places wal areas out wal_now areas_now out_now came answer) → Related (AgreeBut IsForkPath) (g.files out) (g.files c.made)
    seen came answer c = subst (λ (o : Option Files). Related (AgreeBut IsForkPath) o (g.files c.made)) c.out_same c.kept.files

    refused : (f why : RecoveryFault) (c : Came upto names places wal areas out wal_now areas_now out_now (Err (unrestored.Wal f)) (Err (restore.Wal why))) → AnswersRestore g upto names places wal areas out wal_now areas_now out_now (Err (restore.Wal why))
    refused f why c = (
      record {
        newest = c.member;
        chain = c.found;
        holds = record {
          late = c.ready.late;
          clear = c.ready.clear;
          cause = subst (λ (w : RecoveryFault). CauseOf (wal_causes_from upto old c.member.label.start c.member.manifest.end) (g.faults wal) (g.faults wal_now) w) (sym c.ends.1)
              (cause_there c.settings c.member.label.start c.member.manifest.end upto (areas_in g places c.wal_read c.areas_read c.out_seen) old (g.faults wal) (g.faults c.wal_read) (g.faults wal_now) f (same_areas (Err (unrestored.Wal f)) (Err (restore.Wal why)) c) c.ready.given c.ready.past c.wal_same.faults c.restores);
        };
      },
      c.ends.0 ∙ none_or_empty (AgreeBut IsForkPath) (g.files out) (g.files c.made) c.ready.clear (seen (Err (unrestored.Wal f)) (Err (restore.Wal why)) c),
    )

    out_failed : (came : Result Replayed Unrestored) (why : AreaFault) (c : Came upto names places wal areas out wal_now areas_now out_now came (Err (restore.Out why))) → AreaCause (g.faults c.made) (g.faults out_now) why → AnswersRestore g upto names places wal areas out wal_now areas_now out_now (Err (restore.Out why))
    out_failed came why c cause = (
      area_rises (g.faults out) (g.faults c.made) (g.faults out_now) (g.faults out_now) why (omega (arith, c.out_later, c.kept.faults)) (omega arith) cause,
      never_full (g.files out) (g.files out_now) c.ready.clear,
    )

    pub answered : (came : Result Replayed Unrestored) (answer : RestoreResult) → Came upto names places wal areas out wal_now areas_now out_now came answer → AnswersRestore g upto names places wal areas out wal_now areas_now out_now answer
    answered (Ok r) (Ok report) c = record { newest = c.member; chain = c.found; holds = done r report c }
    answered (Ok r) (Err (restore.Out why)) c = out_failed (Ok r) why c c.ends
    answered (Ok r) (Err (restore.Site fault)) c = absurd c.ends
    answered (Ok r) (Err (restore.Members fault)) c = absurd c.ends
    answered (Ok r) (Err (restore.Early target end)) c = absurd c.ends
    answered (Ok r) (Err restore.NotEmpty) c = absurd c.ends
    answered (Ok r) (Err (restore.Wal why)) c = absurd c.ends
    answered (Ok r) (Err (restore.Backup place why)) c = absurd c.ends
    answered (Err (unrestored.Backup f)) answer c =
        subst (λ (r : RestoreResult). AnswersRestore g upto names places wal areas out wal_now areas_now out_now r) (sym c.ends) (
          member_fails g areas c.areas_read areas_now places f.area f.why c.own c.areas_same c.areas_after c.restores,
          never_full (g.files out) (g.files out_now) c.ready.clear,
        )
    answered (Err (unrestored.Out f)) answer c =
        subst (λ (r : RestoreResult). AnswersRestore g upto names places wal areas out wal_now areas_now out_now r) (sym c.ends.1) (
          area_rises (g.faults out) (g.faults c.out_seen) (g.faults c.made) (g.faults out_now) f c.out_later c.later (area_cause (g.faults c.out_seen) (g.faults c.made) f c.restores),
          never_full (g.files out) (g.files out_now) c.ready.clear,
        )
    answered (Err (unrestored.Wal f)) (Err (restore.Wal why)) c = refused f why c
    answered (Err (unrestored.Wal f)) (Err (restore.Out why)) c = out_failed (Err (unrestored.Wal f)) why c c.ends
    answered (Err (unrestored.Wal f)) (Err (restore.Site fault)) c = absurd c.ends
    answered (Err (unrestored.Wal f)) (Err (restore.Members fault)) c = absurd c.ends
    answered (Err (unrestored.Wal f)) (Err (restore.Early target end)) c = absurd c.ends
    answered (Err (unrestored.Wal f)) (Err restore.NotEmpty) c = absurd c.ends
    answered (Err (unrestored.Wal f)) (Err (restore.Backup place why)) c = absurd c.ends
    answered (Err (unrestored.Wal f)) (Ok report) c = absurd c.ends
