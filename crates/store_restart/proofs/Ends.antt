-- What a restart answers, by what its parts do.
use Rattle.std.proofs.Common.{◌≡◌, ℕ, Option, IfSome, refl, sym, subst, ◌∙◌, arith}
use Rattle.lsn_core.specs.Files.{Files}
use Rattle.lsn_core.specs.Segment.{IsSegmentMib, StoreSettings}
use Rattle.lsn_core.specs.Tip.{Tip}
use Rattle.lsn_core.specs.Causes.{Rose}
use Rattle.lsn_core.specs.declared.fault.AreaFault.{AreaFault}
use Rattle.lsn_core.specs.declared.fault.AreaFault.TheVariants.{Failed}
use Rattle.vault.specs.declared.area.Vault.{Ghosts}
use Rattle.vault.specs.Area.{Related}
use Rattle.vault.specs.Frame.{ChangesOnly, IsDurable, OnlyReads}
use Rattle.vault.proofs.Changed.{changes_on}
use Rattle.recovery.specs.declared.tally.Tally.{Tally}
use Rattle.rel_files.proofs.ForkFrames.{changes_none, reads_change}
use Rattle.data_areas.specs.declared.areas.DataAreas.{DataAreas}
use Rattle.store_areas.specs.declared.areas.StoreAreas.{StoreAreas}
use Rattle.store_areas.specs.Begin.{data_of}
use Rattle.store_restart.specs.declared.fault.RestartFault.{RestartFault}
use Rattle.store_restart.specs.declared.fault.RestartWhy.{RestartWhy}
use Rattle.store_restart.specs.declared.survivors.Survivors.{Survivors}
use Rattle.store_restart.specs.Causes.{RestartCause, why_of_wal}
use Rattle.store_restart.specs.Restart.{IsForkOrMark, OthersStay, AreDurable, EndWith, BringsBack, IsBadSurvivor}
use Rattle.store_restart.specs.Restarted.{areas_of, IsUnread, IsBack, IsRefused}
use Rattle.store_restart.specs.Survivors.{AreRead, IsSpoilt}
use Rattle.store_restart.specs.Trimmed.{AreCutAt, IsArchiveFile}
use Rattle.store_restart.proofs.Filled.{changes_more}
use Rattle.store_restart.proofs.Neatened.{same_files}
use Rattle.store_restart.proofs.Back.{cut_back, ends_with, unread_cause, trim_cause, late_cause, none_late, trim_spares}

-- a refusal, by its parts
pub refused_with : {V : Type 0} (g : Ghosts V) (s : StoreSettings) (old : StoreAreas V) (fault : RestartFault V) (now : V) (pages : DataAreas V) (why : RestartWhy) → fault.areas ≡ areas_of now pages → fault.why ≡ why
    → IsRefused g s old (record { areas = areas_of now pages; why = why }) → IsRefused g s old fault
refused_with {V} g s old fault now pages why is told refused =
    subst (λ (a : StoreAreas V). IsRefused g s old (record { areas = a; why = fault.why })) (sym is)
    (subst (λ (w : RestartWhy). IsRefused g s old (record { areas = areas_of now pages; why = w })) (sym told) refused)

synced : {V : Type 0} (g : Ghosts V) (mib : ℕ) (x y : V) → ChangesOnly g (λ name. ⊥) x y → ChangesOnly g (IsArchiveFile mib) x y
synced g mib x y same = changes_more g (λ name. ⊥) (IsArchiveFile mib) x y (λ name none. absurd none) same

read_on : {V : Type 0} (g : Ghosts V) (mib : ℕ) (x y z : V) → ChangesOnly g (λ name. ⊥) x y → OnlyReads g y z → ChangesOnly g (IsArchiveFile mib) x z
read_on g mib x y z same reads = changes_on g (IsArchiveFile mib) x y z (synced g mib x y same) (reads_change g (IsArchiveFile mib) y z reads)

-- the survivors weren't read
pub refused_first : {V : Type 0} (g : Ghosts V) (s : StoreSettings) (old : StoreAreas V) (now : V) (why : RestartWhy) → IsUnread g s old.wal now why → ChangesOnly g (λ name. ⊥) old.wal now → IsRefused g s old (record { areas = areas_of now (data_of old); why = why })
refused_first g s old now why unread same = record {
  cause = unread_cause g s (λ place. IfSome (g.files old.wal) (λ m. (tip : Tip) × (EndWith s tip m × IsBadSurvivor g s tip (data_of old) place m))) old.wal now (data_of old) why unread;
  untouched = λ damage is told. (same, refl);
  wal_others = synced g s.segment old.wal now same;
  data_others = record {
    data0 = changes_none g IsForkOrMark old.data0;
    data1 = changes_none g IsForkOrMark old.data1;
    data2 = changes_none g IsForkOrMark old.data2;
    data3 = changes_none g IsForkOrMark old.data3;
  };
}

-- the data areas weren't brought on
pub refused_later : {V : Type 0} (g : Ghosts V) (s : StoreSettings) (found : Survivors) (old : StoreAreas V) (mid now : V) (pages : DataAreas V) (why : RestartWhy) → AreRead s (g.files old.wal) found → ChangesOnly g (λ name. ⊥) old.wal mid → OnlyReads g mid now
    → OthersStay g (data_of old) pages → RestartCause g (λ damage. IfSome (g.files mid) (λ m. ⊥)) (λ place. IfSome (g.files mid) (IsBadSurvivor g s found.tip (data_of old) place)) mid now (data_of old) pages why
    → IsRefused g s old (record { areas = areas_of now pages; why = why })
refused_later g s found old mid now pages why read same reads others cause = record {
  cause = late_cause g s found.tip old.wal mid now (data_of old) pages why (same_files g old.wal mid same) same.faults (ends_with s (g.files old.wal) found read) cause;
  untouched = λ damage is told. absurd (none_late g (λ place. IfSome (g.files mid) (IsBadSurvivor g s found.tip (data_of old) place)) old.wal mid now (data_of old) pages why damage (same_files g old.wal mid same) cause is told);
  wal_others = read_on g s.segment old.wal mid now same reads;
  data_others = others;
}

-- the WAL wasn't cut
pub refused_last : {V : Type 0} (g : Ghosts V) (s : StoreSettings) (old : StoreAreas V) (mid read now : V) (pages : DataAreas V) (mib : ℕ) (why : AreaFault) → ChangesOnly g (λ name. ⊥) old.wal mid → OnlyReads g mid read → OthersStay g (data_of old) pages → mib ≡ s.segment
    → ChangesOnly g (IsArchiveFile mib) read now → (why ≡ Failed → Rose (g.faults read) (g.faults now)) → IsRefused g s old (record { areas = areas_of now pages; why = why_of_wal why })
refused_last g s old mid read now pages mib why same reads others is changes rose = record {
  cause = trim_cause g (λ damage. IfSome (g.files old.wal) (IsSpoilt s damage)) (λ place. IfSome (g.files old.wal) (λ m. (tip : Tip) × (EndWith s tip m × IsBadSurvivor g s tip (data_of old) place m))) old.wal read now (data_of old) pages why
      (omega (arith, same.faults, reads.faults)) rose;
  untouched = λ damage told some. absurd (trim_spares why damage told);
  wal_others = changes_on g (IsArchiveFile s.segment) old.wal read now (read_on g s.segment old.wal mid read same reads) (subst (λ (n : ℕ). ChangesOnly g (IsArchiveFile n) read now) is changes);
  data_others = others;
}

-- the store was brought back
pub back_whole : {V : Type 0} (g : Ghosts V) (s : StoreSettings) (found : Survivors) (old : StoreAreas V) (mid read now : V) (pages : DataAreas V) (tally : Tally) (mib end : ℕ) → IsSegmentMib mib → mib ≡ s.segment → end ≡ found.tip.end → AreRead s (g.files old.wal) found
    → ChangesOnly g (λ name. ⊥) old.wal mid → OnlyReads g mid read → OthersStay g (data_of old) pages → AreDurable g pages → IfSome (g.files mid) (BringsBack g s found.tip (data_of old) pages tally)
    → Related (AreCutAt mib end) (g.files read) (g.files now) → IsDurable (g.files now) (g.past now) → ChangesOnly g (IsArchiveFile mib) read now
    → IsBack g s old (record { areas = areas_of now pages; tip = found.tip; forks = tally.forks; pages = tally.pages })
back_whole g s found old mid read now pages tally mib end size is ended told same reads others durable brings cut kept changes = record {
  wal = cut_back s found (g.files old.wal) (g.files read) (g.files now) end (subst IsSegmentMib is size) (reads.files ∙ same_files g old.wal mid same) ended told
      (subst (λ (n : ℕ). Related (AreCutAt n end) (g.files read) (g.files now)) is cut);
  wal_durable = kept;
  wal_others = changes_on g (IsArchiveFile s.segment) old.wal read now (read_on g s.segment old.wal mid read same reads) (subst (λ (n : ℕ). ChangesOnly g (IsArchiveFile n) read now) is changes);
  brings = subst (λ (o : Option Files). IfSome o (BringsBack g s found.tip (data_of old) pages tally)) (same_files g old.wal mid same) brings;
  data_durable = durable;
  data_others = others;
}
