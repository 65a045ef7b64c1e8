-- What a stop leaves at each moment of a restart, by what its parts do.
use Rattle.std.proofs.Common.{◌≡◌, ℕ, inl, inr, Option, Some, None, IfSome, IsSome, refl, sym, ap, subst}
use Rattle.lsn_core.specs.Files.{Files}
use Rattle.lsn_core.specs.Segment.{StoreSettings}
use Rattle.lsn_core.specs.Tip.{Tip}
use Rattle.lsn_core.specs.declared.lsn.Lsn.{Lsn}
use Rattle.vault.specs.declared.area.Vault.{Ghosts}
use Rattle.vault.specs.Frame.{Adds, ChangesOnly, IsAmong, IsDurable, OnlyReads}
use Rattle.recovery.specs.declared.tally.Tally.{Tally}
use Rattle.data_areas.specs.declared.areas.DataAreas.{DataAreas}
use Rattle.data_areas.specs.Moments.{Past, StopsLeave, pasts_of}
use Rattle.store_areas.specs.declared.areas.StoreAreas.{StoreAreas}
use Rattle.store_areas.specs.Begin.{data_of}
use Rattle.store_restart.specs.declared.survivors.Survivors.{Survivors}
use Rattle.store_restart.specs.Moments.{IsRemadeLeft, RemakesSafely, BringsSafely, TrimsLast, RestartsFrom}
use Rattle.store_restart.specs.Restart.{AreDurable, BeginsAt, BringsBack, IsForkOrMark, IsUnmarked, OthersStay}
use Rattle.store_restart.specs.Restarted.{areas_of}
use Rattle.store_restart.specs.Survivors.{AreRead}
use Rattle.store_restart.specs.Trimmed.{IsArchiveFile, KeepsFront}
use Rattle.store_restart.proofs.Back.{ends_with}
use Rattle.store_restart.proofs.Neatened.{same_files}
use Rattle.store_restart.proofs.Remade.{each_goes, untouched_safely}

-- ---- data areas of which the first was read before

module _ {V : Type 0} (g : Ghosts V) (s : StoreSettings) (tip : Tip) (old : DataAreas V) (read : V) (reads : OnlyReads g old.data0 read) where
  same_pasts : pasts_of g (record old { data0 = read }) ≡ pasts_of g old
  same_pasts = ap (λ (p : Past). record (pasts_of g old) { data0 = p }) reads.past

  pub unread_safely : (told : Option Files) → IfSome told (BringsSafely g s tip old (record old { data0 = read }))
  unread_safely None = tt
  unread_safely (Some m) = inl (untouched_safely g s tip m old (record old { data0 = read }) same_pasts)

  pub remade_safely : (told : Option Files) (new : DataAreas V) → IfSome told (RemakesSafely g s tip (record old { data0 = read }) new) → IfSome told (BringsSafely g s tip old new)
  remade_safely None new is = tt
  remade_safely (Some m) new is = inl (subst (λ (p : DataAreas Past). StopsLeave (IsRemadeLeft s tip p m) p (pasts_of g new)) same_pasts is)

  pub redone_safely : (told : Option Files) (from : Lsn) (new : DataAreas V) → IfSome told (BeginsAt s tip (Some from)) → IsUnmarked g old → OthersStay g old new → IfSome told (BringsSafely g s tip old new)
  redone_safely None from new begins unmarked changes = tt
  redone_safely (Some m) from new begins unmarked changes = inr (record {
    from = from;
    begins = begins;
    unmarked = unmarked;
    on = each_goes g IsForkOrMark old new changes;
  })

-- ---- all areas

module _ {V : Type 0} (g : Ghosts V) (s : StoreSettings) (old : StoreAreas V) (wal : V) (same : ChangesOnly g (λ name. ⊥) old.wal wal) where
  -- the survivors weren't read
  pub unfound_moments : (new : StoreAreas V) → new ≡ areas_of wal (data_of old) → RestartsFrom g s old new
  unfound_moments new is = subst (RestartsFrom g s old) (sym is) (record { wal = wal; read = same; later = inl (refl, refl) })

  module _ (found : Survivors) (read : AreRead s (g.files old.wal) found) (durable : IsDurable (g.files old.wal) (g.past wal)) (now : V) (reads : OnlyReads g wal now) (pages : DataAreas V) (brings : IfSome (g.files wal) (BringsSafely g s found.tip (data_of old) pages)) where
    brings_here : IfSome (g.files old.wal) (BringsSafely g s found.tip (data_of old) pages)
    brings_here = subst (λ (o : Option Files). IfSome o (BringsSafely g s found.tip (data_of old) pages)) (same_files g old.wal wal same) brings

    -- the data areas were brought on, or it was tried
    pub brought_moments : (new : StoreAreas V) → new ≡ areas_of now pages → RestartsFrom g s old new
    brought_moments new is = subst (RestartsFrom g s old) (sym is) (record {
      wal = wal;
      read = same;
      later = inr (record { tip = found.tip; ends = ends_with s (g.files old.wal) found read; synced = durable; brings = brings_here; last = inl reads.past });
    })

    module _ (tally : Tally) (back : IfSome (g.files wal) (BringsBack g s found.tip (data_of old) pages tally)) (kept : AreDurable g pages) (cut : V) (mib end : ℕ) (is_mib : mib ≡ s.segment) (is_end : end ≡ found.tip.end) (changes : ChangesOnly g (IsArchiveFile mib) now cut) (keeps : KeepsFront mib end (g.past now) (g.past cut)) where
      trims : TrimsLast g s found.tip old wal (areas_of cut pages)
      trims = record {
        tally = tally;
        brings = subst (λ (o : Option Files). IfSome o (BringsBack g s found.tip (data_of old) pages tally)) (same_files g old.wal wal same) back;
        durable = kept;
        cut =
            subst (λ (n : ℕ). Adds (IsAmong (IsArchiveFile n)) (g.past wal) (g.past cut)) is_mib
            (subst (λ (p : Past). Adds (IsAmong (IsArchiveFile mib)) p (g.past cut)) reads.past changes.past);
        keeps =
            subst (λ (n : ℕ). KeepsFront n found.tip.end (g.past wal) (g.past cut)) is_mib
            (subst (λ (n : ℕ). KeepsFront mib n (g.past wal) (g.past cut)) is_end
            (subst (λ (p : Past). KeepsFront mib end p (g.past cut)) reads.past keeps));
      }

      -- and then the archive was cut, or it was tried
      pub trimmed_moments : (new : StoreAreas V) → new ≡ areas_of cut pages → RestartsFrom g s old new
      trimmed_moments new is = subst (RestartsFrom g s old) (sym is) (record {
        wal = wal;
        read = same;
        later = inr (record { tip = found.tip; ends = ends_with s (g.files old.wal) found read; synced = durable; brings = brings_here; last = inr trims });
      })
