-- Restores of the same files are done, or refused for one reason.
use Rattle.std.proofs.Common.{◌≡◌, ℕ, List, [], ◌∷◌, Option, Some, None, IfSome, Result, Ok, Err, refl, sym, ap, ◌∙◌}
use Rattle.lsn_core.specs.byte_words.Numbers.{◌>>=◌}
use Rattle.lsn_core.specs.Files.{Files}
use Rattle.lsn_core.specs.Segment.{StoreSettings}
use Rattle.lsn_core.specs.Store.{Store}
use Rattle.lsn_core.specs.Tip.{Tip}
use Rattle.lsn_core.specs.declared.lsn.Lsn.{Lsn}
use Rattle.wal_record.specs.declared.record.Record.{Record}
use Rattle.wal_archive.specs.declared.fault.Damage.{Damage}
use Rattle.wal_archive.specs.Rules.{End}
use Rattle.history.specs.Redo.{redo, redo_all}
use Rattle.recovery.specs.declared.fault.RecoveryFault.TheVariants as fault
use Rattle.recovery.specs.declared.reading.Beginning.TheVariants.{AtPlace}
use Rattle.recovery.specs.declared.replaying.Replayed.{Replayed}
use Rattle.recovery.specs.Onward.{IsReadFrom, HasDamageFrom, replayed_to, ending_by}
use Rattle.recovery.specs.Replay.{bad_behind}
use Rattle.recovery.specs.Recovered.{first_bad_redo}
use Rattle.recovery.specs.Causes.{IsShortFrom}
use Rattle.recovery.proofs.OneWal.{same_lsn}
use Rattle.chain_files.specs.Segments.{chain_segments}
use Rattle.backup_restore.specs.declared.fault.RestoreFault.{RestoreFault}
use Rattle.backup_restore.specs.declared.fault.RestoreFault.TheVariants.{Backup, Wal, Out}
use Rattle.backup_restore.specs.Restored.{RestoreAreas, MakesOf, IsRestored, HasBadEntry, RestoreAnswer}
use Rattle.backup_restore.specs.Laws.{IsRestoreOf, FilesDecide, RestoresEndAlike}
use Rattle.backup_restore.proofs.Directories.{one_store}
use Rattle.backup_restore.proofs.OneAnswer.{some_is, told_is, chain_is, one_answer}
use Rattle.backup_restore.proofs.OneReading.{both_end, ends_or_damaged, one_damage, short_or_reached, short_or_damaged, one_short}

-- ---- entries are redone, or one can't be

redone_none : (start place : ℕ) (o : Option Store) (last : Store) (f : Store → Option Store) (g : Store → Option ℕ) → ((s : Store) → f s ≡ Some last → g s ≡ Some place → ⊥) → (o >>= f) ≡ Some last → bad_behind start o g ≡ Some place → ⊥
redone_none start place None last f g step redone bad = absurd cc
redone_none start place (Some s) last f g step redone bad = step s redone bad

redone_or_bad : (store : Store) (rs : List Record) (last : Store) (place : ℕ) → redo_all store rs ≡ Some last → first_bad_redo store rs ≡ Some place → ⊥
redone_or_bad store [] last place redone bad = absurd cc
redone_or_bad store (r ∷ rs) last place redone bad =
    redone_none r.start.0 place (redo store r) last (λ s. redo_all s rs) (λ s. first_bad_redo s rs) (λ s a b. redone_or_bad s rs last place a b) redone bad

bad_by : Option Lsn → Store → List Record → Tip → Option ℕ
bad_by upto copy rs last = first_bad_redo copy (ending_by (replayed_to upto last) rs)

-- ---- what the files decide

data Outcome : Type 0 where
  Done : Replayed → Outcome
  Broken : ℕ → Damage → Outcome
  Early : Lsn → Lsn → Outcome
  BadAt : Lsn → Outcome

answer_of : Outcome → Result Replayed RestoreFault
answer_of (Done replayed) = Ok replayed
answer_of (Broken mib damage) = Err (Wal (fault.Damaged mib damage))
answer_of (Early end target) = Err (Wal (fault.Short end target))
answer_of (BadAt place) = Err (Wal (fault.BadDelta place))

-- ---- of these files, by these settings

module _ (s : StoreSettings) (wal : Files) (chain : List Files) (start : Lsn) (upto : Option Lsn) where
  -- the first entry that can't be redone, over one copy and of one reading
  bad_of : (place : Lsn) (entries : List Record) (last : Tip) (copy : Store) → (bad : HasBadEntry s wal chain start upto place) → bad.copy ≡ copy → bad.entries ≡ entries → bad.last ≡ last → bad_by upto copy entries last ≡ Some place.0
  unfolding bad_by
  bad_of place entries last copy bad same read end =
      sym (ap (λ (c : Store). bad_by upto c bad.entries bad.last) same ∙ (ap (λ (rs : List Record). bad_by upto copy rs bad.last) read ∙ ap (bad_by upto copy entries) end)) ∙ bad.bad

  one_bad : (place other : Lsn) → HasBadEntry s wal chain start upto place → HasBadEntry s wal chain start upto other → place ≡ other
  one_bad place other a b =
      let one = both_end s wal (AtPlace start) upto a.entries b.entries a.last b.last a.read b.read in
      let copies : a.copy ≡ b.copy = one_store s.relseg (chain_segments chain) a.copy b.copy a.held b.held in
      same_lsn place other (some_is place.0 other.0 (sym (bad_of place b.entries b.last b.copy a copies one.entries one.tips) ∙ bad_of other b.entries b.last b.copy b refl refl refl))

  -- a restore that was done, of these files
  record WasRestored (replayed : Replayed) : Type 0 where
    old : RestoreAreas
    new : RestoreAreas
    of : IsRestoreOf wal chain old
    is : IsRestored s start upto old new replayed

  read_of : (replayed : Replayed) → (was : WasRestored replayed) → IsReadFrom s wal (AtPlace start) upto was.is.entries replayed.tip End
  read_of replayed was = told_is (λ m. IsReadFrom s m (AtPlace start) upto was.is.entries replayed.tip End) was.old.wal.files wal was.of.wal_told was.is.read.archive

  made_or_bad : (replayed : Replayed) (place : Lsn) → WasRestored replayed → HasBadEntry s wal chain start upto place → ⊥
  unfolding bad_by
  made_or_bad replayed place was bad =
      let one = both_end s wal (AtPlace start) upto bad.entries was.is.entries bad.last replayed.tip bad.read (read_of replayed was) in
      let made = chain_is (λ m. MakesOf s.relseg m was.is.entries (replayed_to upto replayed.tip) replayed was.new.out.files) was.old.chain chain was.of.chain_told was.of.forms (was.is.made was.of.out_told) in
      let copies : bad.copy ≡ made.copy = one_store s.relseg (chain_segments chain) bad.copy made.copy bad.held made.held in
      redone_or_bad made.copy (ending_by (replayed_to upto replayed.tip) was.is.entries) made.store place.0 made.redone (bad_of place was.is.entries replayed.tip made.copy bad copies one.entries one.tips)

  -- what an outcome says of them
  abbrev Came : Outcome → Type 0
  Came (Done replayed) = WasRestored replayed
  Came (Broken mib damage) = (mib ≡ s.segment) × HasDamageFrom s wal (AtPlace start) upto damage
  Came (Early end target) = IsShortFrom s wal (AtPlace start) upto end target
  Came (BadAt place) = HasBadEntry s wal chain start upto place

  came : (old new : RestoreAreas) (a : Result Replayed RestoreFault) → IsRestoreOf wal chain old → RestoreAnswer s start upto old new a → FilesDecide a → (o : Outcome) × (Came o × (a ≡ answer_of o))
  unfolding answer_of
  came old new (Ok replayed) of answer own = (Done replayed, (record { old = old; new = new; of = of; is = answer }, refl))
  came old new (Err (Wal (fault.Damaged mib damage))) of answer own =
      (Broken mib damage, ((answer.0, told_is (λ m. HasDamageFrom s m (AtPlace start) upto damage) old.wal.files wal of.wal_told answer.1), refl))
  came old new (Err (Wal (fault.Short end target))) of answer own =
      (Early end target, (told_is (λ m. IsShortFrom s m (AtPlace start) upto end target) old.wal.files wal of.wal_told answer, refl))
  came old new (Err (Wal (fault.BadDelta place))) of answer own = (
    BadAt place,
    (
      told_is (λ w. HasBadEntry s w chain start upto place) old.wal.files wal of.wal_told
          (chain_is (λ b. IfSome old.wal.files (λ w. HasBadEntry s w b start upto place)) old.chain chain of.chain_told of.forms (answer of.out_told)),
      refl,
    ),
  )
  came old new (Err (Wal fault.SettingsDamaged)) of answer own = absurd answer
  came old new (Err (Wal (fault.Timeline name))) of answer own = absurd answer
  came old new (Err (Wal fault.NotInit)) of answer own = absurd answer
  came old new (Err (Wal fault.Failed)) of answer own = absurd (own.0 refl)
  came old new (Err (Wal fault.NoMemory)) of answer own = absurd (own.1 refl)
  came old new (Err (Backup fault)) of answer own = absurd own
  came old new (Err (Out why)) of answer own = absurd own

  one_outcome : (o q : Outcome) → Came o → Came q → answer_of o ≡ answer_of q
  unfolding answer_of
  one_outcome (Done r) (Done t) a b = ap (λ (x : Replayed). answer_of (Done x)) (one_answer s start upto wal chain a.old a.new b.old b.new r t a.of b.of a.is b.is).0
  one_outcome (Done r) (Broken mib damage) a b = absurd (ends_or_damaged s wal (AtPlace start) upto a.is.entries r.tip damage (read_of r a) b.1)
  one_outcome (Done r) (Early end target) a b = absurd (short_or_reached s wal (AtPlace start) upto end target a.is.entries r.tip b (read_of r a) a.is.read.reached)
  one_outcome (Done r) (BadAt place) a b = absurd (made_or_bad r place a b)
  one_outcome (Broken mib damage) (Done t) a b = absurd (ends_or_damaged s wal (AtPlace start) upto b.is.entries t.tip damage (read_of t b) a.1)
  one_outcome (Broken mib damage) (Broken nib other) a b =
      ap (λ (n : ℕ). answer_of (Broken n damage)) (a.0 ∙ sym b.0) ∙ ap (λ (d : Damage). answer_of (Broken nib d)) (one_damage s wal (AtPlace start) upto damage other a.1 b.1)
  one_outcome (Broken mib damage) (Early end target) a b = absurd (short_or_damaged s wal (AtPlace start) upto end target damage b a.1)
  one_outcome (Broken mib damage) (BadAt place) a b = absurd (ends_or_damaged s wal (AtPlace start) upto b.entries b.last damage b.read a.1)
  one_outcome (Early end target) (Done t) a b = absurd (short_or_reached s wal (AtPlace start) upto end target b.is.entries t.tip a (read_of t b) b.is.read.reached)
  one_outcome (Early end target) (Broken mib damage) a b = absurd (short_or_damaged s wal (AtPlace start) upto end target damage a b.1)
  one_outcome (Early end target) (Early other aim) a b =
      let one = one_short s wal (AtPlace start) upto end other target aim a b in
      ap (λ (x : Lsn). answer_of (Early x target)) one.0 ∙ ap (λ (x : Lsn). answer_of (Early other x)) one.1
  one_outcome (Early end target) (BadAt place) a b = absurd (short_or_reached s wal (AtPlace start) upto end target b.entries b.last a b.read b.reached)
  one_outcome (BadAt place) (Done t) a b = absurd (made_or_bad t place b a)
  one_outcome (BadAt place) (Broken mib damage) a b = absurd (ends_or_damaged s wal (AtPlace start) upto a.entries a.last damage a.read b.1)
  one_outcome (BadAt place) (Early end target) a b = absurd (short_or_reached s wal (AtPlace start) upto end target a.entries a.last b a.read a.reached)
  one_outcome (BadAt place) (BadAt other) a b = ap (λ (x : Lsn). answer_of (BadAt x)) (one_bad place other a b)

pub end_alike : RestoresEndAlike
end_alike s start upto wal chain old new before behind a b of also first second own other =
    let p = came s wal chain start upto old new a of first own in
    let q = came s wal chain start upto before behind b also second other in
    p.1.1 ∙ (one_outcome s wal chain start upto p.0 q.0 p.1.0 q.1.0 ∙ sym q.1.1)
