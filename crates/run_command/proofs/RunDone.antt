-- What a run leaves of the areas of a store, and the history that it came to.
use Rattle.std.proofs.Common.{◌≡◌, ℕ, zero, suc, ◌+◌, ◌-◌, ◌<◌, ◌≤◌, Bool, true, false, List, [], ◌∷◌, ◌++◌, map, length, get_or, Option, Some, None, Result, Ok, Err, IfSome, refl, sym, ap, subst, ◌∙◌, arith, inl, inr}
use Rattle.std.specs.List.{All, flat_map, slice_get, sum_by}
use Rattle.std.specs.FinMap.{empty, get}
use Rattle.std.specs.Prelude.{IsSome, codes, ◌==◌}
use Rattle.std.proofs.lemmas.List.Sums.{get_or-le-sum_by}
use Rattle.std.proofs.lemmas.Option.{get_or_from_slice_get, slice_get-get_or, slice_get_within}
use Rattle.lsn_core.specs.Causes.{Rose}
use Rattle.lsn_core.specs.Files.{Files}
use Rattle.lsn_core.specs.Store.{Store}
use Rattle.lsn_core.specs.Segment.{StoreSettings, IsSegmentMib}
use Rattle.lsn_core.specs.Tip.{Tip}
use Rattle.lsn_core.specs.declared.lsn.Lsn.{Lsn}
use Rattle.lsn_core.specs.declared.fault.StoreArea.{StoreArea}
use Rattle.lsn_core.specs.declared.fault.StoreArea.TheVariants.{Wal, Data, Sums}
use Rattle.lsn_core.specs.declared.fault.StoreFault.{StoreFault}
use Rattle.lsn_core.specs.declared.fault.StoreFault.TheVariants as store
use Rattle.vault.specs.Area.{Related}
use Rattle.vault.specs.Site.{Areas, AreaState, state_in}
use Rattle.vault.specs.Lending.{IsOneOf, Names, names_of}
use Rattle.vault.specs.declared.lending.Held.{Held}
use Rattle.vault.proofs.LentAreas.{later_named}
use Rattle.vault.proofs.SetAreas.{set_at-same, set_at-other, same_or_not}
use Rattle.vault.specs.declared.area.Vault.{Ghosts as Vaults}
use Rattle.wal_archive.specs.Archive.{archive_of}
use Rattle.wal_archive.specs.Writing.{IsLeft}
use Rattle.wal_record.specs.declared.record.Record.{Record}
use Rattle.wal_record.specs.Tips.{first_tip}
use Rattle.wal_reader.specs.Settings.{GivesSettings, IsSettingsOf}
use Rattle.wal_reader.specs.Wal.{ReadsOn, IsWal}
use Rattle.history.specs.Entry.{Entry}
use Rattle.history.specs.Apply.{apply_all}
use Rattle.history.specs.Whole.{entry_of}
use Rattle.history.specs.Written.{tip_of, wal_of}
use Rattle.history.specs.fuzzy_copies.Logged.{history_of, log_of}
use Rattle.history.specs.fuzzy_copies.Orderly.{IsOrderly}
use Rattle.journal.specs.Lawful.{IsLawful}
use Rattle.journal.proofs.Stands.{lawful_orderly}
use Rattle.recovery.specs.Causes.{HasSettings}
use mathlib.Core.List.{IsPrefix}
use Rattle.timeline.proofs.Prefixes.{prefix_trans}
use Rattle.store_areas.specs.declared.areas.StoreAreas.{StoreAreas}
use Rattle.store_areas.specs.declared.found.Found.{Found}
use Rattle.store_faults.specs.declared.begin_why.BeginWhy.{BeginWhy}
use Rattle.store_locks.specs.Seen.{Seen, Booked, accepted_by, marks_by, share_of}
use Rattle.shared_store.specs.Shared.{CountsItsOwn}
use Rattle.store_areas.specs.Opened.{NoneFell}
use Rattle.store_locks.specs.Locked.{HasRisen}
use Rattle.store_locks.specs.Calls.{MayWriteWal, IsOfRun}
use Rattle.store_areas.specs.Begin.{HasBegun, faults_of, shown_of}
use Rattle.store_locks.specs.Seen.{fresh_pass}
use Rattle.store_locks.specs.Records.{HoldsRecords}
use Rattle.store_lifecycle.specs.Close.{CloseAnswer, HoldsHistory, area_at, area_of, all_booked, booked_at}
use Rattle.store_locks.specs.Inside.{end_of}
use Rattle.shared_summaries.proofs.Shelves.{crews_keep_honest}
use Rattle.crew.specs.Backups.{areas_asked, areas_of}
use Rattle.crew.specs.Run.{Basis, basis_of, IsAnswered, TellsFault}
use Rattle.crew.proofs.Joined.{crew_joined}
use Rattle.crew.proofs.Kept.{backups_told}
use Rattle.crew.proofs.Increased.{incrs_told}
use Rattle.run_answers.specs.declared.told.Told.{Told}
use Rattle.run_answers.specs.declared.outcome.RunReport.{RunReport}
use Rattle.command_base.specs.Areas.{wal_name, sums_name}
use Rattle.summary_store.specs.Honest.{IsHonest}
use Rattle.run_command.specs.Run.{AreTold, found_tip, HasFound, all_records, HoldsRun, LeavesWal, IsClosing, StoreFails, ToldFaultsRose, KeepsHonest, RunDone, run_basis}
use Rattle.run_command.specs.Inner.{AreLast, HasRunTo, HasRunOn, IsLaterPass, IsRunOn, Part, RunsOn, RunsPart, basis_found, starts_of, wal_start, tell}
use Rattle.command_base.proofs.Told.{some_told, at_told}
use Rattle.run_command.proofs.Idle.{none_own}
use Rattle.run_command.proofs.StoreLent.{AreAt, AreThere, all_durable, wal_files, data_files, rose_at, tell_told, other, none_counted}
use Rattle.run_command.proofs.ToldLess.{answered_less, stand_less, incrs_less, fail_at}
use Rattle.run_command.proofs.Crews.{all_at, found_seen, from_at, last_at, length_map, length_told, part_at}
use Rattle.run_command.proofs.OwnEntries.{AreOwn, owned, written_own, parted, same_front, held_read, log_makes}

-- ---- the areas hold the history

segment_is : (o : Option (List ℕ)) (mib relseg : ℕ) → GivesSettings o mib relseg → IsSegmentMib mib
segment_is None mib relseg given = subst IsSegmentMib (sym given.0) (record { least = omega arith; most = omega arith; divides = refl })
segment_is (Some bytes) mib relseg given = given.segment

some_segment : (files : Option Files) (m : Files) (s : StoreSettings) → files ≡ Some m → HasSettings files s → 1 ≤ s.segment
some_segment files m s told given =
    let is : IsSettingsOf m s = at_told files m (λ n. IsSettingsOf n s) told given.given in
    (segment_is (get m (codes "settings")) s.segment s.relseg is.given).least

related_told : (R : Files → Files → Type 0) (old new : Option Files) (m n : Files) → old ≡ Some m → new ≡ Some n → Related R old new → R m n
related_told R old new m n was is both = subst (λ (o : Option Files). Related R (Some m) o) is (subst (λ (o : Option Files). Related R o new) was both)

-- the records that a WAL holds, where those that were found are read of it still
held_records : (s : StoreSettings) (files : Files) (found lawful : List Record) (own more : List Entry) (last : ℕ) (end : Tip) → ReadsOn s files (first_tip s.segment) found end → map entry_of lawful ++ more ≡ map entry_of found ++ own → AreOwn more → AreOwn own
    → (HoldsRecords s (log_of s.segment lawful more) last files) → (lawful ≡ found) × (more ≡ own)
held_records s files found lawful own more last end read same mores owns holds =
    let part = parted lawful found more own mores owns same in
    (sym (same_front s files (first_tip s.segment) found lawful (wal_of s.segment (history_of lawful more)) end holds.tip (sym part.0) read holds.read), part.1)

holds_run : {V : Type 0} (g : Vaults V) (s : StoreSettings) (history : List Entry) (b : StoreAreas V) (old new : Areas) (found : List Record) (own : List Entry) (base : Store) (m : Files) → AreAt g new b → HoldsHistory g s history b → history ≡ map entry_of found ++ own → AreOwn own
    → apply_all empty (map entry_of found) ≡ Some base → (old wal_name).files ≡ Some m → HasSettings (old wal_name).files s → HasFound s found m → LeavesWal s found history (old wal_name) (new wal_name) → HoldsRun s found history new
holds_run g s history b old new found own base m at holds grown owns begun was given there leaves =
    let law : IsLawful s.segment history = holds.lawful in
    let told : (new wal_name).files ≡ Some holds.files = wal_files g new b at ∙ holds.wal in
    let kept = related_told (λ x y. IsLeft (archive_of s.segment x) (archive_of s.segment y) (found_tip s found).end ((tip_of s.segment history).end - (found_tip s found).end)) (old wal_name).files (new wal_name).files m holds.files was told leaves.left in
    let read : ReadsOn s holds.files (first_tip s.segment) found (found_tip s found) = held_read s m holds.files found (found_tip s found) ((tip_of s.segment history).end - (found_tip s found).end) (some_segment (old wal_name).files m s was given) there kept in
    let same : map entry_of law.found ++ law.own ≡ map entry_of found ++ own = sym law.grown ∙ grown in
    let is = held_records s holds.files found law.found own law.own (end_of s.segment history) (found_tip s found) read same (written_own s.segment _ law.own law.logged.written) owns holds.records in
    let log : log_of s.segment law.found law.own ≡ all_records s found history = ap (λ (rs : List Record). rs ++ wal_of s.segment (history_of law.found law.own)) is.0 ∙ ap (λ (es : List Entry). found ++ wal_of s.segment es) (sym law.grown) in
    record {
      store = law.store;
      made = law.made;
      files = holds.files;
      told = told;
      records = subst (λ (rs : List Record). HoldsRecords s rs (end_of s.segment history) holds.files) log holds.records;
      replayed = ap (λ (rs : List Record). apply_all empty (map entry_of rs)) (sym log)
          ∙ log_makes s.segment law.found law.own base law.store (ap (λ (rs : List Record). apply_all empty (map entry_of rs)) is.0 ∙ begun) (ap (λ (es : List Entry). apply_all empty es) (sym law.grown) ∙ law.made) law.logged.written;
      parts = λ q lt. let part = holds.parts q lt in record { part = part.part; is = part.is; files_are = data_files g new b at q lt ∙ part.files_are };
      durable = all_durable g new b at holds.durable;
    }

-- ---- counts of faults

-- none fell, and each fault that was answered is one
started : (start booked now : ℕ) → HasRisen start booked now → start ≤ now
started start booked now risen = omega (arith, risen.0)

rises : (old start booked now : ℕ) → old ≤ start → 0 < booked → HasRisen start booked now → Rose old now
rises old start booked now early some risen = omega (arith, early, some, risen.1)

-- by the number of an area of the store
by_number : {V : Type 0} (g : Vaults V) (old new : Areas) (a b : StoreAreas V) (number start booked : ℕ) → AreAt g old a → AreAt g new b → number < 5 → g.faults (area_at a number) ≤ start → 0 < booked → HasRisen start booked (g.faults (area_at b number)) → StoreFails old new (store.Failed (area_of number))
by_number g old new a b zero start booked was at lt early some risen = rose_at g old new a b was at (Data 0) (rises (g.faults a.data0) start booked (g.faults b.data0) early some risen)
by_number g old new a b (suc zero) start booked was at lt early some risen = rose_at g old new a b was at (Data 1) (rises (g.faults a.data1) start booked (g.faults b.data1) early some risen)
by_number g old new a b (suc (suc zero)) start booked was at lt early some risen = rose_at g old new a b was at (Data 2) (rises (g.faults a.data2) start booked (g.faults b.data2) early some risen)
by_number g old new a b (suc (suc (suc zero))) start booked was at lt early some risen = rose_at g old new a b was at (Data 3) (rises (g.faults a.data3) start booked (g.faults b.data3) early some risen)
by_number g old new a b (suc (suc (suc (suc zero)))) start booked was at lt early some risen = rose_at g old new a b was at Wal (rises (g.faults a.wal) start booked (g.faults b.wal) early some risen)
by_number g old new a b (suc (suc (suc (suc (suc n))))) start booked was at lt early some risen = absurd (omega (arith, lt))

-- the areas that a store was found on had not failed less often than those that it was found on before
found_later : {V : Type 0} (g : Vaults V) (a : StoreAreas V) (found : Found V) (sums : V) → NoneFell (faults_of g a) (shown_of g found).faults → (number : ℕ) → number < 5 → g.faults (area_at a number) ≤ starts_of g found sums number
found_later g a found sums later zero lt = later (Data 0)
found_later g a found sums later (suc zero) lt = later (Data 1)
found_later g a found sums later (suc (suc zero)) lt = later (Data 2)
found_later g a found sums later (suc (suc (suc zero))) lt = later (Data 3)
found_later g a found sums later (suc (suc (suc (suc zero)))) lt = later Wal
found_later g a found sums later (suc (suc (suc (suc (suc n))))) lt = absurd (omega (arith, lt))

-- what a pass was answered is booked with what the others were
booked_among : (number : ℕ) (passes : List Seen) (worker : ℕ) (p : Seen) → slice_get passes worker ≡ Some p → booked_at number p.faults ≤ all_booked number passes
booked_among number passes worker p there =
    subst (λ (q : Seen). booked_at number q.faults ≤ all_booked number passes) (get_or_from_slice_get passes worker p p there)
    (get_or-le-sum_by (λ (x : Seen). booked_at number x.faults) passes worker p (slice_get_within passes worker p there))

sums_among : (passes : List Seen) (worker : ℕ) (p : Seen) → slice_get passes worker ≡ Some p → p.faults.sums ≤ sum_by (λ (q : Seen). q.faults.sums) passes
sums_among passes worker p there =
    subst (λ (q : Seen). q.faults.sums ≤ sum_by (λ (q : Seen). q.faults.sums) passes) (get_or_from_slice_get passes worker p p there)
    (get_or-le-sum_by (λ (x : Seen). x.faults.sums) passes worker p (slice_get_within passes worker p there))

-- ---- a worker's run

-- what holds of each pass holds of one
of_pass : (P : Seen → Type 0) (passes : List Seen) (worker : ℕ) (p : Seen) → All P passes → slice_get passes worker ≡ Some p → P p
of_pass P passes worker p all there = subst P (get_or_from_slice_get passes worker p p there) (all worker p (slice_get_within passes worker p there))

-- a worker's part of a run, with its pass when the store was closed
record WorkerRan {V : Type 0} (g : Vaults V) (tells : Type 0) (b : Basis) (passes : List Seen) (parts : List (Part V)) (worker : ℕ) (t : Told) : Type 0 where
  part : Part V
  there : slice_get parts worker ≡ Some part
  told : part.told ≡ t
  ran : RunsPart g tells b part
  from : part.from ≡ fresh_pass worker b.found
  last : Seen
  at : slice_get passes worker ≡ Some last
  later : IsLaterPass part.to last

worker_ran : {V : Type 0} (g : Vaults V) (tells : Type 0) (b : Basis) (start : ℕ) (first : Seen) (rest : List Seen) (sums : V) (booked : ℕ) (held kept : List (Held V)) (told : List Told) (ran : HasRunTo g tells b start first rest sums booked held kept told) (worker : ℕ) (t : Told) → slice_get told worker ≡ Some t
    → WorkerRan g tells b (first ∷ rest) ran.parts worker t
worker_ran g tells b start first rest sums booked held kept told ran worker t there =
    let it = part_at g tells b ran.parts held kept told worker t ran.has there in
    let end = last_at b.found ran.parts first rest worker it.0 ran.last it.1 in
    record {
      part = it.0;
      there = it.1;
      told = it.2;
      ran = all_at (RunsPart g tells b) ran.parts worker it.0 ran.has.ran it.1;
      from = from_at b.found ran.parts worker it.0 ran.fresh it.1;
      last = end.0;
      at = end.1;
      later = end.2;
    }

-- the areas of a worker, by its number
abbrev pub areas_at : {V : Type 0} → (Part V → List (Held V)) → List (Part V) → ℕ → List (Held V)
areas_at f [] worker = []
areas_at f (part ∷ parts) zero = f part
areas_at f (part ∷ parts) (suc worker) = areas_at f parts worker

at_number : {V : Type 0} (f : Part V → List (Held V)) (parts : List (Part V)) (worker : ℕ) (part : Part V) → slice_get parts worker ≡ Some part → areas_at f parts worker ≡ f part
at_number f [] worker part there = absurd cc
at_number f (p ∷ parts) zero part there =
    let same : p ≡ part = cc in
    ap f same
at_number f (p ∷ parts) (suc worker) part there = at_number f parts worker part there

-- over the finished history a worker was answered so
answered : {V : Type 0} (g : Vaults V) (tells : Bool) (b : Basis) (passes : List Seen) (parts : List (Part V)) (history : List Entry) (worker : ℕ) (t : Told) → WorkerRan g (tells ≡ true) b passes parts worker t → All (λ (p : Seen). IsPrefix p.list history) passes → All (CountsItsOwn history) passes
    → IsAnswered (tells ≡ true) b worker history (length b.found) t.task.lines t.answers (areas_of g (areas_at (λ part. part.held) parts worker)) (areas_of g (areas_at (λ part. part.kept) parts worker))
answered g tells b passes parts history worker t w seen all =
    let counts : CountsItsOwn history w.last = of_pass (CountsItsOwn history) passes worker w.last all w.at in
    let who : w.last.worker ≡ worker = w.later.stays.worker ∙ (w.ran.run.stays.worker ∙ ap (λ (p : Seen). p.worker) w.from) in
    let is = crew_joined tells b history worker w.part.told.task.lines w.part.told.answers (areas_of g w.part.held) (areas_of g w.part.kept) (record {
      old = w.part.from;
      new = w.part.to;
      ran = w.ran.run;
      who = ap (λ (p : Seen). p.worker) w.from;
      found = ap (λ (p : Seen). length p.list) w.from;
      none = ap (λ (p : Seen). p.accepted) w.from;
      unmarked = ap (λ (p : Seen). p.marks) w.from;
      seen = prefix_trans w.part.to.list w.last.list history w.later.stays.seen (of_pass (λ (p : Seen). IsPrefix p.list history) passes worker w.last seen w.at);
      all = sym w.later.accepted ∙ (counts.commands ∙ ap (λ (n : ℕ). length (accepted_by n history)) w.later.stays.worker);
      marks = sym w.later.marks ∙ (counts.marks ∙ ap (λ (n : ℕ). length (marks_by n history)) w.later.stays.worker);
    }) in
    subst (λ (h : List (Held _)). IsAnswered (tells ≡ true) b worker history (length b.found) t.task.lines t.answers (areas_of g h) (areas_of g (areas_at (λ part. part.kept) parts worker))) (sym (at_number (λ part. part.held) parts worker w.part w.there))
    (subst (λ (k : List (Held _)). IsAnswered (tells ≡ true) b worker history (length b.found) t.task.lines t.answers (areas_of g w.part.held) (areas_of g k)) (sym (at_number (λ part. part.kept) parts worker w.part w.there))
    (subst (λ (u : Told). IsAnswered (tells ≡ true) b worker history (length b.found) u.task.lines u.answers (areas_of g w.part.held) (areas_of g w.part.kept)) w.told is))

-- each area that an answer tells to have failed did
share_told : {V : Type 0} (g : Vaults V) (tells : Type 0) (b : Basis) (passes : List Seen) (parts : List (Part V)) (worker : ℕ) (t : Told) (old new : Areas) → WorkerRan g tells b passes parts worker t
    → ((area : StoreArea) (w : ℕ) (p : Seen) → slice_get passes w ≡ Some p → 0 < share_of area p.faults → StoreFails old new (store.Failed area)) → All (λ answer. (area : StoreArea) → TellsFault area answer → StoreFails old new (store.Failed area)) t.answers
share_told g tells b passes parts worker t old new w fails =
    subst (λ (u : Told). All (λ answer. (area : StoreArea) → TellsFault area answer → StoreFails old new (store.Failed area)) u.answers) w.told
    (λ k d within area tells. fails area worker w.last w.at (omega (arith, w.ran.run.risen k d within area tells, ap (share_of area) w.later.faults)))

shares_told : {V : Type 0} (g : Vaults V) (tells : Type 0) (b : Basis) (start : ℕ) (first : Seen) (rest : List Seen) (sums : V) (booked : ℕ) (held kept : List (Held V)) (old new : Areas) (told : List Told) → HasRunTo g tells b start first rest sums booked held kept told
    → ((area : StoreArea) (w : ℕ) (p : Seen) → slice_get (first ∷ rest) w ≡ Some p → 0 < share_of area p.faults → StoreFails old new (store.Failed area)) → ToldFaultsRose old new told
shares_told g tells b start first rest sums booked held kept old new told ran fails = λ k d within.
    let there : slice_get told k ≡ Some (get_or told k d) = slice_get-get_or told k d within in
    share_told g tells b (first ∷ rest) ran.parts k (get_or told k d) old new (worker_ran g tells b start first rest sums booked held kept told ran k (get_or told k d) there) fails

-- ---- the whole

-- all that a run came to, seen from the site: its areas, and the basis as the site tells it
record IsAtSite {V : Type 0} (g : Vaults V) (when limit : ℕ) (old new : Areas) (a b : StoreAreas V) (before sums : V) (held kept : List (Held V)) (report : RunReport) : Type 0 where
  found : Found V
  begun : HasBegun (g.files a.wal) (shown_of g found) found.tip
  later : NoneFell (faults_of g a) (shown_of g found).faults
  opened : report.opened.0 ≡ found.tip.end
  was : AreAt g old a
  at : AreAt g new b
  sums_was : old sums_name ≡ state_in g before
  sums_at : new sums_name ≡ state_in g sums
  leads : AreTold old → tell g a ≡ true
  runs : HasRunOn g (tell g a ≡ true) (run_basis found.settings when limit begun.found old) (wal_start g found) (starts_of g found before) b sums held kept report.told report.closed

basis_same : (s : StoreSettings) (when limit : ℕ) (h i : List Entry) (f e : Option Files) → h ≡ i → f ≡ e → basis_of s when h f limit ≡ basis_of s when i e limit
basis_same s when limit h i f e first second = ap (λ (x : List Entry). basis_of s when x f limit) first ∙ ap (λ (y : Option Files). basis_of s when i y limit) second

at_site : {V : Type 0} (g : Vaults V) (when limit : ℕ) (old new : Areas) (a b : StoreAreas V) (before sums : V) (held kept : List (Held V)) (report : RunReport) → AreAt g old a → AreAt g new b → old sums_name ≡ state_in g before → new sums_name ≡ state_in g sums → IsRunOn g when limit a b before sums held kept report
    → IsAtSite g when limit old new a b before sums held kept report
at_site g when limit old new a b before sums held kept report was at sums_was sums_at ran =
    let has : HasBegun (g.files a.wal) (shown_of g ran.found) ran.found.tip = ran.begins.has in
    let same : basis_found g ran.found before when limit ≡ run_basis ran.found.settings when limit has.found old =
    basis_same ran.found.settings when limit ran.found.opened.list (map entry_of has.found) (g.files before) (old sums_name).files has.history (sym (ap (λ (x : AreaState). x.files) sums_was)) in
    record {
      found = ran.found;
      begun = has;
      later = ran.begins.later;
      opened = ran.opened;
      was = was;
      at = at;
      sums_was = sums_was;
      sums_at = sums_at;
      leads = λ told. tell_told g old a was told;
      runs = subst (λ (x : Basis). HasRunOn g (tell g a ≡ true) x (wal_start g ran.found) (starts_of g ran.found before) b sums held kept report.told report.closed) same ran.runs;
    }

leaves : {V : Type 0} (g : Vaults V) (when limit : ℕ) (old new : Areas) (a b : StoreAreas V) (before sums : V) (held kept : List (Held V)) (report : RunReport) (x : IsAtSite g when limit old new a b before sums held kept report) → LeavesWal x.found.settings x.begun.found x.runs.closes.history (old wal_name) (new wal_name)
leaves g when limit old new a b before sums held kept report x =
    let s : StoreSettings = x.found.settings in
    let end : ℕ = end_of s.segment x.runs.closes.history in
    subst (λ (n : ℕ). MayWriteWal s.segment n end (old wal_name).files (new wal_name).files) (ap (λ (t : Tip). t.end) x.begun.tip_is)
    (subst (λ (o : Option Files). MayWriteWal s.segment x.found.tip.end end (old wal_name).files o) (sym (wal_files g new b x.at))
    (subst (λ (o : Option Files). MayWriteWal s.segment x.found.tip.end end o (g.files b.wal)) (x.begun.wal ∙ sym (wal_files g old a x.was)) x.runs.closes.wal))

own_grown : {V : Type 0} (g : Vaults V) (when limit : ℕ) (old new : Areas) (a b : StoreAreas V) (before sums : V) (held kept : List (Held V)) (report : RunReport) (x : IsAtSite g when limit old new a b before sums held kept report) → x.runs.closes.history ≡ map entry_of x.begun.found ++ x.runs.closes.runs.own
own_grown g when limit old new a b before sums held kept report x = x.runs.closes.runs.all

was_given : {V : Type 0} (g : Vaults V) (when limit : ℕ) (old new : Areas) (a b : StoreAreas V) (before sums : V) (held kept : List (Held V)) (report : RunReport) (x : IsAtSite g when limit old new a b before sums held kept report) → HasSettings (old wal_name).files x.found.settings
was_given g when limit old new a b before sums held kept report x = subst (λ (o : Option Files). HasSettings o x.found.settings) (sym (wal_files g old a x.was)) x.begun.given

was_there : {V : Type 0} (g : Vaults V) (when limit : ℕ) (old new : Areas) (a b : StoreAreas V) (before sums : V) (held kept : List (Held V)) (report : RunReport) (x : IsAtSite g when limit old new a b before sums held kept report) → IfSome (old wal_name).files (HasFound x.found.settings x.begun.found)
was_there g when limit old new a b before sums held kept report x =
    subst (λ (t : Tip). IfSome (old wal_name).files (λ m. IsWal x.found.settings m x.begun.found t)) x.begun.tip_is
    (subst (λ (o : Option Files). IfSome o (λ m. IsWal x.found.settings m x.begun.found x.found.tip)) (sym (wal_files g old a x.was)) x.begun.archive)

-- an area of the store of which a worker was answered a fault failed
number_fails : {V : Type 0} (g : Vaults V) (when limit : ℕ) (old new : Areas) (a b : StoreAreas V) (before sums : V) (held kept : List (Held V)) (report : RunReport) (x : IsAtSite g when limit old new a b before sums held kept report) (number worker : ℕ) (p : Seen) → number < 5 → slice_get (x.runs.first ∷ x.runs.rest) worker ≡ Some p → 0 < booked_at number p.faults
    → StoreFails old new (store.Failed (area_of number))
number_fails g when limit old new a b before sums held kept report x number worker p lt there some =
    by_number g old new a b number (starts_of g x.found before number) (all_booked number (x.runs.first ∷ x.runs.rest)) x.was x.at lt (found_later g a x.found before x.later number lt)
    (omega (arith, some, booked_among number (x.runs.first ∷ x.runs.rest) worker p there)) (x.runs.closes.risen number lt)

none_shared : (q : ℕ) (p : Booked) → 4 ≤ q → share_of (Data q) p ≡ 0
none_shared q p le =
    let zero : q == 0 ≡ false = other q 0 (omega arith) in
    let one : q == 1 ≡ false = other q 1 (omega arith) in
    let two : q == 2 ≡ false = other q 2 (omega arith) in
    let three : q == 3 ≡ false = other q 3 (omega arith) in
    rw (zero, one, two, three) refl

area_fails : {V : Type 0} (g : Vaults V) (when limit : ℕ) (old new : Areas) (a b : StoreAreas V) (before sums : V) (held kept : List (Held V)) (report : RunReport) (x : IsAtSite g when limit old new a b before sums held kept report) (area : StoreArea) (worker : ℕ) (p : Seen) → slice_get (x.runs.first ∷ x.runs.rest) worker ≡ Some p → 0 < share_of area p.faults
    → StoreFails old new (store.Failed area)
area_fails g when limit old new a b before sums held kept report x Wal worker p there some = number_fails g when limit old new a b before sums held kept report x 4 worker p (omega arith) there some
area_fails g when limit old new a b before sums held kept report x (Data zero) worker p there some = number_fails g when limit old new a b before sums held kept report x 0 worker p (omega arith) there some
area_fails g when limit old new a b before sums held kept report x (Data (suc zero)) worker p there some = number_fails g when limit old new a b before sums held kept report x 1 worker p (omega arith) there some
area_fails g when limit old new a b before sums held kept report x (Data (suc (suc zero))) worker p there some = number_fails g when limit old new a b before sums held kept report x 2 worker p (omega arith) there some
area_fails g when limit old new a b before sums held kept report x (Data (suc (suc (suc zero)))) worker p there some = number_fails g when limit old new a b before sums held kept report x 3 worker p (omega arith) there some
area_fails g when limit old new a b before sums held kept report x (Data (suc (suc (suc (suc q))))) worker p there some =
    absurd (omega (arith, some, none_shared (suc (suc (suc (suc q)))) p.faults (omega arith)))
area_fails g when limit old new a b before sums held kept report x Sums worker p there some =
    let all : ℕ = sum_by (λ (q : Seen). q.faults.sums) (x.runs.first ∷ x.runs.rest) in
    let rose : Rose (g.faults before) (g.faults sums) = rises (g.faults before) (g.faults before) all (g.faults sums) (omega arith) (omega (arith, some, sums_among (x.runs.first ∷ x.runs.rest) worker p there)) x.runs.ran.risen in
    omega (arith, rose, ap (λ (y : AreaState). y.faults) x.sums_was, ap (λ (y : AreaState). y.faults) x.sums_at)

-- how closing ended
closing : {V : Type 0} (g : Vaults V) (when limit : ℕ) (old new : Areas) (a b : StoreAreas V) (before sums : V) (held kept : List (Held V)) (report : RunReport) (x : IsAtSite g when limit old new a b before sums held kept report) (answer : Result Lsn StoreFault)
    → CloseAnswer g (tell g a ≡ true) x.found.settings x.runs.closes.history (starts_of g x.found before) (x.runs.first ∷ x.runs.rest) b answer
    → (AreTold old → HoldsHistory g x.found.settings x.runs.closes.history b → HoldsRun x.found.settings x.begun.found x.runs.closes.history new)
    → IsClosing x.found.settings x.begun.found x.runs.closes.history old new answer
closing g when limit old new a b before sums held kept report x (Ok end) is holds = (is.0, λ told. holds told (is.1 (x.leads told)))
closing g when limit old new a b before sums held kept report x (Err (store.Failed which)) is holds =
    subst (λ (w : StoreArea). StoreFails old new (store.Failed w)) (sym is.is)
    (by_number g old new a b is.number (starts_of g x.found before is.number) (all_booked is.number (x.runs.first ∷ x.runs.rest) + 1) x.was x.at is.below (found_later g a x.found before x.later is.number is.below) (omega arith) is.risen)
closing g when limit old new a b before sums held kept report x (Err store.NoMemory) is holds = tt

-- its entries are those of the workers that the script has
own_of : {V : Type 0} (found own history : List Entry) (parts : List (Part V)) (first : Seen) (rest : List Seen) (many : ℕ) → AreLast found parts first rest → length parts ≡ many → history ≡ found ++ own → All (IsOfRun (length (first ∷ rest))) own → CountsItsOwn history first → All (IsOfRun many) own
own_of found own history [] first rest many last is grown of all =
    let one : length (first ∷ rest) ≡ 1 = ap (λ (ps : List Seen). suc (length ps)) last.1 in
    let who : first.worker ≡ 0 = last.0.stays.worker in
    subst (λ (n : ℕ). All (IsOfRun n) own) is
    (none_own found own history grown (subst (λ (n : ℕ). All (IsOfRun n) own) one of)
    (omega (arith, all.commands, last.0.accepted, ap (λ (w : ℕ). length (accepted_by w history)) who))
    (omega (arith, all.marks, last.0.marks, ap (λ (w : ℕ). length (marks_by w history)) who)))
own_of found own history (part ∷ parts) first rest many last is grown of all =
    let same : length (first ∷ rest) ≡ many = ap (λ (ps : List Seen). suc (length ps)) last.1 ∙ (ap suc (length_map (λ p. p.to) parts) ∙ is) in
    subst (λ (n : ℕ). All (IsOfRun n) own) same of

told_own : {V : Type 0} (g : Vaults V) (tells : Type 0) (b : Basis) (start : ℕ) (first : Seen) (rest : List Seen) (sums : V) (booked : ℕ) (held kept : List (Held V)) (told : List Told) (own history : List Entry) → HasRunTo g tells b start first rest sums booked held kept told
    → history ≡ b.found ++ own → All (IsOfRun (length (first ∷ rest))) own → CountsItsOwn history first → All (IsOfRun (length told)) own
told_own g tells b start first rest sums booked held kept told own history ran grown of all =
    own_of b.found own history ran.parts first rest (length told) ran.last (length_told g tells b ran.parts held kept told ran.has) grown of all

-- no count of an area of the store fell
run_fell : {V : Type 0} (g : Vaults V) (when limit : ℕ) (a b : StoreAreas V) (before sums : V) (held kept : List (Held V)) (report : RunReport) → IsRunOn g when limit a b before sums held kept report → NoneFell (faults_of g a) (faults_of g b)
run_fell g when limit a b before sums held kept report ran Wal = omega (arith, ran.begins.later Wal, started _ _ _ (ran.runs.closes.risen 4 (omega arith)))
run_fell g when limit a b before sums held kept report ran (Data zero) = omega (arith, ran.begins.later (Data 0), started _ _ _ (ran.runs.closes.risen 0 (omega arith)))
run_fell g when limit a b before sums held kept report ran (Data (suc zero)) = omega (arith, ran.begins.later (Data 1), started _ _ _ (ran.runs.closes.risen 1 (omega arith)))
run_fell g when limit a b before sums held kept report ran (Data (suc (suc zero))) = omega (arith, ran.begins.later (Data 2), started _ _ _ (ran.runs.closes.risen 2 (omega arith)))
run_fell g when limit a b before sums held kept report ran (Data (suc (suc (suc zero)))) = omega (arith, ran.begins.later (Data 3), started _ _ _ (ran.runs.closes.risen 3 (omega arith)))
run_fell g when limit a b before sums held kept report ran (Data (suc (suc (suc (suc q))))) =
    omega (arith, none_counted (suc (suc (suc (suc q)))) (faults_of g a) (omega arith), none_counted (suc (suc (suc (suc q)))) (faults_of g b) (omega arith))
run_fell g when limit a b before sums held kept report ran Sums = omega arith

-- nor that of the area of summaries
sums_fell : {V : Type 0} (g : Vaults V) (when limit : ℕ) (a b : StoreAreas V) (before sums : V) (held kept : List (Held V)) (report : RunReport) → IsRunOn g when limit a b before sums held kept report → g.faults before ≤ g.faults sums
sums_fell g when limit a b before sums held kept report ran = started _ _ _ ran.runs.ran.risen

-- nor where no store was begun
pub runs_fell : {V : Type 0} (g : Vaults V) (when limit : ℕ) (a b : StoreAreas V) (before sums : V) (held kept : List (Held V)) (r : Result RunReport BeginWhy) → RunsOn g when limit a b before sums held kept r → NoneFell (faults_of g a) (faults_of g b) × (g.faults before ≤ g.faults sums)
runs_fell g when limit a b before sums held kept (Ok report) ran = (run_fell g when limit a b before sums held kept report ran, sums_fell g when limit a b before sums held kept report ran)
runs_fell g when limit a b before sums held kept (Err why) un = (un.0.later, omega (arith, ap (λ v. g.faults v) un.1))

-- the run of one of its workers
its_run : {V : Type 0} (g : Vaults V) (when limit : ℕ) (old new : Areas) (a b : StoreAreas V) (before sums : V) (held kept : List (Held V)) (report : RunReport) (x : IsAtSite g when limit old new a b before sums held kept report) (worker : ℕ) (t : Told) → slice_get report.told worker ≡ Some t
    → WorkerRan g (tell g a ≡ true) (run_basis x.found.settings when limit x.begun.found old) (x.runs.first ∷ x.runs.rest) x.runs.ran.parts worker t
its_run g when limit old new a b before sums held kept report x worker t there =
    worker_ran g (tell g a ≡ true) (run_basis x.found.settings when limit x.begun.found old) (starts_of g x.found before 5) x.runs.first x.runs.rest sums (sum_by (λ (q : Seen). q.faults.sums) (x.runs.first ∷ x.runs.rest)) held kept report.told x.runs.ran worker t there

-- over the finished history each worker was answered so
all_answered : {V : Type 0} (g : Vaults V) (when limit : ℕ) (old new : Areas) (a b : StoreAreas V) (before sums : V) (held kept : List (Held V)) (report : RunReport) (x : IsAtSite g when limit old new a b before sums held kept report) (worker : ℕ) (t : Told) → slice_get report.told worker ≡ Some t
    → IsAnswered (tell g a ≡ true) (run_basis x.found.settings when limit x.begun.found old) worker x.runs.closes.history (length (map entry_of x.begun.found)) t.task.lines t.answers (areas_of g (areas_at (λ part. part.held) x.runs.ran.parts worker)) (areas_of g (areas_at (λ part. part.kept) x.runs.ran.parts worker))
all_answered g when limit old new a b before sums held kept report x worker t there =
    answered g (tell g a) (run_basis x.found.settings when limit x.begun.found old) (x.runs.first ∷ x.runs.rest) x.runs.ran.parts x.runs.closes.history worker t (its_run g when limit old new a b before sums held kept report x worker t there) x.runs.closes.seen x.runs.closes.counted

there_front : {V : Type 0} (g : Vaults V) (site : Areas) (xs ys : List (Held V)) → AreThere g site (xs ++ ys) → AreThere g site xs
there_front g site [] ys all = tt
there_front g site (x ∷ xs) ys all = (all.0, there_front g site xs ys all.1)

there_back : {V : Type 0} (g : Vaults V) (site : Areas) (xs ys : List (Held V)) → AreThere g site (xs ++ ys) → AreThere g site ys
there_back g site [] ys all = all
there_back g site (x ∷ xs) ys all = there_back g site xs ys all.1

there_at : {V : Type 0} (g : Vaults V) (site : Areas) (f : Part V → List (Held V)) (parts : List (Part V)) (worker : ℕ) → AreThere g site (flat_map f parts) → AreThere g site (areas_at f parts worker)
there_at g site f [] worker all = tt
there_at g site f (part ∷ parts) zero all = there_front g site (f part) (flat_map f parts) all
there_at g site f (part ∷ parts) (suc worker) all = there_at g site f parts worker (there_back g site (f part) (flat_map f parts) all)

as_there : {V : Type 0} (g : Vaults V) (site : Areas) (held : List (Held V)) (n : List ℕ) → AreThere g site held → IsOneOf n (names_of held) → areas_of g held n ≡ site n
as_there g site [] n all one = absurd one
as_there g site (x ∷ held) n all one =
    elim (same_or_not n x.name) [
      | inl is ↦ ap (areas_of g (x ∷ held)) is ∙ (set_at-same (areas_of g held) x.name (state_in g x.area) ∙ (sym all.0 ∙ ap site (sym is)))
      | inr apart ↦ set_at-other (areas_of g held) x.name n (state_in g x.area) apart ∙ elim one [
        | inl first ↦ absurd (apart first)
        | inr later ↦ as_there g site held n all.1 later
      ]
    ]

-- what it held is the site's of before, and what it holds that of now
was_held : {V : Type 0} (g : Vaults V) (tells : Type 0) (b : Basis) (passes : List Seen) (parts : List (Part V)) (site : Areas) (worker : ℕ) (t : Told) → WorkerRan g tells b passes parts worker t → AreThere g site (flat_map (λ part. part.held) parts)
    → (n : List ℕ) → IsOneOf n (areas_asked t.task.lines) → areas_of g (areas_at (λ part. part.held) parts worker) n ≡ site n
was_held g tells b passes parts site worker t w all n one =
    let mine : IsOneOf n (names_of w.part.held) = w.ran.mine n (subst (λ (u : Told). IsOneOf n (areas_asked u.task.lines)) (sym w.told) one) in
    as_there g site (areas_at (λ part. part.held) parts worker) n (there_at g site (λ part. part.held) parts worker all)
    (subst (λ (h : List (Held _)). IsOneOf n (names_of h)) (sym (at_number (λ part. part.held) parts worker w.part w.there)) mine)

is_kept : {V : Type 0} (g : Vaults V) (tells : Type 0) (b : Basis) (passes : List Seen) (parts : List (Part V)) (site : Areas) (worker : ℕ) (t : Told) → WorkerRan g tells b passes parts worker t → AreThere g site (flat_map (λ part. part.kept) parts)
    → (n : List ℕ) → IsOneOf n (areas_asked t.task.lines) → areas_of g (areas_at (λ part. part.kept) parts worker) n ≡ site n
is_kept g tells b passes parts site worker t w all n one =
    let mine : IsOneOf n (names_of w.part.kept) = subst (λ (ns : Names). IsOneOf n ns) (sym (later_named g w.part.held w.part.kept w.ran.later)) (w.ran.mine n (subst (λ (u : Told). IsOneOf n (areas_asked u.task.lines)) (sym w.told) one)) in
    as_there g site (areas_at (λ part. part.kept) parts worker) n (there_at g site (λ part. part.kept) parts worker all)
    (subst (λ (h : List (Held _)). IsOneOf n (names_of h)) (sym (at_number (λ part. part.kept) parts worker w.part w.there)) mine)

still_honest : {V : Type 0} (g : Vaults V) (when limit : ℕ) (old new : Areas) (a b : StoreAreas V) (before sums : V) (held kept : List (Held V)) (report : RunReport) (x : IsAtSite g when limit old new a b before sums held kept report) → KeepsHonest (map entry_of x.begun.found) x.runs.closes.history old new
still_honest g when limit old new a b before sums held kept report x told was =
    let b0 : Basis = run_basis x.found.settings when limit x.begun.found old in
    let history : List Entry = x.runs.closes.history in
    let order : IsOrderly 0 history = lawful_orderly x.found.settings.segment history (x.runs.closes.lawful (x.leads told)) in
    let honest : IfSome (g.files sums) (IsHonest history) =
    crews_keep_honest (tell g a) b0.found x.runs.first.list history b0.sums (g.files sums) (x.leads told) order (found_seen g (tell g a ≡ true) b0 x.runs.ran.parts x.runs.first x.runs.rest x.runs.ran.has.ran x.runs.ran.fresh x.runs.ran.last)
    x.runs.ran.shelved (of_pass (λ (p : Seen). IsPrefix p.list history) (x.runs.first ∷ x.runs.rest) 0 x.runs.first x.runs.closes.seen refl) was in
    subst (λ (o : Option Files). IfSome o (IsHonest history)) (sym (ap (λ (y : AreaState). y.files) x.sums_at)) honest

run_holds : {V : Type 0} (g : Vaults V) (when limit : ℕ) (old new : Areas) (a b : StoreAreas V) (before sums : V) (held kept : List (Held V)) (report : RunReport) (x : IsAtSite g when limit old new a b before sums held kept report) → AreTold old → HoldsHistory g x.found.settings x.runs.closes.history b → HoldsRun x.found.settings x.begun.found x.runs.closes.history new
run_holds g when limit old new a b before sums held kept report x told holds =
    let s : StoreSettings = x.found.settings in
    let has : HasBegun (g.files a.wal) (shown_of g x.found) x.found.tip = x.begun in
    let files = some_told (old wal_name).files (told wal_name (inl refl)) in
    let wal : (old wal_name).files ≡ g.files a.wal = wal_files g old a x.was in
    holds_run g s x.runs.closes.history b old new has.found x.runs.closes.runs.own has.pages files.0 x.at holds (own_grown g when limit old new a b before sums held kept report x) (owned x.runs.closes.runs.own x.runs.closes.runs.by)
    (ap (apply_all empty) (sym has.history) ∙ has.made (subst (λ (o : Option Files). IsSome o) wal (told wal_name (inl refl)))) files.1
    (was_given g when limit old new a b before sums held kept report x)
    (at_told (old wal_name).files files.0 (HasFound s has.found) files.1 (was_there g when limit old new a b before sums held kept report x))
    (leaves g when limit old new a b before sums held kept report x)

pub run_done : {V : Type 0} (g : Vaults V) (when limit : ℕ) (old new : Areas) (a b : StoreAreas V) (before sums : V) (held kept : List (Held V)) (report : RunReport) → AreAt g old a → AreAt g new b → old sums_name ≡ state_in g before → new sums_name ≡ state_in g sums → AreThere g old held → AreThere g new kept
    → IsRunOn g when limit a b before sums held kept report → (done : RunDone when old new report) × (done.limit ≡ limit)
run_done g when limit old new a b before sums held kept report was at sums_was sums_at were are ran =
    let x : IsAtSite g when limit old new a b before sums held kept report = at_site g when limit old new a b before sums held kept report was at sums_was sums_at ran in
    let s : StoreSettings = x.found.settings in
    let has : HasBegun (g.files a.wal) (shown_of g x.found) x.found.tip = x.begun in
    let base : Basis = run_basis s when limit has.found old in
    let history : List Entry = x.runs.closes.history in
    let wal : (old wal_name).files ≡ g.files a.wal = wal_files g old a was in
    let parts : List (Part _) = x.runs.ran.parts in
    let were_at : ℕ → Areas = λ worker. areas_of g (areas_at (λ part. part.held) parts worker) in
    let are_at : ℕ → Areas = λ worker. areas_of g (areas_at (λ part. part.kept) parts worker) in
    let mine : (worker : ℕ) (t : Told) → slice_get report.told worker ≡ Some t → IsAnswered (tell g a ≡ true) base worker history (length base.found) t.task.lines t.answers (were_at worker) (are_at worker) = all_answered g when limit old new a b before sums held kept report x in
    let ran_by : (worker : ℕ) (t : Told) → slice_get report.told worker ≡ Some t → WorkerRan g (tell g a ≡ true) base (x.runs.first ∷ x.runs.rest) parts worker t = its_run g when limit old new a b before sums held kept report x in
    let there : (worker : ℕ) (t : Told) → slice_get report.told worker ≡ Some t → (n : List ℕ) → IsOneOf n (areas_asked t.task.lines) → are_at worker n ≡ new n =
    λ worker t is n one. is_kept g (tell g a ≡ true) base (x.runs.first ∷ x.runs.rest) parts new worker t (ran_by worker t is) (subst (λ (hs : List (Held _)). AreThere g new hs) x.runs.ran.has.kept_are are) n one in
    let here : (worker : ℕ) (t : Told) → slice_get report.told worker ≡ Some t → (n : List ℕ) → IsOneOf n (areas_asked t.task.lines) → were_at worker n ≡ old n =
    λ worker t is n one. was_held g (tell g a ≡ true) base (x.runs.first ∷ x.runs.rest) parts old worker t (ran_by worker t is) (subst (λ (hs : List (Held _)). AreThere g old hs) x.runs.ran.has.held_are were) n one in (
      record {
        settings = s;
        given = was_given g when limit old new a b before sums held kept report x;
        found = has.found;
        some = has.some;
        base = has.pages;
        made = λ told. ap (apply_all empty) (sym has.history) ∙ has.made (subst (λ (o : Option Files). IsSome o) wal told);
        archive = was_there g when limit old new a b before sums held kept report x;
        opened = x.opened ∙ ap (λ (t : Tip). t.end) has.tip_is;
        limit = limit;
        history = history;
        held = were_at;
        were = λ worker t is name one. here worker t is name one;
        kept = are_at;
        are = λ worker t is name one. there worker t is name one;
        happened = record {
          own = x.runs.closes.runs.own;
          grown = x.runs.closes.runs.all;
          of_run = told_own g (tell g a ≡ true) base (starts_of g x.found before 5) x.runs.first x.runs.rest sums (sum_by (λ (q : Seen). q.faults.sums) (x.runs.first ∷ x.runs.rest)) held kept report.told x.runs.closes.runs.own history x.runs.ran x.runs.closes.runs.all x.runs.closes.of_run
              (of_pass (CountsItsOwn history) (x.runs.first ∷ x.runs.rest) 0 x.runs.first x.runs.closes.counted refl);
          lawful = λ told. x.runs.closes.lawful (x.leads told);
          answered = λ worker t is. answered_less (tell g a ≡ true) (AreTold old) base worker history (length base.found) t.task.lines t.answers (were_at worker) (are_at worker) x.leads (mine worker t is);
        };
        completed = λ worker t is. stand_less (tell g a ≡ true) (AreTold old) base worker history t.task.lines t.answers (are_at worker) new x.leads (there worker t is)
            (backups_told (tell g a) base worker history (length base.found) t.task.lines t.answers (were_at worker) (are_at worker) (mine worker t is)).0;
        incremented = λ worker t is. incrs_less (tell g a ≡ true) (AreTold old) base worker history t.task.lines t.answers (are_at worker) new x.leads (there worker t is)
            (incrs_told (tell g a) base worker history t.task.lines t.answers (were_at worker) (are_at worker) (mine worker t is));
        left = leaves g when limit old new a b before sums held kept report x;
        closing = closing g when limit old new a b before sums held kept report x report.closed x.runs.closes.answer (run_holds g when limit old new a b before sums held kept report x);
        risen = shares_told g (tell g a ≡ true) base (starts_of g x.found before 5) x.runs.first x.runs.rest sums (sum_by (λ (q : Seen). q.faults.sums) (x.runs.first ∷ x.runs.rest)) held kept old new report.told x.runs.ran (area_fails g when limit old new a b before sums held kept report x);
        backups_failed = λ worker t is. fail_at t.task.lines t.answers (were_at worker) (are_at worker) old new (here worker t is) (there worker t is)
            (backups_told (tell g a) base worker history (length base.found) t.task.lines t.answers (were_at worker) (are_at worker) (mine worker t is)).1;
        honest = still_honest g when limit old new a b before sums held kept report x;
      },
      refl,
    )
