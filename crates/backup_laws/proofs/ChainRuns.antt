-- The backups of chains that a run answered make sound chains.
use Rattle.std.proofs.Common.{◌≡◌, ◌≢◌, ℕ, zero, suc, ◌<◌, ◌≤◌, Bool, true, List, [], ◌∷◌, ◌++◌, map, append_assoc, length, take, drop, Option, Some, None, Ok, refl, sym, ap, subst, ◌∙◌, arith, ◌⊎◌, inl, inr}
use Rattle.std.specs.Prelude.{IsSome, max, slice_get, ◌==◌}
use Rattle.std.specs.List.{list_any}
use Rattle.std.specs.FinMap.{get, insert, empty, get-empty}
use Rattle.std.specs.Ordering.{nat_cmp}
use Rattle.std.specs.Cmp.Lexicographic.{slice_cmp}
use Rattle.std.proofs.lemmas.Bool.{and_from, eq-eqb, or_left, or_right}
use Rattle.std.proofs.lemmas.List.{take-take, take-append-drop, length-take}
use Rattle.std.proofs.lemmas.Option.{slice_get_within}
use Rattle.std.proofs.Math.Seq.{take-append_seam, drop-append_seam}
use mathlib.Core.List.{IsPrefix}
use Rattle.lsn_core.specs.byte_words.Numbers.{◌>>=◌}
use Rattle.lsn_core.specs.Files.{Files}
use Rattle.lsn_core.specs.Segment.{IsRelseg, StoreSettings}
use Rattle.lsn_core.specs.Store.{Store}
use Rattle.lsn_core.specs.declared.lsn.Lsn.{Lsn}
use Rattle.vault.specs.Frame.{IsDurable}
use Rattle.vault.specs.Site.{Areas, AreaState, IsStill}
use Rattle.vault.specs.Stops.{Event}
use Rattle.vault.specs.Lending.{Names, IsOneOf}
use Rattle.wal_record.specs.declared.record.Record.{Record}
use Rattle.history.specs.Apply.{apply_all}
use Rattle.history.specs.Entry.{Entry}
use Rattle.history.specs.Whole.{entry_of}
use Rattle.history.specs.Written.{is_redo}
use Rattle.history.specs.fuzzy_copies.Covers.{AreTidy}
use Rattle.history.specs.fuzzy_copies.Orderly.{IsOrderly}
use Rattle.history.specs.fuzzy_copies.Sound.{IsSoundCopy}
use Rattle.history.specs.fuzzy_copies.Taken.{IsRunning}
use Rattle.journal.specs.Lawful.{IsLawful}
use Rattle.journal.proofs.Stands.{lawful_orderly}
use Rattle.summary_store.specs.Honest.{is_redo_start}
use Rattle.shared_summaries.specs.Laws.{AnswersSumUp}
use Rattle.shared_summaries.specs.Shelf.{HasCoveredSo}
use Rattle.manifest.specs.Listing.{Listing}
use Rattle.manifest.specs.Text.{manifest_text}
use Rattle.store_locks.specs.Copied.{HasRedoPoint}
use Rattle.store_locks.specs.Seen.{accepted_by}
use Rattle.store_locks.proofs.RedoPoints.{redo_runs}
use Rattle.backup_files.specs.Directory.{manifest_name, listing_with}
use Rattle.backup_sending.specs.Directory.{IsDirectory, IsFullBackup, incr_label}
use Rattle.incr_backup.specs.Prior.{HasListing}
use Rattle.backup_sending.specs.Sent.{file_of}
use Rattle.chain_laws.specs.Chain.{IsSoundChain}
use Rattle.chain_laws.specs.Increment.{IsIncrementOf}
use Rattle.chain_laws.specs.Laws.{IncrementsExtendSoundChains, FullBackupsAreSoundChains, SoundChainsStaySound}
use Rattle.chain_laws.proofs.Taken.{IsSumOf, sum_of, increment_of}
use Rattle.command_base.specs.Areas.{backup_name, AreaIsDurable}
use Rattle.command_base.proofs.Told.{some_told, at_told}
use Rattle.scripts.specs.declared.script.Command.{Command}
use Rattle.scripts.specs.declared.script.Command.TheVariants as command
use Rattle.scripts.specs.declared.script.Line.{Line}
use Rattle.run_answers.specs.declared.answer.Answer.{Answer}
use Rattle.run_answers.specs.declared.answer.Answer.TheVariants.{Backup}
use Rattle.crew.specs.Backups.{area_asked, areas_asked}
use Rattle.crew.specs.Run.{Basis, HoldsBackup, HoldsIncr, IsAnswered, TakesFull, TakesIncr, incr_areas}
use Rattle.crew.proofs.Kept.{never_empty}
use Rattle.run_answers.specs.declared.told.Told.{Told}
use Rattle.run_answers.specs.declared.outcome.RunReport.{RunReport}
use Rattle.run_command.specs.Run.{RunDone, AreTold, backups_asked, run_basis, tasks_told}
use Rattle.run_command.proofs.OwnEntries.{AreOwn, written_own}
use Rattle.run_command.proofs.ToldLess.{one_front, one_back}
use Rattle.backup_laws.specs.Finished.{IsIncrBackup}
use Rattle.backup_laws.specs.Runs.{IsBackedUp}
use Rattle.backup_laws.specs.Chains.{IsIncremented, TellsThroughout, FindsOwn, IsSoundFull, IsSoundIncrement, FullBackupsOfRunsAreSound, IncrementsOfRunsExtendChains, RunsKeepChainsSound}
use Rattle.backup_laws.proofs.Moments.{IsMoment, IsToldMoment, told_moment, asked_of_line}
use Rattle.wal_summary.specs.declared.summary.Summary.{Summary}
use Rattle.backup_laws.proofs.SoundRuns.{begins_at, taken_in, own_entries, found_alike, sound_logged}

-- ---- histories

-- what passes a test in a list behind a place
any_behind : (t : Entry → Bool) (es : List Entry) (from number : ℕ) (e : Entry) → from ≤ number → slice_get es number ≡ Some e → t e ≡ true → list_any t (drop from es) ≡ true
any_behind t [] from number e le there is = absurd cc
any_behind t (x ∷ es) zero zero e le there is =
    let same : x ≡ e = cc in
    or_left (t x) (list_any t es) (ap t same ∙ is)
any_behind t (x ∷ es) zero (suc n) e le there is = or_right (t x) (list_any t es) (any_behind t es zero n e (omega arith) there is)
any_behind t (x ∷ es) (suc from) zero e le there is = absurd (omega (arith, le))
any_behind t (x ∷ es) (suc from) (suc n) e le there is = any_behind t es from n e (omega (arith, le)) there is

tidy_both : (store : Store) (xs ys : List Entry) → AreTidy store xs → ((next : Store) → apply_all store xs ≡ Some next → AreTidy next ys) → AreTidy store (xs ++ ys)
tidy_both store [] ys first then = then store refl
tidy_both store (e ∷ xs) ys first then = (first.0, λ next made. tidy_both next xs ys (first.1 next made) (λ last all. then last (ap (λ (o : Option Store). o >>= λ s. apply_all s xs) made ∙ all)))

-- two parts behind the same front are the same
own_alike : (a b es os : List Entry) → a ≡ b → a ++ es ≡ b ++ os → es ≡ os
own_alike a b es os same all = sym (drop-append_seam a es) ∙ (ap (drop (length a)) all ∙ (ap (λ (l : List Entry). drop (length l) (b ++ os)) same ∙ drop-append_seam b os))

-- the own entries of a history are tidy, so all of it is where the found ones are
pub tidy_history : (mib : ℕ) (found : List Record) (own history : List Entry) → IsLawful mib history → history ≡ map entry_of found ++ own → AreOwn own → AreTidy empty (map entry_of found) → AreTidy empty history
tidy_history mib found own history law grown owns tidy = subst (AreTidy empty) (sym grown) (tidy_both empty (map entry_of found) own tidy own_tidy)
  where
    own_tidy : (base : Store) → apply_all empty (map entry_of found) ≡ Some base → AreTidy base own
    own_tidy base made =
        let alike = found_alike law.found found law.own own (written_own mib _ law.own law.logged.written) owns (sym law.grown ∙ grown) in
        let same : law.own ≡ own = own_alike (map entry_of law.found) (map entry_of found) law.own own alike (sym law.grown ∙ grown) in
        subst (AreTidy base) same (law.tidy base (ap (apply_all empty) alike ∙ made))

-- ---- what is known

pub record KnownOfChains : Type 0 where
  pub extend : IncrementsExtendSoundChains
  pub full : FullBackupsAreSoundChains
  pub later : SoundChainsStaySound
  pub sums : AnswersSumUp

-- what was covered of what was seen, by its parts
seen_by : (tells : Type 0) (found : List Entry) (begun : Option Files) (h g : List Entry) (when limit from to : ℕ) (sum : Summary) (m : Files) → h ≡ g → (c : HasCoveredSo tells found begun h when limit from to (Ok sum)) → c.published.old.files ≡ Some m
    → (d : HasCoveredSo tells found begun g when limit from to (Ok sum)) × (d.published.old.files ≡ Some m)
seen_by tells found begun h g when limit from to sum m same c is =
    subst (λ (l : List Entry). (d : HasCoveredSo tells found begun l when limit from to (Ok sum)) × (d.published.old.files ≡ Some m)) same (c, is)

-- a directory with a manifest holds a file
listed_some : (files : Files) (m : Listing) → HasListing files m → files ≢ empty
listed_some files m has = λ none.
    let gone : get files manifest_name ≡ None = ap (λ (f : Files). get f manifest_name) none ∙ get-empty (slice_cmp nat_cmp) manifest_name in
    absurd (let e : Some has.0 ≡ None = sym has.1 ∙ gone in cc)

put_some : (dir : Files) (text : List ℕ) (m : Files) → m ≡ insert dir manifest_name text → m ≢ empty
put_some dir text m is = λ none. never_empty dir manifest_name text (sym is ∙ none)

-- the areas that a worker asks for are among those of its script
pub asked_among : (told : List Told) (worker : ℕ) (t : Told) (n : List ℕ) → slice_get told worker ≡ Some t → IsOneOf n (areas_asked t.task.lines) → IsOneOf n (backups_asked (tasks_told told))
asked_among [] worker t n there one = absurd cc
asked_among (u ∷ told) zero t n there one =
    let same : u ≡ t = cc in
    one_front n (areas_asked u.task.lines) (backups_asked (tasks_told told)) (subst (λ (v : Told). IsOneOf n (areas_asked v.task.lines)) (sym same) one)
asked_among (u ∷ told) (suc worker) t n there one = one_back n (areas_asked u.task.lines) (backups_asked (tasks_told told)) (asked_among told worker t n there one)

-- ---- what is left of a backup

-- an area's files are the directory of a full backup, durably
pub record FullLeft (s : StoreSettings) (when : ℕ) (name : List ℕ) (start end : Lsn) (area : AreaState) : Type 0 where
  pub files : Files
  pub copy : Store
  pub checkpoint : Lsn
  pub count : ℕ
  pub told : area.files ≡ Some files
  pub durable : AreaIsDurable area
  pub backup : IsFullBackup s name when copy start checkpoint end count (Some files)

-- and of an incremental one
pub record IncrLeft (tells : Type 0) (s : StoreSettings) (when : ℕ) (name : List ℕ) (start end : Lsn) (area : AreaState) : Type 0 where
  pub files : Files
  pub history : List Entry
  pub checkpoint : Lsn
  pub prior : Lsn
  pub count : ℕ
  pub told : area.files ≡ Some files
  pub durable : AreaIsDurable area
  pub backup : IsIncrBackup tells s name when history start checkpoint prior end count (Some files)

-- an area to which nothing happened is durable still
durable_still : (old new : AreaState) → IsStill old new → AreaIsDurable old → AreaIsDurable new
durable_still old new still durable =
    subst (λ (f : Option Files). IsDurable f new.past) (sym still.files) (subst (λ (p : Option (List Event)). IsDurable old.files p) (sym still.past) durable)

-- ---- one run

module _ (when : ℕ) (old new : Areas) (report : RunReport) (run : RunDone when old new report) (tell : TellsThroughout when old new report run) where
  abbrev s : StoreSettings
  s = run.settings

  abbrev h : List Entry
  h = run.history

  abbrev basis : Basis
  basis = run_basis run.settings when run.limit run.found old

  law : IsLawful s.segment h
  law = run.happened.lawful tell.store

  orderly : IsOrderly 0 h
  orderly = lawful_orderly s.segment h law

  abbrev entries : List Entry
  entries = map entry_of run.found

  abbrev found : ℕ
  found = length entries

  found_front : take found h ≡ entries
  found_front = ap (take found) run.happened.grown ∙ take-append_seam entries run.happened.own

  -- ---- one line of a worker

  module _ (worker : ℕ) (by : Told) (there : slice_get report.told worker ≡ Some by) (number : ℕ) (line : Line) (behind : List Line) (lines : drop number by.task.lines ≡ line ∷ behind) (start end : Lsn) (later : List Answer) (answers : drop number by.answers ≡ Backup start end ∷ later) where
    abbrev names : Names
    names = areas_asked by.task.lines

    asked : (n : List ℕ) → IsOneOf n (area_asked line.command) → IsOneOf n names
    asked n one = asked_of_line n by.task.lines number line behind lines one

    abbrev given : IsAnswered (AreTold old) basis worker h found by.task.lines by.answers (run.held worker) (run.kept worker)
    given = run.happened.answered worker by there

    told_then : IsToldMoment names (AreTold old) basis worker h found line (Backup start end) (run.kept worker)
    told_then =
        told_moment names (AreTold old) basis worker h found found by.task.lines by.answers (accepted_by worker h) given.to (run.held worker) (run.kept worker) given.answered (tell.behind worker by there)
        (λ n one. subst (λ (a : AreaState). IsSome a.files) (sym (run.were worker by there n one)) (tell.before n (asked_among report.told worker by n there one)))
        (omega arith) number line behind (Backup start end) later lines answers

    abbrev moment : IsMoment (AreTold old) basis worker h found line (Backup start end) (run.kept worker)
    moment = told_then.moment

    -- the area of a backup that held a file then is as it was when the run ends
    still : (n : List ℕ) (m : Files) → IsOneOf n (area_asked line.command) → (moment.after n).files ≡ Some m → m ≢ empty → IsStill (moment.after n) (new n)
    still n m one is some = subst (IsStill (moment.after n)) (run.are worker by there n (asked n one)) (moment.keeps n m is some)

    stays : (n : List ℕ) (m : Files) → IsOneOf n (area_asked line.command) → (moment.after n).files ≡ Some m → m ≢ empty → (new n).files ≡ Some m
    stays n m one is some = (still n m one is some).files ∙ is

    front : IsPrefix (take moment.next h) h
    front = (drop moment.next h, take-append-drop moment.next h)

    -- the area of a backup of a name is durable then
    abbrev DurableThen : List ℕ → Type 0
    DurableThen n = AreaIsDurable (moment.after (backup_name n))

    -- ---- a full backup

    module _ (name : List ℕ) (takes : line.command ≡ command.Full name) where
      abbrev Full : Type 0
      Full = HoldsBackup (AreTold old) basis worker moment.from (take moment.next h) name start end (moment.after (backup_name name)).files

      full_of : TakesFull (AreTold old) basis worker moment.from (take moment.next h) line.command start end moment.before moment.after → Full × DurableThen name
      full_of t =
          let same : t.0 ≡ name = same_full t.0 name (sym t.1 ∙ takes) in (
            subst (λ (n : List ℕ). HoldsBackup (AreTold old) basis worker moment.from (take moment.next h) n start end (moment.after (backup_name n)).files) same t.4,
            subst DurableThen same t.5,
          )
        where
          same_full : (a b : List ℕ) → command.Full a ≡ command.Full b → a ≡ b
          same_full a b e = cc

      full_taken : Full × DurableThen name
      full_taken = elim moment.answered.1 [
        | inl t ↦ full_of t
        | inr t ↦ absurd (let e : command.Incr t.0 t.1 ≡ command.Full name = sym t.2 ∙ takes in cc)
      ]

      full_there : Full
      full_there = full_taken.0

      one_full : IsOneOf (backup_name name) (area_asked line.command)
      one_full = subst (λ (c : Command). IsOneOf (backup_name name) (area_asked c)) (sym takes) (inl refl)

      pub full_begins : HasRedoPoint h start.0
      full_begins =
          let holds : Full = full_there in
          begins_at worker moment.from (take moment.next h) h start.0 holds.checkpoint end.0 front holds.entries

      full_told : (files : Files) × ((moment.after (backup_name name)).files ≡ Some files)
      full_told = some_told (moment.after (backup_name name)).files (told_then.told_after (backup_name name) (asked (backup_name name) one_full))

      full_directory : IsFullBackup s name when full_there.copy start (record { 0 = full_there.checkpoint }) end full_there.count (Some full_told.0)
      full_directory = subst (λ (o : Option Files). IsFullBackup s name when full_there.copy start (record { 0 = full_there.checkpoint }) end full_there.count o) full_told.1 full_there.directory

      full_some : full_told.0 ≢ empty
      full_some = put_some _ (manifest_text (listing_with s.system full_directory.rows start end)) full_told.0 full_directory.files_are

      full_stays : (new (backup_name name)).files ≡ Some full_told.0
      full_stays = stays (backup_name name) full_told.0 one_full full_told.1 full_some

      -- what is left of it when the run ends
      pub full_left : FullLeft s when name start end (new (backup_name name))
      full_left = record {
        files = full_told.0;
        copy = full_there.copy;
        checkpoint = record { 0 = full_there.checkpoint };
        count = full_there.count;
        told = full_stays;
        durable = durable_still (moment.after (backup_name name)) (new (backup_name name)) (still (backup_name name) full_told.0 one_full full_told.1 full_some) full_taken.1;
        backup = full_directory;
      }

      pub full_stands : KnownOfChains → (files : Files) × ((new (backup_name name)).files ≡ Some files) × IsSoundFull s when h name start end files
      full_stands known =
          let sound : IsSoundCopy full_there.copy h start.0 end.0 = taken_in s.segment full_there.copy (take moment.next h) h start.0 end.0 law full_begins front (full_there.taken tell.store) in (
            full_told.0,
            full_stays,
            record {
              copy = full_there.copy;
              checkpoint = record { 0 = full_there.checkpoint };
              count = full_there.count;
              directory = full_directory;
              sound = known.full s name when full_there.copy start (record { 0 = full_there.checkpoint }) end full_there.count full_told.0 h run.given.blocks full_directory sound;
            },
          )

    -- ---- an incremental one

    module _ (name prior : List ℕ) (takes : line.command ≡ command.Incr name prior) where
      abbrev Taken : Type 0
      Taken = HoldsIncr (AreTold old) basis worker moment.from (take moment.next h) name start end (incr_areas moment.before name prior) (incr_areas moment.after name prior)

      abbrev SamePrior : Type 0
      SamePrior = IsStill (moment.before (backup_name prior)) (moment.after (backup_name prior))

      incr_of : TakesIncr (AreTold old) basis worker moment.from (take moment.next h) line.command start end moment.before moment.after → Taken × SamePrior × DurableThen name
      incr_of t =
          let both = same_incr t.0 t.1 name prior (sym t.2 ∙ takes) in (
            subst (λ (n : List ℕ). HoldsIncr (AreTold old) basis worker moment.from (take moment.next h) n start end (incr_areas moment.before n prior) (incr_areas moment.after n prior)) both.0
                (subst (λ (p : List ℕ). HoldsIncr (AreTold old) basis worker moment.from (take moment.next h) t.0 start end (incr_areas moment.before t.0 p) (incr_areas moment.after t.0 p)) both.1 t.6),
            subst (λ (p : List ℕ). IsStill (moment.before (backup_name p)) (moment.after (backup_name p))) both.1 t.5,
            subst DurableThen both.0 t.7,
          )
        where
          same_incr : (a p b q : List ℕ) → command.Incr a p ≡ command.Incr b q → (a ≡ b) × (p ≡ q)
          same_incr a p b q e = (cc, cc)

      incr_there : Taken × SamePrior × DurableThen name
      incr_there = elim moment.answered.1 [
        | inl t ↦ absurd (let e : command.Full t.0 ≡ command.Incr name prior = sym t.1 ∙ takes in cc)
        | inr t ↦ incr_of t
      ]

      holds : Taken
      holds = incr_there.0

      one_asked : (n : List ℕ) → IsOneOf n (area_asked (command.Incr name prior)) → IsOneOf n (area_asked line.command)
      one_asked n one = subst (λ (c : Command). IsOneOf n (area_asked c)) (sym takes) one

      one_out : IsOneOf (backup_name name) (area_asked line.command)
      one_out = one_asked (backup_name name) (inl refl)

      one_prior : IsOneOf (backup_name prior) (area_asked line.command)
      one_prior = one_asked (backup_name prior) (inr (inl refl))

      -- the history up to the end of the backup
      abbrev now : List Entry
      now = take moment.next h

      pub incr_begins : HasRedoPoint h start.0
      incr_begins = begins_at worker moment.from now h start.0 holds.checkpoint end.0 front holds.entries

      abbrev from_prior : ℕ
      from_prior = holds.plan.prior.start

      abbrev out_told : (files : Files) × ((moment.after (backup_name name)).files ≡ Some files)
      out_told = some_told (moment.after (backup_name name)).files (told_then.told_after (backup_name name) (asked (backup_name name) one_out))

      abbrev Directory : Option Files → Type 0
      Directory o = IsDirectory s (λ begun. incr_label start (record { 0 = holds.checkpoint }) (record { 0 = from_prior }) begun name) when (map file_of holds.files) start end holds.count o

      directory : Directory (Some out_told.0)
      directory = subst Directory out_told.1 holds.directory

      out_some : out_told.0 ≢ empty
      out_some = put_some _ (manifest_text (listing_with s.system directory.rows start end)) out_told.0 directory.files_are

      incr_stays : (new (backup_name name)).files ≡ Some out_told.0
      incr_stays = stays (backup_name name) out_told.0 one_out out_told.1 out_some

      -- what is left of it when the run ends
      pub incr_left : IncrLeft (AreTold old) s when name start end (new (backup_name name))
      incr_left = record {
        files = out_told.0;
        history = now;
        checkpoint = record { 0 = holds.checkpoint };
        prior = record { 0 = from_prior };
        count = holds.count;
        told = incr_stays;
        durable = durable_still (moment.after (backup_name name)) (new (backup_name name)) (still (backup_name name) out_told.0 one_out out_told.1 out_some) incr_there.2;
        backup = record {
          basis = holds.plan;
          relseg = holds.relseg;
          sorted = holds.summed.covered.covers.forks.sorted;
          list = holds.list;
          listed = holds.listed;
          sent = holds.files;
          are_sent = holds.sent;
          directory = directory;
        };
      }

      -- this line took the backup
      taken : IsIncremented report.told name start end
      taken = record {
        worker = worker;
        by = by;
        there = there;
        number = number;
        line = line;
        prior = prior;
        behind = behind;
        lines = lines;
        takes = takes;
        later = later;
        answers = answers;
      }

      module _ (known : KnownOfChains) (finds : FindsOwn when old new report run) where
        -- what was seen of the history when it was summed up
        abbrev seen : List Entry
        seen = take holds.summed.seen now

        abbrev own : List Entry
        own = drop found seen

        seen_past : found ≤ holds.summed.seen
        seen_past =
            let c = holds.summed.checkpoint in
            omega (arith, moment.late, c.later, slice_get_within seen c.number c.first c.there, length-take holds.summed.seen now)

        next_past : holds.summed.seen ≤ moment.next
        next_past = omega (arith, holds.summed.within, length-take moment.next h)

        seen_front : take found seen ≡ entries
        seen_front = take-take found holds.summed.seen now seen_past ∙ (take-take found moment.next h (omega (arith, seen_past, next_past)) ∙ found_front)

        parts : entries ++ own ≡ seen
        parts = ap (λ (es : List Entry). es ++ own) (sym seen_front) ∙ take-append-drop found seen

        abbrev rest : List Entry
        rest = drop holds.summed.seen now ++ drop moment.next h

        whole : (entries ++ own) ++ rest ≡ h
        whole =
            ap (λ (es : List Entry). es ++ rest) parts
            ∙ (sym (append_assoc seen (drop holds.summed.seen now) (drop moment.next h))
            ∙ (ap (λ (es : List Entry). es ++ drop moment.next h) (take-append-drop holds.summed.seen now) ∙ take-append-drop moment.next h))

        redo_in : list_any (is_redo_start start.0) own ≡ true
        redo_in =
            let c = holds.summed.checkpoint in
            any_behind (is_redo_start start.0) seen found c.number c.first (omega (arith, moment.late, c.later)) c.there
            (and_from (is_redo c.first.act) (c.first.start == start.0) (ap is_redo c.starts.0) (eq-eqb c.first.start start.0 c.redo_is))

        -- the area of summaries told its files then, and the truth
        sums_told : (m : Files) × (holds.summed.covered.published.old.files ≡ Some m)
        sums_told = some_told holds.summed.covered.published.old.files (holds.summed.covered.published.shelved.told (tell.sums name start end taken))

        -- the same in what it had seen then, by its parts
        covered_so : (c : HasCoveredSo (AreTold old) entries basis.sums (entries ++ own) when basis.limit from_prior start.0 (Ok holds.plan.summary)) × (c.published.old.files ≡ Some sums_told.0)
        covered_so = seen_by (AreTold old) entries basis.sums seen (entries ++ own) when basis.limit from_prior start.0 holds.plan.summary sums_told.0 (sym parts) holds.summed.covered sums_told.1

        summed_up : from_prior < start.0 → IsSumOf h from_prior start.0 holds.plan.summary
        summed_up less =
            subst (λ (es : List Entry). IsSumOf es from_prior start.0 holds.plan.summary) whole
            (sum_of known.sums (AreTold old) tell.store entries own rest basis.sums when basis.limit from_prior start.0 sums_told.0 holds.plan.summary
            (subst (IsOrderly 0) (sym whole) orderly) redo_in finds.honest covered_so.0 covered_so.1 less)

        tidy : AreTidy empty h
        tidy = tidy_history s.segment run.found run.happened.own h law run.happened.grown (own_entries _ run.happened.own run.happened.of_run) finds.tidy

        running : IsRunning h start.0
        running = redo_runs s.segment start.0 h law incr_begins

        -- the prior backup began before this one
        began : from_prior < start.0
        began = let up = holds.prior.ours.rises in let behind = holds.prior.behind in omega (arith, up, behind)

        extends : (chain : List Files) (to : ℕ) → IsSoundChain s.relseg h chain from_prior to → IsSoundChain s.relseg h (chain ++ (out_told.0 ∷ [])) start.0 (max to end.0)
        extends chain to sound =
            let less : from_prior < start.0 = began in
            let sum = summed_up less in
            let relseg : holds.plan.relseg ≡ s.relseg = holds.relseg in
            let ahead : now ++ drop moment.next h ≡ h = take-append-drop moment.next h in
            subst (λ (n : ℕ). IsSoundChain n h (chain ++ (out_told.0 ∷ [])) start.0 (max to end.0)) relseg
            (known.extend h chain from_prior to holds.plan.summary.start.0 start.0 end.0 holds.plan out_told.0 (subst IsRelseg (sym relseg) run.given.blocks) running tidy (subst (λ (n : ℕ). IsSoundChain n h chain from_prior to) (sym relseg) sound) sum.begins (omega (arith, less))
            (subst (λ (es : List Entry). IsIncrementOf es holds.plan.summary.start.0 start.0 end.0 holds.plan out_told.0) ahead
            (increment_of (AreTold old) tell.store now (drop moment.next h) from_prior start.0 end.0 holds.plan holds.list holds.files directory.label (manifest_text (listing_with s.system directory.rows start end)) out_told.0
            (subst (λ (es : List Entry). IsSumOf es from_prior start.0 holds.plan.summary) (sym ahead) sum) holds.listed holds.sent directory.files_are)))

        prior_told : (files : Files) × ((moment.before (backup_name prior)).files ≡ Some files)
        prior_told = some_told (moment.before (backup_name prior)).files (told_then.told_before (backup_name prior) (asked (backup_name prior) one_prior))

        prior_listed : HasListing prior_told.0 holds.plan.prior
        prior_listed = at_told (moment.before (backup_name prior)).files prior_told.0 (λ m. HasListing m holds.plan.prior) prior_told.1 holds.prior.told

        pub incr_stands : (before : Files) × ((new (backup_name prior)).files ≡ Some before) × (files : Files) × ((new (backup_name name)).files ≡ Some files) × IsSoundIncrement s when h name start end before files
        incr_stands = (
          prior_told.0,
          stays (backup_name prior) prior_told.0 one_prior (incr_there.1.files ∙ prior_told.1) (listed_some prior_told.0 holds.plan.prior prior_listed),
          out_told.0,
          incr_stays,
          record {
            manifest = holds.plan.prior;
            listing = prior_listed;
            behind = holds.prior.behind;
            checkpoint = record { 0 = holds.checkpoint };
            put = map file_of holds.files;
            count = holds.count;
            directory = directory;
            extends = extends;
          },
        )

-- ---- where backups begin

-- the start of each is a redo point of the run's own
pub backups_begin : (when : ℕ) (old new : Areas) (report : RunReport) (run : RunDone when old new report) (name : List ℕ) (start end : Lsn) → IsBackedUp report.told name start end ⊎ IsIncremented report.told name start end → TellsThroughout when old new report run → HasRedoPoint run.history start.0
backups_begin when old new report run name start end (inl taken) tell =
    full_begins when old new report run tell taken.worker taken.by taken.there taken.number taken.line taken.behind taken.lines start end taken.later taken.answers name taken.takes
backups_begin when old new report run name start end (inr taken) tell =
    incr_begins when old new report run tell taken.worker taken.by taken.there taken.number taken.line taken.behind taken.lines start end taken.later taken.answers name taken.prior taken.takes

-- ---- what is left of them

pub full_of_run : (when : ℕ) (old new : Areas) (report : RunReport) (run : RunDone when old new report) (name : List ℕ) (start end : Lsn) → IsBackedUp report.told name start end → TellsThroughout when old new report run → FullLeft run.settings when name start end (new (backup_name name))
full_of_run when old new report run name start end taken tell =
    full_left when old new report run tell taken.worker taken.by taken.there taken.number taken.line taken.behind taken.lines start end taken.later taken.answers name taken.takes

pub incr_of_run : (when : ℕ) (old new : Areas) (report : RunReport) (run : RunDone when old new report) (name : List ℕ) (start end : Lsn) → IsIncremented report.told name start end → TellsThroughout when old new report run → IncrLeft (AreTold old) run.settings when name start end (new (backup_name name))
incr_of_run when old new report run name start end taken tell =
    incr_left when old new report run tell taken.worker taken.by taken.there taken.number taken.line taken.behind taken.lines start end taken.later taken.answers name taken.prior taken.takes

-- ---- the laws

pub fulls_sound : KnownOfChains → FullBackupsOfRunsAreSound
fulls_sound known when old new report run name start end taken tell =
    full_stands when old new report run tell taken.worker taken.by taken.there taken.number taken.line taken.behind taken.lines start end taken.later taken.answers name taken.takes known

pub incrs_extend : KnownOfChains → IncrementsOfRunsExtendChains
incrs_extend known when old new report run name start end taken tell finds =
    incr_stands when old new report run tell taken.worker taken.by taken.there taken.number taken.line taken.behind taken.lines start end taken.later taken.answers name taken.prior taken.takes known finds

pub runs_keep : KnownOfChains → RunsKeepChainsSound
runs_keep known when old new report run chain from to told =
    let s : StoreSettings = run.settings in
    let law : IsLawful s.segment run.history = run.happened.lawful told in (
      λ sound. subst (λ (es : List Entry). IsSoundChain s.relseg es chain from to) (sym run.happened.grown)
          (known.later s.relseg (map entry_of run.found) run.happened.own chain from to (subst (IsOrderly 0) run.happened.grown (lawful_orderly s.segment run.history law)) sound),
      λ sound. record {
        copy = sound.copy;
        held = sound.held;
        sound = sound_logged s.segment sound.copy run.found run.happened.own run.history from to law run.happened.grown (own_entries _ run.happened.own run.happened.of_run) sound.sound;
      },
    )
