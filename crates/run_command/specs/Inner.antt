-- What private functions answer to those that call them. None of it stands in the contract of a
-- public call.
use Rattle.std.specs.Prelude.{◌≡◌, ℕ, ◌+◌, ◌-◌, ◌<◌, ◌≤◌, ◌==◌, ◌⊎◌, if◌then◌else◌, Bool, true, false, List, [], ◌∷◌, ◌++◌, map, max, length, take, drop, Option, Result, Ok, Err, IfSome}
use Rattle.std.specs.List.{AllByRecursion, flat_map, sum_by}
use Rattle.std.specs.Option.{option_map, is_some}
use Rattle.std.specs.Vec.{vec_len, vec_capacity}
use Rattle.std.specs.Global.{Vec}
use Rattle.lsn_core.specs.declared.lsn.Lsn.{Lsn}
use Rattle.lsn_core.specs.declared.fault.StoreFault.{StoreFault}
use Rattle.lsn_core.specs.declared.fault.StoreFault.TheVariants as store
use Rattle.vault.specs.declared.area.Vault.{Ghosts as Vaults}
use Rattle.vault.specs.declared.site.Site.{Ghosts as Sites}
use Rattle.vault.specs.declared.stream.Source.{Ghosts as Sources}
use Rattle.vault.specs.declared.lending.Held.{Held}
use Rattle.vault.specs.declared.lending.TakeFault.{TakeFault}
use Rattle.vault.specs.Lending.{Names, IsOneOf, AreDistinct, AreLater, AreTaken, NoneTaken}
use Rattle.store_ledgers.specs.declared.blanks.Blanks.{Blanks}
use Rattle.history.specs.Entry.{Entry}
use Rattle.store_areas.specs.declared.areas.StoreAreas.{StoreAreas}
use Rattle.store_areas.specs.declared.found.Found.{Found}
use Rattle.store_faults.specs.declared.begin_why.BeginWhy.{BeginWhy}
use Rattle.store_faults.specs.declared.begin_why.BeginWhy.TheVariants as begin
use Rattle.store_locks.specs.Seen.{Seen, StaysBy}
use Rattle.store_areas.specs.Opened.{NoneFell}
use Rattle.store_locks.specs.Locked.{WalStart, HasRisen}
use Rattle.store_locks.specs.Seen.{fresh_pass}
use Rattle.store_lifecycle.specs.Starts.{AreBack, fresh_passes}
use Rattle.store_areas.specs.Begin.{BeginsNot, IsBegun, faults_of, shown_of}
use Rattle.store_lifecycle.specs.Close.{IsClosed}
use Rattle.shared_summaries.specs.Shelf.{AreShelved}
use Rattle.scripts.specs.declared.script.Task.{Task}
use Rattle.crew.specs.declared.crewing.Worker.{Worker}
use Rattle.crew.specs.Backups.{AreHeld, areas_asked, areas_of}
use Rattle.scripts.specs.Named.{HaveOtherPriors}
use Rattle.crew.specs.Run.{Basis, RunsLines, basis_of}
use Rattle.run_command.specs.declared.lending.StoreNames.{StoreNames}
use Rattle.run_command.specs.declared.seats.Seat.{Seat}
use Rattle.run_command.specs.declared.seats.Work.{Work}
use Rattle.run_answers.specs.declared.told.Told.{Told}
use Rattle.run_answers.specs.declared.outcome.RunReport.{RunReport}
use Rattle.run_answers.specs.declared.outcome.RunFault.{RunFault}
use Rattle.command_base.specs.Areas.{sums_name}
use Rattle.command_base.specs.Outside.{Outside, of_site, with_input, with_moment}
use Rattle.run_command.specs.Input.{IsInput}
use Rattle.run_command.specs.Run.{backups_asked, run_workers, store_asks, RunAnswer}

-- ---- the input

-- some more of the input was read behind bytes that were read, or its end was met
pub record IsMore
    (before bytes : List ℕ) (most : ℕ) (left now : Option (List ℕ)) (ended : Bool)
    : Type 0 where
  pub grown : IfSome left (λ l. bytes ≡ before ++ take (length bytes - length before) l)
  pub left_is : now ≡ option_map (drop (length bytes - length before)) left
  pub within : length bytes ≤ length before + most
  pub least : length before ≤ length bytes
  pub goes_on : ended ≡ false → length before < length bytes
  pub at_end : ended ≡ true → (bytes ≡ before) × IfSome left (λ l. l ≡ [])

abbrev pub IsReadOn : {I : Type 0} → Sources I → I → I → Vec ℕ → Vec ℕ → ℕ → Bool → Type 0
IsReadOn sources old new before bytes most ended =
    IsMore before.items bytes.items most (sources.left old) (sources.left new) ended

-- the input was read, and what was taken of it
abbrev pub IsInputOf : {I : Type 0} → Sources I → I → I → List ℕ → Type 0
IsInputOf sources old new bytes = IsInput bytes (sources.left old) (sources.left new)

-- ---- `run`

-- the names of a store's areas with these areas
abbrev pub held_of : {V : Type 0} → StoreNames → StoreAreas V → List (Held V)
held_of names areas =
    record { name = names.wal; area = areas.wal }
    ∷ record { name = names.data0; area = areas.data0 }
    ∷ record { name = names.data1; area = areas.data1 }
    ∷ record { name = names.data2; area = areas.data2 }
    ∷ record { name = names.data3; area = areas.data3 }
    ∷ []

-- names are these, each once, in some order
pub record AreEachOnce (asked names : Names) : Type 0 where
  pub distinct : AreDistinct names
  pub all : (n : List ℕ) → IsOneOf n asked → IsOneOf n names
  pub only : (n : List ℕ) → IsOneOf n names → IsOneOf n asked

-- with these that a command asks for, unless they are among them already
pub record AddsAsked (asked old new : Names) : Type 0 where
  pub distinct : AreDistinct old → AreDistinct new
  pub kept : (n : List ℕ) → IsOneOf n old → IsOneOf n new
  pub added : (n : List ℕ) → IsOneOf n asked → IsOneOf n new
  pub only : (n : List ℕ) → IsOneOf n new → IsOneOf n old ⊎ IsOneOf n asked

-- the areas that the lines of a script ask for, that of summaries, and those of their store
pub record AreAsked (script : List Task) (names : Names) : Type 0 where
  pub backups : Names
  pub each : AreEachOnce (backups_asked script) backups
  pub names_are : names ≡ (backups ++ (sums_name ∷ [])) ++ store_asks

-- the areas of backups, of summaries and of a store, in this order
abbrev pub Taken : Type 0 → Type 0
Taken V = Vec (Held V) × Held V × StoreNames × StoreAreas V

abbrev pub all_taken : {V : Type 0} → Taken V → List (Held V)
all_taken taken = (taken.0.items ++ (taken.1 ∷ [])) ++ held_of taken.2 taken.3

-- they were taken, or none of them
abbrev pub TakesRun : {S V : Type 0} → Sites S V → Vaults V → Names → S → S
    → Result (Taken V) TakeFault → Type 0
TakesRun sites vaults names old new (Ok taken) =
    AreTaken sites vaults names old new (all_taken taken)
TakesRun sites vaults names old new (Err fault) = NoneTaken sites names old new fault

-- whether the area of a store's WAL tells its files
abbrev pub tell : {V : Type 0} → Vaults V → StoreAreas V → Bool
tell vaults areas = is_some (vaults.files areas.wal)

-- ---- seats

-- an empty list with room for so many
abbrev pub HasRoom : {T : Type 0} → Vec T → ℕ → Type 0
HasRoom list count = (list.items ≡ []) × (vec_len list ≡ 0) × (count ≤ vec_capacity list)

-- a list with room for so many more
abbrev pub HasPlaces : {T : Type 0} → Vec T → ℕ → Type 0
HasPlaces list count = vec_len list + count ≤ vec_capacity list

-- no backup of a worker's lines is its own prior one, and there is room for the answers to these
-- and for its areas
pub record IsReady {V : Type 0} (seat : Seat V) : Type 0 where
  pub priors : HaveOtherPriors seat.task.lines
  pub answers : HasRoom seat.answers (length seat.task.lines)
  pub areas : HasRoom seat.areas seat.count

abbrev pub AreReady : {V : Type 0} → List (Seat V) → Type 0
AreReady seats = AllByRecursion IsReady seats

-- so many areas stand behind the others for a worker whose lines ask for these
pub record AddsSeat {V : Type 0} (seat : Seat V) (old new : Names) : Type 0 where
  pub mine : Names
  pub added : new ≡ old ++ mine
  pub many : length mine ≡ seat.count
  pub each : AreEachOnce (areas_asked seat.task.lines) mine

-- names are those of the areas that the lines of workers ask for, a worker's behind those of the
-- one before it, each once
abbrev pub AreNamesFor : {V : Type 0} → List (Seat V) → Names → Type 0
AreNamesFor [] names = names ≡ []
AreNamesFor (seat ∷ seats) names =
    (mine : Names) × (rest : Names) × (names ≡ mine ++ rest) × (length mine ≡ seat.count)
    × AreEachOnce (areas_asked seat.task.lines) mine × AreNamesFor seats rest

abbrev pub tasks_of : {V : Type 0} → List (Seat V) → List Task
tasks_of seats = map (λ seat. seat.task) seats

-- how many areas they ask for
abbrev pub areas_counted : {V : Type 0} → List (Seat V) → ℕ
areas_counted seats = sum_by (λ seat. seat.count) seats

-- how many passes a run of so many workers takes
abbrev pub passes_for : {V : Type 0} → List (Seat V) → ℕ
passes_for seats = max (length seats) 1

-- the seats of a script are ready, and there is room for what its workers are told
pub record IsWork {V : Type 0} (work : Work V) : Type 0 where
  pub ready : AreReady work.seats.items
  pub few : length work.seats.items ≤ run_workers
  pub told : HasRoom work.told (length work.seats.items)

-- ---- workers in their seats

abbrev pub passes_of : {J V : Type 0} → List (Worker J V) → List Seen
passes_of crew = map (λ worker. worker.pass) crew

abbrev pub areas_held : {J V : Type 0} → List (Worker J V) → List (Held V)
areas_held crew = flat_map (λ worker. worker.areas.items) crew

abbrev pub told_of : {J V : Type 0} → List (Worker J V) → List Told
told_of crew = map (λ worker. record { task = worker.task; answers = worker.answers.items }) crew

-- a worker has its task, so many areas as that asks for, and room for its answers
pub record IsSeated {J V : Type 0} (seat : Seat V) (worker : Worker J V) : Type 0 where
  pub task : worker.task ≡ seat.task
  pub many : length worker.areas.items ≡ seat.count
  pub answers : worker.answers ≡ seat.answers

abbrev pub AreSeated : {J V : Type 0} → List (Seat V) → List (Worker J V) → Type 0
AreSeated [] [] = Unit {0}
AreSeated [] (worker ∷ crew) = ⊥
AreSeated (seat ∷ seats) [] = ⊥
AreSeated (seat ∷ seats) (worker ∷ crew) = IsSeated seat worker × AreSeated seats crew

-- a crew sits on the last of these passes, with the last of these areas
pub record SitOn {J V : Type 0} (crew : List (Worker J V)) (passes now : List Seen)
    (held rest : List (Held V)) : Type 0 where
  pub passes_are : passes ≡ now ++ passes_of crew
  pub held_are : held ≡ rest ++ areas_held crew

-- ---- what workers did

-- a worker's part of a run: what it was told, what its pass had seen before and behind its lines,
-- and the areas of its backups then
pub record Part (V : Type 0) : Type 0 where
  pub told : Told
  pub from : Seen
  pub to : Seen
  pub held : List (Held V)
  pub kept : List (Held V)

-- it ran its lines, whose areas it held, and none of these has failed less often since
pub record RunsPart {V : Type 0} (vaults : Vaults V) (tells : Type 0) (b : Basis) (part : Part V)
    : Type 0 where
  pub run : RunsLines tells b part.told.task.lines part.from part.to
      (areas_of vaults part.held) (areas_of vaults part.kept) part.told.answers
  pub mine : AreHeld (areas_asked part.told.task.lines) part.held
  pub later : AreLater vaults part.held part.kept

-- these are the parts of workers that were told this, and held these areas, in order
pub record HasParts {V : Type 0} (vaults : Vaults V) (tells : Type 0) (b : Basis)
    (parts : List (Part V)) (held kept : List (Held V)) (told : List Told) : Type 0 where
  pub told_are : told ≡ map (λ part. part.told) parts
  pub held_are : held ≡ flat_map (λ part. part.held) parts
  pub kept_are : kept ≡ flat_map (λ part. part.kept) parts
  pub ran : AllByRecursion (RunsPart vaults tells b) parts

-- workers ran their lines side by side, on the last of these passes
pub record RunsCrew {V : Type 0} (vaults : Vaults V) (tells : Type 0) (b : Basis)
    (passes now : List Seen) (held kept : List (Held V)) (told : List Told) : Type 0 where
  pub parts : List (Part V)
  pub has : HasParts vaults tells b parts held kept told
  pub rest : List Seen
  pub before : passes ≡ rest ++ map (λ part. part.from) parts
  pub behind : now ≡ rest ++ map (λ part. part.to) parts

-- a pass later that has run no line since
pub record IsLaterPass (old new : Seen) : Type 0 where
  pub stays : StaysBy old new
  pub accepted : new.accepted ≡ old.accepted
  pub marks : new.marks ≡ old.marks
  pub faults : new.faults ≡ old.faults

-- these are the passes behind all lines, of which the first one has learned more since; where there
-- is no worker, one that ran nothing
abbrev pub AreLast : {V : Type 0} → List Entry → List (Part V) → Seen → List Seen → Type 0
AreLast found [] first rest = IsLaterPass (fresh_pass 0 found) first × (rest ≡ [])
AreLast found (part ∷ parts) first rest =
    IsLaterPass part.to first × (rest ≡ map (λ p. p.to) parts)

-- before its lines a worker's pass had seen what was found
abbrev pub AreFresh : {V : Type 0} → List Entry → List (Part V) → Type 0
AreFresh found parts = map (λ part. part.from) parts ≡ fresh_passes (length parts) found

-- ---- the store

-- how often the areas of a store that was found had failed then, and that of summaries: by number,
-- 0 to 3 the data areas, 4 the WAL's, 5 that of summaries
abbrev pub starts_of : {V : Type 0} → Vaults V → Found V → V → ℕ → ℕ
starts_of vaults found sums a =
    if a == 0 then found.parts.part0.faults
    else (if a == 1 then found.parts.part1.faults
    else (if a == 2 then found.parts.part2.faults
    else (if a == 3 then found.parts.part3.faults
    else (if a == 4 then vaults.faults found.wal else vaults.faults sums))))

-- how its WAL was then
abbrev pub wal_start : {V : Type 0} → Vaults V → Found V → WalStart
wal_start vaults found =
    record { files = vaults.files found.wal; flushed = found.tip.end }

-- whether its WAL's area tells its files
abbrev pub tell_found : {V : Type 0} → Vaults V → Found V → Bool
tell_found vaults found = is_some (vaults.files found.wal)

-- ledgers have their parts: those of entries one each, the others as many as there are passes
pub record HaveParts (passes : ℕ) (blanks : Blanks) : Type 0 where
  pub entries : (blanks.entries0.parts ≡ 1) × (blanks.entries1.parts ≡ 1)
      × (blanks.entries2.parts ≡ 1) × (blanks.entries3.parts ≡ 1)
  pub made : blanks.made.parts ≡ passes
  pub faults : (blanks.data0.parts ≡ passes) × (blanks.data1.parts ≡ passes)
      × (blanks.data2.parts ≡ passes) × (blanks.data3.parts ≡ passes)
      × (blanks.wal.parts ≡ passes) × (blanks.sums.parts ≡ passes)

-- the ledgers that are handed over, by their numbers
abbrev pub entries_named : Blanks → ℕ → ℕ
entries_named blanks q =
    if q == 0 then blanks.entries0.name
    else (if q == 1 then blanks.entries1.name
    else (if q == 2 then blanks.entries2.name else blanks.entries3.name))

abbrev pub faults_named : Blanks → ℕ → ℕ
faults_named blanks a =
    if a == 0 then blanks.data0.name
    else (if a == 1 then blanks.data1.name
    else (if a == 2 then blanks.data2.name
    else (if a == 3 then blanks.data3.name
    else (if a == 4 then blanks.wal.name else blanks.sums.name))))

-- what lines run on, where a store was found
abbrev pub basis_found : {V : Type 0} → Vaults V → Found V → V → ℕ → ℕ → Basis
basis_found vaults found sums when limit =
    basis_of found.settings when found.opened.list (vaults.files sums) limit

-- a script was run by workers that had seen what was found; then the first pass learned what was
-- known of the summaries, whose area is true for all that it has seen now, and of whose faults so
-- many are booked
pub record HasRunTo {V : Type 0} (vaults : Vaults V) (tells : Type 0) (b : Basis) (start : ℕ)
    (first : Seen) (rest : List Seen) (sums : V) (booked : ℕ) (held kept : List (Held V))
    (told : List Told) : Type 0 where
  pub parts : List (Part V)
  pub has : HasParts vaults tells b parts held kept told
  pub fresh : AreFresh b.found parts
  pub last : AreLast b.found parts first rest
  pub shelved : AreShelved tells b.found b.sums first.list (vaults.files sums)
  pub risen : HasRisen start booked (vaults.faults sums)

-- with the passes as a list
pub record RunsShared {V : Type 0} (vaults : Vaults V) (tells : Type 0) (b : Basis) (start : ℕ)
    (passes : List Seen) (sums : V) (booked : ℕ) (held kept : List (Held V)) (told : List Told)
    : Type 0 where
  pub first : Seen
  pub rest : List Seen
  pub passes_are : passes ≡ first ∷ rest
  pub to : HasRunTo vaults tells b start first rest sums booked held kept told

-- so it was, and the store was closed
pub record HasRunOn {V : Type 0} (vaults : Vaults V) (tells : Type 0) (b : Basis)
    (from : WalStart) (starts : ℕ → ℕ) (new : StoreAreas V) (sums : V) (held kept : List (Held V))
    (told : List Told) (closed : Result Lsn StoreFault)
    : Type 0 where
  pub first : Seen
  pub rest : List Seen
  pub ran : HasRunTo vaults tells b (starts 5) first rest sums
      (sum_by (λ pass. pass.faults.sums) (first ∷ rest)) held kept told
  pub closes : IsClosed vaults tells b.settings b.found from starts (first ∷ rest) new closed

-- so it was, or there was no memory to begin it: then all areas are as they were found
abbrev pub EndsRun : {V : Type 0} → Vaults V → Type 0 → Basis → WalStart → (ℕ → ℕ)
    → Found V → V → StoreAreas V → V → List (Held V) → List (Held V)
    → Result RunReport BeginWhy → Type 0
EndsRun vaults tells b from starts found before new sums held kept (Ok report) =
    (report.opened.0 ≡ found.tip.end)
    × HasRunOn vaults tells b from starts new sums held kept report.told report.closed
EndsRun vaults tells b from starts found before new sums held kept (Err why) =
    (why ≡ begin.Data store.NoMemory) × AreBack vaults found new × (sums ≡ before)
    × (kept ≡ held)

-- a store was found on areas, the script was run on it, and it was closed
pub record IsRunOn {V : Type 0} (vaults : Vaults V) (when limit : ℕ) (old new : StoreAreas V)
    (before sums : V) (held kept : List (Held V)) (report : RunReport) : Type 0 where
  pub found : Found V
  pub begins : IsBegun vaults old (shown_of vaults found) found.tip
  pub opened : report.opened.0 ≡ found.tip.end
  pub runs : HasRunOn vaults (tell vaults old ≡ true) (basis_found vaults found before when limit)
      (wal_start vaults found) (starts_of vaults found before) new sums held kept report.told
      report.closed

-- why none was begun: as it was found, or memory ran out behind that
abbrev pub MayNotBegin : {V : Type 0} → Vaults V → StoreAreas V → StoreAreas V → BeginWhy → Type 0
MayNotBegin vaults old new why =
    BeginsNot vaults old new why ⊎ (why ≡ begin.Data store.NoMemory)

-- none was begun on these areas, which are handed back; the WAL has the files that it had
pub record HasNotBegun {V : Type 0} (vaults : Vaults V) (old new : StoreAreas V) (why : BeginWhy)
    : Type 0 where
  pub wal : vaults.files new.wal ≡ vaults.files old.wal
  pub later : NoneFell (faults_of vaults old) (faults_of vaults new)
  pub cause : MayNotBegin vaults old new why

-- so it was, or no store was begun
abbrev pub RunsOn : {V : Type 0} → Vaults V → ℕ → ℕ → StoreAreas V → StoreAreas V → V → V
    → List (Held V) → List (Held V) → Result RunReport BeginWhy → Type 0
RunsOn vaults when limit old new before sums held kept (Ok report) =
    IsRunOn vaults when limit old new before sums held kept report
RunsOn vaults when limit old new before sums held kept (Err why) =
    HasNotBegun vaults old new why × (sums ≡ before) × (kept ≡ held)

-- a site and an input, as `run` sees them, where a clock tells this
abbrev pub seen_at : Outside → Option (List ℕ) → ℕ → Option ℕ → Outside
seen_at site left reads moment = with_moment (with_input site left reads) moment

-- there is no script, whatever the site, the clock and the script are
abbrev pub RefusesScript : {I : Type 0} → Sources I → I → I → RunFault → Type 0
RefusesScript sources old new fault =
    (when limit : ℕ) (script : List Task) (site : Outside) (before behind : Option ℕ)
    → RunAnswer when limit script (seen_at site (sources.left old) (sources.faults old) before)
    (seen_at site (sources.left new) (sources.faults new) behind) (Err fault)
