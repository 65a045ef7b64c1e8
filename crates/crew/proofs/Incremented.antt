-- Incremental backups of a worker.
use Rattle.std.proofs.Common.{◌≡◌, ◌≢◌, ℕ, ◌≤◌, List, [], length, Some, refl, ap, sym, subst, ◌∙◌, arith, inl, inr}
use Rattle.std.specs.FinMap.{empty}
use Rattle.lsn_core.specs.declared.fault.StoreArea.{StoreArea}
use Rattle.lsn_core.specs.declared.fault.StoreArea.TheVariants.{Sums}
use Rattle.lsn_core.specs.declared.fault.StoreFault.TheVariants as store
use Rattle.vault.specs.declared.area.Vault.{Ghosts}
use Rattle.vault.specs.Frame.{OnlyReads}
use Rattle.vault.specs.Site.{Areas, AreaState, IsStill, state_in}
use Rattle.vault.specs.Lending.{IsNoneOf}
use Rattle.store_locks.specs.Seen.{Seen, ShareRose}
use Rattle.backup_sending.specs.declared.done.Done.{Done}
use Rattle.store_faults.specs.declared.incr_fault.IncrFault.{IncrFault}
use Rattle.store_faults.specs.declared.incr_fault.IncrFault.TheVariants as incr
use Rattle.backup_sending.specs.Backup.{LooksOn}
use Rattle.incr_backup.specs.Incr.{Origin, origin, IncrSite, IsTakenIncr, IsTakenIncrWhole, IsFinishedIncr, IsRefusedIncr, IncrCause, IsJudged, LeavesBehind, LeavesIncrManifest, KeepsIncrFull}
use Rattle.incr_backup.specs.Incr as base
use Rattle.backup_files.specs.Area.{HoldsNothing}
use Rattle.backup_files.proofs.Synced.{synced_is_durable}
use Rattle.command_base.specs.Areas.{backup_name, AreaIsDurable}
use Rattle.command_base.proofs.Lent.{reads_still, still_at}
use Rattle.scripts.specs.declared.script.Command.TheVariants as command
use Rattle.run_answers.specs.declared.answer.Answer.TheVariants.{Backup, IncrRefused}
use Rattle.run_answers.specs.declared.answer.Stop.TheVariants as stop
use Rattle.crew.specs.Backups.{area_asked}
use Rattle.crew.specs.Run.{Basis, HoldsIncr, IncrAreas, incr_areas, OnlyAmong, StaysFull, IsIncrRefused}
use Rattle.run_answers.specs.Stopping.{incr_stop}
use Rattle.crew.specs.Run as run
use Rattle.crew.specs.Running.{IncrRuns, AreIncrAreas}
use Rattle.crew.proofs.Backed.{looked, weaker}

-- ---- areas as they are known

-- with what lines run on, a backup begins
abbrev from_basis : Basis → Origin
from_basis b = origin b.settings b.found b.sums b.limit

abbrev known_areas : {V : Type 0} (g : Ghosts V) (site : IncrSite V) → IncrAreas
known_areas g site = record { prior = state_in g site.prior; out = state_in g site.out }

same_areas : {V : Type 0} (g : Ghosts V) (name prior : List ℕ) (areas : Areas) (site : IncrSite V) → AreIncrAreas g name prior areas site → incr_areas areas name prior ≡ known_areas g site
same_areas g name prior areas site are =
    ap (λ (p : AreaState). record { prior = p; out = areas (backup_name name) }) are.prior_is
    ∙ ap (λ (o : AreaState). record { prior = state_in g site.prior; out = o }) are.out_is

-- ---- a backup that was taken

holds : {V : Type 0} (g : Ghosts V) (tells : Type 0) (b : Basis) (name : List ℕ) (old new : IncrSite V) (done : Done) → IsTakenIncr g tells (from_basis b) name b.when old new done
    → HoldsIncr tells b old.seen.worker (length old.seen.list) new.seen.list name done.start done.end (known_areas g old) (known_areas g new)
holds g tells b name old new done t = record {
  checkpoint = t.checkpoint;
  count = done.files;
  entries = t.entries;
  plan = t.basis;
  relseg = t.relseg;
  prior = record { told = t.prior.told; ours = t.prior.ours; behind = t.prior.behind };
  summed = t.summed;
  list = t.list;
  listed = t.listed;
  files = t.files;
  sent = t.sent;
  directory = t.directory;
}

only_among : {V : Type 0} (g : Ghosts V) (name prior : List ℕ) (held mid : Areas) (old new : IncrSite V) → AreIncrAreas g name prior held old → AreIncrAreas g name prior mid new → ((n : List ℕ) → IsNoneOf n (area_asked (command.Incr name prior)) → mid n ≡ held n)
    → g.faults old.out ≤ g.faults new.out → OnlyReads g old.prior new.prior → OnlyAmong (area_asked (command.Incr name prior)) held mid
only_among g name prior held mid old new was is others later reads = record {
  others = others;
  later = λ n one. elim one [
    | inl out ↦ subst (λ (m : List ℕ). (held m).faults ≤ (mid m).faults) (sym out) (omega (arith, later, ap (λ (s : AreaState). s.faults) was.out_is, ap (λ (s : AreaState). s.faults) is.out_is))
    | inr more ↦ elim more [
      | inl before ↦ subst (λ (m : List ℕ). (held m).faults ≤ (mid m).faults) (sym before) (omega (arith, reads.faults, ap (λ (s : AreaState). s.faults) was.prior_is, ap (λ (s : AreaState). s.faults) is.prior_is))
      | inr never ↦ absurd never
    ]
  ];
}

prior_same : {V : Type 0} (g : Ghosts V) (name prior : List ℕ) (held mid : Areas) (old new : IncrSite V) → AreIncrAreas g name prior held old → AreIncrAreas g name prior mid new → OnlyReads g old.prior new.prior → IsStill (held (backup_name prior)) (mid (backup_name prior))
prior_same g name prior held mid old new was is reads = still_at (held (backup_name prior)) (mid (backup_name prior)) (state_in g old.prior) (state_in g new.prior) was.prior_is is.prior_is (reads_still g old.prior new.prior reads)

pub taken : {V : Type 0} (g : Ghosts V) (tells : Type 0) (b : Basis) (name prior : List ℕ) (old new : IncrSite V) (done : Done) → IsFinishedIncr g tells (origin b.settings b.found b.sums b.limit) name b.when old new done → LooksOn 3 old.seen new.seen → g.faults old.out ≤ g.faults new.out
    → OnlyReads g old.prior new.prior → IncrRuns g tells b name prior old new (Backup done.start done.end)
taken g tells b name prior old new done t l later reads = λ held mid was is others.
    let holding : HoldsIncr tells b old.seen.worker (length old.seen.list) new.seen.list name done.start done.end (incr_areas held name prior) (incr_areas mid name prior) =
    subst (λ (a : IncrAreas). HoldsIncr tells b old.seen.worker (length old.seen.list) new.seen.list name done.start done.end a (incr_areas mid name prior)) (sym (same_areas g name prior held old was))
    (subst (λ (a : IncrAreas). HoldsIncr tells b old.seen.worker (length old.seen.list) new.seen.list name done.start done.end (known_areas g old) a) (sym (same_areas g name prior mid new is))
    (holds g tells b name old new done t.taken)) in
    record {
      made = [];
      went = looked old.seen new.seen l;
      answered = (
        refl,
        inr (
          name,
          prior,
          refl,
          subst HoldsNothing (sym (ap (λ (s : AreaState). s.files) was.out_is)) t.empty,
          only_among g name prior held mid old new was is others later reads,
          prior_same g name prior held mid old new was is reads,
          holding,
          subst AreaIsDurable (sym is.out_is) (synced_is_durable g new.out t.synced),
        ),
      );
      risen = λ area t. absurd cc;
      run = refl;
    }

-- ---- one that was refused, or failed

spared : {V : Type 0} (g : Ghosts V) (old new : V) → base.IsSpared g old new → IsStill (state_in g old) (state_in g new)
spared g old new s = record { files = s.files; past = s.past }

still : {V : Type 0} (g : Ghosts V) (old new : IncrSite V) → base.StandsStill g old new → run.StandsStill (length old.seen.list) new.seen.list (known_areas g old) (known_areas g new)
still g old new s = record { history = ap (λ (x : Seen). length x.list) s.seen; out = spared g old.out new.out s.out }

why_not : {V : Type 0} (g : Ghosts V) (tells : Type 0) (b : Basis) (name : List ℕ) (old new : IncrSite V) (why : IncrFault) → IncrCause g tells (from_basis b) b.when old new why → IsJudged g (from_basis b) old why → LeavesBehind g old new why
    → LeavesIncrManifest g (IsTakenIncrWhole g tells (from_basis b) name b.when old new) old.out new.out why → IsIncrRefused tells b old.seen.worker (length old.seen.list) new.seen.list name (known_areas g old) (known_areas g new) why
why_not g tells b name old new incr.NotEmpty cause judged behind left = (cause, still g old new behind)
why_not g tells b name old new incr.NoManifest cause judged behind left = ((judged, cause), still g old new behind)
why_not g tells b name old new (incr.ManifestRefused why) cause judged behind left = ((judged, cause), still g old new behind)
why_not g tells b name old new (incr.SystemDiffers have expected) cause judged behind left = ((judged, cause), still g old new behind)
why_not g tells b name old new (incr.Overlap start end) cause judged behind left = (
  judged,
  record { manifest = cause.0; told = cause.1; ours = cause.2; checkpoint = cause.3; end_is = cause.4; past = cause.5 },
  spared g old.out new.out behind,
)
why_not g tells b name old new (incr.Gap place) cause judged behind left = (
  judged,
  record { manifest = cause.0; start = cause.1; prior = record { told = cause.2.told; ours = cause.2.ours; behind = cause.2.behind }; summed = cause.3 },
  spared g old.out new.out behind,
)
why_not g tells b name old new (incr.WalFull n) cause judged behind left = (judged, cause.0, cause.1, left)
why_not g tells b name old new (incr.StoreFailed area) cause judged behind left = (judged, left)
why_not g tells b name old new incr.SumsFailed cause judged behind left = (judged, left)
why_not g tells b name old new incr.PriorFailed cause judged behind left = (judged, cause, still g old new behind)
why_not g tells b name old new incr.OutFailed cause judged behind left = (cause, left)
why_not g tells b name old new incr.NoMemory cause judged behind (inl kept) = inl kept
why_not g tells b name old new incr.NoMemory cause judged behind (inr (inl rose)) = inr (inl rose)
why_not g tells b name old new incr.NoMemory cause judged behind (inr (inr t)) = inr (inr (t.0.start, t.0.end, holds g tells b name old new t.0 t.1))

-- which area failed
failed_by : {V : Type 0} (g : Ghosts V) (tells : Type 0) (b : Basis) (old new : IncrSite V) (why : IncrFault) (which : StoreArea) → IncrCause g tells (from_basis b) b.when old new why → incr_stop why ≡ Some (stop.Store (store.Failed which)) → ShareRose which old.seen new.seen
failed_by g tells b old new incr.NotEmpty which cause e = absurd cc
failed_by g tells b old new incr.NoManifest which cause e = absurd cc
failed_by g tells b old new (incr.ManifestRefused why) which cause e = absurd cc
failed_by g tells b old new (incr.SystemDiffers have expected) which cause e = absurd cc
failed_by g tells b old new (incr.Overlap start end) which cause e = absurd cc
failed_by g tells b old new (incr.Gap place) which cause e = absurd cc
failed_by g tells b old new (incr.WalFull n) which cause e = absurd cc
failed_by g tells b old new (incr.StoreFailed other) which cause e =
    let same : other ≡ which = cc in
    subst (λ (a : StoreArea). ShareRose a old.seen new.seen) same cause
failed_by g tells b old new incr.SumsFailed which cause e =
    let same : ◌≡◌ {A = StoreArea} Sums which = cc in
    subst (λ (a : StoreArea). ShareRose a old.seen new.seen) same cause
failed_by g tells b old new incr.PriorFailed which cause e = absurd cc
failed_by g tells b old new incr.OutFailed which cause e = absurd cc
failed_by g tells b old new incr.NoMemory which cause e = absurd cc

stays_full : {V : Type 0} (g : Ghosts V) (old new : IncrSite V) → KeepsIncrFull g old new → StaysFull (state_in g old.out) (state_in g new.out)
stays_full g old new kept = weaker (g.files old.out) (λ m. m ≢ empty → base.StandsStill g old new) (λ m. m ≢ empty → IsStill (state_in g old.out) (state_in g new.out)) (λ m whole some. spared g old.out new.out (whole some).out) kept

pub refused : {V : Type 0} (g : Ghosts V) (tells : Type 0) (b : Basis) (name prior : List ℕ) (old new : IncrSite V) (why : IncrFault) → IsRefusedIncr g tells (origin b.settings b.found b.sums b.limit) name b.when old new why → LooksOn 3 old.seen new.seen → g.faults old.out ≤ g.faults new.out
    → OnlyReads g old.prior new.prior → IncrRuns g tells b name prior old new (IncrRefused why)
refused g tells b name prior old new why r l later reads = λ held mid was is others.
    let judged : IsIncrRefused tells b old.seen.worker (length old.seen.list) new.seen.list name (incr_areas held name prior) (incr_areas mid name prior) why =
    subst (λ (a : IncrAreas). IsIncrRefused tells b old.seen.worker (length old.seen.list) new.seen.list name a (incr_areas mid name prior) why) (sym (same_areas g name prior held old was))
    (subst (λ (a : IncrAreas). IsIncrRefused tells b old.seen.worker (length old.seen.list) new.seen.list name (known_areas g old) a why) (sym (same_areas g name prior mid new is))
    (why_not g tells b name old new why r.cause r.judged r.behind r.manifest)) in
    record {
      made = [];
      went = looked old.seen new.seen l;
      answered = (
        name,
        prior,
        refl,
        refl,
        only_among g name prior held mid old new was is others later reads,
        prior_same g name prior held mid old new was is reads,
        subst (λ (x : AreaState). StaysFull x (mid (backup_name name))) (sym was.out_is) (subst (λ (x : AreaState). StaysFull (state_in g old.out) x) (sym is.out_is) (stays_full g old new r.full)),
        judged,
      );
      risen = λ which t. failed_by g tells b old new why which r.cause t;
      run = refl;
    }
