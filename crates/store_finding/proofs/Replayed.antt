-- A WAL that was read whole and replayed, and why one is not.
use Rattle.std.proofs.Common.{◌≡◌, ℕ, List, [], ◌++◌, map, Option, Some, None, IfSome, IsSome, Result, Ok, Err, IsErrAnd, IfErr, refl, sym, ap, subst, ◌∙◌, arith}
use Rattle.std.specs.Option.{option_map}
use Rattle.std.specs.FinMap.{empty}
use Rattle.lsn_core.specs.Files.{Files}
use Rattle.lsn_core.specs.Segment.{StoreSettings}
use Rattle.lsn_core.specs.Store.{Store}
use Rattle.lsn_core.specs.Tip.{Tip}
use Rattle.wal_record.specs.declared.record.Record.{Record}
use Rattle.history.specs.Entry.{Entry}
use Rattle.history.specs.Apply.{apply_all}
use Rattle.history.specs.Whole.{entry_of, whole}
use Rattle.recovery.specs.Onward.{AllEndBy as EndBy}
use Rattle.recovery.specs.Reading.{IsReadTo}
use Rattle.recovery.specs.Replayed.{ShowsWhole, into_causes, ReplaysInto}
use Rattle.recovery.specs.Causes.{CauseOf, HasSettings}
use Rattle.recovery.specs.declared.fault.RecoveryFault.{RecoveryFault}
use Rattle.recovery.specs.declared.fault.RecoveryFault.TheVariants as recovery
use Rattle.recovery.specs.declared.fault.ReplayFault.{ReplayFault}
use Rattle.recovery.specs.declared.fault.ReplayFault.TheVariants as replay
use Rattle.recovery.proofs.OneWal.{both_end, ends_or_damaged}
use Rattle.history.specs.Pages.{page_count}
use Rattle.lsn_core.specs.declared.pages.Pages.{Ghosts as PagesGhosts}
use Rattle.vault.specs.declared.area.Vault.{Ghosts}
use Rattle.recovery.proofs.SoFar.{all_kept}
use Rattle.store_areas.specs.Begin.{BeginCause, MayComeLate}
use Rattle.store_areas.specs.Read.{HasRead}
use Rattle.store_finding.specs.Filling.{IsChecked, IsUnreplayed}

-- ---- what it makes

made_of : (rs : List Record) (place : ℕ) (store : Store) → EndBy rs place → whole rs place ≡ Some store → apply_all empty (map entry_of rs) ≡ Some store
made_of rs place store ends made = sym (ap (λ (qs : List Record). apply_all empty (map entry_of qs)) (all_kept rs place ends)) ∙ made

nothing_told : IsSome {T = Files} None → ⊥
nothing_told some = absurd (let t = sym some in cc)

-- the store that a replay makes, and its pages, where the WAL's area tells its files
picked : (P : Store → Type 0) (o : Option Files) (rs : List Record) (history : List Entry) (place forks pages : ℕ) → EndBy rs place → history ≡ map entry_of rs → (IsSome o → ShowsWhole P rs place forks pages)
    → (store : Store) × ((IsSome o → apply_all empty history ≡ Some store) × (IsSome o → page_count store ≡ pages))
picked P None rs history place forks pages ends is shows = (empty, (λ told. absurd (nothing_told told), λ told. absurd (nothing_told told)))
picked P (Some m) rs history place forks pages ends is shows =
    let whole = shows refl in
    (whole.last, (λ told. ap (apply_all empty) is ∙ made_of rs place whole.last ends whole.whole, λ told. sym whole.pages_are))

pub read_of : (P : Store → Type 0) (s : StoreSettings) (files : Option Files) (rs : List Record) (history : List Entry) (forks pages : ℕ) (tip : Tip) → IsReadTo s files None rs tip → (IsSome files → ShowsWhole P rs tip.end forks pages) → history ≡ map entry_of rs
    → HasRead s files history pages tip
read_of P s files rs history forks pages tip read shows is =
    let has = picked P files rs history tip.end forks pages read.ends is shows in
    record { found = rs; read = read; history_is = is; store = has.0; made = has.1.0; counted = has.1.1 }

one_store : (o : Option Store) (a b : Store) → o ≡ Some a → o ≡ Some b → a ≡ b
one_store None a b x y = absurd cc
one_store (Some c) a b x y = cc (x, y)

pub shown_of : (P : Store → Type 0) (s : StoreSettings) (files : Option Files) (rs : List Record) (history : List Entry) (forks pages : ℕ) (tip : Tip) → IsReadTo s files None rs tip → (IsSome files → ShowsWhole P rs tip.end forks pages) → history ≡ map entry_of rs
    → IsSome files → (store : Store) → apply_all empty history ≡ Some store → P store
shown_of P s files rs history forks pages tip read shows is told store made =
    let whole = shows told in
    let there = ap (apply_all empty) is ∙ made_of rs tip.end whole.last read.ends whole.whole in
    subst P (one_store (apply_all empty history) whole.last store there made) whole.shown

-- ---- why it isn't replayed

-- where the settings are known, and pages show nothing, a replay is refused as the WAL is
pub cause_of : (s : StoreSettings) (files : Option Files) (fresh : Type 0) (before now : ℕ) (fault : RecoveryFault) → HasSettings files s → (IsSome files → fresh) → CauseOf (into_causes s None files fresh) before now fault → BeginCause files before now fault
cause_of s None fresh before now (recovery.Damaged mib damage) has clean cause = tt
cause_of s (Some m) fresh before now (recovery.Damaged mib damage) has clean cause = (s, (has.given, (cause.0, cause.1)))
cause_of s None fresh before now (recovery.Short end target) has clean cause = tt
cause_of s (Some m) fresh before now (recovery.Short end target) has clean cause = (s, (has.given, cause))
cause_of s None fresh before now (recovery.BadDelta place) has clean cause = tt
cause_of s (Some m) fresh before now (recovery.BadDelta place) has clean cause = (s, (has.given, cause (clean refl)))
cause_of s files fresh before now recovery.SettingsDamaged has clean cause = absurd cause
cause_of s files fresh before now (recovery.Timeline name) has clean cause = absurd cause
cause_of s files fresh before now recovery.NotInit has clean cause = absurd cause
cause_of s files fresh before now recovery.Failed has clean cause = cause
cause_of s files fresh before now recovery.NoMemory has clean cause = tt

-- and where it was read before, only for a bad delta
pub late_cause : (s : StoreSettings) (files : Option Files) (fresh : Type 0) (before now : ℕ) (fault : RecoveryFault) → IsChecked files s → CauseOf (into_causes s None files fresh) before now fault → IfSome files (λ m. MayComeLate fault)
late_cause s None fresh before now fault checked cause = tt
late_cause s (Some m) fresh before now (recovery.Damaged mib damage) checked cause = ends_or_damaged s m None checked.entries checked.tip damage checked.read.archive cause.1
late_cause s (Some m) fresh before now (recovery.Short end target) checked cause = absurd (let t = cause.0 in cc)
late_cause s (Some m) fresh before now (recovery.BadDelta place) checked cause = tt
late_cause s (Some m) fresh before now recovery.SettingsDamaged checked cause = absurd cause
late_cause s (Some m) fresh before now (recovery.Timeline name) checked cause = absurd cause
late_cause s (Some m) fresh before now recovery.NotInit checked cause = absurd cause
late_cause s (Some m) fresh before now recovery.Failed checked cause = tt
late_cause s (Some m) fresh before now recovery.NoMemory checked cause = tt

pub not_empty : (s : StoreSettings) (files : Option Files) (rs : List Record) (tip : Tip) → IsChecked files s → IsReadTo s files None rs tip → tip.count ≡ 0 → IfSome files (λ m. MayComeLate recovery.NotInit)
not_empty s None rs tip checked read none = tt
not_empty s (Some m) rs tip checked read none =
    let one = both_end s m None checked.entries rs checked.tip tip checked.read.archive read.archive in
    absurd (let same = ap (λ (t : Tip). t.count) one.1 in omega (arith, same, none, checked.some))

pub unreplayed : {W P : Type 0} (w : Ghosts W) (g : PagesGhosts P) (s : StoreSettings) (old now : W) (before behind : P) (fault : ReplayFault) → IsChecked (w.files old) s → (IsSome (w.files old) → g.shows before empty) → ReplaysInto w g s None old now before behind (Err fault)
    → IsUnreplayed (w.files old) (w.faults old) (w.faults now) (g.faults before) (g.faults behind) fault
unreplayed w g s old now before behind (replay.Wal fault) checked clean cause = (
  cause_of s (w.files old) (g.shows before empty) (w.faults old) (w.faults now) fault checked.given clean cause,
  late_cause s (w.files old) (g.shows before empty) (w.faults old) (w.faults now) fault checked cause,
)
unreplayed w g s old now before behind (replay.Out fault) checked clean cause = cause

-- what was handed on by `?`
pub handed_on : {T E : Type 0} (result : Result T E) (fault : E) (P : E → Type 0) → IsErrAnd result (λ e. e ≡ fault) → P fault → IfErr result P
handed_on (Ok x) fault P is p = absurd is
handed_on (Err e) fault P is p = subst P (sym is) p

pub heard_all : (old new es : List Entry) → old ≡ [] → Some new ≡ option_map (λ (hs : List Entry). hs ++ es) (Some old) → new ≡ es
heard_all old new es none heard = (let at = subst (λ (hs : List Entry). Some new ≡ Some (hs ++ es)) none heard in cc at)
