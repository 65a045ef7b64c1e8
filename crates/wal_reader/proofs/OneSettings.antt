-- The settings of a WAL are read in one way.
use Rattle.std.proofs.Common.{◌≡◌, ℕ, Bool, true, false, List, [], get_or, Option, Some, None, codes, refl, sym, ap, subst, ◌∙◌, arith, inl, inr}
use Rattle.std.specs.FinMap.{get, keys}
use Rattle.std.proofs.lemmas.Bool.{cases_lt}
use Rattle.lsn_core.specs.Files.{Files}
use Rattle.lsn_core.specs.Segment.{StoreSettings, settings_with}
use Rattle.wal_reader.specs.declared.fault.WalFault.{WalFault}
use Rattle.wal_reader.specs.declared.fault.WalFault.TheVariants.{Damaged, SettingsDamaged, Timeline, NotInit, Failed, NoMemory}
use Rattle.wal_reader.specs.Causes.{CauseOf, IsOfFiles}
use Rattle.wal_reader.specs.Names.{IsOtherTimeline, IsFirstOther, HasNoOther}
use Rattle.wal_reader.specs.Settings.{HasSegment, IsLeastOf, system_at, IsSystemOf, is_wal, IsSettingsOf, HasOtherTimeline, refusals}
use Rattle.wal_reader.proofs.SettingsText.{gives_once, gives_or_is_damaged}

least_once : (P : ℕ → Type 0) (a b : Option ℕ) → IsLeastOf P a → IsLeastOf P b → a ≡ b
least_once P None None p q = refl
least_once P None (Some b) p q = absurd (p b q.0)
least_once P (Some a) None p q = absurd (q a p.0)
least_once P (Some a) (Some b) p q = (let e : a ≡ b = omega (arith, p.1 b q.0, q.1 a p.0) in ap (λ n. let o : Option ℕ = Some n in o) e)

system_once : (mib : ℕ) (files : Files) (a b : ℕ) → IsSystemOf mib files a → IsSystemOf mib files b → a ≡ b
system_once mib files a b p q =
    p.identifier ∙ ap (system_at mib files) (least_once (HasSegment mib files) p.segment q.segment p.least q.least) ∙ sym q.identifier

same_settings : (a b m n s t : ℕ) → a ≡ b → m ≡ n → s ≡ t → settings_with a m s ≡ settings_with b n t
same_settings a b m n s t mib relseg system = rw (mib, relseg, system) refl

pub one_settings : (files : Files) (s t : StoreSettings) → IsSettingsOf files s → IsSettingsOf files t → s ≡ t
one_settings files s t p q =
    let same = gives_once (get files (codes "settings")) s.segment s.relseg t.segment t.relseg p.given q.given in
    let system = system_once t.segment files s.system t.system (subst (λ (mib : ℕ). IsSystemOf mib files s.system) same.0 p.system) q.system in
    same_settings s.segment t.segment s.relseg t.relseg s.system t.system same.0 same.1 system

never : (b : Bool) → b ≡ true → b ≡ false → ⊥
never b there not = (let e : true ≡ false = sym there ∙ not in absurd cc)

-- a first name of another timeline is the only one
first_once : (mib : ℕ) (names : List (List ℕ)) (a b : List ℕ) → IsFirstOther mib names a → IsFirstOther mib names b → a ≡ b
first_once mib names a b p q =
    elim (cases_lt p.at q.at) [
      | inl lt ↦ absurd (q.first p.at lt (subst (IsOtherTimeline mib) p.there p.other))
      | inr le ↦ elim (cases_lt q.at p.at) [
        | inl lt ↦ absurd (p.first q.at lt (subst (IsOtherTimeline mib) q.there q.other))
        | inr ge ↦ (let e : p.at ≡ q.at = omega (arith, le, ge) in p.there ∙ ap (λ (i : ℕ). get_or names i []) e ∙ sym q.there)
      ]
    ]

first_or_none : (mib : ℕ) (names : List (List ℕ)) (a : List ℕ) → IsFirstOther mib names a → HasNoOther mib names → ⊥
first_or_none mib names a p none = none p.at p.within (subst (IsOtherTimeline mib) p.there p.other)

pub settings_or_refused : (files : Files) (s : StoreSettings) (fault : WalFault) → IsOfFiles fault → IsSettingsOf files s → CauseOf (refusals files) 0 0 fault → ⊥
settings_or_refused files s (Damaged damage) own is cause = cause
settings_or_refused files s SettingsDamaged own is cause = gives_or_is_damaged (get files (codes "settings")) s.segment s.relseg is.given cause.1
settings_or_refused files s (Timeline name) own is cause =
    let same = gives_once (get files (codes "settings")) cause.mib cause.relseg s.segment s.relseg cause.given is.given in
    first_or_none s.segment (keys files) name (subst (λ (mib : ℕ). IsFirstOther mib (keys files) name) same.0 cause.first) is.timeline
settings_or_refused files s NotInit own is cause = never (is_wal files) is.there cause
settings_or_refused files s Failed own is cause = own.0 refl
settings_or_refused files s NoMemory own is cause = own.1 refl

other_once : (files : Files) (a b : List ℕ) → HasOtherTimeline files a → HasOtherTimeline files b → a ≡ b
other_once files a b p q =
    let same = gives_once (get files (codes "settings")) p.mib p.relseg q.mib q.relseg p.given q.given in
    first_once q.mib (keys files) a b (subst (λ (mib : ℕ). IsFirstOther mib (keys files) a) same.0 p.first) q.first

pub one_refusal : (files : Files) (fault other : WalFault) → IsOfFiles fault → IsOfFiles other → CauseOf (refusals files) 0 0 fault → CauseOf (refusals files) 0 0 other → fault ≡ other
one_refusal files (Damaged damage) other own too p q = absurd p
one_refusal files Failed other own too p q = absurd (own.0 refl)
one_refusal files NoMemory other own too p q = absurd (own.1 refl)
one_refusal files SettingsDamaged (Damaged damage) own too p q = absurd q
one_refusal files SettingsDamaged SettingsDamaged own too p q = refl
one_refusal files SettingsDamaged (Timeline name) own too p q = absurd (gives_or_is_damaged (get files (codes "settings")) q.mib q.relseg q.given p.1)
one_refusal files SettingsDamaged NotInit own too p q = absurd (never (is_wal files) p.0 q)
one_refusal files SettingsDamaged Failed own too p q = absurd (too.0 refl)
one_refusal files SettingsDamaged NoMemory own too p q = absurd (too.1 refl)
one_refusal files (Timeline name) (Damaged damage) own too p q = absurd q
one_refusal files (Timeline name) SettingsDamaged own too p q = absurd (gives_or_is_damaged (get files (codes "settings")) p.mib p.relseg p.given q.1)
one_refusal files (Timeline name) (Timeline other) own too p q = ap (λ (n : List ℕ). let f : WalFault = Timeline n in f) (other_once files name other p q)
one_refusal files (Timeline name) NotInit own too p q = absurd (never (is_wal files) p.there q)
one_refusal files (Timeline name) Failed own too p q = absurd (too.0 refl)
one_refusal files (Timeline name) NoMemory own too p q = absurd (too.1 refl)
one_refusal files NotInit (Damaged damage) own too p q = absurd q
one_refusal files NotInit SettingsDamaged own too p q = absurd (never (is_wal files) q.0 p)
one_refusal files NotInit (Timeline name) own too p q = absurd (never (is_wal files) q.there p)
one_refusal files NotInit NotInit own too p q = refl
one_refusal files NotInit Failed own too p q = absurd (too.0 refl)
one_refusal files NotInit NoMemory own too p q = absurd (too.1 refl)
