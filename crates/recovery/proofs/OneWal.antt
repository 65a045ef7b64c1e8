-- The answers on a WAL shut each other out.
use Rattle.std.proofs.Common.{◌≡◌, ℕ, ◌≤◌, List, [], ◌∷◌, map, Option, Some, Result, Ok, Err, IfErr, refl, sym, ap, subst, ◌∙◌, arith}
use Rattle.std.specs.FinMap.{empty}
use Rattle.lsn_core.specs.Files.{Files}
use Rattle.lsn_core.specs.Segment.{StoreSettings}
use Rattle.lsn_core.specs.Store.{Store}
use Rattle.lsn_core.specs.Tip.{Tip}
use Rattle.lsn_core.specs.declared.lsn.Lsn.{Lsn}
use Rattle.wal_record.specs.declared.record.Record.{Record}
use Rattle.wal_record.specs.Tips.{first_tip, tip_after}
use Rattle.wal_archive.specs.declared.fault.Damage.{Damage}
use Rattle.wal_archive.specs.Rules.{Found, End, Gives, Bad}
use Rattle.wal_reader.specs.declared.fault.WalFault.{WalFault}
use Rattle.wal_reader.specs.declared.fault.WalFault.TheVariants as wal
use Rattle.wal_reader.specs.Causes.{CauseOf as WalCauseOf, IsOfFiles as IsOfWal}
use Rattle.wal_reader.specs.Settings.{IsSettingsOf, refusals}
use Rattle.wal_reader.proofs.OneSettings.{one_settings, settings_or_refused, one_refusal}
use Rattle.history.specs.Whole.{entry_of, whole}
use Rattle.recovery.specs.declared.fault.RecoveryFault.{RecoveryFault}
use Rattle.recovery.specs.declared.fault.RecoveryFault.TheVariants.{Damaged, Short, BadDelta, SettingsDamaged, Timeline, NotInit, Failed, NoMemory}
use Rattle.recovery.specs.declared.replaying.ReadWal.{ReadWal}
use Rattle.recovery.specs.Onward.{replayed_to, ending_by}
use Rattle.recovery.specs.Replay.{found_to, Reads, IsRead, last_end, IsReadWal, IsDamagedBefore, EndsBefore, first_bad, HasBadDelta}
use Rattle.recovery.specs.Causes.{IsOfFiles, WalAnswer}
use Rattle.recovery.specs.Laws.{HasOneWal}
use Rattle.recovery.proofs.SoFar.{good_or_bad}

-- ---- one reading

abbrev pub Stops : Found → Type 0
Stops f = (r : Record) → f ≡ Gives r → ⊥

end_stops : (f : Found) → f ≡ End → Stops f
end_stops f e r gives = (let c : ◌≡◌ {A = Found} End (Gives r) = sym e ∙ gives in absurd cc)

bad_stops : (f : Found) (damage : Damage) → f ≡ Bad damage → Stops f
bad_stops f damage e r gives = (let c : ◌≡◌ {A = Found} (Bad damage) (Gives r) = sym e ∙ gives in absurd cc)

same_gives : (f : Found) (r q : Record) → f ≡ Gives r → f ≡ Gives q → r ≡ q
same_gives f r q a b = (let c : ◌≡◌ {A = Found} (Gives r) (Gives q) = sym a ∙ b in cc)

same_bad : (f : Found) (d o : Damage) → f ≡ Bad d → f ≡ Bad o → d ≡ o
same_bad f d o a b = (let c : ◌≡◌ {A = Found} (Bad d) (Bad o) = sym a ∙ b in cc)

end_or_bad : (f : Found) (d : Damage) → f ≡ End → f ≡ Bad d → ⊥
end_or_bad f d a b = (let c : ◌≡◌ {A = Found} End (Bad d) = sym a ∙ b in absurd cc)

cons_same : (r q : Record) (rs qs : List Record) → r ≡ q → rs ≡ qs → ◌≡◌ {A = List Record} (r ∷ rs) (q ∷ qs)
cons_same r q rs qs a b = rw (a, b) refl

read_once : (s : StoreSettings) (files : Files) (upto : Option Lsn) (tip : Tip) (rs qs : List Record) (last end : Tip) → Reads s files upto tip rs last → Stops (found_to s files upto last) → Reads s files upto tip qs end → Stops (found_to s files upto end) → (rs ≡ qs) × (last ≡ end)
read_once s files upto tip [] [] last end p stop q halt = (refl, p ∙ sym q)
read_once s files upto tip [] (q ∷ qs) last end p stop walk halt = absurd (stop q (subst (λ (t : Tip). found_to s files upto t ≡ Gives q) (sym p) walk.0))
read_once s files upto tip (r ∷ rs) [] last end walk stop q halt = absurd (halt r (subst (λ (t : Tip). found_to s files upto t ≡ Gives r) (sym q) walk.0))
read_once s files upto tip (r ∷ rs) (q ∷ qs) last end p stop walk halt =
    let same : r ≡ q = same_gives (found_to s files upto tip) r q p.0 walk.0 in
    let more = read_once s files upto (tip_after tip r) rs qs last end p.1 stop (subst (λ (x : Record). Reads s files upto (tip_after tip x) qs end) (sym same) walk.1) halt in
    (cons_same r q rs qs same more.0, more.1)

pub both_end : (s : StoreSettings) (files : Files) (upto : Option Lsn) (rs qs : List Record) (last end : Tip) → IsRead s files upto rs last End → IsRead s files upto qs end End → (rs ≡ qs) × (last ≡ end)
both_end s files upto rs qs last end p q =
    read_once s files upto (first_tip s.segment) rs qs last end p.reads (end_stops (found_to s files upto last) p.behind) q.reads (end_stops (found_to s files upto end) q.behind)

ends_or_breaks : (s : StoreSettings) (files : Files) (upto : Option Lsn) (rs qs : List Record) (last end : Tip) (damage : Damage) → IsRead s files upto rs last End → IsRead s files upto qs end (Bad damage) → ⊥
ends_or_breaks s files upto rs qs last end damage p q =
    let same = read_once s files upto (first_tip s.segment) rs qs last end p.reads (end_stops (found_to s files upto last) p.behind) q.reads (bad_stops (found_to s files upto end) damage q.behind) in
    end_or_bad (found_to s files upto end) damage (subst (λ (t : Tip). found_to s files upto t ≡ End) same.1 p.behind) q.behind

pub ends_or_damaged : (s : StoreSettings) (files : Files) (upto : Option Lsn) (rs : List Record) (last : Tip) (damage : Damage) → IsRead s files upto rs last End → IsDamagedBefore s files upto damage → ⊥
ends_or_damaged s files upto rs last damage p q = ends_or_breaks s files upto rs q.entries last q.last damage p q.read

one_damage : (s : StoreSettings) (files : Files) (upto : Option Lsn) (damage other : Damage) → IsDamagedBefore s files upto damage → IsDamagedBefore s files upto other → damage ≡ other
one_damage s files upto damage other p q =
    let same = read_once s files upto (first_tip s.segment) p.entries q.entries p.last q.last p.read.reads (bad_stops (found_to s files upto p.last) damage p.read.behind) q.read.reads (bad_stops (found_to s files upto q.last) other q.read.behind) in
    same_bad (found_to s files upto q.last) damage other (subst (λ (t : Tip). found_to s files upto t ≡ Bad damage) same.1 p.read.behind) q.read.behind

-- ---- values by their parts

lsn_at : ℕ → Lsn
lsn_at at = record { 0 = at }

pub same_lsn : (a b : Lsn) → a.0 ≡ b.0 → a ≡ b
unfolding lsn_at
same_lsn a b e = ap lsn_at e

read_with : Lsn → Tip → Store → ReadWal
read_with end tip store = record { end = end; tip = tip; store = store }

same_read : (a b : ReadWal) → a.end ≡ b.end → a.tip ≡ b.tip → a.store ≡ b.store → a ≡ b
unfolding read_with
same_read a b end tip store =
    ap (λ (x : Lsn). read_with x a.tip a.store) end ∙ ap (λ (t : Tip). read_with b.end t a.store) tip ∙ ap (λ (s : Store). read_with b.end b.tip s) store

some_is : {A : Type 0} (x y : A) → ◌≡◌ {A = Option A} (Some x) (Some y) → x ≡ y
some_is x y e = cc

-- ---- what was read

whole_by : Option Lsn → List Record → Tip → Option Store
whole_by upto rs tip = whole rs (replayed_to upto tip)

end_by : ℕ → Option Lsn → List Record → Tip → ℕ
end_by mib upto rs tip = last_end mib (ending_by (replayed_to upto tip) rs)

pub one_read : (s : StoreSettings) (files : Files) (upto : Option Lsn) (a b : ReadWal) → IsReadWal s (Some files) upto a → IsReadWal s (Some files) upto b → a ≡ b
unfolding whole_by end_by
one_read s files upto a b x y =
    let one = both_end s files upto x.entries y.entries a.tip b.tip x.archive y.archive in
    let stores : ◌≡◌ {A = Option Store} (Some a.store) (Some b.store) =
    sym x.store ∙ (ap (λ (rs : List Record). whole_by upto rs a.tip) one.0 ∙ (ap (whole_by upto y.entries) one.1 ∙ y.store)) in
    let ends : a.end.0 ≡ b.end.0 =
    x.end ∙ (ap (λ (rs : List Record). end_by s.segment upto rs a.tip) one.0 ∙ (ap (end_by s.segment upto y.entries) one.1 ∙ sym y.end)) in
    same_read a b (same_lsn a.end b.end ends) one.1 (some_is a.store b.store stores)

-- ---- refusals, by the settings that files have

targets_are : (a b : Lsn) (upto : Option Lsn) → upto ≡ Some a → upto ≡ Some b → a ≡ b
targets_are a b upto p q = cc

-- an end before the target is no end at it
short_or_reached : (s : StoreSettings) (files : Files) (upto : Option Lsn) (end target : Lsn) (rs : List Record) (last : Tip) → upto ≡ Some target → EndsBefore s files end target → IsRead s files upto rs last End → replayed_to upto last ≤ last.end → ⊥
short_or_reached s files upto end target rs last is short read reached =
    let there : IsRead s files (Some target) rs last End = subst (λ (u : Option Lsn). IsRead s files u rs last End) is read in
    let at : target.0 ≤ last.end = subst (λ (u : Option Lsn). replayed_to u last ≤ last.end) is reached in
    let one = both_end s files (Some target) short.entries rs short.last last short.read there in
    omega (arith, short.short, short.end_is, ap (λ (t : Tip). t.end) one.1, at)

one_short : (s : StoreSettings) (files : Files) (end other target : Lsn) → EndsBefore s files end target → EndsBefore s files other target → end ≡ other
one_short s files end other target p q =
    let one = both_end s files (Some target) p.entries q.entries p.last q.last p.read q.read in
    same_lsn end other (p.end_is ∙ (ap (λ (t : Tip). t.end) one.1 ∙ sym q.end_is))

short_or_damaged : (s : StoreSettings) (files : Files) (upto : Option Lsn) (end target : Lsn) (damage : Damage) → upto ≡ Some target → EndsBefore s files end target → IsDamagedBefore s files upto damage → ⊥
short_or_damaged s files upto end target damage is short damaged =
    ends_or_damaged s files (Some target) short.entries short.last damage short.read (subst (λ (u : Option Lsn). IsDamagedBefore s files u damage) is damaged)

bad_by : Option Lsn → List Record → Tip → Option ℕ
bad_by upto rs tip = first_bad empty (map entry_of (ending_by (replayed_to upto tip) rs))

one_bad : (s : StoreSettings) (files : Files) (upto : Option Lsn) (place other : Lsn) → HasBadDelta s files upto place → HasBadDelta s files upto other → place ≡ other
unfolding bad_by
one_bad s files upto place other p q =
    let one = both_end s files upto p.entries q.entries p.last q.last p.read q.read in
    let e : ◌≡◌ {A = Option ℕ} (Some place.0) (Some other.0) = sym p.bad ∙ (ap (λ (rs : List Record). bad_by upto rs p.last) one.0 ∙ (ap (bad_by upto q.entries) one.1 ∙ q.bad)) in
    same_lsn place other (some_is place.0 other.0 e)

read_or_bad : (s : StoreSettings) (files : Files) (upto : Option Lsn) (a : ReadWal) (place : Lsn) → IsReadWal s (Some files) upto a → HasBadDelta s files upto place → ⊥
unfolding bad_by
read_or_bad s files upto a place x bad =
    let one = both_end s files upto bad.entries x.entries bad.last a.tip bad.read x.archive in
    let there : bad_by upto x.entries a.tip ≡ Some place.0 = sym (ap (λ (rs : List Record). bad_by upto rs bad.last) one.0 ∙ ap (bad_by upto x.entries) one.1) ∙ bad.bad in
    good_or_bad empty (map entry_of (ending_by (replayed_to upto a.tip) x.entries)) a.store place.0 x.store there

-- ---- what an answer that the files decide says of them

-- the settings are refused so; or there are settings, and with them the archive gives this answer
pub data Outcome : Type 0 where
  Unset : WalFault → Outcome
  Set : StoreSettings → Outcome

abbrev pub refused_by : WalFault → Result (StoreSettings × ReadWal) RecoveryFault
refused_by (wal.Damaged damage) = Err NoMemory
refused_by wal.SettingsDamaged = Err SettingsDamaged
refused_by (wal.Timeline name) = Err (Timeline name)
refused_by wal.NotInit = Err NotInit
refused_by wal.Failed = Err Failed
refused_by wal.NoMemory = Err NoMemory

abbrev pub Came : Option Lsn → Files → Outcome → Result (StoreSettings × ReadWal) RecoveryFault → Type 0
Came upto files (Unset w) a = WalCauseOf (refusals files) 0 0 w × (IsOfWal w × (a ≡ refused_by w))
Came upto files (Set s) (Ok x) = IsSettingsOf files s × ((x.0 ≡ s) × IsReadWal s (Some files) upto x.1)
Came upto files (Set s) (Err (Damaged mib damage)) = IsSettingsOf files s × ((mib ≡ s.segment) × IsDamagedBefore s files upto damage)
Came upto files (Set s) (Err (Short end target)) = IsSettingsOf files s × ((upto ≡ Some target) × EndsBefore s files end target)
Came upto files (Set s) (Err (BadDelta place)) = IsSettingsOf files s × HasBadDelta s files upto place
Came upto files (Set s) (Err SettingsDamaged) = ⊥
Came upto files (Set s) (Err (Timeline name)) = ⊥
Came upto files (Set s) (Err NotInit) = ⊥
Came upto files (Set s) (Err Failed) = ⊥
Came upto files (Set s) (Err NoMemory) = ⊥

settled_of : (w : WalFault) → (w ≡ wal.Failed → ⊥) → (w ≡ wal.NoMemory → ⊥) → IsOfWal w
settled_of w a b = (a, b)

came : (upto : Option Lsn) (files : Files) (before now : ℕ) (a : Result (StoreSettings × ReadWal) RecoveryFault) → WalAnswer upto (Some files) before now a → IfErr a IsOfFiles → (o : Outcome) × Came upto files o a
came upto files before now (Ok x) answer own = (Set x.0, (answer.0.given, (refl, answer.1)))
came upto files before now (Err (Damaged mib damage)) answer own = (Set answer.0, (answer.1.0, (answer.1.1.0, answer.1.1.1)))
came upto files before now (Err (Short end target)) answer own = (Set answer.0, (answer.1.0, (answer.1.1.0, answer.1.1.1)))
came upto files before now (Err (BadDelta place)) answer own = (Set answer.0, (answer.1.0, answer.1.1))
came upto files before now (Err SettingsDamaged) answer own = (Unset wal.SettingsDamaged, (answer, (settled_of wal.SettingsDamaged (λ e. absurd cc) (λ e. absurd cc), refl)))
came upto files before now (Err (Timeline name)) answer own = (Unset (wal.Timeline name), (answer, (settled_of (wal.Timeline name) (λ e. absurd cc) (λ e. absurd cc), refl)))
came upto files before now (Err NotInit) answer own = (Unset wal.NotInit, (answer, (settled_of wal.NotInit (λ e. absurd cc) (λ e. absurd cc), refl)))
came upto files before now (Err Failed) answer own = absurd (own.0 refl)
came upto files before now (Err NoMemory) answer own = absurd (own.1 refl)

-- what comes of settings has them
settings_in : (upto : Option Lsn) (files : Files) (s : StoreSettings) (a : Result (StoreSettings × ReadWal) RecoveryFault) → Came upto files (Set s) a → IsSettingsOf files s
settings_in upto files s (Ok x) c = c.0
settings_in upto files s (Err (Damaged mib damage)) c = c.0
settings_in upto files s (Err (Short end target)) c = c.0
settings_in upto files s (Err (BadDelta place)) c = c.0
settings_in upto files s (Err SettingsDamaged) c = absurd c
settings_in upto files s (Err (Timeline name)) c = absurd c
settings_in upto files s (Err NotInit) c = absurd c
settings_in upto files s (Err Failed) c = absurd c
settings_in upto files s (Err NoMemory) c = absurd c

answer_of : StoreSettings → ReadWal → Result (StoreSettings × ReadWal) RecoveryFault
answer_of settings read = Ok (settings, read)

damage_in : ℕ → Damage → Result (StoreSettings × ReadWal) RecoveryFault
damage_in mib damage = Err (Damaged mib damage)

short_of : Lsn → Lsn → Result (StoreSettings × ReadWal) RecoveryFault
short_of end target = Err (Short end target)

bad_at : Lsn → Result (StoreSettings × ReadWal) RecoveryFault
bad_at place = Err (BadDelta place)

both_set : (upto : Option Lsn) (files : Files) (s : StoreSettings) (a b : Result (StoreSettings × ReadWal) RecoveryFault) → Came upto files (Set s) a → Came upto files (Set s) b → a ≡ b
unfolding answer_of damage_in short_of bad_at
both_set upto files s (Err SettingsDamaged) b p q = absurd p
both_set upto files s (Err (Timeline name)) b p q = absurd p
both_set upto files s (Err NotInit) b p q = absurd p
both_set upto files s (Err Failed) b p q = absurd p
both_set upto files s (Err NoMemory) b p q = absurd p
both_set upto files s a (Err SettingsDamaged) p q = absurd q
both_set upto files s a (Err (Timeline name)) p q = absurd q
both_set upto files s a (Err NotInit) p q = absurd q
both_set upto files s a (Err Failed) p q = absurd q
both_set upto files s a (Err NoMemory) p q = absurd q
both_set upto files s (Ok x) (Ok y) p q =
    ap (λ (t : StoreSettings). answer_of t x.1) (p.1.0 ∙ sym q.1.0) ∙ ap (answer_of y.0) (one_read s files upto x.1 y.1 p.1.1 q.1.1)
both_set upto files s (Ok x) (Err (Damaged mib damage)) p q = absurd (ends_or_damaged s files upto p.1.1.entries x.1.tip damage p.1.1.archive q.1.1)
both_set upto files s (Ok x) (Err (Short end target)) p q = absurd (short_or_reached s files upto end target p.1.1.entries x.1.tip q.1.0 q.1.1 p.1.1.archive p.1.1.reached)
both_set upto files s (Ok x) (Err (BadDelta place)) p q = absurd (read_or_bad s files upto x.1 place p.1.1 q.1)
both_set upto files s (Err (Damaged mib damage)) (Ok y) p q = absurd (ends_or_damaged s files upto q.1.1.entries y.1.tip damage q.1.1.archive p.1.1)
both_set upto files s (Err (Damaged mib damage)) (Err (Damaged nib other)) p q =
    ap (λ (n : ℕ). damage_in n damage) (p.1.0 ∙ sym q.1.0) ∙ ap (damage_in nib) (one_damage s files upto damage other p.1.1 q.1.1)
both_set upto files s (Err (Damaged mib damage)) (Err (Short end target)) p q = absurd (short_or_damaged s files upto end target damage q.1.0 q.1.1 p.1.1)
both_set upto files s (Err (Damaged mib damage)) (Err (BadDelta place)) p q = absurd (ends_or_damaged s files upto q.1.entries q.1.last damage q.1.read p.1.1)
both_set upto files s (Err (Short end target)) (Ok y) p q = absurd (short_or_reached s files upto end target q.1.1.entries y.1.tip p.1.0 p.1.1 q.1.1.archive q.1.1.reached)
both_set upto files s (Err (Short end target)) (Err (Damaged mib damage)) p q = absurd (short_or_damaged s files upto end target damage p.1.0 p.1.1 q.1.1)
both_set upto files s (Err (Short end target)) (Err (Short other aim)) p q =
    let same : target ≡ aim = targets_are target aim upto p.1.0 q.1.0 in
    ap (short_of end) same ∙ ap (λ (x : Lsn). short_of x aim) (one_short s files end other aim (subst (λ (x : Lsn). EndsBefore s files end x) same p.1.1) q.1.1)
both_set upto files s (Err (Short end target)) (Err (BadDelta place)) p q = absurd (short_or_reached s files upto end target q.1.entries q.1.last p.1.0 p.1.1 q.1.read q.1.reached)
both_set upto files s (Err (BadDelta place)) (Ok y) p q = absurd (read_or_bad s files upto y.1 place q.1.1 p.1)
both_set upto files s (Err (BadDelta place)) (Err (Damaged mib damage)) p q = absurd (ends_or_damaged s files upto p.1.entries p.1.last damage p.1.read q.1.1)
both_set upto files s (Err (BadDelta place)) (Err (Short end target)) p q = absurd (short_or_reached s files upto end target p.1.entries p.1.last q.1.0 q.1.1 p.1.read p.1.reached)
both_set upto files s (Err (BadDelta place)) (Err (BadDelta other)) p q = ap bad_at (one_bad s files upto place other p.1 q.1)

both_came : (upto : Option Lsn) (files : Files) (o q : Outcome) (a b : Result (StoreSettings × ReadWal) RecoveryFault) → Came upto files o a → Came upto files q b → a ≡ b
both_came upto files (Unset w) (Unset v) a b p q = p.1.1 ∙ (ap (λ (x : WalFault). refused_by x) (one_refusal files w v p.1.0 q.1.0 p.0 q.0) ∙ sym q.1.1)
both_came upto files (Unset w) (Set t) a b p q = absurd (settings_or_refused files t w p.1.0 (settings_in upto files t b q) p.0)
both_came upto files (Set s) (Unset v) a b p q = absurd (settings_or_refused files s v q.1.0 (settings_in upto files s a p) q.0)
both_came upto files (Set s) (Set t) a b p q =
    both_set upto files t a b (subst (λ (u : StoreSettings). Came upto files (Set u) a) (one_settings files s t (settings_in upto files s a p) (settings_in upto files t b q)) p) q

pub one_wal : HasOneWal
one_wal upto files before now start end a b first second own other =
    let p = came upto files before now a first own in
    let q = came upto files start end b second other in
    both_came upto files p.0 q.0 a b p.1 q.1
