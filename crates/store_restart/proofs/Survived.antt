-- What a loop over a cursor keeps of the survivors that it read, and what its answers come to.
use Rattle.std.proofs.Common.{◌≡◌, ℕ, zero, suc, ◌<◌, ◌≤◌, ◌⊎◌, inl, inr, Bool, true, false, true≢false, cond, ◌||◌, List, [], ◌∷◌, ◌++◌, Option, Some, None, Result, Ok, Err, IfSome, refl, sym, ap, subst, ◌∙◌, arith, eq-eqb, eqb-true}
use Rattle.std.specs.Prelude.{◌==◌}
use Rattle.std.proofs.lemmas.Bool.{or_parts}
use Rattle.std.proofs.lemmas.List.Folds.{list_any-append}
use Rattle.lsn_core.specs.Causes.{Rose}
use Rattle.lsn_core.specs.Files.{Files}
use Rattle.lsn_core.specs.Segment.{StoreSettings, IsSegmentMib}
use Rattle.lsn_core.specs.Tip.{Tip}
use Rattle.lsn_core.specs.declared.lsn.Lsn.{Lsn}
use Rattle.vault.specs.Frame.{OnlyReads}
use Rattle.vault.specs.declared.area.Vault.{Ghosts}
use Rattle.wal_record.specs.declared.record.Record.{Record}
use Rattle.wal_record.specs.Decoding.{record_at}
use Rattle.wal_record.specs.Tips.{first_tip, tip_after, wal_limit, is_redo_mark}
use Rattle.wal_archive.specs.declared.fault.Damage.{Damage}
use Rattle.wal_archive.specs.Archive.{archive_of}
use Rattle.wal_archive.specs.Rules.{Found, End, Gives, Bad}
use Rattle.wal_archive.proofs.Chain.{walks_on}
use Rattle.wal_reader.specs.declared.fault.WalFault.{WalFault}
use Rattle.wal_reader.specs.declared.fault.WalFault.TheVariants.{Damaged, SettingsDamaged, Timeline, NotInit, Failed, NoMemory}
use Rattle.wal_reader.specs.Causes.{CauseOf}
use Rattle.wal_reader.specs.Cursor.{Cursor, at_start, step_causes, StepAnswer, cursor_after, NextAnswer, Steps}
use Rattle.wal_reader.specs.Wal.{stands_behind, ReadsOn}
use Rattle.wal_reader.proofs.Reached.{first_reached}
use Rattle.store_restart.specs.declared.survivors.Named.{Named}
use Rattle.store_restart.specs.Survivors.{named_by, later_named, last_named, has_start, if_started, cuts_off, IsCutOff, IsSpoilt, survivor_causes}
use Rattle.store_restart.specs.Inside.{survivor_of, StepsOn, naming, named_after}

pub by_test : {P : Type 0} (t : Bool) → (t ≡ true → P) → (t ≡ false → P) → P
by_test true yeah nope = yeah refl
by_test false yeah nope = nope refl

-- ---- a step

abbrev pub Step : Type 0
Step = Result (Option Record) WalFault

-- what damage comes to, where the archive is cut off there or not
abbrev off_answer : Damage → Bool → Step
off_answer d b = cond b (Ok None) (Err (Damaged d))

ok_err : (x : Option Record) (f : WalFault) {P : Type 0} → ◌≡◌ {A = Step} (Ok x) (Err f) → P
ok_err x f e = absurd cc

-- the answer is an entry only where the cursor gave it
some_is : (tip : Tip) (x : Step) (r : Record) → ◌≡◌ {A = Step} (Ok (Some r)) (survivor_of tip x) → x ≡ Ok (Some r)
some_is tip (Ok y) r e = cc
some_is tip (Err (Damaged d)) r e =
    by_test (cuts_off tip d)
    (λ k. absurd (let s : ◌≡◌ {A = Step} (Ok (Some r)) (Ok None) = e ∙ ap (off_answer d) k in cc))
    (λ k. ok_err (Some r) (Damaged d) (e ∙ ap (off_answer d) k))
some_is tip (Err SettingsDamaged) r e = absurd cc
some_is tip (Err (Timeline name)) r e = absurd cc
some_is tip (Err NotInit) r e = absurd cc
some_is tip (Err Failed) r e = absurd cc
some_is tip (Err NoMemory) r e = absurd cc

-- none follows where the archive ends or is cut off
abbrev EndsAt : Tip → Step → Type 0
EndsAt tip x = (x ≡ Ok None) ⊎ ((d : Damage) × ((x ≡ Err (Damaged d)) × (cuts_off tip d ≡ true)))

none_is : (tip : Tip) (x : Step) → ◌≡◌ {A = Step} (Ok None) (survivor_of tip x) → EndsAt tip x
none_is tip (Ok y) e = inl (sym e)
none_is tip (Err (Damaged d)) e =
    by_test (cuts_off tip d) (λ k. inr (d, (refl, k)))
    (λ k. ok_err None (Damaged d) (e ∙ ap (off_answer d) k))
none_is tip (Err SettingsDamaged) e = absurd cc
none_is tip (Err (Timeline name)) e = absurd cc
none_is tip (Err NotInit) e = absurd cc
none_is tip (Err Failed) e = absurd cc
none_is tip (Err NoMemory) e = absurd cc

-- a fault is the cursor's, and where it is damage the archive isn't cut off
abbrev IsFaultAt : Tip → Step → WalFault → Type 0
IsFaultAt tip x f = (x ≡ Err f) × ((d : Damage) → f ≡ Damaged d → cuts_off tip d ≡ false)

one_damage : (f : WalFault) (d e : Damage) → ◌≡◌ {A = Step} (Err f) (Err (Damaged d)) → f ≡ Damaged e → d ≡ e
one_damage f d e is same = cc

fault_is : (tip : Tip) (x : Step) (f : WalFault) → ◌≡◌ {A = Step} (Err f) (survivor_of tip x) → IsFaultAt tip x f
fault_is tip (Ok y) f e = ok_err y f (sym e)
fault_is tip (Err (Damaged d)) f e =
    by_test (cuts_off tip d)
    (λ k. ok_err None f (sym (e ∙ ap (off_answer d) k)))
    (λ k.
    let is : ◌≡◌ {A = Step} (Err f) (Err (Damaged d)) = e ∙ ap (off_answer d) k in
    (sym is, λ other same. subst (λ (x : Damage). cuts_off tip x ≡ false) (one_damage f d other is same) k))
fault_is tip (Err SettingsDamaged) f e = (sym e, λ d same. absurd cc)
fault_is tip (Err (Timeline name)) f e = (sym e, λ d same. absurd cc)
fault_is tip (Err NotInit) f e = (sym e, λ d same. absurd cc)
fault_is tip (Err Failed) f e = (sym e, λ d same. absurd cc)
fault_is tip (Err NoMemory) f e = (sym e, λ d same. absurd cc)

-- an answer of a cursor that had met no fault and isn't set at a place
answered : (s : StoreSettings) (c new : Cursor) (files : Option Files) (before now : ℕ) (result : Step) → c.fault ≡ None → c.settings ≡ s → c.set ≡ false → NextAnswer c.fault c new files before now result
    → (new ≡ cursor_after c result) × StepAnswer s false c.tip files before now result
answered s c new files before now result fresh settings is answer =
    let a : NextAnswer None c new files before now result = subst (λ (f : Option WalFault). NextAnswer f c new files before now result) fresh answer in
    (a.0, subst (λ (b : Bool). StepAnswer s b c.tip files before now result) is (subst (λ (t : StoreSettings). StepAnswer t c.set c.tip files before now result) settings a.1))

rose_earlier : (before now later : ℕ) → before ≤ now → Rose now later → Rose before later
rose_earlier before now later le rose = omega (arith, le, rose)

one_found : (found : Found) (r : Record) → found ≡ End → found ≡ Gives r → ⊥
one_found found r e f = absurd cc

bad_given : (found : Found) (r : Record) (d : Damage) → found ≡ Bad d → found ≡ Gives r → ⊥
bad_given found r d e f = absurd cc

bad_ended : (found : Found) (d : Damage) {P : Type 0} → found ≡ End → found ≡ Bad d → P
bad_ended found d e f = absurd cc

bad_one : (found : Found) (d e : Damage) → found ≡ Bad d → found ≡ Bad e → d ≡ e
bad_one found d e f h = cc

-- ---- starts

or_right : (a : Bool) → (a || true) ≡ true
or_right true = refl
or_right false = refl

or_left : (a b : Bool) → a ≡ true → (a || b) ≡ true
or_left a b e = ap (λ (c : Bool). c || b) e

pub started_last : (rs : List Record) (r : Record) → has_start (rs ++ (r ∷ [])) r.start.0 ≡ true
started_last rs r =
    list_any-append (λ (x : Record). x.start.0 == r.start.0) rs (r ∷ [])
    ∙ ap (λ (b : Bool). has_start rs r.start.0 || (b || false)) (eq-eqb r.start.0 r.start.0 refl) ∙ or_right (has_start rs r.start.0)

pub started_more : (rs : List Record) (r : Record) (place : ℕ) → has_start rs place ≡ true → has_start (rs ++ (r ∷ [])) place ≡ true
started_more rs r place e = list_any-append (λ (x : Record). x.start.0 == place) rs (r ∷ []) ∙ or_left (has_start rs place) (has_start (r ∷ []) place) e

or_none : (a : Bool) → (a || false) ≡ a
or_none true = refl
or_none false = refl

-- whether one starts at a place, with one entry more: one did before, or that one does
pub start_before : (there now : Bool) (rs : List Record) (r : Record) (place : ℕ) → there ≡ has_start rs place → there ≡ true → now ≡ true → now ≡ has_start (rs ++ (r ∷ [])) place
start_before there now rs r place is was e = e ∙ sym (started_more rs r place (sym is ∙ was))

pub start_here : (there now : Bool) (rs : List Record) (r : Record) (place : ℕ) → there ≡ has_start rs place → there ≡ false → now ≡ (r.start.0 == place) → now ≡ has_start (rs ++ (r ∷ [])) place
start_here there now rs r place is was e =
    e ∙ sym (list_any-append (λ (x : Record). x.start.0 == place) rs (r ∷ []) ∙ ap (λ (b : Bool). b || ((r.start.0 == place) || false)) (sym is ∙ was) ∙ or_none (r.start.0 == place))

-- the latest redo point is the start of an entry, where there is one
abbrev pub IsRedoStart : Tip → List Record → Type 0
IsRedoStart tip rs = 0 < tip.count → has_start rs tip.redo ≡ true

some_of : (n : ℕ) → (n == 0) ≡ false → 0 < n
some_of zero e = absurd (true≢false e)
some_of (suc n) e = omega arith

pub redo_on : (tip : Tip) (rs : List Record) (r : Record) → IsRedoStart tip rs → has_start (rs ++ (r ∷ [])) (tip_after tip r).redo ≡ true
redo_on tip rs r marked =
    by_test ((tip.count == 0) || is_redo_mark r.kind)
    (λ k. subst (λ (p : ℕ). has_start (rs ++ (r ∷ [])) p ≡ true) (sym (ap (λ (b : Bool). cond b r.start.0 tip.redo) k)) (started_last rs r))
    (λ k. subst (λ (p : ℕ). has_start (rs ++ (r ∷ [])) p ≡ true) (sym (ap (λ (b : Bool). cond b r.start.0 tip.redo) k)) (started_more rs r tip.redo (marked (some_of tip.count (or_parts (tip.count == 0) (is_redo_mark r.kind) k).0))))

-- ---- names

last_push : (found : Option Lsn) (rs : List Record) (r : Record) → last_named found (rs ++ (r ∷ [])) ≡ later_named (last_named found rs) (named_by r.kind)
last_push found [] r = refl
last_push found (q ∷ rs) r = last_push (later_named found (named_by q.kind)) rs r

if_more : (rs : List Record) (r : Record) (place : Option Lsn) → if_started rs place ≡ place → if_started (rs ++ (r ∷ [])) place ≡ place
if_more rs r None e = refl
if_more rs r (Some place) e =
    by_test (has_start rs place.0)
    (λ k. ap (λ (b : Bool). cond b (Some place) None) (started_more rs r place.0 k))
    (λ k. absurd (let none : ◌≡◌ {A = Option Lsn} None (Some place) = sym (ap (λ (b : Bool). cond b (Some place) None) k) ∙ e in cc))

-- the redo point that the last checkpoint of some entries names; it was seen only where one starts
-- there
pub record IsNamedBy (rs : List Record) (named : Named) : Type 0 where
  pub place : named.place ≡ last_named None rs
  pub seen : named.seen ≡ true → if_started rs named.place ≡ named.place

or_cases : (a b : Bool) {P : Type 0} → (a || b) ≡ true → (a ≡ true → P) → (b ≡ true → P) → P
or_cases true b e first second = first refl
or_cases false b e first second = second e

naming_kept : (rs : List Record) (r : Record) (redo : ℕ) (named : Named) (o : Option Lsn) → o ≡ named_by r.kind → has_start (rs ++ (r ∷ [])) redo ≡ true → IsNamedBy rs named → IsNamedBy (rs ++ (r ∷ [])) (naming named r redo o)
naming_kept rs r redo named None is start kept = record {
  place = kept.place ∙ sym (last_push None rs r ∙ ap (later_named (last_named None rs)) (sym is));
  seen = λ e. if_more rs r named.place (kept.seen e);
}
naming_kept rs r redo named (Some place) is start kept = record {
  place = sym (last_push None rs r ∙ ap (later_named (last_named None rs)) (sym is));
  seen = λ e. ap (λ (b : Bool). cond b (Some place) None)
      (or_cases (place.0 == r.start.0) (place.0 == redo) e
      (λ k. subst (λ (p : ℕ). has_start (rs ++ (r ∷ [])) p ≡ true) (sym (eqb-true place.0 r.start.0 k)) (started_last rs r))
      (λ k. subst (λ (p : ℕ). has_start (rs ++ (r ∷ [])) p ≡ true) (sym (eqb-true place.0 redo k)) start));
}

pub named_on : (rs : List Record) (r : Record) (redo : ℕ) (named : Named) → has_start (rs ++ (r ∷ [])) redo ≡ true → IsNamedBy rs named → IsNamedBy (rs ++ (r ∷ [])) (named_after named r redo)
named_on rs r redo named = naming_kept rs r redo named (named_by r.kind) refl

pub none_named : (seen : Bool) → IsNamedBy [] (record { place = None; seen = seen })
none_named seen = record { place = refl; seen = λ e. refl }

-- ---- the loop

module _ {V : Type 0} (g : Ghosts V) (s : StoreSettings) (old : V) where
  -- the area was only read, and the cursor gave these entries
  pub record HasSurvived (now : V) (cursor : Cursor) (rs : List Record) : Type 0 where
    pub fresh : cursor.fault ≡ None
    pub settings : cursor.settings ≡ s
    pub set : cursor.set ≡ false
    pub reads : OnlyReads g old now
    pub walk : IfSome (g.files old) (λ m. ReadsOn s m (first_tip s.segment) rs cursor.tip)
    pub marked : IsRedoStart cursor.tip rs
    pub within : cursor.tip.end ≤ wal_limit s.segment

  told_none : (m : Option Files) → IfSome m (λ files. ReadsOn s files (first_tip s.segment) [] (first_tip s.segment))
  told_none None = tt
  told_none (Some m) = refl

  pub none_survived : (c : Cursor) → IsSegmentMib s.segment → c ≡ at_start s → HasSurvived old c []
  none_survived c mib start = subst (λ (x : Cursor). HasSurvived old x []) (sym start) (record {
    fresh = refl;
    settings = refl;
    set = refl;
    reads = record { files = refl; past = refl; faults = omega arith };
    walk = told_none (g.files old);
    marked = λ some. absurd (omega (arith, some));
    within = (first_reached s.segment mib).within.most;
  })

  step_kept : (now later : V) (c new : Cursor) (rs : List Record) (result : Step) → HasSurvived now c rs → Steps g c new now later result
      → (new ≡ cursor_after c result) × StepAnswer s false c.tip (g.files old) (g.faults now) (g.faults later) result
  step_kept now later c new rs result kept answer =
      let a = answered s c new (g.files now) (g.faults now) (g.faults later) result kept.fresh kept.settings kept.set answer in
      (a.0, subst (λ (f : Option Files). StepAnswer s false c.tip f (g.faults now) (g.faults later) result) kept.reads.files a.1)

  pub both_read : (now later : V) → OnlyReads g old now → OnlyReads g now later → OnlyReads g old later
  both_read now later first second = record { files = second.files ∙ first.files; past = second.past ∙ first.past; faults = omega (arith, first.faults, second.faults) }

  -- an entry that was given
  given_of : (now later : V) (c new : Cursor) (rs : List Record) (r : Record) → HasSurvived now c rs → StepsOn g c new now later (Ok (Some r))
      → (new ≡ cursor_after c (Ok (Some r))) × StepAnswer s false c.tip (g.files old) (g.faults now) (g.faults later) (Ok (Some r))
  given_of now later c new rs r kept answer =
      step_kept now later c new rs (Ok (Some r)) kept (subst (Steps g c new now later) (some_is c.tip answer.0 r answer.1.1) answer.1.0)

  pub given_later : (now later : V) (c new : Cursor) (rs : List Record) (r : Record) → HasSurvived now c rs → StepsOn g c new now later (Ok (Some r)) → (c.tip.end < new.tip.end) × (new.tip ≡ tip_after c.tip r)
  given_later now later c new rs r kept answer =
      let a = given_of now later c new rs r kept answer in
      let is : new.tip ≡ tip_after c.tip r = ap (λ (x : Cursor). x.tip) a.0 in
      (subst (λ (t : Tip). c.tip.end < t.end) (sym is) a.1.0.later, is)

  one_more : (m : Option Files) (tip : Tip) (rs : List Record) (r : Record) → IfSome m (λ files. ReadsOn s files (first_tip s.segment) rs tip) → IfSome m (λ files. stands_behind s files tip ≡ Gives r) → IfSome m (λ files. ReadsOn s files (first_tip s.segment) (rs ++ (r ∷ [])) (tip_after tip r))
  one_more None tip rs r walk given = tt
  one_more (Some m) tip rs r walk given = walks_on record_at s.segment s.system (archive_of s.segment m) (first_tip s.segment) rs (r ∷ []) tip (tip_after tip r) walk (given, refl)

  pub one_survived : (now later : V) (c new : Cursor) (rs : List Record) (r : Record) → HasSurvived now c rs → StepsOn g c new now later (Ok (Some r)) → OnlyReads g now later → HasSurvived later new (rs ++ (r ∷ []))
  one_survived now later c new rs r kept answer reads =
      let a = given_of now later c new rs r kept answer in
      subst (λ (x : Cursor). HasSurvived later x (rs ++ (r ∷ []))) (sym a.0) (record {
        fresh = kept.fresh;
        settings = kept.settings;
        set = refl;
        reads = both_read now later kept.reads reads;
        walk = one_more (g.files old) c.tip rs r kept.walk a.1.1;
        marked = λ some. redo_on c.tip rs r kept.marked;
        within = a.1.0.reached.within.most;
      })

  pub redo_is : (now later : V) (c new : Cursor) (rs : List Record) (r : Record) → HasSurvived now c rs → StepsOn g c new now later (Ok (Some r)) → has_start (rs ++ (r ∷ [])) new.tip.redo ≡ true
  redo_is now later c new rs r kept answer =
      subst (λ (t : Tip). has_start (rs ++ (r ∷ [])) t.redo ≡ true) (sym (given_later now later c new rs r kept answer).1) (redo_on c.tip rs r kept.marked)

  pub named_later : (now later : V) (c new : Cursor) (rs : List Record) (r : Record) (redo : ℕ) (named after : Named) → HasSurvived now c rs → StepsOn g c new now later (Ok (Some r)) → IsNamedBy rs named → redo ≡ new.tip.redo → after ≡ named_after named r redo → IsNamedBy (rs ++ (r ∷ [])) after
  named_later now later c new rs r redo named after kept answer by is same =
      subst (λ (n : Named). IsNamedBy (rs ++ (r ∷ [])) n) (sym same)
      (named_on rs r redo named (subst (λ (p : ℕ). has_start (rs ++ (r ∷ [])) p ≡ true) (sym is) (redo_is now later c new rs r kept answer)) by)

  -- ---- the end

  ended_off : (m : Files) (rs : List Record) (tip : Tip) → ReadsOn s m (first_tip s.segment) rs tip → stands_behind s m tip ≡ End → IsCutOff s m rs tip
  ended_off m rs tip walk ended = record {
    survive = record { walk = walk; stopped = λ r given. one_found (stands_behind s m tip) r ended given };
    cut = λ d bad. bad_ended (stands_behind s m tip) d ended bad;
  }

  broken_off : (m : Files) (rs : List Record) (tip : Tip) (d : Damage) → ReadsOn s m (first_tip s.segment) rs tip → stands_behind s m tip ≡ Bad d → cuts_off tip d ≡ true → IsCutOff s m rs tip
  broken_off m rs tip d walk broken off = record {
    survive = record { walk = walk; stopped = λ r given. bad_given (stands_behind s m tip) r d broken given };
    cut = λ e bad. subst (λ (x : Damage). cuts_off tip x ≡ true) (bad_one (stands_behind s m tip) d e broken bad) off;
  }

  both_told : (m : Option Files) (P Q R : Files → Type 0) → IfSome m P → IfSome m Q → ((x : Files) → P x → Q x → R x) → IfSome m R
  both_told None P Q R a b f = tt
  both_told (Some m) P Q R a b f = f m a b

  all_of : (now later : V) (c new : Cursor) (rs : List Record) (x : Step) → HasSurvived now c rs → Steps g c new now later x → EndsAt c.tip x
      → (new.tip ≡ c.tip) × IfSome (g.files old) (λ m. IsCutOff s m rs c.tip)
  all_of now later c new rs x kept steps (inl none) =
      let a = step_kept now later c new rs (Ok None) kept (subst (Steps g c new now later) none steps) in
      (ap (λ (y : Cursor). y.tip) a.0, both_told (g.files old) (λ m. ReadsOn s m (first_tip s.segment) rs c.tip) (λ m. stands_behind s m c.tip ≡ End) (λ m. IsCutOff s m rs c.tip) kept.walk a.1 (λ m walk ended. ended_off m rs c.tip walk ended))
  all_of now later c new rs x kept steps (inr off) =
      let a = step_kept now later c new rs (Err (Damaged off.0)) kept (subst (Steps g c new now later) off.1.0 steps) in
      (ap (λ (y : Cursor). y.tip) a.0, both_told (g.files old) (λ m. ReadsOn s m (first_tip s.segment) rs c.tip) (λ m. stands_behind s m c.tip ≡ Bad off.0) (λ m. IsCutOff s m rs c.tip) kept.walk a.1 (λ m walk broken. broken_off m rs c.tip off.0 walk broken off.1.1))

  -- none follows: all survivors were read, up to where the cursor stands
  pub all_survived : (now later : V) (c new : Cursor) (rs : List Record) → HasSurvived now c rs → StepsOn g c new now later (Ok None)
      → IfSome (g.files old) (λ m. IsCutOff s m rs new.tip)
  all_survived now later c new rs kept answer =
      let a = all_of now later c new rs answer.0 kept answer.1.0 (none_is c.tip answer.0 answer.1.1) in
      subst (λ (t : Tip). IfSome (g.files old) (λ m. IsCutOff s m rs t)) (sym a.0) a.1

  -- ---- a fault

  spoilt : (m : Files) (rs : List Record) (tip : Tip) (d : Damage) → ReadsOn s m (first_tip s.segment) rs tip → stands_behind s m tip ≡ Bad d → cuts_off tip d ≡ false → IsSpoilt s d m
  spoilt m rs tip d walk broken off = record { records = rs; tip = tip; walk = walk; broken = broken; here = off }

  refused : (now later : V) (c : Cursor) (rs : List Record) (f : WalFault) → HasSurvived now c rs → ((d : Damage) → f ≡ Damaged d → cuts_off c.tip d ≡ false)
      → CauseOf (step_causes s false c.tip (g.files old)) (g.faults now) (g.faults later) f → CauseOf (survivor_causes s (g.files old)) (g.faults old) (g.faults later) f
  refused now later c rs (Damaged d) kept off cause =
      both_told (g.files old) (λ m. ReadsOn s m (first_tip s.segment) rs c.tip) (λ m. stands_behind s m c.tip ≡ Bad d) (IsSpoilt s d) kept.walk cause (λ m walk broken. spoilt m rs c.tip d walk broken (off d refl))
  refused now later c rs SettingsDamaged kept off cause = absurd cause
  refused now later c rs (Timeline name) kept off cause = absurd cause
  refused now later c rs NotInit kept off cause = absurd cause
  refused now later c rs Failed kept off cause = rose_earlier (g.faults old) (g.faults now) (g.faults later) kept.reads.faults cause
  refused now later c rs NoMemory kept off cause = tt

  pub fault_read : (now later : V) (c new : Cursor) (rs : List Record) (f : WalFault) → HasSurvived now c rs → StepsOn g c new now later (Err f)
      → CauseOf (survivor_causes s (g.files old)) (g.faults old) (g.faults later) f
  fault_read now later c new rs f kept answer =
      let is = fault_is c.tip answer.0 f answer.1.1 in
      refused now later c rs f kept is.1 (step_kept now later c new rs (Err f) kept (subst (Steps g c new now later) is.0 answer.1.0)).1

  -- a fault of a call behind others that only read
  pub fault_later : (now later : V) (f : WalFault) → OnlyReads g old now → CauseOf (survivor_causes s (g.files now)) (g.faults now) (g.faults later) f → CauseOf (survivor_causes s (g.files old)) (g.faults old) (g.faults later) f
  fault_later now later (Damaged d) reads cause = subst (λ (m : Option Files). IfSome m (IsSpoilt s d)) reads.files cause
  fault_later now later SettingsDamaged reads cause = absurd cause
  fault_later now later (Timeline name) reads cause = absurd cause
  fault_later now later NotInit reads cause = absurd cause
  fault_later now later Failed reads cause = rose_earlier (g.faults old) (g.faults now) (g.faults later) reads.faults cause
  fault_later now later NoMemory reads cause = tt
