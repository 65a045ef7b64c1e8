-- The entries of a WAL read so far, and what they make.
use Rattle.std.proofs.Common.{◌≡◌, ℕ, ◌<◌, ◌≤◌, ◌^◌, inl, inr, Bool, true, false, cond, List, [], ◌∷◌, ◌++◌, Option, Some, None, IfSome, map, get_or, unwrap_or, refl, sym, ap, subst, ◌∙◌, arith}
use Rattle.std.specs.Prelude.{nat_le}
use Rattle.std.specs.FinMap.{empty, get-empty}
use Rattle.std.proofs.lemmas.List.{map-append, append-nil, append_assoc}
use Rattle.std.proofs.lemmas.Bool.{le-leb, lt-leb, cases_lt}
use Rattle.lsn_core.specs.byte_words.Numbers.{◌>>=◌}
use Rattle.lsn_core.proofs.byte_words.Fields.{bind_some}
use Rattle.lsn_core.specs.byte_words.Told.{when_both_told, when_told}
use Rattle.lsn_core.specs.Files.{Files}
use Rattle.lsn_core.specs.Segment.{StoreSettings}
use Rattle.lsn_core.specs.Store.{Store, ForkPages, fork_cmp}
use Rattle.lsn_core.specs.Tip.{Tip}
use Rattle.lsn_core.specs.declared.lsn.Lsn.{Lsn}
use Rattle.pg_page.specs.Header.{lsn_of, zero_page}
use Rattle.wal_record.specs.declared.record.Record.{Record}
use Rattle.wal_record.specs.Tips.{tip_after, tip_behind}
use Rattle.wal_record.proofs.Tips.{tip_behind-append}
use Rattle.wal_archive.specs.declared.fault.Damage.{Damage}
use Rattle.wal_archive.specs.Rules.{Found, End, Gives, Bad}
use Rattle.history.specs.Entry.{Entry}
use Rattle.history.specs.Apply.{apply, apply_all}
use Rattle.history.specs.Redo.{redo, redo_all, AreBelow, AreRising}
use Rattle.history.specs.Whole.{entry_of}
use Rattle.history.proofs.RedoLaws.{tests_change_nothing}
use Rattle.history.proofs.Stores.{lsn_of-zero_page}
use Rattle.recovery.specs.declared.reading.Beginning.{Beginning}
use Rattle.recovery.specs.Onward.{begin_tip, is_at_place, is_set_behind, found_on, ReadsOn, IsReadFrom, replayed_to, ending_by, AllEndBy, end_from, StandsWithin, IsReadFromTo, HasDamageFrom, EndsEarlyFrom}
use Rattle.recovery.specs.Replay.{bad_behind, first_bad}
use Rattle.recovery.specs.Recovered.{first_bad_redo}
use Rattle.recovery.specs.Causes.{IsShortFrom}
use Rattle.recovery.specs.Inside.{IsTaken}
use Rattle.recovery.proofs.Redoing.{redo_all-push}

-- ---- entries in turn

then_some : {A : Type 0} (o : Option A) (x : A) → o ≡ Some x → (o >>= λ y. Some y) ≡ Some x
then_some o x e = rw e refl

apply_all-push : (store : Store) (es : List Entry) (next : Store) (e : Entry) (last : Store) → apply_all store es ≡ Some next → apply next e ≡ Some last → apply_all store (es ++ (e ∷ [])) ≡ Some last
apply_all-push store [] next e last applied step =
    let same : store ≡ next = cc in
    then_some (apply store e) last (rw same step)
apply_all-push store (f ∷ es) next e last applied step =
    let b = bind_some (apply store f) (λ s. apply_all s es) next applied in
    ap (λ (o : Option Store). o >>= λ s. apply_all s (es ++ (e ∷ []))) b.1 ∙ apply_all-push b.0 es next e last b.2 step

-- the first entry that can't be applied
bad-here : (store : Store) (es : List Entry) (next : Store) (e : Entry) → apply_all store es ≡ Some next → apply next e ≡ None → first_bad store (es ++ (e ∷ [])) ≡ Some e.start
bad-here store [] next e applied none =
    let same : store ≡ next = cc in
    ap (λ (o : Option Store). bad_behind e.start o (λ s. first_bad s [])) (ap (λ (s : Store). apply s e) same ∙ none)
bad-here store (f ∷ es) next e applied none =
    let b = bind_some (apply store f) (λ s. apply_all s es) next applied in
    ap (λ (o : Option Store). bad_behind f.start o (λ s. first_bad s (es ++ (e ∷ [])))) b.1 ∙ bad-here b.0 es next e b.2 none

bad_more_of : (start place : ℕ) (o : Option Store) (f g : Store → Option ℕ) → ((s : Store) → f s ≡ Some place → g s ≡ Some place) → bad_behind start o f ≡ Some place → bad_behind start o g ≡ Some place
bad_more_of start place None f g step bad = bad
bad_more_of start place (Some s) f g step bad = step s bad

bad-more : (store : Store) (es : List Entry) (e : Entry) (place : ℕ) → first_bad store es ≡ Some place → first_bad store (es ++ (e ∷ [])) ≡ Some place
bad-more store [] e place bad = absurd cc
bad-more store (f ∷ es) e place bad =
    bad_more_of f.start place (apply store f) (λ s. first_bad s es) (λ s. first_bad s (es ++ (e ∷ []))) (λ s b. bad-more s es e place b) bad

good_none : (start place : ℕ) (o : Option Store) (last : Store) (f : Store → Option Store) (g : Store → Option ℕ) → ((s : Store) → f s ≡ Some last → g s ≡ Some place → ⊥) → (o >>= f) ≡ Some last → bad_behind start o g ≡ Some place → ⊥
good_none start place None last f g step applied bad = absurd cc
good_none start place (Some s) last f g step applied bad = step s applied bad

-- entries that can be applied have none
pub good_or_bad : (store : Store) (es : List Entry) (last : Store) (place : ℕ) → apply_all store es ≡ Some last → first_bad store es ≡ Some place → ⊥
good_or_bad store [] last place applied bad = absurd cc
good_or_bad store (f ∷ es) last place applied bad =
    good_none f.start place (apply store f) last (λ s. apply_all s es) (λ s. first_bad s es) (λ s a b. good_or_bad s es last place a b) applied bad

-- ---- the entries that are taken

-- those that end at a target, where one is given, or before it
abbrev pub taken : Option Lsn → List Record → List Record
taken None rs = rs
taken (Some target) rs = ending_by target.0 rs

either_push : (b : Bool) (r q : Record) (xs ys : List Record) → ys ≡ xs ++ (q ∷ []) → cond b (r ∷ ys) ys ≡ cond b (r ∷ xs) xs ++ (q ∷ [])
either_push true r q xs ys same = ap (λ (l : List Record). r ∷ l) same
either_push false r q xs ys same = same

either_same : (b : Bool) (r : Record) (xs ys : List Record) → ys ≡ xs → cond b (r ∷ ys) ys ≡ cond b (r ∷ xs) xs
either_same true r xs ys same = ap (λ (l : List Record). r ∷ l) same
either_same false r xs ys same = same

last_kept : (b : Bool) (r : Record) → b ≡ true → cond b (r ∷ []) [] ≡ (r ∷ [])
last_kept true r e = refl
last_kept false r e = absurd cc

last_dropped : (b : Bool) (r : Record) → b ≡ false → cond b (r ∷ []) [] ≡ []
last_dropped true r e = absurd cc
last_dropped false r e = refl

ending-push : (place : ℕ) (rs : List Record) (r : Record) → r.end.0 ≤ place → ending_by place (rs ++ (r ∷ [])) ≡ ending_by place rs ++ (r ∷ [])
ending-push place [] r le = last_kept (nat_le r.end.0 place) r (le-leb r.end.0 place le)
ending-push place (q ∷ rs) r le = either_push (nat_le q.end.0 place) q r (ending_by place rs) (ending_by place (rs ++ (r ∷ []))) (ending-push place rs r le)

ending-same : (place : ℕ) (rs : List Record) (r : Record) → place < r.end.0 → ending_by place (rs ++ (r ∷ [])) ≡ ending_by place rs
ending-same place [] r lt = last_dropped (nat_le r.end.0 place) r (lt-leb r.end.0 place lt)
ending-same place (q ∷ rs) r lt = either_same (nat_le q.end.0 place) q (ending_by place rs) (ending_by place (rs ++ (r ∷ []))) (ending-same place rs r lt)

pub taken-push : (upto : Option Lsn) (rs : List Record) (r : Record) → IsTaken upto r.end.0 → taken upto (rs ++ (r ∷ [])) ≡ taken upto rs ++ (r ∷ [])
taken-push None rs r le = refl
taken-push (Some target) rs r le = ending-push target.0 rs r le

pub taken-same : (upto : Option Lsn) (rs : List Record) (r : Record) → (IsTaken upto r.end.0 → ⊥) → taken upto (rs ++ (r ∷ [])) ≡ taken upto rs
taken-same None rs r past = absurd (past tt)
taken-same (Some target) rs r past = elim (cases_lt target.0 r.end.0) [
  | inl lt ↦ ending-same target.0 rs r lt
  | inr le ↦ absurd (past le)
]

all_later : (rs : List Record) (place later : ℕ) → place ≤ later → AllEndBy rs place → AllEndBy rs later
all_later [] place later le all = tt
all_later (r ∷ rs) place later le all = (omega (arith, all.0, le), all_later rs place later le all.1)

all_push : (rs : List Record) (r : Record) (place : ℕ) → AllEndBy rs place → r.end.0 ≤ place → AllEndBy (rs ++ (r ∷ [])) place
all_push [] r place all le = (le, tt)
all_push (q ∷ rs) r place all le = (all.0, all_push rs r place all.1 le)

kept : (b : Bool) (r : Record) (xs ys : List Record) → b ≡ true → xs ≡ ys → cond b (r ∷ xs) xs ≡ (r ∷ ys)
kept true r xs ys e same = ap (λ (l : List Record). r ∷ l) same
kept false r xs ys e same = absurd cc

pub all_kept : (rs : List Record) (place : ℕ) → AllEndBy rs place → ending_by place rs ≡ rs
all_kept [] place all = refl
all_kept (r ∷ rs) place all = kept (nat_le r.end.0 place) r (ending_by place rs) rs (le-leb r.end.0 place all.0) (all_kept rs place all.1)

-- at the end these are the entries that end where the replay does, or before
pub taken_is : (upto : Option Lsn) (tip : Tip) (rs : List Record) → AllEndBy rs tip.end → ending_by (replayed_to upto tip) rs ≡ taken upto rs
taken_is None tip rs all = all_kept rs tip.end all
taken_is (Some target) tip rs all = refl

-- ---- a reading that goes on

-- these entries were read up to a tip; they end one behind the other
pub record IsReadSoFar (s : StoreSettings) (begin : Beginning) (upto : Option Lsn) (files : Option Files) (tip : Tip) (entries : List Record) : Type 0 where
  pub passed : IfSome files (λ m. ReadsOn s m upto (is_at_place begin) (begin_tip s.segment begin) entries tip)
  pub tip_is : tip ≡ tip_behind (begin_tip s.segment begin) entries
  pub below : AllEndBy entries tip.end
  pub least : (begin_tip s.segment begin).end ≤ tip.end
  pub rising : AreRising (begin_tip s.segment begin).end entries

told_start : (s : StoreSettings) (begin : Beginning) (upto : Option Lsn) (files : Option Files) → IfSome files (λ m. ReadsOn s m upto (is_at_place begin) (begin_tip s.segment begin) [] (begin_tip s.segment begin))
told_start s begin upto None = tt
told_start s begin upto (Some m) = refl

pub none_read : (s : StoreSettings) (begin : Beginning) (upto : Option Lsn) (files : Option Files) → IsReadSoFar s begin upto files (begin_tip s.segment begin) []
none_read s begin upto files = record {
  passed = told_start s begin upto files;
  tip_is = refl;
  below = tt;
  least = omega arith;
  rising = tt;
}

pub none_taken : (upto : Option Lsn) → taken upto [] ≡ []
none_taken None = refl
none_taken (Some target) = refl

-- once an entry was read the cursor isn't set any more
pub not_set : (set : Bool) (rs : List Record) (r : Record) → is_set_behind set (rs ++ (r ∷ [])) ≡ false
not_set false rs r = refl
not_set true [] r = refl
not_set true (q ∷ rs) r = refl

pub none_set : (set : Bool) → is_set_behind set [] ≡ set
none_set false = refl
none_set true = refl

reads_push : (s : StoreSettings) (files : Files) (upto : Option Lsn) (set : Bool) (tip : Tip) (rs : List Record) (mid : Tip) (r : Record) → ReadsOn s files upto set tip rs mid → found_on s files upto (is_set_behind set rs) mid ≡ Gives r
    → ReadsOn s files upto set tip (rs ++ (r ∷ [])) (tip_after mid r)
reads_push s files upto false tip [] mid r reads gives =
    subst (λ (t : Tip). ReadsOn s files upto false t (r ∷ []) (tip_after mid r)) reads (gives, refl)
reads_push s files upto true tip [] mid r reads gives =
    subst (λ (t : Tip). ReadsOn s files upto true t (r ∷ []) (tip_after mid r)) reads (gives, refl)
reads_push s files upto false tip (q ∷ rs) mid r reads gives = (reads.0, reads_push s files upto false (tip_after tip q) rs mid r reads.1 gives)
reads_push s files upto true tip (q ∷ rs) mid r reads gives = (reads.0, reads_push s files upto false (tip_after tip q) rs mid r reads.1 gives)

rising_push : (place end : ℕ) (rs : List Record) (r : Record) → AreRising place rs → place ≤ end → AllEndBy rs end → end < r.end.0 → r.end.0 < 2 ^ 64 → AreRising place (rs ++ (r ∷ []))
rising_push place end [] r rising le below lt fits = (omega (arith, le, lt), (fits, tt))
rising_push place end (q ∷ rs) r rising le below lt fits = (rising.0, (rising.1.0, rising_push q.end.0 end rs r rising.1.1 below.0 below.1 lt fits))

-- one more entry
pub one_more : (s : StoreSettings) (begin : Beginning) (upto : Option Lsn) (files : Option Files) (tip : Tip) (entries : List Record) (r : Record) → IsReadSoFar s begin upto files tip entries → tip.end < r.end.0 → r.end.0 < 2 ^ 64
    → IfSome files (λ m. found_on s m upto (is_set_behind (is_at_place begin) entries) tip ≡ Gives r) → IsReadSoFar s begin upto files (tip_after tip r) (entries ++ (r ∷ []))
one_more s begin upto files tip entries r so later fits found = record {
  passed = when_both_told files (λ m. ReadsOn s m upto (is_at_place begin) (begin_tip s.segment begin) entries tip) (λ m. found_on s m upto (is_set_behind (is_at_place begin) entries) tip ≡ Gives r)
      (λ m. ReadsOn s m upto (is_at_place begin) (begin_tip s.segment begin) (entries ++ (r ∷ [])) (tip_after tip r))
      (λ m passed gives. reads_push s m upto (is_at_place begin) (begin_tip s.segment begin) entries tip r passed gives) so.passed found;
  tip_is = ap (λ (t : Tip). tip_after t r) so.tip_is ∙ sym (tip_behind-append (begin_tip s.segment begin) entries (r ∷ []));
  below = all_push entries r r.end.0 (all_later entries tip.end r.end.0 (omega (arith, later)) so.below) (omega arith);
  least = omega (arith, so.least, later);
  rising = rising_push (begin_tip s.segment begin).end tip.end entries r so.rising so.least so.below later fits;
}

-- ---- where it ends

pub read_at : (s : StoreSettings) (begin : Beginning) (upto : Option Lsn) (files : Option Files) (entries : List Record) (tip : Tip) (found : Found)
    → IfSome files (λ m. ReadsOn s m upto (is_at_place begin) (begin_tip s.segment begin) entries tip) → IfSome files (λ m. found_on s m upto (is_set_behind (is_at_place begin) entries) tip ≡ found)
    → IfSome files (λ m. IsReadFrom s m begin upto entries tip found)
read_at s begin upto files entries tip found passed behind =
    when_both_told files (λ m. ReadsOn s m upto (is_at_place begin) (begin_tip s.segment begin) entries tip) (λ m. found_on s m upto (is_set_behind (is_at_place begin) entries) tip ≡ found)
    (λ m. IsReadFrom s m begin upto entries tip found)
    (λ m reads is. record { reads = reads; behind = is }) passed behind

pub at_end : (s : StoreSettings) (begin : Beginning) (upto : Option Lsn) (files : Option Files) (tip : Tip) (entries : List Record) → IsReadSoFar s begin upto files tip entries
    → StandsWithin s.segment (is_set_behind (is_at_place begin) entries) tip
    → IfSome files (λ m. found_on s m upto (is_set_behind (is_at_place begin) entries) tip ≡ End) → replayed_to upto tip ≤ tip.end → IsReadFromTo s files begin upto entries tip
at_end s begin upto files tip entries so within ends reached = record {
  archive = read_at s begin upto files entries tip End so.passed ends;
  tip = so.tip_is;
  ends = so.below;
  reached = reached;
  within = within;
}

pub at_damage : (s : StoreSettings) (begin : Beginning) (upto : Option Lsn) (files : Option Files) (tip : Tip) (entries : List Record) (damage : Damage) → IsReadSoFar s begin upto files tip entries
    → IfSome files (λ m. found_on s m upto (is_set_behind (is_at_place begin) entries) tip ≡ Bad damage) → IfSome files (λ m. HasDamageFrom s m begin upto damage)
at_damage s begin upto files tip entries damage so broken =
    when_told files (λ m. IsReadFrom s m begin upto entries tip (Bad damage)) (λ m. HasDamageFrom s m begin upto damage)
    (λ m read. record { entries = entries; last = tip; read = read }) (read_at s begin upto files entries tip (Bad damage) so.passed broken)

at_short : (s : StoreSettings) (begin : Beginning) (files : Option Files) (tip : Tip) (entries : List Record) (end target : Lsn) → IsReadSoFar s begin (Some target) files tip entries
    → IfSome files (λ m. found_on s m (Some target) (is_set_behind (is_at_place begin) entries) tip ≡ End)
    → end.0 ≡ tip.end → tip.end < target.0 → IfSome files (λ m. EndsEarlyFrom s m begin end target)
at_short s begin files tip entries end target so ends is short =
    when_told files (λ m. IsReadFrom s m begin (Some target) entries tip End) (λ m. EndsEarlyFrom s m begin end target)
    (λ m read. record { entries = entries; last = tip; read = read; end_is = is; short = omega (arith, is, short) }) (read_at s begin (Some target) files entries tip End so.passed ends)

pub ends_short : (s : StoreSettings) (begin : Beginning) (upto : Option Lsn) (files : Option Files) (tip : Tip) (entries : List Record) (end target : Lsn) → IsReadSoFar s begin upto files tip entries
    → IfSome files (λ m. found_on s m upto (is_set_behind (is_at_place begin) entries) tip ≡ End)
    → upto ≡ Some target → end.0 ≡ tip.end → tip.end < target.0 → IfSome files (λ m. IsShortFrom s m begin upto end target)
ends_short s begin upto files tip entries end target so ends to is short =
    when_told files _ _ (λ m e. (to, e))
    (at_short s begin files tip entries end target (subst (λ (u : Option Lsn). IsReadSoFar s begin u files tip entries) to so)
    (subst (λ (u : Option Lsn). IfSome files (λ m. found_on s m u (is_set_behind (is_at_place begin) entries) tip ≡ End)) to ends) is short)

-- ---- a replay that goes on

pub end_push : (mib : ℕ) (begin : Beginning) (rs : List Record) (r : Record) → end_from mib begin (rs ++ (r ∷ [])) ≡ r.end.0
end_push mib begin rs r = ap (λ (t : Tip). t.end) (tip_behind-append (begin_tip mib begin) rs (r ∷ []))

pub map_push : (rs : List Record) (r : Record) → map entry_of (rs ++ (r ∷ [])) ≡ map entry_of rs ++ (entry_of r ∷ [])
map_push rs r = map-append entry_of rs (r ∷ [])

rising_from : (first second : ℕ) (rs : List Record) → first ≤ second → AreRising second rs → AreRising first rs
rising_from first second [] le rising = tt
rising_from first second (r ∷ rs) le rising = (omega (arith, le, rising.0), rising.1)

either_rising : (b : Bool) (place : ℕ) (r : Record) (rs : List Record) → place < r.end.0 → r.end.0 < 2 ^ 64 → AreRising r.end.0 rs → AreRising place (cond b (r ∷ rs) rs)
either_rising true place r rs lt fits rising = (lt, (fits, rising))
either_rising false place r rs lt fits rising = rising_from place r.end.0 rs (omega (arith, lt)) rising

rising_ending : (place to : ℕ) (rs : List Record) → AreRising place rs → AreRising place (ending_by to rs)
rising_ending place to [] rising = tt
rising_ending place to (r ∷ rs) rising = either_rising (nat_le r.end.0 to) place r (ending_by to rs) rising.0 rising.1.0 (rising_ending r.end.0 to rs rising.1.1)

pub rising_taken : (place : ℕ) (upto : Option Lsn) (rs : List Record) → AreRising place rs → AreRising place (taken upto rs)
rising_taken place None rs rising = rising
rising_taken place (Some target) rs rising = rising_ending place target.0 rs rising

-- the first entry that can't be redone
pub bad_redo-here : (store : Store) (rs : List Record) (next : Store) (r : Record) → redo_all store rs ≡ Some next → redo next r ≡ None → first_bad_redo store (rs ++ (r ∷ [])) ≡ Some r.start.0
bad_redo-here store [] next r redone none =
    let same : store ≡ next = cc in
    ap (λ (o : Option Store). bad_behind r.start.0 o (λ s. first_bad_redo s [])) (ap (λ (s : Store). redo s r) same ∙ none)
bad_redo-here store (q ∷ rs) next r redone none =
    let b = bind_some (redo store q) (λ s. redo_all s rs) next redone in
    ap (λ (o : Option Store). bad_behind q.start.0 o (λ s. first_bad_redo s (rs ++ (r ∷ [])))) b.1 ∙ bad_redo-here b.0 rs next r b.2 none

pub bad_redo-more : (store : Store) (rs : List Record) (r : Record) (place : ℕ) → first_bad_redo store rs ≡ Some place → first_bad_redo store (rs ++ (r ∷ [])) ≡ Some place
bad_redo-more store [] r place bad = absurd cc
bad_redo-more store (q ∷ rs) r place bad =
    bad_more_of q.start.0 place (redo store q) (λ s. first_bad_redo s rs) (λ s. first_bad_redo s (rs ++ (r ∷ []))) (λ s b. bad_redo-more s rs r place b) bad

-- from nothing on the test of LSNs changes nothing
pub none_newer : (place : ℕ) → AreBelow place empty
none_newer place at = omega (arith, ap (λ (o : Option ForkPages). lsn_of (get_or (unwrap_or o []) at.block zero_page)) (get-empty fork_cmp at.fork), lsn_of-zero_page)

pub redone_applied : (place : ℕ) (rs : List Record) → AreRising place rs → redo_all empty rs ≡ apply_all empty (map entry_of rs)
redone_applied place rs rising = tests_change_nothing place empty rs (none_newer place) rising

none_pushed : (es : List Entry) (mid : Store) (e : Entry) → apply_all empty es ≡ Some mid → apply_all empty (es ++ (e ∷ [])) ≡ None → apply mid e ≡ None
none_pushed es mid e made none = go (apply mid e) refl
  where
    go : (o : Option Store) → apply mid e ≡ o → o ≡ None
    go None is = refl
    go (Some last) is = absurd (let c : ◌≡◌ {A = Option Store} (Some last) None = sym (apply_all-push empty es mid e last made is) ∙ none in cc)

-- so the first entry that can't be redone is the first that can't be applied
pub first_unredone : (place : ℕ) (rs : List Record) (mid : Store) (r : Record) → AreRising place rs → AreRising place (rs ++ (r ∷ [])) → redo_all empty rs ≡ Some mid → redo mid r ≡ None
    → first_bad empty (map entry_of (rs ++ (r ∷ []))) ≡ Some r.start.0
first_unredone place rs mid r rising more made none =
    let applied : apply_all empty (map entry_of rs) ≡ Some mid = sym (redone_applied place rs rising) ∙ made in
    let all : redo_all empty (rs ++ (r ∷ [])) ≡ None = redo_all-push empty rs r ∙ ap (λ (o : Option Store). o >>= λ t. redo t r) made ∙ none in
    let refused : apply_all empty (map entry_of rs ++ (entry_of r ∷ [])) ≡ None = ap (apply_all empty) (sym (map_push rs r)) ∙ sym (redone_applied place (rs ++ (r ∷ [])) more) ∙ all in
    ap (first_bad empty) (map_push rs r) ∙ bad-here empty (map entry_of rs) mid (entry_of r) applied (none_pushed (map entry_of rs) mid (entry_of r) applied refused)

pub bad_kept : (rs : List Record) (r : Record) (place : ℕ) → first_bad empty (map entry_of rs) ≡ Some place → first_bad empty (map entry_of (rs ++ (r ∷ []))) ≡ Some place
bad_kept rs r place bad = ap (first_bad empty) (map_push rs r) ∙ bad-more empty (map entry_of rs) (entry_of r) place bad

-- ---- over the empty store

rising_front : (place : ℕ) (rs qs : List Record) → AreRising place (rs ++ qs) → AreRising place rs
rising_front place [] qs rising = tt
rising_front place (r ∷ rs) qs rising = (rising.0, (rising.1.0, rising_front r.end.0 rs qs rising.1.1))

bad_kept_all : (rs qs : List Record) (place : ℕ) → first_bad empty (map entry_of rs) ≡ Some place → first_bad empty (map entry_of (rs ++ qs)) ≡ Some place
bad_kept_all rs [] place bad = ap (λ (l : List Record). first_bad empty (map entry_of l)) (append-nil rs) ∙ bad
bad_kept_all rs (q ∷ qs) place bad =
    ap (λ (l : List Record). first_bad empty (map entry_of l)) (sym (append_assoc rs (q ∷ []) qs))
    ∙ bad_kept_all (rs ++ (q ∷ [])) qs place (bad_kept rs q place bad)

bad_behind_all : (place at : ℕ) (rs qs : List Record) (mid : Store) → AreRising place (rs ++ qs) → redo_all empty rs ≡ Some mid → first_bad_redo mid qs ≡ Some at → first_bad empty (map entry_of (rs ++ qs)) ≡ Some at
bad_behind_all place at rs [] mid rising made bad = absurd cc
bad_behind_all place at rs (q ∷ qs) mid rising made bad =
    go (λ next pushed later. bad_behind_all place at (rs ++ (q ∷ [])) qs next (subst (AreRising place) (sym (append_assoc rs (q ∷ []) qs)) rising) pushed later) (redo mid q) refl bad
  where
    again : rs ++ (q ∷ qs) ≡ (rs ++ (q ∷ [])) ++ qs
    again = sym (append_assoc rs (q ∷ []) qs)

    rises : AreRising place ((rs ++ (q ∷ [])) ++ qs)
    rises = subst (AreRising place) again rising

    pushed : (o : Option Store) → redo mid q ≡ o → redo_all empty (rs ++ (q ∷ [])) ≡ o
    pushed o is = redo_all-push empty rs q ∙ ap (λ (x : Option Store). x >>= λ t. redo t q) made ∙ is

    go : ((next : Store) → redo_all empty (rs ++ (q ∷ [])) ≡ Some next → first_bad_redo next qs ≡ Some at → first_bad empty (map entry_of ((rs ++ (q ∷ [])) ++ qs)) ≡ Some at) → (o : Option Store) → redo mid q ≡ o → bad_behind q.start.0 o (λ next. first_bad_redo next qs) ≡ Some at → first_bad empty (map entry_of (rs ++ (q ∷ qs))) ≡ Some at
    go more None is here =
        ap (λ (l : List Record). first_bad empty (map entry_of l)) again
        ∙ bad_kept_all (rs ++ (q ∷ [])) qs at
        (first_unredone place rs mid q (rising_front place rs (q ∷ qs) rising) (rising_front place (rs ++ (q ∷ [])) qs rises) made is ∙ here)
    go more (Some next) is later =
        ap (λ (l : List Record). first_bad empty (map entry_of l)) again
        ∙ more next (pushed (Some next) is) later

-- the first entry that can't be redone over it is the first that can't be applied to it
pub bad_applied : (place at : ℕ) (rs : List Record) → AreRising place rs → first_bad_redo empty rs ≡ Some at → first_bad empty (map entry_of rs) ≡ Some at
bad_applied place at rs rising bad = bad_behind_all place at [] rs empty rising refl bad
