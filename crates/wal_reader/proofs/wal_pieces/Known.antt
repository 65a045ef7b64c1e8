-- What a piece has of a WAL whose first entries are known.
use Rattle.std.proofs.Common.{◌≡◌, ℕ, zero, suc, ◌<◌, ◌≤◌, true, false, List, [], ◌∷◌, length, take, Option, Some, None, refl, sym, ap, subst, ◌∙◌, arith, inl, inr}
use Rattle.std.specs.Prelude.{nat_le}
use Rattle.std.proofs.Math.Seq.{take-nil}
use Rattle.std.proofs.lemmas.List.{take_all}
use Rattle.std.proofs.lemmas.Bool.{le-leb, lt-leb, cases_lt}
use Rattle.lsn_core.specs.Files.{Files}
use Rattle.lsn_core.specs.Segment.{IsSegmentMib, StoreSettings}
use Rattle.lsn_core.specs.Tip.{Tip}
use Rattle.lsn_core.specs.declared.lsn.Lsn.{Lsn}
use Rattle.wal_record.specs.declared.record.Record.{Record}
use Rattle.wal_record.specs.Tips.{first_tip, tip_after, tip_behind}
use Rattle.wal_archive.specs.declared.fault.Damage.{Damage}
use Rattle.wal_archive.specs.Rules.{Found, End, Gives, Bad, lsn}
use Rattle.wal_reader.specs.Wal.{stands_behind, stands_at, tip_at, ReadsOn, ReadsFrom, found_from}
use Rattle.wal_reader.specs.Cursor.{IsReached}
use Rattle.wal_reader.proofs.Passing.{stands_given, reads_reached}
use Rattle.wal_reader.proofs.Reached.{first_reached}
use Rattle.wal_reader.specs.wal_pieces.Piece.{is_reached, AreBefore, tip_from, IsPiece, HasDamagedPiece}
use Rattle.wal_reader.specs.wal_pieces.Laws.{AreKnown}
use Rattle.wal_reader.proofs.wal_pieces.Onwards.{passed, entry_found, AreLike, like_next, parted}

-- ---- answers that shut each other out

one_given : (f : Found) (r q : Record) → f ≡ Gives r → f ≡ Gives q → r ≡ q
one_given f r q a b = (let c : ◌≡◌ {A = Found} (Gives r) (Gives q) = sym a ∙ b in cc)

given_no_end : (f : Found) (r : Record) → f ≡ Gives r → f ≡ End → ⊥
given_no_end f r a b = (let c : ◌≡◌ {A = Found} (Gives r) End = sym a ∙ b in absurd cc)

given_not_bad : (f : Found) (r : Record) (d : Damage) → f ≡ Gives r → f ≡ Bad d → ⊥
given_not_bad f r d a b = (let c : ◌≡◌ {A = Found} (Gives r) (Bad d) = sym a ∙ b in absurd cc)

-- ---- where known entries end

pub reads_later : (s : StoreSettings) (files : Files) (tip : Tip) (rs : List Record) (last : Tip) → IsSegmentMib s.segment → IsReached s.segment tip → ReadsOn s files tip rs last → tip.end ≤ last.end
reads_later s files tip [] last size is walk = (let e : last.end ≡ tip.end = ap (λ (t : Tip). t.end) walk in omega (arith, e))
reads_later s files tip (r ∷ rs) last size is walk =
    let given = stands_given s files tip r size.least is walk.0 in
    let more = reads_later s files (tip_after tip r) rs last size given.reached walk.1 in
    omega (arith, given.later, more)

-- before a place at which known entries end the target isn't reached
abbrev IsFree : Option Lsn → ℕ → Type 0
IsFree upto top = (e : ℕ) → e < top → is_reached upto e ≡ false

none_free : (top : ℕ) → IsFree None top
none_free top e lt = refl

target_free : (top : ℕ) → IsFree (Some (lsn top)) top
target_free top e lt = lt-leb top e lt

-- it is reached at it
past_target : (top e : ℕ) → is_reached (Some (lsn top)) e ≡ false → e < top
past_target top e short =
    elim (cases_lt e top) [
      | inl lt ↦ lt
      | inr le ↦ absurd (let t : nat_le top e ≡ true = le-leb top e le in let c : true ≡ false = sym t ∙ short in cc)
    ]

-- ---- behind an entry

-- so many entries that a reading gives are the known ones, as far as these are known
on_known : (s : StoreSettings) (files : Files) (upto : Option Lsn) (t u : Tip) (ks ps : List Record) (last : Tip) (most : ℕ) → IsSegmentMib s.segment → IsReached s.segment t → AreLike t u → ReadsOn s files t ks last → IsFree upto last.end
    → ReadsOn s files u ps (tip_behind u ps) → length ps ≤ most → (length ps < most → is_reached upto (tip_behind u ps).end ≡ false → stands_behind s files (tip_behind u ps) ≡ End) → take (length ks) ps ≡ take most ks
on_known s files upto t u [] ps last most size is like walk free reads few whole = sym (take-nil most)
on_known s files upto t u (k ∷ ks) [] last zero size is like walk free reads few whole = take-nil (length (k ∷ ks))
on_known s files upto t u (k ∷ ks) [] last (suc most) size is like walk free reads few whole =
    let given = stands_given s files t k size.least is walk.0 in
    let more = reads_later s files (tip_after t k) ks last size given.reached walk.1 in
    let short : is_reached upto u.end ≡ false = free u.end (omega (arith, given.later, more, like.end)) in
    absurd (given_no_end (stands_behind s files u) k (sym (like_next s files t u like) ∙ walk.0) (whole (omega arith) short))
on_known s files upto t u (k ∷ ks) (p ∷ ps) last zero size is like walk free reads few whole = absurd (omega (arith, few))
on_known s files upto t u (k ∷ ks) (p ∷ ps) last (suc most) size is like walk free reads few whole =
    let given = stands_given s files t k size.least is walk.0 in
    let same : k ≡ p = one_given (stands_behind s files u) k p (sym (like_next s files t u like) ∙ walk.0) reads.0 in
    let on : ReadsOn s files (tip_after t p) ks last = subst (λ (x : Record). ReadsOn s files (tip_after t x) ks last) same walk.1 in
    let reached : IsReached s.segment (tip_after t p) = subst (λ (x : Record). IsReached s.segment (tip_after t x)) same given.reached in
    let more = on_known s files upto (tip_after t p) (tip_after u p) ks ps last most size reached (record { end = refl; prev = refl }) on free reads.1 (omega (arith, few)) (λ room. whole (omega (arith, room))) in
    ap (λ (l : List Record). p ∷ l) more ∙ ap (λ (x : Record). x ∷ take most ks) (sym same)

-- up to a target at which the known ones end there are no more
on_few : (s : StoreSettings) (files : Files) (t u : Tip) (ks ps : List Record) (last : Tip) → AreLike t u → ReadsOn s files t ks last → ReadsOn s files u ps (tip_behind u ps) → AreBefore (Some (lsn last.end)) u.end ps → length ps ≤ length ks
on_few s files t u ks [] last like walk reads before = omega arith
on_few s files t u [] (p ∷ ps) last like walk reads before =
    let lt = past_target last.end u.end before.0 in
    let e : last.end ≡ t.end = ap (λ (x : Tip). x.end) walk in
    absurd (omega (arith, lt, e, like.end))
on_few s files t u (k ∷ ks) (p ∷ ps) last like walk reads before =
    let same : k ≡ p = one_given (stands_behind s files u) k p (sym (like_next s files t u like) ∙ walk.0) reads.0 in
    let on : ReadsOn s files (tip_after t p) ks last = subst (λ (x : Record). ReadsOn s files (tip_after t x) ks last) same walk.1 in
    let more = on_few s files (tip_after t p) (tip_after u p) ks ps last (record { end = refl; prev = refl }) on reads.1 before.1 in
    omega (arith, more)

-- and no damage
on_whole : (s : StoreSettings) (files : Files) (t u : Tip) (ks ps : List Record) (last : Tip) (damage : Damage) → AreLike t u → ReadsOn s files t ks last → ReadsOn s files u ps (tip_behind u ps) → AreBefore (Some (lsn last.end)) u.end ps
    → is_reached (Some (lsn last.end)) (tip_behind u ps).end ≡ false → stands_behind s files (tip_behind u ps) ≡ Bad damage → ⊥
on_whole s files t u [] [] last damage like walk reads before short bad =
    let lt = past_target last.end u.end short in
    let e : last.end ≡ t.end = ap (λ (x : Tip). x.end) walk in
    absurd (omega (arith, lt, e, like.end))
on_whole s files t u [] (p ∷ ps) last damage like walk reads before short bad =
    let lt = past_target last.end u.end before.0 in
    let e : last.end ≡ t.end = ap (λ (x : Tip). x.end) walk in
    absurd (omega (arith, lt, e, like.end))
on_whole s files t u (k ∷ ks) [] last damage like walk reads before short bad =
    given_not_bad (stands_behind s files u) k damage (sym (like_next s files t u like) ∙ walk.0) bad
on_whole s files t u (k ∷ ks) (p ∷ ps) last damage like walk reads before short bad =
    let same : k ≡ p = one_given (stands_behind s files u) k p (sym (like_next s files t u like) ∙ walk.0) reads.0 in
    let on : ReadsOn s files (tip_after t p) ks last = subst (λ (x : Record). ReadsOn s files (tip_after t x) ks last) same walk.1 in
    on_whole s files (tip_after t p) (tip_after u p) ks ps last damage (record { end = refl; prev = refl }) on reads.1 before.1 short bad

-- ---- from an entry's start on

-- what is known of an entry's start: it is found there, before where the known ones end, and those
-- behind it are read on from its end
record IsStart (s : StoreSettings) (files : Files) (r : Record) (later : List Record) (last : Tip) : Type 0 where
  found : stands_at s files r.start.0 ≡ Gives r
  mid : Tip
  reached : IsReached s.segment (tip_after mid r)
  on : ReadsOn s files (tip_after mid r) later last
  begins : r.start.0 < last.end

start_of : (s : StoreSettings) (files : Files) (older later : List Record) (r : Record) (last : Tip) → IsSegmentMib s.segment → AreKnown s files older r later last → IsStart s files r later last
start_of s files older later r last size known =
    let parts = parted s files (first_tip s.segment) older (r ∷ later) last known in
    let is = reads_reached s files (first_tip s.segment) older parts.mid size.least (first_reached s.segment size) parts.up in
    let given = stands_given s files parts.mid r size.least is parts.on.0 in
    let g = passed s files parts.mid r size.least is.ends parts.on.0 in
    let more = reads_later s files (tip_after parts.mid r) later last size given.reached parts.on.1 in
    record {
      found = entry_found s files older parts.mid r size parts.up parts.on.0;
      mid = parts.mid;
      reached = given.reached;
      on = parts.on.1;
      begins = omega (arith, g.start, g.end, g.behind.start, more);
    }

from_known : (s : StoreSettings) (files : Files) (upto : Option Lsn) (later piece : List Record) (r : Record) (last : Tip) (most : ℕ) → IsSegmentMib s.segment → IsStart s files r later last → IsFree upto last.end → IsPiece s (Some files) r.start.0 upto most piece
    → take (length (r ∷ later)) piece ≡ take most (r ∷ later)
from_known s files upto later [] r last zero size is free p = take-nil (length (r ∷ later))
from_known s files upto later [] r last (suc most) size is free p =
    absurd (given_no_end (stands_at s files r.start.0) r is.found (p.whole (omega arith) (free r.start.0 is.begins)))
from_known s files upto later (q ∷ qs) r last zero size is free p = absurd (let few = p.few in omega (arith, few))
from_known s files upto later (q ∷ qs) r last (suc most) size is free p =
    let same : r ≡ q = one_given (stands_at s files r.start.0) r q is.found p.read.0 in
    let u : Tip = tip_after (tip_at r.start.0) q in
    let t : Tip = tip_after is.mid q in
    let on : ReadsOn s files t later last = subst (λ (x : Record). ReadsOn s files (tip_after is.mid x) later last) same is.on in
    let reached : IsReached s.segment t = subst (λ (x : Record). IsReached s.segment (tip_after is.mid x)) same is.reached in
    let few : length qs ≤ most = (let f = p.few in omega (arith, f)) in
    let more = on_known s files upto t u later qs last most size reached (record { end = refl; prev = refl }) on free p.read.1 few (λ room. p.whole (omega (arith, room))) in
    ap (λ (l : List Record). q ∷ l) more ∙ ap (λ (x : Record). x ∷ take most later) (sym same)

from_few : (s : StoreSettings) (files : Files) (later piece : List Record) (r : Record) (last : Tip) (most : ℕ) → IsStart s files r later last → IsPiece s (Some files) r.start.0 (Some (lsn last.end)) most piece → length piece ≤ length (r ∷ later)
from_few s files later [] r last most is p = omega arith
from_few s files later (q ∷ qs) r last most is p =
    let same : r ≡ q = one_given (stands_at s files r.start.0) r q is.found p.read.0 in
    let on : ReadsOn s files (tip_after is.mid q) later last = subst (λ (x : Record). ReadsOn s files (tip_after is.mid x) later last) same is.on in
    let more = on_few s files (tip_after is.mid q) (tip_after (tip_at r.start.0) q) later qs last (record { end = refl; prev = refl }) on p.read.1 p.before.1 in
    omega (arith, more)

damaged_at : (s : StoreSettings) (files : Files) (later entries : List Record) (r : Record) (last : Tip) (damage : Damage) → IsStart s files r later last → ReadsFrom s files r.start.0 entries (tip_from r.start.0 entries) → AreBefore (Some (lsn last.end)) r.start.0 entries
    → is_reached (Some (lsn last.end)) (tip_from r.start.0 entries).end ≡ false → found_from s files r.start.0 entries (tip_from r.start.0 entries) ≡ Bad damage → ⊥
damaged_at s files later [] r last damage is read before short bad = given_not_bad (stands_at s files r.start.0) r damage is.found bad
damaged_at s files later (q ∷ qs) r last damage is read before short bad =
    let same : r ≡ q = one_given (stands_at s files r.start.0) r q is.found read.0 in
    let on : ReadsOn s files (tip_after is.mid q) later last = subst (λ (x : Record). ReadsOn s files (tip_after is.mid x) later last) same is.on in
    on_whole s files (tip_after is.mid q) (tip_after (tip_at r.start.0) q) later qs last damage (record { end = refl; prev = refl }) on read.1 before.1 short bad

-- ---- the laws

pub parts_of_known : (s : StoreSettings) (files : Files) (older later piece : List Record) (r : Record) (last : Tip) (most : ℕ) → IsSegmentMib s.segment → AreKnown s files older r later last → IsPiece s (Some files) r.start.0 None most piece
    → take (length (r ∷ later)) piece ≡ take most (r ∷ later)
parts_of_known s files older later piece r last most size known p =
    from_known s files None later piece r last most size (start_of s files older later r last size known) (none_free last.end) p

pub up_to_target : (s : StoreSettings) (files : Files) (older later piece : List Record) (r : Record) (last : Tip) (most : ℕ) → IsSegmentMib s.segment → AreKnown s files older r later last → IsPiece s (Some files) r.start.0 (Some (lsn last.end)) most piece
    → piece ≡ take most (r ∷ later)
up_to_target s files older later piece r last most size known p =
    let is = start_of s files older later r last size known in
    sym (take_all (length (r ∷ later)) piece (from_few s files later piece r last most is p)) ∙ from_known s files (Some (lsn last.end)) later piece r last most size is (target_free last.end) p

pub no_damage : (s : StoreSettings) (files : Files) (older later : List Record) (r : Record) (last : Tip) (most : ℕ) (damage : Damage) → IsSegmentMib s.segment → AreKnown s files older r later last → HasDamagedPiece s files r.start.0 (Some (lsn last.end)) most damage → ⊥
no_damage s files older later r last most damage size known p =
    damaged_at s files later p.entries r last damage (start_of s files older later r last size known) p.read p.before p.short p.broken
