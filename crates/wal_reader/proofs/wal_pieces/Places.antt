-- Entries that are known rise; a place at which one starts or ends parts them.
use Rattle.std.proofs.Common.{◌≡◌, ℕ, ◌<◌, ◌≤◌, true, cond, List, [], ◌∷◌, ◌++◌, take, Some, refl, sym, ap, subst, ◌∙◌, arith, inl, inr}
use Rattle.std.specs.Prelude.{nat_le, ◌==◌}
use Rattle.std.specs.List.{list_any}
use Rattle.std.proofs.lemmas.Bool.{eqb-true, le-leb, lt-leb, or_cases}
use Rattle.lsn_core.specs.Files.{Files}
use Rattle.lsn_core.specs.Segment.{IsSegmentMib, StoreSettings}
use Rattle.lsn_core.specs.Tip.{Tip}
use Rattle.wal_pages.specs.Places.{start_after}
use Rattle.wal_pages.proofs.Splits.{start_behind}
use Rattle.wal_record.specs.declared.record.Record.{Record}
use Rattle.wal_record.specs.Tips.{first_tip, tip_after}
use Rattle.wal_archive.specs.declared.fault.Damage.{Damage}
use Rattle.wal_archive.specs.Rules.{lsn}
use Rattle.wal_archive.proofs.Next.{start_of}
use Rattle.wal_reader.specs.Wal.{ReadsOn}
use Rattle.wal_reader.specs.Cursor.{IsReached}
use Rattle.wal_reader.proofs.Passing.{stands_given}
use Rattle.wal_reader.proofs.Reached.{first_reached}
use Rattle.wal_reader.specs.wal_pieces.Piece.{IsPiece, HasDamagedPiece}
use Rattle.wal_reader.specs.wal_pieces.Laws.{is_place_of, IsPlaceAmong, from_place}
use Rattle.wal_reader.proofs.wal_pieces.Onwards.{passed}
use Rattle.wal_reader.proofs.wal_pieces.Known.{reads_later, up_to_target, no_damage}

-- ---- they rise

-- each entry starts where one may start behind an end, which is where the one before ends
pub record IsRising (mib at : ℕ) (r : Record) : Type 0 where
  pub start : r.start.0 ≡ start_after mib at
  pub own : start_after mib r.start.0 ≡ r.start.0
  pub later : at ≤ r.start.0
  pub long : r.start.0 < r.end.0

abbrev pub Rise : ℕ → ℕ → List Record → Type 0
Rise mib at [] = Unit {0}
Rise mib at (r ∷ rs) = IsRising mib at r × Rise mib r.end.0 rs

rising : (s : StoreSettings) (files : Files) (tip : Tip) (rs : List Record) (last : Tip) → IsSegmentMib s.segment → IsReached s.segment tip → ReadsOn s files tip rs last → Rise s.segment tip.end rs
rising s files tip [] last size is walk = tt
rising s files tip (r ∷ rs) last size is walk =
    let g = passed s files tip r size.least is.ends walk.0 in
    let st = start_of s.segment tip.end size.least is.ends in
    let given = stands_given s files tip r size.least is walk.0 in
    let starts : r.start.0 ≡ st.start = g.start ∙ st.is in (
      record {
        start = g.start;
        own = ap (start_after s.segment) starts ∙ (start_behind s.segment st.start size.least st.behind ∙ sym starts);
        later = omega (arith, starts, st.later);
        long = omega (arith, g.start, g.end, g.behind.start);
      },
      rising s files (tip_after tip r) rs last size given.reached walk.1,
    )

pub known_rise : (s : StoreSettings) (files : Files) (rs : List Record) (last : Tip) → IsSegmentMib s.segment → ReadsOn s files (first_tip s.segment) rs last → Rise s.segment (first_tip s.segment).end rs
known_rise s files rs last size walk = rising s files (first_tip s.segment) rs last size (first_reached s.segment size) walk

-- ---- those from a place on

all_from : (mib at place : ℕ) (rs : List Record) → place ≤ at → Rise mib at rs → from_place place rs ≡ rs
all_from mib at place [] le rise = refl
all_from mib at place (r ∷ rs) le rise =
    let is : nat_le place r.start.0 ≡ true = le-leb place r.start.0 (let l = rise.0.later in omega (arith, le, l)) in
    ap (λ b. cond b (r ∷ from_place place rs) (from_place place rs)) is ∙ ap (λ (l : List Record). r ∷ l) (all_from mib r.end.0 place rs (let l = rise.0.later in let k = rise.0.long in omega (arith, le, l, k)) rise.1)

not_from : (place : ℕ) (r : Record) (rs : List Record) → r.start.0 < place → from_place place (r ∷ rs) ≡ from_place place rs
not_from place r rs lt = ap (λ b. cond b (r ∷ from_place place rs) (from_place place rs)) (lt-leb place r.start.0 lt)

-- where one starts or ends is behind the end before it
place_later : (mib at place : ℕ) (rs : List Record) → Rise mib at rs → IsPlaceAmong rs place → at ≤ place
place_later mib at place [] rise there = absurd cc
place_later mib at place (r ∷ rs) rise there =
    let l = rise.0.later in
    let k = rise.0.long in
    elim (or_cases (is_place_of place r) (list_any (is_place_of place) rs) there) [
      | inl here ↦ elim (or_cases (r.start.0 == place) (r.end.0 == place) here) [
        | inl start ↦ (let e = eqb-true r.start.0 place start in omega (arith, e, l))
        | inr end ↦ (let e = eqb-true r.end.0 place end in omega (arith, e, l, k))
      ]
      | inr more ↦ (let m = place_later mib r.end.0 place rs rise.1 more in omega (arith, m, l, k))
    ]

-- ---- parted at a place

-- an entry is the first one from a place on, and starts where one may start behind the place
record IsParted (mib place : ℕ) (rs : List Record) : Type 0 where
  older : List Record
  r : Record
  later : List Record
  is : rs ≡ older ++ (r ∷ later)
  starts : r.start.0 ≡ start_after mib place
  from : from_place place rs ≡ (r ∷ later)

parted_here : (mib at place : ℕ) (r : Record) (rs : List Record) → Rise mib at (r ∷ rs) → r.start.0 ≡ place → IsParted mib place (r ∷ rs)
parted_here mib at place r rs rise e = record {
  older = [];
  r = r;
  later = rs;
  is = refl;
  starts = sym rise.0.own ∙ ap (start_after mib) e;
  from = all_from mib r.start.0 place (r ∷ rs) (omega (arith, e)) (record { start = sym rise.0.own; own = rise.0.own; later = omega arith; long = rise.0.long }, rise.1);
}

parted_next : (mib at place : ℕ) (q r : Record) (rs : List Record) → Rise mib at (q ∷ (r ∷ rs)) → q.end.0 ≡ place → IsParted mib place (q ∷ (r ∷ rs))
parted_next mib at place q r rs rise e = record {
  older = q ∷ [];
  r = r;
  later = rs;
  is = refl;
  starts = rise.1.0.start ∙ ap (start_after mib) e;
  from = not_from place q (r ∷ rs) (let k = rise.0.long in omega (arith, e, k)) ∙ all_from mib q.end.0 place (r ∷ rs) (omega (arith, e)) rise.1;
}

parted_behind : (mib at place : ℕ) (q : Record) (rs : List Record) → Rise mib at (q ∷ rs) → q.end.0 ≤ place → IsParted mib place rs → IsParted mib place (q ∷ rs)
parted_behind mib at place q rs rise le parts = record {
  older = q ∷ parts.older;
  r = parts.r;
  later = parts.later;
  is = ap (λ (l : List Record). q ∷ l) parts.is;
  starts = parts.starts;
  from = not_from place q rs (let k = rise.0.long in omega (arith, le, k)) ∙ parts.from;
}

-- behind the last of them no entry is known
last_end : (s : StoreSettings) (files : Files) (tip last : Tip) → ReadsOn s files tip [] last → last.end ≡ tip.end
last_end s files tip last walk = ap (λ (t : Tip). t.end) walk

parted_end : (s : StoreSettings) (files : Files) (tip : Tip) (q : Record) (rs : List Record) (last : Tip) (place : ℕ) → ReadsOn s files (tip_after tip q) rs last → Rise s.segment tip.end (q ∷ rs) → q.end.0 ≡ place → place < last.end → IsParted s.segment place (q ∷ rs)
parted_end s files tip q [] last place walk rise e lt = absurd (let l = last_end s files (tip_after tip q) last walk in omega (arith, l, e, lt))
parted_end s files tip q (r ∷ rs) last place walk rise e lt = parted_next s.segment tip.end place q r rs rise e

parted_at : (s : StoreSettings) (files : Files) (tip : Tip) (rs : List Record) (last : Tip) (place : ℕ) → ReadsOn s files tip rs last → Rise s.segment tip.end rs → IsPlaceAmong rs place → place < last.end → IsParted s.segment place rs
parted_at s files tip [] last place walk rise there lt = absurd cc
parted_at s files tip (q ∷ rs) last place walk rise there lt =
    elim (or_cases (is_place_of place q) (list_any (is_place_of place) rs) there) [
      | inl here ↦ elim (or_cases (q.start.0 == place) (q.end.0 == place) here) [
        | inl start ↦ parted_here s.segment tip.end place q rs rise (eqb-true q.start.0 place start)
        | inr end ↦ parted_end s files tip q rs last place walk.1 rise (eqb-true q.end.0 place end) lt
      ]
      | inr more ↦ parted_behind s.segment tip.end place q rs rise (place_later s.segment q.end.0 place rs rise.1 more) (parted_at s files (tip_after tip q) rs last place walk.1 rise.1 more lt)
    ]

-- ---- the laws

pub going_on : (s : StoreSettings) (files : Files) (rs piece : List Record) (last : Tip) (place most : ℕ) → IsSegmentMib s.segment → ReadsOn s files (first_tip s.segment) rs last → IsPlaceAmong rs place → place < last.end
    → IsPiece s (Some files) (start_after s.segment place) (Some (lsn last.end)) most piece → piece ≡ take most (from_place place rs)
going_on s files rs piece last place most size walk there lt p =
    let parts = parted_at s files (first_tip s.segment) rs last place walk (known_rise s files rs last size walk) there lt in
    up_to_target s files parts.older parts.later piece parts.r last most size (subst (λ (l : List Record). ReadsOn s files (first_tip s.segment) l last) parts.is walk)
    (subst (λ (n : ℕ). IsPiece s (Some files) n (Some (lsn last.end)) most piece) (sym parts.starts) p)
    ∙ ap (take most) (sym parts.from)

pub going_on_whole : (s : StoreSettings) (files : Files) (rs : List Record) (last : Tip) (place most : ℕ) (damage : Damage) → IsSegmentMib s.segment → ReadsOn s files (first_tip s.segment) rs last → IsPlaceAmong rs place → place < last.end
    → HasDamagedPiece s files (start_after s.segment place) (Some (lsn last.end)) most damage → ⊥
going_on_whole s files rs last place most damage size walk there lt p =
    let parts = parted_at s files (first_tip s.segment) rs last place walk (known_rise s files rs last size walk) there lt in
    no_damage s files parts.older parts.later parts.r last most damage size (subst (λ (l : List Record). ReadsOn s files (first_tip s.segment) l last) parts.is walk)
    (subst (λ (n : ℕ). HasDamagedPiece s files n (Some (lsn last.end)) most damage) (sym parts.starts) p)

none_from : (s : StoreSettings) (files : Files) (tip : Tip) (rs : List Record) (last : Tip) (place : ℕ) → IsSegmentMib s.segment → IsReached s.segment tip → ReadsOn s files tip rs last → Rise s.segment tip.end rs → last.end ≤ place → from_place place rs ≡ []
none_from s files tip [] last place size is walk rise le = refl
none_from s files tip (r ∷ rs) last place size is walk rise le =
    let given = stands_given s files tip r size.least is walk.0 in
    let more = reads_later s files (tip_after tip r) rs last size given.reached walk.1 in
    not_from place r rs (let k = rise.0.long in omega (arith, k, more, le)) ∙ none_from s files (tip_after tip r) rs last place size given.reached walk.1 rise.1 le

pub none_behind : (s : StoreSettings) (files : Files) (rs : List Record) (last : Tip) (place : ℕ) → IsSegmentMib s.segment → ReadsOn s files (first_tip s.segment) rs last → last.end ≤ place → from_place place rs ≡ []
none_behind s files rs last place size walk le =
    none_from s files (first_tip s.segment) rs last place size (first_reached s.segment size) walk (known_rise s files rs last size walk) le
