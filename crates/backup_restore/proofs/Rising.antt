-- The entries of a WAL rise; those that start at a place or past it are behind the others.
use Rattle.std.proofs.Common.{◌≡◌, ℕ, ◌≤◌, true, false, cond, List, [], ◌∷◌, ◌++◌, map, refl, sym, ap, ◌∙◌, arith, inl, inr}
use Rattle.std.specs.Prelude.{nat_le, ◌==◌, ◌&&◌, ◌||◌}
use Rattle.std.specs.List.{filter, list_any}
use Rattle.std.proofs.lemmas.Bool.{eqb-true, le-leb, lt-leb, cases_Bool}
use Rattle.lsn_core.specs.Files.{Files}
use Rattle.lsn_core.specs.Segment.{IsSegmentMib, StoreSettings}
use Rattle.lsn_core.specs.Tip.{Tip}
use Rattle.wal_record.specs.declared.record.Record.{Record}
use Rattle.wal_record.specs.Tips.{first_tip, tip_after, wal_limit}
use Rattle.wal_archive.proofs.Next.{start_of}
use Rattle.wal_reader.specs.Wal.{ReadsOn, IsWal}
use Rattle.wal_reader.specs.Cursor.{IsReached}
use Rattle.wal_reader.proofs.Passing.{stands_given}
use Rattle.wal_reader.proofs.Reached.{first_reached}
use Rattle.history.specs.Entry.{Entry}
use Rattle.history.specs.Whole.{entry_of}
use Rattle.history.specs.fuzzy_copies.Orderly.{RecordsRise}
use Rattle.history.specs.fuzzy_copies.Recovered.{is_replayed}
use Rattle.recovery.specs.Onward.{ending_by}
use Rattle.wal_reader.proofs.wal_pieces.Onwards.{passed}

-- ---- they rise

pub reads_rise : (s : StoreSettings) (files : Files) (tip : Tip) (rs : List Record) (last : Tip) → IsSegmentMib s.segment → IsReached s.segment tip → ReadsOn s files tip rs last → RecordsRise tip.end rs
reads_rise s files tip [] last size is walk = tt
reads_rise s files tip (r ∷ rs) last size is walk =
    let g = passed s files tip r size.least is.ends walk.0 in
    let st = start_of s.segment tip.end size.least is.ends in
    let given = stands_given s files tip r size.least is walk.0 in
    let most : r.end.0 ≤ wal_limit s.segment = given.reached.within.most in
    (omega (arith, g.start, st.is, st.later), omega (arith, g.start, g.end, g.behind.start), omega (arith, most, size.most), reads_rise s files (tip_after tip r) rs last size given.reached walk.1)

pub rise_from : (a b : ℕ) (rs : List Record) → a ≤ b → RecordsRise b rs → RecordsRise a rs
rise_from a b [] le rise = tt
rise_from a b (r ∷ rs) le rise = (omega (arith, le, rise.0), rise.1, rise.2, rise.3)

pub wal_rises : (s : StoreSettings) (files : Files) (rs : List Record) (last : Tip) → IsSegmentMib s.segment → IsWal s files rs last → RecordsRise 0 rs
wal_rises s files rs last size wal =
    rise_from 0 (first_tip s.segment).end rs (omega arith) (reads_rise s files (first_tip s.segment) rs last size (first_reached s.segment size) wal.walk)

-- ---- an entry that starts at a place parts them

pub record IsPartedAt (from : ℕ) (rs : List Record) : Type 0 where
  pub older : List Record
  pub r : Record
  pub later : List Record
  pub is : rs ≡ older ++ (r ∷ later)
  pub starts : r.start.0 ≡ from

parted_behind : (from : ℕ) (q : Record) (rs : List Record) → IsPartedAt from rs → IsPartedAt from (q ∷ rs)
parted_behind from q rs parts = record {
  older = q ∷ parts.older;
  r = parts.r;
  later = parts.later;
  is = ap (λ (l : List Record). q ∷ l) parts.is;
  starts = parts.starts;
}

pub parted_at : (from : ℕ) (rs : List Record) → list_any (λ (e : Entry). e.start == from) (map entry_of rs) ≡ true → IsPartedAt from rs
parted_at from [] there = absurd cc
parted_at from (q ∷ rs) there =
    elim (cases_Bool (q.start.0 == from)) [
      | inl here ↦ record { older = []; r = q; later = rs; is = refl; starts = eqb-true q.start.0 from here }
      | inr past ↦ parted_behind from q rs (parted_at from rs (ap (λ b. b || list_any (λ (e : Entry). e.start == from) (map entry_of rs)) (sym past) ∙ there))
    ]

-- ---- which of them are replayed

abbrev pub replayed_in : ℕ → ℕ → List Record → List Record
replayed_in from place rs = filter (λ r. is_replayed from place (entry_of r)) rs

-- those behind a place from which the replay begins, as far as they end by the other
replayed_past : (from place : ℕ) (rs : List Record) → RecordsRise from rs → replayed_in from place rs ≡ ending_by place rs
replayed_past from place [] rise = refl
replayed_past from place (r ∷ rs) rise =
    let is : nat_le from r.start.0 ≡ true = le-leb from r.start.0 rise.0 in
    let more = replayed_past from place rs (rise_from from r.end.0 rs (omega (arith, rise.0, rise.1)) rise.3) in
    ap (λ b. cond (b && nat_le r.end.0 place) (r ∷ replayed_in from place rs) (replayed_in from place rs)) is ∙ ap (λ (l : List Record). cond (nat_le r.end.0 place) (r ∷ l) l) more

pub starts_behind : (last : ℕ) (older : List Record) (r : Record) (later : List Record) → RecordsRise last (older ++ (r ∷ later)) → last ≤ r.start.0
starts_behind last [] r later rise = rise.0
starts_behind last (q ∷ older) r later rise = (let more = starts_behind q.end.0 older r later rise.3 in omega (arith, more, rise.0, rise.1))

pub rest_rises : (last : ℕ) (older : List Record) (r : Record) (later : List Record) → RecordsRise last (older ++ (r ∷ later)) → RecordsRise r.start.0 (r ∷ later)
rest_rises last [] r later rise = (omega arith, rise.1, rise.2, rise.3)
rest_rises last (q ∷ older) r later rise = rest_rises q.end.0 older r later rise.3

pub replayed_rest : (last place : ℕ) (older : List Record) (r : Record) (later : List Record) → RecordsRise last (older ++ (r ∷ later)) → replayed_in r.start.0 place (older ++ (r ∷ later)) ≡ ending_by place (r ∷ later)
replayed_rest last place [] r later rise = replayed_past r.start.0 place (r ∷ later) (rest_rises last [] r later rise)
replayed_rest last place (q ∷ older) r later rise =
    let before = starts_behind q.end.0 older r later rise.3 in
    let not_yet : nat_le r.start.0 q.start.0 ≡ false = lt-leb r.start.0 q.start.0 (omega (arith, before, rise.1)) in
    ap (λ b. cond (b && nat_le q.end.0 place) (q ∷ replayed_in r.start.0 place (older ++ (r ∷ later))) (replayed_in r.start.0 place (older ++ (r ∷ later)))) not_yet ∙ replayed_rest q.end.0 place older r later rise.3

-- none of those behind a place ends by it
pub none_left : (last place : ℕ) (rs : List Record) → place ≤ last → RecordsRise last rs → ending_by place rs ≡ []
none_left last place [] le rise = refl
none_left last place (r ∷ rs) le rise =
    let past : nat_le r.end.0 place ≡ false = lt-leb r.end.0 place (omega (arith, le, rise.0, rise.1)) in
    ap (λ b. cond b (r ∷ ending_by place rs) (ending_by place rs)) past ∙ none_left r.end.0 place rs (omega (arith, le, rise.0, rise.1)) rise.3
