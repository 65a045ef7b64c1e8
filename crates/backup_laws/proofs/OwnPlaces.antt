-- Where the own entries of a run stand: behind those that it found, and before the end of its WAL.
use Rattle.std.proofs.Common.{◌≡◌, ℕ, ◌<◌, ◌≤◌, Bool, true, false, ◌&&◌, ◌||◌, List, [], ◌∷◌, ◌++◌, map, refl, sym, ap, subst, ◌∙◌, arith, inl, inr}
use Rattle.std.specs.Prelude.{◌==◌}
use Rattle.std.specs.List.{list_any}
use Rattle.std.proofs.lemmas.Bool.{and_parts, or_cases, eqb-true}
use Rattle.lsn_core.specs.Segment.{segment_bytes, StoreSettings}
use Rattle.lsn_core.specs.Files.{Files}
use Rattle.lsn_core.specs.Tip.{Tip}
use Rattle.wal_pages.specs.Places.{start_after}
use Rattle.wal_reader.specs.Wal.{ReadsOn}
use Rattle.wal_record.specs.Tips.{first_tip, tip_after, tip_behind}
use Rattle.wal_record.specs.declared.record.Record.{Record}
use Rattle.history.specs.Entry.{Entry, is_of_run}
use Rattle.history.specs.Whole.{entry_of}
use Rattle.history.specs.Written.{is_redo, tip_past, tip_over, tip_of}
use Rattle.history.proofs.Histories.{tip_over_read, tip_over-append}
use Rattle.journal.specs.Lawful.{StandInPlace}
use Rattle.journal.proofs.Stands.{start_later, stand_behind, over_later}
use Rattle.store_locks.specs.Copied.{is_redo_at, HasRedoPoint}

-- ---- a redo point among entries

-- the entry of a redo point starts there
redo_start : (place : ℕ) (e : Entry) → is_redo_at place e ≡ true → e.start ≡ place
redo_start place e is = eqb-true e.start place (and_parts (e.start == place) (is_redo e.act) (and_parts ((e.start == place) && is_redo e.act) (is_of_run e) is).0).0

redo_past : (mib last place : ℕ) (es : List Entry) → StandInPlace mib last es → HasRedoPoint es place → last ≤ place
redo_past mib last place [] stands redo = absurd cc
redo_past mib last place (e ∷ es) stands redo =
    let start : e.start ≡ start_after mib last = stands.0 in
    let long : e.start < e.end = stands.1 in
    elim (or_cases (is_redo_at place e) (list_any (is_redo_at place) es) redo) [
      | inl here ↦ omega (arith, start, start_later mib last, redo_start place e here)
      | inr later ↦ omega (arith, start, long, start_later mib last, redo_past mib e.end place es stands.2 later)
    ]

redo_before : (mib : ℕ) (tip : Tip) (place : ℕ) (es : List Entry) → StandInPlace mib tip.end es → HasRedoPoint es place → place < (tip_over tip es).end
redo_before mib tip place [] stands redo = absurd cc
redo_before mib tip place (e ∷ es) stands redo = elim (or_cases (is_redo_at place e) (list_any (is_redo_at place) es) redo) [
  | inl here ↦
      let long : e.start < e.end = stands.1 in
      let later : e.end ≤ (tip_over (tip_past tip e) es).end = over_later mib (tip_past tip e) es stands.2 in
      omega (arith, long, later, redo_start place e here)
  | inr behind ↦ redo_before mib (tip_past tip e) place es stands.2 behind
]

-- no entry that was found has one
and_false : (b : Bool) → (b && false) ≡ false
and_false true = refl
and_false false = refl

not_found : (place : ℕ) (rs : List Record) (own : List Entry) → HasRedoPoint (map entry_of rs ++ own) place → HasRedoPoint own place
not_found place [] own redo = redo
not_found place (r ∷ rs) own redo =
    not_found place rs own
    (sym (ap (λ (b : Bool). b || list_any (is_redo_at place) (map entry_of rs ++ own)) (and_false ((r.start.0 == place) && is_redo (entry_of r).act))) ∙ redo)

-- ---- a run's

-- a redo point of a history that a run came to stands where the found entries end or past it, and below
-- the end
pub own_place : (mib place : ℕ) (rs : List Record) (own history : List Entry) → history ≡ map entry_of rs ++ own → StandInPlace mib (segment_bytes mib) history → HasRedoPoint history place
    → ((tip_behind (first_tip mib) rs).end ≤ place) × (place < (tip_of mib history).end)
own_place mib place rs own history grown stands redo =
    let parts : StandInPlace mib (segment_bytes mib) (map entry_of rs ++ own) = subst (StandInPlace mib (segment_bytes mib)) grown stands in
    let behind : StandInPlace mib (tip_behind (first_tip mib) rs).end own = subst (λ (t : Tip). StandInPlace mib t.end own) (tip_over_read (first_tip mib) rs) (stand_behind mib (first_tip mib) (map entry_of rs) own parts) in (
      redo_past mib (tip_behind (first_tip mib) rs).end place own behind (not_found place rs own (subst (λ (h : List Entry). HasRedoPoint h place) grown redo)),
      redo_before mib (first_tip mib) place history stands redo,
    )

-- the end isn't before that of the found entries
pub ends_later : (mib : ℕ) (rs : List Record) (own history : List Entry) → history ≡ map entry_of rs ++ own → StandInPlace mib (segment_bytes mib) history → (tip_behind (first_tip mib) rs).end ≤ (tip_of mib history).end
ends_later mib rs own history grown stands =
    let t : Tip = tip_over (first_tip mib) (map entry_of rs) in
    let parts : StandInPlace mib (segment_bytes mib) (map entry_of rs ++ own) = subst (StandInPlace mib (segment_bytes mib)) grown stands in
    let later : t.end ≤ (tip_over t own).end = over_later mib t own (stand_behind mib (first_tip mib) (map entry_of rs) own parts) in
    let whole : tip_of mib history ≡ tip_over t own = ap (tip_of mib) grown ∙ tip_over-append (first_tip mib) (map entry_of rs) own in
    subst (λ (u : Tip). u.end ≤ (tip_of mib history).end) (tip_over_read (first_tip mib) rs) (subst (λ (u : Tip). t.end ≤ u.end) (sym whole) later)

-- the end of entries that were read
pub read_tip : (s : StoreSettings) (files : Files) (tip : Tip) (rs : List Record) (last : Tip) → ReadsOn s files tip rs last → last ≡ tip_behind tip rs
read_tip s files tip [] last reads = reads
read_tip s files tip (r ∷ rs) last reads = read_tip s files (tip_after tip r) rs last reads.1
