-- Replay of records over a sound copy gives what all records make from nothing.
use Rattle.std.proofs.Common.{◌≡◌, ℕ, ◌≤◌, Bool, true, false, cond, List, [], ◌∷◌, map, refl, sym, ap, ◌∙◌, arith}
use Rattle.std.specs.Prelude.{nat_le}
use Rattle.std.specs.List.{filter}
use Rattle.std.specs.FinMap.{empty}
use Rattle.wal_record.specs.declared.record.Record.{Record}
use Rattle.history.specs.Entry.{Entry}
use Rattle.history.specs.Apply.{apply_all}
use Rattle.history.specs.Whole.{entry_of}
use Rattle.history.specs.Redo.{redone}
use Rattle.history.specs.fuzzy_copies.Orderly.{AreRead, RecordsRise}
use Rattle.history.specs.fuzzy_copies.Recovered.{entries_by, is_replayed}
use Rattle.history.specs.fuzzy_copies.Laws.{RecordsCompleteCopies}
use Rattle.history.proofs.fuzzy_copies.Replay.{replay_completes}
use Rattle.history.proofs.fuzzy_copies.Repeats.{redo_entries, entries_rise}

pub all_read : (rs : List Record) → AreRead (map entry_of rs)
all_read [] = refl
all_read (r ∷ rs) = all_read rs

pub filter_entries : (p : Entry → Bool) (q : Record → Bool) → ((r : Record) → p (entry_of r) ≡ q r) → (rs : List Record) → filter p (map entry_of rs) ≡ map entry_of (filter q rs)
filter_entries p q same [] = refl
filter_entries p q same (r ∷ rs) =
    let rest = filter_entries p q same rs in
    ap (λ b. cond b (entry_of r ∷ filter p (map entry_of rs)) (filter p (map entry_of rs))) (same r)
    ∙ elim (q r) as (λ b. cond b (entry_of r ∷ filter p (map entry_of rs)) (filter p (map entry_of rs)) ≡ map entry_of (cond b (r ∷ filter q rs) (filter q rs))) [ true ↦ ap (λ (l : List Entry). entry_of r ∷ l) rest | false ↦ rest ]

lower : (a b : ℕ) (rs : List Record) → a ≤ b → RecordsRise b rs → RecordsRise a rs
lower a b [] h r = tt
lower a b (x ∷ rs) h r = (let k = r.0 in omega arith, r.1, r.2, r.3)

records_filter : (q : Record → Bool) (last : ℕ) (rs : List Record) → RecordsRise last rs → RecordsRise last (filter q rs)
records_filter q last [] r = tt
records_filter q last (x ∷ rs) r =
    let rest = records_filter q x.end.0 rs r.3 in
    elim (q x) as (λ b. RecordsRise last (cond b (x ∷ filter q rs) (filter q rs))) [ true ↦ (r.0, r.1, r.2, rest) | false ↦ lower last x.end.0 (filter q rs) (let a = r.0 in let b = r.1 in omega arith) rest ]

pub records_complete : RecordsCompleteCopies
records_complete copy rs from to place orderly sound far =
    redo_entries 0 copy (filter (λ r. is_replayed from place (entry_of r)) rs) (records_filter (λ r. is_replayed from place (entry_of r)) 0 rs orderly)
    ∙ ap (entries_by redone copy) (sym (filter_entries (is_replayed from place) (λ r. is_replayed from place (entry_of r)) (λ r. refl) rs))
    ∙ replay_completes copy (map entry_of rs) from to place (entries_rise 0 rs orderly) (all_read rs) sound far
    ∙ ap (apply_all empty) (filter_entries (λ e. nat_le e.end place) (λ r. nat_le r.end.0 place) (λ r. refl) rs)
