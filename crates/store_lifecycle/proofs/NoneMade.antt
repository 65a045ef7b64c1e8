-- No worker has an entry of a WAL that was found.
use Rattle.std.proofs.Common.{◌≡◌, ℕ, List, [], ◌∷◌, map, length, replicate, refl, sym, ap, ◌∙◌, arith}
use Rattle.std.proofs.lemmas.List.{get_or-replicate, length-replicate}
use Rattle.wal_record.specs.declared.record.Record.{Record}
use Rattle.history.specs.Entry.{Entry}
use Rattle.history.specs.Whole.{entry_of}
use Rattle.store_locks.specs.Seen.{accepted_by}
use Rattle.store_locks.specs.Locked.{made_in}
use Rattle.store_locks.specs.Open.{AreCounts}

-- ---- no worker has an entry of it

none_by : (worker : ℕ) (rs : List Record) → accepted_by worker (map entry_of rs) ≡ []
none_by worker [] = refl
none_by worker (r ∷ rs) = none_by worker rs

pub none_of_run : (rs : List Record) → made_in (map entry_of rs) ≡ []
none_of_run [] = refl
none_of_run (r ∷ rs) = none_of_run rs

pub none_counted : (workers : ℕ) (rs : List Record) → AreCounts (replicate workers 0) (map entry_of rs)
none_counted workers rs worker below =
    get_or-replicate workers worker 0 0 (omega (arith, below, length-replicate {A = ℕ} workers 0)) ∙ sym (ap (λ (es : List Entry). length es) (none_by worker rs))
