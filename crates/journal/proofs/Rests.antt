-- Between flushes that succeed nothing is written to the WAL's area, so that a stop leaves its files.
use Rattle.std.proofs.Common.{◌≡◌, ℕ, ◌<◌, ◌≤◌, Result, Ok, Err, OnOk, OnErr, IsOk, inl, inr, sym, ap, subst, arith}
use Rattle.std.proofs.lemmas.Bool.{cases_lt}
use Rattle.lsn_core.specs.declared.fault.AreaFault.{AreaFault}
use Rattle.vault.specs.Frame.{IsDurable, OnlyReads}
use Rattle.vault.specs.declared.area.Vault.{Ghosts}
use Rattle.wal_record.specs.declared.record.Record.{Record}
use Rattle.wal_record.specs.declared.record.Kind.{Kind}
use Rattle.wal_writer.specs.declared.state.Flushed.{Flushed}
use Rattle.wal_writer.specs.declared.state.WalState.{WalState}
use Rattle.wal_writer.specs.declared.fault.AppendFault.{AppendFault}
use Rattle.wal_writer.specs.declared.fault.AppendFault.TheVariants.{WalFull, NoMemory}
use Rattle.wal_writer.specs.Log.{Log, flush_end, touched_to}
use Rattle.wal_writer.specs.Answers.{AppendAnswer, Flushes}
use Rattle.journal.specs.Journal.{IsAtRest}

-- the places of a log up to which it is flushed, and before which bytes of a failed flush may stand
pub record SamePlaces (old new : Log) : Type 0 where
  pub flushed : new.flushed ≡ old.flushed
  pub touched : new.touched ≡ old.touched

pub kept_log : (kind : Kind) (old new : Log) (fault : AppendFault) → AppendAnswer kind old new (Err fault) → new ≡ old
kept_log kind old new WalFull answer = answer.0
kept_log kind old new NoMemory answer = answer

pub more_log : (kind : Kind) (old new : Log) (r : Record) → AppendAnswer kind old new (Ok r) → SamePlaces old new
more_log kind old new r answer =
    let e = answer.1.0 in record { flushed = ap (λ (l : Log). l.flushed) e; touched = ap (λ (l : Log). l.touched) e }

pub rests_on : {V : Type 0} (g : Ghosts V) (old new : WalState V) → SamePlaces old.tail new.tail → new.area ≡ old.area → IsAtRest g old → IsAtRest g new
rests_on {V} g old new places area rest still =
    subst (λ (v : V). IsDurable (g.files v) (g.past v)) (sym area) (rest (omega (arith, places.flushed, places.touched, still)))

pub rests_as : {V : Type 0} (g : Ghosts V) (old new : WalState V) → new.tail ≡ old.tail → new.area ≡ old.area → IsAtRest g old → IsAtRest g new
rests_as g old new same area rest =
    rests_on g old new (record { flushed = ap (λ (l : Log). l.flushed) same; touched = ap (λ (l : Log). l.touched) same }) area rest

pub rests_read : {V : Type 0} (g : Ghosts V) (old new : WalState V) → new.tail ≡ old.tail → OnlyReads g old.area new.area → IsAtRest g old → IsAtRest g new
rests_read g old new same reads rest still =
    rw (reads.files, reads.past) (rest (subst (λ (l : Log). l.touched ≤ l.flushed) same still))

pub rests_flushed : {V : Type 0} (g : Ghosts V) (old new : WalState V) (to : ℕ) (result : Result Flushed AreaFault) → (to ≤ old.tail.flushed → new ≡ old) → (to ≤ old.tail.flushed → IsOk result) → OnOk result (Flushes g to old new)
    → OnErr result (new.tail ≡ touched_to old.tail (flush_end old.tail to)) → IsAtRest g old → IsAtRest g new
rests_flushed {V} g old new to result idle succeeds flushed stands rest =
    elim (cases_lt old.tail.flushed to) [
      | inl lt ↦ above result flushed stands lt
      | inr le ↦ subst (IsAtRest g) (sym (idle le)) rest
    ]
  where
    above : (r : Result Flushed AreaFault) → OnOk r (Flushes g to old new) → OnErr r (new.tail ≡ touched_to old.tail (flush_end old.tail to)) → old.tail.flushed < to → IsAtRest g new
    above (Ok mark) done torn lt still = (done lt).1.1
    above (Err fault) done torn lt still =
        absurd (omega (arith, subst (λ (l : Log). l.touched ≤ l.flushed) torn still, lt))
