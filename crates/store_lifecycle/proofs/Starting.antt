-- What the values under the locks of a store keep where it is begun.
use Rattle.std.proofs.Common.{◌≡◌, ℕ, ◌<◌, true, List, [], length, replicate, Option, IsSome, refl, sym, ap, subst, ◌∙◌, arith}
use Rattle.std.proofs.lemmas.List.{append-nil, length-replicate}
use Rattle.std.proofs.lemmas.List.Elements.{All-nil}
use Rattle.lsn_core.specs.Files.{Files}
use Rattle.lsn_core.specs.Segment.{StoreSettings}
use Rattle.lsn_core.specs.Tip.{Tip}
use Rattle.vault.specs.declared.area.Vault.{Ghosts}
use Rattle.wal_writer.specs.Log.{Log, IsLog, log_at}
use Rattle.history.specs.Entry.{Entry, is_of_run}
use Rattle.history.specs.partitions.Parts.{concerns}
use Rattle.journal.specs.Journal.{Written}
use Rattle.journal.specs.Lawful.{IsLawful}
use Rattle.page_pool.specs.Part.{Part}
use Rattle.store_ledgers.specs.Counts.{Counts, Held, count_at, none}
use Rattle.page_pool.specs.Facts.{IsPartOf}
use Rattle.store_locks.specs.Open.{AreCounts}
use Rattle.store_locks.specs.Calls.{MayWriteWal, IsOfRun}
use Rattle.store_locks.specs.Inside.{written_end}
use Rattle.store_areas.specs.Read.{IsFound}
use Rattle.store_locks.specs.Locked.{RunsOn, IsDesk, IsHeldPart, WalStart, made_in, own_count}
use Rattle.store_locks.proofs.Growths.{behind_is}
use Rattle.store_locks.proofs.Goes.{writes_none}
use Rattle.store_locks.proofs.Keeping.{four}
use Rattle.store_areas.proofs.Readings.{found_tells}
use Rattle.store_lifecycle.proofs.NoneMade.{none_counted, none_of_run}

-- nothing of a run stands behind what was found
pub runs_none : (found pen : List Entry) → pen ≡ found → RunsOn found pen
runs_none found pen same = record { own = []; all = same ∙ sym (append-nil found); by = All-nil (λ (e : Entry). is_of_run e ≡ true) }

own_none : (q : ℕ) (found : List Entry) → own_count q found found ≡ 0
own_none q found = behind_is (concerns q) found found [] (sym (append-nil found))

none_at : (q : ℕ) → q < 4 → count_at q none ≡ 0
none_at q lt = four (λ p. count_at p none ≡ 0) refl refl refl refl q lt

-- what is known of a partition where an area tells, where areas do
part_told : (q relseg : ℕ) (tells told : Type 0) (history : List Entry) (part : Part) → (tells → told) → IsPartOf q relseg told history part → IsPartOf q relseg tells history part
part_told q relseg tells told history part on p = record {
  follows = p.follows;
  relseg_is = p.relseg_is;
  own = λ t. p.own (on t);
  told = λ t. p.told (on t);
  alone = λ t. p.alone (on t);
}

pub held_begun : (q start : ℕ) (settings : StoreSettings) (tells told : Type 0) (found list : List Entry) (part : Part) (share : Held) (faults : ℕ) → list ≡ found → (tells → told) → IsPartOf q settings.relseg told found part → (tells → IsLawful settings.segment found)
    → count_at q share.parts ≡ 1 → count_at q share.amounts ≡ 0 → start ≡ part.faults → faults ≡ 0 → IsHeldPart q settings tells found start part list share faults
held_begun q start settings tells told found list part share faults same on is lawful one nothing starts none_booked = record {
  is = subst (λ l. IsPartOf q settings.relseg tells l part) (sym same) (part_told q settings.relseg tells told found part on is);
  lawful = λ t. subst (IsLawful settings.segment) (sym same) (lawful t);
  grown = runs_none found list same;
  whole = one;
  counted = nothing ∙ sym (ap (own_count q found) same ∙ own_none q found);
  risen = (omega (arith, starts), omega (arith, starts, none_booked));
}

pub lawful_found : {W : Type 0} (g : Ghosts W) (s : StoreSettings) (area : W) (found : List Entry) (pages : ℕ) (tip : Tip) → IsLog (log_at s tip) → IsFound (g.files area) s found pages tip → IsSome (g.files area) → IsLawful s.segment found
lawful_found g s area found pages tip known is some = (found_tells (g.files area) s found pages tip known some is).lawful

-- the workers' commands are none yet
pub counts_begun : (files : Option Files) (s : StoreSettings) (found : List Entry) (pages workers : ℕ) (tip : Tip) (counts : List ℕ) → IsFound files s found pages tip → counts ≡ replicate workers 0 → AreCounts counts found
counts_begun files s found pages workers tip counts is same =
    subst (λ (ns : List ℕ). AreCounts ns found) (sym same) (subst (AreCounts (replicate workers 0)) (sym is.has.history_is) (none_counted workers is.has.found))

-- nor made they any entry of what was found
pub none_made : (files : Option Files) (s : StoreSettings) (found : List Entry) (pages : ℕ) (tip : Tip) → IsFound files s found pages tip → length (made_in found) ≡ 0
none_made files s found pages tip is = ap (λ (h : List Entry). length (made_in h)) is.has.history_is ∙ ap (λ (es : List Entry). length es) (none_of_run is.has.found)

pub desk_begun : {W : Type 0} (g : Ghosts W) (s : StoreSettings) (tells : Type 0) (found : List Entry) (workers : ℕ) (from : WalStart) (start : ℕ) (journal : Written W) (mark : ℕ) (counts : List ℕ) (entries : Counts) (made faults : ℕ) (area : W) (tip : Tip)
    → journal.wal.area ≡ area → journal.wal.tail ≡ log_at s tip → journal.pen ≡ found → mark ≡ tip.end → counts ≡ replicate workers 0 → entries ≡ none → made ≡ 0 → faults ≡ 0 → start ≡ g.faults area → from ≡ record { files = g.files area; flushed = tip.end }
    → (tells → IsSome (g.files area)) → AreCounts counts found → length (made_in found) ≡ 0 → IsDesk g s tells found workers from start journal mark counts entries made faults
desk_begun {W} g s tells found workers from start journal mark counts entries made faults area tip at tail_is pen_is marked counts_are entries_are made_are faults_are starts from_is told are nothing =
    let flushed : journal.wal.tail.flushed ≡ tip.end = ap (λ (log : Log). log.flushed) tail_is in
    let begun : from.flushed ≡ tip.end = ap (λ (f : WalStart). f.flushed) from_is in
    let files : from.files ≡ g.files area = ap (λ (f : WalStart). f.files) from_is in
    let count : g.faults journal.wal.area ≡ g.faults area = ap g.faults at in
    record {
      wal = record {
        segment = ap (λ (log : Log). log.mib) tail_is;
        system = ap (λ (log : Log). log.system) tail_is;
        flushed = omega (arith, marked, flushed);
        told = λ t. subst (λ (v : W). IsSome (g.files v)) (sym at) (told t);
      };
      grown = record { own = []; all = pen_is ∙ sym (append-nil found); by = All-nil (λ (e : Entry). is_of_run e ≡ true) };
      of_run = All-nil (IsOfRun workers);
      counted = subst (AreCounts counts) (sym pen_is) are;
      crew = ap (λ (ns : List ℕ). length ns) counts_are ∙ length-replicate {A = ℕ} workers 0;
      booked = made_are ∙ (sym nothing ∙ sym (ap (λ (h : List Entry). length (made_in h)) pen_is));
      concerned_are = λ q lt. ap (count_at q) entries_are ∙ (none_at q lt ∙ sym (ap (own_count q found) pen_is ∙ own_none q found));
      risen = (omega (arith, starts, count), omega (arith, starts, faults_are, count));
      within = omega (arith, begun, flushed);
      since = subst (λ (v : W). MayWriteWal s.segment from.flushed (written_end journal) from.files (g.files v)) (sym at)
          (subst (λ f. MayWriteWal s.segment from.flushed (written_end journal) from.files f) files (writes_none s.segment from.flushed (written_end journal) from.files));
    }
