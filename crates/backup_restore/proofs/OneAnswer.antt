-- Restores of the same files answer the same.
use Rattle.std.proofs.Common.{◌≡◌, ℕ, List, Option, Some, IfSome, sym, ap, subst, ◌∙◌}
use Rattle.std.specs.FinMap.{len}
use Rattle.lsn_core.specs.Files.{Files}
use Rattle.lsn_core.specs.Store.{Store, files_of}
use Rattle.lsn_core.specs.Tip.{Tip}
use Rattle.lsn_core.specs.declared.lsn.Lsn.{Lsn}
use Rattle.wal_record.specs.declared.record.Record.{Record}
use Rattle.wal_archive.specs.Rules.{End}
use Rattle.history.specs.Pages.{page_count}
use Rattle.history.specs.Redo.{redo_all}
use Rattle.recovery.specs.declared.reading.Beginning.TheVariants.{AtPlace}
use Rattle.recovery.specs.declared.replaying.Replayed.{Replayed}
use Rattle.recovery.specs.Onward.{IsReadFrom, replayed_to, ending_by, end_from}
use Rattle.recovery.proofs.OneWal.{same_lsn}
use Rattle.chain_files.specs.Segments.{chain_segments, AllHaveForms}
use Rattle.chain_files.specs.Sources.{OfChain}
use Rattle.backup_restore.specs.Restored.{MakesOf}
use Rattle.backup_restore.specs.Laws.{RestoresHaveOneAnswer}
use Rattle.backup_restore.proofs.Directories.{one_store}
use Rattle.backup_restore.proofs.OneReading.{both_end}

-- ---- what was restored

replayed_with : Lsn → ℕ → ℕ → Tip → Replayed
replayed_with end forks pages tip = record { end = end; forks = forks; pages = pages; tip = tip }

same_replayed : (a b : Replayed) → a.end ≡ b.end → a.forks ≡ b.forks → a.pages ≡ b.pages → a.tip ≡ b.tip → a ≡ b
unfolding replayed_with
same_replayed a b end forks pages tip =
    ap (λ (x : Lsn). replayed_with x a.forks a.pages a.tip) end
    ∙ ap (λ (n : ℕ). replayed_with b.end n a.pages a.tip) forks
    ∙ ap (λ (n : ℕ). replayed_with b.end b.forks n a.tip) pages
    ∙ ap (λ (t : Tip). replayed_with b.end b.forks b.pages t) tip

pub some_is : {A : Type 0} (x y : A) → ◌≡◌ {A = Option A} (Some x) (Some y) → x ≡ y
some_is x y e = cc

record IsSameMade (one other : Replayed) (out left : Option Files) : Type 0 where
  forks : one.forks ≡ other.forks
  pages : one.pages ≡ other.pages
  files : out ≡ left

same_made : (relseg : ℕ) (chain : List Files) (entries : List Record) (place : ℕ) (one other : Replayed) (out left : Option Files) → MakesOf relseg chain entries place one out → MakesOf relseg chain entries place other left → IsSameMade one other out left
same_made relseg chain entries place one other out left a b =
    let copies : a.copy ≡ b.copy = one_store relseg (chain_segments chain) a.copy b.copy a.held b.held in
    let stores : a.store ≡ b.store = some_is a.store b.store (sym a.redone ∙ ap (λ (c : Store). redo_all c (ending_by place entries)) copies ∙ b.redone) in
    record {
      forks = a.forks ∙ ap len stores ∙ sym b.forks;
      pages = a.pages ∙ ap page_count stores ∙ sym b.pages;
      files = a.written ∙ ap (λ (t : Store). Some (files_of relseg t)) stores ∙ sym b.written;
    }

-- what holds of a value that is told
pub told_is : (P : Files → Type 0) (o : Option Files) (m : Files) → o ≡ Some m → IfSome o P → P m
told_is P o m is held = subst (λ (x : Option Files). IfSome x P) is held

pub chain_is : (P : List Files → Type 0) (o : Option (List Files)) (chain : List Files) → o ≡ Some chain → AllHaveForms chain → OfChain o P → P chain
chain_is P o chain is forms held = subst (λ (x : Option (List Files)). OfChain x P) is held forms

pub one_answer : RestoresHaveOneAnswer
one_answer s start upto wal chain old new before behind one other a b restored again =
    let first = told_is (λ m. IsReadFrom s m (AtPlace start) upto restored.entries one.tip End) old.wal.files wal a.wal_told restored.read.archive in
    let second = told_is (λ m. IsReadFrom s m (AtPlace start) upto again.entries other.tip End) before.wal.files wal b.wal_told again.read.archive in
    let read = both_end s wal (AtPlace start) upto restored.entries again.entries one.tip other.tip first second in
    let place : replayed_to upto one.tip ≡ replayed_to upto other.tip = ap (replayed_to upto) read.tips in
    let made = chain_is (λ m. MakesOf s.relseg m restored.entries (replayed_to upto one.tip) one new.out.files) old.chain chain a.chain_told a.forms (restored.made a.out_told) in
    let made_again = chain_is (λ m. MakesOf s.relseg m again.entries (replayed_to upto other.tip) other behind.out.files) before.chain chain b.chain_told b.forms (again.made b.out_told) in
    let moved = subst (λ (rs : List Record). MakesOf s.relseg chain rs (replayed_to upto one.tip) other behind.out.files) (sym read.entries)
    (subst (λ (n : ℕ). MakesOf s.relseg chain again.entries n other behind.out.files) (sym place) made_again) in
    let same = same_made s.relseg chain restored.entries (replayed_to upto one.tip) one other new.out.files behind.out.files made moved in
    let ends : one.end.0 ≡ other.end.0 =
    restored.end
    ∙ ap (λ (rs : List Record). end_from s.segment (AtPlace start) (ending_by (replayed_to upto one.tip) rs)) read.entries
    ∙ ap (λ (n : ℕ). end_from s.segment (AtPlace start) (ending_by n again.entries)) place
    ∙ sym again.end in
    (same_replayed one other (same_lsn one.end other.end ends) same.forks same.pages read.tips, same.files)
