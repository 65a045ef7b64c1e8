-- What is known of an open store's parts stays.
use Rattle.std.proofs.Common.{◌≡◌, ℕ, ◌≤◌, true, false, List, [], ◌∷◌, ◌++◌, Option, Some, None, IsSome, IfSome, is_some, refl, sym, ap, subst, ◌∙◌, arith}
use Rattle.std.specs.Prelude.{◌==◌}
use Rattle.std.specs.List.{list_any}
use Rattle.std.proofs.lemmas.Bool.{eqb-true}
use Rattle.std.proofs.lemmas.List.Elements.{All-push}
use Rattle.lsn_core.specs.Files.{Files}
use Rattle.lsn_core.specs.Segment.{StoreSettings}
use Rattle.lsn_core.specs.Tip.{Tip, tip_with}
use Rattle.vault.specs.Area.{Related}
use Rattle.vault.specs.Frame.{AgreeBut}
use Rattle.rel_files.specs.Forks.{IsForkPath}
use Rattle.rel_files.specs.Laws.{HasOnlyForks}
use Rattle.history.specs.Entry.{Entry, is_of_run}
use Rattle.history.specs.Written.{tip_past, tip_over}
use Rattle.history.proofs.Pushes.{all_first, all_rest}
use Rattle.history.specs.partitions.Parts.{ConcernsNoOther}
use Rattle.history.specs.fuzzy_copies.Orderly.{AllEndBy, AreOwnFrom}
use Rattle.history.proofs.fuzzy_copies.Completed.{or_second}
use Rattle.vault.specs.declared.area.Vault.{Ghosts}
use Rattle.journal.specs.Journal.{IsEndOf, Written}
use Rattle.page_frames.specs.Marks.{touch_end, DirtyMarks}
use Rattle.page_pool.specs.Part.{Part}
use Rattle.page_pool.specs.Steps.{HasWritten, HasApplied}
use Rattle.page_pool.specs.Facts.{history_end}
use Rattle.page_pool.specs.Calls.{SameUnwritten, SameDisk, ReadsDisk, ChangesForks}
use Rattle.page_pool.proofs.Followed.{own_followed, writes_followed}
use Rattle.page_pool.specs.Facts.{IsPartOf}
use Rattle.store_locks.specs.Open.{IsWalOf}
use Rattle.store_locks.specs.Inside.{AddsOnly}

-- where an entry ends is at most where all end by
pub end_within : (es : List Entry) (at place : ℕ) → AllEndBy place es → IsEndOf es at → at ≤ place
end_within [] at place all end = absurd cc
end_within (e ∷ es) at place all end =
    elim (e.end == at) as (λ b. (e.end == at) ≡ b → at ≤ place) [
      | true ↦ λ is. omega (arith, eqb-true e.end at is, all_first (λ (x : Entry). x.end ≤ place) e es all)
      | false ↦ λ is. end_within es at place (all_rest (λ (x : Entry). x.end ≤ place) e es all) (or_second (e.end == at) (list_any (λ (x : Entry). x.end == at) es) end is)
    ] refl

-- and so is what ends where an entry does, if there is anything
pub none_past : (o : Option ℕ) (es : List Entry) (place mark : ℕ) → AllEndBy place es → place ≤ mark → IfSome o (IsEndOf es) → IfSome o (λ end. end ≤ mark)
none_past None es place mark all up end = tt
none_past (Some at) es place mark all up end = (let le = end_within es at place all end in omega (arith, le, up))

-- ---- areas

pub some_back : (R : Files → Files → Type 0) (o n : Option Files) → Related R o n → IsSome n → IsSome o
some_back R None None related some = some
some_back R (Some x) (Some y) related some = refl
some_back R None (Some y) related some = absurd related
some_back R (Some x) None related some = refl

pub some_on : (R : Files → Files → Type 0) (o n : Option Files) → Related R o n → IsSome o → IsSome n
some_on R None None related some = some
some_on R (Some x) (Some y) related some = refl
some_on R None (Some y) related some = refl
some_on R (Some x) None related some = absurd related

pub forks_kept : (o n : Option Files) → Related (AgreeBut IsForkPath) o n → IfSome o HasOnlyForks → IfSome n HasOnlyForks
forks_kept None None related alone = tt
forks_kept (Some x) (Some y) related alone = λ path none. related path none ∙ alone path none
forks_kept None (Some y) related alone = absurd related
forks_kept (Some x) None related alone = tt

-- ---- a partition

-- after writes
pub part_written : (q relseg : ℕ) (tells : Type 0) (history : List Entry) (old new : Part) → HasWritten old new → ChangesForks old new → IsPartOf q relseg tells history old → IsPartOf q relseg tells history new
part_written q relseg tells history old new written area p = record {
  follows = writes_followed q history old new written p.follows;
  relseg_is = area.relseg ∙ p.relseg_is;
  own = λ t. subst (λ n. AreOwnFrom n history) (sym written.point) (p.own t);
  told = λ t. some_on (AgreeBut IsForkPath) old.disk new.disk area.files (p.told t);
  alone = λ t. forks_kept old.disk new.disk area.files (p.alone t);
}

pub unwritten_same : (old new : Part) → SameUnwritten old new → is_some new.disk ≡ is_some old.disk → HasWritten old new
unwritten_same old new same told = record {
  frames = λ some. same.frames;
  marks = λ fork block end e. ap (λ (ms : DirtyMarks). touch_end ms fork block) (sym same.marks) ∙ e;
  done = 0;
  works = same.works;
  point = same.point;
  told = told;
}

-- where its area has the same files
part_alike : (q relseg : ℕ) (tells : Type 0) (history : List Entry) (old new : Part) → SameUnwritten old new → new.relseg ≡ old.relseg → new.disk ≡ old.disk → IsPartOf q relseg tells history old → IsPartOf q relseg tells history new
part_alike q relseg tells history old new same size files p = record {
  follows = writes_followed q history old new (unwritten_same old new same (ap (λ (o : Option Files). is_some o) files)) p.follows;
  relseg_is = size ∙ p.relseg_is;
  own = λ t. subst (λ n. AreOwnFrom n history) (sym same.point) (p.own t);
  told = λ t. subst (λ (o : Option Files). IsSome o) (sym files) (p.told t);
  alone = λ t. subst (λ (o : Option Files). IfSome o HasOnlyForks) (sym files) (p.alone t);
}

-- which wasn't touched
pub part_same : (q relseg : ℕ) (tells : Type 0) (history : List Entry) (old new : Part) → SameUnwritten old new → SameDisk old new → IsPartOf q relseg tells history old → IsPartOf q relseg tells history new
part_same q relseg tells history old new same area p = part_alike q relseg tells history old new same area.relseg area.files p

-- which was read
pub part_read : (q relseg : ℕ) (tells : Type 0) (history : List Entry) (old new : Part) → SameUnwritten old new → ReadsDisk old new → IsPartOf q relseg tells history old → IsPartOf q relseg tells history new
part_read q relseg tells history old new same reads p = part_alike q relseg tells history old new same reads.relseg reads.files p

pub sized : (q relseg : ℕ) (tells : Type 0) (history : List Entry) (part : Part) → IsPartOf q relseg tells history part → IsPartOf q part.relseg tells history part
sized q relseg tells history part p = record { follows = p.follows; relseg_is = refl; own = p.own; told = p.told; alone = p.alone }

-- ---- one more entry

end_over : (tip : Tip) (es : List Entry) (e : Entry) → (tip_over tip (es ++ (e ∷ []))).end ≡ e.end
end_over tip [] e = refl
end_over tip (f ∷ es) e = end_over (tip_past tip f) es e

pub history_ends : (history : List Entry) (e : Entry) → history_end (history ++ (e ∷ [])) ≡ e.end
history_ends history e = end_over (tip_with 0 0 0 0) history e

-- that a partition did
pub own_kept : (q relseg : ℕ) (tells : Type 0) (history : List Entry) (e : Entry) (old new : Part) → history_end history ≤ e.start → e.start ≤ e.end → ConcernsNoOther q e.act → is_of_run e ≡ true → HasApplied e.end e.act old new → SameDisk old new
    → IsPartOf q relseg tells history old → IsPartOf q relseg tells (history ++ (e ∷ [])) new
own_kept q relseg tells history e old new from long alone ours applied area p = record {
  follows = own_followed q history e old new from long alone applied p.follows;
  relseg_is = area.relseg ∙ p.relseg_is;
  own = λ t. subst (λ n. AreOwnFrom n (history ++ (e ∷ []))) (sym applied.point) (All-push (λ (x : Entry). old.point ≤ x.start → is_of_run x ≡ true) history e (p.own t) (λ ge. ours));
  told = λ t. subst (λ (o : Option Files). IsSome o) (sym area.files) (p.told t);
  alone = λ t. subst (λ (o : Option Files). IfSome o HasOnlyForks) (sym area.files) (p.alone t);
}

-- ---- the parts of an open store

pub wal_after : {V : Type 0} (g : Ghosts V) (settings : StoreSettings) (mark : ℕ) (tells : Type 0) (old new : Written V) → AddsOnly old new → IsWalOf g settings tells old.wal mark → IsWalOf g settings tells new.wal mark
wal_after {V} g settings mark tells old new adds w = record {
  segment = adds.segment ∙ w.segment;
  system = adds.system ∙ w.system;
  flushed = subst (λ n. mark ≤ n) (sym adds.flushed) w.flushed;
  told = λ t. subst (λ (a : V). IsSome (g.files a)) (sym adds.area) (w.told t);
}

pub resized : (q a b : ℕ) (tells : Type 0) (history : List Entry) (part : Part) → a ≡ b → IsPartOf q a tells history part → IsPartOf q b tells history part
resized q a b tells history part same p = subst (λ n. IsPartOf q n tells history part) same p
