-- Forks and pages that are counted one after the other.
use Rattle.std.proofs.Common.{◌≡◌, ℕ, ◌+◌, ◌<◌, ◌≤◌, inl, inr, List, [], ◌∷◌, ◌++◌, take, length, get_or, Result, Err, sym, ap, subst, ◌∙◌, arith}
use Rattle.std.specs.Prelude.{IfOk}
use Rattle.std.specs.List.{sum_by}
use Rattle.std.proofs.lemmas.List.{length_push, take_more, take_all}
use Rattle.std.proofs.lemmas.List.Sums.{sum_by_push}
use Rattle.lsn_core.specs.Causes.{HasCause}
use Rattle.lsn_core.specs.Store.{Store}
use Rattle.lsn_core.specs.declared.fault.AreaFault.{AreaFault}
use Rattle.lsn_core.specs.declared.fault.AreaFault.TheVariants as area
use Rattle.lsn_core.specs.declared.fault.StoreFault.{StoreFault}
use Rattle.lsn_core.specs.declared.ids.ForkLen.{ForkLen}
use Rattle.vault.specs.declared.area.Vault.{Ghosts}
use Rattle.recovery.specs.declared.tally.Tally.{Tally}
use Rattle.rel_files.specs.Shown.{AreFilesOf, HoldsStore, ListsForks}
use Rattle.rel_files.specs.declared.forks.Forks.{Forks}
use Rattle.data_areas.specs.declared.areas.DataAreas.{DataAreas}
use Rattle.data_areas.specs.Areas.{area_of, data_fault, DataCause}
use Rattle.restart_areas.specs.Counting.{IsCountOf, CountsPages, SumsUp, IsFaultOf, CountsAll}

-- so many forks of the list were counted
pub record IsCountTo (list : List ForkLen) (i : ℕ) (tally : Tally) : Type 0 where
  pub forks : tally.forks ≡ length (take i list)
  pub pages : tally.pages ≡ sum_by (λ (f : ForkLen). f.blocks) (take i list)

pub count_start : (list : List ForkLen) (tally : Tally) → tally.forks ≡ 0 → tally.pages ≡ 0 → IsCountTo list 0 tally
count_start list tally forks pages = record { forks = forks; pages = pages }

pub count_step : (list : List ForkLen) (i : ℕ) (f : ForkLen) (old new : Tally) → i < length list → f ≡ get_or list i f → new.forks ≡ old.forks + 1 → new.pages ≡ old.pages + f.blocks → IsCountTo list i old → IsCountTo list (i + 1) new
count_step list i f old new less is forks pages before =
    let front : take (i + 1) list ≡ take i list ++ (f ∷ []) = take_more list i f less ∙ ap (λ (y : ForkLen). take i list ++ (y ∷ [])) (sym is) in
    record {
      forks = forks ∙ ap (λ (n : ℕ). n + 1) before.forks ∙ sym (length_push (take i list) f) ∙ sym (ap (λ (l : List ForkLen). length l) front);
      pages = pages ∙ ap (λ (n : ℕ). n + f.blocks) before.pages ∙ sym (sum_by_push (λ (x : ForkLen). x.blocks) (take i list) f) ∙ sym (ap (λ (l : List ForkLen). sum_by (λ (x : ForkLen). x.blocks) l) front);
    }

pub count_end : (list : List ForkLen) (i : ℕ) (tally : Tally) → length list ≤ i → IsCountTo list i tally → IsCountOf list tally
count_end list i tally all is =
    let whole : take i list ≡ list = take_all i list all in
    record {
      forks = is.forks ∙ ap (λ (l : List ForkLen). length l) whole;
      pages = is.pages ∙ ap (λ (l : List ForkLen). sum_by (λ (x : ForkLen). x.blocks) l) whole;
    }

-- ---- four areas

pub all_counted : {V : Type 0} (g : Ghosts V) (relseg : ℕ) (areas : DataAreas V) (first second third fourth : Result Tally AreaFault) (tally : Tally) → IfOk first (CountsPages relseg (g.files areas.data0)) → IfOk second (CountsPages relseg (g.files areas.data1))
    → IfOk third (CountsPages relseg (g.files areas.data2)) → IfOk fourth (CountsPages relseg (g.files areas.data3)) → SumsUp first second third fourth tally → CountsAll g relseg areas tally
all_counted g relseg areas first second third fourth tally c0 c1 c2 c3 is = record {
  first = is.one;
  second = is.two;
  third = is.three;
  fourth = is.four;
  data0 = subst (λ (r : Result Tally AreaFault). IfOk r (CountsPages relseg (g.files areas.data0))) is.one_is c0;
  data1 = subst (λ (r : Result Tally AreaFault). IfOk r (CountsPages relseg (g.files areas.data1))) is.two_is c1;
  data2 = subst (λ (r : Result Tally AreaFault). IfOk r (CountsPages relseg (g.files areas.data2))) is.three_is c2;
  data3 = subst (λ (r : Result Tally AreaFault). IfOk r (CountsPages relseg (g.files areas.data3))) is.four_is c3;
  together = is.together;
}

failed_at : {V : Type 0} (g : Ghosts V) (q : ℕ) (a b : DataAreas V) (counted : Result Tally AreaFault) (why : AreaFault) → q < 4 → counted ≡ Err why → HasCause (g.faults (area_of a q)) (g.faults (area_of b q)) counted → DataCause g a b (data_fault q why)
failed_at g q a b counted area.Failed below is cause = (below, cause.failed is)
failed_at g q a b counted area.NoMemory below is cause = tt

pub not_counted : {V : Type 0} (g : Ghosts V) (a b : DataAreas V) (first second third fourth : Result Tally AreaFault) (fault : StoreFault) → HasCause (g.faults a.data0) (g.faults b.data0) first → HasCause (g.faults a.data1) (g.faults b.data1) second
    → HasCause (g.faults a.data2) (g.faults b.data2) third → HasCause (g.faults a.data3) (g.faults b.data3) fourth → IsFaultOf first second third fourth fault → DataCause g a b fault
not_counted g a b first second third fourth fault c0 c1 c2 c3 (inl is) = subst (DataCause g a b) (sym is) tt
not_counted g a b first second third fourth fault c0 c1 c2 c3 (inr (inl is)) = subst (DataCause g a b) (sym is.1.1) (failed_at g 0 a b first is.0 (omega arith) is.1.0 c0)
not_counted g a b first second third fourth fault c0 c1 c2 c3 (inr (inr (inl is))) = subst (DataCause g a b) (sym is.1.1) (failed_at g 1 a b second is.0 (omega arith) is.1.0 c1)
not_counted g a b first second third fourth fault c0 c1 c2 c3 (inr (inr (inr (inl is)))) = subst (DataCause g a b) (sym is.1.1) (failed_at g 2 a b third is.0 (omega arith) is.1.0 c2)
not_counted g a b first second third fourth fault c0 c1 c2 c3 (inr (inr (inr (inr is)))) = subst (DataCause g a b) (sym is.1.1) (failed_at g 3 a b fourth is.0 (omega arith) is.1.0 c3)

-- ---- one area

pub area_counted : {V : Type 0} (g : Ghosts V) (relseg : ℕ) (area : V) (forks : Forks V) (list : List ForkLen) (tally : Tally) → ((s : Store) → AreFilesOf relseg (g.files area) s → HoldsStore g forks s) → ListsForks (HoldsStore g forks) list → IsCountOf list tally → CountsPages relseg (g.files area) tally
area_counted g relseg area forks list tally held lists counted part holds =
    subst (λ (l : List ForkLen). IsCountOf l tally) (lists part (held part holds.files)) counted
