-- A call on the files of a partition, of the pages of four.
use Rattle.std.proofs.Common.{◌≡◌, ℕ, zero, suc, ◌<◌, ◌^◌, Bool, true, false, cond, inl, inr, List, [], ◌∷◌, length, Option, None, Some, Result, Ok, Err, OnOk, IfSome, IsSome, refl, ap, sym, subst, ◌∙◌, arith}
use Rattle.std.specs.Prelude.{◌==◌, ◌≢◌, ◌⊎◌, slice_get, slice_set, slice_index_or, IfOk, IfErr}
use Rattle.std.proofs.lemmas.Option.{slice_get-get_or}
use Rattle.std.specs.Option.{option_map}
use Rattle.std.specs.Result.{result_err}
use Rattle.std.proofs.lemmas.Bool.{eq-eqb, eqb-true}
use Rattle.lsn_core.specs.byte_words.Numbers.{◌>>=◌}
use Rattle.std.specs.FinMap.{get, empty, remove, get-empty, get-remove}
use Rattle.lsn_core.specs.Causes.{Rose, HasCause}
use Rattle.lsn_core.specs.declared.ids.ForkId.{ForkId}
use Rattle.lsn_core.specs.declared.ids.BlockId.{BlockId}
use Rattle.lsn_core.specs.Store.{Store, ForkPages, fork_cmp}
use Rattle.lsn_core.specs.Blocks.{block_of, pages_of, with_block, page_put, with_fork, with_cut, without_fork}
use Rattle.lsn_core.proofs.ForkOrder.{fork_cmp_total}
use Rattle.lsn_core.specs.Shown.{Turns, BlockAnswer, CountsBlocks, ReadsBlock}
use Rattle.lsn_core.specs.declared.fault.AreaFault.{AreaFault}
use Rattle.lsn_core.specs.declared.fault.AreaFault.TheVariants.{Failed, NoMemory}
use Rattle.vault.specs.declared.area.Vault.{Ghosts}
use Rattle.history.specs.Apply.{is_same_fork}
use Rattle.history.proofs.Stores.{by_test, fork_is}
use Rattle.history.specs.partitions.Parts.{partition_of, is_of, IsPart}
use Rattle.history.proofs.partitions.Puts.{own, put_other, page_own, made_own, made_other, cut_own, cut_other}
use Rattle.lsn_core.specs.byte_words.Told.{when_told}
use Rattle.lsn_core.specs.Files.{Files}
use Rattle.rel_files.specs.Laws.{HasNoForks}
use Rattle.rel_files.proofs.WholeStores.{nothing_is_held}
use Rattle.rel_files.specs.Shown.{AreFilesOf, HoldsStore, ShowsStore, KeepsOthers}
use Rattle.rel_files.specs.declared.forks.Forks.{Forks}
use Rattle.data_areas.specs.declared.store_forks.StoreForks.{StoreForks}
use Rattle.data_areas.specs.declared.store_forks.AreaFaults.{AreaFaults}
use Rattle.data_areas.specs.Stored.{ShowsPart, ShowsParts, KeepEach, count_at, NamesFault, CountsFault, KeepsAll}
use Rattle.data_areas.specs.Marking.{rebuilding_name, HasOnly}
use Rattle.data_areas.specs.Kept.{each_none}
use Rattle.data_areas.proofs.Exact.{no_mark, empty_none, nothing_told}

-- a change of a fork is done to a store and to the part that has the fork, and leaves the others
pub record IsChange (fork : ForkId) (changed : Store → Store) : Type 0 where
  pub own : (q : ℕ) (store part : Store) → IsPart q store part → is_of q fork ≡ true → IsPart q (changed store) (changed part)
  pub other : (q : ℕ) (store part : Store) → IsPart q store part → is_of q fork ≡ false → IsPart q (changed store) part

pub put_changes : (at : BlockId) (page : List ℕ) → IsChange at.fork (page_put at page)
put_changes at page = record {
  own = λ q store part is mine. page_own q store part at page is mine;
  other = λ q store part is not. put_other q store part at.fork (with_block (pages_of store at.fork) at.block page) is not;
}

pub making_changes : (fork : ForkId) → IsChange fork (λ s. with_fork s fork)
making_changes fork = record {
  own = λ q store part is mine. made_own q store part fork is mine;
  other = λ q store part is not. made_other q store part fork is not;
}

pub cut_changes : (fork : ForkId) (to : ℕ) → IsChange fork (λ s. with_cut s fork to)
cut_changes fork to = record {
  own = λ q store part is mine. cut_own q store part fork to is mine;
  other = λ q store part is not. cut_other q store part fork to is not;
}

-- a fork that is removed
removed : (store : Store) (fork f : ForkId) → get (remove store fork) f ≡ cond (is_same_fork f fork) None (get store f)
unfolding is_same_fork
removed store fork f = get-remove fork_cmp_total store fork f

removed_own : (q : ℕ) (store part : Store) (fork : ForkId) → IsPart q store part → is_of q fork ≡ true → IsPart q (remove store fork) (remove part fork)
removed_own q store part fork is mine f =
    removed part fork f
    ∙ ap (cond (is_same_fork f fork) None) (is f)
    ∙ both (is_same_fork f fork) (is_of q f) (get store f)
    ∙ sym (ap (λ o. cond (is_of q f) o None) (removed store fork f))
  where
    both : (a b : Bool) (o : Option ForkPages) → cond a None (cond b o None) ≡ cond b (cond a None o) None
    both true true o = refl
    both true false o = refl
    both false true o = refl
    both false false o = refl

removed_other : (q : ℕ) (store part : Store) (fork : ForkId) → IsPart q store part → is_of q fork ≡ false → IsPart q (remove store fork) part
removed_other q store part fork is not f =
    by_test (is_same_fork f fork)
    (λ here.
    let none : is_of q f ≡ false = ap (is_of q) (fork_is f fork here) ∙ not in
    is f ∙ ap (λ c. cond c (get store f) None) none ∙ sym (ap (λ c. cond c (get (remove store fork) f) None) none))
    (λ away. is f ∙ ap (λ o. cond (is_of q f) o None) (sym (removed store fork f ∙ ap (λ c. cond c None (get store f)) away)))

pub removal_changes : (fork : ForkId) → IsChange fork (λ s. without_fork s fork)
removal_changes fork = record {
  own = λ q store part is mine. removed_own q store part fork is mine;
  other = λ q store part is not. removed_other q store part fork is not;
}

-- nothing is changed
pub reading_changes : (fork : ForkId) → IsChange fork (λ s. s)
reading_changes fork = record { own = λ q store part is mine. is; other = λ q store part is not. is }

-- ---- one of several is replaced

set_here : {A : Type 0} (xs : List A) (k : ℕ) (x y : A) → slice_get xs k ≡ Some x → slice_get (slice_set xs k y) k ≡ Some y
set_here [] k x y there = absurd (cc)
set_here (a ∷ xs) zero x y there = refl
set_here (a ∷ xs) (suc k) x y there = set_here xs k x y there

set_else : {A : Type 0} (xs : List A) (k j : ℕ) (y : A) → j ≢ k → slice_get (slice_set xs k y) j ≡ slice_get xs j
set_else [] k j y other = refl
set_else (a ∷ xs) zero zero y other = absurd (other refl)
set_else (a ∷ xs) zero (suc j) y other = refl
set_else (a ∷ xs) (suc k) zero y other = refl
set_else (a ∷ xs) (suc k) (suc j) y other = set_else xs k j y (λ e. other (ap (λ (n : ℕ). suc n) e))

some_is : {A : Type 0} (a b : A) → Some a ≡ Some b → a ≡ b
some_is a b e = cc e

each_set : {V : Type 0} (g : Ghosts V) (xs : List (Forks V)) (k : ℕ) (x y : Forks V) → slice_get xs k ≡ Some x → KeepsOthers g x y → KeepEach g xs (slice_set xs k y)
each_set g [] k x y there kept = absurd (cc)
each_set {V} g (a ∷ xs) zero x y there kept = (subst (λ (f : Forks V). KeepsOthers g f y) (sym (some_is a x there)) kept, each_none g xs)
each_set g (a ∷ xs) (suc k) x y there kept = ((each_none g (a ∷ [])).0, each_set g xs k x y there kept)

count_there : {V : Type 0} (g : Ghosts V) (xs : List (Forks V)) (k : ℕ) (x : Forks V) → slice_get xs k ≡ Some x → count_at g xs k ≡ g.faults x.area
count_there g [] k x there = absurd (cc)
count_there {V} g (a ∷ xs) zero x there = ap (λ (f : Forks V). g.faults f.area) (some_is a x there)
count_there g (a ∷ xs) (suc k) x there = count_there g xs k x there

-- ---- a call on the files of the partition of a fork

-- the files of a partition became others by a call, which was counted where it failed
pub record IsCall {V T : Type 0} (g : Ghosts V) (q : ℕ) (x y : Forks V) (old new : StoreForks V) (result : Result T AreaFault) : Type 0 where
  pub below : q < 4
  pub there : slice_get old.parts q ≡ Some x
  pub parts : new.parts ≡ slice_set old.parts q y
  pub kept : KeepsOthers g x y
  pub cause : HasCause (g.faults x.area) (g.faults y.area) result
  pub counted : CountsFault q old.faults new.faults (result_err result)

-- the calls are of this form
pub called : {V T : Type 0} (g : Ghosts V) (q : ℕ) (d y : Forks V) (old : StoreForks V) (faults : AreaFaults) (why : Option AreaFault) (result : Result T AreaFault) → length old.parts ≡ 4 → q < 4 → KeepsOthers g (slice_index_or old.parts q d) y
    → HasCause (g.faults (slice_index_or old.parts q d).area) (g.faults y.area) result → CountsFault q old.faults faults why → why ≡ result_err result → IsCall g q (slice_index_or old.parts q d) y old (record { parts = slice_set old.parts q y; faults = faults }) result
called g q d y old faults why result four below kept cause counted told = record {
  below = below;
  there = slice_get-get_or old.parts q d (omega (arith, four, below));
  parts = refl;
  kept = kept;
  cause = cause;
  counted = subst (CountsFault q old.faults faults) told counted;
}

module _ {V T : Type 0} (g : Ghosts V) (q : ℕ) (x y : Forks V) (old new : StoreForks V) (result : Result T AreaFault) (call : IsCall g q x y old new result) where
  there_now : slice_get new.parts q ≡ Some y
  there_now = ap (λ (fs : List (Forks V)). slice_get fs q) call.parts ∙ set_here old.parts q x y call.there

  rose_now : (k : ℕ) → k ≡ q → Rose (g.faults x.area) (g.faults y.area) → Rose (count_at g old.parts k) (count_at g new.parts k)
  rose_now k is rose =
      subst (λ (n : ℕ). Rose (count_at g old.parts n) (count_at g new.parts n)) (sym is)
      (omega (arith, rose, count_there g old.parts q x call.there, count_there g new.parts q y there_now))

  named : (r : Result T AreaFault) → CountsFault q old.faults new.faults (result_err r) → HasCause (g.faults x.area) (g.faults y.area) r → (new.faults ≡ old.faults) ⊎ NamesFault g old new
  named (Ok done) counted cause = inl counted
  named (Err Failed) counted cause = inr (record {
    below = subst (λ (n : ℕ). n < 4) (sym counted.last) call.below;
    rose = rose_now new.faults.last counted.last (cause.failed refl);
  })
  named (Err NoMemory) counted cause = inl counted

  pub call_keeps : KeepsAll g old new
  call_keeps = record {
    each = subst (KeepEach g old.parts) (sym call.parts) (each_set g old.parts q x y call.there call.kept);
    named = named result call.counted call.cause;
  }

  caused : (r : Result T AreaFault) → old.faults.count < 2 ^ 64 → CountsFault q old.faults new.faults (result_err r) → HasCause old.faults.count new.faults.count r
  caused (Ok done) fits counted = (let same = ap (λ (f : AreaFaults). f.count) counted in record { later = omega (arith, same); failed = λ e. absurd (cc) })
  caused (Err Failed) fits counted = record { later = omega (arith, counted.count, fits); failed = λ e. omega (arith, counted.count) }
  caused (Err NoMemory) fits counted = (let same = ap (λ (f : AreaFaults). f.count) counted in record { later = omega (arith, same); failed = λ e. absurd (cc) })

  pub call_cause : old.faults.count < 2 ^ 64 → HasCause old.faults.count new.faults.count result
  call_cause fits = caused result fits call.counted

  -- ---- what is shown

  module _ (fork : ForkId) (of : partition_of fork.rel ≡ q) where
    mine : is_of q fork ≡ true
    mine = eq-eqb (partition_of fork.rel) q of

    part_here : (s : Store) → ShowsPart g q s old.parts → (p : Store) × (IsPart q s p × ShowsStore g x p)
    part_here s shows = (shows.part, (shows.part_is, subst (λ (f : Forks V). ShowsStore g f shows.part) (some_is shows.files x (sym shows.there ∙ call.there)) shows.shown))

    eqb_is : (a b : ℕ) → (a == b) ≡ true → a ≡ b
    eqb_is a b e = eqb-true a b e

    other_part : (j : ℕ) → (j == q) ≡ false → is_of j fork ≡ false
    other_part j e = ap (λ (n : ℕ). n == j) of ∙ flip (q == j) refl
      where
        flip : (b : Bool) → (q == j) ≡ b → (q == j) ≡ false
        flip false is = is
        flip true is = absurd (let t = sym e ∙ eq-eqb j q (sym (eqb_is q j is)) in cc)

    pub call_turns : (changed : Store → Store) → IsChange fork changed → Turns (ShowsStore g) x y changed → Turns (ShowsParts g) old new changed
    call_turns changed change turns s shows j below = go (j == q) refl
      where
        go : (same : Bool) → (j == q) ≡ same → ShowsPart g j (changed s) new.parts
        go true e =
            subst (λ (n : ℕ). ShowsPart g n (changed s) new.parts) (sym (eqb_is j q e))
            (let here = part_here s (shows q call.below) in
            record { files = y; there = there_now; part = changed here.0; part_is = change.own q s here.0 here.1.0 mine; shown = turns here.0 here.1.1 })
        go false e =
            let was = shows j below in
            record {
              files = was.files;
              there = ap (λ (fs : List (Forks V)). slice_get fs j) call.parts ∙ set_else old.parts q j y (λ is. absurd (let t = sym e ∙ eq-eqb j q is in cc)) ∙ was.there;
              part = was.part;
              part_is = change.other j s was.part was.part_is (other_part j e);
              shown = was.shown;
            }

    same_pages : (s p : Store) → IsPart q s p → get p fork ≡ get s fork
    same_pages s p is = own q s p fork is mine

    pub call_counts : (count : Option ℕ) → CountsBlocks (ShowsStore g x) fork count → CountsBlocks (ShowsParts g old) fork count
    call_counts count counts s shows =
        let here = part_here s (shows q call.below) in
        counts here.0 here.1.1 ∙ ap (λ (o : Option ForkPages). option_map length o) (same_pages s here.0 here.1.0)

  module _ (at : BlockId) (of : partition_of at.fork.rel ≡ q) where
    same_block : (s p : Store) → IsPart q s p → block_of p at.fork at.block ≡ block_of s at.fork at.block
    same_block s p is = ap (λ (o : Option ForkPages). o >>= λ pages. slice_get pages at.block) (same_pages at.fork of s p is)

    answered : (s p : Store) (into new : List ℕ) (there : Bool) → IsPart q s p → BlockAnswer p at into new there → BlockAnswer s at into new there
    answered s p into new true is answer = sym (same_block s p is) ∙ answer
    answered s p into new false is answer = (sym (same_block s p is) ∙ answer.0, answer.1)

    pub call_reads : (into new : List ℕ) (there : Bool) → ReadsBlock (ShowsStore g x) at into new there → ReadsBlock (ShowsParts g old) at into new there
    call_reads into new there reads s shows =
        let here = part_here at.fork of s (shows q call.below) in
        answered s here.0 into new there here.1.0 (reads here.0 here.1.1)

-- what a success says leads to what it says of all parts
pub on_success : {T E : Type 0} (result : Result T E) (P Q : Type 0) → (P → Q) → OnOk result P → OnOk result Q
on_success (Ok done) P Q leads holds = leads holds
on_success (Err fault) P Q leads holds = tt

pub on_answer : {T E : Type 0} (result : Result T E) (P Q : T → Type 0) → ((x : T) → P x → Q x) → IfOk result P → IfOk result Q
on_answer (Ok x) P Q leads holds = leads x holds
on_answer (Err fault) P Q leads holds = tt

pub on_fault : {T E : Type 0} (result : Result T E) (P Q : E → Type 0) → ((x : E) → P x → Q x) → IfErr result P → IfErr result Q
on_fault (Ok done) P Q leads holds = tt
on_fault (Err x) P Q leads holds = leads x holds

-- ---- no pages

none_there : (fork : ForkId) → get {X = ForkPages} {R = fork_cmp} empty fork ≡ None
none_there fork = get-empty fork_cmp fork

none_shown : (q : ℕ) → IsPart q empty empty
none_shown q f = go (is_of q f) (get {X = ForkPages} {R = fork_cmp} empty f) (none_there f)
  where
    go : (b : Bool) (o : Option ForkPages) → o ≡ None → o ≡ cond b o None
    go true o e = refl
    go false o e = e

-- segment files in an area without forks show none
pub fresh : {V : Type 0} (g : Ghosts V) (relseg : ℕ) (area : V) (f : Forks V) → ((s : Store) → AreFilesOf relseg (g.files area) s → HoldsStore g f s) → IfSome (g.files area) HasNoForks → IsSome (g.files area) → ShowsStore g f empty
fresh g relseg area f held bare told = record {
  holds = held empty (go (g.files area) bare told);
  whole = λ fork pages there. absurd (let t = sym (none_there fork) ∙ there in cc);
}
  where
    go : (o : Option Files) → IfSome o HasNoForks → IsSome o → AreFilesOf relseg o empty
    go None bare told = absurd (nothing_told told)
    go (Some m) bare told = record { files = m; are_told = refl; hold = nothing_is_held relseg m bare }

pub marked_bare : (told : Option Files) → IfSome told (HasOnly rebuilding_name) → IfSome told HasNoForks
marked_bare told only = when_told told (HasOnly rebuilding_name) HasNoForks (λ m alone path is. alone path (no_mark path is)) only

pub empty_bare : (told : Option Files) → IfSome told (λ m. m ≡ empty) → IfSome told HasNoForks
empty_bare told none = when_told told (λ m. m ≡ empty) HasNoForks (λ m e path is. empty_none m path e) none

pub none_in_four : {V : Type 0} (g : Ghosts V) (f0 f1 f2 f3 : Forks V) → ShowsStore g f0 empty → ShowsStore g f1 empty → ShowsStore g f2 empty → ShowsStore g f3 empty → (q : ℕ) → q < 4 → ShowsPart g q empty (f0 ∷ (f1 ∷ (f2 ∷ (f3 ∷ []))))
none_in_four g f0 f1 f2 f3 s0 s1 s2 s3 zero below = record { files = f0; there = refl; part = empty; part_is = none_shown 0; shown = s0 }
none_in_four g f0 f1 f2 f3 s0 s1 s2 s3 (suc zero) below = record { files = f1; there = refl; part = empty; part_is = none_shown 1; shown = s1 }
none_in_four g f0 f1 f2 f3 s0 s1 s2 s3 (suc (suc zero)) below = record { files = f2; there = refl; part = empty; part_is = none_shown 2; shown = s2 }
none_in_four g f0 f1 f2 f3 s0 s1 s2 s3 (suc (suc (suc zero))) below = record { files = f3; there = refl; part = empty; part_is = none_shown 3; shown = s3 }
none_in_four g f0 f1 f2 f3 s0 s1 s2 s3 (suc (suc (suc (suc q)))) below = absurd (omega (arith, below))
