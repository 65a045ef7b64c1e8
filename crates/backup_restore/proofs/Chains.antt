-- What holds of a chain whose directories are told, and of calls on their areas.
use Rattle.std.proofs.Common.{◌≡◌, ℕ, zero, suc, ◌+◌, ◌-◌, ◌≤◌, arith, List, [], ◌∷◌, ◌++◌, map, length, get_or, reverse, slice_get, Option, Some, None, IfSome, Result, Ok, Err, IfErr, IsErrAnd, refl, sym, ap, subst, ◌∙◌}
use Rattle.std.specs.List.{AllByRecursion}
use Rattle.std.specs.Option.{option_map}
use Rattle.std.specs.Ordering.{nat_cmp}
use Rattle.std.specs.Cmp.Lexicographic.{slice_cmp}
use Rattle.std.specs.FinMap.{empty, entries, keys, len-entries, len-empty}
use Rattle.std.proofs.lemmas.Option.{slice_get-get_or}
use Rattle.std.proofs.lemmas.List.{reverse-append}
use Rattle.lsn_core.specs.Files.{Files}
use Rattle.vault.specs.declared.area.Vault.{Ghosts}
use Rattle.vault.specs.declared.lending.Held.{Held}
use Rattle.chain_files.specs.Segments.{AllHaveForms}
use Rattle.chain_files.specs.Sources.{OfChain}
use Rattle.chain_files.specs.Told.{all_told, AllOnlyRead}
use Rattle.chain_files.proofs.Told.{reads_faults}
use Rattle.backup_restore.specs.declared.fault.RestoreFault.{RestoreFault}
use Rattle.backup_restore.specs.declared.fault.RestoreFault.TheVariants.{Backup, Wal, Out}
use Rattle.backup_restore.specs.Inside.{CopyCause, newest_of, newest_names}

-- ---- what is told

-- what holds of a chain whose directories are of their grammar follows into what it implies
pub when_formed : (told : Option (List Files)) (P Q : List Files → Type 0) → ((chain : List Files) → AllHaveForms chain → P chain → Q chain) → OfChain told P → OfChain told Q
when_formed None P Q step held = tt
when_formed (Some chain) P Q step held = λ forms. step chain forms (held forms)

pub when_chain : (told : Option (List Files)) (P Q : List Files → Type 0) → ((chain : List Files) → P chain → Q chain) → OfChain told P → OfChain told Q
when_chain told P Q step held = when_formed told P Q (λ chain forms p. step chain p) held

-- the same of two facts
pub when_both : (told : Option (List Files)) (P Q R : List Files → Type 0) → ((chain : List Files) → P chain → Q chain → R chain) → OfChain told P → OfChain told Q → OfChain told R
when_both None P Q R step left right = tt
when_both (Some chain) P Q R step left right = λ forms. step chain (left forms) (right forms)

-- what holds of all chains, and what holds of one that is told
pub always : (told : Option (List Files)) (P : List Files → Type 0) → ((chain : List Files) → P chain) → OfChain told P
always None P all = tt
always (Some chain) P all = λ forms. all chain

pub of_told : (told : Option (List Files)) (P : List Files → Type 0) → IfSome told P → OfChain told P
of_told None P held = tt
of_told (Some chain) P held = λ forms. held

-- ---- the newest of them

pub record HasNewest (told : Option Files) (chain : List Files) : Type 0 where
  pub newest : Files
  pub older : List Files
  pub is : told ≡ Some newest
  pub chain_is : reverse chain ≡ newest ∷ older

first_of_more : (x : Files) (told : Option Files) (rest : Option (List Files)) (chain : List Files) → option_map (λ more. x ∷ more) rest ≡ Some chain → ((more : List Files) → rest ≡ Some more → HasNewest told more) → HasNewest told chain
first_of_more x told None chain is newest = absurd cc
first_of_more x told (Some more) chain is newest =
    let one = newest more refl in
    let same : x ∷ more ≡ chain = cc in
    record {
      newest = one.newest;
      older = one.older ++ (x ∷ []);
      is = one.is;
      chain_is = ap reverse (sym same) ∙ reverse-append (x ∷ []) more ∙ ap (λ (l : List Files). l ++ (x ∷ [])) one.chain_is;
    }

pub newest_told : (tolds : List (Option Files)) (i : ℕ) (told : Option Files) (chain : List Files) → length tolds ≡ i + 1 → slice_get tolds i ≡ Some told → all_told tolds ≡ Some chain → HasNewest told chain
newest_told [] i told chain long at is = absurd (omega (arith, long))
newest_told (None ∷ rest) i told chain long at is = absurd cc
newest_told (Some x ∷ []) zero told chain long at is = record {
  newest = x;
  older = [];
  is = sym cc;
  chain_is = ap reverse (let same : chain ≡ x ∷ [] = sym cc in same);
}
newest_told (Some x ∷ []) (suc i) told chain long at is = absurd (omega (arith, long))
newest_told (Some x ∷ (y ∷ rest)) zero told chain long at is = absurd (omega (arith, long))
newest_told (Some x ∷ (y ∷ rest)) (suc i) told chain long at is =
    first_of_more x told (all_told (y ∷ rest)) chain is (λ more told_more. newest_told (y ∷ rest) i told more (omega (arith, long)) at told_more)

-- its names
names_told : (tolds : List (Option Files)) (i : ℕ) (told : Option Files) (all : Option (List Files)) (names : List (List ℕ)) → length tolds ≡ i + 1 → slice_get tolds i ≡ Some told → all_told tolds ≡ all → IfSome told (λ m. names ≡ keys m) → IfSome all (λ chain. names ≡ newest_names chain)
names_told tolds i told None names long at is named = tt
names_told tolds i told (Some chain) names long at is named =
    let one = newest_told tolds i told chain long at is in
    subst (λ (o : Option Files). IfSome o (λ m. names ≡ keys m)) one.is named ∙ ap (λ (l : List Files). keys (newest_of l)) (sym one.chain_is)

get_told : (f : ℕ → Option Files) (places : List ℕ) (i place : ℕ) → slice_get places i ≡ Some place → slice_get (map f places) i ≡ Some (f place)
get_told f [] i place at = absurd cc
get_told f (p ∷ places) zero place at = ap (λ (o : Option (Option Files)). o) (let same : p ≡ place = cc in ap (λ (n : ℕ). Some (f n)) same)
get_told f (p ∷ places) (suc i) place at = get_told f places i place at

long_told : (f : ℕ → Option Files) (places : List ℕ) → length (map f places) ≡ length places
long_told f [] = refl
long_told f (p ∷ places) = ap suc (long_told f places)

pub newest_named : (f : ℕ → Option Files) (places : List ℕ) (place : ℕ) (names : List (List ℕ)) → slice_get places (length places - 1) ≡ Some place → IfSome (f place) (λ m. names ≡ keys m) → IfSome (all_told (map f places)) (λ chain. names ≡ newest_names chain)
newest_named f [] place names at named = absurd cc
newest_named f (p ∷ places) place names at named =
    names_told (map f (p ∷ places)) (length places) (f place) (all_told (map f (p ∷ places))) names (long_told f (p ∷ places) ∙ omega arith) (get_told f (p ∷ places) (length places) place (let last : length (p ∷ places) - 1 ≡ length places = omega arith in subst (λ (n : ℕ). slice_get (p ∷ places) n ≡ Some place) last at)) refl named

-- none, where there is none
no_keys : (es : List (List ℕ × List ℕ)) → length es ≡ 0 → map (λ e. e.0) es ≡ []
no_keys [] none = refl
no_keys (e ∷ es) none = absurd (omega (arith, none))

pub no_names : newest_names [] ≡ []
no_names = no_keys (entries empty) (sym (len-entries {R = slice_cmp nat_cmp} empty) ∙ len-empty (slice_cmp nat_cmp) (List ℕ))

pub none_named : (f : ℕ → Option Files) (places : List ℕ) (names : List (List ℕ)) → slice_get places (length places - 1) ≡ None → names ≡ [] → IfSome (all_told (map f places)) (λ chain. names ≡ newest_names chain)
none_named f [] names none is = is ∙ sym no_names
none_named f (p ∷ places) names none is =
    absurd (let there : ◌≡◌ {A = Option ℕ} (Some (get_or (p ∷ places) (length (p ∷ places) - 1) 0)) None = sym (slice_get-get_or (p ∷ places) (length (p ∷ places) - 1) 0 (omega arith)) ∙ none in cc)

-- what holds of each holds of the newest
all_first : (P : Files → Type 0) (chain more : List Files) → AllByRecursion P chain → AllByRecursion P more → AllByRecursion P (reverse chain ++ more)
all_first P [] more all rest = rest
all_first P (x ∷ chain) more all rest =
    let onto : reverse (x ∷ chain) ++ more ≡ reverse chain ++ (x ∷ more) = ap (λ (l : List Files). l ++ more) (reverse-append (x ∷ []) chain) ∙ moved (reverse chain) x more in
    subst (AllByRecursion P) (sym onto) (all_first P chain (x ∷ more) all.1 (all.0, rest))
  where
    moved : (xs : List Files) (x : Files) (ys : List Files) → (xs ++ (x ∷ [])) ++ ys ≡ xs ++ (x ∷ ys)
    moved [] x ys = refl
    moved (z ∷ xs) x ys = ap (λ (l : List Files). z ∷ l) (moved xs x ys)

pub newest_holds : (P : Files → Type 0) (chain : List Files) (newest : Files) (older : List Files) → AllByRecursion P chain → reverse chain ≡ newest ∷ older → P newest
newest_holds P chain newest older all is =
    (subst (λ (l : List Files). AllByRecursion P (l ++ [])) is (all_first P chain [] all tt)).0

-- ---- causes

pub err_cause : {T E : Type 0} (result : Result T E) (why : E) (P : E → Type 0) → IsErrAnd result (λ e. e ≡ why) → P why → IfErr result P
err_cause (Ok x) why P is cause = tt
err_cause (Err e) why P is cause = subst P (sym is) cause

module _ {V : Type 0} (g : Ghosts V) where
  -- what failed in a part failed in the whole
  pub cause_on : (a b c d : List (Held V)) (x y z w : ℕ) (fault : RestoreFault) → AllOnlyRead g a b → AllOnlyRead g c d → x ≤ y → z ≤ w → CopyCause g b c y z fault → CopyCause g a d x w fault
  cause_on a b c d x y z w (Backup fault) before behind least most cause = λ failed.
      let rose = cause failed in
      omega (arith, reads_faults g a b before fault.area, reads_faults g c d behind fault.area, rose)
  cause_on a b c d x y z w (Wal why) before behind least most cause = cause
  cause_on a b c d x y z w (Out why) before behind least most cause = λ failed.
      let rose = cause failed in
      omega (arith, least, most, rose)
