-- Areas that a drill looks at and writes.
use Rattle.std.proofs.Common.{◌≡◌, ◌≢◌, ◌∙◌, ℕ, suc, ◌+◌, ◌<◌, ◌≤◌, ◌⊎◌, inl, inr, List, [], ◌∷◌, ◌++◌, Bool, true, false, length, take, drop, get_or, map, Option, Some, None, IfSome, refl, sym, ap, subst, drop-cons, arith}
use Rattle.std.proofs.Math.Seq.{take-suc}
use Rattle.std.proofs.lemmas.List.{take_all, take-append-drop, get_or-map, length-map}
use Rattle.std.specs.Borrow.{Bor}
use Rattle.std.specs.FinMap.{empty}
use Rattle.lsn_core.specs.Files.{Files}
use Rattle.lsn_core.specs.Causes.{Rose}
use Rattle.lsn_core.specs.declared.fault.AreaFault.{AreaFault}
use Rattle.lsn_core.specs.declared.fault.AreaFault.TheVariants.{Failed}
use Rattle.vault.specs.declared.area.Vault.{Ghosts as Vaults}
use Rattle.vault.specs.declared.lending.TakeFault.{TakeFault}
use Rattle.vault.specs.declared.site.Site.{Ghosts as Sites}
use Rattle.vault.specs.Frame.{OnlyReads}
use Rattle.vault.specs.Site.{AllHome, Areas, state_in}
use Rattle.vault.specs.Lending.{AreTaken, GivesBack, Names, NoneTaken, IsOneOf, IsNoneOf, WritesAmong}
use Rattle.command_base.proofs.Lent.{one_back, none_writes, reads_still, still_at, none_written}
use Rattle.command_base.specs.Areas.{IsClear, IsFull, TellsClear}
use Rattle.command_base.specs.Outside.{Outside, Works, of_site}
use Rattle.pgbackup_cli.specs.drill_command.Clearing.{AreClear, IsNext, IsUnread}

-- ---- names

none_front : (n : List ℕ) (xs ys : Names) → IsNoneOf n (xs ++ ys) → IsNoneOf n xs
none_front n [] ys none = tt
none_front n (x ∷ xs) ys none = (none.0, none_front n xs ys none.1)

none_back : (n : List ℕ) (xs ys : Names) → IsNoneOf n (xs ++ ys) → IsNoneOf n ys
none_back n [] ys none = none
none_back n (x ∷ xs) ys none = none_back n xs ys none.1

one_last : (n x : List ℕ) (xs : Names) → IsOneOf n (xs ++ (x ∷ [])) → IsOneOf n xs ⊎ (n ≡ x)
one_last n x [] (inl is) = inr is
one_last n x [] (inr other) = absurd other
one_last n x (y ∷ xs) (inl is) = inl (inl is)
one_last n x (y ∷ xs) (inr more) = elim (one_last n x xs more) [
  | inl there ↦ inl (inr there)
  | inr is ↦ inr is
]

-- ---- calls behind each other

writes_on : (names : Names) (a b c : Areas) → WritesAmong names a b → WritesAmong names b c → WritesAmong names a c
writes_on names a b c first second = record {
  home = second.home;
  later = λ n. omega (arith, first.later n, second.later n);
  others = λ n none. second.others n none ∙ first.others n none;
  quiet = λ n none. second.quiet n none ∙ first.quiet n none;
}

pub works_on : (names : Names) (a b c : Outside) → Works names a b → Works names b c → Works names a c
works_on names a b c first second = (writes_on names a.areas b.areas c.areas first.0 second.0, omega (arith, first.1, second.1))

-- more areas may be written
pub works_more : (fewer names : Names) (a b : Outside) → ((n : List ℕ) → IsNoneOf n names → IsNoneOf n fewer) → Works fewer a b → Works names a b
works_more fewer names a b all works = (
  record {
    home = works.0.home;
    later = works.0.later;
    others = λ n none. works.0.others n (all n none);
    quiet = λ n none. works.0.quiet n (all n none);
  },
  works.1,
)

pub works_none : (names : Names) (a b : Outside) → Works [] a b → Works names a b
works_none names a b works = works_more [] names a b (λ n none. tt) works

pub works_front : (names more : Names) (a b : Outside) → Works names a b → Works (names ++ more) a b
works_front names more a b works = works_more names (names ++ more) a b (λ n none. none_front n names more none) works

pub works_back : (more names : Names) (a b : Outside) → Works names a b → Works (more ++ names) a b
works_back more names a b works = works_more names (more ++ names) a b (λ n none. none_back n more names none) works

pub works_first : (name : List ℕ) (names : Names) (a b : Outside) → Works (name ∷ []) a b → Works (name ∷ names) a b
works_first name names a b works = works_more (name ∷ []) (name ∷ names) a b (λ n none. (none.0, tt)) works

-- ---- areas in order

pub none_clear : (areas : Areas) → AreClear [] areas
none_clear areas name one = absurd one

pub clear_next : (names : Names) (k n : ℕ) (areas : Areas) (d : List ℕ) → n ≡ k + 1 → k < length names → AreClear (take k names) areas → IsClear (areas (get_or names k d)) → AreClear (take n names) areas
clear_next names k n areas d next less so_far one name among =
    let is : n ≡ suc k = omega (arith, next) in
    let these : take n names ≡ take k names ++ (get_or names k d ∷ []) = ap (λ (m : ℕ). take m names) is ∙ take-suc names k d less in
    elim (one_last name (get_or names k d) (take k names) (subst (IsOneOf name) these among)) [
      | inl there ↦ so_far name there
      | inr it ↦ subst (λ (x : List ℕ). IsClear (areas x)) (sym it) one
    ]

pub clear_all : (names : Names) (k : ℕ) (areas : Areas) → length names ≤ k → AreClear (take k names) areas → AreClear names areas
clear_all names k areas all so_far = subst (λ (ns : Names). AreClear ns areas) (take_all k names all) so_far

pub next_area : (names : Names) (k : ℕ) (areas : Areas) (name d : List ℕ) → k < length names → name ≡ get_or names k d → AreClear (take k names) areas → IsNext names areas name
next_area names k areas name d less is so_far = record {
  front = take k names;
  behind = drop (suc k) names;
  split = sym (take-append-drop k names) ∙ ap (λ (ns : Names). take k names ++ ns) (drop-cons names k d less ∙ ap (λ (x : List ℕ). x ∷ drop (suc k) names) (sym is));
  clear = so_far;
}

-- ---- whether an area holds a file

pub tells_clear : (files : Option Files) → TellsClear files true → IfSome files (λ m. m ≡ empty)
tells_clear None told = tt
tells_clear (Some m) told = told.0 refl

pub tells_full : (files : Option Files) → TellsClear files false → IfSome files (λ m. m ≢ empty)
tells_full None told = tt
tells_full (Some m) told = λ is. let no : false ≡ true = told.1 is in cc

pub clear_there : (files : Option Files) (clear : Bool) → TellsClear files clear → clear ≡ true → IfSome files (λ m. m ≡ empty)
clear_there files clear told is = tells_clear files (subst (TellsClear files) is told)

pub full_there : (files : Option Files) (clear : Bool) → TellsClear files clear → clear ≡ false → IfSome files (λ m. m ≢ empty)
full_there files clear told is = tells_full files (subst (TellsClear files) is told)

-- ---- behind areas that were only read

rose_on : (before mid now : ℕ) → before ≤ mid → Rose mid now → Rose before now
rose_on before mid now less rose = omega (arith, less, rose)

pub unread_on : (name : List ℕ) (old mid new : Outside) (why : AreaFault) → Works [] old mid → IsUnread name mid new why → IsUnread name old new why
unread_on name old mid new why works unread = λ e. elim (unread e) [
  | inl site ↦ inl (rose_on old.take_faults mid.take_faults new.take_faults works.1 site)
  | inr area ↦ inr (rose_on (old.areas name).faults (mid.areas name).faults (new.areas name).faults (works.0.later name) area)
]

-- ---- areas by references to their names

abbrev pub named : List (Bor (List ℕ)) → Names
named names = map (λ n. n.now) names

item_is : (names : List (Bor (List ℕ))) (k : ℕ) (d : Bor (List ℕ)) → k < length names → (get_or names k d).now ≡ get_or (named names) k d.now
item_is names k d within = sym (get_or-map (λ (n : Bor (List ℕ)). n.now) names k d d.now within)

less_named : (names : List (Bor (List ℕ))) (k : ℕ) → k < length names → k < length (named names)
less_named names k within = let same : length (named names) ≡ length names = length-map names (λ (n : Bor (List ℕ)). n.now) in omega (arith, same, within)

is_next : (names : List (Bor (List ℕ))) (k : ℕ) (d : Bor (List ℕ)) (areas : Areas) (area : List ℕ) → k < length names → area ≡ (get_or names k d).now → AreClear (take k (named names)) areas → IsNext (named names) areas area
is_next names k d areas area within is clear = next_area (named names) k areas area d.now (less_named names k within) (is ∙ item_is names k d within) clear

-- the next area holds no file; so many more do
pub next_clear : (names : List (Bor (List ℕ))) (k : ℕ) (d : Bor (List ℕ)) (old mid : Outside) (clear : Bool) → Works [] old mid → k < length names → AreClear (take k (named names)) old.areas → TellsClear (mid.areas (get_or names k d).now).files clear → clear ≡ true → AreClear (take (k + 1) (named names)) old.areas
next_clear names k d old mid clear works within so_far told is =
    let item : List ℕ = (get_or names k d).now in
    let there : IsClear (old.areas item) = subst (λ (o : Option Files). IfSome o (λ m. m ≡ empty)) (works.0.others item tt) (clear_there (mid.areas item).files clear told is) in
    clear_next (named names) k (k + 1) old.areas d.now (omega arith) (less_named names k within) so_far (subst (λ (n : List ℕ). IsClear (old.areas n)) (item_is names k d within) there)

pub next_full : (names : List (Bor (List ℕ))) (k : ℕ) (d : Bor (List ℕ)) (old mid : Outside) (area : List ℕ) (clear : Bool) → Works [] old mid → k < length names → area ≡ (get_or names k d).now → AreClear (take k (named names)) old.areas → TellsClear (mid.areas (get_or names k d).now).files clear → clear ≡ false → IsNext (named names) old.areas area × IsFull (old.areas area)
next_full names k d old mid area clear works within is so_far told full =
    let item : List ℕ = (get_or names k d).now in
    let there : IsFull (old.areas item) = subst (λ (o : Option Files). IfSome o (λ m. m ≢ empty)) (works.0.others item tt) (full_there (mid.areas item).files clear told full) in
    (is_next names k d old.areas area within is so_far, subst (λ (n : List ℕ). IsFull (old.areas n)) (sym is) there)

pub next_unread : (names : List (Bor (List ℕ))) (k : ℕ) (d : Bor (List ℕ)) (old mid new : Outside) (area : List ℕ) (why : AreaFault) → Works [] old mid → k < length names → area ≡ (get_or names k d).now → AreClear (take k (named names)) old.areas → IsUnread (get_or names k d).now mid new why → IsNext (named names) old.areas area × IsUnread area old new why
next_unread names k d old mid new area why works within is so_far unread =
    (is_next names k d old.areas area within is so_far, subst (λ (n : List ℕ). IsUnread n old new why) (sym is) (unread_on (get_or names k d).now old mid new why works unread))

-- ---- one area that was taken, read and given back

pub record HasSeen {S A : Type 0} (s : Sites S A) (g : Vaults A) (name : List ℕ) (old new : S) (p q : A) : Type 0 where
  pub reads : Works [] (of_site s old) (of_site s new)
  pub was : s.areas old name ≡ state_in g p
  pub is : s.areas new name ≡ state_in g q

pub has_seen : {S A : Type 0} (s : Sites S A) (g : Vaults A) (name : List ℕ) (old mid new : S) (n : List ℕ) (p q : A) → AllHome (s.areas old) → AreTaken s g (name ∷ []) old mid (record { name = n; area = p } ∷ []) → GivesBack s g (record { name = n; area = q } ∷ []) mid new → OnlyReads g p q → HasSeen s g name old new p q
has_seen s g name old mid new n p q home taken gives reads =
    let back = one_back s g name old mid new n p q home taken gives in
    record {
      reads = (none_writes name (s.areas old) (s.areas new) back.site (still_at _ _ _ _ back.area back.area_now (reads_still g p q reads)), back.later);
      was = back.area;
      is = back.area_now;
    }

-- it failed
pub seen_failed : {S A : Type 0} (s : Sites S A) (g : Vaults A) (name : List ℕ) (old new : S) (p q : A) (why : AreaFault) → HasSeen s g name old new p q → (why ≡ Failed → Rose (g.faults p) (g.faults q)) → IsUnread name (of_site s old) (of_site s new) why
seen_failed s g name old new p q why seen rose = λ e. inr (rw (seen.was, seen.is) (rose e))

-- it wasn't handed out
pub none_taken : {S A : Type 0} (s : Sites S A) (g : Vaults A) (name : List ℕ) (old new : S) (fault : TakeFault) → AllHome (s.areas old) → NoneTaken s (name ∷ []) old new fault → Works [] (of_site s old) (of_site s new) × IsUnread name (of_site s old) (of_site s new) fault.why
none_taken s g name old new fault home none = (
  (
    subst (λ (areas : Areas). WritesAmong [] (s.areas old) areas) (sym none.areas) (none_written [] (s.areas old) home),
    none.cause.later,
  ),
  λ e. inl (none.cause.failed e),
)
