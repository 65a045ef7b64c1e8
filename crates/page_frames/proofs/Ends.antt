-- Where the entries end that touched dirty pages.
use Rattle.std.proofs.Common.{◌≡◌, ℕ, zero, suc, true, false, List, [], ◌∷◌, ◌++◌, get_or, Option, Some, None, unwrap_or, is_some, refl, ap, sym, ◌∙◌, true≢false, ◌||◌}
use Rattle.std.specs.List.{AllByRecursion, list_any, flat_map, filter_map}
use Rattle.std.specs.FinMap.{get, keys, contains_key, contains_key-keys}
use Rattle.lsn_core.specs.declared.ids.ForkId.{ForkId}
use Rattle.history.specs.Apply.{is_same_fork}
use Rattle.history.proofs.Stores.{by_test, fork_is}
use Rattle.page_frames.specs.Marks.{DirtyMarks, fork_marks, dirty_ends, is_dirty, all_dirty_ends}

-- ---- what holds of all ends

pub both_all : (P : ℕ → Type 0) (xs ys : List ℕ) → AllByRecursion P xs → AllByRecursion P ys → AllByRecursion P (xs ++ ys)
both_all P [] ys a b = b
both_all P (x ∷ xs) ys a b = (a.0, both_all P xs ys a.1 b)

pub marks_all : (P : ℕ → Type 0) (ms : List (Option ℕ)) → ((i end : ℕ) → get_or ms i None ≡ Some end → P end) → AllByRecursion P (filter_map (λ (m : Option ℕ). m) ms)
marks_all P [] f = tt
marks_all P (Some end ∷ ms) f = (f 0 end refl, marks_all P ms (λ i x h. f (suc i) x h))
marks_all P (None ∷ ms) f = marks_all P ms (λ i x h. f (suc i) x h)

pub forks_all : (P : ℕ → Type 0) (f : ForkId → List ℕ) (forks : List ForkId) → ((fork : ForkId) → AllByRecursion P (f fork)) → AllByRecursion P (flat_map f forks)
forks_all P f [] k = tt
forks_all P f (fork ∷ forks) k = both_all P (f fork) (flat_map f forks) (k fork) (forks_all P f forks k)

-- ---- nothing is dirty

pub none_of_two : (xs ys : List ℕ) → xs ++ ys ≡ [] → (xs ≡ []) × (ys ≡ [])
none_of_two [] ys h = (refl, h)
none_of_two (x ∷ xs) ys h = absurd cc

pub no_marks : (ms : List (Option ℕ)) → filter_map (λ (m : Option ℕ). m) ms ≡ [] → (i : ℕ) → is_some (get_or ms i None) ≡ false
no_marks [] h i = refl
no_marks (Some end ∷ ms) h i = absurd cc
no_marks (None ∷ ms) h zero = refl
no_marks (None ∷ ms) h (suc i) = no_marks ms h i

pub all_clean : (ms : List (Option ℕ)) → ((i : ℕ) → is_some (get_or ms i None) ≡ false) → filter_map (λ (m : Option ℕ). m) ms ≡ []
all_clean [] clean = refl
all_clean (Some end ∷ ms) clean = absurd (true≢false (clean 0))
all_clean (None ∷ ms) clean = all_clean ms (λ i. clean (suc i))

pub none_of_forks : (f : ForkId → List ℕ) (forks : List ForkId) → ((fork : ForkId) → f fork ≡ []) → flat_map f forks ≡ []
none_of_forks f [] none = refl
none_of_forks f (fork ∷ forks) none = ap (λ (xs : List ℕ). xs ++ flat_map f forks) (none fork) ∙ none_of_forks f forks none

none_of_listed : (f : ForkId → List ℕ) (fork : ForkId) (forks : List ForkId) → flat_map f forks ≡ [] → list_any (is_same_fork fork) forks ≡ true → f fork ≡ []
none_of_listed f fork [] none listed = absurd (true≢false (sym listed))
none_of_listed f fork (x ∷ forks) none listed =
    let two = none_of_two (f x) (flat_map f forks) none in
    by_test (is_same_fork fork x)
    (λ here. ap f (fork_is fork x here) ∙ two.0)
    (λ apart. none_of_listed f fork forks two.1 (sym (ap (λ c. c || list_any (is_same_fork fork) forks) apart) ∙ listed))

unmarked : (marks : DirtyMarks) (fork : ForkId) → contains_key marks fork ≡ false → fork_marks marks fork ≡ []
unmarked marks fork none = elim (get marks fork) as (λ (o : Option (List (Option ℕ))). is_some o ≡ false → unwrap_or o [] ≡ []) [ None ↦ λ e. refl | Some ms ↦ λ e. absurd (true≢false e) ] none

pub fork_ends_none : (marks : DirtyMarks) (fork : ForkId) → flat_map (dirty_ends marks) (keys marks) ≡ [] → dirty_ends marks fork ≡ []
unfolding is_same_fork
fork_ends_none marks fork none =
    by_test (contains_key marks fork)
    (λ there. none_of_listed (dirty_ends marks) fork (keys marks) none (sym (contains_key-keys marks fork) ∙ there))
    (λ away. ap (λ (ms : List (Option ℕ)). filter_map (λ (m : Option ℕ). m) ms) (unmarked marks fork away))

pub none_dirty : (marks : DirtyMarks) → all_dirty_ends marks ≡ [] → (fork : ForkId) (block : ℕ) → is_dirty marks fork block ≡ false
none_dirty marks none fork block = no_marks (fork_marks marks fork) (fork_ends_none marks fork none) block
