-- Parts of one form, one after the other.
use Rattle.std.proofs.Common.{◌≡◌, ℕ, suc, ◌+◌, ◌-◌, ◌<◌, List, [], ◌∷◌, ◌++◌, Option, Some, None, refl, sym, ap, ◌∙◌, arith}
use Rattle.std.proofs.lemmas.List.{append_assoc}
use Rattle.lsn_core.specs.byte_words.Numbers.{◌>>=◌}
use Rattle.summary_file.specs.declared.fault.SummaryFault.{SummaryFault}
use Rattle.summary_file.specs.declared.fault.SummaryFault.TheVariants.{Length, Magic, Sum, Order, NoMemory}
use Rattle.summary_file.specs.Inside.{many, Fails}

abbrev pub after_many : {A : Type 0} → List A → Option (List A × List ℕ) → Option (List A × List ℕ)
after_many xs None = None
after_many xs (Some r) = Some (xs ++ r.0, r.1)

after_one : {A : Type 0} (xs : List A) (x : A) (o : Option (List A × List ℕ)) → after_many xs (o >>= λ ys. Some (x ∷ ys.0, ys.1)) ≡ after_many (xs ++ x ∷ []) o
after_one xs x None = refl
after_one xs x (Some r) = ap (λ l. Some (l, r.1)) (sym (append_assoc xs (x ∷ []) r.0))

next_count : (count i : ℕ) → i < count → count - i ≡ suc (count - (i + 1))
next_count count i lt = omega arith

-- one part more
pub many_next : {A : Type 0} (read : List ℕ → Option (A × List ℕ)) (all : Option (List A × List ℕ)) (count i : ℕ) (xs : List A) (rest after : List ℕ) (x : A) → i < count → read rest ≡ Some (x, after)
    → all ≡ after_many xs (many read (count - i) rest) → all ≡ after_many (xs ++ x ∷ []) (many read (count - (i + 1)) after)
many_next read all count i xs rest after x lt e so_far =
    so_far ∙ ap (λ n. after_many xs (many read n rest)) (next_count count i lt) ∙ ap (λ o. after_many xs (o >>= λ y. many read (count - (i + 1)) y.1 >>= λ ys. Some (y.0 ∷ ys.0, ys.1))) e
    ∙ after_one xs x (many read (count - (i + 1)) after)

-- one part that isn't there
pub many_stops : {A : Type 0} (read : List ℕ → Option (A × List ℕ)) (all : Option (List A × List ℕ)) (count i : ℕ) (xs : List A) (rest : List ℕ) → i < count → read rest ≡ None → all ≡ after_many xs (many read (count - i) rest) → all ≡ None
many_stops read all count i xs rest lt e so_far =
    so_far ∙ ap (λ n. after_many xs (many read n rest)) (next_count count i lt) ∙ ap (λ o. after_many xs (o >>= λ y. many read (count - (i + 1)) y.1 >>= λ ys. Some (y.0 ∷ ys.0, ys.1))) e

-- a part's fault is the fault of the whole
pub fails : {X Z : Type 0} (one : Option X) (all : Option Z) (fault : SummaryFault) → (one ≡ None → all ≡ None) → Fails one fault → Fails all fault
fails one all Length step e = step e
fails one all Magic step e = e
fails one all Sum step e = e
fails one all Order step e = e
fails one all NoMemory step e = tt

-- ---- parts of pairs, and bounds

-- what is found as a pair
pub some_pair : {A B : Type 0} (a c : A) (b d : B) → ◌≡◌ {A = Option (A × B)} (Some (a, b)) (Some (c, d)) → (a ≡ c) × (b ≡ d)
some_pair {A} {B} a c b d e = let p : ◌≡◌ {A = A × B} (a, b) (c, d) = cc in (ap (λ x. x.0) p, ap (λ x. x.1) p)

-- a bound on what a number is
pub below_as : (m n limit : ℕ) → m ≡ n → m < limit → n < limit
below_as m n limit e lt = omega (arith, e, lt)
