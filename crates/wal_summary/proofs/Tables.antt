-- Block reference tables that are merged, and summed up.
use Rattle.std.proofs.Common.{◌≡◌, ℕ, ◌+◌, ◌<◌, min, Bool, true, false, not, ◌&&◌, ◌||◌, List, [], ◌∷◌, ◌++◌, map, length, take, get_or, Option, Some, None, refl, sym, ap, ◌∙◌, arith}
use Rattle.std.proofs.Math.Bool.{or-false}
use Rattle.std.proofs.lemmas.List.{take_more, map-append}
use Rattle.lsn_core.specs.declared.ids.ForkId.{ForkId}
use Rattle.history.specs.fuzzy_copies.Summary.{BlockRefTable, least, is_at_most, limits, is_listed, summed, both_summed, SayTheSame}
use Rattle.history.proofs.fuzzy_copies.Summaries.{any_limits}

-- tables that say the same are equal
pub same_table : (a b : BlockRefTable) → SayTheSame a b → a ≡ b
same_table a b s = λ i. record { limit = λ f. s.limit f i; listed = λ f n. s.listed f n i }

pub least_none : (o : Option ℕ) → least o None ≡ o
least_none None = refl
least_none (Some n) = refl

least_regroup : (o p q : Option ℕ) → least (least o p) q ≡ least o (least p q)
least_regroup None p q = refl
least_regroup (Some a) None q = refl
least_regroup (Some a) (Some b) None = refl
least_regroup (Some a) (Some b) (Some c) = let e : min (min a b) c ≡ min a (min b c) = omega arith in ap (λ (n : ℕ). Some n) e

-- a block is at or past the less of two limits exactly where it is at or past one of them
least_at_most : (f : ForkId) (b : ℕ) (o p : Option ℕ) → is_at_most b (least o p) ≡ (is_at_most b o || is_at_most b p)
least_at_most f b o p =
    ap (λ q. is_at_most b (least o q)) (sym (least_none p)) ∙ sym (any_limits f b (bare o ∷ (bare p ∷ []))) ∙ ap (λ t. is_at_most b o || t) (or-false (is_at_most b p))
  where
    bare : Option ℕ → BlockRefTable
    bare limit = record { limit = λ _. limit; listed = λ _ _. false }

pub kept_alone : (l : Bool) → ((l && true) || false) ≡ l
kept_alone true = refl
kept_alone false = refl

-- merged with a table that says nothing
pub before_none : (t : BlockRefTable) → both_summed t (summed []) ≡ t
before_none t = same_table (both_summed t (summed [])) t record { limit = λ f. least_none (t.limit f); listed = λ f b. kept_alone (t.listed f b) }

pub behind_none : (t : BlockRefTable) → both_summed (summed []) t ≡ t
behind_none t = refl

regroup : (a m b n c : Bool) → ((((a && not m) || b) && not n) || c) ≡ ((a && not (m || n)) || ((b && not n) || c))
regroup true true true true c = refl
regroup true true true false c = refl
regroup true true false true c = refl
regroup true true false false c = refl
regroup true false true true c = refl
regroup true false true false c = refl
regroup true false false true c = refl
regroup true false false false c = refl
regroup false m true true c = refl
regroup false m true false c = refl
regroup false m false true c = refl
regroup false m false false c = refl

-- three tables merged
pub regrouped : (a b c : BlockRefTable) → both_summed (both_summed a b) c ≡ both_summed a (both_summed b c)
regrouped a b c = same_table (both_summed (both_summed a b) c) (both_summed a (both_summed b c)) record {
  limit = λ f. least_regroup (a.limit f) (b.limit f) (c.limit f);
  listed = λ f n.
      regroup (a.listed f n) (limits f n b) (b.listed f n) (limits f n c) (c.listed f n)
      ∙ ap (λ t. (a.listed f n && not t) || ((b.listed f n && not (limits f n c)) || c.listed f n)) (sym (least_at_most f n (b.limit f) (c.limit f)));
}

-- the first of several
pub first_summed : (t : BlockRefTable) (ts : List BlockRefTable) → summed (t ∷ ts) ≡ both_summed t (summed ts)
first_summed t ts = same_table (summed (t ∷ ts)) (both_summed t (summed ts)) record {
  limit = λ f. refl;
  listed = λ f b. ap (λ l. (t.listed f b && not l) || is_listed f b ts) (any_limits f b ts);
}

pub one_summed : (t : BlockRefTable) → summed (t ∷ []) ≡ t
one_summed t = first_summed t [] ∙ before_none t

-- two lists of tables
pub lists_summed : (ts us : List BlockRefTable) → summed (ts ++ us) ≡ both_summed (summed ts) (summed us)
lists_summed [] us = sym (behind_none (summed us))
lists_summed (t ∷ ts) us =
    first_summed t (ts ++ us) ∙ ap (both_summed t) (lists_summed ts us) ∙ sym (regrouped t (summed ts) (summed us))
    ∙ ap (λ s. both_summed s (summed us)) (sym (first_summed t ts))

-- one more table behind those that were added
pub added_more : (old mid new next more : BlockRefTable) → mid ≡ both_summed old next → new ≡ both_summed mid more → new ≡ both_summed old (both_summed next more)
added_more old mid new next more e f = f ∙ ap (λ t. both_summed t more) e ∙ regrouped old next more

-- one more element of a list
pub added_next : {A : Type 0} (table : A → BlockRefTable) (old mid new : BlockRefTable) (xs : List A) (i : ℕ) (d : A) → i < length xs
    → mid ≡ both_summed old (summed (map table (take i xs))) → new ≡ both_summed mid (table (get_or xs i d)) → new ≡ both_summed old (summed (map table (take (i + 1) xs)))
added_next table old mid new xs i d lt e f =
    let x = get_or xs i d in
    added_more old mid new (summed (map table (take i xs))) (table x) e f
    ∙ ap (both_summed old)
    (ap (both_summed (summed (map table (take i xs)))) (sym (one_summed (table x))) ∙ sym (lists_summed (map table (take i xs)) (table x ∷ []))
    ∙ ap summed (sym (ap (map table) (take_more xs i d lt) ∙ map-append table (take i xs) (x ∷ []))))
