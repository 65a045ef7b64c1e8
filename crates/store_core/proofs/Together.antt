-- What published summaries say together, one summary after the other.
use Rattle.std.proofs.Common.{◌≡◌, ℕ, ◌+◌, ◌<◌, Bool, true, false, cond, not, ◌&&◌, ◌||◌, List, [], ◌∷◌, ◌++◌, map, take, length, get_or, Option, refl, sym, ap, ◌∙◌}
use Rattle.std.specs.List.{filter}
use Rattle.std.proofs.lemmas.List.{take_more, map-append}
use Rattle.std.proofs.lemmas.List.Elements.{filter-append}
use Rattle.lsn_core.specs.declared.ids.ForkId.{ForkId}
use Rattle.history.specs.fuzzy_copies.Summary.{BlockRefTable, least, is_at_most, summed, both_summed}
use Rattle.wal_summary.specs.declared.summary.Summary.{Summary}
use Rattle.wal_summary.proofs.Tables.{before_none, one_summed, lists_summed}
use Rattle.store_core.specs.State.{Published}
use Rattle.store_core.specs.Increments.{overlaps, table_between}
use Rattle.store_core.specs.InMemory.{published_in, limit_past, listed_past}

abbrev pub with_table : Bool → BlockRefTable → BlockRefTable → BlockRefTable
with_table true table more = both_summed table more
with_table false table more = table

pub table_push : (published : List Published) (p : Published) (from to : ℕ) → table_between (published ++ (p ∷ [])) from to ≡ with_table (overlaps from to p) (table_between published from to) p.table
table_push published p from to =
    let table = λ (x : Published). x.table in
    let some = filter (overlaps from to) published in
    ap (λ (ps : List Published). summed (map table ps)) (filter-append (overlaps from to) published (p ∷ []))
    ∙ elim (overlaps from to p) as (λ t. summed (map table (some ++ cond t (p ∷ []) [])) ≡ with_table t (table_between published from to) p.table) [
      | true ↦
          ap summed (map-append table some (p ∷ [])) ∙ lists_summed (map table some) (p.table ∷ []) ∙ ap (both_summed (table_between published from to)) (one_summed p.table)
      | false ↦ ap summed (map-append table some []) ∙ lists_summed (map table some) [] ∙ before_none (table_between published from to)
    ]

pub table_more : (sums : List Summary) (i : ℕ) (sum : Summary) (from to : ℕ) → i < length sums → sum ≡ get_or sums i sum
    → table_between (map published_in (take (i + 1) sums)) from to ≡ with_table (overlaps from to (published_in sum)) (table_between (map published_in (take i sums)) from to) (published_in sum).table
table_more sums i sum from to l is =
    ap (λ (ps : List Published). table_between ps from to)
    (ap (map published_in) (take_more sums i sum l ∙ ap (λ (x : Summary). take i sums ++ (x ∷ [])) (sym is)) ∙ map-append published_in (take i sums) (sum ∷ []))
    ∙ table_push (map published_in (take i sums)) (published_in sum) from to

limit_with : (t : Bool) (table : BlockRefTable) (p : Published) (fork : ForkId) → cond t (least (table.limit fork) (p.table.limit fork)) (table.limit fork) ≡ (with_table t table p.table).limit fork
limit_with true table p fork = refl
limit_with false table p fork = refl

pub limit_next : (sums : List Summary) (i : ℕ) (sum : Summary) (from to : ℕ) (fork : ForkId) (old new : Option ℕ) → i < length sums → sum ≡ get_or sums i sum
    → old ≡ (table_between (map published_in (take i sums)) from to).limit fork → new ≡ limit_past old from to fork (published_in sum)
    → new ≡ (table_between (map published_in (take (i + 1) sums)) from to).limit fork
limit_next sums i sum from to fork old new l is before more =
    more ∙ ap (λ (o : Option ℕ). limit_past o from to fork (published_in sum)) before
    ∙ limit_with (overlaps from to (published_in sum)) (table_between (map published_in (take i sums)) from to) (published_in sum) fork
    ∙ sym (ap (λ (t : BlockRefTable). t.limit fork) (table_more sums i sum from to l is))

listed_with : (t : Bool) (table : BlockRefTable) (p : Published) (fork : ForkId) (block : ℕ)
    → cond t ((table.listed fork block && not (is_at_most block (p.table.limit fork))) || p.table.listed fork block) (table.listed fork block) ≡ (with_table t table p.table).listed fork block
listed_with true table p fork block = refl
listed_with false table p fork block = refl

pub listed_next : (sums : List Summary) (i : ℕ) (sum : Summary) (from to : ℕ) (fork : ForkId) (block : ℕ) (old new : Bool) → i < length sums → sum ≡ get_or sums i sum
    → old ≡ (table_between (map published_in (take i sums)) from to).listed fork block → new ≡ listed_past old from to fork block (published_in sum)
    → new ≡ (table_between (map published_in (take (i + 1) sums)) from to).listed fork block
listed_next sums i sum from to fork block old new l is before more =
    more ∙ ap (λ (t : Bool). listed_past t from to fork block (published_in sum)) before
    ∙ listed_with (overlaps from to (published_in sum)) (table_between (map published_in (take i sums)) from to) (published_in sum) fork block
    ∙ sym (ap (λ (t : BlockRefTable). t.listed fork block) (table_more sums i sum from to l is))
