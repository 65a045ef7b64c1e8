-- A store in memory, and how many pages it has.
use Rattle.std.specs.Prelude.{◌≡◌, ℕ, List, map, length, sum, Option, IfSome}
use Rattle.std.specs.Global.{Vec}
use Rattle.std.specs.BTreeMap.{BTreeMap}
use Rattle.std.specs.FinMap.{from_entries, entries, code}
use Rattle.std.specs.Coded.{Coded, coded_list, coded_ℕ}
use Rattle.lsn_core.specs.declared.ids.ForkId.{ForkId}
use Rattle.lsn_core.specs.contracts.ids.ForkId.{the_row}
use Rattle.lsn_core.specs.Store.{Store}

-- the store that a map from fork to pages is
abbrev pub store_in : BTreeMap ForkId (Vec (List ℕ)) → Store
store_in forks = from_entries (map (λ e. (e.0, e.1.items)) forks.entries)

-- how many pages all forks have together
abbrev pub page_count : Store → ℕ
page_count store = sum (map (λ e. length e.1) (entries store))

-- by this a proof tells stores apart
abbrev pub store_code : Coded Store
store_code = code the_row.coded (coded_list (coded_list coded_ℕ))

-- the number of a store's pages, where it is known
abbrev pub IsTotal : Option ℕ → Store → Type 0
IsTotal total store = IfSome total (λ n. n ≡ page_count store)
