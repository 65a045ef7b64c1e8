-- One entry applied to a store, and many in turn.
use Rattle.std.specs.Prelude.{ℕ, ◌==◌, ◌&&◌, ◌||◌, Bool, List, [], ◌∷◌, get_or, Option, Some, None, if◌then◌else◌}
use Rattle.std.specs.List.{list_any}
use Rattle.std.specs.Option.{option_map}
use Rattle.std.specs.Ordering.{eq_by_cmp}
use Rattle.lsn_core.specs.byte_words.Numbers.{◌>>=◌}
use Rattle.lsn_core.specs.Relation.{Relation}
use Rattle.lsn_core.specs.declared.ids.ForkKind.TheVariants.{Main, Init}
use Rattle.lsn_core.specs.declared.ids.ForkId.{ForkId}
use Rattle.lsn_core.specs.declared.ids.BlockId.{BlockId}
use Rattle.lsn_core.specs.Store.{Store, fork_cmp}
use Rattle.lsn_core.specs.Blocks.{pages_of, page_put, with_fork, with_cut, without_fork}
use Rattle.pg_page.specs.Header.{hole_zeroed, with_lsn, zero_page}
use Rattle.pg_page.specs.Frags.{written_frags, patched, is_good}
use Rattle.history.specs.declared.op.Edit.{Edit}
use Rattle.history.specs.declared.op.Edit.TheVariants.{Put, Patch}
use Rattle.history.specs.declared.op.Item.{Item}
use Rattle.history.specs.Entry.{Act, Create, Truncate, Change, Drop, Mark, Entry}

-- how an edit changes a page, by an entry that ends at a place; None where it can't
abbrev pub Rule : Type 0
Rule = ℕ → List ℕ → Edit → Option (List ℕ)

-- a page that is put stands there with its hole zeroed and that end as its LSN; a patch changes the
-- page that is there, and can't where the header is then bad
abbrev pub edited : Rule
edited end old (Put page) = Some (with_lsn end (hole_zeroed page))
edited end old (Patch frags) =
    if is_good (written_frags frags old) then Some (patched frags end old) else None

abbrev pub main_fork : Relation → ForkId
main_fork rel = record { rel = rel; kind = Main }

abbrev pub init_fork : Relation → ForkId
init_fork rel = record { rel = rel; kind = Init }

unfoldable pub is_same_fork : ForkId → ForkId → Bool
is_same_fork a b = eq_by_cmp fork_cmp a b

abbrev pub is_same_block : BlockId → BlockId → Bool
is_same_block a b = is_same_fork a.fork b.fork && (a.block == b.block)

-- the page at a block; a missing one is a zero page
abbrev pub page_at : Store → BlockId → List ℕ
page_at store at = get_or (pages_of store at.fork) at.block zero_page

-- items in turn, by a rule; None where one can't be done. A missing fork is made, and missing pages
-- up to the block are zero pages
abbrev pub item_by : Rule → ℕ → Store → Item → Option Store
item_by rule end store item =
    option_map (λ page. page_put item.at page store) (rule end (page_at store item.at) item.edit)

abbrev pub items_by : Rule → ℕ → Store → List Item → Option Store
items_by rule end store [] = Some store
items_by rule end store (item ∷ items) =
    item_by rule end store item >>= λ next. items_by rule end next items

-- a fork is one of a relation's; it is one of those of several relations
abbrev pub is_fork_of : ForkId → Relation → Bool
is_fork_of fork rel = is_same_fork fork (main_fork rel) || is_same_fork fork (init_fork rel)

abbrev pub is_of_any : ForkId → List Relation → Bool
is_of_any fork rels = list_any (is_fork_of fork) rels

-- the store without a relation, and without several
abbrev pub without_rel : Store → Relation → Store
without_rel store rel = without_fork (without_fork store (main_fork rel)) (init_fork rel)

abbrev pub without_rels : Store → List Relation → Store
without_rels store [] = store
without_rels store (rel ∷ rels) = without_rels (without_rel store rel) rels

-- an act done by an entry that ends at a place
abbrev pub act_by : Rule → ℕ → Store → Act → Option Store
act_by rule end store (Create fork) = Some (with_fork store fork)
act_by rule end store (Truncate rel count) = Some (with_cut store (main_fork rel) count)
act_by rule end store (Change items) = items_by rule end store items
act_by rule end store (Drop rels) = Some (without_rels store rels)
act_by rule end store (Mark marking) = Some store

abbrev pub apply_item : ℕ → Store → Item → Option Store
apply_item = item_by edited

abbrev pub apply_items : ℕ → Store → List Item → Option Store
apply_items = items_by edited

abbrev pub apply_act : ℕ → Store → Act → Option Store
apply_act = act_by edited

abbrev pub apply : Store → Entry → Option Store
apply store entry = apply_act entry.end store entry.act

-- entries applied in turn; None from the first one on that can't be
abbrev pub apply_all : Store → List Entry → Option Store
apply_all store [] = Some store
apply_all store (entry ∷ entries) = apply store entry >>= λ next. apply_all next entries
