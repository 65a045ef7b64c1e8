-- An act that concerns one partition alone, on the store and on the part.
use Rattle.std.proofs.Common.{◌≡◌, ℕ, true, false, cond, filter, List, [], ◌∷◌, Option, Some, None, option_map, refl, ap, sym, subst, ◌∙◌, true≢false}
use Rattle.std.proofs.lemmas.Bool.{or_parts, eq-eqb, eqb-false}
use Rattle.std.specs.List.{list_any}
use Rattle.lsn_core.specs.byte_words.Numbers.{◌>>=◌}
use Rattle.lsn_core.specs.declared.ids.ForkId.{ForkId}
use Rattle.lsn_core.specs.Relation.{Relation}
use Rattle.lsn_core.specs.Store.{Store}
use Rattle.lsn_core.specs.Blocks.{page_put, with_fork, with_cut}
use Rattle.history.specs.declared.op.Item.{Item}
use Rattle.history.specs.Entry.{Create, Truncate, Change, Drop, Mark}
use Rattle.history.specs.Apply.{main_fork, without_rels, page_at, edited, apply_item, apply_items}
use Rattle.history.specs.Op.{AreTidyItems}
use Rattle.history.proofs.Stores.{by_test}
use Rattle.history.specs.partitions.Parts.{partition_of, is_of, is_item_of, is_rel_of, IsPart}
use Rattle.history.specs.partitions.Laws.{OwnActsAreDone, OwnActsAreTidy}
use Rattle.history.proofs.partitions.Puts.{own, page_own, page_at_own, made_own, cut_own, rels_own}
use Rattle.history.proofs.partitions.Folds.{mapped_some}

-- a fork that is of no other partition is of this one
pub own_fork : (q : ℕ) (fork : ForkId) → ((other : ℕ) → (other ≡ q → ⊥) → is_of other fork ≡ false) → is_of q fork ≡ true
own_fork q fork none =
    by_test (is_of q fork) (λ mine. mine) (λ other. absurd (true≢false (sym (eq-eqb (partition_of fork.rel) (partition_of fork.rel) refl) ∙ none (partition_of fork.rel) (eqb-false (partition_of fork.rel) q other))))

abbrev pub OfNoOther : ℕ → List Item → Type 0
OfNoOther q items = (other : ℕ) → (other ≡ q → ⊥) → list_any (is_item_of other) items ≡ false

pub first_own : (q : ℕ) (item : Item) (items : List Item) → OfNoOther q (item ∷ items) → is_of q item.at.fork ≡ true
first_own q item items none = own_fork q item.at.fork (λ other k. (or_parts (is_item_of other item) (list_any (is_item_of other) items) (none other k)).0)

pub others_own : (q : ℕ) (item : Item) (items : List Item) → OfNoOther q (item ∷ items) → OfNoOther q items
others_own q item items none other k = (or_parts (is_item_of other item) (list_any (is_item_of other) items) (none other k)).1

-- an item that is done on one of two stores is done on the other, where the page is the same
step : (end : ℕ) (s t : Store) (item : Item) (page : List ℕ) → page_at t item.at ≡ page_at s item.at → edited end (page_at s item.at) item.edit ≡ Some page → apply_item end t item ≡ Some (page_put item.at page t)
step end s t item page same done =
    ap (λ (old : List ℕ). option_map (λ (p : List ℕ). page_put item.at p t) (edited end old item.edit)) same ∙ ap (option_map (λ (p : List ℕ). page_put item.at p t)) done

items_done : (q end : ℕ) (store part next : Store) (items : List Item) → IsPart q store part → OfNoOther q items → apply_items end part items ≡ Some next → (last : Store) × (apply_items end store items ≡ Some last) × IsPart q last next
items_done q end store part next [] is none e =
    let same : part ≡ next = cc in
    (store, refl, subst (λ (s : Store). IsPart q store s) same is)
items_done q end store part next (item ∷ items) is none e =
    let put = λ (page : List ℕ). page_put item.at page part in
    let mine = first_own q item items none in
    let found = mapped_some put (edited end (page_at part item.at) item.edit) (λ s. apply_items end s items) next e in
    let page = found.0 in
    let rest = items_done q end (page_put item.at page store) (put page) next items (page_own q store part item.at page is mine) (others_own q item items none) found.2 in
    (rest.0, ap (λ (o : Option Store). o >>= λ s. apply_items end s items) (step end part store item page (sym (page_at_own q store part item.at is mine)) found.1) ∙ rest.1, rest.2)

-- relations that are of no other partition are of this one
pub own_rel : (q : ℕ) (rel : Relation) → ((other : ℕ) → (other ≡ q → ⊥) → is_rel_of other rel ≡ false) → is_rel_of q rel ≡ true
own_rel q rel none =
    by_test (is_rel_of q rel) (λ mine. mine) (λ other. absurd (true≢false (sym (eq-eqb (partition_of rel) (partition_of rel) refl) ∙ none (partition_of rel) (eqb-false (partition_of rel) q other))))

pub all_kept : (q : ℕ) (rels : List Relation) → ((other : ℕ) → (other ≡ q → ⊥) → list_any (is_rel_of other) rels ≡ false) → filter (is_rel_of q) rels ≡ rels
all_kept q [] none = refl
all_kept q (rel ∷ rels) none =
    let mine = own_rel q rel (λ other k. (or_parts (is_rel_of other rel) (list_any (is_rel_of other) rels) (none other k)).0) in
    ap (λ c. cond c (rel ∷ filter (is_rel_of q) rels) (filter (is_rel_of q) rels)) mine
    ∙ ap (λ (l : List Relation). rel ∷ l) (all_kept q rels (λ other k. (or_parts (is_rel_of other rel) (list_any (is_rel_of other) rels) (none other k)).1))

pub own_done : OwnActsAreDone
own_done q end store part next (Create fork) is none e =
    let done : with_fork part fork ≡ next = cc in
    (with_fork store fork, refl, subst (λ (s : Store). IsPart q (with_fork store fork) s) done (made_own q store part fork is (own_fork q fork none)))
own_done q end store part next (Truncate rel count) is none e =
    let fork = main_fork rel in
    let done : with_cut part fork count ≡ next = cc in
    (with_cut store fork count, refl, subst (λ (s : Store). IsPart q (with_cut store fork count) s) done (cut_own q store part fork count is (own_fork q fork none)))
own_done q end store part next (Change items) is none e = items_done q end store part next items is none e
own_done q end store part next (Drop rels) is none e =
    let done : without_rels part rels ≡ next = cc in
    (without_rels store rels, refl, subst (λ (s : Store). IsPart q (without_rels store rels) s) done (subst (λ (l : List Relation). IsPart q (without_rels store rels) (without_rels part l)) (all_kept q rels none) (rels_own q store part rels is)))
own_done q end store part next (Mark marking) is none e =
    let same : part ≡ next = cc in
    (store, refl, subst (λ (s : Store). IsPart q store s) same is)

mapped : {A B : Type 0} (put : A → B) (o : Option A) (y : B) → option_map put o ≡ Some y → (x : A) × (o ≡ Some x) × (put x ≡ y)
mapped put None y e = absurd cc
mapped put (Some x) y e = (x, refl, cc)

items_tidy : (q : ℕ) (store part : Store) (items : List Item) → IsPart q store part → OfNoOther q items → AreTidyItems part items → AreTidyItems store items
items_tidy q store part [] is none tidy = tt
items_tidy q store part (item ∷ items) is none tidy =
    let mine = first_own q item items none in
    let first = tidy.0 in (
      record { pages = first.pages; there = sym (own q store part item.at.fork is mine) ∙ first.there; reached = first.reached },
      λ end next e.
          let found = mapped (λ page. page_put item.at page store) (edited end (page_at store item.at) item.edit) next e in
          let page = found.0 in
          let after = page_put item.at page part in
          let both = subst (λ (s : Store). IsPart q s after) found.2 (page_own q store part item.at page is mine) in
          items_tidy q next after items both (others_own q item items none) (tidy.1 end after (step end store part item page (page_at_own q store part item.at is mine) found.1)),
    )

pub own_tidy : OwnActsAreTidy
own_tidy q store part (Create fork) is none tidy = sym (own q store part fork is (own_fork q fork none)) ∙ tidy
own_tidy q store part (Truncate rel count) is none tidy =
    record { pages = tidy.pages; there = sym (own q store part (main_fork rel) is (own_fork q (main_fork rel) none)) ∙ tidy.there; within = tidy.within }
own_tidy q store part (Change items) is none tidy = items_tidy q store part items is none tidy
own_tidy q store part (Drop rels) is none tidy = tt
own_tidy q store part (Mark marking) is none tidy = tt
