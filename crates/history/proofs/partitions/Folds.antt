-- A history's part applied to a store's part.
use Rattle.std.proofs.Common.{◌≡◌, ℕ, Bool, false, cond, List, [], ◌∷◌, map, Option, Some, None, option_map, refl, ap, sym, subst, ◌∙◌}
use Rattle.std.proofs.lemmas.Bool.{or_parts}
use Rattle.std.specs.List.{filter, list_any}
use Rattle.lsn_core.specs.byte_words.Numbers.{◌>>=◌}
use Rattle.lsn_core.proofs.byte_words.Fields.{bind_some}
use Rattle.lsn_core.specs.Relation.{Relation}
use Rattle.lsn_core.specs.Store.{Store}
use Rattle.lsn_core.specs.Blocks.{pages_of, with_block, page_put, with_fork, with_cut}
use Rattle.history.specs.declared.op.Item.{Item}
use Rattle.history.specs.Entry.{Act, Create, Truncate, Change, Drop, Mark, NoOp, Entry}
use Rattle.history.specs.Apply.{main_fork, without_rels, page_at, edited, apply_item, apply_items, apply_act, apply, apply_all}
use Rattle.history.proofs.Stores.{by_test}
use Rattle.history.specs.partitions.Parts.{is_of, is_item_of, is_rel_of, act_part, part_of, IsPart, act_concerns, concerns}
use Rattle.history.specs.partitions.Laws.{PartsFoldAlike, OtherEntriesLeaveParts, OthersMayBePassedOver}
use Rattle.history.proofs.partitions.Puts.{page_own, page_at_own, put_other, made_own, made_other, cut_own, cut_other, rels_own}

abbrev items_of : ℕ → List Item → List Item
items_of q items = filter (is_item_of q) items

pub mapped_some : {A B C : Type 0} (put : A → B) (o : Option A) (f : B → Option C) (y : C) → (option_map put o >>= f) ≡ Some y → (x : A) × (o ≡ Some x) × (f (put x) ≡ Some y)
mapped_some put None f y e = absurd cc
mapped_some put (Some x) f y e = (x, refl, e)

items_fold : (q end : ℕ) (store last part : Store) (items : List Item) → IsPart q store part → apply_items end store items ≡ Some last
    → (next : Store) × (apply_items end part (items_of q items) ≡ Some next) × IsPart q last next
items_fold q end store last part [] is e =
    let same : store ≡ last = cc in
    (part, refl, subst (λ (s : Store). IsPart q s part) same is)
items_fold q end store last part (item ∷ items) is e =
    let put = λ (page : List ℕ). page_put item.at page store in
    let found = mapped_some put (edited end (page_at store item.at) item.edit) (λ next. apply_items end next items) last e in
    let page = found.0 in
    by_test (is_item_of q item)
    (λ mine.
    let rest = items_fold q end (put page) last (page_put item.at page part) items (page_own q store part item.at page is mine) found.2 in
    let one : apply_item end part item ≡ Some (page_put item.at page part) =
    ap (λ (old : List ℕ). option_map (λ (p : List ℕ). page_put item.at p part) (edited end old item.edit)) (page_at_own q store part item.at is mine) ∙ ap (option_map (λ (p : List ℕ). page_put item.at p part)) found.1 in
    (rest.0, ap (λ c. apply_items end part (cond c (item ∷ items_of q items) (items_of q items))) mine ∙ ap (λ (o : Option Store). o >>= λ next. apply_items end next (items_of q items)) one ∙ rest.1, rest.2))
    (λ other.
    let rest = items_fold q end (put page) last part items (put_other q store part item.at.fork (with_block (pages_of store item.at.fork) item.at.block page) is other) found.2 in
    (rest.0, ap (λ c. apply_items end part (cond c (item ∷ items_of q items) (items_of q items))) other ∙ rest.1, rest.2))

act_folds : (q end : ℕ) (store last part : Store) (act : Act) → IsPart q store part → apply_act end store act ≡ Some last → (next : Store) × (apply_act end part (act_part q act) ≡ Some next) × IsPart q last next
act_folds q end store last part (Create fork) is e =
    let done : with_fork store fork ≡ last = cc in
    by_test (is_of q fork)
    (λ mine. (with_fork part fork, ap (λ c. apply_act end part (cond c (Create fork) (Mark NoOp))) mine, subst (λ (s : Store). IsPart q s (with_fork part fork)) done (made_own q store part fork is mine)))
    (λ other. (part, ap (λ c. apply_act end part (cond c (Create fork) (Mark NoOp))) other, subst (λ (s : Store). IsPart q s part) done (made_other q store part fork is other)))
act_folds q end store last part (Truncate rel n) is e =
    let fork = main_fork rel in
    let done : with_cut store fork n ≡ last = cc in
    by_test (is_of q fork)
    (λ mine. (with_cut part fork n, ap (λ c. apply_act end part (cond c (Truncate rel n) (Mark NoOp))) mine, subst (λ (s : Store). IsPart q s (with_cut part fork n)) done (cut_own q store part fork n is mine)))
    (λ other. (part, ap (λ c. apply_act end part (cond c (Truncate rel n) (Mark NoOp))) other, subst (λ (s : Store). IsPart q s part) done (cut_other q store part fork n is other)))
act_folds q end store last part (Change items) is e = items_fold q end store last part items is e
act_folds q end store last part (Drop rels) is e =
    let done : without_rels store rels ≡ last = cc in
    (without_rels part (filter (is_rel_of q) rels), refl, subst (λ (s : Store). IsPart q s (without_rels part (filter (is_rel_of q) rels))) done (rels_own q store part rels is))
act_folds q end store last part (Mark marking) is e =
    let same : store ≡ last = cc in
    (part, refl, subst (λ (s : Store). IsPart q s part) same is)

pub parts_fold : PartsFoldAlike
parts_fold q store last part [] is e =
    let same : store ≡ last = cc in
    (part, refl, subst (λ (s : Store). IsPart q s part) same is)
parts_fold q store last part (x ∷ xs) is e =
    let found = bind_some (apply store x) (λ next. apply_all next xs) last e in
    let one = act_folds q x.end store found.0 part x.act is found.1 in
    let rest = parts_fold q found.0 last one.0 xs one.2 found.2 in
    (rest.0, ap (λ (o : Option Store). o >>= λ next. apply_all next (map (part_of q) xs)) one.1 ∙ rest.1, rest.2)

-- where a test holds of nothing, nothing is kept
pub none_kept : {A : Type 0} (test : A → Bool) (xs : List A) → list_any test xs ≡ false → filter test xs ≡ []
none_kept test [] none = refl
none_kept test (x ∷ xs) none =
    let p = or_parts (test x) (list_any test xs) none in
    ap (λ c. cond c (x ∷ filter test xs) (filter test xs)) p.0 ∙ none_kept test xs p.1

act_passed : (q end : ℕ) (part : Store) (act : Act) → act_concerns q act ≡ false → apply_act end part (act_part q act) ≡ Some part
act_passed q end part (Create fork) other = ap (λ c. apply_act end part (cond c (Create fork) (Mark NoOp))) other
act_passed q end part (Truncate rel n) other = ap (λ c. apply_act end part (cond c (Truncate rel n) (Mark NoOp))) other
act_passed q end part (Change items) other = ap (apply_items end part) (none_kept (is_item_of q) items other)
act_passed q end part (Drop rels) other = ap (λ (l : List Relation). apply_act end part (Drop l)) (none_kept (is_rel_of q) rels other)
act_passed q end part (Mark marking) other = refl

pub passed_over : OthersMayBePassedOver
passed_over q part [] = refl
passed_over q part (x ∷ xs) =
    let few = filter (concerns q) xs in
    by_test (concerns q x)
    (λ mine.
    ap (λ (f : Store → Option Store). apply part (part_of q x) >>= f) (λ i s. passed_over q s xs i)
    ∙ sym (ap (λ c. apply_all part (map (part_of q) (cond c (x ∷ few) few))) mine))
    (λ other.
    ap (λ (o : Option Store). o >>= λ next. apply_all next (map (part_of q) xs)) (act_passed q x.end part x.act other) ∙ passed_over q part xs
    ∙ sym (ap (λ c. apply_all part (map (part_of q) (cond c (x ∷ few) few))) other))

pub others_leave : OtherEntriesLeaveParts
others_leave q store last part entries is none e =
    let folded = parts_fold q store last part entries is e in
    let still : apply_all part (map (part_of q) entries) ≡ Some part = passed_over q part entries ∙ ap (λ (es : List Entry). apply_all part (map (part_of q) es)) (none_kept (concerns q) entries none) in
    let same : folded.0 ≡ part = let f = folded.1 in cc in
    subst (λ (s : Store). IsPart q last s) same folded.2
