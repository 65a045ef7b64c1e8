-- What the partition's parts of entries touch, cut off, create and enter.
use Rattle.std.proofs.Common.{◌≡◌, ℕ, Bool, true, false, cond, ◌&&◌, ◌||◌, List, [], ◌∷◌, map, fold, Option, Some, None, refl, ap, sym, ◌∙◌, true≢false, eqb-true}
use Rattle.std.specs.Prelude.{◌==◌, nat_le}
use Rattle.std.specs.List.{AllByRecursion, list_any, filter}
use Rattle.std.proofs.lemmas.Bool.{and_parts, or_parts, eq-eqb}
use Rattle.lsn_core.specs.declared.ids.ForkId.{ForkId}
use Rattle.history.specs.Entry.{Act, Create, Truncate, Change, Drop, Mark, NoOp, Entry}
use Rattle.history.specs.Apply.{main_fork, is_same_fork, is_fork_of, is_of_any}
use Rattle.history.proofs.Stores.{by_test, fork_is}
use Rattle.history.specs.partitions.Parts.{is_of, is_item_of, is_rel_of, act_part, part_of, act_concerns, concerns}
use Rattle.history.proofs.partitions.Folds.{none_kept}
use Rattle.history.specs.fuzzy_copies.Touches.{is_at, act_touches, act_cuts, act_settles, touches, resets, settles}
use Rattle.history.proofs.fuzzy_copies.Completed.{or_second}
use Rattle.page_pool.specs.declared.work.Work.{Work}
use Rattle.page_pool.specs.declared.work.Work.TheVariants.{Make, Cut, Remove}
use Rattle.page_pool.specs.declared.work.Pending.{Pending}
use Rattle.page_pool.specs.Part.{work_settles, work_cuts, is_to_settle, is_to_cut}
use Rattle.page_pool.specs.Facts.{touch_over, enters, is_entered}

pub or_true : (a b : Bool) → b ≡ true → (a || b) ≡ true
or_true true b k = refl
or_true false b k = k

-- where a part of an entry passes a test, and the entry a weaker one
pub any_part : (q : ℕ) (t u : Entry → Bool) (es : List Entry) → ((e : Entry) → t (part_of q e) ≡ true → u e ≡ true) → list_any t (map (part_of q) es) ≡ true → list_any u es ≡ true
any_part q t u [] f h = absurd (true≢false (sym h))
any_part q t u (e ∷ es) f h =
    let rest = map (part_of q) es in
    by_test (t (part_of q e)) (λ now. ap (λ c. c || list_any u es) (f e now)) (λ not_now. or_true (u e) (list_any u es) (any_part q t u es f (or_second (t (part_of q e)) (list_any t rest) h not_now)))

-- what a part of a list has, the list has
pub any_filtered : {X : Type 0} (t p : X → Bool) (es : List X) → list_any t (filter p es) ≡ true → list_any t es ≡ true
any_filtered t p [] h = h
any_filtered t p (e ∷ es) h =
    let rest = filter p es in
    by_test (p e)
    (λ kept.
    let found : (t e || list_any t rest) ≡ true = sym (ap (λ c. list_any t (cond c (e ∷ rest) rest)) kept) ∙ h in
    by_test (t e) (λ now. ap (λ c. c || list_any t es) now) (λ not_now. or_true (t e) (list_any t es) (any_filtered t p es (or_second (t e) (list_any t rest) found not_now))))
    (λ left_out. or_true (t e) (list_any t es) (any_filtered t p es (sym (ap (λ c. list_any t (cond c (e ∷ rest) rest)) left_out) ∙ h)))

-- an act's part touches only what the act does
touches_kept : (fork : ForkId) (b : ℕ) (c : Bool) (act : Act) → act_touches fork b (cond c act (Mark NoOp)) ≡ true → act_touches fork b act ≡ true
touches_kept fork b true act h = h
touches_kept fork b false act h = absurd (true≢false (sym h))

pub part_touches : (q : ℕ) (fork : ForkId) (b : ℕ) (act : Act) → act_touches fork b (act_part q act) ≡ true → act_touches fork b act ≡ true
part_touches q fork b (Create made) h = touches_kept fork b (is_of q made) (Create made) h
part_touches q fork b (Truncate rel count) h = touches_kept fork b (is_of q (main_fork rel)) (Truncate rel count) h
part_touches q fork b (Change items) h = any_filtered (is_at fork b) (is_item_of q) items h
part_touches q fork b (Drop rels) h = h
part_touches q fork b (Mark marking) h = h

-- of an act that doesn't concern the partition the part touches nothing
other_touches : (q : ℕ) (fork : ForkId) (b : ℕ) (act : Act) → act_concerns q act ≡ false → act_touches fork b (act_part q act) ≡ false
other_touches q fork b (Create made) none = ap (λ c. act_touches fork b (cond c (Create made) (Mark NoOp))) none
other_touches q fork b (Truncate rel count) none = ap (λ c. act_touches fork b (cond c (Truncate rel count) (Mark NoOp))) none
other_touches q fork b (Change items) none = ap (list_any (is_at fork b)) (none_kept (is_item_of q) items none)
other_touches q fork b (Drop rels) none = refl
other_touches q fork b (Mark marking) none = refl

pub others_touch : (q : ℕ) (fork : ForkId) (b : ℕ) (last : Option ℕ) (es : List Entry) → list_any (concerns q) es ≡ false → fold (touch_over fork b) last (map (part_of q) es) ≡ last
others_touch q fork b last [] none = refl
others_touch q fork b last (e ∷ es) none =
    let p = or_parts (concerns q e) (list_any (concerns q) es) none in
    ap (λ c. fold (touch_over fork b) (cond c (Some e.end) last) (map (part_of q) es)) (other_touches q fork b e.act p.0) ∙ others_touch q fork b last es p.1

-- an entry touched the block, and ends at the place
abbrev pub touches_to : ForkId → ℕ → ℕ → Entry → Bool
touches_to fork block end e = touches fork block e && (e.end == end)

both : (a b : Bool) → a ≡ true → b ≡ true → (a && b) ≡ true
both a b x y = ap (λ c. c && b) x ∙ y

now_or_before : (touch : Bool) (new end : ℕ) (last : Option ℕ) {P : Type 0} → cond touch (Some new) last ≡ Some end → (touch ≡ true → new ≡ end → P) → (last ≡ Some end → P) → P
now_or_before true new end last h now before = now refl cc
now_or_before false new end last h now before = before h

-- where the last touch ends, an entry ends that touched the block
touch_found : (fork : ForkId) (b end : ℕ) (last : Option ℕ) (es : List Entry) {P : Type 0} → fold (touch_over fork b) last es ≡ Some end → (last ≡ Some end → P) → (list_any (touches_to fork b end) es ≡ true → P) → P
touch_found fork b end last [] h before found = before h
touch_found fork b end last (e ∷ es) h before found =
    touch_found fork b end (touch_over fork b last e) es h
    (λ k. now_or_before (touches fork b e) e.end end last k
    (λ touch same. found (ap (λ c. c || list_any (touches_to fork b end) es) (both (touches fork b e) (e.end == end) touch (eq-eqb e.end end same))))
    before)
    (λ later. found (or_true (touches_to fork b end e) (list_any (touches_to fork b end) es) later))

pub touch_in : (fork : ForkId) (b end : ℕ) (es : List Entry) → fold (touch_over fork b) None es ≡ Some end → list_any (touches_to fork b end) es ≡ true
touch_in fork b end es h = touch_found fork b end None es h (λ none. absurd cc) (λ found. found)

-- an entry entered the work, and ends where the work says
abbrev pub entered_by : Pending → Entry → Bool
entered_by w e = enters e.act w.work && (e.end == w.end.0)

-- a work that an act's part enters, the act enters
enters_kept : (work : Work) (c : Bool) (act : Act) → enters (cond c act (Mark NoOp)) work ≡ true → enters act work ≡ true
enters_kept work true act h = h
enters_kept work false act h = absurd (true≢false (sym h))

part_enters : (q : ℕ) (work : Work) (act : Act) → enters (act_part q act) work ≡ true → enters act work ≡ true
part_enters q work (Create made) h = enters_kept work (is_of q made) (Create made) h
part_enters q work (Truncate rel count) h = enters_kept work (is_of q (main_fork rel)) (Truncate rel count) h
part_enters q work (Change items) h = h
part_enters q (Make made) (Drop rels) h = h
part_enters q (Cut cut n) (Drop rels) h = h
part_enters q (Remove gone) (Drop rels) h = any_filtered (is_fork_of gone) (is_rel_of q) rels h
part_enters q work (Mark marking) h = h

-- an act that enters a work cuts off and settles what the work does
cut_entered : (fork : ForkId) (b : ℕ) (act : Act) (work : Work) → enters act work ≡ true → work_cuts fork b work ≡ true → act_cuts fork b act ≡ true
cut_entered fork b (Create made) (Make m) e c = absurd (true≢false (sym c))
cut_entered fork b (Create made) (Cut cut n) e c = absurd (true≢false (sym e))
cut_entered fork b (Create made) (Remove gone) e c = absurd (true≢false (sym e))
cut_entered fork b (Truncate rel count) (Make m) e c = absurd (true≢false (sym e))
cut_entered fork b (Truncate rel count) (Remove gone) e c = absurd (true≢false (sym e))
cut_entered fork b (Truncate rel count) (Cut cut n) e c =
    let same = and_parts (is_same_fork cut (main_fork rel)) (n == count) e in
    let cuts = and_parts (is_same_fork fork cut) (nat_le n b) c in
    both (is_same_fork fork (main_fork rel)) (nat_le count b) (ap (is_same_fork fork) (sym (fork_is cut (main_fork rel) same.0)) ∙ cuts.0) (ap (λ (k : ℕ). nat_le k b) (sym (eqb-true n count same.1)) ∙ cuts.1)
cut_entered fork b (Change items) work e c = absurd (true≢false (sym e))
cut_entered fork b (Drop rels) (Make m) e c = absurd (true≢false (sym e))
cut_entered fork b (Drop rels) (Cut cut n) e c = absurd (true≢false (sym e))
cut_entered fork b (Drop rels) (Remove gone) e c = ap (λ (f : ForkId). is_of_any f rels) (fork_is fork gone c) ∙ e
cut_entered fork b (Mark marking) work e c = absurd (true≢false (sym e))

settle_entered : (fork : ForkId) (act : Act) (work : Work) → enters act work ≡ true → work_settles fork work ≡ true → act_settles fork act ≡ true
settle_entered fork (Create made) (Make m) e c = ap (is_same_fork fork) (sym (fork_is m made e)) ∙ c
settle_entered fork (Create made) (Cut cut n) e c = absurd (true≢false (sym e))
settle_entered fork (Create made) (Remove gone) e c = absurd (true≢false (sym e))
settle_entered fork (Truncate rel count) (Make m) e c = absurd (true≢false (sym e))
settle_entered fork (Truncate rel count) (Cut cut n) e c = absurd (true≢false (sym c))
settle_entered fork (Truncate rel count) (Remove gone) e c = absurd (true≢false (sym e))
settle_entered fork (Change items) work e c = absurd (true≢false (sym e))
settle_entered fork (Drop rels) (Make m) e c = absurd (true≢false (sym e))
settle_entered fork (Drop rels) (Cut cut n) e c = absurd (true≢false (sym e))
settle_entered fork (Drop rels) (Remove gone) e c = ap (λ (f : ForkId). is_of_any f rels) (fork_is fork gone c) ∙ e
settle_entered fork (Mark marking) work e c = absurd (true≢false (sym e))

-- entries entered all of some works
abbrev pub AreEntered : List Entry → List Pending → Type 0
AreEntered es works = AllByRecursion (λ (w : Pending). is_entered es w ≡ true) works

-- of the partition's parts of entries: what works cut off and make that they entered, the entries do
cuts_back : (q : ℕ) (fork : ForkId) (b : ℕ) (es : List Entry) (w : Pending) → is_entered (map (part_of q) es) w ≡ true → work_cuts fork b w.work ≡ true → list_any (resets fork b) es ≡ true
cuts_back q fork b es w entered cuts =
    any_part q (entered_by w) (resets fork b) es (λ e h. or_true (act_touches fork b e.act) (act_cuts fork b e.act) (cut_entered fork b e.act w.work (part_enters q w.work e.act (and_parts (enters (act_part q e.act) w.work) (e.end == w.end.0) h).0) cuts)) entered

settles_back : (q : ℕ) (fork : ForkId) (es : List Entry) (w : Pending) → is_entered (map (part_of q) es) w ≡ true → work_settles fork w.work ≡ true → list_any (settles fork) es ≡ true
settles_back q fork es w entered makes =
    any_part q (entered_by w) (settles fork) es (λ e h. settle_entered fork e.act w.work (part_enters q w.work e.act (and_parts (enters (act_part q e.act) w.work) (e.end == w.end.0) h).0) makes) entered

pub entered_cuts : (q : ℕ) (fork : ForkId) (b : ℕ) (es : List Entry) (works : List Pending) → AreEntered (map (part_of q) es) works → is_to_cut works fork b ≡ true → list_any (resets fork b) es ≡ true
entered_cuts q fork b es [] entered cut = absurd (true≢false (sym cut))
entered_cuts q fork b es (w ∷ works) entered cut =
    by_test (work_cuts fork b w.work) (cuts_back q fork b es w entered.0) (λ not_now. entered_cuts q fork b es works entered.1 (or_second (work_cuts fork b w.work) (is_to_cut works fork b) cut not_now))

pub entered_settles : (q : ℕ) (fork : ForkId) (es : List Entry) (works : List Pending) → AreEntered (map (part_of q) es) works → is_to_settle works fork ≡ true → list_any (settles fork) es ≡ true
entered_settles q fork es [] entered make = absurd (true≢false (sym make))
entered_settles q fork es (w ∷ works) entered make =
    by_test (work_settles fork w.work) (settles_back q fork es w entered.0) (λ not_now. entered_settles q fork es works entered.1 (or_second (work_settles fork w.work) (is_to_settle works fork) make not_now))
