-- What a publishing leaves that may have failed.
use Rattle.std.proofs.Common.{◌≡◌, ⊎_elim, inl, inr, ℕ, ◌+◌, List, [], ◌∷◌, length, Option, Some, None, IfSome, option_map, refl, sym, ap, subst, ◌∙◌, arith, length-append}
use mathlib.Core.List.{IsPrefix}
use Rattle.lsn_core.specs.Files.{Files}
use Rattle.vault.specs.Area.{Related}
use Rattle.vault.specs.declared.area.Vault.{Ghosts}
use Rattle.vault.specs.Frame.{IsDurable}
use Rattle.history.specs.Entry.{Entry}
use Rattle.history.specs.fuzzy_copies.Orderly.{IsOrderly}
use Rattle.wal_summary.specs.declared.summary.Summary.{Summary}
use Rattle.summary_file.specs.File.{summary_bytes}
use Rattle.summary_file.specs.Name.{summary_name_bytes}
use Rattle.summary_store.specs.Kept.{end_behind}
use Rattle.summary_store.specs.Expiry.{AreHeld, AreGone, Expires, MayExpire, expired, unexpired, without}
use Rattle.summary_store.proofs.Expiring.{none_taken, held_first}
use Rattle.shared_summaries.specs.summary_publish.Entries.{first_start, next_redo}
use Rattle.shared_summaries.specs.summary_publish.Published.{IsNext, AreNext, IsWhole, CanFollow, ArePublished, Advances, with_files}
use Rattle.shared_summaries.specs.summary_publish.Partly.{MayWrite, MayWriteSummary, LeavesFiles, LeavesFirst, AdvancesPartly}
use Rattle.shared_summaries.specs.summary_publish.Inside.{Publishes, PublishesNext, PublishesTo, LeavesOne, LeavesNext}
use Rattle.shared_summaries.specs.summary_publish.Torn.{MayLeave, IsLeft}
use Rattle.shared_summaries.proofs.summary_publish.Later.{are_next_on}

-- nothing is left where nothing was done
related_same : (R : Files → Files → Type 0) → ((m : Files) → R m m) → (o : Option Files) → Related R o o
related_same R f None = tt
related_same R f (Some m) = f m

pub next_none : (told : Type 0) (h : List Entry) (made place : ℕ) (o p : Option Files) → p ≡ o → LeavesNext told h made place o p
next_none told h made place o p same = subst (LeavesNext told h made place o) (sym same) (related_same (LeavesOne told h made place) (λ m. record { left = inl refl }) o)

-- the next one was written, or a part of it
one_left : (told : Type 0) (h : List Entry) (made place : ℕ) (sum : Summary) (m n : Files) → CanFollow place sum → (told → IsNext h made place sum) → MayLeave sum m n → LeavesOne told h made place m n
one_left told h made place sum m n follow next (inl same) = record { left = inl same }
one_left told h made place sum m n follow next (inr torn) = record { left = inr (sum, follow, next, torn.0, torn.1) }

pub next_one : (told : Type 0) (h : List Entry) (made place : ℕ) (sum : Summary) (o p : Option Files) → CanFollow place sum → (told → IsNext h made place sum) → IsLeft sum o p → LeavesNext told h made place o p
next_one told h made place sum None None follow next left = tt
next_one told h made place sum (Some m) (Some n) follow next left = one_left told h made place sum m n follow next left
next_one told h made place sum None (Some n) follow next left = absurd left
next_one told h made place sum (Some m) None follow next left = absurd left

-- writing a summary's file, or not beginning to
pub left_same : (sum : Summary) (o p : Option Files) → p ≡ o → IsLeft sum o p
left_same sum o p same = subst (IsLeft sum o) (sym same) (related_same (MayLeave sum) (λ m. inl refl) o)

pub left_written : (sum : Summary) (name bytes : List ℕ) (o p : Option Files) → IsWhole sum → name ≡ summary_name_bytes sum.start.0 sum.end.0 → bytes ≡ summary_bytes sum → Related (MayWrite name bytes) o p → IsLeft sum o p
left_written sum name bytes None None whole named are left = tt
left_written sum name bytes (Some m) (Some n) whole named are left =
    inr (whole, subst (λ b. MayWrite (summary_name_bytes sum.start.0 sum.end.0) b m n) are (subst (λ q. MayWrite q bytes m n) named left))
left_written sum name bytes None (Some n) whole named are left = absurd left
left_written sum name bytes (Some m) None whole named are left = absurd left

-- behind those that were published
first_of : (told : Type 0) (now : List Entry) (made place : ℕ) (sums : List Summary) (old mid new : Files) → mid ≡ with_files sums old → LeavesOne told now made place mid new → LeavesFiles told now made place sums old new
first_of told now made place sums old mid new mid_is one =
    ⊎_elim (λ same. inl (same ∙ mid_is)) (λ torn. inr (torn.0, torn.1, torn.2, torn.3, subst (λ m. MayWriteSummary torn.0 m new) mid_is torn.4)) one.left

some_files : (a b : Files) → (let o : Option Files = Some a in o ≡ Some b) → a ≡ b
some_files a b e = cc

firsts : (told : Type 0) (now : List Entry) (made place : ℕ) (sums : List Summary) (old mid new : Option Files) → mid ≡ option_map (with_files sums) old → LeavesNext told now made place mid new → Related (LeavesFiles told now made place sums) old new
firsts told now made place sums None None None is one = tt
firsts told now made place sums None None (Some n) is one = absurd one
firsts told now made place sums None (Some m) new is one = absurd cc
firsts told now made place sums (Some o) None new is one = absurd cc
firsts told now made place sums (Some o) (Some m) None is one = absurd one
firsts told now made place sums (Some o) (Some m) (Some n) is one = first_of told now made place sums o m n (some_files m (with_files sums o) is) one

pub to_first : {V : Type 0} (g : Ghosts V) (told : Type 0) (h now : List Entry) (first made : ℕ) (old mid : V) (kept so_far : List Summary) (at : ℕ) (new : Option Files) → PublishesTo g told h first made old mid kept so_far at → IsPrefix h now → (told → IsOrderly 0 now)
    → LeavesNext told now made at (g.files mid) new → LeavesFirst told now made first (g.files old) new kept so_far
to_first g told h now first made old mid kept so_far at new to prefix order one = record {
  sums = to.sums;
  now_is = to.now_is;
  follow = to.follow;
  next = λ t. are_next_on h now made (end_behind first kept) to.sums prefix (order t) (to.next t);
  whole = to.whole;
  left = firsts told now made (end_behind (end_behind first kept) to.sums) to.sums (g.files old) (g.files mid) new to.files (subst (λ n. LeavesNext told now made n (g.files mid) new) to.ends one);
}

-- all that there was to publish was published
pub to_end : {V : Type 0} (g : Ghosts V) (told : Type 0) (h now : List Entry) (first made : ℕ) (old mid last new : V) (kept so_far : List Summary) (at count : ℕ) → PublishesTo g told h first made old mid kept so_far at → IsPrefix h now → (told → IsOrderly 0 now)
    → PublishesNext g told now at made mid last None → g.files new ≡ g.files last → IsDurable (g.files new) (g.past new) → count + length kept ≡ length so_far → Publishes g told now first made old new kept so_far count
to_end g told h now first made old mid last new kept so_far at count to prefix order none same durable counted =
    let n = ap length to.now_is in
    let l = length-append kept to.sums in
    record {
      sums = to.sums;
      now_is = to.now_is;
      follow = to.follow;
      next = λ t. are_next_on h now made (end_behind first kept) to.sums prefix (order t) (to.next t);
      whole = to.whole;
      last = λ t. subst (λ k. next_redo k now ≡ None) to.ends (none.1 t);
      counted = omega (arith, n, l, counted);
      files = same ∙ ap g.files none.0 ∙ to.files;
      durable = durable;
    }

-- ---- nothing is removed

pub nothing_gone : (limit : ℕ) (o : Option Files) (kept : List Summary) → MayExpire limit o o kept kept
nothing_gone limit o kept = record {
  gone = [];
  at = [];
  few = omega arith;
  taken = none_taken limit kept;
  young = refl;
  files = related_same (AreGone [] []) (λ m. inl refl) o;
  held = held_first o kept;
}

-- only some were published
pub partly_published : (told : Type 0) (h : List Entry) (made limit first : ℕ) (old new : Option Files) (kept now : List Summary) → (told → first ≡ first_start h) → LeavesFirst told h made first old new kept now → AdvancesPartly told h made limit old new kept now
partly_published told h made limit first old new kept now is some = record {
  first = first;
  first_is = is;
  mid = new;
  between = now;
  some = some;
  expiry = nothing_gone limit new now;
}

-- all were, and then some were removed
whole_left : (told : Type 0) (h : List Entry) (made place : ℕ) (sums : List Summary) (o q : Option Files) → q ≡ option_map (with_files sums) o → Related (LeavesFiles told h made place sums) o q
whole_left told h made place sums None q e = subst (Related (LeavesFiles told h made place sums) None) (sym e) tt
whole_left told h made place sums (Some m) q e = subst (Related (LeavesFiles told h made place sums) (Some m)) (sym e) (inl refl)

published_first : {V : Type 0} (g : Ghosts V) (told : Type 0) (h : List Entry) (first made : ℕ) (old mid : V) (kept between : List Summary) (count : ℕ) → Publishes g told h first made old mid kept between count → LeavesFirst told h made first (g.files old) (g.files mid) kept between
published_first g told h first made old mid kept between count p = record {
  sums = p.sums;
  now_is = p.now_is;
  follow = p.follow;
  next = p.next;
  whole = p.whole;
  left = whole_left told h made (end_behind (end_behind first kept) p.sums) p.sums (g.files old) (g.files mid) p.files;
}

pub partly_expired : {V : Type 0} (g : Ghosts V) (told : Type 0) (h : List Entry) (made limit first : ℕ) (old mid new : V) (kept between now : List Summary) (count : ℕ) → (told → first ≡ first_start h) → Publishes g told h first made old mid kept between count
    → MayExpire limit (g.files mid) (g.files new) between now → AdvancesPartly told h made limit (g.files old) (g.files new) kept now
partly_expired g told h made limit first old mid new kept between now count is p expiry = record {
  first = first;
  first_is = is;
  mid = g.files mid;
  between = between;
  some = published_first g told h first made old mid kept between count p;
  expiry = expiry;
}

-- and all that are expired were
map_twice : (f k : Files → Files) (o : Option Files) → option_map k (option_map f o) ≡ option_map (λ m. k (f m)) o
map_twice f k None = refl
map_twice f k (Some m) = refl

when_some : (o : Option Files) (P Q : Files → Type 0) → ((m : Files) → P m → Q m) → IfSome o P → IfSome o Q
when_some None P Q f held = tt
when_some (Some m) P Q f held = f m held

pub all_advanced : {V : Type 0} (g : Ghosts V) (told : Type 0) (h : List Entry) (made limit first : ℕ) (old mid new : V) (kept between now : List Summary) (count many : ℕ) → (told → first ≡ first_start h) → IfSome (g.files old) (λ m. AreHeld m kept)
    → Publishes g told h first made old mid kept between count → Expires g limit mid new between now many → IsDurable (g.files new) (g.past new) → Advances g told h made limit old new kept now count
all_advanced g told h made limit first old mid new kept between now count many is held p e durable = record {
  sums = p.sums;
  published = λ t. when_some (g.files old) (λ m. AreHeld m kept) (λ m. ArePublished h made m kept p.sums) (λ m k. record {
    held = k;
    next = subst (λ n. AreNext h made (end_behind n kept) p.sums) (is t) (p.next t);
    last = subst (λ n. next_redo (end_behind (end_behind n kept) p.sums) h ≡ None) (is t) (p.last t);
    whole = p.whole;
  }) held;
  counted = p.counted;
  kept_is = e.kept ∙ ap (unexpired limit) p.now_is;
  files = e.files ∙ ap (option_map (without (expired limit between))) p.files ∙ map_twice (with_files p.sums) (without (expired limit between)) (g.files old)
      ∙ ap (λ l. option_map (λ m. without (expired limit l) (with_files p.sums m)) (g.files old)) p.now_is;
  durable = durable;
}

-- where none was removed, what was durable is so
none_gone : (limit : ℕ) (kept : List Summary) → length (expired limit kept) ≡ 0 → expired limit kept ≡ []
none_gone limit kept e = by_list (expired limit kept) e
  where
    by_list : (xs : List Summary) → length xs ≡ 0 → xs ≡ []
    by_list [] k = refl
    by_list (x ∷ xs) k = absurd (omega (arith, k))

map_same : (o : Option Files) → option_map (without []) o ≡ o
map_same None = refl
map_same (Some m) = refl

pub still_durable : {V : Type 0} (g : Ghosts V) (limit : ℕ) (old new : V) (kept now : List Summary) (count : ℕ) → Expires g limit old new kept now count → count ≡ 0 → IsDurable (g.files old) (g.past old) → IsDurable (g.files new) (g.past new)
still_durable g limit old new kept now count e zero_is durable =
    let n = e.counted in
    let none = none_gone limit kept (omega (arith, n, zero_is)) in
    let files : g.files new ≡ g.files old = e.files ∙ ap (λ l. option_map (without l) (g.files old)) none ∙ map_same (g.files old) in
    subst (λ o. IsDurable o (g.past new)) (sym files) (subst (IsDurable (g.files old)) (sym (e.still zero_is)) durable)
