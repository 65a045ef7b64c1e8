-- Maps of frames and of lengths, seen as contracts see them.
use Rattle.std.proofs.Common.{◌≡◌, ℕ, suc, ◌+◌, ◌-◌, ◌<◌, ◌≤◌, Bool, true, false, cond, List, [], ◌∷◌, Option, Some, None, IsSome, is_some, true≢false, unwrap_or, Result, Ok, Err, OnOk, OnErr, ◌⊎◌, inl, inr, length, refl, sym, ap, subst, ◌∙◌, arith}
use Rattle.std.specs.Ordering.{eq_by_cmp}
use Rattle.std.specs.declared.cmp.Ordering.{Ordering}
use Rattle.std.specs.BTreeMap.{BTreeMap, UpdatesBy, IsOrdered}
use Rattle.std.specs.BTreeMap as tree
use Rattle.std.specs.FinMap.{get, insert, remove, contains_key, entries, len, len-entries, len-insert, len-remove, get-insert, get-remove}
use Rattle.std.specs.List.{filter_map}
use Rattle.lsn_core.specs.declared.ids.ForkId.{ForkId}
use Rattle.lsn_core.specs.declared.ids.BlockId.{BlockId}
use Rattle.lsn_core.specs.Store.{fork_cmp}
use Rattle.lsn_core.proofs.ForkOrder.{fork_cmp_total, fork_cmp-IsAntisymmetric, derived_cmp, derived_is}
use Rattle.page_frames.specs.declared.frames.Frame.{Frame}
use Rattle.page_frames.specs.Framed.{Held, HeldFrames, ForkSet, block_cmp}
use Rattle.page_frames.specs.Inside.{with_seen, held_of, held_in, lengths_in, slots_in, queue_in}
use Rattle.page_frames.proofs.Seen.{seen, got, seen_put, with_same, entries_seen, entry_of}
use Rattle.page_frames.proofs.Keys.{put_here, still_some}
use Rattle.page_frames.proofs.Orders.{block_cmp_total, block_cmp-IsAntisymmetric, derived_block_cmp, derived_block_is}

-- ---- in the words of the map's calls, which compare by the order that the key's type derives

pub frame_found : (m : BTreeMap BlockId Frame) (at : BlockId) (o : Option Frame) → o ≡ tree.get derived_block_cmp m at → get (held_in m) at ≡ seen held_of o
frame_found m at o e =
    got block_cmp_total block_cmp-IsAntisymmetric held_of m at
    ∙ ap (seen held_of) (sym (e ∙ ap (λ (R : BlockId → BlockId → Ordering). tree.get R m at) derived_block_is))

pub frame_put : (m n : BTreeMap BlockId Frame) (at : BlockId) (w : Option Frame) → UpdatesBy derived_block_cmp (derived_block_cmp at) m n w → held_in n ≡ with_seen at (seen held_of w) (held_in m)
frame_put m n at w u =
    seen_put block_cmp_total block_cmp-IsAntisymmetric held_of m n at w
    (subst (λ (R : BlockId → BlockId → Ordering). UpdatesBy R (R at) m n w) derived_block_is u)

pub frames_listed : (m : BTreeMap BlockId Frame) → IsOrdered derived_block_cmp m → entries (held_in m) ≡ filter_map (entry_of block_cmp_total block_cmp-IsAntisymmetric held_of) m.entries
frames_listed m h =
    entries_seen block_cmp_total block_cmp-IsAntisymmetric held_of m
    (subst (λ (R : BlockId → BlockId → Ordering). IsOrdered R m) derived_block_is h)

all_kept : (es : List (BlockId × Frame)) → length (filter_map (entry_of block_cmp_total block_cmp-IsAntisymmetric held_of) es) ≡ length es
all_kept [] = refl
all_kept (e ∷ es) = ap suc (all_kept es)

pub frames_counted : (m : BTreeMap BlockId Frame) → IsOrdered derived_block_cmp m → length m.entries ≡ len (held_in m)
frames_counted m h = sym (len-entries (held_in m) ∙ ap length (frames_listed m h) ∙ all_kept m.entries)

pub length_found : (m : BTreeMap ForkId (Option ℕ)) (fork : ForkId) (o : Option (Option ℕ)) → o ≡ tree.get derived_cmp m fork → get (lengths_in m) fork ≡ seen (λ n. n) o
length_found m fork o e =
    got fork_cmp_total fork_cmp-IsAntisymmetric (λ n. n) m fork
    ∙ ap (seen (λ n. n)) (sym (e ∙ ap (λ (R : ForkId → ForkId → Ordering). tree.get R m fork) derived_is))

pub frame_missing : (m : BTreeMap BlockId Frame) (at : BlockId) → IsSome (get (held_in m) at) → None ≡ tree.get derived_block_cmp m at → ⊥
frame_missing m at some e = true≢false (sym some ∙ ap (λ (o : Option Held). is_some o) (frame_found m at None e))

pub frame_there : (m : BTreeMap BlockId Frame) (at : BlockId) → true ≡ is_some (tree.get derived_block_cmp m at) → IsSome (get (held_in m) at)
frame_there m at e = by (tree.get derived_block_cmp m at) refl (sym e)
  where
    by : (o : Option Frame) → o ≡ tree.get derived_block_cmp m at → is_some o ≡ true → IsSome (get (held_in m) at)
    by None is missing = absurd (true≢false (sym missing))
    by (Some x) is found = ap (λ (o : Option Held). is_some o) (frame_found m at (Some x) is)

pub frame_none : (m : BTreeMap BlockId Frame) (at : BlockId) → false ≡ is_some (tree.get derived_block_cmp m at) → get (held_in m) at ≡ None
frame_none m at e = by (tree.get derived_block_cmp m at) refl (sym e)
  where
    by : (o : Option Frame) → o ≡ tree.get derived_block_cmp m at → is_some o ≡ false → get (held_in m) at ≡ None
    by None is missing = frame_found m at None is
    by (Some x) is found = absurd (true≢false found)

-- ---- lengths, and the slots that they are in

module _ (m : BTreeMap ForkId (Option ℕ)) (fork : ForkId) where
  pub slot_found : (o : Option (Option ℕ)) → o ≡ tree.get derived_cmp m fork → get (slots_in m) fork ≡ seen (λ _. Some true) o
  slot_found o e =
      got fork_cmp_total fork_cmp-IsAntisymmetric (λ _. Some true) m fork
      ∙ ap (seen (λ _. Some true)) (sym (e ∙ ap (λ (R : ForkId → ForkId → Ordering). tree.get R m fork) derived_is))

  pub slot_missing : IsSome (get (slots_in m) fork) → None ≡ tree.get derived_cmp m fork → ⊥
  slot_missing some e = true≢false (sym some ∙ ap (λ (o : Option Bool). is_some o) (slot_found None e))

  pub slot_there : true ≡ is_some (tree.get derived_cmp m fork) → IsSome (get (slots_in m) fork)
  slot_there e = by (tree.get derived_cmp m fork) refl (sym e)
    where
      by : (o : Option (Option ℕ)) → o ≡ tree.get derived_cmp m fork → is_some o ≡ true → IsSome (get (slots_in m) fork)
      by None is missing = absurd (true≢false (sym missing))
      by (Some n) is found = ap (λ (o : Option Bool). is_some o) (slot_found (Some n) is)

  -- a fork with a length has a slot
  pub slot_of_length : (n : ℕ) → get (lengths_in m) fork ≡ Some n → IsSome (get (slots_in m) fork)
  slot_of_length n there = by (tree.get derived_cmp m fork) refl
    where
      by : (o : Option (Option ℕ)) → o ≡ tree.get derived_cmp m fork → IsSome (get (slots_in m) fork)
      by None is = absurd (let nothing : None ≡ Some n = sym (length_found m fork None is) ∙ there in cc)
      by (Some x) is = ap (λ (o : Option Bool). is_some o) (slot_found (Some x) is)

  no_length : false ≡ is_some (tree.get derived_cmp m fork) → get (lengths_in m) fork ≡ None
  no_length e = by (tree.get derived_cmp m fork) refl (sym e)
    where
      by : (o : Option (Option ℕ)) → o ≡ tree.get derived_cmp m fork → is_some o ≡ false → get (lengths_in m) fork ≡ None
      by None is missing = length_found m fork None is
      by (Some n) is found = absurd (true≢false found)

  module _ (n : BTreeMap ForkId (Option ℕ)) (w : Option (Option ℕ)) (u : UpdatesBy derived_cmp (derived_cmp fork) m n w) where
    forks_update : UpdatesBy fork_cmp (fork_cmp fork) m n w
    forks_update = subst (λ (R : ForkId → ForkId → Ordering). UpdatesBy R (R fork) m n w) derived_is u

    pub length_put : lengths_in n ≡ with_seen fork (seen (λ n. n) w) (lengths_in m)
    length_put = seen_put fork_cmp_total fork_cmp-IsAntisymmetric (λ n. n) m n fork w forks_update

    pub slot_put : slots_in n ≡ with_seen fork (seen (λ _. Some true) w) (slots_in m)
    slot_put = seen_put fork_cmp_total fork_cmp-IsAntisymmetric (λ _. Some true) m n fork w forks_update

  module _ (n : BTreeMap ForkId (Option ℕ)) (new : Option ℕ) (u : UpdatesBy derived_cmp (derived_cmp fork) m n (Some new)) where
    pub slot_same : (old : Option ℕ) → Some old ≡ tree.get derived_cmp m fork → slots_in n ≡ slots_in m
    slot_same old e = slot_put n (Some new) u ∙ with_same fork_cmp_total fork_cmp-IsAntisymmetric (slots_in m) fork (Some true) (slot_found (Some old) e)

    pub slot_entered : IsSome (get (slots_in n) fork)
    slot_entered = ap (λ (s : ForkSet). is_some (get s fork)) (slot_put n (Some new) u) ∙ ap (λ (o : Option Bool). is_some o) (put_here fork_cmp_total (slots_in m) fork true)

    pub slot_kept : (other : ForkId) → IsSome (get (slots_in m) other) → IsSome (get (slots_in n) other)
    slot_kept other some = ap (λ (s : ForkSet). is_some (get s other)) (slot_put n (Some new) u) ∙ still_some fork_cmp_total (slots_in m) fork other true some

  pub length_same : (n : BTreeMap ForkId (Option ℕ)) → false ≡ is_some (tree.get derived_cmp m fork) → UpdatesBy derived_cmp (derived_cmp fork) m n (Some None) → lengths_in n ≡ lengths_in m
  length_same n none u = length_put n (Some None) u ∙ with_same fork_cmp_total fork_cmp-IsAntisymmetric (lengths_in m) fork None (no_length none)

-- ---- the queue

pub queue_put : (m n : BTreeMap BlockId (Unit {0})) (at : BlockId) (w : Option (Unit {0})) → UpdatesBy derived_block_cmp (derived_block_cmp at) m n w → queue_in n ≡ with_seen at (seen (λ _. Some true) w) (queue_in m)
queue_put m n at w u =
    seen_put block_cmp_total block_cmp-IsAntisymmetric (λ _. Some true) m n at w
    (subst (λ (R : BlockId → BlockId → Ordering). UpdatesBy R (R at) m n w) derived_block_is u)

-- what is in the queue is a key of its map
pub queue_has : (m : BTreeMap BlockId (Unit {0})) (at : BlockId) → IsSome (get (queue_in m) at) → is_some (tree.get derived_block_cmp m at) ≡ true
queue_has m at some = by (tree.get derived_block_cmp m at) refl
  where
    found : (o : Option (Unit {0})) → o ≡ tree.get derived_block_cmp m at → get (queue_in m) at ≡ seen (λ _. Some true) o
    found o e =
        got block_cmp_total block_cmp-IsAntisymmetric (λ _. Some true) m at
        ∙ ap (seen (λ _. Some true)) (sym (e ∙ ap (λ (R : BlockId → BlockId → Ordering). tree.get R m at) derived_block_is))

    by : (o : Option (Unit {0})) → o ≡ tree.get derived_block_cmp m at → is_some o ≡ true
    by None is = absurd (true≢false (sym some ∙ ap (λ (o : Option Bool). is_some o) (found None is)))
    by (Some x) is = refl

-- ---- what stays known of frames when one is put in or given up

module _ (held : HeldFrames) (at : BlockId) where
  pub whole_insert : (h : Held) → length h.page ≡ 8192 → ((q : BlockId) (f : Held) → get held q ≡ Some f → length f.page ≡ 8192) → (q : BlockId) (f : Held) → get (insert held at h) q ≡ Some f → length f.page ≡ 8192
  whole_insert h size all q f e = by (eq_by_cmp block_cmp q at) (sym (get-insert block_cmp_total held at h q) ∙ e)
    where
      by : (b : Bool) → cond b (Some h) (get held q) ≡ Some f → length f.page ≡ 8192
      by true e = let same : h ≡ f = ap (λ (o : Option Held). unwrap_or o h) e in sym (ap (λ (x : Held). length x.page) same) ∙ size
      by false e = all q f e

  pub few_insert : (h : Held) (limit : ℕ) → len held < limit → len (insert held at h) ≤ limit
  few_insert h limit l = by (contains_key held at) (len-insert block_cmp_total held at h)
    where
      by : (b : Bool) → len (insert held at h) ≡ cond b (len held) (len held + 1) → len (insert held at h) ≤ limit
      by true e = omega (arith, e, l)
      by false e = omega (arith, e, l)

  pub whole_remove : ((q : BlockId) (f : Held) → get held q ≡ Some f → length f.page ≡ 8192) → (q : BlockId) (f : Held) → get (remove held at) q ≡ Some f → length f.page ≡ 8192
  whole_remove all q f e = by (eq_by_cmp block_cmp q at) (sym (get-remove block_cmp_total held at q) ∙ e)
    where
      by : (b : Bool) → cond b None (get held q) ≡ Some f → length f.page ≡ 8192
      by true e = absurd cc
      by false e = all q f e

  pub few_remove : (limit : ℕ) → len held ≤ limit → len (remove held at) ≤ limit
  few_remove limit l = by (contains_key held at) (len-remove block_cmp_total held at)
    where
      by : (b : Bool) → len (remove held at) ≡ cond b (len held - 1) (len held) → len (remove held at) ≤ limit
      by true e = omega (arith, e, l)
      by false e = omega (arith, e, l)

-- a call that says what it leaves in either case leaves one of the two
pub either : {T E P Q : Type 0} (r : Result T E) → OnOk r P → OnErr r Q → P ⊎ Q
either (Ok x) p q = inl p
either (Err e) p q = inr q
