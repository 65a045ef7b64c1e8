-- Summaries that are published one behind the other.
use Rattle.std.proofs.Common.{◌≡◌, ◌≢◌, inl, inr, Bool, true, false, cond, Result, Ok, Err, IfOk, IfErr, ℕ, List, append_assoc, [], ◌∷◌, ◌++◌, Option, Some, None, option_map, refl, sym, ap, subst, ◌∙◌, arith}
use Rattle.std.specs.Global.{Vec}
use Rattle.std.specs.Cmp.Lexicographic.{nat_list_cmp_total}
use Rattle.std.specs.FinMap.{get, insert, get-insert}
use Rattle.lsn_core.proofs.StoreFiles.{same_name, names_tie, name_itself}
use Rattle.std.proofs.lemmas.List.{append-nil}
use Rattle.std.specs.List.{AllByRecursion}
use Rattle.lsn_core.specs.Files.{Files}
use Rattle.vault.specs.declared.area.Vault.{Ghosts}
use Rattle.history.specs.Entry.{Entry}
use Rattle.wal_summary.specs.declared.summary.Summary.{Summary}
use Rattle.wal_summary.specs.declared.kept.CoverFault.{CoverFault}
use Rattle.wal_summary.specs.declared.kept.CoverFault.TheVariants as cover
use Rattle.wal_summary.specs.Kept.{CoverAnswers, IsCovering, IsGap}
use Rattle.store_faults.specs.declared.advance_fault.AdvanceFault.{AdvanceFault}
use Rattle.vault.specs.Area.{Related}
use Rattle.summary_file.specs.File.{summary_bytes}
use Rattle.summary_file.specs.Name.{summary_name_bytes}
use Rattle.summary_store.specs.Kept.{end_behind}
use Rattle.shared_summaries.proofs.summary_publish.Later.{prefix_trans}
use Rattle.history.specs.fuzzy_copies.Orderly.{IsOrderly}
use mathlib.Core.List.{IsPrefix}
use Rattle.lsn_core.specs.declared.fault.StoreFault.{StoreFault}
use Rattle.store_locks.specs.Locked.{IsOfWal}
use Rattle.shared_store.specs.Shared.{TakesFaults}
use Rattle.store_locks.specs.Seen.{Seen, Booked, share_of, SharesStay}
use Rattle.shared_store.proofs.Booked.{shares_on}
use Rattle.shared_summaries.specs.summary_publish.Published.{LooksOn, ReadTakes}
use Rattle.shared_summaries.proofs.summary_publish.Later.{are_next_on}
use Rattle.shared_summaries.specs.summary_publish.Published.{IsNext, AreNext, IsWhole, CanFollow, AreFollowing, AreNow, IsAdvanced, AdvanceAnswers, with_file, with_files}
use Rattle.shared_summaries.specs.summary_publish.Partly.{MayWriteSummary, LeavesFiles, LeavesFirst}
use Rattle.shared_summaries.specs.declared.summary_publish.known.Known.{Known}
use Rattle.shared_summaries.specs.summary_publish.Inside.{cover_fault, PublishesNext, PublishesTo}

pub end_append : (low : ℕ) (xs ys : List Summary) → end_behind low (xs ++ ys) ≡ end_behind (end_behind low xs) ys
end_append low [] ys = refl
end_append low (x ∷ xs) ys = end_append x.end.0 xs ys

next_append : (h : List Entry) (made place : ℕ) (news : List Summary) (s : Summary) → AreNext h made place news → IsNext h made (end_behind place news) s → AreNext h made place (news ++ (s ∷ []))
next_append h made place [] s all is = (is, tt)
next_append h made place (x ∷ xs) s all is = (all.0, next_append h made x.end.0 xs s all.1 is)

files_append : (news : List Summary) (s : Summary) (m : Files) → with_files (news ++ (s ∷ [])) m ≡ with_file s (with_files news m)
files_append [] s m = refl
files_append (x ∷ xs) s m = files_append xs s (with_file x m)

files_none : (o : Option Files) → o ≡ option_map (with_files []) o
files_none None = refl
files_none (Some m) = refl

files_more : (news : List Summary) (s : Summary) (o : Option Files) → option_map (with_file s) (option_map (with_files news) o) ≡ option_map (with_files (news ++ (s ∷ []))) o
files_more news s None = refl
files_more news s (Some m) = ap (λ (x : Files). Some x) (sym (files_append news s m))

whole_append : (news : List Summary) (s : Summary) → AllByRecursion IsWhole news → IsWhole s → AllByRecursion IsWhole (news ++ (s ∷ []))
whole_append [] s all is = (is, tt)
whole_append (x ∷ xs) s all is = (all.0, whole_append xs s all.1 is)

following_append : (place : ℕ) (news : List Summary) (s : Summary) → AreFollowing place news → CanFollow (end_behind place news) s → AreFollowing place (news ++ (s ∷ []))
following_append place [] s all is = (is, tt)
following_append place (x ∷ xs) s all is = (all.0, following_append x.end.0 xs s all.1 is)

pub to_none : {V : Type 0} (g : Ghosts V) (told : Type 0) (h : List Entry) (first made : ℕ) (area : V) (kept : List Summary) (at : ℕ) → at ≡ end_behind first kept → PublishesTo g told h first made area area kept kept at
to_none g told h first made area kept at is = record { sums = []; now_is = sym (append-nil kept); follow = tt; next = λ t. tt; whole = tt; ends = is; files = files_none (g.files area) }

-- one more was written, and is kept
pub to_next : {V : Type 0} (g : Ghosts V) (told : Type 0) (h now : List Entry) (first made : ℕ) (old mid new : V) (kept so_far then : List Summary) (at : ℕ) (s : Summary) → PublishesTo g told h first made old mid kept so_far at → IsPrefix h now → (told → IsOrderly 0 now) → PublishesNext g told now at made mid new (Some s)
    → then ≡ so_far ++ (s ∷ []) → PublishesTo g told now first made old new kept then s.end.0
to_next g told h now first made old mid new kept so_far then at s to prefix order next is =
    let place = end_behind first kept in
    record {
      sums = to.sums ++ (s ∷ []);
      now_is = is ∙ ap (λ l. l ++ (s ∷ [])) to.now_is ∙ append_assoc kept to.sums (s ∷ []);
      follow = following_append place to.sums s to.follow (subst (λ n. CanFollow n s) to.ends next.0);
      next = λ t. next_append now made place to.sums s (are_next_on h now made place to.sums prefix (order t) (to.next t)) (subst (λ (x : ℕ). IsNext now made x s) to.ends (next.1 t));
      whole = whole_append to.sums s to.whole next.2;
      ends = sym (end_append place to.sums (s ∷ []));
      files = next.3 ∙ ap (option_map (with_file s)) to.files ∙ files_more to.sums s (g.files old);
    }

-- or it couldn't be kept
torn_none : (m : Files) (name bytes q : List ℕ) → get (insert m name bytes) q ≡ None → get m q ≡ None
torn_none m name bytes q e = step (same_name q name) (sym (get-insert nat_list_cmp_total m name bytes q) ∙ e)
  where
    step : (b : Bool) → cond b (Some bytes) (get m q) ≡ None → get m q ≡ None
    step true k = absurd cc
    step false k = k

torn_other : (m : Files) (name bytes q : List ℕ) → q ≢ name → get (insert m name bytes) q ≡ get m q
torn_other m name bytes q apart = get-insert nat_list_cmp_total m name bytes q ∙ step (same_name q name) refl
  where
    step : (b : Bool) → same_name q name ≡ b → cond b (Some bytes) (get m q) ≡ get m q
    step true e = absurd (apart (names_tie q name e))
    step false e = refl

torn_held : (m : Files) (name bytes held : List ℕ) → get (insert m name bytes) name ≡ Some held → held ≡ bytes
torn_held m name bytes held e = some_same held bytes (sym e ∙ get-insert nat_list_cmp_total m name bytes name ∙ ap (λ b. cond b (Some bytes) (get m name)) (name_itself name))
  where
    some_same : (a b : List ℕ) → (let o : Option (List ℕ) = Some a in o ≡ Some b) → a ≡ b
    some_same a b k = cc

whole_torn : (s : Summary) (m : Files) → MayWriteSummary s m (with_file s m)
whole_torn s m =
    let name = summary_name_bytes s.start.0 s.end.0 in
    record {
      others = λ q apart. torn_other m name (summary_bytes s) q apart;
      missing = λ e. torn_none m name (summary_bytes s) name e;
      file = λ held t e file. inl (torn_held m name (summary_bytes s) held e);
    }

left_whole : (told : Type 0) (now : List Entry) (made place : ℕ) (sums : List Summary) (s : Summary) (old mid new : Option Files) → mid ≡ option_map (with_files sums) old → new ≡ option_map (with_file s) mid → CanFollow place s → (told → IsNext now made place s) → IsWhole s
    → Related (LeavesFiles told now made place sums) old new
left_whole told now made place sums s None None None a b follow next whole = tt
left_whole told now made place sums s (Some m) (Some k) (Some n) a b follow next whole =
    inr (s, follow, next, whole, subst (MayWriteSummary s (with_files sums m)) (sym (some_files n (with_file s k) b ∙ ap (with_file s) (some_files k (with_files sums m) a))) (whole_torn s (with_files sums m)))
  where
    some_files : (x y : Files) → (let o : Option Files = Some x in o ≡ Some y) → x ≡ y
    some_files x y e = cc
left_whole told now made place sums s None None (Some n) a b follow next whole = absurd cc
left_whole told now made place sums s None (Some k) new a b follow next whole = absurd cc
left_whole told now made place sums s (Some m) None new a b follow next whole = absurd cc
left_whole told now made place sums s (Some m) (Some k) None a b follow next whole = absurd cc

pub to_unkept : {V : Type 0} (g : Ghosts V) (told : Type 0) (h now : List Entry) (first made : ℕ) (old mid new : V) (kept so_far : List Summary) (at : ℕ) (s : Summary) → PublishesTo g told h first made old mid kept so_far at → IsPrefix h now → (told → IsOrderly 0 now) → PublishesNext g told now at made mid new (Some s)
    → LeavesFirst told now made first (g.files old) (g.files new) kept so_far
to_unkept g told h now first made old mid new kept so_far at s to prefix order next =
    let place = end_behind first kept in
    record {
      sums = to.sums;
      now_is = to.now_is;
      follow = to.follow;
      next = λ t. are_next_on h now made place to.sums prefix (order t) (to.next t);
      whole = to.whole;
      left = left_whole told now made (end_behind place to.sums) to.sums s (g.files old) (g.files mid) (g.files new) to.files next.3
          (subst (λ n. CanFollow n s) to.ends next.0) (λ t. subst (λ (x : ℕ). IsNext now made x s) to.ends (next.1 t)) next.2;
    }

-- ---- faults that were answered

pub stays_same : (a b : Booked) → b ≡ a → SharesStay a b
stays_same a b same = record { later = λ area. let e = ap (share_of area) same in omega (arith, e) }

pub read_takes : {T : Type 0} (old new : Seen) (r : Result T StoreFault) → IfErr r IsOfWal → TakesFaults old new r → ReadTakes old new r
read_takes old new (Ok x) is takes = takes
read_takes old new (Err fault) is takes = (is, takes)

-- a look behind a look
pub looks_on : (p q r : Seen) → LooksOn p q → LooksOn q r → LooksOn p r
looks_on p q r one two = record {
  seen = prefix_trans p.list q.list r.list one.seen two.seen;
  worker = two.worker ∙ one.worker;
  accepted = two.accepted ∙ one.accepted;
  marks = two.marks ∙ one.marks;
  shares = shares_on p.faults q.faults r.faults one.shares two.shares;
}

pub ok_on : {T E : Type 0} (r : Result T E) (P Q : T → Type 0) → ((t : T) → P t → Q t) → IfOk r P → IfOk r Q
ok_on (Ok t) P Q f h = f t h
ok_on (Err e) P Q f h = tt

pub looks_still : (p : Seen) → LooksOn p p
looks_still p = record { seen = ([], append-nil p.list); worker = refl; accepted = refl; marks = refl; shares = stays_same p.faults p.faults refl }

-- where it isn't covered then
pub uncovered : {V : Type 0} (g : Ghosts V) (told : Type 0) (h : List Entry) (made limit from to count : ℕ) (old new : V) (before known : Known) (kept : List Summary) (fault : CoverFault) (r : AdvanceFault) → r ≡ cover_fault fault → (a : IsAdvanced g told h made limit old new before known count) → a.now ≡ kept
    → CoverAnswers kept from to (Err fault) → AdvanceAnswers g told h made limit from to old new before known (Err r)
uncovered g told h made limit from to count old new before known kept (cover.Gap place) r e a same answer =
    subst (λ (x : AdvanceFault). AdvanceAnswers g told h made limit from to old new before known (Err x)) (sym e) (record { count = count; advanced = a; so = subst (λ l. IsGap l from to place.0) (sym same) answer })
uncovered g told h made limit from to count old new before known kept cover.NoMemory r e a same answer = subst (λ (x : AdvanceFault). AdvanceAnswers g told h made limit from to old new before known (Err x)) (sym e) tt

pub covered : {V : Type 0} (g : Ghosts V) (told : Type 0) (h : List Entry) (made limit from to count : ℕ) (old new : V) (before known : Known) (kept : List Summary) (sum : Summary) → (a : IsAdvanced g told h made limit old new before known count) → a.now ≡ kept → CoverAnswers kept from to (Ok sum)
    → AdvanceAnswers g told h made limit from to old new before known (Ok sum)
covered g told h made limit from to count old new before known kept sum a same answer = record { count = count; advanced = a; so = subst (λ l. IsCovering l from to sum) (sym same) answer }

-- what is known is what is kept then
pub same_list : (a b : List Summary) → (let o : Option (List Summary) = Some a in o ≡ Some b) → a ≡ b
same_list a b e = cc

pub now_known : (known : Known) (v : Vec Summary) (now : List Summary) → known.kept ≡ Some v → AreNow known now → now ≡ v.items
now_known known v now is now_is = sym (same_list v.items now (sym (ap (option_map (λ w. w.items)) is) ∙ now_is))
