-- Old summaries are removed one after the other.
use Rattle.std.proofs.Common.{Ok, OnOk, set, length-set, ◌≡◌, inl, inr, ℕ, zero, suc, ◌+◌, ◌<◌, ◌≤◌, Bool, true, false, cond, not, ◌&&◌, List, [], ◌∷◌, ◌++◌, length, take, drop, get_or, Option, Some, None, Result, Err, option_map, unwrap_or, refl, sym, ap, subst, ◌∙◌, arith, append_assoc, append-nil, length-append, true≢false}
use Rattle.std.specs.Prelude.{nat_lt}
use Rattle.std.specs.Option.{is_some}
use Rattle.std.specs.Result.{result_err}
use Rattle.std.specs.List.{filter, AllByRecursion, SwappedAt}
use Rattle.std.specs.Cmp.Lexicographic.{slice_cmp, nat_list_cmp_total}
use Rattle.std.specs.Ordering.{nat_cmp, eq_by_cmp}
use Rattle.std.specs.FinMap.{get, get-remove}
use Rattle.std.proofs.lemmas.Bool.{and_parts, ltb-true}
use Rattle.std.proofs.lemmas.List.{take_more, take-set-le, drop_more, drop-set-lt, drop_all, length-take-le}
use Rattle.std.proofs.lemmas.List.Elements.{filter-append}
use Rattle.lsn_core.specs.Files.{Files}
use Rattle.lsn_core.specs.Causes.{HasCause}
use Rattle.lsn_core.proofs.StoreFiles.{same_name, names_tie}
use Rattle.lsn_core.specs.declared.fault.AreaFault.{AreaFault}
use Rattle.lsn_core.specs.declared.fault.AreaFault.TheVariants.{NoMemory}
use Rattle.vault.specs.Area.{Related, Removes, MayRemove, bytes_of, after_remove}
use Rattle.vault.specs.Stops.{removed, Notes, Tries}
use Rattle.vault.specs.Frame.{AgreeBut, ChangesOnly, IsAmong}
use Rattle.vault.proofs.Through.{adds_by}
use Rattle.vault.proofs.Changed.{remove_agrees}
use Rattle.vault.specs.declared.area.Vault.{Ghosts}
use Rattle.wal_summary.specs.declared.summary.Summary.{Summary}
use Rattle.wal_summary.specs.Kept.{AreInOrder}
use Rattle.summary_file.specs.File.{IsFileOf}
use Rattle.summary_file.specs.Name.{summary_name_bytes}
use Rattle.summary_file.proofs.Ranges.{one_range}
use Rattle.summary_store.specs.Kept.{IsSummaryIn, end_behind}
use Rattle.summary_store.specs.Expiry.{age_limit, is_old, is_expired, expired, unexpired, young, without, AreHeld, AreTaken, AreGone, IsSummaryName, Expires, MayExpire}
use Rattle.summary_store.specs.Inside.{TakesOne, MayLose, IsExpiring, HasExpired, ExpiresSoFar}

-- what is made at the moment itself isn't old
pub limit_below : (days when : ℕ) → age_limit days when ≤ when
limit_below zero when = omega arith
limit_below (suc n) when = omega arith

-- ---- what stays moves to the front

module _ {X : Type 0} where
  swapped_long : (xs ys : List X) (left at : ℕ) (d : X) → SwappedAt xs ys left at → length ys ≡ length xs
  swapped_long xs ys left at d s = ap length (s.3 d) ∙ length-set (set xs left (get_or xs at d)) at (get_or xs left d) ∙ length-set xs left (get_or xs at d)

  pub stays_long : (xs ys : List X) (left at : ℕ) → SwappedAt xs ys left at → at < length xs → length ys ≡ length xs
  stays_long [] ys left at s lt = absurd (omega (arith, lt))
  stays_long (x ∷ xs) ys left at s lt = swapped_long (x ∷ xs) ys left at x s

  front_moved : (xs ys : List X) (left at : ℕ) (d : X) → SwappedAt xs ys left at → left ≤ at → at < length xs → take (left + 1) ys ≡ take left xs ++ (get_or xs at d ∷ [])
  front_moved xs ys left at d s le lt =
      let long = swapped_long xs ys left at d s in
      let front : take left ys ≡ take left xs =
      ap (take left) (s.3 d) ∙ take-set-le left (set xs left (get_or xs at d)) at (get_or xs left d) le ∙ take-set-le left xs left (get_or xs at d) (omega arith) in
      take_more ys left d (omega (arith, le, lt, long)) ∙ ap (λ l. l ++ (get_or ys left d ∷ [])) front ∙ ap (λ x. take left xs ++ (x ∷ [])) (s.0 d)

  back_stays : (xs ys : List X) (left at : ℕ) (d : X) → SwappedAt xs ys left at → left ≤ at → drop (at + 1) ys ≡ drop (at + 1) xs
  back_stays xs ys left at d s le =
      ap (drop (at + 1)) (s.3 d) ∙ drop-set-lt (at + 1) (set xs left (get_or xs at d)) at (get_or xs left d) (omega arith) ∙ drop-set-lt (at + 1) xs left (get_or xs at d) (omega (arith, le))

  all_in_front : (xs : List X) (left at : ℕ) → length xs ≤ at → take left xs ≡ take left xs ++ drop at xs
  all_in_front xs left at le = sym (append-nil (take left xs)) ∙ ap (λ l. take left xs ++ l) (sym (drop_all at xs le))

-- ---- one is taken

end_twice : (low : ℕ) (xs ys : List Summary) → end_behind low (xs ++ ys) ≡ end_behind (end_behind low xs) ys
end_twice low [] ys = refl
end_twice low (x ∷ xs) ys = end_twice x.end.0 xs ys

-- where the last one isn't taken, the end stays
end_past : (low : ℕ) (front back : List Summary) (sum : Summary) → sum.end.0 < end_behind 0 (front ++ (sum ∷ back)) → end_behind low (front ++ back) ≡ end_behind low (front ++ (sum ∷ back))
end_past low front [] sum lt = let is = end_twice 0 front (sum ∷ []) in absurd (omega (arith, lt, is))
end_past low front (b ∷ bs) sum lt = end_twice low front (b ∷ bs) ∙ sym (end_twice low front (sum ∷ (b ∷ bs)))

order_past : (low : ℕ) (front back : List Summary) (sum : Summary) → AreInOrder low (front ++ (sum ∷ back)) → AreInOrder low (front ++ back)
order_past low [] [] sum o = tt
order_past low [] (b ∷ bs) sum o =
    let a = o.0 in let r = o.1 in let t = o.3.0 in
    (omega (arith, a, r, t), o.3.1, o.3.2, o.3.3)
order_past low (f ∷ fs) back sum o = (o.0, o.1, o.2, order_past f.end.0 fs back sum o.3)

long_past : (front back : List Summary) (sum : Summary) → length (front ++ (sum ∷ back)) ≡ suc (length (front ++ back))
long_past [] back sum = refl
long_past (f ∷ fs) back sum = ap suc (long_past fs back sum)

same_test : (limit : ℕ) (old new : List Summary) → end_behind 0 new ≡ end_behind 0 old → (s : Summary) → is_expired limit new s ≡ is_expired limit old s
same_test limit old new e s = ap (λ n. is_old limit s && nat_lt s.end.0 n) e

module _ {X : Type 0} where
  same_filter : (p q : X → Bool) → ((x : X) → p x ≡ q x) → (xs : List X) → filter p xs ≡ filter q xs
  same_filter p q f [] = refl
  same_filter p q f (x ∷ xs) = ap (λ b. cond b (x ∷ filter p xs) (filter p xs)) (f x) ∙ ap (λ ys. cond (q x) (x ∷ ys) ys) (same_filter p q f xs)

  filter_first : (p : X → Bool) (front back : List X) (x : X) → filter p front ≡ [] → p x ≡ true → filter p (front ++ (x ∷ back)) ≡ x ∷ filter p (front ++ back)
  filter_first p front back x none is =
      filter-append p front (x ∷ back) ∙ ap (λ ys. ys ++ filter p (x ∷ back)) none ∙ ap (λ b. cond b (x ∷ filter p back) (filter p back)) is
      ∙ ap (λ ys. x ∷ (ys ++ filter p back)) (sym none) ∙ ap (λ ys. x ∷ ys) (sym (filter-append p front back))

  filter_past : (p : X → Bool) (front back : List X) (x : X) → p x ≡ false → filter p (front ++ (x ∷ back)) ≡ filter p (front ++ back)
  filter_past p front back x is =
      filter-append p front (x ∷ back) ∙ ap (λ b. filter p front ++ cond b (x ∷ filter p back) (filter p back)) is ∙ sym (filter-append p front back)

taken_at : (limit : ℕ) (front back : List Summary) (sum : Summary) → let old : List Summary = front ++ (sum ∷ back) in filter (is_expired limit old) front ≡ [] → is_expired limit old sum ≡ true → AreTaken limit old (front ++ back) (sum ∷ [])
taken_at limit front back sum none is =
    let old : List Summary = front ++ (sum ∷ back) in
    let new : List Summary = front ++ back in
    let lt : sum.end.0 < end_behind 0 old = ltb-true sum.end.0 (end_behind 0 old) (and_parts (is_old limit sum) (nat_lt sum.end.0 (end_behind 0 old)) is).1 in
    let test = same_test limit old new (end_past 0 front back sum lt) in
    let l = long_past front back sum in
    let long : length old ≡ length {A = Summary} (sum ∷ []) + length new = omega (arith, l) in
    record {
      first = filter_first (is_expired limit old) front back sum none is ∙ ap (λ ys. sum ∷ ys) (sym (same_filter (is_expired limit new) (is_expired limit old) test new));
      others = same_filter (λ s. not (is_expired limit new s)) (λ s. not (is_expired limit old s)) (λ s. ap not (test s)) new
          ∙ sym (filter_past (λ s. not (is_expired limit old s)) front back sum (ap not is));
      counted = long;
      end = λ low. end_past low front back sum lt;
      order = λ low o. order_past low front back sum o;
    }

one_taken : (limit : ℕ) (old new : List Summary) (sum : Summary) → TakesOne limit old new sum → AreTaken limit old new (sum ∷ [])
one_taken limit old new sum t =
    subst (λ l. AreTaken limit old l (sum ∷ [])) (sym t.now)
    (subst (λ l. AreTaken limit l (t.front ++ t.back) (sum ∷ [])) (sym t.was)
    (taken_at limit t.front t.back sum (subst (λ l. filter (is_expired limit l) t.front ≡ []) t.was t.first) (subst (λ l. is_expired limit l sum ≡ true) t.was t.old_one)))

-- ---- one after the other

pub none_taken : (limit : ℕ) (old : List Summary) → AreTaken limit old old []
none_taken limit old = record { first = refl; others = refl; counted = omega arith; end = λ low. refl; order = λ low o. o }

more_taken : (limit : ℕ) (old mid new gone more : List Summary) → AreTaken limit old mid gone → AreTaken limit mid new more → AreTaken limit old new (gone ++ more)
more_taken limit old mid new gone more a b =
    let m = a.counted in
    let n = b.counted in
    let l = length-append gone more in
    record {
      first = a.first ∙ ap (λ ys. gone ++ ys) b.first ∙ sym (append_assoc gone more (expired limit new));
      others = b.others ∙ a.others;
      counted = omega (arith, m, n, l);
      end = λ low. b.end low ∙ a.end low;
      order = λ low o. b.order low (a.order low o);
    }

-- ---- files

pub without_more : (gone more : List Summary) (m : Files) → without (gone ++ more) m ≡ without more (without gone m)
without_more [] more m = refl
without_more (s ∷ ss) more m = without_more ss more (after_remove (summary_name_bytes s.start.0 s.end.0) m)

map_more : (gone more : List Summary) (o : Option Files) → option_map (without more) (option_map (without gone) o) ≡ option_map (without (gone ++ more)) o
map_more gone more None = refl
map_more gone more (Some m) = ap (λ (x : Files). Some x) (sym (without_more gone more m))

pub map_none : (o : Option Files) → o ≡ option_map (without []) o
map_none None = refl
map_none (Some m) = refl

-- a file that is there was there
gone_step : (b : Bool) (o : Option (List ℕ)) (bytes : List ℕ) → cond b None o ≡ Some bytes → o ≡ Some bytes
gone_step true o bytes e = absurd cc
gone_step false o bytes e = e

pub was_there : (gone : List Summary) (m : Files) (name bytes : List ℕ) → get (without gone m) name ≡ Some bytes → get m name ≡ Some bytes
was_there [] m name bytes e = e
was_there (s ∷ ss) m name bytes e =
    let n = summary_name_bytes s.start.0 s.end.0 in
    gone_step (eq_by_cmp (slice_cmp nat_cmp) name n) (get m name) bytes (sym (get-remove nat_list_cmp_total m n name) ∙ was_there ss (after_remove n m) name bytes e)

-- one of another name stays
stays_step : (b : Bool) (o : Option (List ℕ)) → b ≡ false → cond b None o ≡ o
stays_step true o e = absurd cc
stays_step false o e = refl

stays : (m : Files) (name other : List ℕ) → same_name other name ≡ false → bytes_of (after_remove name m) other ≡ bytes_of m other
stays m name other apart = ap (λ (o : Option (List ℕ)). unwrap_or o []) (get-remove nat_list_cmp_total m name other ∙ stays_step (same_name other name) (get m other) apart)

apart_by : (m : Files) (s t : Summary) → IsSummaryIn m (summary_name_bytes s.start.0 s.end.0) s → IsSummaryIn m (summary_name_bytes t.start.0 t.end.0) t → (s.start.0 ≡ t.start.0 → ⊥) → (b : Bool) → same_name (summary_name_bytes t.start.0 t.end.0) (summary_name_bytes s.start.0 s.end.0) ≡ b → b ≡ false
apart_by m s t is there other true e =
    absurd (other (sym (one_range t.start.0 t.end.0 s.start.0 s.end.0 there.file.room.start there.file.room.end is.file.room.start is.file.room.end (names_tie (summary_name_bytes t.start.0 t.end.0) (summary_name_bytes s.start.0 s.end.0) e)).0))
apart_by m s t is there other false e = refl

one_stays : (m : Files) (s t : Summary) → IsSummaryIn m (summary_name_bytes s.start.0 s.end.0) s → IsSummaryIn m (summary_name_bytes t.start.0 t.end.0) t → (s.start.0 ≡ t.start.0 → ⊥)
    → IsSummaryIn (after_remove (summary_name_bytes s.start.0 s.end.0) m) (summary_name_bytes t.start.0 t.end.0) t
one_stays m s t is there other =
    let apart = apart_by m s t is there other (same_name (summary_name_bytes t.start.0 t.end.0) (summary_name_bytes s.start.0 s.end.0)) refl in
    record { named = refl; file = subst (IsFileOf t) (sym (stays m (summary_name_bytes s.start.0 s.end.0) (summary_name_bytes t.start.0 t.end.0) apart)) there.file }

-- those behind it, and those before
held_behind : (m : Files) (s : Summary) (low : ℕ) (back : List Summary) → IsSummaryIn m (summary_name_bytes s.start.0 s.end.0) s → s.start.0 < low → AreInOrder low back → AreHeld m back → AreHeld (without (s ∷ []) m) back
held_behind m s low [] is lt o held = tt
held_behind m s low (t ∷ ts) is lt o held =
    let a = o.0 in
    let r = o.1 in
    (one_stays m s t is held.0 (λ e. omega (arith, lt, a, e)), held_behind m s t.end.0 ts is (omega (arith, lt, a, r)) o.3 held.1)

starts_past : (low : ℕ) (front back : List Summary) (s : Summary) → AreInOrder low (front ++ (s ∷ back)) → low ≤ s.start.0
starts_past low [] back s o = o.0
starts_past low (f ∷ fs) back s o = let a = o.0 in let r = o.1 in let l = starts_past f.end.0 fs back s o.3 in omega (arith, a, r, l)

at_sum : (m : Files) (front back : List Summary) (s : Summary) → AreHeld m (front ++ (s ∷ back)) → IsSummaryIn m (summary_name_bytes s.start.0 s.end.0) s
at_sum m [] back s held = held.0
at_sum m (f ∷ fs) back s held = at_sum m fs back s held.1

held_past : (m : Files) (low : ℕ) (front back : List Summary) (s : Summary) → AreInOrder low (front ++ (s ∷ back)) → AreHeld m (front ++ (s ∷ back)) → AreHeld (without (s ∷ []) m) (front ++ back)
held_past m low [] back s o held = held_behind m s s.end.0 back held.0 o.1 o.3 held.1
held_past m low (f ∷ fs) back s o held =
    let r = o.1 in
    let past = starts_past f.end.0 fs back s o.3 in
    (one_stays m s f (at_sum m fs back s held.1) held.0 (λ e. omega (arith, r, past, e)), held_past m f.end.0 fs back s o.3 held.1)

all_past : (P : Summary → Type 0) (front back : List Summary) (s : Summary) → AllByRecursion P (front ++ (s ∷ back)) → AllByRecursion P (front ++ back)
all_past P [] back s all = all.1
all_past P (f ∷ fs) back s all = (all.0, all_past P fs back s all.1)

-- the others are held, whether its file is there or not
held_on : (limit : ℕ) (old new : List Summary) (sum : Summary) (m n : Files) → TakesOne limit old new sum → MayLose sum m n → AreInOrder 0 old → AreHeld m old → AreHeld n new
held_on limit old new sum m n t (inl same) o held =
    subst (λ x. AreHeld x new) (sym same) (subst (AreHeld m) (sym t.now) (all_past (λ s. IsSummaryIn m (summary_name_bytes s.start.0 s.end.0) s) t.front t.back sum (subst (AreHeld m) t.was held)))
held_on limit old new sum m n t (inr lost) o held =
    subst (λ x. AreHeld x new) (sym lost) (subst (AreHeld (without (sum ∷ []) m)) (sym t.now) (held_past m 0 t.front t.back sum (subst (AreInOrder 0) t.was o) (subst (AreHeld m) t.was held)))

-- ---- those that aren't old stay

not_expired : (a b : Bool) → (not a) ≡ true → not (a && b) ≡ true
not_expired true b e = absurd cc
not_expired false b e = refl

pass_step : (p q : Summary → Bool) (x : Summary) (xs : List Summary) → (p x ≡ true → q x ≡ true) → filter p (filter q xs) ≡ filter p xs → (a b : Bool) → p x ≡ a → q x ≡ b
    → filter p (cond (q x) (x ∷ filter q xs) (filter q xs)) ≡ cond (p x) (x ∷ filter p xs) (filter p xs)
pass_step p q x xs f rest a true is at =
    ap (λ c. filter p (cond c (x ∷ filter q xs) (filter q xs))) at ∙ ap (λ ys. cond (p x) (x ∷ ys) ys) rest
pass_step p q x xs f rest true false is at = absurd (true≢false (sym (f is) ∙ at))
pass_step p q x xs f rest false false is at =
    ap (λ c. filter p (cond c (x ∷ filter q xs) (filter q xs))) at ∙ rest ∙ ap (λ c. cond c (x ∷ filter p xs) (filter p xs)) (sym is)

pass_both : (p q : Summary → Bool) → ((s : Summary) → p s ≡ true → q s ≡ true) → (xs : List Summary) → filter p (filter q xs) ≡ filter p xs
pass_both p q f [] = refl
pass_both p q f (x ∷ xs) = pass_step p q x xs (f x) (pass_both p q f xs) (p x) (q x) refl refl

pub young_in : (limit : ℕ) (kept : List Summary) → young limit (unexpired limit kept) ≡ young limit kept
young_in limit kept = pass_both (λ s. not (is_old limit s)) (λ s. not (is_expired limit kept s)) (λ s e. not_expired (is_old limit s) (nat_lt s.end.0 (end_behind 0 kept)) e) kept

pub young_taken : (limit : ℕ) (old new gone : List Summary) → AreTaken limit old new gone → young limit new ≡ young limit old
young_taken limit old new gone a = sym (young_in limit new) ∙ ap (young limit) a.others ∙ young_in limit old

-- ---- the last one stays

not_last : (limit top : ℕ) (s : Summary) → s.end.0 ≡ top → not (is_old limit s && nat_lt s.end.0 top) ≡ true
not_last limit top s same = step (is_old limit s) (nat_lt s.end.0 top) refl
  where
    step : (a b : Bool) → nat_lt s.end.0 top ≡ b → not (a && b) ≡ true
    step false b e = refl
    step true false e = refl
    step true true e = absurd (let lt = ltb-true s.end.0 top e in omega (arith, lt, same))

end_filter : (limit top low : ℕ) (xs : List Summary) → (0 < length xs → end_behind low xs ≡ top) → end_behind low (filter (λ s. not (is_old limit s && nat_lt s.end.0 top)) xs) ≡ end_behind low xs
end_filter limit top low [] is = refl
end_filter limit top low (s ∷ []) is =
    ap (λ b. end_behind low (cond b (s ∷ []) [])) (not_last limit top s (is (omega arith)))
end_filter limit top low (s ∷ (t ∷ ts)) is =
    step (not (is_old limit s && nat_lt s.end.0 top)) (end_filter limit top low (t ∷ ts) (λ some. is (omega arith))) (end_filter limit top s.end.0 (t ∷ ts) (λ some. is (omega arith)))
  where
    rest : List Summary
    rest = filter (λ u. not (is_old limit u && nat_lt u.end.0 top)) (t ∷ ts)

    step : (b : Bool) → end_behind low rest ≡ end_behind low (t ∷ ts) → end_behind s.end.0 rest ≡ end_behind s.end.0 (t ∷ ts) → end_behind low (cond b (s ∷ rest) rest) ≡ end_behind s.end.0 (t ∷ ts)
    step true here behind = behind
    step false here behind = here

same_end : (low low2 : ℕ) (xs : List Summary) → 0 < length xs → end_behind low xs ≡ end_behind low2 xs
same_end low low2 [] some = absurd (omega (arith, some))
same_end low low2 (x ∷ xs) some = refl

pub end_unexpired : (limit low : ℕ) (kept : List Summary) → end_behind low (unexpired limit kept) ≡ end_behind low kept
end_unexpired limit low kept = end_filter limit (end_behind 0 kept) low kept (λ some. same_end low 0 kept some)

-- ---- the end

no_cons : (y : Summary) (ys : List Summary) → y ∷ ys ≡ [] → ⊥
no_cons y ys k = absurd cc

all_step : (p : Summary → Bool) (x : Summary) (xs : List Summary) → filter p (x ∷ xs) ≡ [] → (filter p xs ≡ [] → filter (λ s. not (p s)) xs ≡ xs) → (b : Bool) → p x ≡ b → filter (λ s. not (p s)) (x ∷ xs) ≡ x ∷ xs
all_step p x xs e f true is = absurd (no_cons x (filter p xs) (ap (λ c. cond c (x ∷ filter p xs) (filter p xs)) (sym is) ∙ e))
all_step p x xs e f false is =
    ap (λ c. cond (not c) (x ∷ filter (λ s. not (p s)) xs) (filter (λ s. not (p s)) xs)) is
    ∙ ap (λ ys. x ∷ ys) (f (ap (λ c. cond c (x ∷ filter p xs) (filter p xs)) (sym is) ∙ e))

all_pass : (p : Summary → Bool) (xs : List Summary) → filter p xs ≡ [] → filter (λ s. not (p s)) xs ≡ xs
all_pass p [] e = refl
all_pass p (x ∷ xs) e = all_step p x xs e (all_pass p xs) (p x) refl

pub done_kept : (limit : ℕ) (old new gone : List Summary) → AreTaken limit old new gone → expired limit new ≡ [] → new ≡ unexpired limit old
done_kept limit old new gone a none = sym (all_pass (is_expired limit new) new none) ∙ a.others

pub done_gone : (limit : ℕ) (old new gone : List Summary) → AreTaken limit old new gone → expired limit new ≡ [] → expired limit old ≡ gone
done_gone limit old new gone a none = a.first ∙ ap (λ ys. gone ++ ys) none ∙ append-nil gone

no_length : (xs : List Summary) → length xs ≡ 0 → xs ≡ []
no_length [] e = refl
no_length (x ∷ xs) e = absurd (omega (arith, e))

none_gone : (xs : List Summary) (s : Summary) → xs ++ (s ∷ []) ≡ [] → ⊥
none_gone [] s e = no_cons s [] e
none_gone (x ∷ xs) s e = no_cons x (xs ++ (s ∷ [])) e

expiry_done : {V : Type 0} (g : Ghosts V) (limit : ℕ) (before now : V) (old new : List Summary) (count : ℕ) → IsExpiring g limit before now old new → expired limit new ≡ [] → count + length new ≡ length old → Expires g limit before now old new count
expiry_done g limit before now old new count e none counted =
    let all = done_gone limit old new e.gone e.taken none in
    let m = e.taken.counted in
    let n = ap length all in
    record {
      kept = done_kept limit old new e.gone e.taken none;
      files = e.files ∙ ap (λ l. option_map (without l) (g.files before)) (sym all);
      counted = omega (arith, m, n, counted);
      still = λ zero_is. e.still (no_length e.gone (omega (arith, m, counted, zero_is)));
    }

related_by : (R : Files → Files → Type 0) (f : Files → Files) → ((m : Files) → R m (f m)) → (o : Option Files) → Related R o (option_map f o)
related_by R f each None = tt
related_by R f each (Some m) = each m

-- so many were removed, and no call failed
left_done : (limit : ℕ) (before now : Option Files) (old new gone : List Summary) → AreTaken limit old new gone → now ≡ option_map (without gone) before
    → Related (λ m n. AreInOrder 0 old → AreHeld m old → AreHeld n new) before now → MayExpire limit before now old new
left_done limit before now old new gone a files held = record {
  gone = gone;
  at = [];
  few = omega arith;
  taken = subst (AreTaken limit old new) (sym (append-nil gone)) a;
  young = young_taken limit old new gone a;
  files = subst (Related (AreGone gone []) before) (sym files) (related_by (AreGone gone []) (without gone) (λ m. inl refl) before);
  held = held;
}

gone_then : (gone : List Summary) (sum : Summary) (m n : Files) → MayLose sum (without gone m) n → AreGone gone (sum ∷ []) m n
gone_then gone sum m n (inl same) = inl same
gone_then gone sum m n (inr lost) = inr (lost ∙ sym (without_more gone (sum ∷ []) m))

gone_at : (gone : List Summary) (sum : Summary) (before mid now : Option Files) → mid ≡ option_map (without gone) before → Related (MayLose sum) mid now → Related (AreGone gone (sum ∷ [])) before now
gone_at gone sum None None None files lost = tt
gone_at gone sum None None (Some n) files lost = absurd lost
gone_at gone sum None (Some k) now files lost = absurd cc
gone_at gone sum (Some m) None now files lost = absurd cc
gone_at gone sum (Some m) (Some k) None files lost = absurd lost
gone_at gone sum (Some m) (Some k) (Some n) files lost = gone_then gone sum m n (subst (λ x. MayLose sum x n) (some_files k (without gone m) files) lost)
  where
    some_files : (a b : Files) → (let o : Option Files = Some a in o ≡ Some b) → a ≡ b
    some_files a b e = cc

-- the removal of one more failed
left_failed : (limit : ℕ) (before mid now : Option Files) (old kept new gone : List Summary) (sum : Summary) → AreTaken limit old kept gone → mid ≡ option_map (without gone) before → TakesOne limit kept new sum → Related (MayLose sum) mid now
    → Related (λ m n. AreInOrder 0 old → AreHeld m old → AreHeld n new) before now → MayExpire limit before now old new
left_failed limit before mid now old kept new gone sum a files t lost held =
    let all = more_taken limit old kept new gone (sum ∷ []) a (one_taken limit kept new sum t) in
    record {
      gone = gone;
      at = sum ∷ [];
      few = omega arith;
      taken = all;
      young = young_taken limit old new (gone ++ (sum ∷ [])) all;
      files = gone_at gone sum before mid now files lost;
      held = held;
    }

-- what is held stays so, one step further
held_more : (limit : ℕ) (before mid now : Option Files) (old kept new gone : List Summary) (sum : Summary) → AreTaken limit old kept gone → TakesOne limit kept new sum → Related (MayLose sum) mid now
    → Related (λ m n. AreInOrder 0 old → AreHeld m old → AreHeld n kept) before mid → Related (λ m n. AreInOrder 0 old → AreHeld m old → AreHeld n new) before now
held_more limit None None None old kept new gone sum a t lost held = tt
held_more limit None None (Some n) old kept new gone sum a t lost held = absurd lost
held_more limit None (Some k) now old kept new gone sum a t lost held = absurd held
held_more limit (Some m) None now old kept new gone sum a t lost held = absurd held
held_more limit (Some m) (Some k) None old kept new gone sum a t lost held = absurd lost
held_more limit (Some m) (Some k) (Some n) old kept new gone sum a t lost held = λ o h. held_on limit kept new sum k n t lost (a.order 0 o) (held o h)

pub held_first : (o : Option Files) (old : List Summary) → Related (λ m n. AreInOrder 0 old → AreHeld m old → AreHeld n old) o o
held_first None old = tt
held_first (Some m) old = λ o h. h

-- ---- no other file changes

widened : (name : List ℕ) (x y : Option Files) → IsSummaryName name → Related (AgreeBut (λ q. q ≡ name)) x y → Related (AgreeBut IsSummaryName) x y
widened name None None is agree = tt
widened name (Some a) (Some b) is agree = λ q out. agree q (λ e. out (subst IsSummaryName (sym e) is))
widened name None (Some b) is agree = absurd agree
widened name (Some a) None is agree = absurd agree

pub remove_changes : {V T : Type 0} (g : Ghosts V) (name : List ℕ) (x y : V) (result : Result T AreaFault) → IsSummaryName name → Removes name (g.files x) (g.files y) result → (result ≡ Err NoMemory → g.files y ≡ g.files x) → MayRemove name (g.files x) (g.files y) result
    → Notes (removed name) (g.past x) (g.past y) result → Tries (removed name) (g.past x) (g.past y) result → g.faults x ≤ g.faults y → ChangesOnly g IsSummaryName x y
remove_changes g name x y result is ok memory failed notes tries later = record {
  files = widened name (g.files x) (g.files y) is (remove_agrees name (g.files x) (g.files y) result ok memory failed);
  past = adds_by (IsAmong IsSummaryName) (removed name) (g.past x) (g.past y) result is notes tries;
  faults = later;
}

-- ---- one step

-- the next of those that stand behind is the first one that is expired
takes_next : {V : Type 0} (g : Ghosts V) (limit : ℕ) (before mid : V) (old front back : List Summary) (sum : Summary) → HasExpired g limit before mid old front (sum ∷ back) → is_expired limit old sum ≡ true
    → TakesOne limit (front ++ (sum ∷ back)) (front ++ back) sum
takes_next g limit before mid old front back sum so test =
    let same = same_test limit old (front ++ (sum ∷ back)) (so.expiring.taken.end 0) in
    record {
      front = front;
      back = back;
      was = refl;
      now = refl;
      first = same_filter (is_expired limit (front ++ (sum ∷ back))) (is_expired limit old) same front ∙ so.clean;
      old_one = same sum ∙ test;
    }

-- it was removed
removes_next : {V : Type 0} (g : Ghosts V) (limit : ℕ) (before mid now : V) (old front back : List Summary) (sum : Summary) → HasExpired g limit before mid old front (sum ∷ back) → is_expired limit old sum ≡ true
    → g.files now ≡ option_map (without (sum ∷ [])) (g.files mid) → Related (MayLose sum) (g.files mid) (g.files now) → HasExpired g limit before now old front back
removes_next g limit before mid now old front back sum so test removed lost =
    let t = takes_next g limit before mid old front back sum so test in
    let e = so.expiring in
    record {
      expiring = record {
        gone = e.gone ++ (sum ∷ []);
        taken = more_taken limit old (front ++ (sum ∷ back)) (front ++ back) e.gone (sum ∷ []) e.taken (one_taken limit (front ++ (sum ∷ back)) (front ++ back) sum t);
        files = removed ∙ ap (option_map (without (sum ∷ []))) e.files ∙ map_more e.gone (sum ∷ []) (g.files before);
        still = λ none. absurd (none_gone e.gone sum none);
      };
      clean = so.clean;
      held = held_more limit (g.files before) (g.files mid) (g.files now) old (front ++ (sum ∷ back)) (front ++ back) e.gone sum e.taken t lost so.held;
    }

-- its removal failed
fails_next : {V : Type 0} (g : Ghosts V) (limit : ℕ) (before mid now : V) (old front back : List Summary) (sum : Summary) → HasExpired g limit before mid old front (sum ∷ back) → is_expired limit old sum ≡ true
    → Related (MayLose sum) (g.files mid) (g.files now) → MayExpire limit (g.files before) (g.files now) old (front ++ back)
fails_next g limit before mid now old front back sum so test lost =
    let t = takes_next g limit before mid old front back sum so test in
    let e = so.expiring in
    left_failed limit (g.files before) (g.files mid) (g.files now) old (front ++ (sum ∷ back)) (front ++ back) e.gone sum e.taken e.files t lost
    (held_more limit (g.files before) (g.files mid) (g.files now) old (front ++ (sum ∷ back)) (front ++ back) e.gone sum e.taken t lost so.held)

pub none_by : (o : Option AreaFault) (b : Bool) → is_some o ≡ not b → b ≡ true → o ≡ None
none_by None b is true_is = refl
none_by (Some fault) b is true_is = absurd cc

pub some_by : (o : Option AreaFault) (b : Bool) → is_some o ≡ not b → b ≡ false → o ≡ None → ⊥
some_by None b is false_is none = absurd cc
some_by (Some fault) b is false_is none = absurd cc

pub test_by : (limit : ℕ) (old there : List Summary) (sum : Summary) (end : ℕ) (b c : Bool) → b ≡ is_old limit sum && nat_lt sum.end.0 end → end ≡ end_behind 0 there → there ≡ old → b ≡ c → is_expired limit old sum ≡ c
test_by limit old there sum end b c is at same tested = sym (is ∙ ap (λ n. is_old limit sum && nat_lt sum.end.0 n) (at ∙ ap (end_behind 0) same)) ∙ tested

any_default : (xs : List Summary) (i : ℕ) (a b : Summary) → i < length xs → get_or xs i a ≡ get_or xs i b
any_default [] i a b lt = absurd (omega (arith, lt))
any_default (x ∷ xs) zero a b lt = refl
any_default (x ∷ xs) (suc i) a b lt = any_default xs i a b (omega (arith, lt))

pub same_there : (xs : List Summary) (i : ℕ) (a b : Summary) → i < length xs → a ≡ get_or xs i a → b ≡ get_or xs i b → a ≡ b
same_there xs i a b lt e f = e ∙ any_default xs i a b lt ∙ sym f

pub so_by : {V : Type 0} (g : Ghosts V) (limit : ℕ) (before : V) (old : List Summary) (at : ℕ) (a b : V) (xs ys : List Summary) (m n : ℕ) (f h : Option AreaFault) → b ≡ a → ys ≡ xs → n ≡ m → h ≡ f
    → ExpiresSoFar g limit before a old (take m xs) (drop at xs) f → ExpiresSoFar g limit before b old (take n ys) (drop at ys) h
so_by g limit before old at a b xs ys m n f h area kept left fault so =
    subst (λ v. ExpiresSoFar g limit before v old (take n ys) (drop at ys) h) (sym area)
    (subst (λ l. ExpiresSoFar g limit before a old (take n l) (drop at l) h) (sym kept)
    (subst (λ k. ExpiresSoFar g limit before a old (take k xs) (drop at xs) h) (sym left)
    (subst (ExpiresSoFar g limit before a old (take m xs) (drop at xs)) (sym fault) so)))

pub step_removed : {V : Type 0} (g : Ghosts V) (limit : ℕ) (before mid now : V) (old kept : List Summary) (left at : ℕ) (fault : Option AreaFault) (sum : Summary) (r : Result (Unit {0}) AreaFault)
    → fault ≡ None → ExpiresSoFar g limit before mid old (take left kept) (drop at kept) fault → at < length kept → sum ≡ get_or kept at sum → is_expired limit old sum ≡ true
    → OnOk r (g.files now ≡ option_map (without (sum ∷ [])) (g.files mid)) → Related (MayLose sum) (g.files mid) (g.files now) → HasCause (g.faults mid) (g.faults now) r → g.faults before ≤ g.faults mid
    → ExpiresSoFar g limit before now old (take left kept) (drop (at + 1) kept) (result_err r)
step_removed g limit before mid now old kept left at (Some fault) sum r none so lt is test removed lost cause later = absurd cc
step_removed g limit before mid now old kept left at None sum r none so lt is test removed lost cause later = by r removed cause
  where
    next : drop at kept ≡ sum ∷ drop (at + 1) kept
    next = drop_more kept at sum lt ∙ ap (λ x. x ∷ drop (at + 1) kept) (sym is)

    here : HasExpired g limit before mid old (take left kept) (sum ∷ drop (at + 1) kept)
    here = subst (HasExpired g limit before mid old (take left kept)) next so

    by : (r : Result (Unit {0}) AreaFault) → OnOk r (g.files now ≡ option_map (without (sum ∷ [])) (g.files mid)) → HasCause (g.faults mid) (g.faults now) r
        → ExpiresSoFar g limit before now old (take left kept) (drop (at + 1) kept) (result_err r)
    by (Ok u) removed cause = removes_next g limit before mid now old (take left kept) (drop (at + 1) kept) sum here test removed lost
    by (Err why) removed cause = (
      fails_next g limit before mid now old (take left kept) (drop (at + 1) kept) sum here test lost,
      λ failed. let rose = cause.failed (ap (λ (f : AreaFault). Err f) failed) in omega (arith, later, rose),
    )

-- one that isn't expired, or one behind a fault, stays
pub step_kept : {V : Type 0} (g : Ghosts V) (limit : ℕ) (before now : V) (old kept new : List Summary) (left at : ℕ) (fault : Option AreaFault)
    → ExpiresSoFar g limit before now old (take left kept) (drop at kept) fault → left ≤ at → at < length kept → SwappedAt kept new left at
    → (fault ≡ None → (sum : Summary) × (sum ≡ get_or kept at sum) × (is_expired limit old sum ≡ false))
    → ExpiresSoFar g limit before now old (take (left + 1) new) (drop (at + 1) new) fault
step_kept g limit before now old [] new left at fault so le lt swapped stays = absurd (omega (arith, lt))
step_kept g limit before now old (d ∷ ds) new left at fault so le lt swapped stays = by fault so stays
  where
    kept : List Summary
    kept = d ∷ ds

    here : Summary
    here = get_or kept at d

    front : take (left + 1) new ≡ take left kept ++ (here ∷ [])
    front = front_moved kept new left at d swapped le lt

    both : take left kept ++ drop at kept ≡ take (left + 1) new ++ drop (at + 1) new
    both =
        ap (λ l. take left kept ++ l) (drop_more kept at d lt) ∙ sym (append_assoc (take left kept) (here ∷ []) (drop (at + 1) kept))
        ∙ ap (λ l. l ++ drop (at + 1) kept) (sym front) ∙ ap (λ l. take (left + 1) new ++ l) (sym (back_stays kept new left at d swapped le))

    by : (fault : Option AreaFault) → ExpiresSoFar g limit before now old (take left kept) (drop at kept) fault → (fault ≡ None → (sum : Summary) × (sum ≡ get_or kept at sum) × (is_expired limit old sum ≡ false))
        → ExpiresSoFar g limit before now old (take (left + 1) new) (drop (at + 1) new) fault
    by None so stays =
        let there = stays refl in
        let test : is_expired limit old here ≡ false = ap (is_expired limit old) (any_default kept at d there.0 lt ∙ sym there.1) ∙ there.2 in
        record {
          expiring = subst (IsExpiring g limit before now old) both so.expiring;
          clean = ap (filter (is_expired limit old)) front ∙ filter-append (is_expired limit old) (take left kept) (here ∷ [])
              ∙ ap (λ l. l ++ cond (is_expired limit old here) (here ∷ []) []) so.clean ∙ ap (λ b. cond b (here ∷ []) []) test;
          held = subst (λ l. Related (λ m n. AreInOrder 0 old → AreHeld m old → AreHeld n l) (g.files before) (g.files now)) both so.held;
        }
    by (Some why) so stays = (subst (MayExpire limit (g.files before) (g.files now) old) both so.0, so.1)

-- ---- all were passed

pub ends_well : {V : Type 0} (g : Ghosts V) (limit : ℕ) (before now : V) (old kept new : List Summary) (left at count : ℕ) (fault : Option AreaFault)
    → fault ≡ None → ExpiresSoFar g limit before now old (take left kept) (drop at kept) fault → length kept ≤ at → new ≡ take left kept → left ≤ length kept → length kept ≡ length old → count + left ≡ length kept
    → Expires g limit before now old new count
ends_well g limit before now old kept new left at count (Some fault) none so all is le long counted = absurd cc
ends_well g limit before now old kept new left at count None none so all is le long counted =
    let here = is ∙ all_in_front kept left at all in
    let e = subst (IsExpiring g limit before now old) (sym here) so.expiring in
    let same = same_test limit old new (e.taken.end 0) in
    let clean : expired limit new ≡ [] = same_filter (is_expired limit new) (is_expired limit old) same new ∙ ap (filter (is_expired limit old)) is ∙ so.clean in
    let some = length-take-le left kept le in
    let l = ap length is in
    expiry_done g limit before now old new count e clean (omega (arith, some, l, long, counted))

pub ends_so : {V : Type 0} (g : Ghosts V) (limit : ℕ) (before now : V) (old kept new : List Summary) (left at : ℕ) (fault : Option AreaFault)
    → ExpiresSoFar g limit before now old (take left kept) (drop at kept) fault → length kept ≤ at → new ≡ take left kept
    → MayExpire limit (g.files before) (g.files now) old new
ends_so g limit before now old kept new left at fault so all is =
    subst (MayExpire limit (g.files before) (g.files now) old) (sym (is ∙ all_in_front kept left at all)) (by fault so)
  where
    by : (fault : Option AreaFault) → ExpiresSoFar g limit before now old (take left kept) (drop at kept) fault → MayExpire limit (g.files before) (g.files now) old (take left kept ++ drop at kept)
    by None so = left_done limit (g.files before) (g.files now) old (take left kept ++ drop at kept) so.expiring.gone so.expiring.taken so.expiring.files so.held
    by (Some why) so = so.0
