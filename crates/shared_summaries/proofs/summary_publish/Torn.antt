-- What is left of a file that is written front last.
use Rattle.std.proofs.Common.{◌≡◌, ◌≢◌, ◌⊎◌, inl, inr, ℕ, zero, suc, ◌+◌, ◌-◌, ◌<◌, ◌≤◌, Bool, true, false, cond, List, [], ◌∷◌, ◌++◌, length, drop, replicate, get_or, Option, Some, None, option_map, unwrap_or, Result, Ok, Err, OnOk, IfSome, refl, sym, ap, subst, ◌∙◌, arith, true≢false}
use Rattle.std.proofs.lemmas.List.{append-nil, drop_all, ext_get_or}
use Rattle.std.specs.Cmp.Lexicographic.{nat_list_cmp_total}
use Rattle.std.specs.FinMap.{get, insert, get-insert, same_map, slice_cmp-IsAntisymmetric, nat_cmp-IsAntisymmetric}
use Rattle.lsn_core.specs.Files.{Files}
use Rattle.lsn_core.specs.declared.fault.AreaFault.{AreaFault}
use Rattle.lsn_core.specs.declared.fault.AreaFault.TheVariants.{Failed, NoMemory}
use Rattle.lsn_core.proofs.StoreFiles.{same_name, names_tie, name_itself}
use Rattle.vault.specs.Area.{bytes_of, after_write, after_cut, cut_to, file_written, IsTornFile, IsTorn, IsUndecided, Related, Writes, MayTear, Cuts, MayCut}
use Rattle.wal_summary.specs.declared.summary.Summary.{Summary}
use Rattle.summary_file.specs.Numbers.{file_head}
use Rattle.summary_file.specs.File.{IsFileOf, summary_bytes}
use Rattle.shared_summaries.specs.summary_publish.Partly.{MayWrite}
use Rattle.shared_summaries.specs.summary_publish.Torn.{first_byte, second_byte, HasFront}
use Rattle.shared_summaries.proofs.summary_publish.Files.{get_here}

-- ---- how a summary's file begins

pub file_front : (t : Summary) → HasFront (summary_bytes t)
unfolding file_head
file_front t = (drop 2 (summary_bytes t), refl)

pub front_of : (t : Summary) (held : List ℕ) → IsFileOf t held → HasFront held
front_of t held file = subst HasFront (sym file.spelled) (file_front t)

no_front : (held : List ℕ) → HasFront held → held ≡ [] → ⊥
no_front held front none = let e = sym none ∙ front.1 in cc

-- ---- a file as it stands in the midst

-- only the file of a name may have changed, and it has these bytes; none, where it isn't there
pub record Stands (name before : List ℕ) (old now : Files) : Type 0 where
  pub others : (q : List ℕ) → q ≢ name → get now q ≡ get old q
  pub missing : get now name ≡ None → get old name ≡ None
  pub bytes : bytes_of now name ≡ before

other_name : (m : Files) (name bytes q : List ℕ) → q ≢ name → get (insert m name bytes) q ≡ get m q
other_name m name bytes q apart = get-insert nat_list_cmp_total m name bytes q ∙ other (same_name q name) refl
  where
    other : (b : Bool) → same_name q name ≡ b → cond b (Some bytes) (get m q) ≡ get m q
    other true e = absurd (apart (names_tie q name e))
    other false e = refl

stands_itself : (name : List ℕ) (m : Files) → Stands name (bytes_of m name) m m
stands_itself name m = record { others = λ q apart. refl; missing = λ none. none; bytes = refl }

some_none : (bytes : List ℕ) → (let o : Option (List ℕ) = Some bytes in o ≡ None) → ⊥
some_none bytes e = cc

stands_insert : (name before after : List ℕ) (old now : Files) → Stands name before old now → Stands name after old (insert now name after)
stands_insert name before after old now s = record {
  others = λ q apart. other_name now name after q apart ∙ s.others q apart;
  missing = λ none. absurd (some_none after (sym (get_here now name after) ∙ none));
  bytes = ap (λ o. unwrap_or o []) (get_here now name after);
}

held_bytes : (now : Files) (name held before : List ℕ) → bytes_of now name ≡ before → get now name ≡ Some held → held ≡ before
held_bytes now name held before is at = sym (ap (λ o. unwrap_or o []) at) ∙ is

-- ---- what a write leaves

-- a summary's file that a write of these bytes may leave is this one
abbrev pub Only : List ℕ → List ℕ → ℕ → List ℕ → Type 0
Only bytes before at piece =
    (held : List ℕ) → HasFront held → (held ≡ before) ⊎ ((held ≡ file_written before at piece) ⊎ IsTornFile at (length piece) before held) → held ≡ bytes

torn_held : (at count : ℕ) (before held : List ℕ) (o : Option (List ℕ)) → IfSome o (IsTornFile at count before) → o ≡ Some held → IsTornFile at count before held
torn_held at count before held None torn e = absurd cc
torn_held at count before held (Some bytes) torn e = subst (IsTornFile at count before) (let k : bytes ≡ held = cc e in k) torn

stays_may : (name bytes before : List ℕ) (at : ℕ) (piece : List ℕ) (old now new : Files) → Stands name before old now → Only bytes before at piece → new ≡ now → MayWrite name bytes old new
stays_may name bytes before at piece old now new s only same = record {
  others = λ q apart. ap (λ m. get m q) same ∙ s.others q apart;
  missing = λ none. s.missing (sym (ap (λ m. get m name) same) ∙ none);
  file = λ held t there file. inl (only held (front_of t held file) (inl (held_bytes now name held before s.bytes (sym (ap (λ m. get m name) same) ∙ there))));
}

written_may : (name bytes before : List ℕ) (at : ℕ) (piece : List ℕ) (old now new : Files) → Stands name before old now → Only bytes before at piece → new ≡ after_write name at piece now → MayWrite name bytes old new
written_may name bytes before at piece old now new s only same =
    let put : List ℕ = file_written (bytes_of now name) at piece in
    record {
      others = λ q apart. ap (λ m. get m q) same ∙ other_name now name put q apart ∙ s.others q apart;
      missing = λ none. absurd (some_none put (sym (ap (λ m. get m name) same ∙ get_here now name put) ∙ none));
      file = λ held t there file. inl (only held (front_of t held file) (inr (inl (
          held_bytes new name held put (ap (λ m. bytes_of m name) same ∙ ap (λ o. unwrap_or o []) (get_here now name put)) there ∙ ap (λ b. file_written b at piece) s.bytes))));
    }

torn_may : (name bytes before : List ℕ) (at : ℕ) (piece : List ℕ) (old now new : Files) → Stands name before old now → Only bytes before at piece → IsTorn name at (length piece) now new → MayWrite name bytes old new
torn_may name bytes before at piece old now new s only torn = record {
  others = λ q apart. torn.others q apart ∙ s.others q apart;
  missing = λ none. s.missing (torn.missing none);
  file = λ held t there file. inl (only held (front_of t held file) (inr (inr (
      subst (λ b. IsTornFile at (length piece) b held) s.bytes (torn_held at (length piece) (bytes_of now name) held (get new name) torn.file there)))));
}

pub write_left : {T : Type 0} (name bytes before : List ℕ) (at : ℕ) (piece : List ℕ) (old now : Files) (new : Option Files) (result : Result T AreaFault) → Stands name before old now → Only bytes before at piece
    → Writes name at piece (Some now) new result → (result ≡ Err NoMemory → new ≡ Some now) → MayTear name at piece (Some now) new result → Related (MayWrite name bytes) (Some old) new
write_left name bytes before at piece old now None (Ok done) s only ok memory failed = absurd (let e = ok in cc)
write_left name bytes before at piece old now (Some new) (Ok done) s only ok memory failed = written_may name bytes before at piece old now new s only (let e = ok in cc)
write_left name bytes before at piece old now None (Err Failed) s only ok memory failed = failed refl
write_left name bytes before at piece old now (Some new) (Err Failed) s only ok memory failed = torn_may name bytes before at piece old now new s only (failed refl)
write_left name bytes before at piece old now None (Err NoMemory) s only ok memory failed = absurd (let e = memory refl in cc)
write_left name bytes before at piece old now (Some new) (Err NoMemory) s only ok memory failed = stays_may name bytes before at piece old now new s only (let e = memory refl in cc)

-- ---- what a cut leaves

cut_stands : (name : List ℕ) (m : Files) (o : Option (List ℕ)) → get m name ≡ o → Stands name [] m (cut_to m name 0 o)
cut_stands name m None is = record { others = λ q apart. refl; missing = λ none. none; bytes = ap (λ o. unwrap_or o []) is }
cut_stands name m (Some bytes) is = stands_insert name (bytes_of m name) [] m m (stands_itself name m)

pub cut_is : (name : List ℕ) (m : Files) → Stands name [] m (after_cut name 0 m)
cut_is name m = cut_stands name m (get m name) refl

empty_may : (name bytes : List ℕ) (old new : Files) → Stands name [] old new → MayWrite name bytes old new
empty_may name bytes old new s = record { others = s.others; missing = s.missing; file = λ held t there file. absurd (no_front held (front_of t held file) (held_bytes new name held [] s.bytes there)) }

same_may : (name bytes : List ℕ) (old new : Files) → new ≡ old → MayWrite name bytes old new
same_may name bytes old new same = record { others = λ q apart. ap (λ m. get m q) same; missing = λ none. sym (ap (λ m. get m name) same) ∙ none; file = λ held t there file. inr (sym (ap (λ m. get m name) same) ∙ there) }

pub unchanged_left : (name bytes : List ℕ) (old new : Option Files) → new ≡ old → Related (MayWrite name bytes) old new
unchanged_left name bytes None new same = subst (λ o. Related (MayWrite name bytes) None o) (sym same) tt
unchanged_left name bytes (Some m) new same = subst (λ o. Related (MayWrite name bytes) (Some m) o) (sym same) (same_may name bytes m m refl)

undecided_may : (name bytes : List ℕ) (old new : Files) → IsUndecided (after_cut name 0) old new → MayWrite name bytes old new
undecided_may name bytes old new (inl same) = same_may name bytes old new same
undecided_may name bytes old new (inr cut) = subst (MayWrite name bytes old) (sym cut) (empty_may name bytes old (after_cut name 0 old) (cut_is name old))

pub cut_left : {T : Type 0} (name bytes : List ℕ) (old new : Option Files) (result : Result T AreaFault) → Cuts name 0 old new result → (result ≡ Err NoMemory → new ≡ old) → MayCut name 0 old new result → Related (MayWrite name bytes) old new
cut_left name bytes None new (Ok done) ok memory failed = subst (λ o. Related (MayWrite name bytes) None o) (sym ok) tt
cut_left name bytes (Some m) new (Ok done) ok memory failed = subst (λ o. Related (MayWrite name bytes) (Some m) o) (sym ok) (empty_may name bytes m (after_cut name 0 m) (cut_is name m))
cut_left name bytes None None (Err Failed) ok memory failed = tt
cut_left name bytes None (Some new) (Err Failed) ok memory failed = failed refl
cut_left name bytes (Some m) None (Err Failed) ok memory failed = failed refl
cut_left name bytes (Some m) (Some new) (Err Failed) ok memory failed = undecided_may name bytes m new (failed refl)
cut_left name bytes old new (Err NoMemory) ok memory failed = unchanged_left name bytes old new (memory refl)

-- ---- the three writes

first_is : (a b : ℕ) (xs ys : List ℕ) → ◌≡◌ {A = List ℕ} (a ∷ xs) (b ∷ ys) → a ≡ b
first_is a b xs ys e = cc

not_zero : (xs held : List ℕ) → HasFront held → held ≡ 0 ∷ xs → ⊥
not_zero xs held front is = absurd (let e = first_is 0 first_byte xs (second_byte ∷ front.0) (sym is ∙ front.1) in omega (arith, e))

-- a zero where nothing stands
pub zero_only : (bytes : List ℕ) → Only bytes [] 0 (0 ∷ [])
zero_only bytes held front (inl none) = absurd (no_front held front none)
zero_only bytes held front (inr (inl zero_is)) = absurd (not_zero [] held front zero_is)
zero_only bytes held front (inr (inr torn)) = absurd (let long = ap length front.1 in let most = torn.most in omega (arith, long, most))

-- what stands behind the front
pub rest_grown : (rest : List ℕ) → file_written (0 ∷ []) 1 rest ≡ 0 ∷ rest
rest_grown [] = refl
rest_grown (b ∷ bs) = ap (λ (l : List ℕ). 0 ∷ ((b ∷ bs) ++ l)) (drop_all (1 + length (b ∷ bs)) (0 ∷ []) (omega arith)) ∙ ap (λ (l : List ℕ). 0 ∷ l) (append-nil (b ∷ bs))

pub rest_only : (bytes rest : List ℕ) → Only bytes (0 ∷ []) 1 rest
rest_only bytes rest held front (inl same) = absurd (not_zero [] held front same)
rest_only bytes rest held front (inr (inl put)) = absurd (not_zero rest held front (put ∙ rest_grown rest))
rest_only bytes rest held front (inr (inr torn)) =
    absurd (let a = torn.before 0 (omega arith) (omega arith) in let b = ap (λ l. get_or l 0 0) front.1 in omega (arith, a, b))

-- and the front
front_at : (rest held : List ℕ) → HasFront held → ((i : ℕ) → i < length (0 ∷ rest) → 1 ≤ i → get_or held i 0 ≡ get_or (0 ∷ rest) i 0) → (i : ℕ) → i < length (0 ∷ rest) → get_or held i 0 ≡ get_or (first_byte ∷ rest) i 0
front_at rest held front behind zero lt = ap (λ l. get_or l 0 0) front.1
front_at rest held front behind (suc i) lt = behind (suc i) lt (omega arith)

front_torn : (rest held : List ℕ) → HasFront held → IsTornFile 0 1 (0 ∷ rest) held → held ≡ first_byte ∷ rest
front_torn rest held front torn =
    let least = torn.least in
    let most = torn.most in
    let same : length held ≡ length (0 ∷ rest) = omega (arith, least, most) in
    ext_get_or 0 held (first_byte ∷ rest) same (λ i lt. front_at rest held front torn.behind i (omega (arith, lt, same)))

front_put : (rest : List ℕ) → file_written (0 ∷ rest) 0 (first_byte ∷ []) ≡ first_byte ∷ rest
front_put rest =
    ap (λ (k : ℕ). first_byte ∷ (rest ++ replicate k 0)) (let none : 0 - suc (length rest) ≡ 0 = omega arith in none) ∙ ap (λ (l : List ℕ). first_byte ∷ l) (append-nil rest)

pub front_only : (rest : List ℕ) → Only (first_byte ∷ rest) (0 ∷ rest) 0 (first_byte ∷ [])
front_only rest held front (inl same) = absurd (not_zero rest held front same)
front_only rest held front (inr (inl put)) = put ∙ front_put rest
front_only rest held front (inr (inr torn)) = front_torn rest held front torn

-- ---- the whole

-- how a file stands where areas tell
abbrev pub StandsIn : List ℕ → List ℕ → Option Files → Option Files → Type 0
StandsIn name before None None = Unit {0}
StandsIn name before (Some old) (Some now) = Stands name before old now
StandsIn name before None (Some now) = ⊥
StandsIn name before (Some old) None = ⊥

pub cut_stands_in : (name : List ℕ) (old mid : Option Files) → mid ≡ option_map (after_cut name 0) old → StandsIn name [] old mid
cut_stands_in name None mid is = subst (StandsIn name [] None) (sym is) tt
cut_stands_in name (Some m) mid is = subst (StandsIn name [] (Some m)) (sym is) (cut_is name m)

pub written_stands_in : (name before : List ℕ) (at : ℕ) (piece after : List ℕ) (old mid new : Option Files) → file_written before at piece ≡ after → StandsIn name before old mid → new ≡ option_map (after_write name at piece) mid
    → StandsIn name after old new
written_stands_in name before at piece after None None new put s is = subst (StandsIn name after None) (sym is) tt
written_stands_in name before at piece after (Some old) (Some mid) new put s is =
    subst (StandsIn name after (Some old)) (sym is)
    (subst (λ b. Stands name after old (insert mid name b)) (sym (ap (λ b. file_written b at piece) s.bytes ∙ put)) (stands_insert name before after old mid s))
written_stands_in name before at piece after None (Some mid) new put s is = absurd s
written_stands_in name before at piece after (Some old) None new put s is = absurd s

pub left_in : {T : Type 0} (name bytes before : List ℕ) (at : ℕ) (piece : List ℕ) (old mid new : Option Files) (result : Result T AreaFault) → StandsIn name before old mid → Only bytes before at piece
    → Writes name at piece mid new result → (result ≡ Err NoMemory → new ≡ mid) → MayTear name at piece mid new result → Related (MayWrite name bytes) old new
left_in name bytes before at piece None None new (Ok done) s only ok memory failed = subst (λ o. Related (MayWrite name bytes) None o) (sym ok) tt
left_in name bytes before at piece None None None (Err Failed) s only ok memory failed = tt
left_in name bytes before at piece None None (Some new) (Err Failed) s only ok memory failed = failed refl
left_in name bytes before at piece None None new (Err NoMemory) s only ok memory failed = subst (λ o. Related (MayWrite name bytes) None o) (sym (memory refl)) tt
left_in name bytes before at piece (Some old) (Some mid) new result s only ok memory failed = write_left name bytes before at piece old mid new result s only ok memory failed
left_in name bytes before at piece None (Some mid) new result s only ok memory failed = absurd s
left_in name bytes before at piece (Some old) None new result s only ok memory failed = absurd s

-- a file that stands so was put in the place of the old one
held_some : (o : Option (List ℕ)) (bytes : List ℕ) → 0 < length bytes → unwrap_or o [] ≡ bytes → o ≡ Some bytes
held_some None bytes some is = absurd (let none = ap length is in omega (arith, some, none))
held_some (Some held) bytes some is = ap (λ (b : List ℕ). Some b) is

put_at : (name bytes : List ℕ) (old now : Files) → Stands name bytes old now → 0 < length bytes → (q : List ℕ) (same : Bool) → same_name q name ≡ same → get now q ≡ cond same (Some bytes) (get old q)
put_at name bytes old now s some q true same = ap (get now) (names_tie q name same) ∙ held_some (get now name) bytes some s.bytes
put_at name bytes old now s some q false other = s.others q (λ e. absurd (true≢false (sym (name_itself q) ∙ ap (same_name q) e ∙ other)))

put_map : (name bytes : List ℕ) (old now : Files) → Stands name bytes old now → 0 < length bytes → now ≡ insert old name bytes
put_map name bytes old now s some =
    same_map nat_list_cmp_total (slice_cmp-IsAntisymmetric nat_cmp-IsAntisymmetric) now (insert old name bytes)
    (λ q. put_at name bytes old now s some q (same_name q name) refl ∙ sym (get-insert nat_list_cmp_total old name bytes q))

pub stands_put : (name bytes : List ℕ) (old new : Option Files) → StandsIn name bytes old new → 0 < length bytes → new ≡ option_map (λ m. insert m name bytes) old
stands_put name bytes None None s some = refl
stands_put name bytes (Some old) (Some now) s some = ap (λ (m : Files). Some m) (put_map name bytes old now s some)
stands_put name bytes None (Some now) s some = absurd s
stands_put name bytes (Some old) None s some = absurd s

pub zero_is : file_written [] 0 (0 ∷ []) ≡ 0 ∷ []
zero_is = refl

pub front_only_of : (bytes rest front : List ℕ) → bytes ≡ first_byte ∷ rest → front ≡ first_byte ∷ [] → Only bytes (0 ∷ rest) 0 front
front_only_of bytes rest front is one held has cases =
    (subst (λ f. (held ≡ 0 ∷ rest) ⊎ ((held ≡ file_written (0 ∷ rest) 0 f) ⊎ IsTornFile 0 (length f) (0 ∷ rest) held) → held ≡ first_byte ∷ rest) (sym one) (front_only rest held has) cases) ∙ sym is

pub put_ok : {T : Type 0} (name bytes rest front : List ℕ) (old mid new : Option Files) (result : Result T AreaFault) → StandsIn name (0 ∷ rest) old mid → bytes ≡ first_byte ∷ rest → front ≡ first_byte ∷ [] → Writes name 0 front mid new result
    → OnOk result (new ≡ option_map (λ m. insert m name bytes) old)
put_ok name bytes rest front old mid new (Ok done) s is one ok =
    stands_put name bytes old new
    (written_stands_in name (0 ∷ rest) 0 front bytes old mid new (ap (file_written (0 ∷ rest) 0) one ∙ front_put rest ∙ sym is) s ok)
    (let long = ap length is in omega (arith, long))
put_ok name bytes rest front old mid new (Err fault) s is one ok = tt
