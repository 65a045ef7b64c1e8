-- A file that is opened to be written, and then written.
use Rattle.std.proofs.Common.{◌≡◌, ℕ, Bool, true, false, cond, List, [], Option, Some, None, IfSome, option_map, unwrap_or, refl, sym, ap, subst, ◌∙◌, arith, inl, inr}
use Rattle.std.specs.FinMap.{get, insert, get-insert}
use Rattle.std.specs.Cmp.Lexicographic.{nat_list_cmp_total}
use Rattle.lsn_core.specs.Files.{Files}
use Rattle.vault.specs.Area.{bytes_of, file_written, after_write, IsTornFile, IsTorn, Related}
use Rattle.vault.proofs.Torn.{same_is_related, shorter_is_torn}
use Rattle.system_calls.specs.System.{MayMake}
use Rattle.vault_os.proofs.Below.{same, same_is, same_files}

module _ (n : List ℕ) (files : Files) where
  held : List ℕ
  held = bytes_of files n

  got : (v q : List ℕ) → get (insert files n v) q ≡ cond (same q n) (Some v) (get files q)
  got v q = get-insert nat_list_cmp_total files n v q

  got_here : (v : List ℕ) → get (insert files n v) n ≡ Some v
  got_here v = got v n ∙ ap (λ (b : Bool). cond b (Some v) (get files n)) ((same_is n n).1 refl)

  twice : (t : Bool) (v w : List ℕ) (o : Option (List ℕ)) → cond t (Some w) (cond t (Some v) o) ≡ cond t (Some w) o
  twice true v w o = refl
  twice false v w o = refl

  insert_again : (v w : List ℕ) → insert (insert files n v) n w ≡ insert files n w
  insert_again v w = same_files _ _ (λ q. get-insert nat_list_cmp_total (insert files n v) n w q ∙ ap (cond (same q n) (Some w)) (got v q) ∙ twice (same q n) v w (get files q) ∙ sym (got w q))

  written_after : (at : ℕ) (piece : List ℕ) → after_write n at piece (after_write n 0 [] files) ≡ after_write n at piece files
  unfolding held
  written_after at piece =
      ap (λ (o : Option (List ℕ)). insert (after_write n 0 [] files) n (file_written (unwrap_or o []) at piece)) (got_here held)
      ∙ insert_again held (file_written held at piece)

  other : (t : Bool) (v : List ℕ) (o : Option (List ℕ)) → (t ≡ true → ⊥) → cond t (Some v) o ≡ o
  other true v o apart = absurd (apart refl)
  other false v o apart = refl

  torn_after : (at count : ℕ) (new : Files) → IsTorn n at count (after_write n 0 [] files) new → IsTorn n at count files new
  unfolding held
  torn_after at count new torn = record {
    others = λ q apart. torn.others q apart ∙ got held q ∙ other (same q n) held (get files q) (λ t. apart ((same_is q n).0 t));
    missing = λ none. let no : ◌≡◌ {A = Option (List ℕ)} (Some held) None = sym (got_here held) ∙ torn.missing none in absurd cc;
    file = subst (λ (o : Option (List ℕ)). IfSome (get new n) (IsTornFile at count (unwrap_or o []))) (got_here held) torn.file;
  }

pub write_made : (n : List ℕ) (at : ℕ) (piece : List ℕ) (a b c : Option Files) → MayMake n a b → c ≡ option_map (after_write n at piece) b → c ≡ option_map (after_write n at piece) a
write_made n at piece a b c (inl e) h = h ∙ ap (option_map (after_write n at piece)) e
write_made n at piece None b c (inr e) h = h ∙ ap (option_map (after_write n at piece)) e
write_made n at piece (Some m) b c (inr e) h = h ∙ ap (option_map (after_write n at piece)) e ∙ ap Some (written_after n m at piece)

tear_one : (n : List ℕ) (at count : ℕ) (a c : Option Files) → Related (IsTorn n at count) (option_map (after_write n 0 []) a) c → Related (IsTorn n at count) a c
tear_one n at count None None h = h
tear_one n at count None (Some k) h = h
tear_one n at count (Some m) None h = h
tear_one n at count (Some m) (Some k) h = torn_after n m at count k h

pub tear_made : (n : List ℕ) (at count : ℕ) (a b c : Option Files) → MayMake n a b → Related (IsTorn n at count) b c → Related (IsTorn n at count) a c
tear_made n at count a b c (inl e) h = subst (λ (o : Option Files). Related (IsTorn n at count) o c) e h
tear_made n at count a b c (inr e) h = tear_one n at count a c (subst (λ (o : Option Files). Related (IsTorn n at count) o c) e h)

made_is_torn : (n : List ℕ) (at count : ℕ) (a : Option Files) → Related (IsTorn n at count) a (option_map (after_write n 0 []) a)
made_is_torn n at count None = tt
made_is_torn n at count (Some m) = shorter_is_torn n at [] count m (omega arith)

pub may_make_tears : (n : List ℕ) (at count : ℕ) (a b : Option Files) → MayMake n a b → Related (IsTorn n at count) a b
may_make_tears n at count a b (inl e) = subst (λ (o : Option Files). Related (IsTorn n at count) a o) (sym e) (same_is_related n at count a)
may_make_tears n at count a b (inr e) = subst (λ (o : Option Files). Related (IsTorn n at count) a o) (sym e) (made_is_torn n at count a)
