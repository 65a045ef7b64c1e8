-- The input, read so far and read to its end.
use Rattle.std.proofs.Common.{◌≡◌, ℕ, ◌+◌, ◌-◌, ◌≤◌, Bool, List, [], ◌++◌, length, take, drop, Option, Some, None, IfSome, refl, ap, sym, subst, ◌∙◌, arith}
use Rattle.std.proofs.Math.Seq.{take-add}
use Rattle.std.proofs.lemmas.List.{take_all, drop-drop, length-drop}
use Rattle.std.specs.Option.{option_map}
use Rattle.run_command.specs.Input.{TakesAtMost}
use Rattle.run_command.specs.Inner.{IsMore}

-- the bytes so far are the front of the input, and what is behind them is left
pub record IsFront (bytes : List ℕ) (start left : Option (List ℕ)) : Type 0 where
  pub front : IfSome start (λ whole. bytes ≡ take (length bytes) whole)
  pub left_is : left ≡ option_map (drop (length bytes)) start

front_grows : (before bytes whole : List ℕ) (m n k : ℕ) → m + n ≡ k → before ≡ take m whole → bytes ≡ before ++ take n (drop m whole) → bytes ≡ take k whole
front_grows before bytes whole m n k sum b e = e ∙ ap (λ x. x ++ take n (drop m whole)) b ∙ sym (take-add m n whole) ∙ ap (λ x. take x whole) sum

rest_behind : (whole : List ℕ) (m n k : ℕ) → m + n ≡ k → option_map (drop n) (option_map (drop m) (Some whole)) ≡ option_map (drop k) (Some whole)
rest_behind whole m n k sum = ap Some (drop-drop n m whole ∙ ap (λ x. drop x whole) sum)

-- a read more keeps that
pub reads_on : (before bytes : List ℕ) (most : ℕ) (ended : Bool) (start left now : Option (List ℕ)) → IsFront before start left → IsMore before bytes most left now ended → IsFront bytes start now
reads_on before bytes most ended None left now front more = record { front = tt; left_is = more.left_is ∙ ap (option_map (drop (length bytes - length before))) front.left_is }
reads_on before bytes most ended (Some whole) left now front more = record {
  front = front_grows before bytes whole (length before) (length bytes - length before) (length bytes) (omega (arith, more.least)) front.front
      (subst (λ (o : Option (List ℕ)). IfSome o (λ l. bytes ≡ before ++ take (length bytes - length before) l)) front.left_is more.grown);
  left_is = more.left_is ∙ ap (option_map (drop (length bytes - length before))) front.left_is ∙ rest_behind whole (length before) (length bytes - length before) (length bytes) (omega (arith, more.least));
}

-- nothing is left: all was read
pub all_read : (before bytes : List ℕ) (start left : Option (List ℕ)) → IsFront before start left → bytes ≡ before → IfSome left (λ l. l ≡ []) → IfSome start (λ whole. length whole ≤ length bytes)
all_read before bytes None left front same ended = tt
all_read before bytes (Some whole) left front same ended =
    omega (arith, length-drop (length before) whole, ap length (subst (λ (o : Option (List ℕ)). IfSome o (λ l. l ≡ [])) front.left_is ended), ap length same)

pub whole_bytes : (limit : ℕ) (bytes : List ℕ) (start now : Option (List ℕ)) → IsFront bytes start now → length bytes ≤ limit → IfSome start (λ whole. length whole ≤ length bytes) → IfSome start (λ whole. bytes ≡ take limit whole)
whole_bytes limit bytes None now front size all = tt
whole_bytes limit bytes (Some whole) now front size all = front.front ∙ take_all (length bytes) whole all ∙ sym (take_all limit whole (omega (arith, size, all)))

-- as many bytes were read as are looked at
pub first_bytes : (limit : ℕ) (bytes : List ℕ) (start now : Option (List ℕ)) → IsFront bytes start now → length bytes ≡ limit → IfSome start (λ whole. bytes ≡ take limit whole)
first_bytes limit bytes start now front e = subst (λ (n : ℕ). IfSome start (λ whole. bytes ≡ take n whole)) e front.front

-- ---- how much was taken

dropped : (m n : ℕ) (start : Option (List ℕ)) → option_map (drop n) (option_map (drop m) start) ≡ option_map (drop (m + n)) start
dropped m n None = refl
dropped m n (Some whole) = rest_behind whole m n (m + n) refl

-- what was read
pub front_taken : (limit : ℕ) (bytes : List ℕ) (start now : Option (List ℕ)) → IsFront bytes start now → length bytes ≤ limit → TakesAtMost limit start now
front_taken limit bytes start now front within = record { taken = length bytes; within = within; rest = front.left_is }

-- and some more
pub more_taken : (limit most : ℕ) (bytes : List ℕ) (start left now : Option (List ℕ)) → IsFront bytes start left → length bytes + most ≤ limit → TakesAtMost most left now → TakesAtMost limit start now
more_taken limit most bytes start left now front within more = record {
  taken = length bytes + more.taken;
  within = omega (arith, within, more.within);
  rest = more.rest ∙ ap (option_map (drop more.taken)) front.left_is ∙ dropped (length bytes) more.taken start;
}
