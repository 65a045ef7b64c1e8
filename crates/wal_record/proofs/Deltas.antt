-- Good fragments as a delta.
use Rattle.std.proofs.Common.{◌≡◌, ℕ, ◌+◌, ◌<◌, ◌≤◌, true, false, cond, List, [], ◌∷◌, ◌++◌, length, Some, None, refl, arith}
use Rattle.std.specs.Prelude.{◌==◌, nat_lt}
use Rattle.std.specs.List.{All}
use Rattle.std.proofs.lemmas.Bool.{or_parts, ltb-false, eqb-false}
use Rattle.std.proofs.lemmas.List.{length-append}
use Rattle.std.proofs.lemmas.List.Elements.{All-nil, All-cons}
use Rattle.pg_page.specs.Frags.{Fragment, frag_size, is_bad, bad_frag, bad_frag_from}
use Rattle.wal_record.specs.Spelling.{frag_bytes, frags_bytes}

-- what is known of a good fragment behind others
pub record GoodFrag (before : ℕ) (f : Fragment) : Type 0 where
  pub some : 0 < length f.bytes
  pub fits : f.at + length f.bytes ≤ 8192
  pub room : before + frag_size f ≤ 65535

pub good_frag : (before : ℕ) (f : Fragment) → is_bad before f ≡ false → GoodFrag before f
good_frag before f e =
    let a = or_parts (length f.bytes == 0) _ e in
    let b = or_parts (nat_lt 8192 (f.at + length f.bytes)) (nat_lt 65535 (before + frag_size f)) a.1 in
    record {
      some = omega (arith, eqb-false (length f.bytes) 0 a.0);
      fits = ltb-false 8192 (f.at + length f.bytes) b.0;
      room = ltb-false 65535 (before + frag_size f) b.1;
    }

-- good fragments behind others, one by one
pub good_step : (number before : ℕ) (f : Fragment) (fs : List Fragment) (P : Type 0) → bad_frag_from number before (f ∷ fs) ≡ None → (GoodFrag before f → is_bad before f ≡ false → bad_frag_from (number + 1) (before + frag_size f) fs ≡ None → P) → P
good_step number before f fs P e go =
    elim (is_bad before f) as (λ b. is_bad before f ≡ b → cond b (Some number) (bad_frag_from (number + 1) (before + frag_size f) fs) ≡ None → P) [
      | true ↦ λ k h. absurd cc
      | false ↦ λ k h. go (good_frag before f k) k h
    ] refl e

length-frag : (f : Fragment) (rest : List ℕ) → length (frag_bytes f ++ rest) ≡ frag_size f + length rest
length-frag f rest = omega (arith, length-append f.bytes rest)

most_from : (number before : ℕ) (frags : List Fragment) → before ≤ 65535 → bad_frag_from number before frags ≡ None → before + length (frags_bytes frags) ≤ 65535
most_from number before [] le e = omega arith
most_from number before (f ∷ fs) le e =
    good_step number before f fs (before + length (frags_bytes (f ∷ fs)) ≤ 65535) e (λ g k h.
    omega (arith, most_from (number + 1) (before + frag_size f) fs g.room h, length-frag f (frags_bytes fs)))

pub frags_most : (frags : List Fragment) → bad_frag frags ≡ None → length (frags_bytes frags) ≤ 65535
frags_most [] e = absurd cc
frags_most (f ∷ fs) e = omega (arith, most_from 0 0 (f ∷ fs) (omega arith) e)

abbrev Fits : Fragment → Type 0
Fits f = f.at + length f.bytes ≤ 8192

fit_from : (number before : ℕ) (frags : List Fragment) → bad_frag_from number before frags ≡ None → All Fits frags
fit_from number before [] e = All-nil Fits
fit_from number before (f ∷ fs) e = good_step number before f fs (All Fits (f ∷ fs)) e (λ g k h. All-cons Fits f fs g.fits (fit_from (number + 1) (before + frag_size f) fs h))

pub frags_fit : (frags : List Fragment) → bad_frag frags ≡ None → All (λ f. f.at + length f.bytes ≤ 8192) frags
frags_fit [] e = absurd cc
frags_fit (f ∷ fs) e = fit_from 0 0 (f ∷ fs) e
