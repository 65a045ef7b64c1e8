-- The place of the first block of an incremental file.
use Rattle.std.proofs.Common.{◌≡◌, ℕ, ◌+◌, ◌*◌, ◌/◌, ◌<◌, ◌≤◌, true, false, cond, List, None, refl, arith}
use Rattle.std.specs.Prelude.{◌==◌}
use Rattle.std.proofs.lemmas.Bool.{eqb-true, ne_eqb}
use Rattle.incr_file.specs.Head.{head_size, body_place, file_size}
use Rattle.incr_file.specs.Reading.{listed_count, told_head_size}

-- it stands behind the numbers, and less than a page behind
pub record IsBehind (count : ℕ) : Type 0 where
  pub least : head_size count ≤ body_place count
  pub most : body_place count ≤ head_size count + 8191

pub body_behind : (count : ℕ) → IsBehind count
unfolding body_place
body_behind count =
    record {
      least = elim (count == 0) as (λ s. (count == 0) ≡ s → head_size count ≤ cond s 12 ((12 + 4 * count + 8191) / 8192 * 8192)) [
        | true ↦ λ k. let is = eqb-true count 0 k in omega arith
        | false ↦ λ k. omega arith
      ] refl;
      most = elim (count == 0) as (λ s. (count == 0) ≡ s → cond s 12 ((12 + 4 * count + 8191) / 8192 * 8192) ≤ head_size count + 8191) [
        | true ↦ λ k. omega arith
        | false ↦ λ k. omega arith
      ] refl;
    }

-- no file of less than twelve bytes has the size that its count gives
pub short_file : (bytes : List ℕ) (file : ℕ) → file < 12 → told_head_size bytes file ≡ None
short_file bytes file short =
    rw (ne_eqb file (file_size (listed_count bytes)) (λ same. let b = body_behind (listed_count bytes) in omega arith)) refl
