-- Replay over a block that may be newer, against replay over the block as it was.
use Rattle.std.proofs.Common.{◌≡◌, ℕ, ◌<◌, ◌≤◌, Bool, true, false, cond, List, [], ◌∷◌, Option, Some, None, unwrap_or, option_map, refl, ap, subst, ◌∙◌, arith}
use Rattle.std.specs.Prelude.{nat_lt}
use Rattle.std.proofs.lemmas.Bool.{lt-ltb}
use Rattle.lsn_core.specs.byte_words.Numbers.{◌>>=◌}
use Rattle.pg_page.specs.Header.{lsn_of, lsn_field, with_lsn, hole_zeroed, zero_page}
use Rattle.pg_page.specs.Frags.{Fragment, written_frags, patched, is_good}
use Rattle.history.specs.declared.op.Edit.{Edit}
use Rattle.history.specs.declared.op.Edit.TheVariants.{Put, Patch}
use Rattle.history.specs.Apply.{edited}
use Rattle.history.specs.Redo.{redone}
use Rattle.history.proofs.Stores.{lsn_of-zero_page}
use Rattle.history.specs.fuzzy_copies.Sound.{block_lsn}
use Rattle.history.specs.fuzzy_copies.Effects.{Effect, Stay, Reach, Alter, Clear, after_all}

pub lsn_of-with_lsn_most : (end : ℕ) (page : List ℕ) → lsn_of (with_lsn end page) ≤ end
unfolding with_lsn lsn_field
lsn_of-with_lsn_most end page = omega arith

-- a missing block is a zero page, of LSN 0
pub old_lsn : (o : Option (List ℕ)) → lsn_of (unwrap_or o zero_page) ≡ block_lsn o
old_lsn None = lsn_of-zero_page
old_lsn (Some page) = refl

within : (b : Bool) (end : ℕ) (page new : List ℕ) → lsn_of page ≤ end → cond b (Some page) None ≡ Some new → lsn_of new ≤ end
within true end page new low e = let same : page ≡ new = cc in subst (λ p. lsn_of p ≤ end) same low
within false end page new low e = absurd cc

patched_lsn : (end : ℕ) (frags : List Fragment) (old : List ℕ) → lsn_of (patched frags end old) ≤ end
unfolding patched
patched_lsn end frags old = lsn_of-with_lsn_most end (hole_zeroed (written_frags frags old))

-- what an edit leaves is no newer than its entry's end
edited_lsn : (end : ℕ) (edit : Edit) (old new : List ℕ) → edited end old edit ≡ Some new → lsn_of new ≤ end
edited_lsn end (Put page) old new e = let same : with_lsn end (hole_zeroed page) ≡ new = cc in subst (λ p. lsn_of p ≤ end) same (lsn_of-with_lsn_most end (hole_zeroed page))
edited_lsn end (Patch frags) old new e = within (is_good (written_frags frags old)) end (patched frags end old) new (patched_lsn end frags old) e

-- edits come from later and later entries, and a patch never from an entry that edited the block before
abbrev pub Rises : ℕ → List Effect → Type 0
Rises last [] = Unit
Rises last (Stay ∷ xs) = Rises last xs
Rises last (Reach ∷ xs) = Rises last xs
Rises last (Alter end (Put page) ∷ xs) = (last ≤ end) × Rises end xs
Rises last (Alter end (Patch frags) ∷ xs) = (last < end) × Rises end xs
Rises last (Clear ∷ xs) = Rises last xs

-- what comes first of edits and cuts is no patch, and one comes
abbrev pub Completes : List Effect → Type 0
Completes [] = ⊥
Completes (Stay ∷ xs) = Completes xs
Completes (Reach ∷ xs) = Completes xs
Completes (Alter end (Put page) ∷ xs) = Unit
Completes (Alter end (Patch frags) ∷ xs) = ⊥
Completes (Clear ∷ xs) = Unit

-- from the same block on, where it isn't newer, the test of LSNs changes nothing
pub agreed : (last : ℕ) (xs : List Effect) (o : Option (List ℕ)) → block_lsn o ≤ last → Rises last xs → after_all redone xs o ≡ after_all edited xs o
agreed last [] o old r = refl
agreed last (Stay ∷ xs) o old r = agreed last xs o old r
agreed last (Reach ∷ xs) o old r = agreed last xs (Some (unwrap_or o zero_page)) (omega (arith, old_lsn o)) r
agreed last (Alter end (Put page) ∷ xs) o old r = agreed end xs (Some (with_lsn end (hole_zeroed page))) (lsn_of-with_lsn_most end (hole_zeroed page)) r.1
agreed last (Alter end (Patch frags) ∷ xs) o old r =
    let below : nat_lt (lsn_of (unwrap_or o zero_page)) end ≡ true = lt-ltb (lsn_of (unwrap_or o zero_page)) end (let e = old_lsn o in let h = r.0 in omega arith) in
    ap (λ b. option_map (λ (p : List ℕ). Some p) (cond b (edited end (unwrap_or o zero_page) (Patch frags)) (Some (unwrap_or o zero_page))) >>= after_all redone xs) below
    ∙ elim (edited end (unwrap_or o zero_page) (Patch frags)) as (λ m. edited end (unwrap_or o zero_page) (Patch frags) ≡ m → (option_map (λ (p : List ℕ). Some p) m >>= after_all redone xs) ≡ (option_map (λ (p : List ℕ). Some p) m >>= after_all edited xs)) [
      | None ↦ λ e. refl
      | Some new ↦ λ e. agreed end xs (Some new) (edited_lsn end (Patch frags) (unwrap_or o zero_page) new e) r.1
    ] refl
agreed last (Clear ∷ xs) o old r = agreed last xs None (omega arith) r

-- from any two blocks on, where a put page or a cut comes before a patch
pub completed : (last : ℕ) (xs : List Effect) (o p : Option (List ℕ)) → Completes xs → Rises last xs → after_all redone xs o ≡ after_all edited xs p
completed last [] o p c r = absurd c
completed last (Stay ∷ xs) o p c r = completed last xs o p c r
completed last (Reach ∷ xs) o p c r = completed last xs (Some (unwrap_or o zero_page)) (Some (unwrap_or p zero_page)) c r
completed last (Alter end (Put page) ∷ xs) o p c r = agreed end xs (Some (with_lsn end (hole_zeroed page))) (lsn_of-with_lsn_most end (hole_zeroed page)) r.1
completed last (Alter end (Patch frags) ∷ xs) o p c r = absurd c
completed last (Clear ∷ xs) o p c r = agreed last xs None (omega arith) r

-- all edits come from entries that end at a place or before it
abbrev pub EndsBy : ℕ → List Effect → Type 0
EndsBy top [] = Unit
EndsBy top (Stay ∷ xs) = EndsBy top xs
EndsBy top (Reach ∷ xs) = EndsBy top xs
EndsBy top (Alter end edit ∷ xs) = (end ≤ top) × EndsBy top xs
EndsBy top (Clear ∷ xs) = EndsBy top xs

-- a block's LSN is at most the end of the last entry
pub lsn_after : (top : ℕ) (xs : List Effect) (o p : Option (List ℕ)) → block_lsn o ≤ top → EndsBy top xs → after_all edited xs o ≡ Some p → block_lsn p ≤ top
lsn_after top [] o p old b e = let same : o ≡ p = cc in subst (λ q. block_lsn q ≤ top) same old
lsn_after top (Stay ∷ xs) o p old b e = lsn_after top xs o p old b e
lsn_after top (Reach ∷ xs) o p old b e = lsn_after top xs (Some (unwrap_or o zero_page)) p (omega (arith, old_lsn o)) b e
lsn_after top (Alter end edit ∷ xs) o p old b e =
    elim (edited end (unwrap_or o zero_page) edit) as (λ m. edited end (unwrap_or o zero_page) edit ≡ m → (option_map (λ (p : List ℕ). Some p) m >>= after_all edited xs) ≡ Some p → block_lsn p ≤ top) [
      | None ↦ λ is f. absurd cc
      | Some new ↦ λ is f. lsn_after top xs (Some new) p (let h = edited_lsn end edit (unwrap_or o zero_page) new is in let k = b.0 in omega arith) b.1 f
    ] refl e
lsn_after top (Clear ∷ xs) o p old b e = lsn_after top xs None p (omega arith) b e
