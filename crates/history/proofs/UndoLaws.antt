-- What undoes a change gives the store before it.
use Rattle.std.proofs.Common.{◌≡◌, ℕ, ◌+◌, ◌-◌, ◌≤◌, true, false, cond, List, [], ◌∷◌, ◌++◌, length, replicate, take, Option, Some, None, inl, inr, unwrap_or, refl, sym, ap, ◌∙◌, arith}
use Rattle.std.specs.Prelude.{slice_get, slice_set}
use Rattle.std.specs.FinMap.{get, insert, remove, get-insert, get-remove, same_map}
use Rattle.std.specs.Ordering.{eq_by_cmp}
use Rattle.std.specs.Cmp.{Equal-is, eq_by_cmp_equiv}
use Rattle.std.proofs.lemmas.List.{append-nil, set-get_or, set-set, take-append-le, take-set-le, take_all}
use Rattle.std.proofs.lemmas.Option.{get_or_from_slice_get, slice_get_within, slice_get-get_or}
use Rattle.std.proofs.lemmas.Bool.{cases_lt}
use Rattle.lsn_core.specs.declared.ids.ForkId.{ForkId}
use Rattle.lsn_core.specs.declared.ids.BlockId.{BlockId}
use Rattle.lsn_core.specs.Store.{Store, ForkPages, fork_cmp}
use Rattle.lsn_core.specs.Blocks.{pages_of, with_block, page_put, with_cut_pages, with_cut}
use Rattle.lsn_core.proofs.ForkOrder.{fork_cmp_total, fork_cmp-IsAntisymmetric}
use Rattle.pg_page.specs.Header.{zero_page}
use Rattle.history.specs.declared.undo.Step.{Step}
use Rattle.history.specs.Undo.{with_set_found, with_set, undone_step, undone_steps}

same : (a b : ForkId) → eq_by_cmp fork_cmp a b ≡ true → a ≡ b
same a b e = fork_cmp-IsAntisymmetric a b ((Equal-is _).0 e)

-- a fork that was missing
pub unmade : (s : Store) (fork : ForkId) (pages : ForkPages) → get s fork ≡ None → remove (insert s fork pages) fork ≡ s
unmade s fork pages none =
    same_map fork_cmp_total fork_cmp-IsAntisymmetric (remove (insert s fork pages) fork) s (λ q.
    get-remove fork_cmp_total (insert s fork pages) fork q
    ∙ elim (eq_by_cmp fork_cmp q fork) as (λ b. eq_by_cmp fork_cmp q fork ≡ b → cond b None (get (insert s fork pages) q) ≡ get s q) [
      | true ↦ λ k. sym (ap (get s) (same q fork k) ∙ none)
      | false ↦ λ k. get-insert fork_cmp_total s fork pages q ∙ ap (λ b. cond b (Some pages) (get s q)) k
    ] refl)

-- a fork whose pages are put back
put_back : (s : Store) (fork : ForkId) (old new : ForkPages) → get s fork ≡ Some old → insert (insert s fork new) fork old ≡ s
put_back s fork old new found =
    same_map fork_cmp_total fork_cmp-IsAntisymmetric (insert (insert s fork new) fork old) s (λ q.
    get-insert fork_cmp_total (insert s fork new) fork old q
    ∙ elim (eq_by_cmp fork_cmp q fork) as (λ b. eq_by_cmp fork_cmp q fork ≡ b → cond b (Some old) (get (insert s fork new) q) ≡ get s q) [
      | true ↦ λ k. sym (ap (get s) (same q fork k) ∙ found)
      | false ↦ λ k. get-insert fork_cmp_total s fork new q ∙ ap (λ b. cond b (Some new) (get s q)) k
    ] refl)

now_there : (s : Store) (fork : ForkId) (pages : ForkPages) → get (insert s fork pages) fork ≡ Some pages
now_there s fork pages = get-insert fork_cmp_total s fork pages fork ∙ ap (λ b. cond b (Some pages) (get s fork)) ((eq_by_cmp_equiv fork_cmp_total).refl fork)

past_end : (pages : ForkPages) (block : ℕ) → slice_get pages block ≡ None → length pages ≤ block
past_end pages block e =
    elim (cases_lt block (length pages)) [
      | inl h ↦ absurd (let k = slice_get-get_or pages block [] h in cc)
      | inr h ↦ h
    ]

-- a fork that was grown
shortened : (s : Store) (at : BlockId) (old : ForkPages) (page : List ℕ) → get s at.fork ≡ Some old → length old ≤ at.block → with_cut (page_put at page s) at.fork (length old) ≡ s
shortened s at old page found long =
    let new = with_block (pages_of s at.fork) at.block page in
    let there : pages_of s at.fork ≡ old = ap (λ (o : Option ForkPages). unwrap_or o []) found in
    let cut : take (length old) (with_block old at.block page) ≡ old =
    take-set-le (length old) (old ++ replicate (at.block + 1 - length old) zero_page) at.block page long ∙ take-append-le (length old) old (replicate (at.block + 1 - length old) zero_page) (omega arith) ∙ take_all (length old) old (omega arith) in
    ap (with_cut_pages (insert s at.fork new) at.fork (length old)) (now_there s at.fork new)
    ∙ ap (insert (insert s at.fork new) at.fork) (ap (λ (ps : ForkPages). take (length old) (with_block ps at.block page)) there ∙ cut)
    ∙ put_back s at.fork old new found

pub shortened_at : (s : Store) (at : BlockId) (old : ForkPages) (count : ℕ) (page : List ℕ) → get s at.fork ≡ Some old → slice_get old at.block ≡ None → count ≡ length old → with_cut (page_put at page s) at.fork count ≡ s
shortened_at s at old count page found none is = ap (with_cut (page_put at page s) at.fork) is ∙ shortened s at old page found (past_end old at.block none)

short_set : (old : ForkPages) (n block : ℕ) (page before : List ℕ) → n ≡ 0 → slice_get old block ≡ Some before → slice_set (slice_set (old ++ replicate n zero_page) block page) block before ≡ old
short_set old n block page before z e =
    ap (λ k. slice_set (slice_set (old ++ replicate k zero_page) block page) block before) z ∙ ap (λ (ps : ForkPages). slice_set (slice_set ps block page) block before) (append-nil old)
    ∙ set-set old block page before ∙ ap (slice_set old block) (sym (get_or_from_slice_get old block before [] e)) ∙ set-get_or old block []

-- a block whose page was replaced
pub restored : (s : Store) (at : BlockId) (old : ForkPages) (page before : List ℕ) → get s at.fork ≡ Some old → slice_get old at.block ≡ Some before → with_set (page_put at page s) at before ≡ s
restored s at old page before found there =
    let new = with_block (pages_of s at.fork) at.block page in
    let here : pages_of s at.fork ≡ old = ap (λ (o : Option ForkPages). unwrap_or o []) found in
    let short = slice_get_within old at.block before there in
    ap (with_set_found (insert s at.fork new) at before) (now_there s at.fork new)
    ∙ ap (insert (insert s at.fork new) at.fork) (ap (λ (ps : ForkPages). slice_set (with_block ps at.block page) at.block before) here ∙ short_set old (at.block + 1 - length old) at.block page before (omega arith) there)
    ∙ put_back s at.fork old new found

-- one change more
pub steps-push : (us : List Step) (u : Step) (s : Store) → undone_steps (us ++ (u ∷ [])) s ≡ undone_steps us (undone_step u s)
steps-push [] u s = refl
steps-push (v ∷ us) u s = ap (undone_step v) (steps-push us u s)
