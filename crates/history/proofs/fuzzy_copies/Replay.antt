-- Replay from a sound copy gives what replay of the whole WAL gives.
use Rattle.std.proofs.Common.{◌≡◌, ℕ, ◌≤◌, true, false, cond, ◌&&◌, List, [], ◌∷◌, ◌++◌, map, Option, Some, None, refl, sym, ap, subst, ◌∙◌, arith}
use Rattle.std.specs.Prelude.{nat_lt, nat_le, ◌||◌, not, slice_get}
use Rattle.std.specs.List.{list_any, filter}
use Rattle.std.specs.FinMap.{empty, get-empty}
use Rattle.std.proofs.lemmas.Bool.{leb-true, ltb-true, and_parts, or_parts}
use Rattle.lsn_core.specs.byte_words.Numbers.{◌>>=◌}
use Rattle.lsn_core.specs.declared.ids.ForkId.{ForkId}
use Rattle.lsn_core.specs.Store.{Store, ForkPages, fork_cmp}
use Rattle.lsn_core.specs.Blocks.{block_of}
use Rattle.history.specs.declared.op.Item.{Item}
use Rattle.history.specs.Entry.{Act, Create, Truncate, Change, Drop, Mark, Entry, is_of_run}
use Rattle.history.specs.Apply.{Rule, edited, main_fork, is_same_fork, is_of_any, act_by, apply_all}
use Rattle.history.specs.Redo.{redone}
use Rattle.history.proofs.Pushes.{all_first, all_rest}
use Rattle.history.specs.fuzzy_copies.Touches.{resets}
use Rattle.history.specs.fuzzy_copies.Effects.{Effect, Clear, Stay, item_effect, act_effects, effects_on}
use Rattle.history.specs.fuzzy_copies.Orderly.{IsOrderly, AreRead, AllEndBy}
use Rattle.history.specs.fuzzy_copies.Sound.{entries_before, lsn_after, redo_point, block_lsn, window, is_in, IsSoundCopy}
use Rattle.history.specs.fuzzy_copies.Recovered.{entries_by, is_replayed}
use Rattle.history.specs.fuzzy_copies.Laws.{ReplayCompletesCopies}
use Rattle.history.proofs.fuzzy_copies.View.{entries_view}
use Rattle.history.proofs.fuzzy_copies.OneBlock.{EndsBy, agreed}
use Rattle.history.proofs.fuzzy_copies.OneBlock as one
use Rattle.history.proofs.fuzzy_copies.Completed.{IsCompleted, same_by_blocks, window_law, rises, by_effect}
use Rattle.history.proofs.fuzzy_copies.Ranges.{boundary_start, boundary_end, cut_at, before_boundary, window_boundary, rising_from, all_end_by, found_in}

-- entries that are applied are entries done by the rule of edits
pub applied : (s : Store) (es : List Entry) → apply_all s es ≡ entries_by edited s es
applied s [] = refl
applied s (e ∷ es) = elim (act_by edited e.end s e.act) as (λ m. (m >>= λ t. apply_all t es) ≡ (m >>= λ t. entries_by edited t es)) [ Some t ↦ applied t es | None ↦ refl ]

pub applied_in_two : (s : Store) (xs ys : List Entry) → apply_all s (xs ++ ys) ≡ (apply_all s xs >>= λ t. apply_all t ys)
applied_in_two s [] ys = refl
applied_in_two s (x ∷ xs) ys =
    elim (act_by edited x.end s x.act) as (λ m. (m >>= λ t. apply_all t (xs ++ ys)) ≡ ((m >>= λ t. apply_all t xs) >>= λ t. apply_all t ys)) [ Some t ↦ applied_in_two t xs ys | None ↦ refl ]

pub view : (s t : Store) (es : List Entry) → apply_all s es ≡ Some t → entries_by edited s es ≡ Some t
view s t es e = sym (applied s es) ∙ e

pub in_two : (r : Rule) (s : Store) (xs ys : List Entry) → entries_by r s (xs ++ ys) ≡ (entries_by r s xs >>= λ t. entries_by r t ys)
in_two r s [] ys = refl
in_two r s (x ∷ xs) ys =
    elim (act_by r x.end s x.act) as (λ m. (m >>= λ t. entries_by r t (xs ++ ys)) ≡ ((m >>= λ t. entries_by r t xs) >>= λ t. entries_by r t ys)) [ Some t ↦ in_two r t xs ys | None ↦ refl ]

-- edits end by a place where entries do
more_effects : (top : ℕ) (fork : ForkId) (block end : ℕ) (items : List Item) (xs : List Effect) → end ≤ top → EndsBy top xs → EndsBy top (map (item_effect fork block end) items ++ xs)
more_effects top fork block end [] xs h b = b
more_effects top fork block end (item ∷ items) xs h b =
    let rest = more_effects top fork block end items xs h b in by_effect (EndsBy top) fork block end item (map (item_effect fork block end) items ++ xs) (λ _. (h, rest)) (λ _. rest) (λ _. rest)

act_ends_by : (top : ℕ) (fork : ForkId) (block end : ℕ) (act : Act) (xs : List Effect) → end ≤ top → EndsBy top xs → EndsBy top (act_effects fork block end act ++ xs)
act_ends_by top fork block end (Create made) xs h b = b
act_ends_by top fork block end (Truncate rel count) xs h b = elim (is_same_fork fork (main_fork rel) && nat_le count block) as (λ s. EndsBy top (cond s Clear Stay ∷ xs)) [ true ↦ b | false ↦ b ]
act_ends_by top fork block end (Change items) xs h b = more_effects top fork block end items xs h b
act_ends_by top fork block end (Drop rels) xs h b = elim (is_of_any fork rels) as (λ s. EndsBy top (cond s Clear Stay ∷ xs)) [ true ↦ b | false ↦ b ]
act_ends_by top fork block end (Mark marking) xs h b = b

ends_by : (top : ℕ) (fork : ForkId) (block : ℕ) (es : List Entry) → AllEndBy top es → EndsBy top (effects_on fork block es)
ends_by top fork block [] a = tt
ends_by top fork block (e ∷ es) a = act_ends_by top fork block e.end e.act (effects_on fork block es) (all_first (λ (d : Entry). d.end ≤ top) e es a) (ends_by top fork block es (all_rest (λ (d : Entry). d.end ≤ top) e es a))

-- the pages after entries are no newer than the last of these
pub no_newer : (top : ℕ) (s t : Store) (es : List Entry) → ((fork : ForkId) (block : ℕ) → block_lsn (block_of s fork block) ≤ top) → AllEndBy top es → entries_by edited s es ≡ Some t → (fork : ForkId) (block : ℕ) → block_lsn (block_of t fork block) ≤ top
no_newer top s t es old all e fork block =
    one.lsn_after top (effects_on fork block es) (block_of s fork block) (block_of t fork block) (old fork block) (ends_by top fork block es all) (entries_view edited s t es e fork block)

pub nothing : (fork : ForkId) (block : ℕ) → block_of empty fork block ≡ None
nothing fork block = ap (λ (o : Option ForkPages). o >>= λ pages. slice_get pages block) (get-empty fork_cmp fork)

-- an empty store has no page that is newer
pub none_newer : (top : ℕ) (fork : ForkId) (block : ℕ) → block_lsn (block_of empty fork block) ≤ top
none_newer top fork block = subst (λ o. block_lsn o ≤ top) (sym (nothing fork block)) (omega arith)

-- from one store, with pages that are no newer
pub same_start : (s : Store) (last : ℕ) (es : List Entry) → ((fork : ForkId) (block : ℕ) → block_lsn (block_of s fork block) ≤ last) → IsOrderly last es → entries_by redone s es ≡ entries_by edited s es
same_start s last es old orderly = same_by_blocks redone edited s s es (λ fork block. agreed last (effects_on fork block es) (block_of s fork block) (old fork block) (rises last es fork block orderly)) (λ fork. refl)

-- what was read at a place of the history
read_at : (before : List Entry) (e : Entry) (later : List Entry) → AreRead (before ++ (e ∷ later)) → is_of_run e ≡ false
read_at [] e later r = (or_parts (is_of_run e) (list_any is_of_run later) r).0
read_at (x ∷ before) e later r = read_at before e later (or_parts (is_of_run x) (list_any is_of_run (before ++ (e ∷ later))) r).1

-- a copy that is sound is completed by the entries of its window
sound_completed : (copy : Store) (history : List Entry) (from to : ℕ) → AreRead history → (sound : IsSoundCopy copy history from to) → IsCompleted copy sound.base (window history from to)
sound_completed copy history from to read sound = record {
  blocks = sound.blocks;
  forks = sound.forks;
  deltas = λ fork block front e back is p.
      let f = found_in (is_in from to) history front e back is in
      ap (λ (l : List Entry). list_any (resets fork block) l) (sym f.kept)
      ∙ sound.deltas fork block f.before e f.later f.split f.passes (p, ap (λ b. not b || nat_lt (redo_point f.before) (lsn_after f.before fork block)) (read_at f.before e f.later (subst AreRead f.split read)));
}

pub replay_completes : ReplayCompletesCopies
replay_completes copy history from to place orderly read sound far =
    let start = boundary_start from 0 history orderly sound.starts in
    let end = boundary_end to 0 history orderly sound.ends in
    let above = sound.above in
    let bound = λ (e : Entry). nat_le e.end place in
    let within = is_replayed from place in
    let before = entries_before history from in
    let mid = window history from to in
    let rest = filter (λ e. nat_le to e.start && within e) history in
    let defined : entries_by edited empty before ≡ Some sound.base = view empty sound.base before sound.defined in
    let first : filter bound history ≡ before ++ filter within history = cut_at from bound 0 history orderly ∙ ap (λ (l : List Entry). l ++ filter within history) (before_boundary from place history start (omega arith)) in
    let next : filter within history ≡ mid ++ rest = cut_at to within 0 history orderly ∙ ap (λ (l : List Entry). l ++ rest) (window_boundary from to place history end far) in
    let old : (fork : ForkId) (block : ℕ) → block_lsn (block_of sound.base fork block) ≤ from =
    no_newer from empty sound.base before (none_newer from) (all_end_by (λ e. nat_lt e.start from) from history (λ e k. ltb-true e.start from k) start) defined in
    let rising_mid : IsOrderly from mid = rising_from (is_in from to) from 0 history (λ e k. leb-true from e.start (and_parts (nat_le from e.start) (nat_lt e.start to) k).0) orderly in
    let rising_rest : IsOrderly to rest = rising_from (λ e. nat_le to e.start && within e) to 0 history (λ e k. leb-true to e.start (and_parts (nat_le to e.start) (within e) k).0) orderly in
    let done : entries_by redone copy mid ≡ entries_by edited sound.base mid = window_law copy sound.base from mid old rising_mid (sound_completed copy history from to read sound) in
    ap (entries_by redone copy) next ∙ in_two redone copy mid rest ∙ ap (λ (m : Option Store). m >>= λ t. entries_by redone t rest) done
    ∙ elim (entries_by edited sound.base mid) as (λ m. entries_by edited sound.base mid ≡ m → (m >>= λ t. entries_by redone t rest) ≡ (m >>= λ t. entries_by edited t rest)) [
      | None ↦ λ e. refl
      | Some t ↦ λ e. same_start t to rest
          (no_newer to sound.base t mid (λ fork block. let k = old fork block in omega arith) (all_end_by (is_in from to) to history (λ d k. ltb-true d.start to (and_parts (nat_le from d.start) (nat_lt d.start to) k).1) end) e)
          rising_rest
    ] refl
    ∙ sym (in_two edited sound.base mid rest) ∙ ap (entries_by edited sound.base) (sym next) ∙ ap (λ (m : Option Store). m >>= λ t. entries_by edited t (filter within history)) (sym defined)
    ∙ sym (in_two edited empty before (filter within history)) ∙ ap (entries_by edited empty) (sym first) ∙ sym (applied empty (filter bound history))
