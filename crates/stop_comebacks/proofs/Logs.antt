-- A window of a history's entries is that of the records which they are read back from.
use Rattle.std.proofs.Common.{◌≡◌, ℕ, ◌≤◌, Bool, true, false, cond, ◌||◌, List, [], ◌∷◌, ◌++◌, map, Option, Some, unwrap_or, refl, sym, ap, subst, ◌∙◌, arith}
use Rattle.std.specs.Prelude.{nat_lt, nat_le}
use Rattle.std.specs.List.{All, list_any, filter}
use Rattle.std.proofs.lemmas.Bool.{le-ltb, le-leb, ltb-false}
use Rattle.std.proofs.lemmas.List.Elements.{All-nil, All-cons}
use Rattle.lsn_core.specs.byte_words.Numbers.{◌>>=◌}
use Rattle.lsn_core.specs.declared.ids.ForkId.{ForkId}
use Rattle.lsn_core.specs.Store.{Store}
use Rattle.wal_record.specs.declared.record.Record.{Record}
use Rattle.history.specs.Entry.{Act, Create, Truncate, Change, Drop, Mark, Entry}
use Rattle.history.specs.Apply.{apply, apply_all}
use Rattle.history.specs.Whole.{entry_of}
use Rattle.history.specs.Written.{Before, behind, behind_all, is_redo, next_record, written}
use Rattle.history.specs.Laws.{AreWrittenInPlace}
use Rattle.history.specs.fuzzy_copies.Touches.{resets, settles}
use Rattle.history.specs.fuzzy_copies.Orderly.{IsOrderly}
use Rattle.history.specs.fuzzy_copies.Sound.{entries_before}
use Rattle.history.specs.fuzzy_copies.Taken.{since}
use Rattle.history.specs.fuzzy_copies.Logged.{history_of, found_before, log_of, StartInPlace}
use Rattle.history.proofs.Pushes.{all_first, all_rest}
use Rattle.history.proofs.Stores.{by_test}
use Rattle.history.proofs.WrittenLaws.{written_is_applied}
use Rattle.history.proofs.fuzzy_copies.View.{middle}
use Rattle.history.proofs.fuzzy_copies.Replay.{applied_in_two}
use Rattle.history.proofs.fuzzy_copies.Logged.{said_act, act_back, act_resets, act_settles_same}
use Rattle.history.proofs.fuzzy_copies.ReadBack.{log_is_written}

-- ---- entry by entry

-- two entries at one place change and settle the same, and both are the start of a checkpoint or neither
pub record IsAlike (e l : Entry) : Type 0 where
  pub start : l.start ≡ e.start
  pub end : l.end ≡ e.end
  pub same : (fork : ForkId) (block : ℕ) → resets fork block l ≡ resets fork block e
  pub made : (fork : ForkId) → settles fork l ≡ settles fork e
  pub redo : is_redo l.act ≡ is_redo e.act

abbrev pub AreAlike : List Entry → List Record → Type 0
AreAlike [] [] = Unit {0}
AreAlike [] (r ∷ rs) = ⊥
AreAlike (e ∷ es) [] = ⊥
AreAlike (e ∷ es) (r ∷ rs) = IsAlike e (entry_of r) × AreAlike es rs

itself : (rs : List Record) (es : List Entry) (more : List Record) → AreAlike es more → AreAlike (map entry_of rs ++ es) (rs ++ more)
itself [] es more a = a
itself (r ∷ rs) es more a = (record { start = refl; end = refl; same = λ fork block. refl; made = λ fork. refl; redo = refl }, itself rs es more a)

said_redo : (store : Store) (redo : ℕ) (act : Act) → is_redo (said_act store redo act) ≡ is_redo act
said_redo store redo (Create made) = refl
said_redo store redo (Truncate rel count) = refl
said_redo store redo (Change items) = refl
said_redo store redo (Drop []) = refl
said_redo store redo (Drop (rel ∷ rels)) = refl
said_redo store redo (Mark marking) = refl

pub own_alike : (mib : ℕ) (b : Before) (own : List Entry) → StartInPlace mib b own → AreWrittenInPlace mib b own → AreAlike own (written mib b own)
own_alike mib b [] starts placed = tt
own_alike mib b (e ∷ es) starts placed =
    let r : Record = next_record mib b e.act in
    let more : List Record = written mib (behind b e) es in
    let fresh = placed.1.1.1.0.0 in
    subst (λ c. AreAlike (e ∷ es) (cond c (r ∷ more) more)) (sym placed.0) (
      record {
        start = sym starts.0;
        end = sym placed.1.0;
        same = λ fork block. act_resets b.store b.tip.redo fork block e.act fresh;
        made = λ fork. act_settles_same b.store b.tip.redo fork e.act fresh;
        redo = ap is_redo (act_back b.store b.tip.redo e.act fresh) ∙ said_redo b.store b.tip.redo e.act;
      },
      own_alike mib (behind b e) es starts.1 placed.1.1.1.1,
    )

pub logs_alike : (mib : ℕ) (found : List Record) (own : List Entry) → StartInPlace mib (found_before mib found) own → AreWrittenInPlace mib (found_before mib found) own → AreAlike (history_of found own) (log_of mib found own)
logs_alike mib found own starts placed =
    subst (AreAlike (history_of found own)) (sym (log_is_written mib found own))
    (itself found own (written mib (found_before mib found) own) (own_alike mib (found_before mib found) own starts placed))

-- ---- in two parts

pub record Parted (known later : List Entry) (rs : List Record) : Type 0 where
  pub front : List Record
  pub rest : List Record
  pub parts : rs ≡ front ++ rest
  pub known_alike : AreAlike known front
  pub later_alike : AreAlike later rest

pub parted : (known later : List Entry) (rs : List Record) → AreAlike (known ++ later) rs → Parted known later rs
parted [] later rs a = record { front = []; rest = rs; parts = refl; known_alike = tt; later_alike = a }
parted (e ∷ known) later [] a = absurd a
parted (e ∷ known) later (r ∷ rs) a =
    let more = parted known later rs a.1 in
    record {
      front = r ∷ more.front;
      rest = more.rest;
      parts = ap (λ (l : List Record). r ∷ l) more.parts;
      known_alike = (a.0, more.known_alike);
      later_alike = more.later_alike;
    }

-- ---- what alike entries have in common

pub none_before : (place : ℕ) (es : List Entry) (rs : List Record) → AreAlike es rs → entries_before es place ≡ [] → entries_before (map entry_of rs) place ≡ []
none_before place [] [] a none = refl
none_before place [] (r ∷ rs) a none = absurd a
none_before place (e ∷ es) [] a none = absurd a
none_before place (e ∷ es) (r ∷ rs) a none =
    let early = entries_before es place in
    by_test (nat_lt e.start place)
    (λ below. absurd (never early (sym (ap (λ (b : Bool). cond b (e ∷ early) early) below) ∙ none)))
    (λ past.
    let rest : early ≡ [] = sym (ap (λ (b : Bool). cond b (e ∷ early) early) past) ∙ none in
    let same : nat_lt r.start.0 place ≡ false = ap (λ (n : ℕ). nat_lt n place) a.0.start ∙ past in
    ap (λ (b : Bool). cond b (entry_of r ∷ entries_before (map entry_of rs) place) (entries_before (map entry_of rs) place)) same ∙ none_before place es rs a.1 rest)
  where
    never : (l : List Entry) → e ∷ l ≡ [] → ⊥
    never l k = cc

pub ends_by : (flushed : ℕ) (es : List Entry) (rs : List Record) → AreAlike es rs → All (λ e. e.end ≤ flushed) es → All (λ r. r.end.0 ≤ flushed) rs
ends_by flushed [] [] a all = All-nil (λ (r : Record). r.end.0 ≤ flushed)
ends_by flushed [] (r ∷ rs) a all = absurd a
ends_by flushed (e ∷ es) [] a all = absurd a
ends_by flushed (e ∷ es) (r ∷ rs) a all =
    let first = all_first (λ (x : Entry). x.end ≤ flushed) e es all in
    let same = a.0.end in
    All-cons (λ (x : Record). x.end.0 ≤ flushed) r rs (omega (arith, first, same)) (ends_by flushed es rs a.1 (all_rest (λ (x : Entry). x.end ≤ flushed) e es all))

abbrev Tells : (Entry → Bool) → Type 0
Tells t = (e l : Entry) → IsAlike e l → t l ≡ t e

any_since : (t : Entry → Bool) → Tells t → (from : ℕ) (es : List Entry) (rs : List Record) → AreAlike es rs → list_any t (since from (map entry_of rs)) ≡ list_any t (since from es)
any_since t tells from [] [] a = refl
any_since t tells from [] (r ∷ rs) a = absurd a
any_since t tells from (e ∷ es) [] a = absurd a
any_since t tells from (e ∷ es) (r ∷ rs) a =
    let later = any_since t tells from es rs a.1 in
    let here = tells e (entry_of r) a.0 in
    ap (λ (n : ℕ). list_any t (cond (nat_le from n) (entry_of r ∷ since from (map entry_of rs)) (since from (map entry_of rs)))) a.0.start
    ∙ elim (nat_le from e.start) as (λ b. list_any t (cond b (entry_of r ∷ since from (map entry_of rs)) (since from (map entry_of rs))) ≡ list_any t (cond b (e ∷ since from es) (since from es))) [
      | true ↦ ap (λ (b : Bool). b || list_any t (since from (map entry_of rs))) here ∙ ap (λ (b : Bool). t e || b) later
      | false ↦ later
    ]

pub resets_since : (fork : ForkId) (block from : ℕ) (es : List Entry) (rs : List Record) → AreAlike es rs → list_any (resets fork block) (since from (map entry_of rs)) ≡ list_any (resets fork block) (since from es)
resets_since fork block from es rs a = any_since (resets fork block) (λ e l k. k.same fork block) from es rs a

pub settles_since : (fork : ForkId) (from : ℕ) (es : List Entry) (rs : List Record) → AreAlike es rs → list_any (settles fork) (since from (map entry_of rs)) ≡ list_any (settles fork) (since from es)
settles_since fork from es rs a = any_since (settles fork) (λ e l k. k.made fork) from es rs a

-- ---- the store at a place

pub late_none : (place last : ℕ) (es : List Entry) → IsOrderly last es → place ≤ last → entries_before es place ≡ []
late_none place last [] h le = refl
late_none place last (e ∷ es) h le =
    let start = h.0 in
    let long = h.1 in
    ap (λ (b : Bool). cond b (e ∷ entries_before es place) (entries_before es place)) (le-ltb e.start place (omega (arith, start, le))) ∙ late_none place e.end es h.3 (omega (arith, start, long, le))

behind_store : (b : Before) (e : Entry) (next : Store) → apply b.store e ≡ Some next → (behind b e).store ≡ next
behind_store b e next step = ap (λ (o : Option Store). unwrap_or o b.store) step

-- an own entry does what its record says
one_said : (mib : ℕ) (b : Before) (e : Entry) (es : List Entry) (next : Store) → AreWrittenInPlace mib b (e ∷ es) → apply b.store e ≡ Some next → apply_all b.store (entry_of (next_record mib b e.act) ∷ []) ≡ Some next
one_said mib b e es next placed step =
    let r : Record = next_record mib b e.act in
    let one : apply_all b.store (e ∷ []) ≡ Some next = ap (λ (o : Option Store). o >>= λ s. Some s) step in
    let whole = written_is_applied mib b (e ∷ []) next one (placed.0, (placed.1.0, (placed.1.1.0, (placed.1.1.1.0, tt)))) e.end in
    let ends : nat_le e.end e.end ≡ true = le-leb e.end e.end (omega arith) in
    let same : nat_le r.end.0 e.end ≡ true = ap (λ (n : ℕ). nat_le n e.end) (sym placed.1.0) ∙ ends in
    sym (ap (λ (c : Bool). apply_all b.store (map entry_of (filter (λ (x : Record). nat_le x.end.0 e.end) (cond c (r ∷ []) [])))) placed.0
    ∙ ap (λ (c : Bool). apply_all b.store (map entry_of (cond c (r ∷ []) []))) same)
    ∙ whole ∙ ap (λ (c : Bool). apply_all b.store (cond c (e ∷ []) [])) ends ∙ one

pub own_before : (mib place last : ℕ) (b : Before) (own : List Entry) (now : Store) → IsOrderly last own → StartInPlace mib b own → AreWrittenInPlace mib b own → apply_all b.store own ≡ Some now
    → apply_all b.store (entries_before (map entry_of (written mib b own)) place) ≡ apply_all b.store (entries_before own place)
own_before mib place last b [] now h starts placed made = refl
own_before mib place last b (e ∷ es) now h starts placed made =
    let r : Record = next_record mib b e.act in
    let more : List Record = written mib (behind b e) es in
    let early = entries_before es place in
    let early_more = entries_before (map entry_of more) place in
    ap (λ (c : Bool). apply_all b.store (entries_before (map entry_of (cond c (r ∷ more) more)) place)) placed.0
    ∙ ap (λ (n : ℕ). apply_all b.store (cond (nat_lt n place) (entry_of r ∷ early_more) early_more)) (sym starts.0)
    ∙ by_test (nat_lt e.start place)
    (λ below.
    ap (λ (c : Bool). apply_all b.store (cond c (entry_of r ∷ early_more) early_more)) below
    ∙ middle (apply b.store e) (λ s. apply_all s es) now made (λ next step rest.
    let same : (behind b e).store ≡ next = behind_store b e next step in
    let later = own_before mib place e.end (behind b e) es now h.3 starts.1 placed.1.1.1.1 (subst (λ (s : Store). apply_all s es ≡ Some now) (sym same) rest) in
    applied_in_two b.store (entry_of r ∷ []) early_more ∙ ap (λ (o : Option Store). o >>= λ s. apply_all s early_more) (one_said mib b e es next placed step)
    ∙ subst (λ (s : Store). apply_all s early_more ≡ apply_all s early) same later
    ∙ sym (ap (λ (o : Option Store). o >>= λ s. apply_all s early) step))
    ∙ sym (ap (λ (c : Bool). apply_all b.store (cond c (e ∷ early) early)) below))
    (λ past.
    let long = h.1 in
    let from_here = ltb-false e.start place past in
    let none : early ≡ [] = late_none place e.end es h.3 (omega (arith, long, from_here)) in
    ap (λ (c : Bool). apply_all b.store (cond c (entry_of r ∷ early_more) early_more)) past
    ∙ ap (apply_all b.store) (none_before place es more (own_alike mib (behind b e) es starts.1 placed.1.1.1.1) none ∙ sym none)
    ∙ sym (ap (λ (c : Bool). apply_all b.store (cond c (e ∷ early) early)) past))

pub found_store : (b : Before) (es : List Entry) (last : Store) → apply_all b.store es ≡ Some last → (behind_all b es).store ≡ last
found_store b [] last made = cc
found_store b (e ∷ es) last made =
    middle (apply b.store e) (λ s. apply_all s es) last made (λ next step rest.
    found_store (behind b e) es last (subst (λ (s : Store). apply_all s es ≡ Some last) (sym (behind_store b e next step)) rest))
