-- A log is summed up as its history is.
use Rattle.std.proofs.Common.{◌≡◌, ℕ, cond, true, false, ◌&&◌, ◌||◌, not, List, [], ◌∷◌, ◌++◌, map, Option, refl, sym, ap, subst, ◌∙◌}
use Rattle.std.proofs.lemmas.List.{map-append}
use Rattle.std.specs.Prelude.{nat_lt, nat_le}
use Rattle.std.specs.List.{list_any}
use Rattle.lsn_core.specs.declared.ids.ForkId.{ForkId}
use Rattle.wal_record.specs.declared.record.Record.{Record}
use Rattle.history.specs.Entry.{Entry}
use Rattle.history.specs.Whole.{entry_of}
use Rattle.history.specs.Written.{Before, behind, next_record, written}
use Rattle.history.specs.Laws.{AreWrittenInPlace}
use Rattle.history.specs.fuzzy_copies.Touches.{limit_of, touches}
use Rattle.history.specs.fuzzy_copies.Sound.{is_in, window}
use Rattle.history.specs.fuzzy_copies.Logged.{history_of, found_before, log_of, StartInPlace}
use Rattle.history.specs.fuzzy_copies.Summary.{table_of, least, is_at_most, limits, limit_in, is_listed}
use Rattle.history.specs.fuzzy_copies.CoverLaws.{LogsAreSummedAlike}
use Rattle.history.proofs.fuzzy_copies.Logged.{act_touches_same, act_limit_same}
use Rattle.history.proofs.fuzzy_copies.ReadBack.{log_is_written}
use Rattle.history.proofs.fuzzy_copies.Summaries.{any_limits}

-- two entries at one place touch the same blocks and set the same limits
record IsSummedAlike (e l : Entry) : Type 0 where
  start : l.start ≡ e.start
  touched : (fork : ForkId) (block : ℕ) → touches fork block l ≡ touches fork block e
  limit : (fork : ForkId) → limit_of fork l.act ≡ limit_of fork e.act

abbrev AreSummedAlike : List Entry → List Entry → Type 0
AreSummedAlike [] [] = Unit
AreSummedAlike [] (l ∷ ls) = ⊥
AreSummedAlike (e ∷ es) [] = ⊥
AreSummedAlike (e ∷ es) (l ∷ ls) = IsSummedAlike e l × AreSummedAlike es ls

in_window : (first last : ℕ) (es ls : List Entry) → AreSummedAlike es ls → AreSummedAlike (window es first last) (window ls first last)
in_window first last [] [] r = tt
in_window first last [] (l ∷ ls) r = absurd r
in_window first last (e ∷ es) [] r = absurd r
in_window first last (e ∷ es) (l ∷ ls) r =
    let rest = in_window first last es ls r.1 in
    let us = window es first last in
    let vs = window ls first last in
    let same : is_in first last e ≡ is_in first last l = sym (ap (λ n. nat_le first n && nat_lt n last) r.0.start) in
    subst (λ b. AreSummedAlike (cond (is_in first last e) (e ∷ us) us) (cond b (l ∷ vs) vs)) same
    (elim (is_in first last e) as (λ b. AreSummedAlike (cond b (e ∷ us) us) (cond b (l ∷ vs) vs)) [ true ↦ (r.0, rest) | false ↦ rest ])

limit_alike : (fork : ForkId) (es ls : List Entry) → AreSummedAlike es ls → limit_in fork (map table_of ls) ≡ limit_in fork (map table_of es)
limit_alike fork [] [] r = refl
limit_alike fork [] (l ∷ ls) r = absurd r
limit_alike fork (e ∷ es) [] r = absurd r
limit_alike fork (e ∷ es) (l ∷ ls) r =
    ap (λ (o : Option ℕ). least o (limit_in fork (map table_of ls))) (r.0.limit fork) ∙ ap (least (limit_of fork e.act)) (limit_alike fork es ls r.1)

limits_alike : (fork : ForkId) (block : ℕ) (es ls : List Entry) → AreSummedAlike es ls → list_any (limits fork block) (map table_of ls) ≡ list_any (limits fork block) (map table_of es)
limits_alike fork block es ls r = any_limits fork block (map table_of ls) ∙ ap (is_at_most block) (limit_alike fork es ls r) ∙ sym (any_limits fork block (map table_of es))

listed_alike : (fork : ForkId) (block : ℕ) (es ls : List Entry) → AreSummedAlike es ls → is_listed fork block (map table_of ls) ≡ is_listed fork block (map table_of es)
listed_alike fork block [] [] r = refl
listed_alike fork block [] (l ∷ ls) r = absurd r
listed_alike fork block (e ∷ es) [] r = absurd r
listed_alike fork block (e ∷ es) (l ∷ ls) r =
    ap (λ b. (b && not (list_any (limits fork block) (map table_of ls))) || is_listed fork block (map table_of ls)) (r.0.touched fork block)
    ∙ ap (λ b. (touches fork block e && not b) || is_listed fork block (map table_of ls)) (limits_alike fork block es ls r.1)
    ∙ ap (λ b. (touches fork block e && not (list_any (limits fork block) (map table_of es))) || b) (listed_alike fork block es ls r.1)

own_alike : (mib : ℕ) (b : Before) (own : List Entry) → StartInPlace mib b own → AreWrittenInPlace mib b own → AreSummedAlike own (map entry_of (written mib b own))
own_alike mib b [] starts placed = tt
own_alike mib b (e ∷ es) starts placed =
    let r : Record = next_record mib b e.act in
    let more : List Record = written mib (behind b e) es in
    subst (λ c. AreSummedAlike (e ∷ es) (map entry_of (cond c (r ∷ more) more))) (sym placed.0) (
      record {
        start = sym starts.0;
        touched = λ fork block. act_touches_same b.store b.tip.redo fork block e.act placed.1.1.1.0.0;
        limit = λ fork. act_limit_same b.store b.tip.redo fork e.act placed.1.1.1.0.0;
      },
      own_alike mib (behind b e) es starts.1 placed.1.1.1.1,
    )

found_alike : (found : List Record) (own ls : List Entry) → AreSummedAlike own ls → AreSummedAlike (map entry_of found ++ own) (map entry_of found ++ ls)
found_alike [] own ls r = r
found_alike (x ∷ found) own ls r = (record { start = refl; touched = λ fork block. refl; limit = λ fork. refl }, found_alike found own ls r)

pub summed_alike : LogsAreSummedAlike
summed_alike mib found own first last logged =
    let b = found_before mib found in
    let es = history_of found own in
    let ls = map entry_of (log_of mib found own) in
    let all : AreSummedAlike es ls = subst (AreSummedAlike es) (sym (ap (map entry_of) (log_is_written mib found own) ∙ map-append entry_of found (written mib b own))) (found_alike found own (map entry_of (written mib b own)) (own_alike mib b own logged.starts logged.written)) in
    let some : AreSummedAlike (window es first last) (window ls first last) = in_window first last es ls all in
    record {
      limit = λ fork. limit_alike fork (window es first last) (window ls first last) some;
      listed = λ fork block. listed_alike fork block (window es first last) (window ls first last) some;
    }
