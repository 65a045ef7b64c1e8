-- The areas of backups and of summaries, each noted once.
use Rattle.std.proofs.Common.{◌≡◌, ◌≢◌, ℕ, ◌≤◌, ◌⊎◌, Bool, true, false, not, List, [], ◌∷◌, ◌++◌, length, length-append, get_or, true≢false, refl, sym, ap, subst, ◌∙◌, arith, inl, inr}
use Rattle.std.specs.Prelude.{bytes_eq, nat_eq, ◌||◌}
use Rattle.std.proofs.lemmas.Bool.{eq-eqb}
use Rattle.std.specs.List.{list_any}
use Rattle.std.proofs.lemmas.List.{append-nil, append_assoc}
use Rattle.std.proofs.lemmas.Grind.{flat_map-append}
use Rattle.std.proofs.lemmas.Slice.Eq.{bytes_eq-Decides}
use Rattle.vault.specs.Lending.{Names, IsOneOf, IsNoneOf, AreDistinct}
use Rattle.command_base.specs.Areas.{wal_name, data_name, sums_name, backup_name}
use Rattle.scripts.specs.declared.script.Command.{Command}
use Rattle.scripts.specs.declared.script.Command.TheVariants as command
use Rattle.scripts.specs.declared.script.Line.{Line}
use Rattle.scripts.specs.declared.script.Task.{Task}
use Rattle.crew.specs.Backups.{area_asked, areas_asked}
use Rattle.run_command.specs.Run.{store_asks, backups_asked}
use Rattle.run_command.specs.Inner.{AreEachOnce, AddsAsked, AreAsked}
use Rattle.run_command.proofs.ToldLess.{one_front, one_back}
use Rattle.run_command.proofs.StoreLent.{one_either}

-- ---- one more name

pub turned : (b : Bool) → not b ≡ true → b ≡ false
turned true e = absurd cc
turned false e = refl

or_true : (a b : Bool) → (a || b) ≡ true → (a ≡ true) ⊎ (b ≡ true)
or_true true b e = inl refl
or_true false b e = inr e

or_false : (a b : Bool) → (a || b) ≡ false → (a ≡ false) × (b ≡ false)
or_false true b e = absurd cc
or_false false b e = (refl, e)

among : (name : List ℕ) (names : Names) → list_any (bytes_eq name) names ≡ true → IsOneOf name names
among name [] e = absurd cc
among name (first ∷ names) e =
    elim (or_true (bytes_eq name first) (list_any (bytes_eq name) names) e) [
      | inl here ↦ inl ((bytes_eq-Decides name first).0 here)
      | inr later ↦ inr (among name names later)
    ]

not_among : (name : List ℕ) (names : Names) → list_any (bytes_eq name) names ≡ false → IsNoneOf name names
not_among name [] e = tt
not_among name (first ∷ names) e =
    let both = or_false (bytes_eq name first) (list_any (bytes_eq name) names) e in
    (λ is. absurd (let yes : bytes_eq name first ≡ true = (bytes_eq-Decides name first).1 is in cc (yes, both.0)), not_among name names both.1)

none_push : (n name : List ℕ) (names : Names) → IsNoneOf n names → n ≢ name → IsNoneOf n (names ++ name ∷ [])
none_push n name [] none other = (other, tt)
none_push n name (first ∷ names) none other = (none.0, none_push n name names none.1 other)

distinct_push : (name : List ℕ) (names : Names) → AreDistinct names → IsNoneOf name names → AreDistinct (names ++ name ∷ [])
distinct_push name [] distinct none = (tt, tt)
distinct_push name (first ∷ names) distinct none = (none_push first name names distinct.0 (λ is. none.0 (sym is)), distinct_push name names distinct.1 none.1)

-- ---- what a command asks for

pub asks_none : (names : Names) → AddsAsked [] names names
asks_none names = record { distinct = λ d. d; kept = λ n one. one; added = λ n one. absurd one; only = λ n one. inl one }

pub asks_noted : (name : List ℕ) (names : Names) → list_any (bytes_eq name) names ≡ true → AddsAsked (name ∷ []) names names
asks_noted name names e = record {
  distinct = λ d. d;
  kept = λ n one. one;
  added = λ n one. elim one [
    | inl is ↦ subst (λ (m : List ℕ). IsOneOf m names) (sym is) (among name names e)
    | inr none ↦ absurd none
  ];
  only = λ n one. inl one;
}

pub asks_more : (name : List ℕ) (names new : Names) → list_any (bytes_eq name) names ≡ false → new ≡ names ++ name ∷ [] → AddsAsked (name ∷ []) names new
asks_more name names new e is = subst (λ (ns : Names). AddsAsked (name ∷ []) names ns) (sym is) (record {
  distinct = λ d. distinct_push name names d (not_among name names e);
  kept = λ n one. one_front n names (name ∷ []) one;
  added = λ n one. one_back n names (name ∷ []) one;
  only = λ n one. one_either n names (name ∷ []) one;
})

-- what is asked for in turn
pub asks_both : (first second names mid new : Names) → AddsAsked first names mid → AddsAsked second mid new → AddsAsked (first ++ second) names new
asks_both first second names mid new a b = record {
  distinct = λ d. b.distinct (a.distinct d);
  kept = λ n one. b.kept n (a.kept n one);
  added = λ n one. elim (one_either n first second one) [
    | inl is ↦ b.kept n (a.added n is)
    | inr is ↦ b.added n is
  ];
  only = λ n one. elim (b.only n one) [
    | inl before ↦ elim (a.only n before) [
      | inl old ↦ inl old
      | inr is ↦ inr (one_front n first second is)
    ]
    | inr is ↦ inr (one_back n first second is)
  ];
}

-- ---- lines

pub noted_none : AreEachOnce [] []
noted_none = record { distinct = tt; all = λ n one. one; only = λ n one. one }

asked_push : (lines : List Line) (line : Line) → areas_asked (lines ++ line ∷ []) ≡ areas_asked lines ++ area_asked line.command
asked_push lines line = flat_map-append (λ (l : Line). area_asked l.command) lines (line ∷ []) ∙ ap (λ (ns : Names). areas_asked lines ++ ns) (append-nil (area_asked line.command))

pub noted_more : (lines more : List Line) (line : Line) (names new : Names) → more ≡ lines ++ line ∷ [] → AreEachOnce (areas_asked lines) names → AddsAsked (area_asked line.command) names new → AreEachOnce (areas_asked more) new
noted_more lines more line names new is each adds =
    let asked : areas_asked more ≡ areas_asked lines ++ area_asked line.command = ap areas_asked is ∙ asked_push lines line in
    subst (λ (ns : Names). AreEachOnce ns new) (sym asked) (record {
      distinct = adds.distinct each.distinct;
      all = λ n one. elim (one_either n (areas_asked lines) (area_asked line.command) one) [
        | inl old ↦ adds.kept n (each.all n old)
        | inr here ↦ adds.added n here
      ];
      only = λ n one. elim (adds.only n one) [
        | inl old ↦ one_front n (areas_asked lines) (area_asked line.command) (each.only n old)
        | inr here ↦ one_back n (areas_asked lines) (area_asked line.command) here
      ];
    })

-- ---- beside the areas of the store

-- names that differ at a place
apart_at : (k : ℕ) (a b : List ℕ) → nat_eq (get_or a k 0) (get_or b k 0) ≡ false → a ≢ b
apart_at k a b other = λ e. true≢false (sym (eq-eqb (get_or a k 0) (get_or b k 0) (ap (λ (xs : List ℕ). get_or xs k 0) e)) ∙ other)

-- that of summaries, and those of a store
abbrev rest_asks : Names
rest_asks = sums_name ∷ store_asks

no_store : (name : List ℕ) → IsNoneOf (backup_name name) rest_asks
no_store name = (apart_at 0 (backup_name name) sums_name refl, (apart_at 0 (backup_name name) wal_name refl, (apart_at 0 (backup_name name) (data_name 0) refl, (apart_at 0 (backup_name name) (data_name 1) refl, (apart_at 0 (backup_name name) (data_name 2) refl, (apart_at 0 (backup_name name) (data_name 3) refl, tt))))))

sums_apart : IsNoneOf sums_name store_asks
sums_apart = (apart_at 0 sums_name wal_name refl, (apart_at 0 sums_name (data_name 0) refl, (apart_at 0 sums_name (data_name 1) refl, (apart_at 0 sums_name (data_name 2) refl, (apart_at 0 sums_name (data_name 3) refl, tt)))))

none_asked : (command : Command) (n : List ℕ) → IsOneOf n (area_asked command) → IsNoneOf n rest_asks
none_asked (command.Insert order) n one = absurd one
none_asked (command.Grow at count shape) n one = absurd one
none_asked command.Checkpoint n one = absurd one
none_asked (command.Flush count) n one = absurd one
none_asked command.Summarise n one = absurd one
none_asked (command.Full name) n (inl is) = subst (λ (m : List ℕ). IsNoneOf m rest_asks) (sym is) (no_store name)
none_asked (command.Full name) n (inr none) = absurd none
none_asked (command.Incr name prior) n (inl is) = subst (λ (m : List ℕ). IsNoneOf m rest_asks) (sym is) (no_store name)
none_asked (command.Incr name prior) n (inr (inl is)) = subst (λ (m : List ℕ). IsNoneOf m rest_asks) (sym is) (no_store prior)
none_asked (command.Incr name prior) n (inr (inr none)) = absurd none

none_of_store : (lines : List Line) (n : List ℕ) → IsOneOf n (areas_asked lines) → IsNoneOf n rest_asks
none_of_store [] n one = absurd one
none_of_store (line ∷ lines) n one =
    elim (one_either n (area_asked line.command) (areas_asked lines) one) [
      | inl here ↦ none_asked line.command n here
      | inr later ↦ none_of_store lines n later
    ]

none_of_script : (script : List Task) (n : List ℕ) → IsOneOf n (backups_asked script) → IsNoneOf n rest_asks
none_of_script [] n one = absurd one
none_of_script (task ∷ script) n one =
    elim (one_either n (areas_asked task.lines) (backups_asked script) one) [
      | inl here ↦ none_of_store task.lines n here
      | inr later ↦ none_of_script script n later
    ]

none_both : (n : List ℕ) (front rest : Names) → IsNoneOf n front → IsNoneOf n rest → IsNoneOf n (front ++ rest)
none_both n [] rest first last = last
none_both n (name ∷ front) rest first last = (first.0, none_both n front rest first.1 last)

pub distinct_both : (front rest : Names) → AreDistinct front → AreDistinct rest → ((n : List ℕ) → IsOneOf n front → IsNoneOf n rest) → AreDistinct (front ++ rest)
distinct_both [] rest first last apart = last
distinct_both (name ∷ front) rest first last apart =
    (none_both name front rest first.0 (apart name (inl refl)), distinct_both front rest first.1 last (λ n one. apart n (inr one)))

store_distinct : AreDistinct store_asks
store_distinct = (
  (apart_at 0 wal_name (data_name 0) refl, (apart_at 0 wal_name (data_name 1) refl, (apart_at 0 wal_name (data_name 2) refl, (apart_at 0 wal_name (data_name 3) refl, tt)))),
  (
    (apart_at 4 (data_name 0) (data_name 1) refl, (apart_at 4 (data_name 0) (data_name 2) refl, (apart_at 4 (data_name 0) (data_name 3) refl, tt))),
    ((apart_at 4 (data_name 1) (data_name 2) refl, (apart_at 4 (data_name 1) (data_name 3) refl, tt)), ((apart_at 4 (data_name 2) (data_name 3) refl, tt), (tt, tt))),
  ),
)

rest_distinct : AreDistinct rest_asks
rest_distinct = (sums_apart, store_distinct)

-- the names as they are asked for, of backups, of summaries and of the store
asked_as : (script : List Task) (names : Names) (asked : AreAsked script names) → names ≡ asked.backups ++ rest_asks
asked_as script names asked = asked.names_are ∙ append_assoc asked.backups (sums_name ∷ []) store_asks

pub all_distinct : (script : List Task) (names : Names) → AreAsked script names → AreDistinct names
all_distinct script names asked =
    subst AreDistinct (sym (asked_as script names asked)) (distinct_both asked.backups rest_asks asked.each.distinct rest_distinct (λ n one. none_of_script script n (asked.each.only n one)))

pub six_at_least : (script : List Task) (names : Names) → AreAsked script names → 6 ≤ length names
six_at_least script names asked = omega (arith, ap (λ (ns : Names). length ns) (asked_as script names asked), length-append asked.backups rest_asks)
