-- The backup that is found for a place is the newest one.
use Rattle.std.proofs.Common.{◌≡◌, ◌≤◌, ◌⊎◌, sym, subst, ℕ, Bool, true, false, not, ◌&&◌, nat_le, List, [], ◌∷◌, Option, Some, None, refl, arith, if◌then◌else◌, inl, inr}
use Rattle.backup_label.proofs.LineTexts.{never_some}
use Rattle.chain_listing.specs.Chains.{ends_by, reaches, newer, newest_in}
use Rattle.chain_listing.specs.Laws.{IsAmong, FoundReaches, FoundIsNewest}
use Rattle.chain_listing.specs.declared.backup.Backup.{Backup}

false_true : false ≡ true → ⊥
false_true e = cc

one_some : (x y : Backup) → Some x ≡ Some y → x ≡ y
one_some x y e = cc

is_at_most : (m n : ℕ) → nat_le m n ≡ true → m ≤ n
is_at_most m n e = grind (arith, e)

is_above : (m n : ℕ) → nat_le m n ≡ false → n ≤ m
is_above m n e = grind (arith, e)

-- ---- what is found was found before, or ends a chain so

abbrev Came : List Backup → ℕ → Option Backup → List Backup → Backup → Type 0
Came all upto found left last = (found ≡ Some last) ⊎ (IsAmong last left × (reaches all upto last ≡ true))

came_here : (all : List Backup) (upto : ℕ) (found : Option Backup) (b : Backup) (left : List Backup) (last : Backup) (before does : Bool)
    → reaches all upto b ≡ does → (if not before && does then Some b else found) ≡ Some last → Came all upto found (b ∷ left) last
came_here all upto found b left last true does r is = inl is
came_here all upto found b left last false false r is = inl is
came_here all upto found b left last false true r is =
    let same : b ≡ last = one_some b last is in
    inr (inl (sym same), subst (λ (x : Backup). reaches all upto x ≡ true) same r)

came_on : (all : List Backup) (upto : ℕ) (found : Option Backup) (b : Backup) (left : List Backup) (last : Backup)
    → Came all upto (newer all upto found b) left last → Came all upto found (b ∷ left) last
came_on all upto found b left last (inl is) = came_here all upto found b left last (ends_by found b) (reaches all upto b) refl is
came_on all upto found b left last (inr later) = inr (inr later.0, later.1)

came : (all : List Backup) (upto : ℕ) (found : Option Backup) (left : List Backup) (last : Backup)
    → newest_in all upto found left ≡ Some last → Came all upto found left last
came all upto found [] last e = inl e
came all upto found (b ∷ left) last e = came_on all upto found b left last (came all upto (newer all upto found b) left last e)

from_none : (all : List Backup) (upto : ℕ) (left : List Backup) (last : Backup) → Came all upto None left last → IsAmong last left × (reaches all upto last ≡ true)
from_none all upto left last (inl is) = absurd (never_some last is)
from_none all upto left last (inr is) = is

pub found_reaches : FoundReaches
found_reaches all upto last e = from_none all upto all last (came all upto None all last e)

-- ---- none that ends a chain so has a greater end

-- one is found whose end is no smaller
abbrev Reached : List Backup → ℕ → Option Backup → List Backup → ℕ → Type 0
Reached all upto found left end =
    (last : Backup) × (newest_in all upto found left ≡ Some last) × (end ≤ last.end.0)

above : (all : List Backup) (upto : ℕ) (found : Option Backup) (left : List Backup) (low high : ℕ) → low ≤ high → Reached all upto found left high → Reached all upto found left low
above all upto found left low high le (last, is, end) = (last, is, omega (arith, le, end))

kept_by : (all : List Backup) (upto : ℕ) (left : List Backup) (b g : Backup) (before does : Bool) → nat_le b.end.0 g.end.0 ≡ before
    → Reached all upto (Some g) left g.end.0 → Reached all upto (Some b) left b.end.0
    → Reached all upto (if not before && does then Some b else Some g) left g.end.0
kept_by all upto left b g true does le mine other = mine
kept_by all upto left b g false false le mine other = mine
kept_by all upto left b g false true le mine other = above all upto (Some b) left g.end.0 b.end.0 (is_above b.end.0 g.end.0 le) other

kept : (all : List Backup) (upto : ℕ) (g : Backup) (left : List Backup) → Reached all upto (Some g) left g.end.0
kept all upto g [] = (g, refl, omega arith)
kept all upto g (b ∷ left) = kept_by all upto left b g (nat_le b.end.0 g.end.0) (reaches all upto b) refl (kept all upto g left) (kept all upto b left)

old_of : (all : List Backup) (upto : ℕ) (left : List Backup) (found : Option Backup) (b : Backup) → ends_by found b ≡ true → Reached all upto found left b.end.0
old_of all upto left None b e = absurd (false_true e)
old_of all upto left (Some g) b e = above all upto (Some g) left b.end.0 g.end.0 (is_at_most b.end.0 g.end.0 e) (kept all upto g left)

here_by : (all : List Backup) (upto : ℕ) (left : List Backup) (found : Option Backup) (b : Backup) (before does : Bool) → ends_by found b ≡ before → does ≡ true
    → Reached all upto (if not before && does then Some b else found) left b.end.0
here_by all upto left found b true does e r = old_of all upto left found b e
here_by all upto left found b false true e r = kept all upto b left
here_by all upto left found b false false e r = absurd (false_true r)

newest_of : (all : List Backup) (upto : ℕ) (found : Option Backup) (left : List Backup) (other : Backup)
    → IsAmong other left → reaches all upto other ≡ true → Reached all upto found left other.end.0
newest_of all upto found [] other among does = absurd among
newest_of all upto found (b ∷ left) other (inr later) does = newest_of all upto (newer all upto found b) left other later does
newest_of all upto found (b ∷ left) other (inl same) does =
    subst (λ (x : Backup). Reached all upto (newer all upto found b) left x.end.0) (sym same)
    (here_by all upto left found b (ends_by found b) (reaches all upto b) refl (subst (λ (x : Backup). reaches all upto x ≡ true) same does))

pub found_newest : FoundIsNewest
found_newest all upto other among does = newest_of all upto None all other among does
