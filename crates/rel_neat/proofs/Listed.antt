-- The segment files of forks among the names of an area.
use Rattle.std.proofs.Common.{◌≡◌, ℕ, ◌+◌, ◌<◌, ◌≤◌, inl, inr, false, List, [], ◌∷◌, ◌++◌, length, get_or, take, Option, Some, None, IfSome, sym, ap, subst, ◌∙◌}
use Rattle.std.specs.List.{All, Contains}
use Rattle.std.specs.List.Sorted.{IsNonDecreasingBy, IsPermutation}
use Rattle.std.specs.FinMap.{keys}
use Rattle.std.proofs.lemmas.List.{take_more, take_all}
use Rattle.std.proofs.lemmas.List.Elements.{Contains-push, Contains-append_left}
use Rattle.std.proofs.lemmas.List.Sorted.{Contains-permutation}
use Rattle.lsn_core.specs.Files.{Files}
use Rattle.lsn_core.specs.Names.{IsNamed}
use Rattle.lsn_core.specs.declared.ids.ForkId.{ForkId}
use Rattle.lsn_core.proofs.ForkPaths.{one_place}
use Rattle.rel_neat.specs.Segments.{TellsSegment, IsSegmentNamed, ListsSegments}
use Rattle.rel_neat.proofs.Names.{IsOne, is_key, last_or}
use Rattle.rel_neat.proofs.Neatened.{path}

-- those among some names are listed
abbrev pub Lists : List (List ℕ) → List (ForkId × ℕ) → Type 0
Lists names found = (fork : ForkId) (seg : ℕ) → IsNamed fork seg → IsOne (path fork seg) names → Contains found (fork, seg)

lists_more : (names : List (List ℕ)) (i : ℕ) (name : List ℕ) (found now : List (ForkId × ℕ)) → i < length names → name ≡ get_or names i name → Lists (take i names) found
    → ((x : ForkId × ℕ) → Contains found x → Contains now x) → ((fork : ForkId) (seg : ℕ) → IsNamed fork seg → path fork seg ≡ name → Contains now (fork, seg)) → Lists (take (i + 1) names) now
lists_more names i name found now less is lists kept last fork seg named one =
    elim (last_or (path fork seg) name (take i names) (subst (IsOne (path fork seg)) (take_more names i name less ∙ ap (λ (n : List ℕ). take i names ++ (n ∷ [])) (sym is)) one)) [
      | inl same ↦ last fork seg named same
      | inr earlier ↦ kept (fork, seg) (lists fork seg named earlier)
    ]

-- a name more, which is that of a segment file or isn't
pub lists_pushed : (names : List (List ℕ)) (i : ℕ) (name : List ℕ) (found : List (ForkId × ℕ)) (x : ForkId × ℕ) → i < length names → name ≡ get_or names i name → TellsSegment name (Some x) → Lists (take i names) found → Lists (take (i + 1) names) (found ++ (x ∷ []))
lists_pushed names i name found x less is tells lists =
    lists_more names i name found (found ++ (x ∷ [])) less is lists (λ y there. Contains-append_left found (x ∷ []) y there)
    (λ fork seg named same.
    let place = one_place fork x.0 seg x.1 false false named tells.0 (same ∙ tells.1) in
    subst (λ (y : ForkId × ℕ). Contains (found ++ (x ∷ [])) y) (pair fork x.0 seg x.1 place.0 place.1.0) (Contains-push found x))
  where
    pair : (a b : ForkId) (m n : ℕ) → a ≡ b → m ≡ n → ◌≡◌ {A = ForkId × ℕ} (b, n) (a, m)
    pair a b m n e f = ap (λ (z : ForkId). (z, n)) (sym e) ∙ ap (λ (k : ℕ). (a, k)) (sym f)

pub lists_passed : (names : List (List ℕ)) (i : ℕ) (name : List ℕ) (found : List (ForkId × ℕ)) → i < length names → name ≡ get_or names i name → TellsSegment name None → Lists (take i names) found → Lists (take (i + 1) names) found
lists_passed names i name found less is tells lists =
    lists_more names i name found found less is lists (λ y there. there)
    (λ fork seg named same. absurd (tells (record { fork = fork; seg = seg; named = named; path_is = sym same })))

-- the list that is left, by an equation
pub lists_now : (names : List (List ℕ)) (now found : List (ForkId × ℕ)) → now ≡ found → Lists names found → Lists names now
lists_now names now found is = subst (Lists names) (sym is)

pub named_now : (now found : List (ForkId × ℕ)) → now ≡ found → All IsSegmentNamed found → All IsSegmentNamed now
named_now now found is = subst (λ (xs : List (ForkId × ℕ)). All IsSegmentNamed xs) (sym is)

-- all names of an area, the segments sorted by their numbers
pub lists_all : (names : List (List ℕ)) (told : Option Files) (i : ℕ) (found sorted : List (ForkId × ℕ)) → IfSome told (λ m. names ≡ keys m) → length names ≤ i → Lists (take i names) found → IsPermutation found sorted → IsNonDecreasingBy (λ x. x.1) sorted → IfSome told (ListsSegments sorted)
lists_all names None i found sorted keyed all lists moved rising = tt
lists_all names (Some m) i found sorted keyed all lists moved rising = record {
  all = λ fork seg named there.
      Contains-permutation found sorted (fork, seg) moved
      (lists fork seg named (subst (IsOne (path fork seg)) (sym (take_all i names all ∙ keyed)) (is_key m (path fork seg) there)));
  rising = rising;
}
