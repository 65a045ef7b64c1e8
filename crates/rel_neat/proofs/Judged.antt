-- What is told of segment files, and what they are once some were made neat in turn.
use Rattle.std.proofs.Common.{◌≡◌, ℕ, ◌+◌, ◌<◌, ◌≤◌, Bool, true, false, true≢false, List, [], ◌∷◌, ◌++◌, length, get_or, take, Option, Some, None, IfSome, option_map, refl, sym, ap, subst, ◌∙◌}
use Rattle.std.specs.List.{All}
use Rattle.std.proofs.lemmas.List.{take_more, take_all}
use Rattle.lsn_core.specs.Files.{Files}
use Rattle.lsn_core.specs.Names.{fork_path_bytes, IsNamed, NamesNoFork}
use Rattle.lsn_core.specs.declared.ids.ForkId.{ForkId}
use Rattle.lsn_core.proofs.ForkPaths.{one_place}
use Rattle.rel_neat.specs.Neat.{IsNeat}
use Rattle.rel_neat.specs.Segments.{TellsSegment, IsSegmentNamed, ListsSegments, blocks_in, is_stray, neatened, all_neatened}
use Rattle.rel_neat.proofs.Neatened.{all_neat}

-- ---- a path

pub no_segment : (name : List ℕ) → NamesNoFork name → TellsSegment name None
no_segment name none f = none f.fork f.seg false f.named f.path_is

pub incremental : (name : List ℕ) (fork : ForkId) (seg : ℕ) → IsNamed fork seg → name ≡ fork_path_bytes fork seg true → TellsSegment name None
incremental name fork seg named is f = true≢false (one_place fork f.fork seg f.seg true false named f.named (sym is ∙ f.path_is)).1.1

-- ---- whether its fork has it

-- the two tellings together
pub both_judged : (told between : Option Files) (relseg : ℕ) (fork : ForkId) (seg blocks : ℕ) (stray : Bool) → between ≡ told → IfSome told (λ m. blocks ≡ blocks_in relseg m fork seg)
    → IfSome between (λ m. blocks ≡ blocks_in relseg m fork seg → stray ≡ is_stray relseg m fork seg) → IfSome told (λ m. (blocks ≡ blocks_in relseg m fork seg) × (stray ≡ is_stray relseg m fork seg))
both_judged told between relseg fork seg blocks stray same count judged =
    by told count (subst (λ (o : Option Files). IfSome o (λ m. blocks ≡ blocks_in relseg m fork seg → stray ≡ is_stray relseg m fork seg)) same judged)
  where
    by : (o : Option Files) → IfSome o (λ m. blocks ≡ blocks_in relseg m fork seg) → IfSome o (λ m. blocks ≡ blocks_in relseg m fork seg → stray ≡ is_stray relseg m fork seg) → IfSome o (λ m. (blocks ≡ blocks_in relseg m fork seg) × (stray ≡ is_stray relseg m fork seg))
    by None a b = tt
    by (Some m) a b = (a, b a)

-- of files that are told
pub told_at : (told : Option Files) (P : Files → Type 0) → IfSome told P → (m : Files) → told ≡ Some m → P m
told_at told P all m is = subst (λ (o : Option Files). IfSome o P) is all

-- ---- all of them

all_neatened-push : (relseg : ℕ) (xs : List (ForkId × ℕ)) (x : ForkId × ℕ) (files : Files) → all_neatened relseg (xs ++ (x ∷ [])) files ≡ neatened relseg x.0 x.1 (all_neatened relseg xs files)
all_neatened-push relseg [] x files = refl
all_neatened-push relseg (y ∷ xs) x files = all_neatened-push relseg xs x (neatened relseg y.0 y.1 files)

-- before the first one
pub neatened_none : (told now : Option Files) (relseg : ℕ) (xs : List (ForkId × ℕ)) → now ≡ told → now ≡ option_map (all_neatened relseg (take 0 xs)) told
neatened_none None now relseg xs e = e
neatened_none (Some m) now relseg xs e = e

pub neatened_more : (told now new : Option Files) (relseg : ℕ) (xs : List (ForkId × ℕ)) (i : ℕ) (x : ForkId × ℕ) → i < length xs → x ≡ get_or xs i x → now ≡ option_map (all_neatened relseg (take i xs)) told
    → new ≡ option_map (neatened relseg x.0 x.1) now → new ≡ option_map (all_neatened relseg (take (i + 1) xs)) told
neatened_more told now new relseg xs i x less is e one = one ∙ ap (option_map (neatened relseg x.0 x.1)) e ∙ by told
  where
    by : (o : Option Files) → option_map (neatened relseg x.0 x.1) (option_map (all_neatened relseg (take i xs)) o) ≡ option_map (all_neatened relseg (take (i + 1) xs)) o
    by None = refl
    by (Some m) = ap (λ (n : Files). Some n) (sym (ap (λ (l : List (ForkId × ℕ)). all_neatened relseg l m) (take_more xs i x less ∙ ap (λ (y : ForkId × ℕ). take i xs ++ (y ∷ [])) (sym is)) ∙ all_neatened-push relseg (take i xs) x m))

pub all_told : (told now : Option Files) (relseg : ℕ) (xs : List (ForkId × ℕ)) (i : ℕ) → length xs ≤ i → All IsSegmentNamed xs → IfSome told (ListsSegments xs) → now ≡ option_map (all_neatened relseg (take i xs)) told → IfSome now (IsNeat relseg)
all_told None now relseg xs i all named lists e = subst (λ (o : Option Files). IfSome o (IsNeat relseg)) (sym e) tt
all_told (Some m) now relseg xs i all named lists e =
    subst (λ (o : Option Files). IfSome o (IsNeat relseg)) (sym (e ∙ ap (λ (l : List (ForkId × ℕ)). Some (all_neatened relseg l m)) (take_all i xs all))) (all_neat relseg xs m named lists)
