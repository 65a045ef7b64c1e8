-- Areas that were only read tell what they told before.
use Rattle.std.proofs.Common.{◌≡◌, ℕ, zero, suc, ◌<◌, ◌≤◌, List, [], ◌∷◌, map, length, get_or, set, Option, Some, None, refl, sym, ap, ap₂, subst, ◌∙◌, arith}
use Rattle.std.specs.Prelude.{slice_get}
use Rattle.std.proofs.lemmas.List.{length-map}
use Rattle.std.specs.Option.{option_map}
use Rattle.lsn_core.specs.byte_words.Numbers.{◌>>=◌}
use Rattle.lsn_core.specs.Causes.{Rose}
use Rattle.lsn_core.specs.Files.{Files}
use Rattle.lsn_core.specs.declared.fault.AreaFault.TheVariants.{Failed}
use Rattle.vault.specs.Frame.{OnlyReads}
use Rattle.vault.specs.declared.area.Vault.{Ghosts}
use Rattle.vault.specs.declared.lending.Held.{Held}
use Rattle.chain_files.specs.Told.{all_told, told_at, chain_told, faults_at, FailsAt, AllOnlyRead, ArePlaces}
use Rattle.chain_files.specs.declared.fault.MemberFault.{MemberFault}

-- ---- what all tell

all_at : (o : Option Files) (rest : List (Option Files)) (chain : List Files) → all_told (o ∷ rest) ≡ Some chain
    → (first : Files) × (more : List Files) × (o ≡ Some first) × (all_told rest ≡ Some more) × (chain ≡ first ∷ more)
all_at None rest chain e = absurd cc
all_at (Some first) rest chain e = elim (all_told rest) as (λ o. all_told rest ≡ o → option_map (λ more. first ∷ more) o ≡ Some chain
    → (f : Files) × (more : List Files) × (Some first ≡ Some f) × (all_told rest ≡ Some more) × (chain ≡ f ∷ more)) [
      | None ↦ λ k f. absurd cc
      | Some more ↦ λ k f. (first, more, refl, k, cc)
    ] refl e

each_cons : (o : Option Files) (os : List (Option Files)) (first : Files) (more : List Files) → o ≡ Some first → ((n : ℕ) → slice_get more n ≡ (slice_get os n >>= λ p. p)) → (k : ℕ) → slice_get (first ∷ more) k ≡ (slice_get (o ∷ os) k >>= λ p. p)
each_cons o os first more e rest zero = sym e
each_cons o os first more e rest (suc n) = rest n

-- a member tells what stands at its place in the chain
pub told_each : (os : List (Option Files)) (chain : List Files) → all_told os ≡ Some chain → (k : ℕ) → slice_get chain k ≡ (slice_get os k >>= λ p. p)
told_each [] chain e k = let none : [] ≡ chain = cc in subst (λ (l : List Files). slice_get l k ≡ None) none refl
told_each (o ∷ os) chain e k =
    let is = all_at o os chain e in
    subst (λ (l : List Files). slice_get l k ≡ (slice_get (o ∷ os) k >>= λ p. p)) (sym is.4)
    (each_cons o os is.0 is.1 is.2 (told_each os is.1 is.3) k)

pub told_length : (os : List (Option Files)) (chain : List Files) → all_told os ≡ Some chain → length chain ≡ length os
told_length [] chain e = let none : [] ≡ chain = cc in ap (λ (l : List Files). length l) (sym none)
told_length (o ∷ os) chain e =
    let is = all_at o os chain e in
    ap (λ (l : List Files). length l) is.4 ∙ ap suc (told_length os is.1 is.3)

-- ---- places

pub place_within : (count : ℕ) (places : List ℕ) (k place : ℕ) → ArePlaces count places → slice_get places k ≡ Some place → place < count
place_within count [] k place are e = absurd cc
place_within count (p ∷ places) zero place are e = let same : p ≡ place = cc in subst (λ (n : ℕ). n < count) same are.0
place_within count (p ∷ places) (suc k) place are e = place_within count places k place are.1 e

module _ {V : Type 0} (g : Ghosts V) where
  -- ---- areas that were only read

  pub reads_refl : (areas : List (Held V)) → AllOnlyRead g areas areas
  reads_refl [] = tt
  reads_refl (one ∷ areas) = (refl, record { files = refl; past = refl; faults = omega arith }, reads_refl areas)

  pub reads_trans : (old mid new : List (Held V)) → AllOnlyRead g old mid → AllOnlyRead g mid new → AllOnlyRead g old new
  reads_trans [] [] [] first second = tt
  reads_trans [] [] (z ∷ new) first second = absurd second
  reads_trans [] (y ∷ mid) new first second = absurd first
  reads_trans (x ∷ old) [] new first second = absurd first
  reads_trans (x ∷ old) (y ∷ mid) [] first second = absurd second
  reads_trans (x ∷ old) (y ∷ mid) (z ∷ new) first second = (
    second.0 ∙ first.0,
    record { files = second.1.files ∙ first.1.files; past = second.1.past ∙ first.1.past; faults = omega (arith, first.1.faults, second.1.faults) },
    reads_trans old mid new first.2 second.2,
  )

  pub reads_length : (old new : List (Held V)) → AllOnlyRead g old new → length new ≡ length old
  reads_length [] [] read = refl
  reads_length [] (y ∷ new) read = absurd read
  reads_length (x ∷ old) [] read = absurd read
  reads_length (x ∷ old) (y ∷ new) read = ap suc (reads_length old new read.2)

  pub reads_told_at : (old new : List (Held V)) → AllOnlyRead g old new → (place : ℕ) → told_at g new place ≡ told_at g old place
  reads_told_at [] [] read place = refl
  reads_told_at [] (y ∷ new) read place = absurd read
  reads_told_at (x ∷ old) [] read place = absurd read
  reads_told_at (x ∷ old) (y ∷ new) read zero = read.1.files
  reads_told_at (x ∷ old) (y ∷ new) read (suc place) = reads_told_at old new read.2 place

  told_alike : (old new : List (Held V)) → AllOnlyRead g old new → (places : List ℕ) → map (told_at g new) places ≡ map (told_at g old) places
  told_alike old new read [] = refl
  told_alike old new read (place ∷ places) = ap₂ (λ (o : Option Files) (os : List (Option Files)). o ∷ os) (reads_told_at old new read place) (told_alike old new read places)

  pub reads_told : (old new : List (Held V)) → AllOnlyRead g old new → (places : List ℕ) → chain_told g new places ≡ chain_told g old places
  reads_told old new read places = ap all_told (told_alike old new read places)

  pub reads_faults : (old new : List (Held V)) → AllOnlyRead g old new → (place : ℕ) → faults_at g old place ≤ faults_at g new place
  reads_faults [] [] read place = omega arith
  reads_faults [] (y ∷ new) read place = absurd read
  reads_faults (x ∷ old) [] read place = absurd read
  reads_faults (x ∷ old) (y ∷ new) read zero = read.1.faults
  reads_faults (x ∷ old) (y ∷ new) read (suc place) = reads_faults old new read.2 place

  pub places_kept : (old new : List (Held V)) → AllOnlyRead g old new → (places : List ℕ) → ArePlaces (length old) places → ArePlaces (length new) places
  places_kept old new read places are = subst (λ (n : ℕ). ArePlaces n places) (sym (reads_length old new read)) are

  -- a failure of a later call, and one of an earlier call
  pub fails_later : (old mid new : List (Held V)) (fault : MemberFault) → AllOnlyRead g old mid → FailsAt g mid new fault → FailsAt g old new fault
  fails_later old mid new fault read fails = λ is. let rose = fails is in let before = reads_faults old mid read fault.area in omega (arith, rose, before)

  -- ---- one area that was read

  pub reads_set : (areas : List (Held V)) (place : ℕ) (d now : Held V) → place < length areas → now.name ≡ (get_or areas place d).name → OnlyReads g (get_or areas place d).area now.area → AllOnlyRead g areas (set areas place now)
  reads_set [] place d now lt named read = absurd (omega (arith, lt))
  reads_set (x ∷ areas) zero d now lt named read = (named, read, reads_refl areas)
  reads_set (x ∷ areas) (suc place) d now lt named read = (refl, record { files = refl; past = refl; faults = omega arith }, reads_set areas place d now (omega (arith, lt)) named read)

  pub told_here : (areas : List (Held V)) (place : ℕ) (d : Held V) → place < length areas → told_at g areas place ≡ g.files (get_or areas place d).area
  told_here [] place d lt = absurd (omega (arith, lt))
  told_here (x ∷ areas) zero d lt = refl
  told_here (x ∷ areas) (suc place) d lt = told_here areas place d (omega (arith, lt))

  pub faults_here : (areas : List (Held V)) (place : ℕ) (d : Held V) → place < length areas → faults_at g areas place ≡ g.faults (get_or areas place d).area
  faults_here [] place d lt = absurd (omega (arith, lt))
  faults_here (x ∷ areas) zero d lt = refl
  faults_here (x ∷ areas) (suc place) d lt = faults_here areas place d (omega (arith, lt))

  pub faults_set : (areas : List (Held V)) (place : ℕ) (now : Held V) → place < length areas → faults_at g (set areas place now) place ≡ g.faults now.area
  faults_set [] place now lt = absurd (omega (arith, lt))
  faults_set (x ∷ areas) zero now lt = refl
  faults_set (x ∷ areas) (suc place) now lt = faults_set areas place now (omega (arith, lt))

  -- a call on it that failed
  pub fails_here : (areas : List (Held V)) (place : ℕ) (d now : Held V) (fault : MemberFault) → place < length areas → fault.area ≡ place → (fault.why ≡ Failed → Rose (g.faults (get_or areas place d).area) (g.faults now.area)) → FailsAt g areas (set areas place now) fault
  fails_here areas place d now fault lt is rose = λ failed.
      subst (λ (n : ℕ). Rose (faults_at g areas n) (faults_at g (set areas place now) n)) (sym is)
      (rw (faults_here areas place d lt, faults_set areas place now lt) (rose failed))

  -- ---- members

  slice_map : (areas : List (Held V)) (places : List ℕ) (k : ℕ) → (slice_get (map (told_at g areas) places) k >>= λ o. o) ≡ (slice_get places k >>= told_at g areas)
  slice_map areas [] k = refl
  slice_map areas (p ∷ places) zero = refl
  slice_map areas (p ∷ places) (suc k) = slice_map areas places k

  -- what the member of a number tells
  pub member_told : (areas : List (Held V)) (places : List ℕ) (chain : List Files) (k : ℕ) → chain_told g areas places ≡ Some chain → slice_get chain k ≡ (slice_get places k >>= told_at g areas)
  member_told areas places chain k e = told_each (map (told_at g areas) places) chain e k ∙ slice_map areas places k

  pub members_told : (areas : List (Held V)) (places : List ℕ) (chain : List Files) → chain_told g areas places ≡ Some chain → length chain ≡ length places
  members_told areas places chain e = told_length (map (told_at g areas) places) chain e ∙ length-map places (told_at g areas)
