-- What the members of a chain have, by the areas that tell it.
use Rattle.std.proofs.Common.{◌≡◌, ℕ, zero, suc, ◌<◌, List, [], ◌∷◌, ◌++◌, length, take, drop, get_or, Option, Some, None, IfSome, Result, Ok, Err, OnOk, IfErr, refl, sym, ap, subst, ◌∙◌, arith}
use Rattle.std.specs.Prelude.{slice_get}
use Rattle.std.specs.Option.{option_map, unwrap_or}
use Rattle.std.specs.Result.{IsErrAnd}
use Rattle.std.proofs.lemmas.List.{take_all, drop_all, append-nil}
use Rattle.std.proofs.lemmas.Option.{slice_get_within, slice_get-get_or}
use Rattle.lsn_core.specs.byte_words.Numbers.{◌>>=◌}
use Rattle.lsn_core.specs.Files.{Files}
use Rattle.vault.specs.Area.{bytes_of}
use Rattle.vault.specs.declared.area.Vault.{Ghosts}
use Rattle.vault.specs.declared.lending.Held.{Held}
use Rattle.chain_files.specs.Inside.{read_over}
use Rattle.chain_files.specs.Sources.{member_bytes}
use Rattle.chain_files.specs.Told.{told_at, chain_told}
use Rattle.chain_files.specs.declared.fault.MemberFault.{MemberFault}
use Rattle.chain_files.proofs.Told.{member_told, members_told}
use Rattle.chain_files.proofs.Overs.{over_none}

-- where all is told, a fact of a chain follows from what its member tells
pub when_all : {A : Type 0} (o : Option A) (P : A → Type 0) → ((x : A) → o ≡ Some x → P x) → IfSome o P
when_all None P step = tt
when_all (Some x) P step = step x refl

pub told_all : {A : Type 0} (o : Option A) (P : A → Type 0) → ((x : A) → P x) → IfSome o P
told_all None P all = tt
told_all (Some x) P all = all x

pub some_of : {A : Type 0} (o : Option A) (x : A) (P : A → Type 0) → o ≡ Some x → IfSome o P → P x
some_of None x P e p = absurd cc
some_of (Some y) x P e p = let same : y ≡ x = cc in subst P same p

pub told_ok : {T E : Type 0} (result : Result T E) (P Q : Type 0) → (P → Q) → OnOk result P → OnOk result Q
told_ok (Ok x) P Q step p = step p
told_ok (Err e) P Q step p = p

pub some_is : {A : Type 0} (o : Option A) (x : A) (P : A → Type 0) → o ≡ Some x → P x → IfSome o P
some_is {A = A} o x P e p = subst (λ (q : Option A). IfSome q P) (sym e) p

-- a list that was written as a whole
pub written_back : {A : Type 0} (now items : List A) (len : ℕ) → length now ≡ length items → len ≡ length items → take len (now ++ drop (length now) items) ≡ now
written_back now items len long is =
    ap (λ (l : List _). take len (now ++ l)) (drop_all (length now) items (omega (arith, long)))
    ∙ ap (take len) (append-nil now) ∙ take_all len now (omega (arith, long, is))

-- a fault that a call hands on
pub handed_on : {T : Type 0} (result : Result T MemberFault) (fault : MemberFault) (P : MemberFault → Type 0) → IsErrAnd result (λ e. e ≡ fault) → P fault → IfErr result P
handed_on (Ok x) fault P is p = absurd is
handed_on (Err e) fault P is p = subst P (sym is) p

pub there_is : {A : Type 0} (xs : List A) (k : ℕ) → k < length xs → (x : A) × (slice_get xs k ≡ Some x)
there_is [] k lt = absurd (omega (arith, lt))
there_is (x ∷ xs) zero lt = (x, refl)
there_is (x ∷ xs) (suc k) lt = there_is xs k (omega (arith, lt))

module _ {V : Type 0} (g : Ghosts V) (areas : List (Held V)) (places : List ℕ) where
  -- the files that the member of a number has
  pub member_is : (chain : List Files) (k place : ℕ) → chain_told g areas places ≡ Some chain → slice_get places k ≡ Some place → slice_get chain k ≡ told_at g areas place
  member_is chain k place told e = member_told g areas places chain k told ∙ ap (λ (o : Option ℕ). o >>= told_at g areas) e

  -- what holds of what the area at its place tells
  pub member_has : (P : Files → Type 0) (chain : List Files) (k place : ℕ) → chain_told g areas places ≡ Some chain → slice_get places k ≡ Some place → IfSome (told_at g areas place) P → IfSome (slice_get chain k) P
  member_has P chain k place told e held = subst (λ (o : Option Files). IfSome o P) (sym (member_is chain k place told e)) held

  pub member_there : (chain : List Files) (k place : ℕ) → chain_told g areas places ≡ Some chain → slice_get places k ≡ Some place → k < length chain
  member_there chain k place told e = omega (arith, members_told g areas places chain told, slice_get_within places k place e)

  -- ---- reads

  pub filled_here : (path before now : List ℕ) (at k place : ℕ) → slice_get places k ≡ Some place → IfSome (told_at g areas place) (λ m. now ≡ read_over (bytes_of m path) at before)
      → IfSome (chain_told g areas places) (λ chain. now ≡ read_over (member_bytes chain k path) at before)
  filled_here path before now at k place e read =
      when_all (chain_told g areas places) (λ chain. now ≡ read_over (member_bytes chain k path) at before)
      (λ chain told.
      let there = there_is chain k (member_there chain k place told e) in
      let is : now ≡ read_over (bytes_of there.0 path) at before = some_of (slice_get chain k) there.0 (λ m. now ≡ read_over (bytes_of m path) at before) there.1 (member_has (λ m. now ≡ read_over (bytes_of m path) at before) chain k place told e read) in
      is ∙ ap (λ (o : Option Files). read_over (unwrap_or (option_map (λ files. bytes_of files path) o) []) at before) (sym there.1))

  pub filled_none : (path before : List ℕ) (at k : ℕ) → slice_get places k ≡ None → IfSome (chain_told g areas places) (λ chain. before ≡ read_over (member_bytes chain k path) at before)
  filled_none path before at k e =
      when_all (chain_told g areas places) (λ chain. before ≡ read_over (member_bytes chain k path) at before)
      (λ chain told.
      let none : slice_get chain k ≡ None = member_told g areas places chain k told ∙ ap (λ (o : Option ℕ). o >>= told_at g areas) e in
      sym (ap (λ (o : Option Files). read_over (unwrap_or (option_map (λ files. bytes_of files path) o) []) at before) none ∙ over_none at before))

  -- ---- forms

  pub member_seen : (P : Files → Type 0) (chain : List Files) (k : ℕ) → chain_told g areas places ≡ Some chain → k < length places → IfSome (told_at g areas (get_or places k 0)) P → (m : Files) × (slice_get chain k ≡ Some m) × P m
  member_seen P chain k told lt held =
      let e = slice_get-get_or places k 0 lt in
      let there = there_is chain k (member_there chain k (get_or places k 0) told e) in
      (there.0, there.1, some_of (slice_get chain k) there.0 P there.1 (member_has P chain k (get_or places k 0) told e held))
