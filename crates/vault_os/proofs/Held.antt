-- A read that goes on until its buffer is full or the file ends.
use Rattle.std.proofs.Common.{◌≡◌, ℕ, ◌+◌, ◌-◌, ◌≤◌, min, ◌⊎◌, List, [], ◌++◌, length, take, drop, Option, Some, None, IfSome, unwrap_or, option_map, false, ◌^◌, refl, sym, ap, subst, ◌∙◌, arith, inl, inr}
use Rattle.std.proofs.lemmas.List.{append-nil, append_assoc, take_at, take_all, drop_at, drop_all, drop-drop, drop-append-le, take-append-drop, length-take-le, length-drop}
use Rattle.std.proofs.Math.Seq.{take-add}
use Rattle.std.specs.FinMap.{get}
use Rattle.lsn_core.specs.Files.{Files}
use Rattle.vault.specs.Area.{bytes_of, IsRead, IsSizeIn, ReadsIn}
use Rattle.vault_os.specs.Paths.{leads_below, path_in, told_in, LeadsTo}
use Rattle.system_calls.specs.System.{IsReadOnce, ReadsSome, IsMissingIn, AreShort}
use Rattle.vault_os.specs.Reading.{IsFilled, HoldsSoFar, FillsOrEnds, ReadsOn, HasNoneFrom}
use Rattle.vault_os.proofs.Below.{get_bad, bytes_in}

more_held : (bytes before into new : List ℕ) (at count got n : ℕ) → n ≡ length into - count → count ≤ length into → length before ≡ length into → IsFilled bytes at before into count → IsReadOnce bytes (at + count) (take n (drop count into)) new got → IsFilled bytes at before (take count into ++ (new ++ drop n (drop count into))) (count + got)
more_held bytes before into new at count got n rest within same held once =
    let xs : List ℕ = drop at bytes in
    let fits : length (take count xs) ≡ count = length-take-le count xs (omega (arith, held.within, length-drop at bytes)) in
    let front : take count into ≡ take count xs = ap (take count) held.held ∙ take_at (take count xs) (drop count before) count fits in
    let back : drop count into ≡ drop count before = ap (drop count) held.held ∙ drop_at (take count xs) (drop count before) count fits in
    let left : length (drop count into) ≤ n = omega (arith, rest, length-drop count into) in
    let sub : take n (drop count into) ≡ drop count before = take_all n (drop count into) left ∙ back in
    let none : drop n (drop count into) ≡ [] = drop_all n (drop count into) left in
    let fresh : new ≡ take got (drop count xs) ++ drop (count + got) before = once.held ∙ (λ i. take got (sym (drop-drop count at bytes) i) ++ (ap (drop got) sub ∙ drop-drop got count before) i) in
    record {
      held =
          (λ i. front i ++ (fresh i ++ none i))
          ∙ ap (λ (l : List ℕ). take count xs ++ l) (append-nil (take got (drop count xs) ++ drop (count + got) before))
          ∙ sym (append_assoc (take count xs) (take got (drop count xs)) (drop (count + got) before))
          ∙ ap (λ (l : List ℕ). l ++ drop (count + got) before) (sym (take-add count got xs));
      within = omega (arith, held.within, once.within);
    }

-- one more read of the file of a path
pub goes_on : (files : Option Files) (path into new : List ℕ) (at count got n : ℕ) → n ≡ length into - count → count ≤ length into → ReadsSome files path (at + count) (take n (drop count into)) new got → ReadsOn files path at into (take count into ++ (new ++ drop n (drop count into))) count got
goes_on None path into new at count got n rest within once before same held = tt
goes_on (Some m) path into new at count got n rest within once before same held = more_held (bytes_of m path) before into new at count got n rest within same held once

-- a buffer that holds nothing yet
pub none_held : (files : Option Files) (path : List ℕ) (at : ℕ) (before : List ℕ) → HoldsSoFar files path at before before 0
none_held None path at before = tt
none_held (Some m) path at before = record { held = refl; within = omega arith }

pub ended : (files : Option Files) (path : List ℕ) (at count got n size : ℕ) (before now : List ℕ) → length before ≡ n → n ≡ size - count → count ≤ size → ReadsSome files path (at + count) before now got → got ≡ 0 → FillsOrEnds files path at size count
ended None path at count got n size before now same rest within once none = tt
ended (Some m) path at count got n size before now same rest within once none =
    elim (once.ended none) [
      | inl full ↦ inl (omega (arith, full, same, rest, within))
      | inr end ↦ inr (omega (arith, end))
    ]

read_of : (m : Files) (path into now : List ℕ) (at count room most : ℕ) → room ≡ min (most - at) (length into) → length (bytes_of m path) ≤ most → count ≤ room → IsFilled (bytes_of m path) at (take room into) now count → (room ≡ count) ⊎ (length (bytes_of m path) ≤ at + count) → IsRead m path at into (now ++ drop room into) count
read_of m path into now at count room most roomy short within held end =
    let bytes : List ℕ = bytes_of m path in
    let fits : length (take room into) ≡ room = length-take-le room into (omega (arith, roomy)) in
    record {
      counted = elim end [
        | inl full ↦ omega (arith, full, roomy, short, held.within)
        | inr over ↦ omega (arith, over, roomy, within, held.within)
      ];
      bytes =
          ap (λ (l : List ℕ). l ++ drop room into) held.held
          ∙ append_assoc (take count (drop at bytes)) (drop count (take room into)) (drop room into)
          ∙ ap (λ (l : List ℕ). take count (drop at bytes) ++ l) (sym (drop-append-le count (take room into) (drop room into) (omega (arith, fits, within))) ∙ ap (drop count) (take-append-drop room into));
    }

-- a buffer's front was filled
pub reads_in : (files : Option Files) (path into now : List ℕ) (at count room : ℕ) → room ≡ min (2 ^ 63 - 1 - at) (length into) → IfSome files AreShort → count ≤ length (take room into) → HoldsSoFar files path at (take room into) now count → FillsOrEnds files path at (length (take room into)) count → ReadsIn files path at into (now ++ drop room into) count
reads_in None path into now at count room roomy short within held end = tt
reads_in (Some m) path into now at count room roomy short within held end =
    let fits : length (take room into) ≡ room = length-take-le room into (omega (arith, roomy)) in
    read_of m path into now at count room (2 ^ 63 - 1) roomy (short path) (omega (arith, fits, within)) held (subst (λ (n : ℕ). (n ≡ count) ⊎ (length (bytes_of m path) ≤ at + count)) fits end)

size_of : (o : Option (List ℕ)) → length (unwrap_or o []) ≡ unwrap_or (option_map length o) 0
size_of None = refl
size_of (Some bytes) = refl

-- a file that isn't longer, one that isn't there, and a name that no file can have
pub none_short : (folder name path : List ℕ) (files : Option Files) (found : Option ℕ) (at : ℕ) → LeadsTo folder name (Some path) → IsSizeIn files path found → unwrap_or found 0 ≤ at → HasNoneFrom (told_in folder files) name at
none_short folder name path None found at leads size le = tt
none_short folder name path (Some m) found at leads size le =
    let here : length (bytes_of m path) ≡ unwrap_or found 0 = size_of (get m path) ∙ ap (λ (o : Option ℕ). unwrap_or o 0) (sym size) in
    let there : length (bytes_of m (path_in folder name)) ≡ unwrap_or found 0 = subst (λ (p : List ℕ). length (bytes_of m p) ≡ unwrap_or found 0) leads.0 here in
    omega (arith, ap length (bytes_in folder name m leads.1), there, le)

pub none_missing : (folder name path : List ℕ) (files : Option Files) (at : ℕ) → LeadsTo folder name (Some path) → IsMissingIn files path → HasNoneFrom (told_in folder files) name at
none_missing folder name path None at leads none = tt
none_missing folder name path (Some m) at leads none =
    let here : length (bytes_of m path) ≡ 0 = ap (λ (o : Option (List ℕ)). length (unwrap_or o [])) none in
    let there : length (bytes_of m (path_in folder name)) ≡ 0 = subst (λ (p : List ℕ). length (bytes_of m p) ≡ 0) leads.0 here in
    omega (arith, ap length (bytes_in folder name m leads.1), there)

pub none_bad : (folder name : List ℕ) (files : Option Files) (at : ℕ) → leads_below name ≡ false → HasNoneFrom (told_in folder files) name at
none_bad folder name None at bad = tt
none_bad folder name (Some m) at bad = omega (arith, ap (λ (o : Option (List ℕ)). length (unwrap_or o [])) (get_bad folder name m bad))

-- a name that leads to a path
pub some_path : {X : Type 0} (f : X → List ℕ) (folder name : List ℕ) (found : Option X) (x : X) → found ≡ Some x → LeadsTo folder name (option_map f found) → LeadsTo folder name (Some (f x))
some_path f folder name found x e leads = subst (λ (o : Option _). LeadsTo folder name (option_map f o)) e leads
