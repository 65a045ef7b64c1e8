-- The elements of lists, and files that were put into a directory, by their names.
use Rattle.std.proofs.Common.{◌≡◌, ℕ, Bool, true, false, cond, ◌⊎◌, inl, inr, List, [], ◌∷◌, map, Some, refl, sym, ap₂, subst, ◌∙◌}
use Rattle.std.specs.List.{AllByRecursion, IsDistinct}
use Rattle.std.specs.Cmp.Lexicographic.{nat_list_cmp_total}
use Rattle.std.specs.FinMap.{get, insert, get-insert}
use Rattle.lsn_core.specs.Files.{Files}
use Rattle.lsn_core.specs.Store.{with_files}
use Rattle.lsn_core.proofs.StoreFiles.{same_name, names_tie}
use Rattle.backup_files.proofs.Appended.{get_here, absent}
use Rattle.directory_files.specs.Relisted.{File}

-- ---- elements

abbrev pub Among : {A : Type 0} → A → List A → Type 0
Among x [] = ⊥
Among x (y ∷ ys) = (x ≡ y) ⊎ Among x ys

pub of_all : {A : Type 0} (P : A → Type 0) (x : A) (xs : List A) → AllByRecursion P xs → Among x xs → P x
of_all P x [] all is = absurd is
of_all P x (y ∷ ys) all (inl e) = subst P (sym e) all.0
of_all P x (y ∷ ys) all (inr is) = of_all P x ys all.1 is

pub all_among : {A : Type 0} (P : A → Type 0) (xs : List A) → ((x : A) → Among x xs → P x) → AllByRecursion P xs
all_among P [] each = tt
all_among P (x ∷ xs) each = (each x (inl refl), all_among P xs (λ y is. each y (inr is)))

pub all_of_map : {A B : Type 0} (f : A → B) (P : B → Type 0) (xs : List A) → AllByRecursion P (map f xs) → AllByRecursion (λ x. P (f x)) xs
all_of_map f P [] all = tt
all_of_map f P (x ∷ xs) all = (all.0, all_of_map f P xs all.1)

-- ---- files

abbrev pub name_of : File → List ℕ
name_of file = file.0

abbrev pub AreApart : List File → Type 0
AreApart files = IsDistinct same_name (map name_of files)

-- each of files with names of their own is there
pub found : (m : Files) (file : File) (files : List File) → AreApart files → Among file files → get (with_files m files) file.0 ≡ Some file.1
unfolding IsDistinct
found m file [] apart is = absurd is
found m file (f ∷ files) apart (inl e) =
    subst (λ (g : File). get (with_files (insert m f.0 f.1) files) g.0 ≡ Some g.1) (sym e)
    (absent (insert m f.0 f.1) f.0 files (all_of_map name_of (λ n. same_name f.0 n ≡ false) files apart.0) ∙ get_here m f.0 f.1)
found m file (f ∷ files) apart (inr is) = found (insert m f.0 f.1) file files apart.1 is

by_name : (m : Files) (q b : List ℕ) (f : File) (files : List File) (same : Bool) → same_name q f.0 ≡ same → cond same (Some f.1) (get m q) ≡ Some b → (get m q ≡ Some b) ⊎ Among (q, b) (f ∷ files)
by_name m q b f files true s e = let held : b ≡ f.1 = cc in inr (inl (ap₂ (λ (x y : List ℕ). (x, y)) (names_tie q f.0 s) held))
by_name m q b f files false s e = inl e

put_there : (m : Files) (q b : List ℕ) (f : File) (files : List File) → (get (insert m f.0 f.1) q ≡ Some b) ⊎ Among (q, b) files → (get m q ≡ Some b) ⊎ Among (q, b) (f ∷ files)
put_there m q b f files (inl e) = by_name m q b f files (same_name q f.0) refl (sym (get-insert nat_list_cmp_total m f.0 f.1 q) ∙ e)
put_there m q b f files (inr is) = inr (inr is)

-- what is there was put there, or was there before
pub there : (m : Files) (q b : List ℕ) (files : List File) → get (with_files m files) q ≡ Some b → (get m q ≡ Some b) ⊎ Among (q, b) files
there m q b [] e = inl e
there m q b (f ∷ files) e = put_there m q b f files (there (insert m f.0 f.1) q b files e)
