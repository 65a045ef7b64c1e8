-- Files of an area, and writes behind the end of one.
use Rattle.std.proofs.Common.{◌≡◌, ℕ, ◌+◌, ◌-◌, Bool, true, false, cond, List, [], ◌∷◌, ◌++◌, length, drop, replicate, Option, Some, None, unwrap_or, refl, sym, ap, ◌∙◌, arith}
use Rattle.std.specs.List.{AllByRecursion}
use Rattle.std.specs.Option.{option_map}
use Rattle.std.specs.Cmp.Lexicographic.{nat_list_cmp_total}
use Rattle.std.specs.FinMap.{get, insert, get-insert, same_map, slice_cmp-IsAntisymmetric, nat_cmp-IsAntisymmetric}
use Rattle.std.proofs.lemmas.List.{append-nil, drop_all, take_all}
use Rattle.lsn_core.specs.byte_words.Pieces.{overwritten}
use Rattle.lsn_core.specs.Files.{Files}
use Rattle.lsn_core.specs.Store.{with_files}
use Rattle.lsn_core.proofs.StoreFiles.{same_name, name_itself}
use Rattle.vault.specs.Area.{after_write, file_written}
use Rattle.backup_files.specs.Area.{Lacks, with_file}

-- ---- files of an area

pub get_here : (m : Files) (name bytes : List ℕ) → get (insert m name bytes) name ≡ Some bytes
get_here m name bytes = get-insert nat_list_cmp_total m name bytes name ∙ ap (λ b. cond b (Some bytes) (get m name)) (name_itself name)

again : {A : Type 0} (b : Bool) (x y z : A) → cond b x (cond b y z) ≡ cond b x z
again true x y z = refl
again false x y z = refl

pub insert_again : (m : Files) (name first second : List ℕ) → insert (insert m name first) name second ≡ insert m name second
insert_again m name first second =
    same_map nat_list_cmp_total (slice_cmp-IsAntisymmetric nat_cmp-IsAntisymmetric) (insert (insert m name first) name second) (insert m name second) (λ q.
    get-insert nat_list_cmp_total (insert m name first) name second q
    ∙ ap (cond (same_name q name) (Some second)) (get-insert nat_list_cmp_total m name first q)
    ∙ again (same_name q name) (Some second) (Some first) (get m q)
    ∙ sym (get-insert nat_list_cmp_total m name second q))

-- ---- a write behind the end of a file

pub written_behind : (bytes piece : List ℕ) (at : ℕ) → at ≡ length bytes → file_written bytes at piece ≡ bytes ++ piece
written_behind bytes [] at e = sym (append-nil bytes)
written_behind bytes (b ∷ bs) at e =
    let none : at - length bytes ≡ 0 = omega (arith, e) in
    ap (λ (n : ℕ). overwritten (bytes ++ replicate n 0) at (b ∷ bs)) none
    ∙ ap (λ (x : List ℕ). overwritten x at (b ∷ bs)) (append-nil bytes)
    ∙ ap (λ (x : List ℕ). x ++ ((b ∷ bs) ++ drop (at + length (b ∷ bs)) bytes)) (take_all at bytes (omega (arith, e)))
    ∙ ap (λ (x : List ℕ). bytes ++ ((b ∷ bs) ++ x)) (drop_all (at + length (b ∷ bs)) bytes (omega (arith, e)))
    ∙ ap (λ (x : List ℕ). bytes ++ x) (append-nil (b ∷ bs))

-- of a file that wasn't there
pub written_new : (m : Files) (name piece : List ℕ) → get m name ≡ None → after_write name 0 piece m ≡ insert m name piece
written_new m name piece none =
    ap (λ (o : Option (List ℕ)). insert m name (file_written (unwrap_or o []) 0 piece)) none ∙ ap (insert m name) (written_behind [] piece 0 refl)

pub written_new_in : (files : Option Files) (name piece : List ℕ) → Lacks files name → option_map (after_write name 0 piece) files ≡ with_file name piece files
written_new_in None name piece none = refl
written_new_in (Some m) name piece none = ap (λ (x : Files). Some x) (written_new m name piece none)

written_more : (m : Files) (name bytes piece : List ℕ) (at : ℕ) → at ≡ length bytes → after_write name at piece (insert m name bytes) ≡ insert m name (bytes ++ piece)
written_more m name bytes piece at e =
    ap (λ (o : Option (List ℕ)). insert (insert m name bytes) name (file_written (unwrap_or o []) at piece)) (get_here m name bytes)
    ∙ ap (insert (insert m name bytes) name) (written_behind bytes piece at e)
    ∙ insert_again m name bytes (bytes ++ piece)

pub written_more_in : (files : Option Files) (name bytes piece : List ℕ) (at : ℕ) → at ≡ length bytes → option_map (after_write name at piece) (with_file name bytes files) ≡ with_file name (bytes ++ piece) files
written_more_in None name bytes piece at e = refl
written_more_in (Some m) name bytes piece at e = ap (λ (x : Files). Some x) (written_more m name bytes piece at e)

-- ---- names that aren't there

pub absent : (m : Files) (name : List ℕ) (files : List (List ℕ × List ℕ)) → AllByRecursion (λ f. same_name name f.0 ≡ false) files → get (with_files m files) name ≡ get m name
absent m name [] all = refl
absent m name (f ∷ files) all =
    absent (insert m f.0 f.1) name files all.1 ∙ (get-insert nat_list_cmp_total m f.0 f.1 name ∙ ap (λ b. cond b (Some f.1) (get m name)) all.0)
