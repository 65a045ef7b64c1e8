-- Main data that is written is read.
use Rattle.std.proofs.Common.{◌≡◌, ℕ, zero, suc, ◌*◌, ◌^◌, ◌<◌, ◌≤◌, ℤ, false, List, [], ◌∷◌, ◌++◌, length, Option, Some, Ok, refl, ap, arith, FitsSigned}
use Rattle.std.specs.Int.{w32, w64, to_le_bytes, cast_unsigned}
use Rattle.std.specs.List.{All}
use Rattle.std.proofs.Math.Facts.{Fits-of_z, Fits-lt-pow}
use Rattle.std.proofs.lemmas.Int.{to_z-of_z}
use Rattle.std.proofs.lemmas.List.Elements.{All-head, All-tail}
use Rattle.std.proofs.lemmas.Bool.{eq-eqb, and_from, lt-ltb}
use Rattle.lsn_core.specs.byte_words.Numbers.{◌>>=◌}
use Rattle.lsn_core.proofs.byte_words.Fields.{wide32, wide64, step_again}
use Rattle.lsn_core.specs.Relation.{Relation}
use Rattle.lsn_core.specs.declared.lsn.Lsn.{Lsn}
use Rattle.wal_pages.specs.wal_heads.Announcements.{named_at}
use Rattle.wal_pages.proofs.wal_heads.HeadsAgain.{named_again}
use Rattle.wal_record.specs.Parts.{checkpoint_at, mark_at, start_at, creation_at, truncation_at, bits_at, are_other_bits, other_bits_at, commit_time_at, commit_at}
use Rattle.wal_record.specs.Spelling.{full_name, checkpoint_bytes, relation_bytes, truncation_bytes, rels_bytes, IsRelation}
use Rattle.wal_pages.proofs.wal_heads.Steps.{takes_again, passes}

checkpoint_followed : (redo : Lsn) (end : List ℕ) → redo.0 < 2 ^ 64 → length end ≡ 0 → checkpoint_at (to_le_bytes w64 redo.0 ++ (to_le_bytes w32 1 ++ (to_le_bytes w32 1 ++ (to_le_bytes w64 1 ++ end)))) ≡ Some redo
unfolding checkpoint_at
checkpoint_followed redo end lt nil =
    let r3 : List ℕ = to_le_bytes w64 1 ++ end in
    let r2 : List ℕ = to_le_bytes w32 1 ++ r3 in
    let r1 : List ℕ = to_le_bytes w32 1 ++ r2 in
    step_again w64 (2 ^ 64) wide64 _ redo.0 r1 _ _ refl lt (
    step_again w32 (2 ^ 32) wide32 r1 1 r2 _ _ refl (omega arith) (
    step_again w32 (2 ^ 32) wide32 r2 1 r3 _ _ refl (omega arith) (
    step_again w64 (2 ^ 64) wide64 r3 1 end _ _ refl (omega arith) (passes _ _ _ _ (eq-eqb (length end) 0 nil) refl))))

pub checkpoint_again : (redo : Lsn) → redo.0 < 2 ^ 64 → checkpoint_at (checkpoint_bytes redo) ≡ Some redo
checkpoint_again redo lt = checkpoint_followed redo [] lt refl

mark_followed : (n : ℕ) (end : List ℕ) → n < 2 ^ 32 → length end ≡ 0 → mark_at (to_le_bytes w32 n ++ end) ≡ Some n
unfolding mark_at
mark_followed n end lt nil = step_again w32 (2 ^ 32) wide32 _ n end _ _ refl lt (passes _ _ _ _ (eq-eqb (length end) 0 nil) refl)

pub mark_again : (n : ℕ) → n < 2 ^ 32 → mark_at (to_le_bytes w32 n) ≡ Some n
mark_again n lt = mark_followed n [] lt refl

start_followed : (start : Lsn) (end : List ℕ) → start.0 < 2 ^ 64 → length end ≡ 0 → start_at (to_le_bytes w64 start.0 ++ end) ≡ Some start
unfolding start_at
start_followed start end lt nil = step_again w64 (2 ^ 64) wide64 _ start.0 end _ _ refl lt (passes _ _ _ _ (eq-eqb (length end) 0 nil) refl)

pub start_again : (start : Lsn) → start.0 < 2 ^ 64 → start_at (to_le_bytes w64 start.0) ≡ Some start
start_again start lt = start_followed start [] lt refl

name_again : (rel : Relation) (more : List ℕ) → IsRelation rel → named_at (relation_bytes rel more) ≡ Some (full_name rel, more)
name_again rel more is =
    named_again (full_name rel) more
    (record { space = omega arith; db = is.fits.0; rel = is.fits.1 })

creation_followed : (rel : Relation) (n : ℕ) (end : List ℕ) → IsRelation rel → n < 2 ^ 32 → length end ≡ 0 → creation_at (relation_bytes rel (to_le_bytes w32 n ++ end)) ≡ Some (full_name rel, n)
unfolding creation_at
creation_followed rel n end is lt nil =
    takes_again (named_at (relation_bytes rel (to_le_bytes w32 n ++ end))) _ (full_name rel, to_le_bytes w32 n ++ end) _ (name_again rel (to_le_bytes w32 n ++ end) is) (
    step_again w32 (2 ^ 32) wide32 (to_le_bytes w32 n ++ end) n end _ _ refl lt (passes _ _ _ _ (eq-eqb (length end) 0 nil) refl))

pub creation_again : (rel : Relation) (n : ℕ) → IsRelation rel → n < 2 ^ 32 → creation_at (relation_bytes rel (to_le_bytes w32 n)) ≡ Some (full_name rel, n)
creation_again rel n is lt = creation_followed rel n [] is lt refl

pub truncation_again : (rel : Relation) (count flags : ℕ) → IsRelation rel → count < 2 ^ 32 → flags < 2 ^ 32 → truncation_at (truncation_bytes rel count flags) ≡ Some (count, (full_name rel, flags))
unfolding truncation_at
truncation_again rel count flags is bc bf =
    step_again w32 (2 ^ 32) wide32 _ count (relation_bytes rel (to_le_bytes w32 flags)) (λ n. creation_at n.1 >>= λ named. Some (n.0, named)) _ refl bc (
    takes_again (creation_at (relation_bytes rel (to_le_bytes w32 flags))) (λ named. Some (count, named)) (full_name rel, flags) _ (creation_again rel flags is bf) refl)

-- a commit's time has room in its bytes
time_fits : (time : ℤ) → FitsSigned w64 time → cast_unsigned w64 time < 2 ^ 64
time_fits time fits = Fits-lt-pow {w = w64} {n = cast_unsigned w64 time} (Fits-of_z {w = w64} {z = time} fits)

time_followed : (time : ℤ) (end : List ℕ) → FitsSigned w64 time → length end ≡ 0 → commit_time_at (to_le_bytes w64 (cast_unsigned w64 time) ++ end) ≡ Some time
unfolding commit_time_at
time_followed time end fits nil =
    step_again w64 (2 ^ 64) wide64 _ (cast_unsigned w64 time) end _ _ refl (time_fits time fits) (passes _ _ _ _ (eq-eqb (length end) 0 nil) (ap (λ (z : ℤ). Some z) (to_z-of_z w64 time fits)))

pub time_again : (time : ℤ) → FitsSigned w64 time → commit_time_at (to_le_bytes w64 (cast_unsigned w64 time)) ≡ Some time
time_again time fits = time_followed time [] fits refl

pub bits_again : (time : ℤ) (more : List ℕ) → FitsSigned w64 time → other_bits_at (to_le_bytes w64 (cast_unsigned w64 time) ++ (to_le_bytes w32 4 ++ more)) ≡ false
unfolding other_bits_at bits_at
bits_again time more fits =
    let r1 : List ℕ = to_le_bytes w32 4 ++ more in
    ap are_other_bits (
    step_again w64 (2 ^ 64) wide64 _ (cast_unsigned w64 time) r1 _ _ refl (time_fits time fits) (
    step_again w32 (2 ^ 32) wide32 r1 4 more (λ x. Some x.0) (Some 4) refl (omega arith) refl))

pub commit_again : (time : ℤ) (n : ℕ) (names : List ℕ) → FitsSigned w64 time → n < 2 ^ 31 → length names ≡ n * 12
    → commit_at (to_le_bytes w64 (cast_unsigned w64 time) ++ (to_le_bytes w32 4 ++ (to_le_bytes w32 n ++ names))) ≡ Some (time, (n, names))
unfolding commit_at
commit_again time n names fits few len =
    let r2 : List ℕ = to_le_bytes w32 n ++ names in
    let r1 : List ℕ = to_le_bytes w32 4 ++ r2 in
    step_again w64 (2 ^ 64) wide64 _ (cast_unsigned w64 time) r1 _ _ refl (time_fits time fits) (
    step_again w32 (2 ^ 32) wide32 r1 4 r2 _ _ refl (omega arith) (
    step_again w32 (2 ^ 32) wide32 r2 n names _ _ refl (omega (arith, few)) (
    passes _ _ _ _ (and_from _ _ (lt-ltb n 0x80000000 (omega (arith, few))) (eq-eqb (length names) (n * 12) len)) (ap (λ (z : ℤ). Some (z, (n, names))) (to_z-of_z w64 time fits)))))

pub full_name_again : (rel : Relation) (more : List ℕ) → IsRelation rel → named_at (relation_bytes rel [] ++ more) ≡ Some (full_name rel, more)
full_name_again rel more is = name_again rel more is
