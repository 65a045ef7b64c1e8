-- What is read so far, and what the rest of an entry gives, make the whole.
use Rattle.std.proofs.Common.{◌≡◌, ℕ, suc, ◌-◌, ◌%◌, ◌≤◌, min, true, leb, List, [], ◌++◌, refl, sym, ap, ◌∙◌, arith, append_assoc}
use Rattle.std.specs.Prelude.{Result, Ok, Err}
use Rattle.std.proofs.lemmas.Bool.{le-leb}
use Rattle.wal_archive.specs.Archive.{Archive}
use Rattle.wal_archive.specs.declared.fault.Damage.{Damage}
use Rattle.wal_archive.specs.Rules.{◌>>=◌, bytes_at, entry_bytes}
use Rattle.wal_archive.proofs.Runs.{ok}

-- some bytes in front of what a reading gives
abbrev pub behind : List ℕ → Result (List ℕ) Damage → Result (List ℕ) Damage
behind front r = r >>= λ more. Ok (front ++ more)

-- what is read so far and what the rest of the walk gives make the whole
abbrev pub GoesOn : Archive → ℕ → ℕ → ℕ → ℕ → ℕ → ℕ → List ℕ → Result (List ℕ) Damage → Type 0
GoesOn a mib system begin n at left front whole =
    behind front (entry_bytes a mib system begin n at left) ≡ whole

behind_none : (r : Result (List ℕ) Damage) → behind [] r ≡ r
behind_none (Ok l) = refl
behind_none (Err d) = refl

pub behind_behind : (front piece : List ℕ) (r : Result (List ℕ) Damage)
    → behind front (behind piece r) ≡ behind (front ++ piece) r
behind_behind front piece (Ok l) = ap ok (sym (append_assoc front piece l))
behind_behind front piece (Err d) = refl

pub goes_first : (a : Archive) (mib system begin x count : ℕ)
    → GoesOn a mib system begin count x count [] (entry_bytes a mib system begin count x count)
goes_first a mib system begin x count = behind_none (entry_bytes a mib system begin count x count)

-- the last piece
pub goes_last : (a : Archive) (mib system begin n at left : ℕ) (front piece : List ℕ)
    (whole : Result (List ℕ) Damage) → left ≤ 8192 - at % 8192
    → bytes_at a mib begin at left ≡ Ok piece
    → GoesOn a mib system begin (suc n) at left front whole → whole ≡ Ok (front ++ piece)
unfolding entry_bytes
goes_last a mib system begin n at left front piece whole fits read on =
    let m : min left (8192 - at % 8192) ≡ left = omega (arith, fits) in
    let r : bytes_at a mib begin at (min left (8192 - at % 8192)) ≡ Ok piece =
    ap (bytes_at a mib begin at) m ∙ read in
    let t : leb left (8192 - at % 8192) ≡ true = le-leb _ _ fits in
    sym on ∙ rw (r, t) refl

-- a piece that can't be read
pub goes_bad : (a : Archive) (mib system begin n at left : ℕ) (front : List ℕ) (d : Damage)
    (whole : Result (List ℕ) Damage) → bytes_at a mib begin at (min left (8192 - at % 8192)) ≡ Err d
    → GoesOn a mib system begin (suc n) at left front whole → whole ≡ Err d
unfolding entry_bytes
goes_bad a mib system begin n at left front d whole read on = sym on ∙ rw read refl
