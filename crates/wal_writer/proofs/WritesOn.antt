-- Writing piece by piece is writing of the archive.
use Rattle.std.proofs.Common.{◌≡◌, ℕ, zero, suc, ◌+◌, ◌<◌, ◌≤◌, List, [], length, take, drop, Option, Some, None, option_map, refl, sym, ap, subst, ◌∙◌, arith}
use Rattle.std.proofs.lemmas.List.{length-drop, nil_from_length}
use Rattle.lsn_core.specs.Files.{Files}
use Rattle.wal_archive.specs.Writing.{room_in, piece_written, archive_written}
use Rattle.wal_archive.proofs.Writes.{written_none, written_more}

-- what is written so far, and the rest from a place on, make the whole
pub record WritesOn (mib at : ℕ) (bytes : List ℕ) (from : ℕ) (left : List ℕ)
    (old now : Option Files) : Type 0 where
  pub n : ℕ
  pub enough : length left ≤ n
  pub same : option_map (archive_written mib n from left) now ≡ option_map (archive_written mib
      (length bytes) at bytes) old

one_more : (mib n from : ℕ) (left : List ℕ) (now : Option Files) → 0 < length left
    → option_map (archive_written mib n (from + room_in from) (drop (room_in from) left))
    (option_map (piece_written mib from (take (room_in from) left)) now) ≡ option_map
    (archive_written mib (suc n) from left) now
one_more mib n from left None some = refl
one_more mib n from left (Some m) some = ap (λ (f : Files). let o : Option Files = Some f in o)
    (sym (written_more mib n from left m some))

writes_more : (mib at : ℕ) (bytes : List ℕ) (from : ℕ) (left : List ℕ) (old now : Option Files)
    → 0 < length left → WritesOn mib at bytes from left old now
    → WritesOn mib at bytes (from + room_in from) (drop (room_in from) left) old
    (option_map (piece_written mib from (take (room_in from) left)) now)
writes_more mib at bytes from left old now some w = go w.n w.enough w.same
  where
    go : (n : ℕ) → length left ≤ n → option_map (archive_written mib n from left) now ≡ option_map
        (archive_written mib (length bytes) at bytes) old → WritesOn mib at bytes
        (from + room_in from) (drop (room_in from) left) old (option_map (piece_written mib from
        (take (room_in from) left)) now)
    go zero enough same = absurd (omega (arith, enough, some))
    go (suc n) enough same = record {
      n = n;
      enough = omega (
        arith,
        length-drop (room_in from) left,
        enough,
      );
      same = one_more mib n from left now some ∙ same;
    }

nothing : (mib n from : ℕ) (now : Option Files) → option_map (archive_written mib n from []) now ≡
    now
nothing mib n from None = refl
nothing mib n from (Some m) = ap (λ (f : Files). let o : Option Files = Some f in o)
    (written_none mib n from m)

pub writes_all : (mib at : ℕ) (bytes : List ℕ) (from : ℕ) (left : List ℕ) (old now : Option Files)
    → length left ≡ 0 → WritesOn mib at bytes from left old now → now ≡ option_map
    (archive_written mib (length bytes) at bytes) old
writes_all mib at bytes from left old now none w = sym (nothing mib w.n from now)
    ∙ ap (λ l. option_map (archive_written mib w.n from l) now) (sym (nil_from_length left none))
    ∙ w.same

pub writes_step : (mib at : ℕ) (bytes : List ℕ) (from : ℕ) (left : List ℕ)
    (old now new : Option Files) (room : ℕ) (piece behind : List ℕ) → room ≡ room_in from
    → piece ≡ take room left → behind ≡ drop room left
    → new ≡ option_map (piece_written mib from piece) now → 0 < length left
    → WritesOn mib at bytes from left old now → WritesOn mib at bytes (from + room) behind old
    new
writes_step mib at bytes from left old now new room piece behind room_is piece_is behind_is new_is
    long w =
    let step : List ℕ → Option Files = λ p. option_map (piece_written mib from p) now in
    let one = writes_more mib at bytes from left old now long w in
    let two : WritesOn mib at bytes (from + room) (drop room left) old (step (take room left)) =
    subst (λ r. WritesOn mib at bytes (from + r) (drop r left) old (step (take r left)))
    (sym room_is) one in
    let three : WritesOn mib at bytes (from + room) behind old (step (take room left)) =
    subst (λ l. WritesOn mib at bytes (from + room) l old (step (take room left)))
    (sym behind_is) two in
    let four : WritesOn mib at bytes (from + room) behind old (step piece) =
    subst (λ p. WritesOn mib at bytes (from + room) behind old (step p)) (sym piece_is) three in
    subst (λ o. WritesOn mib at bytes (from + room) behind old o) (sym new_is) four
