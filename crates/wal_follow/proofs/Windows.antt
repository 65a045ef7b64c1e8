-- What a window holds as it takes pieces and forgets bytes.
use Rattle.std.proofs.Common.{◌≡◌, ℕ, ◌+◌, ◌-◌, ◌≤◌, min, inl, inr, List, [], ◌∷◌, ◌++◌, length, take, drop, replicate, get_or, refl, sym, ap, ◌∙◌, arith}
use Rattle.std.proofs.lemmas.Bool.{cases_lt}
use Rattle.std.proofs.lemmas.List.{nil_from_length, append_assoc, append-nil, take_all, take_more, drop-append-le, drop-replicate, drop_all, replicate-append-replicate}
use Rattle.std.proofs.Math.Seq.{drop-append-add}
use Rattle.wal_record.specs.Tips.{wal_limit}
use Rattle.stream_laws.specs.Windows.{Span, span_top}
use Rattle.wal_follow.specs.Window.{span_tail, IsLastNonzero, StaysAt, HoldsPiece, TakesPiece}

-- ---- zeros at the end of a piece

pub all_nonzero : (piece : List ℕ) → IsLastNonzero piece (length piece)
all_nonzero piece = record {
  within = omega arith;
  zeros =
      let none : length piece - length piece ≡ 0 = omega arith in
      sym (ap (λ (n : ℕ). take (length piece) piece ++ replicate n 0) none ∙ (append-nil (take (length piece) piece) ∙ take_all (length piece) piece (omega arith)));
}

-- one zero more
pub one_less : (piece : List ℕ) (end before : ℕ) → IsLastNonzero piece end → end ≡ before + 1 → get_or piece before 0 ≡ 0 → IsLastNonzero piece before
one_less piece end before is at zero_there =
    let within = is.within in
    let more : take (before + 1) piece ≡ take before piece ++ (0 ∷ []) =
    take_more piece before 0 (omega (arith, within, at)) ∙ ap (λ (b : ℕ). take before piece ++ (b ∷ [])) zero_there in
    let one : ◌++◌ {A = ℕ} (0 ∷ []) (replicate (length piece - end) 0) ≡ replicate (length piece - before) 0 =
    replicate-append-replicate 1 (length piece - end) 0 ∙ ap (λ (n : ℕ). replicate n 0) (let n : 1 + (length piece - end) ≡ length piece - before = omega (arith, within, at) in n) in
    record {
      within = omega (arith, within, at);
      zeros = is.zeros
          ∙ (ap (λ (n : ℕ). take n piece ++ replicate (length piece - end) 0) at
          ∙ (ap (λ (l : List ℕ). l ++ replicate (length piece - end) 0) more
          ∙ (append_assoc (take before piece) (0 ∷ []) (replicate (length piece - end) 0)
          ∙ ap (λ (l : List ℕ). take before piece ++ l) one)));
    }

-- ---- a piece behind the bytes

-- nothing came
pub nothing_held : (tail piece : List ℕ) → length piece ≡ 0 → tail ≡ tail ++ piece
nothing_held tail piece none = sym (ap (λ (l : List ℕ). tail ++ l) (nil_from_length piece none) ∙ append-nil tail)

-- the zeros are held, and a piece behind them
pub piece_held : (bytes piece more now : List ℕ) (count : ℕ) → more ≡ bytes ++ replicate count 0 → now ≡ more ++ piece → now ++ replicate 0 0 ≡ (bytes ++ replicate count 0) ++ piece
piece_held bytes piece more now count first second =
    append-nil now ∙ (second ∙ ap (λ (l : List ℕ). l ++ piece) first)

-- the bytes of a piece but for the zeros at its end, and then these
pub zeros_counted : (bytes tail piece cut whole : List ℕ) (zeros end count : ℕ) → whole ≡ cut → IsLastNonzero whole end → piece ≡ take end whole → bytes ++ replicate zeros 0 ≡ tail ++ piece → count ≡ zeros + (length whole - end) → bytes ++ replicate count 0 ≡ tail ++ cut
zeros_counted bytes tail piece cut whole zeros end count whole_is is piece_is held count_is =
    ap (λ (n : ℕ). bytes ++ replicate n 0) count_is
    ∙ (ap (λ (l : List ℕ). bytes ++ l) (sym (replicate-append-replicate zeros (length whole - end) 0))
    ∙ (sym (append_assoc bytes (replicate zeros 0) (replicate (length whole - end) 0))
    ∙ (ap (λ (l : List ℕ). l ++ replicate (length whole - end) 0) held
    ∙ (append_assoc tail piece (replicate (length whole - end) 0)
    ∙ ap (λ (l : List ℕ). tail ++ l) (ap (λ (l : List ℕ). l ++ replicate (length whole - end) 0) piece_is ∙ (sym is.zeros ∙ whole_is))))))

-- so a whole piece came
pub piece_taken : (w h : Span) (piece whole front : List ℕ) (end : ℕ) → StaysAt w h → HoldsPiece w front h → whole ≡ take (wal_limit w.mib - span_top w) piece → IsLastNonzero whole end → front ≡ take end whole → TakesPiece w piece (record h { zeros = h.zeros + (length whole - end) })
piece_taken w h piece whole front end stays holds whole_is is front_is = record {
  mib = stays.mib;
  base = stays.base;
  tail = zeros_counted h.bytes (span_tail w) front (take (wal_limit w.mib - span_top w) piece) whole h.zeros end (h.zeros + (length whole - end)) whole_is is front_is holds.tail refl;
}

-- ---- bytes that are forgotten

pub forgotten : (bytes : List ℕ) (zeros gone count left : ℕ) → count ≡ min gone (length bytes) → left ≡ zeros - (gone - count) → gone ≤ length bytes + zeros → drop count bytes ++ replicate left 0 ≡ drop gone (bytes ++ replicate zeros 0)
forgotten bytes zeros gone count left few rest within =
    elim (cases_lt (length bytes) gone) [
      | inl more ↦
          let all : count ≡ length bytes = omega (arith, few, more) in
          let at : gone ≡ length bytes + (gone - length bytes) = omega (arith, more) in
          let n : left ≡ zeros - (gone - length bytes) = omega (arith, rest, all) in
          ap (λ (l : List ℕ). l ++ replicate left 0) (drop_all count bytes (omega (arith, all)))
          ∙ (ap (λ (k : ℕ). replicate k 0) n
          ∙ (sym (drop-replicate (gone - length bytes) zeros 0)
          ∙ (sym (drop-append-add bytes (replicate zeros 0) (gone - length bytes))
          ∙ ap (λ (k : ℕ). drop k (bytes ++ replicate zeros 0)) (sym at))))
      | inr le ↦
          let all : count ≡ gone = omega (arith, few, le) in
          let n : left ≡ zeros = omega (arith, rest, all) in
          ap (λ (k : ℕ). drop k bytes ++ replicate left 0) all
          ∙ (ap (λ (k : ℕ). drop gone bytes ++ replicate k 0) n
          ∙ sym (drop-append-le gone bytes (replicate zeros 0) le))
    ]
