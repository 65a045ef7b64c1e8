-- A page made from nothing.
use Rattle.std.proofs.Common.{◌≡◌, ℕ, ◌+◌, ◌-◌, ◌≤◌, List, [], ◌++◌, length, replicate, refl, sym, ap, ◌∙◌, arith}
use Rattle.std.proofs.lemmas.List.{length-append, length-replicate, append-nil, append_assoc, replicate-append-replicate}
use Rattle.lsn_core.specs.byte_words.Pieces.{overwritten}
use Rattle.lsn_core.proofs.byte_words.Overwritten.{overwritten_between}
use Rattle.pg_page.specs.Header.{IsGood, made_page, made_fields}

abbrev zeros : ℕ → List ℕ
zeros n = replicate n 0

zeros_apart : (m n k : ℕ) → k ≡ m + n → zeros k ≡ zeros m ++ zeros n
zeros_apart m n k e = ap zeros e ∙ sym (replicate-append-replicate m n 0)

-- zeros in six parts
zeros_in_parts : (a b c d e f size : ℕ) → size ≡ a + (b + (c + (d + (e + f)))) → zeros size ≡ zeros a ++ (zeros b ++ (zeros c ++ (zeros d ++ (zeros e ++ zeros f))))
zeros_in_parts a b c d e f size sum =
    zeros_apart a (b + (c + (d + (e + f)))) size sum
    ∙ ap (λ (l : List ℕ). zeros a ++ l) (zeros_apart b (c + (d + (e + f))) _ refl
    ∙ ap (λ (l : List ℕ). zeros b ++ l) (zeros_apart c (d + (e + f)) _ refl
    ∙ ap (λ (l : List ℕ). zeros c ++ l) (zeros_apart d (e + f) _ refl
    ∙ ap (λ (l : List ℕ). zeros d ++ l) (zeros_apart e f _ refl))))

regrouped : (x y z rest : List ℕ) → x ++ (y ++ (z ++ rest)) ≡ (x ++ (y ++ z)) ++ rest
regrouped x y z rest = ap (λ (l : List ℕ). x ++ l) (sym (append_assoc y z rest)) ∙ sym (append_assoc x (y ++ z) rest)

-- six parts, of which the second, fourth and last are written over
thrice : (a b c d e f b' d' f' : List ℕ) (first head last : ℕ)
    → length a ≡ first → length b' ≡ length b → length (a ++ (b' ++ c)) ≡ head → length d' ≡ length d → length ((a ++ (b' ++ c)) ++ (d' ++ e)) ≡ last → length f' ≡ length f
    → overwritten (overwritten (overwritten (a ++ (b ++ (c ++ (d ++ (e ++ f))))) first b') head d') last f' ≡ a ++ (b' ++ (c ++ (d' ++ (e ++ f'))))
thrice a b c d e f b' d' f' first head last at1 len1 at2 len2 at3 len3 =
    ap (λ (l : List ℕ). overwritten (overwritten l head d') last f') (overwritten_between a b (c ++ (d ++ (e ++ f))) b' first at1 len1)
    ∙ ap (λ (l : List ℕ). overwritten (overwritten l head d') last f') (regrouped a b' c (d ++ (e ++ f)))
    ∙ ap (λ (l : List ℕ). overwritten l last f') (overwritten_between (a ++ (b' ++ c)) d (e ++ f) d' head at2 len2)
    ∙ ap (λ (l : List ℕ). overwritten l last f') (regrouped (a ++ (b' ++ c)) d' e f)
    ∙ ap (λ (l : List ℕ). overwritten (((a ++ (b' ++ c)) ++ (d' ++ e)) ++ l) last f') (sym (append-nil f))
    ∙ overwritten_between ((a ++ (b' ++ c)) ++ (d' ++ e)) f [] f' last at3 len3
    ∙ ap (λ (l : List ℕ). ((a ++ (b' ++ c)) ++ (d' ++ e)) ++ l) (append-nil f')
    ∙ sym (regrouped (a ++ (b' ++ c)) d' e f')
    ∙ sym (regrouped a b' c (d' ++ (e ++ f')))

-- zeros written over in the header's places, and from the header's end and the hole's end on
pub written_thrice : (size first gap head lower upper fill : ℕ) (fields : List ℕ) → head ≡ first + length fields + gap → head ≤ lower → lower ≤ upper → upper ≤ size
    → overwritten (overwritten (overwritten (replicate size 0) first fields) head (replicate (lower - head) fill)) upper (replicate (size - upper) fill)
    ≡ replicate first 0 ++ (fields ++ (replicate gap 0 ++ (replicate (lower - head) fill ++ (replicate (upper - lower) 0 ++ replicate (size - upper) fill))))
written_thrice size first gap head lower upper fill fields places least order most =
    let len : (n x : ℕ) → length (replicate n x) ≡ n = λ n x. length-replicate n x in
    ap (λ (l : List ℕ). overwritten (overwritten (overwritten l first fields) head (replicate (lower - head) fill)) upper (replicate (size - upper) fill))
    (zeros_in_parts first (length fields) gap (lower - head) (upper - lower) (size - upper) size (omega arith))
    ∙ thrice (zeros first) (zeros (length fields)) (zeros gap) (zeros (lower - head)) (zeros (upper - lower)) (zeros (size - upper)) fields (replicate (lower - head) fill) (replicate (size - upper) fill) first head upper
    (len first 0)
    (sym (len (length fields) 0))
    (omega (arith, len first 0, len gap 0, length-append (zeros first) (fields ++ zeros gap), length-append fields (zeros gap)))
    (len (lower - head) fill ∙ sym (len (lower - head) 0))
    (omega (arith, len first 0, len gap 0, len (lower - head) fill, len (upper - lower) 0, length-append (zeros first) (fields ++ zeros gap), length-append fields (zeros gap), length-append (zeros first ++ (fields ++ zeros gap)) (replicate (lower - head) fill ++ zeros (upper - lower)), length-append (replicate (lower - head) fill) (zeros (upper - lower))))
    (len (size - upper) fill ∙ sym (len (size - upper) 0))

length-made_fields : (lower upper : ℕ) → length (made_fields lower upper) ≡ 8
unfolding made_fields
length-made_fields lower upper = refl

-- what the places of a page's fields are
pub made_places : (lower upper : ℕ) → 24 ≡ 12 + length (made_fields lower upper) + 4
made_places lower upper = omega (arith, length-made_fields lower upper)

pub made_good : (lower upper fill : ℕ) → 24 ≤ lower → lower ≤ upper → upper ≤ 8192 → IsGood (made_page lower upper fill)
unfolding made_page made_fields
made_good lower upper fill least order most = record {
  whole = omega (arith, length-append (replicate (lower - 24) fill) (replicate (upper - lower) 0 ++ replicate (8192 - upper) fill), length-append (replicate (upper - lower) 0) (replicate (8192 - upper) fill), length-replicate (lower - 24) fill, length-replicate {A = ℕ} (upper - lower) 0, length-replicate (8192 - upper) fill);
  version = refl;
  lower = omega arith;
  upper = omega arith;
  special = omega arith;
  top = omega arith;
}
