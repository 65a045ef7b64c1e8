-- What `{:08X}` writes is eight digits.
use Rattle.std.proofs.Common.{◌≡◌, ℕ, ◌-◌, ◌^◌, false, true, [], length, refl, arith}
use Rattle.std.proofs.lemmas.List.{append-nil}
use Rattle.std.specs.Fmt.{padded_integral, format_spec, digits, char_count}
use Rattle.lsn_core.specs.Names.{eight_digits}

pub padded_eight : (n : ℕ) → padded_integral (format_spec 32 0 4 8 (2 ^ 64 - 1)) false [] (digits 16 true n) ≡ eight_digits n
unfolding padded_integral char_count
padded_eight n =
    let e : 8 - length (digits 16 true n) - 0 - 0 ≡ 8 - length (digits 16 true n) = omega arith in
    rw (e, append-nil (digits 16 true n)) refl
