-- How far places and numbers of flat bytes are apart.
use Rattle.std.proofs.Common.{◌≡◌, ℕ, ◌+◌, ◌*◌, ◌/◌, ◌%◌, ◌≤◌, arith}
use Rattle.std.proofs.lemmas.Nat.{div-add-mod'}
use Rattle.std.proofs.Math.Nat.{mul_assoc, mul-le-mul_left}
use Rattle.lsn_core.specs.Segment.{segment_bytes}
use Rattle.wal_pages.specs.Places.{segment_flat, place, flat_before}

pub flat_bound : (mib x : ℕ) → flat_before mib x ≤ x
unfolding flat_before
flat_bound mib x =
    let q : ℕ = x / segment_bytes mib in
    let e : q * segment_bytes mib + x % segment_bytes mib ≡ x =
    div-add-mod' x (segment_bytes mib) in
    let less : segment_flat mib ≤ segment_bytes mib = omega arith in
    let a : q * segment_flat mib ≤ q * segment_bytes mib = mul-le-mul_left q less in
    omega (arith, e, a)

pub place_bound : (mib f : ℕ) → 1 ≤ mib → place mib f ≤ f + f / 128 + 41
unfolding place
place_bound mib f some =
    let q : ℕ = f / segment_flat mib in
    let e : q * segment_flat mib + f % segment_flat mib ≡ f = div-add-mod' f (segment_flat mib) in
    let less : segment_bytes mib * 128 ≤ segment_flat mib * 129 = omega (arith, some) in
    let a : q * (segment_bytes mib * 128) ≤ q * (segment_flat mib * 129) = mul-le-mul_left q less in
    let b : q * segment_bytes mib * 128 ≡ q * (segment_bytes mib * 128) =
    mul_assoc q (segment_bytes mib) 128 in
    let c : q * segment_flat mib * 129 ≡ q * (segment_flat mib * 129) =
    mul_assoc q (segment_flat mib) 129 in
    omega (arith, e, a, b, c)
