use Rattle.std.proofs.Common.{◌≡◌, ◌∙◌, sym, ap, List, ℕ, Ok, true≢false}
use Rattle.hex.specs.Hex.{decode_sized}
use Rattle.hex.proofs.HexLemmas.{decode_sized-twice}
use Rattle.lsn_core.proofs.byte_words.Cutting.{none_anyway}
use Rattle.manifest.proofs.Cut.{last_line, same_digits}
use Rattle.manifest.proofs.lines.sum_line.Goals as goal

pub returns-in_err-digits-clause-none : goal.returns-in_err-digits-clause-none
returns-in_err-digits-clause-none c =
    none_anyway c.from_residual.result _ (λ lines sum is. c.in_err-digits.ensures.none is.digits (c.split_at.ensures.back ∙ last_line c.args.bytes.now lines sum is))

pub returns-in_err-sum-clause-none : goal.returns-in_err-sum-clause-none
returns-in_err-sum-clause-none c =
    none_anyway c.from_residual-in_err-sum.result _ (λ lines sum is.
    let same = same_digits c.in_ok-digits.digits.now is.digits (sym c.in_ok-digits.ensures.found ∙ (c.split_at.ensures.back ∙ last_line c.args.bytes.now lines sum is)) in
    let ok : c.from_hex.result ≡ Ok sum = c.from_hex.ensures ∙ (ap (λ (d : List ℕ). decode_sized d 32) same ∙ (decode_sized-twice is.digits 32 is.long ∙ is.said)) in
    true≢false (sym (rw ok at c.in_err-sum.ensures.variant)))
