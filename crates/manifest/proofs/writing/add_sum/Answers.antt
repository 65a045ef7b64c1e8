use Rattle.std.proofs.Common.{◌≡◌, ◌++◌, List, ℕ, ◌∙◌, append_assoc}
use Rattle.manifest.specs.Lines.{line_front, line_back}
use Rattle.manifest.proofs.writing.add_sum.Goals as goal

joined : (lines digits : List ℕ) → ((lines ++ line_front) ++ digits) ++ line_back ≡ lines ++ (line_front ++ (digits ++ line_back))
joined lines digits = append_assoc (lines ++ line_front) digits line_back ∙ append_assoc lines line_front (digits ++ line_back)

pub returns : goal.returns
returns c =
    rw (c.in_ok-extend_from_slice-3.ensures.items, c.in_ok-extend_from_slice-2.ensures.items, c.in_ok-extend_from_slice.ensures.items, c.as_bytes.ensures.value, c.in_ok-digits.ensures, c.digest-sum.ensures) (joined c.args.lines.now.items _)
