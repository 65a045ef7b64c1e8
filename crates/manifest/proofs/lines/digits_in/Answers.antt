use Rattle.std.proofs.Common.{◌≡◌, ◌++◌, Some, List, ℕ, ap, ◌∙◌}
use Rattle.std.proofs.lemmas.Slice.Eq.{strip_prefix_is, strip_suffix_is}
use Rattle.std.proofs.lemmas.Bool.Decides.{Decides-eqb}
use Rattle.lsn_core.specs.byte_words.Told.{when_told}
use Rattle.manifest.specs.Lines.{line_front, line_back}
use Rattle.lsn_core.proofs.byte_words.Cutting.{found_of}
use Rattle.manifest.proofs.lines.digits_in.Goals as goal

pub returns-clause-found : goal.returns-clause-found
returns-clause-found c =
    let begun = strip_prefix_is Decides-eqb c.args.last.now line_front (Some c.in_ok-strip_prefix.field-0) c.in_ok-strip_prefix.ensures.cases in
    when_told c.strip_suffix.result (λ d. c.in_ok-strip_prefix.field-0.now ≡ d.now ++ line_back) (λ d. c.args.last.now ≡ line_front ++ (d.now ++ line_back)) (λ d e. begun ∙ ap (λ (l : List ℕ). line_front ++ l) e)
    (found_of c.strip_suffix.result _ _ (strip_suffix_is Decides-eqb c.in_ok-strip_prefix.field-0.now line_back c.strip_suffix.result c.strip_suffix.ensures.cases))
