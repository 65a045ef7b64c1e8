use Rattle.std.proofs.Common.{ℕ, List, ◌++◌, codes, ◌∙◌, ap, sym}
use Rattle.std.proofs.lemmas.Bool.Decides.{Decides-eqb}
use Rattle.std.proofs.lemmas.List.{append_cancel_left}
use Rattle.std.proofs.lemmas.Option.{IfSome_then}
use Rattle.std.proofs.lemmas.Slice.Eq.{strip_suffix_is}
use Rattle.lsn_core.proofs.byte_words.Cutting.{found_of, none_of}
use Rattle.backup_label.proofs.LineTexts.{when_none}
use Rattle.backup_label.proofs.values.file_in.Goals as goal

pub returns-clause-found : goal.returns-clause-found
returns-clause-found c =
    IfSome_then c.strip_suffix.result (found_of c.strip_suffix.result _ _ (strip_suffix_is Decides-eqb c.in-Some.file.now (codes ")") c.strip_suffix.result c.strip_suffix.ensures.cases))
    (λ x e. c.in-Some.ensures.found ∙ ap (λ (l : List ℕ). codes "(file " ++ l) e)

pub returns-clause-none : goal.returns-clause-none
returns-clause-none c =
    when_none c.strip_suffix.result _ _ (λ never file e. never file (append_cancel_left (codes "(file ") c.in-Some.file.now (file ++ codes ")") (sym c.in-Some.ensures.found ∙ e)))
    (none_of c.strip_suffix.result _ _ (strip_suffix_is Decides-eqb c.in-Some.file.now (codes ")") c.strip_suffix.result c.strip_suffix.ensures.cases))
