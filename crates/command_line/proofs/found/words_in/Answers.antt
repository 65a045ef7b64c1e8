use Rattle.std.proofs.Common.{◌≡◌, ◌∙◌, ap, sym, List, [], map, Option, option_map, Bor}
use Rattle.std.specs.Prelude.{unwrap_or}
use Rattle.std.proofs.lemmas.Result.{IfOk-weaker}
use Rattle.clap.specs.Walk.{Text, rows_of, all_of}
use Rattle.clap.specs.Matches.{found_of}
use Rattle.clap.proofs.WalkLemmas.{raw_values-rows}
use Rattle.command_line.proofs.found.words_in.Goals as goal

abbrev or_none : Option (List Text) → List Text
or_none o = unwrap_or o []

abbrev lent : Option (Bor (List (Bor Text))) → Option (List Text)
lent = option_map (λ s. map (λ v. v.now) s.now)

pub returns-in-None : goal.returns-in-None
returns-in-None c =
    let all : lent c.get_strs.result ≡ all_of c.args.id.now (rows_of (found_of c.args.found.now)) = c.get_strs.ensures ∙ raw_values-rows (found_of c.args.found.now) c.args.id.now in
    c.new.ensures.items ∙ ap or_none (sym (ap lent c.in-None.is) ∙ all)

pub returns-in-Some : goal.returns-in-Some
returns-in-Some c =
    let all : lent c.get_strs.result ≡ all_of c.args.id.now (rows_of (found_of c.args.found.now)) = c.get_strs.ensures ∙ raw_values-rows (found_of c.args.found.now) c.args.id.now in
    IfOk-weaker c.copies_of.result _ _ (λ words e. e ∙ ap or_none (sym (ap lent c.in-Some.is) ∙ all)) c.copies_of.ensures
