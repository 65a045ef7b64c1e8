use Rattle.std.proofs.Common.{sym, ◌∙◌}
use Rattle.scripts.proofs.Pieces.{word_none, word_before, word_last}
use Rattle.scripts.proofs.cuts.first_word.Goals as goal

pub returns-in-None : goal.returns-in-None
returns-in-None c = word_none c.args.text.now (sym c.in-None.is ∙ c.word_place.ensures.place)

pub returns-in-Some-blank_place : goal.returns-in-Some-blank_place
returns-in-Some-blank_place c =
    word_before c.args.text.now c.behind-word.result.now c.behind.result.now c.in-Some.start c.in-Some-blank_place.end (sym c.in-Some.is ∙ c.word_place.ensures.place) c.behind-word.ensures
    (sym c.in-Some-blank_place.is ∙ c.blank_place.ensures.place) c.behind.ensures

pub returns-in-None-blank_place : goal.returns-in-None-blank_place
returns-in-None-blank_place c =
    word_last c.args.text.now c.behind-word.result.now c.behind-in-None-blank_place.result.now c.in-Some.start (sym c.in-Some.is ∙ c.word_place.ensures.place) c.behind-word.ensures
    (sym c.in-None-blank_place.is ∙ c.blank_place.ensures.place) c.behind-in-None-blank_place.ensures
