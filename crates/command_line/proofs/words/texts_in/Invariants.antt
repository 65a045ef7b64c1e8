use Rattle.std.proofs.Common.{◌≡◌, ◌++◌, map, drop}
use Rattle.std.specs.List.{list_all}
use Rattle.std.specs.Str.{is_utf8}
use Rattle.command_line.proofs.words.texts_in.Given as goal

-- the words so far are text
abbrev pub invariant-loop-word : goal.invariant-loop-word
invariant-loop-word l = record {
  same : map (λ t. t.now) l.texts.items ++ drop l.word-index l.words ≡ l.words;
  text : list_all is_utf8 l.words ≡ list_all is_utf8 (drop l.word-index l.words);
}
