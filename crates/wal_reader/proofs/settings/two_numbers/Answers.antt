-- The text is two lines, and each is read in one way.
use Rattle.std.proofs.Common.{[]}
use Rattle.wal_reader.proofs.SettingsText.{second_line, second_is, nothing_behind, both_lines, is_nothing, is_something}
use Rattle.wal_reader.proofs.settings.two_numbers.Goals as goal

pub returns-in_default-clause-none : goal.returns-in_default-clause-none
returns-in_default-clause-none c = λ mib relseg small less e. c.in_default.ensures.none mib (second_line relseg) small e

pub returns-in_default-number_line-clause-none : goal.returns-in_default-number_line-clause-none
returns-in_default-number_line-clause-none c =
    λ mib relseg small less e. c.in_default-number_line.ensures.none relseg [] less (second_is c.args.bytes.now c.in-Some.tail.now c.in-Some.mib mib relseg c.in-Some.ensures.found c.in-Some.ensures.small small e)

pub returns-then-is_empty-clause-found : goal.returns-then-is_empty-clause-found
returns-then-is_empty-clause-found c =
    both_lines c.args.bytes.now c.in-Some.tail.now c.in-Some-number_line.tail.now c.in-Some.mib c.in-Some-number_line.relseg c.in-Some.ensures.found c.in-Some-number_line.ensures.found (is_nothing c.in-Some-number_line.tail.now c.if-is_empty.ensures)

pub returns-clause-none : goal.returns-clause-none
returns-clause-none c =
    λ mib relseg small less e. is_something c.in-Some-number_line.tail.now c.if-is_empty.ensures
    (nothing_behind c.in-Some.tail.now c.in-Some-number_line.tail.now c.in-Some-number_line.relseg relseg c.in-Some-number_line.ensures.found c.in-Some-number_line.ensures.small less
    (second_is c.args.bytes.now c.in-Some.tail.now c.in-Some.mib mib relseg c.in-Some.ensures.found c.in-Some.ensures.small small e))
