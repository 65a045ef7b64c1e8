use Rattle.std.proofs.Common.{◌≡◌, ◌++◌, length}
use Rattle.std.specs.Vec.Iter.{into_iter_items, into_iter_len}
use Rattle.run_command.proofs.lending.keep_names.Given as goal

-- what is left of the names would stand behind those that are kept
abbrev pub invariant-loop-name : goal.invariant-loop-name
invariant-loop-name l =
    (l.names.items ++ into_iter_items l.name-iterator ≡ l.fn.names.items ++ l.fn.more.items)
    × (into_iter_len l.name-iterator ≡ length (into_iter_items l.name-iterator))
