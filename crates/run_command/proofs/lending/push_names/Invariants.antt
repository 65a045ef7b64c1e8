use Rattle.std.proofs.Common.{◌≡◌, ◌++◌, map, drop}
use Rattle.run_command.proofs.lending.push_names.Given as goal

-- the names before this one stand behind the others
abbrev pub invariant-loop-name : goal.invariant-loop-name
invariant-loop-name l = l.names.items ++ map (λ name. name.now) (drop l.name-index l.more) ≡ l.fn.names.items ++ map (λ name. name.now) l.more
