-- The records that make, cut and drop files.
use Rattle.std.specs.Prelude.{◌≡◌, true, ◌==◌, ◌||◌}
use Rattle.wal_record.specs.declared.record.Kind.{Kind}
use Rattle.wal_record.specs.Spelling.{manager_of}

-- a kind of record that creates a fork or cuts a relation, or a commit, which may drop relations:
-- the numbers of the transaction and the storage manager tell these (access/rmgrlist.h)
abbrev pub IsStorage : Kind → Type 0
IsStorage kind = ((manager_of kind == 1) || (manager_of kind == 2)) ≡ true
