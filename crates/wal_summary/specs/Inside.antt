-- What the crate's private functions do: no public contract cites these.
use Rattle.std.specs.Prelude.{ℕ, ◌==◌, ◌&&◌, false, List, [], ◌∷◌, Option, Some, None, if◌then◌else◌}
use Rattle.lsn_core.specs.Relation.{Relation}
use Rattle.lsn_core.specs.declared.ids.ForkId.{ForkId}
use Rattle.wal_record.specs.declared.record.BlockRef.{BlockRef}
use Rattle.history.specs.Apply.{is_same_fork, is_fork_of}
use Rattle.history.specs.fuzzy_copies.Summary.{BlockRefTable}
use Rattle.wal_summary.specs.declared.fork_marks.ForkMarks.{ForkMarks}
use Rattle.wal_summary.specs.declared.summary.ForkSummary.{ForkSummary}
use Rattle.wal_summary.specs.declared.summary.Summary.{Summary}
use Rattle.wal_summary.specs.Summary.{is_told}
use Rattle.wal_summary.specs.Kept.{covers}

-- a table that lists one block alone
abbrev pub block_table : ForkId → ℕ → BlockRefTable
block_table fork block = record {
  limit = λ f. None;
  listed = λ f b. is_same_fork f fork && (b == block);
}

abbrev pub table_of_ref : BlockRef → BlockRefTable
table_of_ref block = block_table block.at.fork block.at.block

-- a table that limits one fork alone, where there is a limit
abbrev pub limit_table : ForkId → Option ℕ → BlockRefTable
limit_table fork limit = record {
  limit = λ f. if is_same_fork f fork then limit else None;
  listed = λ f b. false;
}

-- a table that limits all forks of a relation to 0
abbrev pub rel_table : Relation → BlockRefTable
rel_table rel = record {
  limit = λ f. if is_fork_of f rel then Some 0 else None;
  listed = λ f b. false;
}

-- the forks of a map that have a limit or blocks, as a summary has them
abbrev pub forks_of : List (ForkId × ForkMarks) → List ForkSummary
forks_of [] = []
forks_of (e ∷ es) =
    if is_told e.1.limit e.1.blocks.keys
    then record { fork = e.0; limit = e.1.limit; blocks = e.1.blocks.keys } ∷ forks_of es
    else forks_of es

-- where a walk over kept summaries is behind one of them: at its end, where it covers the place
abbrev pub past : ℕ → Summary → ℕ
past place sum = if covers place sum then sum.end.0 else place
