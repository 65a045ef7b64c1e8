use Rattle.std.specs.Prelude.{ℕ}

-- a relation of tablespace 1663, by its database and its number
pub record Relation : Type 0 where
  pub db : ℕ
  pub rel : ℕ
