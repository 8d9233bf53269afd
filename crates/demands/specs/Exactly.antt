-- One statement exactly if another. Assumes nothing: this is a statement.

-- A holds exactly if B does
pub record Exactly (A B : Type 0) : Type 0 where
  pub whenever : B → A
  pub only_if : A → B
