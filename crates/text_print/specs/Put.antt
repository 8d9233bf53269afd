-- Text put into a lent buffer (document 01, "The program").
use Rattle.std.specs.Prelude.{ℕ, ◌+◌, ◌≤◌, ◌≡◌, List, [], ◌∷◌, length, set}

-- the buffer with the text in it from the place `at` on, and all else as it was
unfoldable pub laid : List ℕ → ℕ → List ℕ → List ℕ
laid buffer at [] = buffer
laid buffer at (c ∷ text) = laid (set buffer at c) (at + 1) text

-- a text was put at the place `at`: the buffer then, and the place after the text
pub record Put (old : List ℕ) (at : ℕ) (text new : List ℕ) (next : ℕ) : Type 0 where
  pub holds : new ≡ laid old at text
  pub place : next ≡ at + length text

-- and the text has at most so many bytes
pub record PutIn (old : List ℕ) (at : ℕ) (text new : List ℕ) (next most : ℕ) : Type 0 where
  pub put : Put old at text new next
  pub within : next ≤ at + most
