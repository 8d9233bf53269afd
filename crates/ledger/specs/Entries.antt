-- Records in a list, and what can be asked of them and done to them by stamp. Assumes nothing: these are definitions.
use Rattle.std.specs.Prelude.{ℕ, ◌+◌, ◌-◌, max, cond, List, [], ◌∷◌, leb, ltb, eqb}
use Rattle.std.proofs.Math.Option.{Option, none, some}

pub record Entry : Type 0 where
  pub key : ℕ
  pub pieces : ℕ
  pub state : ℕ

-- the record with a stamp
unfoldable pub lookup : ℕ → List Entry → Option Entry
lookup key [] = none
lookup key (e ∷ es) = cond (eqb key e.key) (some e) (lookup key es)

-- of a sorted list, the largest stamp below a given one and the smallest above it; 0 for none
unfoldable pub below : ℕ → List Entry → ℕ
below key [] = 0
below key (e ∷ es) = cond (ltb e.key key) (max e.key (below key es)) (below key es)

unfoldable pub above : ℕ → List Entry → ℕ
above key [] = 0
above key (e ∷ es) = cond (ltb key e.key) e.key (above key es)

-- the list with one more, before the first that has a larger stamp
unfoldable pub insert : Entry → List Entry → List Entry
insert new [] = new ∷ []
insert new (e ∷ es) = cond (ltb new.key e.key) (new ∷ e ∷ es) (e ∷ insert new es)

-- with another in the place of the one with its stamp, and without that one
unfoldable pub replace : Entry → List Entry → List Entry
replace new [] = []
replace new (e ∷ es) = cond (eqb new.key e.key) (new ∷ es) (e ∷ replace new es)

unfoldable pub remove : ℕ → List Entry → List Entry
remove key [] = []
remove key (e ∷ es) = cond (eqb key e.key) es (e ∷ remove key es)

-- the pieces of all with a stamp of at most K
unfoldable pub sum_to : ℕ → List Entry → ℕ
sum_to K [] = 0
sum_to K (e ∷ es) = cond (leb e.key K) e.pieces 0 + sum_to K es

-- the r-th, counted from 1
unfoldable pub nth : ℕ → List Entry → Option Entry
nth r [] = none
nth r (e ∷ es) = cond (eqb r 1) (some e) (nth (r - 1) es)
