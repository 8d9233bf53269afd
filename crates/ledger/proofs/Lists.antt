-- Lists of records: two one after the other, and what holds of every stamp. Assumes nothing.
use Prim.Native.Nat.{ℕ, ◌+◌}
use mathlib.Core.Path.{◌≡◌, refl, sym, ◌∙◌, ap}
use mathlib.Core.Bool.{true, false, cond}
use mathlib.Core.Option.{Option, none, some}
use mathlib.Core.List.{List, [], ◌∷◌, ◌++◌, append_assoc}
use native.Mathlib.Omega.{arith}
use lib.Dec.{eqb, ltb}
use Rattle.scope.proofs.Bools.{by_bool, never}
use Rattle.ledger.specs.Entries.{Entry, lookup, insert, replace, remove, sum_to}
use Rattle.ledger.specs.Sorted.{EachStamp}

-- the first, where it is there
abbrev pub or_else : Option Entry → Option Entry → Option Entry
or_else none y = y
or_else (some e) y = some e

pub lookup-append : (key : ℕ) (xs ys : List Entry) → lookup key (xs ++ ys) ≡ or_else (lookup key xs) (lookup key ys)
unfolding lookup
lookup-append key [] ys = refl
lookup-append key (x ∷ xs) ys =
    by_bool (eqb key x.key) (λ e. simp e) (λ e. simp e (lookup-append key xs ys))

pub sum-append : (K : ℕ) (xs ys : List Entry) → sum_to K (xs ++ ys) ≡ sum_to K xs + sum_to K ys
unfolding sum_to
sum-append K [] ys = omega arith
sum-append K (x ∷ xs) ys = omega (arith, sum-append K xs ys)

-- where a stamp is not, nothing is replaced; so only the part that has it is
pub not-here : {X : Type 0} (key : ℕ) (x : Entry) (xs : List Entry) → lookup key (x ∷ xs) ≡ none
    → (eqb key x.key ≡ false → lookup key xs ≡ none → X) → X
unfolding lookup
not-here key x xs e k =
    by_bool (eqb key x.key)
    (λ p. let q = simp p at e in never cc)
    (λ p. k p (simp p at e))

-- an operation that puts `mid` where the first record with a stamp is
module _ (key : ℕ) (mid : List Entry) (op : List Entry → List Entry) (nil : op [] ≡ [])
    (step : (x : Entry) (xs : List Entry) → op (x ∷ xs) ≡ cond (eqb key x.key) (mid ++ xs) (x ∷ op xs)) where
  op-none : (xs : List Entry) → lookup key xs ≡ none → op xs ≡ xs
  op-none [] e = nil
  op-none (x ∷ xs) e = not-here key x xs e (λ p q. step x xs ∙ rw (p, op-none xs q) refl)

  op-left : (xs ys : List Entry) → lookup key ys ≡ none → op (xs ++ ys) ≡ op xs ++ ys
  op-left [] ys e = rw nil (op-none ys e)
  op-left (x ∷ xs) ys e =
      rw (step x (xs ++ ys), step x xs)
      (by_bool (eqb key x.key)
      (λ p. rw p (sym (append_assoc mid xs ys))) (λ p. rw p (ap (λ zs. x ∷ zs) (op-left xs ys e))))

  op-right : (xs ys : List Entry) → lookup key xs ≡ none → op (xs ++ ys) ≡ xs ++ op ys
  op-right [] ys e = refl
  op-right (x ∷ xs) ys e =
      not-here key x xs e (λ p q. step x (xs ++ ys) ∙ rw p (ap (λ zs. x ∷ zs) (op-right xs ys q)))

-- so a record is replaced, or removed, in the part that has its stamp
module _ (new : Entry) where
  pub replace-left : (xs ys : List Entry) → lookup new.key ys ≡ none → replace new (xs ++ ys) ≡ replace new xs ++ ys
  unfolding replace
  replace-left xs ys e = op-left new.key (new ∷ []) (replace new) refl (λ x zs. refl) xs ys e

  pub replace-right : (xs ys : List Entry) → lookup new.key xs ≡ none → replace new (xs ++ ys) ≡ xs ++ replace new ys
  unfolding replace
  replace-right xs ys e = op-right new.key (new ∷ []) (replace new) refl (λ x zs. refl) xs ys e

module _ (key : ℕ) where
  pub remove-left : (xs ys : List Entry) → lookup key ys ≡ none → remove key (xs ++ ys) ≡ remove key xs ++ ys
  unfolding remove
  remove-left xs ys e = op-left key [] (remove key) refl (λ x zs. refl) xs ys e

  pub remove-right : (xs ys : List Entry) → lookup key xs ≡ none → remove key (xs ++ ys) ≡ xs ++ remove key ys
  unfolding remove
  remove-right xs ys e = op-right key [] (remove key) refl (λ x zs. refl) xs ys e

-- what holds of every stamp of two lists
pub each-join : (P : ℕ → Type 0) (xs ys : List Entry) → EachStamp P xs → EachStamp P ys → EachStamp P (xs ++ ys)
each-join P [] ys h k = k
each-join P (x ∷ xs) ys h k = (h.0, each-join P xs ys h.1 k)

-- what follows of every stamp, and of what holds twice
pub each_map : (P Q : ℕ → Type 0) (es : List Entry) → ((stamp : ℕ) → P stamp → Q stamp) → EachStamp P es → EachStamp Q es
each_map P Q [] f h = tt
each_map P Q (e ∷ es) f h = (f e.key h.0, each_map P Q es f h.1)

pub each_both : (P Q : ℕ → Type 0) (es : List Entry) → EachStamp P es → EachStamp Q es
    → EachStamp (λ stamp. P stamp × Q stamp) es
each_both P Q [] h k = tt
each_both P Q (e ∷ es) h k = ((h.0, k.0), each_both P Q es h.1 k.1)

-- no stamp of a list is larger
abbrev pub NoneAfter : ℕ → List Entry → Type 0
NoneAfter key = EachStamp (λ stamp. ltb key stamp ≡ false)

-- a record goes into the first part where the second begins with a larger stamp, and into the second where the first has none
module _ (new : Entry) where
  pub insert-left : (xs : List Entry) (y : Entry) (ys : List Entry) → ltb new.key y.key ≡ true
      → insert new (xs ++ (y ∷ ys)) ≡ insert new xs ++ (y ∷ ys)
  unfolding insert
  insert-left [] y ys e = rw e refl
  insert-left (x ∷ xs) y ys e =
      by_bool (ltb new.key x.key) (λ p. simp p) (λ p. simp (p, insert-left xs y ys e))

  pub insert-right : (xs ys : List Entry) → NoneAfter new.key xs → insert new (xs ++ ys) ≡ xs ++ insert new ys
  unfolding insert
  insert-right [] ys h = refl
  insert-right (x ∷ xs) ys h = simp (h.0, insert-right xs ys h.1)
