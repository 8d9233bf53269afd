-- The arithmetic of the paper's three quantities. Assumes nothing.
use Prim.Native.Nat.{ℕ, suc, ◌+◌, ◌*◌, ◌-◌, ◌≤◌, ◌<◌}
use mathlib.Core.Path.{◌≡◌, refl}
use native.Mathlib.Omega.{arith}
use native.Mathlib.Decide.{dec_le}
use native.Mathlib.Nat.{mul-le-mul_left}
use Rattle.scope.specs.Tree.{over}
use Rattle.tree.specs.Variant.{short, long, imbalance, excess}
use Rattle.tree.proofs.Worth.Rotate.{Grows, lean, double}

-- negative carries: none, by d, and how they grow with the local height
pub short-is : (o a d : ℕ) → short o a (a + d) ≡ o * d
unfolding short
short-is o a d = let e : (a + d) - a ≡ d = omega arith in rw e

pub short-mono : (o above h k : ℕ) → h ≤ k → short o above h ≤ short o above k
unfolding short
short-mono o above h k l = mul-le-mul_left o (let x : h - above ≤ k - above = omega arith in x)

pub short-up : (o above h d : ℕ) → short o above (h + d) ≤ short o above h + o * d
unfolding short
short-up o above h d =
    omega (arith, mul-le-mul_left o (let x : (h + d) - above ≤ (h - above) + d = omega arith in x))

-- positive ones
pub long-is : (h d : ℕ) → long (h + d) h ≡ d
unfolding long
long-is h d = omega arith

pub long-down : (above h d : ℕ) → long above h ≤ long above (h + d) + d
unfolding long
long-down above h d = omega arith

-- balances
pub apart-is : (a b : ℕ) → b ≤ a → imbalance a b + b ≡ a
unfolding imbalance
apart-is a b h = omega arith

pub apart-sym : (a b : ℕ) → imbalance a b ≡ imbalance b a
unfolding imbalance
apart-sym a b = omega arith

pub excess-is : (a b : ℕ) → b < a → excess a b + suc b ≡ a
unfolding excess
excess-is a b h = omega arith

pub excess-sym : (a b : ℕ) → excess a b ≡ excess b a
unfolding excess
excess-sym a b = omega arith

-- the rotations: a and r are v's registers, p and q u's, x and y w's
grows : Grows imbalance 1 0
unfolding imbalance
grows =
    record {
      even = apart-sym;
      next = λ a b. omega arith;
      is = λ a b h. omega arith;
      most = λ a b h. omega arith;
      less = λ a b h k l. omega arith;
    }

pub lean-apart : (a p q r : ℕ) → a ≡ suc p → q < p → r < p
    → 3 + (imbalance q r + imbalance p (over q r)) ≤ imbalance p q + imbalance a r
lean-apart = lean imbalance 1 0 3 grows refl

pub double-apart : (a p q r x y : ℕ) → a ≡ suc q → q ≡ over x y → p < q → r < q
    → 3 + (imbalance p x + (imbalance y r + imbalance (over p x) (over y r))) ≤ imbalance x y + (imbalance p q + imbalance a r)
double-apart = double imbalance 1 0 3 grows refl

-- an even u: the balances come to the same, and one of them is nearer to one
module _ (a p q r : ℕ) (e : a ≡ suc p) (f : q ≡ p) (k : r < p) where
  pub even-apart : imbalance p (over q r) + imbalance q r ≡ imbalance a r + imbalance p q
  even-apart =
      let g : over p r ≡ suc p = omega arith in
      rw (e, f, g)
      (omega (
        arith,
        apart-sym p (suc p),
        apart-is (suc p) p (omega arith),
        apart-is p r (omega arith),
        apart-is (suc p) r (omega arith),
        apart-is p p (omega arith),
      ))

  pub even-excess : excess p (over q r) + excess q r < excess a r + excess p q
  even-excess =
      let g : over p r ≡ suc p = omega arith in
      rw (e, f, g)
      (omega (
        arith,
        excess-sym p (suc p),
        excess-is (suc p) p (omega arith),
        excess-is p r k,
        excess-is (suc p) r (omega arith),
      ))

-- a propagation that raises a register by suc d, and so the local height by k
rise : (o s a b h above d k : ℕ) → h ≡ a + suc d → over h b ≡ over a b + k → k ≤ suc d
    → short o above (over h b) < short o above (over a b) + short (o + suc s) a h
rise o s a b h above d k e f l =
    rw f (rw e (omega (arith, short-up o above (over a b) k, mul-le-mul_left o l, short-is (o + suc s) a (suc d))))

pub rise-short : (o s a b h above : ℕ) → a < h
    → short o above (over h b) < short o above (over a b) + short (o + suc s) a h
rise-short o s a b h above lt =
    rise o s a b h above (h - suc a) (over h b - over a b) (omega arith) (omega arith) (omega arith)

-- one that lowers it
sink : (a b h above d k : ℕ) → a ≡ h + suc d → over a b ≡ over h b + k
    → 2 * long above (over h b) + imbalance h b < 2 * long above (over a b) + imbalance a b + 2 * long a h
sink a b h above d k e f =
    let l : long above (over h b) ≤ long above (over a b) + k = rw f (long-down above (over h b) k) in
    let z : long a h ≡ suc d = rw e (long-is h (suc d)) in
    elim (dec_le a b) [
      | yes higher ↦ omega (arith, apart-sym a b, apart-sym h b, apart-is b a higher, apart-is b h (omega arith))
      | no lower ↦ elim (dec_le b h) [
        | yes under ↦ omega (arith, apart-is a b (omega arith), apart-is h b under)
        | no between ↦ omega (arith, apart-is a b (omega arith), apart-sym h b, apart-is b h (omega arith))
      ]
    ]

pub sink-long : (a b h above : ℕ) → h < a
    → 2 * long above (over h b) + imbalance h b < 2 * long above (over a b) + imbalance a b + 2 * long a h
sink-long a b h above lt = sink a b h above (a - suc h) (over a b - over h b) (omega arith) (omega arith)
