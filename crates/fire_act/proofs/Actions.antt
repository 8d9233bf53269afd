-- Words written one after the other are the parts of an action, and the parts the action. Assumes nothing.
use Prim.Native.Nat.{ℕ}
use mathlib.Core.Path.{◌≡◌}
use mathlib.Core.List.{List}
use Rattle.scope.specs.Numbers.{other}
use Rattle.scope.specs.Table.{son, written}
use Rattle.scope.specs.Edits.{son_on, register_on, place_of, writes}
use Rattle.scope.specs.Tree.{over}
use Rattle.scope.specs.Rules.{seen, localh, propagated, rotated, rotated_twice, rotated_links, rotated_heights}
use Rattle.scope.specs.Rules.{twice_top, twice_sons, twice_copied, twice_heights}
use Rattle.scope.specs.declared.rule.Pair.{Pair}
use Rattle.scope.specs.declared.side.Side.{Side}
use Rattle.scope.specs.declared.outcome.Nodes.{Nodes}
use Rattle.fire_act.specs.Wrote.{Kept, Wrote}

module _ (t : List ℕ) (c : ℕ) (n : Nodes) (s : Side) where
  pub propagate-written : {u : Pair} {h : ℕ} {a : List ℕ} → u ≡ seen s n.su → h ≡ localh u
      → Wrote t c (place_of n.v (register_on s)) h a → Kept c (written t (writes (propagated s n))) a
  unfolding written writes
  propagate-written p q x = record { is = simp (x.is, q, p); sized = x.sized }

  module _ {far : Side} (f : far ≡ other s) {a b : List ℕ} where
    pub links-written : {k : ℕ} {d : List ℕ} → k ≡ son n.su far → Wrote t c (place_of n.link.holder (son_on n.link.side)) n.u a
        → Wrote a c (place_of n.u (son_on far)) n.v b → Wrote b c (place_of n.v (son_on s)) k d → Kept c
        (written t (writes (rotated_links s n))) d
    unfolding written writes
    links-written q x y z = record { is = simp (z.is, y.is, x.is, q, f); sized = z.sized }

    pub heights-written : {v u : Pair} {h : ℕ} → v ≡ seen s n.sv → u ≡ seen s n.su → h ≡ over u.far v.far
        → Wrote t c (place_of n.v (register_on s)) u.far a → Wrote a c (place_of n.u (register_on far)) h b →
        Kept c (written t (writes (rotated_heights s n))) b
    unfolding written writes
    heights-written p q e x y = record { is = simp (y.is, x.is, e, q, p, f); sized = y.sized }

    pub top-written : {d : List ℕ} → Wrote t c (place_of n.link.holder (son_on n.link.side)) n.w a → Wrote a
        c (place_of n.w (son_on s)) n.u b
        → Wrote b c (place_of n.w (son_on far)) n.v d → Kept c (written t (writes (twice_top s n))) d
    unfolding written writes
    top-written x y z = record { is = simp (z.is, y.is, x.is, f); sized = z.sized }

    pub sons-written : {j k : ℕ} → j ≡ son n.sw s → k ≡ son n.sw far
        → Wrote t c (place_of n.u (son_on far)) j a → Wrote a c (place_of n.v (son_on s)) k b → Kept c
        (written t (writes (twice_sons s n))) b
    unfolding written writes
    sons-written p q x y = record { is = simp (y.is, x.is, p, q, f); sized = y.sized }

    pub copied-written : {w : Pair} → w ≡ seen s n.sw
        → Wrote t c (place_of n.u (register_on far)) w.near a → Wrote a c (place_of n.v (register_on s)) w.far
        b → Kept c (written t (writes (twice_copied s n))) b
    unfolding written writes
    copied-written p x y = record { is = simp (y.is, x.is, p, f); sized = y.sized }

    pub twice-written : {v u w : Pair} {g h : ℕ} → v ≡ seen s n.sv → u ≡ seen s n.su → w ≡ seen s n.sw
        → g ≡ over u.near w.near → h ≡ over w.far v.far
        → Wrote t c (place_of n.w (register_on s)) g a → Wrote a c (place_of n.w (register_on far)) h b → Kept c
        (written t (writes (twice_heights s n))) b
    unfolding written writes
    twice-written p q r d e x y = record { is = simp (y.is, x.is, d, e, p, q, r, f); sized = y.sized }

  -- the parts make the whole
  pub rotate-written : {a b : List ℕ} → Kept c (written t (writes (rotated_links s n))) a → Kept c
      (written a (writes (rotated_heights s n))) b
      → Kept c (written t (writes (rotated s n))) b
  unfolding written writes
  rotate-written x y = record { is = simp (y.is, x.is); sized = y.sized }

  pub all-written : {a b d e : List ℕ} → Kept c (written t (writes (twice_top s n))) a → Kept c (written a (writes (twice_sons s n))) b
      → Kept c (written b (writes (twice_copied s n))) d → Kept c (written d (writes (twice_heights s n))) e → Kept c
      (written t (writes (rotated_twice s n))) e
  unfolding written writes
  all-written x y z w = record { is = simp (w.is, z.is, y.is, x.is); sized = w.sized }
