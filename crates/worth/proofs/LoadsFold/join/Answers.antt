-- `Loads` joins what it says of two sides. Assumes nothing.
use native.Mathlib.Omega.{arith}
use Rattle.worth.proofs.Under.{few-below, weights-few, light, load-here}
use Rattle.worth.proofs.LoadsFold.join.Goals as goal

pub overflow_add-slots : goal.overflow_add-slots
overflow_add-slots c =
    let s = c.requires in omega (arith, s.borne.most, few-below s.fork s.borne s.on_left s.on_right)

pub overflow_add-slots-2 : goal.overflow_add-slots-2
overflow_add-slots-2 c =
    let s = c.requires in omega (arith, s.borne.most, few-below s.fork s.borne s.on_left s.on_right)

pub overflow_sub-self : goal.overflow_sub-self
overflow_sub-self c = let s = c.requires in omega (arith, few-below s.fork s.borne s.on_left s.on_right)

pub own_weight-own-requires : goal.own_weight-own-requires
own_weight-own-requires c = let s = c.requires in light s.fork s.borne s.on_left s.on_right

pub overflow_add-result : goal.overflow_add-result
overflow_add-result c = let s = c.requires in omega (arith, weights-few s.fork s.borne s.on_left s.on_right)

pub overflow_add-result-2 : goal.overflow_add-result-2
overflow_add-result-2 c =
    let s = c.requires in
    omega (arith, c.own_weight-own.ensures, weights-few s.fork s.borne s.on_left s.on_right)

pub returns : goal.returns
returns c s = load-here s.fork s.borne s.on_left s.on_right c.own_weight-own.ensures.0
