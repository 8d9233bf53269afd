-- `tidy::run::act_and_note` meets its contract. Assumes nothing.
use mathlib.Core.Logic.{inl, inr}
use Rattle.scope.specs.declared.rule.Kind.TheVariants.{Propagate, Lean, Even, Double}
use Rattle.fire_act.proofs.Acting.{nodes-asked}
use Rattle.tidy.proofs.Firing.{acted-alone, acted-noted}
use Rattle.tidy.proofs.run.act_and_note.Goals as goal

pub propagate-requires : goal.propagate-requires
propagate-requires c =
    let p = c.requires in nodes-asked p.sized p.within Propagate c.in-Propagate.is

pub rotate-requires : goal.rotate-requires
rotate-requires c =
    let p = c.requires in
    elim c.in-Lean.is [
      | inl e ↦ nodes-asked p.sized p.within Lean e
      | inr e ↦ nodes-asked p.sized p.within Even e
    ]

pub rotate_twice-requires : goal.rotate_twice-requires
rotate_twice-requires c =
    let p = c.requires in nodes-asked p.sized p.within Double c.in-Double.is

pub returns-in-Propagate : goal.returns-in-Propagate
returns-in-Propagate c =
    acted-alone c.requires c.in-Propagate.is c.propagate.ensures

pub returns-in-Lean : goal.returns-in-Lean
returns-in-Lean c =
    let p = c.requires in
    elim c.in-Lean.is [
      | inl e ↦ acted-noted p Lean e c.rotate.ensures c.turned.ensures
      | inr e ↦ acted-noted p Even e c.rotate.ensures c.turned.ensures
    ]

pub returns-in-Double : goal.returns-in-Double
returns-in-Double c =
    let p = c.requires in acted-noted p Double c.in-Double.is c.rotate_twice.ensures c.turned_twice.ensures
