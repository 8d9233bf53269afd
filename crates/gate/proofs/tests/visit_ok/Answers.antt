-- `gate::tests::visit_ok` meets its contract. Assumes nothing.
use mathlib.Core.Path.{refl, sym}
use borrow.Author.Tests.{eq-eqb, ne_eqb}
use Rattle.gate.proofs.Fitting.{visit-together}
use Rattle.gate.proofs.tests.visit_ok.Goals as goal

pub returns-then-bounds_ok : goal.returns-then-bounds_ok
returns-then-bounds_ok c =
    let a = c.args in rw (
      sym (visit-together a.c a.n a.s),
      ne_eqb _ _ c.if-s-ne0.true,
      sym c.pieces_ok.ensures,
      c.if-pieces_ok.true,
      sym c.bounds_ok.ensures,
      c.if-bounds_ok.true,
      sym c.ends_ok.ensures,
    ) refl

pub returns-else-bounds_ok : goal.returns-else-bounds_ok
returns-else-bounds_ok c =
    let a = c.args in rw (
      sym (visit-together a.c a.n a.s),
      ne_eqb _ _ c.if-s-ne0.true,
      sym c.pieces_ok.ensures,
      c.if-pieces_ok.true,
      sym c.bounds_ok.ensures,
      c.if-bounds_ok.false,
    ) refl

pub returns-else-pieces_ok : goal.returns-else-pieces_ok
returns-else-pieces_ok c =
    let a = c.args in rw (
      sym (visit-together a.c a.n a.s),
      ne_eqb _ _ c.if-s-ne0.true,
      sym c.pieces_ok.ensures,
      c.if-pieces_ok.false,
    ) refl

pub returns-else-s-ne0 : goal.returns-else-s-ne0
returns-else-s-ne0 c =
    let a = c.args in rw (sym (visit-together a.c a.n a.s), eq-eqb _ _ c.if-s-ne0.false) refl
