-- `tidy_sight::sight::nodes` meets its contract. Assumes nothing.
use mathlib.Core.Path.{sym, ◌∙◌}
use Rattle.tidy_sight.proofs.Sights.{u-there, w-there, nodes-third, nodes-two}
use Rattle.tidy_sight.proofs.sight.nodes.Goals as goal

pub slot_at-su-requires : goal.slot_at-su-requires
slot_at-su-requires c = rw c.son-u.ensures (u-there c.requires)

pub slot_at-sw-requires : goal.slot_at-sw-requires
slot_at-sw-requires c =
    let there = w-there c.requires
    (sym c.has_third.ensures ∙ c.if-has_third.true) in
    rw (c.son-w.ensures, c.other.ensures, c.slot_at-su.ensures, c.son-u.ensures)
    there

pub returns-then-has_third : goal.returns-then-has_third
returns-then-has_third c =
    let g = c.args in nodes-third g.t.now g.r g.link g.v c.requires.is
    c.son-u.ensures c.slot_at-su.ensures
    (sym c.has_third.ensures ∙ c.if-has_third.true)
    c.other.ensures c.son-w.ensures c.slot_at-sw.ensures

pub returns-else-has_third : goal.returns-else-has_third
returns-else-has_third c =
    let g = c.args in nodes-two g.t.now g.r g.link g.v c.requires.is
    c.son-u.ensures c.slot_at-su.ensures (sym c.has_third.ensures ∙ c.if-has_third.false)
