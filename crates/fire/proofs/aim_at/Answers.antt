-- `fire::aim_at` meets its contract. Assumes nothing.
use mathlib.Core.Path.{sym, ◌∙◌}
use Rattle.fire.proofs.Planned.{ready, aimed_on, aimed-off}
use Rattle.fire.proofs.aim_at.Goals as goal

pub aim-requires : goal.aim-requires
aim-requires c = let p = c.requires in (ready p.0 (sym c.header_ok.ensures ∙ c.if-header_ok.true), p.1)

pub returns-then-header_ok : goal.returns-then-header_ok
returns-then-header_ok c = let a = c.args in aimed_on a.t.now a.c a.r a.link (sym c.header_ok.ensures ∙ c.if-header_ok.true) c.aim.ensures

pub returns-else-header_ok : goal.returns-else-header_ok
returns-else-header_ok c = let a = c.args in aimed-off a.t.now a.c a.r a.link (sym c.header_ok.ensures ∙ c.if-header_ok.false)
