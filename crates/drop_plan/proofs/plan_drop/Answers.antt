-- `drop_plan::plan_drop` meets its contract. Assumes nothing.
use Rattle.drop_plan.proofs.Hits.{hit-fits}
use Rattle.drop_plan.proofs.plan_drop.Goals as goal

pub dropping_at-requires : goal.dropping_at-requires
dropping_at-requires c = let s = c.search.ensures in (s.inside, hit-fits _ _ _ _ s.is)
