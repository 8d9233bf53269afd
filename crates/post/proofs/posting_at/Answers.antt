-- `post::posting_at` meets its contract. Assumes nothing.
use mathlib.Core.Path.{sym}
use Rattle.scope.specs.Post.{posting_at}
use Rattle.post.proofs.posting_at.Goals as goal

pub hang_at-requires : goal.hang_at-requires
hang_at-requires c =
    let i = rw c.in-Miss.is at c.requires in
    (i.0, c.free_slot.ensures.most)

pub returns-in-Damage : goal.returns-in-Damage
unfolding posting_at
returns-in-Damage c = record { is = simp c.in-Damage.is; can = tt }

pub returns-in-Hit : goal.returns-in-Hit
unfolding posting_at
returns-in-Hit c = record { is = simp c.in-Hit.is; can = tt }

pub returns-in-Miss : goal.returns-in-Miss
unfolding posting_at
returns-in-Miss c =
    simp (c.in-Miss.is, sym c.free_slot.ensures.is) c.hang_at.ensures
