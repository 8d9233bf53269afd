-- `post::post` meets its contract. Assumes nothing.
use mathlib.Core.Path.{refl}
use Rattle.scope.specs.Post.{post_of, posted}
use Rattle.gate.proofs.Carried.{carried}
use Rattle.post.proofs.post.Goals as goal

pub hang-requires : goal.hang-requires
hang-requires c =
    rw c.in-Ok.is at c.plan_post.ensures.can

pub returns-in-Err : goal.returns-in-Err
unfolding post_of posted
returns-in-Err c =
    carried (posted _ _) c.plan_post.ensures.is c.in-Err.is (c.refuse.ensures, refl)

pub returns-in-Ok : goal.returns-in-Ok
unfolding post_of
returns-in-Ok c =
    carried (posted _ _) c.plan_post.ensures.is c.in-Ok.is
    (rw c.leaf.ensures at c.hang.ensures)
