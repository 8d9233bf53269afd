-- `stand_desk::carry_out` meets its contract. Assumes nothing.
use mathlib.Core.Path.{refl, ap}
use Rattle.stand_desk.specs.declared.Reply.TheVariants.{Say}
use Rattle.stand_desk.specs.Step.{wished, reply_of, table_after}
use Rattle.stand_desk.proofs.Steps.{asks, done}
use Rattle.stand_desk.proofs.carry_out.Goals as goal

pub returns-in-Post : goal.returns-in-Post
unfolding wished
returns-in-Post c =
    done _ _ _ (asks c.in-Some.is c.in-Post.is) c.post.ensures

pub returns-in-Amend : goal.returns-in-Amend
unfolding wished
returns-in-Amend c =
    done _ _ _ (asks c.in-Some.is c.in-Amend.is) c.amend.ensures

pub returns-in-Drop : goal.returns-in-Drop
unfolding wished
returns-in-Drop c =
    done _ _ _ (asks c.in-Some.is c.in-Drop.is) c.drop.ensures

pub returns-in-Find : goal.returns-in-Find
unfolding wished
returns-in-Find c = done _ _ _ (asks c.in-Some.is c.in-Find.is) c.find.ensures

pub returns-in-Rank : goal.returns-in-Rank
unfolding wished
returns-in-Rank c = done _ _ _ (asks c.in-Some.is c.in-Rank.is) c.rank.ensures

pub returns-in-Total : goal.returns-in-Total
unfolding wished
returns-in-Total c = done _ _ _ (asks c.in-Some.is c.in-Total.is) c.total.ensures

pub returns-in-Worth : goal.returns-in-Worth
unfolding wished
returns-in-Worth c = done _ _ _ (asks c.in-Some.is c.in-Worth.is) c.worth.ensures

pub returns-in-Fire : goal.returns-in-Fire
unfolding wished
returns-in-Fire c =
    done _ _ _ (asks c.in-Some.is c.in-Fire.is) c.fire.ensures

pub returns-in-Tidy : goal.returns-in-Tidy
unfolding wished
returns-in-Tidy c =
    done _ _ _ (asks c.in-Some.is c.in-Tidy.is) c.tidy.ensures

pub returns-in-List : goal.returns-in-List
unfolding wished reply_of table_after
returns-in-List c = rw (asks c.in-Some.is c.in-List.is) (refl, refl)

pub returns-in_default : goal.returns-in_default
unfolding reply_of table_after
returns-in_default c = rw c.in_default.is (ap Say c.refuse.ensures, refl)
