-- `tidy::review::review_all` meets its contract. Assumes nothing.
use Rattle.tidy.specs.Reviewed.{AllReviewed}
use Rattle.tidy.proofs.review.review_all.Given as goal

abbrev pub invariant-loop-k : goal.invariant-loop-k
invariant-loop-k l = AllReviewed l.t l.c l.m l.k
