-- `words::write::put_slot` meets its contract. Assumes nothing.
use native.Mathlib.Omega.{arith}
use borrow.Author.Rules.{rules}
use lib.ListN.{length-set}
use Rattle.scope.specs.Table.{with_slot, written}
use Rattle.words.proofs.write.put_slot.Goals as goal

pub bounds-t-b-2 : goal.bounds-t-b-2
bounds-t-b-2 c = simp length-set (omega arith)

pub bounds-t-b-3 : goal.bounds-t-b-3
bounds-t-b-3 c = simp length-set (omega arith)

pub bounds-t-b-4 : goal.bounds-t-b-4
bounds-t-b-4 c = simp length-set (omega arith)

pub bounds-t-b-5 : goal.bounds-t-b-5
bounds-t-b-5 c = simp length-set (omega arith)

pub bounds-t-b-6 : goal.bounds-t-b-6
bounds-t-b-6 c = simp length-set (omega arith)

pub bounds-t-b-7 : goal.bounds-t-b-7
bounds-t-b-7 c = simp length-set (omega arith)

pub bounds-t-b-8 : goal.bounds-t-b-8
bounds-t-b-8 c = simp length-set (omega arith)

pub returns : goal.returns
unfolding with_slot written
returns c = search rules
