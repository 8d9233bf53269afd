-- `text_list::put_all` puts record after record. Assumes nothing.
use Rattle.text_list.proofs.Records.{FirstPut}
use Rattle.text_list.proofs.put_all.Given as goal

abbrev pub invariant-loop-k : goal.invariant-loop-k
invariant-loop-k l = FirstPut l.table.words.now l.table.slots l.initial.out l.at l.out l.p l.k-index
