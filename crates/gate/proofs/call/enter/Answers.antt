-- `gate::enter` meets its contract: what the tests tell is what a table holds. Assumes nothing.
use mathlib.Core.Path.{sym, ◌∙◌}
use Rattle.spelling.proofs.Laws.{slots_sized, header-root, header-count}
use Rattle.gate.proofs.call.enter.Goals as goal

pub invariant_of-result : goal.invariant_of-result
invariant_of-result c =
    let s = slots_sized c.args.t.now _ _ (sym c.capacity.ensures ∙ c.in_ok-slots.was) in
    let h = sym c.header_ok.ensures ∙ c.if-header_ok.true in
    record {
      room = s.room;
      some = s.some;
      most = s.most;
      root = header-root _ _ h;
      count = header-count _ _ h;
    }
