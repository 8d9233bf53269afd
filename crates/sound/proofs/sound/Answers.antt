-- `sound::sound` meets its contract. Assumes nothing.
use mathlib.Core.Path.{sym, ap, ◌∙◌}
use borrow.Author.Tests.{ne_eqb}
use native.Mathlib.Omega.{arith}
use Rattle.spelling.proofs.Laws.{header-root, header-count}
use Rattle.marks.proofs.Laws.{none-marked}
use Rattle.scope.proofs.Bools.{never}
use Rattle.std.specs.Prelude.{Some, None}
use Rattle.sound.proofs.Ends.{by-missing, by-pass}
use Rattle.spelling.proofs.Once.{by-header}
use Rattle.sound.proofs.sound.Goals as goal

pub from_root-requires : goal.from_root-requires
from_root-requires c =
    let good = sym c.header_ok.ensures ∙ c.if-header_ok.true in
    let root = header-root c.args.c c.args.t.now good in
    let count = header-count c.args.c c.args.t.now good in
    record {
      looking = record { sized = c.requires; link = omega (arith, c.root-root.ensures) };
      few = omega (arith, c.records-n.ensures, c.requires.most);
    }

pub returns-else-header_ok : goal.returns-else-header_ok
returns-else-header_ok c = sym (by-header _ _ (sym c.header_ok.ensures ∙ c.if-header_ok.false))

pub returns-in-None : goal.returns-in-None
returns-in-None c =
    let told = rw (c.records-n.ensures, c.root-root.ensures, c.in-None.is) at c.from_root.ensures in
    let small = c.shared_slice_known-1.given in
    sym (by-missing _ _ (λ i. omega (arith, small i)) _ c.args.t.now (rw c.new-m.ensures none-marked) c.requires.most None (λ e. never cc) told)

pub returns-then-missing-eq0 : goal.returns-then-missing-eq0
returns-then-missing-eq0 c =
    let told = rw (c.records-n.ensures, c.root-root.ensures, c.in-Some.is) at c.from_root.ensures in
    let small = c.shared_slice_known-1.given in
    let header = sym c.header_ok.ensures ∙ c.if-header_ok.true in
    by-pass _ _ (λ i. omega (arith, small i)) _ _ (rw c.new-m.ensures none-marked) c.requires.most header (Some _) (ap Some c.if-missing-eq0.true) told
    c.rest_blank.result c.rest_blank.ensures

pub returns-else-missing-eq0 : goal.returns-else-missing-eq0
returns-else-missing-eq0 c =
    let told = rw (c.records-n.ensures, c.root-root.ensures, c.in-Some.is) at c.from_root.ensures in
    let small = c.shared_slice_known-1.given in
    rw (ne_eqb _ _ c.if-missing-eq0.false)
    (sym (by-missing _ _ (λ i. omega (arith, small i)) _ _ (rw c.new-m.ensures none-marked) c.requires.most (Some _) (λ e. c.if-missing-eq0.false cc) told))
