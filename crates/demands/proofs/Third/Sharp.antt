-- Demand 3: the most visits are reached, on a sound table where no guard holds. Assumes nothing.
use mathlib.Core.Path.{◌≡◌, refl, ◌∙◌}
use native.Mathlib.Omega.{arith}
use Rattle.scope.specs.Numbers.{root_link}
use Rattle.scope.specs.Tree.{size}
use Rattle.scope.specs.Walk.{walk_of}
use Rattle.scope.specs.declared.outcome.Walk.TheVariants.{Hit}
use Rattle.tree.specs.Seek.{route}
use Rattle.tree.proofs.Shown.Sharp.{sixteen}
use Rattle.bridge.specs.Leads.{link_along}
use Rattle.bridge.proofs.Resting.Rests.{quiet-words}
use Rattle.demands.proofs.Open.{walk-tree}
use Rattle.demands.specs.Short.{most_visits, Visited}
use Rattle.demands.proofs.Third.Full.{filled}

-- THE MOST VISITS ARE REACHED, in the sparsest balanced tree of their height
pub visits-16 : Visited most_visits
visits-16 =
    let x = sixteen in
    let T = x.tree in
    let f = filled T x.numbered x.relaxed.ordered x.balanced (omega (arith, x.count)) (omega (arith, x.count)) in
    let link = link_along f.words (route 1 T) root_link in
    let walk : walk_of f.words (size T) 1 ≡ Hit 1 link most_visits
    = rw f.tree at (walk-tree f.whole 1) ∙ rw (x.found, x.walk) refl in
    record {
      words = f.words;
      slots = size T;
      whole = f.whole;
      at_rest = quiet-words f.whole (rw f.tree x.quiet);
      key = 1;
      slot = 1;
      link = link;
      walk = walk;
    }
