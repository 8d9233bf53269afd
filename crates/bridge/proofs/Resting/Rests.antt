-- No guard holds on words exactly if none holds on the tree, and exactly if no rule is due. Assumes nothing.
use Prim.Native.Nat.{ℕ, ◌≤◌}
use mathlib.Core.Path.{◌≡◌, sym, ◌∙◌, ap}
use mathlib.Core.Bool.{Bool, true, false}
use mathlib.Core.List.{List}
use native.Mathlib.Omega.{arith}
use Rattle.scope.proofs.Bools.{and_l, by_bool, neither}
use Rattle.scope.specs.Numbers.{most_height, root_link, rule_of}
use Rattle.scope.specs.Table.{word, root_word, link_at}
use Rattle.scope.specs.Tree.{Tree, true_height}
use Rattle.scope.specs.Rules.{guard}
use Rattle.scope.specs.Tidy.{holds_at, due_at, by_rule, passes, slots_from, next_of, nothing, quiet}
use Rattle.scope.specs.declared.rule.Rule.{Rule}
use Rattle.spelling.proofs.Laws.{header-count}
use Rattle.spelling.specs.Whole.{Whole}
use Rattle.tree.specs.Rewrite.{accept_at}
use Rattle.tree.specs.Shape.{Quiet}
use Rattle.tree.proofs.Firing.Steps.{no-tree, none-there}
use Rattle.tree.proofs.Rest.Height.{height-size}
use Rattle.tree.proofs.Rest.Quiet.{stuck-quiet}
use Rattle.bridge.specs.Leads.{link_along}
use Rattle.bridge.proofs.Resting.Quiets.{relaxed, rule-numbered, no_slot-found}
use Rattle.bridge.proofs.Resting.Searches.{slots-none, known-rule}
use Rattle.bridge.proofs.Resting.Meets.{holds-meets, meets-there, accepts-due}
use Rattle.std.specs.Prelude.{Some, None}

-- with the limit or without it, its guard holds
guard-holds : (limited : Bool) (t : List ℕ) (c v : ℕ) (r : Rule) → by_rule limited t c v (Some r) ≡ true
    → holds_at t c r v ≡ true
unfolding due_at
guard-holds true t c v r e = and_l _ _ e
guard-holds false t c v r e = e

module _ {t : List ℕ} {c : ℕ} (w : Whole t c) where
  abbrev T : Tree
  T = w.sound.tree

  none_found : Quiet T → (limited : Bool) → slots_from (passes limited t c) c 1 ≡ None
  unfolding passes
  none_found q limited =
      slots-none (passes limited t c) c 1 (λ v n i j.
      by_bool (passes limited t c v n)
      (λ p. known-rule limited t c v (rule_of n) p (λ r e.
      let o = meets-there w r guard v i (omega arith) (holds-meets (guard-holds limited t c v r (rw e at p))) in
      no-tree (sym (q o.0.way r) ∙ o.2)))
      (λ p. p))

  -- A QUIET TREE has quiet words, and no rule is due
  pub quiet-words : Quiet T → quiet t c ≡ true
  unfolding quiet
  quiet-words q = ap nothing (none_found q false)

  pub next-none : Quiet T → next_of t c ≡ None
  unfolding next_of
  next-none q = none_found q true

  -- WHERE NO RULE IS DUE no guard holds
  pub none-due : next_of t c ≡ None → Quiet T
  unfolding next_of passes
  none-due e =
      let low : true_height T ≤ most_height
      = omega (arith, height-size T, w.sound.count, header-count c t w.sound.header, w.sized.most) in
      stuck-quiet T (relaxed t c (word t root_word) T w.sound.reached) low
      (λ way r. none-there (accept_at way r T) (λ T' o.
      let f = accepts-due w r way T' o in
      let n = rule-numbered r in
      let x = word t (link_at (link_along t way root_link)) in
      let z = no_slot-found (passes true t c) c 1 (ap nothing e) x n.number f.0.first (omega (arith, f.1))
      n.first n.most in
      neither f.0.due (rw n.is at z)))
