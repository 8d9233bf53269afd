-- What an accepted firing leaves of a sound table. Assumes nothing: these are statements.
use Rattle.std.specs.Prelude.{ℕ, ◌≤◌, ◌<◌, ◌≡◌, List}
use Rattle.scope.specs.Numbers.{root_link}
use Rattle.scope.specs.Table.{head_words, word, slot_at}
use Rattle.scope.specs.Tree.{Tree, times, in_order}
use Rattle.scope.specs.Sound.{tree_in}
use Rattle.scope.specs.declared.rule.Rule.{Rule}
use Rattle.scope.specs.declared.side.Link.{Link}
use Rattle.scope.specs.declared.answer.Refusal.TheVariants.{GuardFails}
use Rattle.spelling.specs.Whole.{Whole}
use Rattle.tree.specs.Rewrite.{fire_at, accept_at}
use Rattle.bridge.specs.Leads.{Leads}
use Rattle.bridge.specs.Alike.{Alike}
use Rattle.std.specs.Prelude.{Result, Err}
use Rattle.scope.specs.declared.answer.Refusal.{Refusal}
use Rattle.scope.specs.declared.outcome.Nodes.{Nodes}

-- from t, which spells T, to t', which spells T': sound again, each record in its slot, words 1 to 3 and the free slots as before
pub record Fired (t t' : List ℕ) (c : ℕ) (T T' : Tree) : Type 0 where
  pub whole : Whole t' c
  pub tree : tree_in t' c ≡ T'
  pub records : in_order T' ≡ in_order T
  pub head : (i : ℕ) → 1 ≤ i → i < head_words → word t' i ≡ word t i
  pub free : (k : ℕ) → 1 ≤ k → times k T ≡ 0 → slot_at t' k ≡ slot_at t k

-- how a rule at a link ends: by the way that leads there, or, where none does, with 8
pub data FireEnds (t : List ℕ) (c : ℕ) (T : Tree) (r : Rule) (l : Link) : Result (Rule × Nodes) Refusal → Type 0 where
  at_way : {f : (Result (Rule × Nodes) Refusal)} (p : Leads t root_link T l)
      → Alike t (λ T' t'. Fired t t' c T T') (fire_at p.way r T) (accept_at p.way r T) f → FireEnds t c T r l f
  no_way : (Leads t root_link T l → ⊥) → FireEnds t c T r l (Err GuardFails)
