-- What fire does with its three numbers, and with which code it refuses them. Assumes nothing: these are statements.
use Rattle.std.specs.Prelude.{ℕ, ◌≡◌, true, List, [], ◌∷◌}
use Rattle.std.proofs.Math.Option.{Option, none, some}
use Rattle.scope.specs.Numbers.{root_link, rule_of, link_of}
use Rattle.scope.specs.Table.{word, change_word}
use Rattle.scope.specs.Tree.{Tree}
use Rattle.scope.specs.Sound.{tree_in}
use Rattle.scope.specs.Answers.{Done, code_of, accepted, refused}
use Rattle.scope.specs.declared.answer.Refusal.TheVariants.{OutOfRange, GuardFails, TooHigh}
use Rattle.scope.specs.declared.rule.Rule.{Rule}
use Rattle.scope.specs.declared.side.Link.{Link}
use Rattle.tree.specs.Rewrite.{fire_at, accept_at}
use Rattle.bridge.specs.Leads.{Leads}
use Rattle.bridge.specs.Fired.{Fired}
use Rattle.demands.specs.Exactly.{Exactly}
use Rattle.demands.specs.Listed.{among}
use Rattle.demands.specs.Fires.{Trial}
use Rattle.std.specs.Prelude.{Some}

-- the rule and the link that the numbers name, on a table of c slots
pub record Named (c : ℕ) (x : Trial) : Type 0 where
  pub rule : Rule
  pub link : Link
  pub is_rule : rule_of x.rule ≡ Some rule
  pub is_link : link_of c x.holder x.side ≡ Some link

-- and a way to that link, down the tree that the table spells
pub record NamedPlace (t : List ℕ) (c : ℕ) (x : Trial) : Type 0 where
  pub named : Named c x
  pub leads : Leads t root_link (tree_in t c) named.link

-- what the rule makes of the tree at the end of that way: none where its guard fails there
abbrev pub guarded : (t : List ℕ) (c : ℕ) (x : Trial) → NamedPlace t c x → Option Tree
guarded t c x a = fire_at a.leads.way a.named.rule (tree_in t c)

-- and none also where a height above 65,535 would be written
abbrev pub limited : (t : List ℕ) (c : ℕ) (x : Trial) → NamedPlace t c x → Option Tree
limited t c x a = accept_at a.leads.way a.named.rule (tree_in t c)

-- the guard holds there and no height is too high; `tree` is what the published action makes of the tree
pub record Enabled (t : List ℕ) (c : ℕ) (x : Trial) : Type 0 where
  pub at : NamedPlace t c x
  pub tree : Tree
  pub is : limited t c x at ≡ some tree

-- the guard holds there, and a height would be too high
pub record OverLimit (t : List ℕ) (c : ℕ) (x : Trial) : Type 0 where
  pub at : NamedPlace t c x
  pub tree : Tree
  pub holds : guarded t c x at ≡ some tree
  pub stopped : limited t c x at ≡ none

-- the numbers name a rule and a link, and no way leads to that link or the guard fails at its end
pub record NoGuard (t : List ℕ) (c : ℕ) (x : Trial) : Type 0 where
  pub named : Named c x
  pub fails : (a : NamedPlace t c x) → guarded t c x a ≡ none

-- what fire does on a sound table with these numbers: d is its answer and the words after it
pub record FireIs (t : List ℕ) (c : ℕ) (x : Trial) (d : Done) : Type 0 where
  -- it is accepted exactly if the guard holds and no height above 65,535 would be written
  pub accepts : Exactly (d.answer.code ≡ 0) (Enabled t c x)
  -- then it answers the change number as it was, and zeros
  pub answers : Enabled t c x → d.answer ≡ accepted (word t change_word) 0 0 0
  -- and the words spell the tree after the published action: sound again, every record in its slot, words 1 to 3 and the
  -- free slots as before
  pub acts : (e : Enabled t c x) → Fired t d.words c (tree_in t c) e.tree
  -- it is refused with 9 exactly if the guard holds and a height would be too high
  pub too_high : Exactly (d ≡ refused t TooHigh) (OverLimit t c x)
  -- with 8 exactly if the guard fails, or no way leads to the link
  pub guard_fails : Exactly (d ≡ refused t GuardFails) (NoGuard t c x)
  -- with 2 exactly if the numbers name no rule or no link
  pub out_of_range : Exactly (d ≡ refused t OutOfRange) (Named c x → ⊥)
  -- and with no other code
  pub no_other : among d.answer.code (0 ∷ code_of OutOfRange ∷ code_of GuardFails ∷ code_of TooHigh ∷ []) ≡ true
