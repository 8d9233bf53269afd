-- Slots looked at again: what the agenda says of them then. Assumes nothing: these are statements.
use Rattle.std.specs.Prelude.{ℕ, ◌≤◌, ◌<◌, ◌≡◌, false, cond, List}
use Rattle.scope.specs.Table.{slot_at}
use Rattle.scope.specs.Fire.{has_third}
use Rattle.scope.specs.declared.rule.Kind.{Kind}
use Rattle.scope.specs.declared.outcome.Nodes.{Nodes}
use Rattle.spelling.specs.Ready.{Sized}
use Rattle.marks.specs.Marks.{bit_at, BitPut}
use Rattle.fire_aim.specs.Aimed.{NodesInside}
use Rattle.tidy_sight.specs.MayBeDue.{may_be_due}
use Rattle.tidy_holders.specs.Away.{NoNode}

-- slot k of a table of c slots
pub record SlotIn (t : List ℕ) (c k : ℕ) : Type 0 where
  pub sized : Sized t c
  pub first : 1 ≤ k
  pub most : k ≤ c

-- slot k is listed exactly if a rule may be due there, and every other as it was
abbrev pub Reviewed : List ℕ → ℕ → List ℕ → ℕ → List ℕ → Type 0
Reviewed t c m k m' = BitPut (cond (may_be_due t c (slot_at t k)) 1 0) m k m'

-- a slot that is not listed: it was looked at, and no rule may be due there; or it was not listed before, and has P
pub data Unlisted (t : List ℕ) (c : ℕ) (P : ℕ → Type 0) (m : List ℕ) (k : ℕ) : Type 0 where
  looked : may_be_due t c (slot_at t k) ≡ false → Unlisted t c P m k
  passed : P k → bit_at m k ≡ 0 → Unlisted t c P m k

-- the slots without P were looked at
pub record Without (t : List ℕ) (c : ℕ) (P : ℕ → Type 0) (m m' : List ℕ) : Type 0 where
  pub zero : bit_at m 0 ≡ 0 → bit_at m' 0 ≡ 0
  pub unlisted : (k : ℕ) → k < 4096 → bit_at m' k ≡ 0 → Unlisted t c P m k

-- the nodes of a firing; where its kind has no third, that is u
pub record Around (t : List ℕ) (c : ℕ) (kind : Kind) (x : Nodes) : Type 0 where
  pub sized : Sized t c
  pub nodes : NodesInside c x
  pub third : has_third kind ≡ false → x.w ≡ x.u

abbrev pub NodesReviewed : List ℕ → ℕ → List ℕ → Nodes → List ℕ → Type 0
NodesReviewed t c m x m' = Without t c (NoNode x) m m'

-- every slot below `next` was looked at, and slot 0 is not listed
pub record AllReviewed (t : List ℕ) (c : ℕ) (m : List ℕ) (next : ℕ) : Type 0 where
  pub zero : bit_at m 0 ≡ 0
  pub unlisted : (k : ℕ) → 1 ≤ k → k ≤ c → k < next → bit_at m k ≡ 0 → may_be_due t c (slot_at t k) ≡ false
