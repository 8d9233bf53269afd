-- Demand 2: fire is accepted exactly if its guard holds within the height limit, and does its action then. Assumes nothing.
use Prim.Native.Nat.{ℕ}
use mathlib.Core.Path.{◌≡◌, refl, sym, ◌∙◌, ap}
use mathlib.Core.Option.{Option, none, some}
use Rattle.std.specs.Prelude as prelude
use mathlib.Core.Bool.{true}
use mathlib.Core.List.{List, [], ◌∷◌}
use native.Mathlib.Omega.{arith}
use Rattle.scope.proofs.Bools.{never}
use Rattle.scope.specs.Numbers.{rule_of, link_of, most_height}
use Rattle.scope.specs.Table.{word, change_word}
use Rattle.scope.specs.Tree.{Tree}
use Rattle.scope.specs.Sound.{tree_in}
use Rattle.scope.specs.Answers.{Done, code_of, accepted, refused}
use Rattle.scope.specs.Fire.{aim, aimed, fire_plan, fired, fire_of}
use Rattle.scope.specs.Answers.{if_named}
use Rattle.scope.specs.declared.answer.Answer.{Answer}
use Rattle.scope.specs.declared.answer.Refusal.{Refusal}
use Rattle.scope.specs.declared.answer.Refusal.TheVariants.{OutOfRange, GuardFails, TooHigh}
use Rattle.spelling.specs.Whole.{Whole}
use Rattle.tree.proofs.Rest.Quiet.{accepted-fires}
use Rattle.tree.proofs.Firing.Steps.{no-tree}
use Rattle.bridge.specs.Alike.{guard_fails, too_high, Alike}
use Rattle.bridge.specs.Fired.{Fired, FireEnds, at_way, no_way}
use Rattle.bridge.proofs.Firing.Fires.{same_way}
use Rattle.bridge.proofs.Firing.Calls.{sized-slots, link-in, fire-ends, plan-is}
use Rattle.demands.specs.Listed.{among}
use Rattle.demands.specs.Fires.{Trial, tried_on}
use Rattle.demands.specs.Firing.{Named, NamedPlace, guarded, limited, Enabled, OverLimit, NoGuard, FireIs}
use Rattle.demands.proofs.Open.{own_tree, some-code}
use Rattle.std.specs.Prelude.{Some, None, Result, Ok, Err}
use Rattle.scope.specs.declared.rule.Rule.{Rule}
use Rattle.scope.specs.declared.side.Link.{Link}
use Rattle.scope.specs.declared.outcome.Nodes.{Nodes}

-- how a rule ends at a place of the tree T: g is what comes of it by its guard alone, o with the limit too
data Ends (t : List ℕ) (c : ℕ) (T : Tree) (g o : Option Tree) (d : Done) : Type 0 where
  done : (T' : Tree) → o ≡ some T' → d.answer ≡ accepted (word t change_word) 0 0 0 → Fired t d.words c T T'
      → Ends t c T g o d
  high : (T' : Tree) → g ≡ some T' → o ≡ none → d ≡ refused t TooHigh → Ends t c T g o d
  fails : g ≡ none → o ≡ none → d ≡ refused t GuardFails → Ends t c T g o d

ends : {t : List ℕ} {c : ℕ} {T : Tree} (g o : Option Tree) (f : Result (Rule × Nodes) Refusal) → Alike t (λ T' t'. Fired t t' c T T') g o f
    → Ends t c T g o (fired t f)
unfolding fired
ends none none (Err why) guard_fails = fails refl refl refl
ends (some T') none (Err why) too_high = high T' refl refl refl
ends g none (Ok (r, n)) a = absurd a
ends g (some T') (Err why) a = absurd a
ends g (some T') (Ok (r, n)) a = done T' refl refl a

abbrev code : {d e : Done} → d ≡ e → d.answer.code ≡ e.answer.code
code = ap (λ (y : Done). y.answer.code)

-- what an end tells of the place, and the place of the end
module _ {t : List ℕ} {c : ℕ} {T : Tree} {g o : Option Tree} (d : Done) where
  ends-fails : Ends t c T g o d → d ≡ refused t GuardFails → g ≡ none
  ends-fails (done T' e a f) z = absurd (omega (arith, ap (λ (r : Answer). r.code) a, code z))
  ends-fails (high T' e n a) z = absurd (omega (arith, code a, code z))
  ends-fails (fails e n a) z = e

  ends-done : (T' : Tree) → o ≡ some T' → Ends t c T g o d
      → (d.answer ≡ accepted (word t change_word) 0 0 0) × Fired t d.words c T T'
  ends-done T' e (done U q a f) = let same : U ≡ T' = cc in (a, rw same at f)
  ends-done T' e (high U q n a) = no-tree (sym n ∙ e)
  ends-done T' e (fails q n a) = no-tree (sym n ∙ e)

  ends-high : (T' : Tree) → g ≡ some T' → o ≡ none → Ends t c T g o d → d ≡ refused t TooHigh
  ends-high T' e n (done U q a f) = no-tree (sym n ∙ q)
  ends-high T' e n (high U q m a) = a
  ends-high T' e n (fails q m a) = no-tree (sym q ∙ e)

-- the four ways in which the call can end
data Case (t : List ℕ) (c : ℕ) (x : Trial) (d : Done) : Type 0 where
  taken : Enabled t c x → d.answer.code ≡ 0 → Case t c x d
  not_named : (Named c x → ⊥) → d ≡ refused t OutOfRange → Case t c x d
  no_guard : NoGuard t c x → d ≡ refused t GuardFails → Case t c x d
  over : OverLimit t c x → d ≡ refused t TooHigh → Case t c x d

module _ {t : List ℕ} {c : ℕ} {x : Trial} {d : Done} where
  only-taken : Case t c x d → d.answer.code ≡ 0 → Enabled t c x
  only-taken (taken h a) z = h
  only-taken (not_named h a) z = absurd (omega (arith, code a))
  only-taken (no_guard h a) z = absurd (omega (arith, code a))
  only-taken (over h a) z = absurd (omega (arith, code a))

  only-named : Case t c x d → d ≡ refused t OutOfRange → Named c x → ⊥
  only-named (taken h a) z = absurd (omega (arith, code z))
  only-named (not_named h a) z = h
  only-named (no_guard h a) z = absurd (omega (arith, code a, code z))
  only-named (over h a) z = absurd (omega (arith, code a, code z))

  only-guard : Case t c x d → d ≡ refused t GuardFails → NoGuard t c x
  only-guard (taken h a) z = absurd (omega (arith, code z))
  only-guard (not_named h a) z = absurd (omega (arith, code a, code z))
  only-guard (no_guard h a) z = h
  only-guard (over h a) z = absurd (omega (arith, code a, code z))

  only-over : Case t c x d → d ≡ refused t TooHigh → OverLimit t c x
  only-over (taken h a) z = absurd (omega (arith, code z))
  only-over (not_named h a) z = absurd (omega (arith, code a, code z))
  only-over (no_guard h a) z = absurd (omega (arith, code a, code z))
  only-over (over h a) z = h

  -- numbers that name nothing, and a guard that fails, leave one of them
  if-not-named : Case t c x d → (Named c x → ⊥) → d ≡ refused t OutOfRange
  if-not-named (taken h a) n = absurd (n h.at.named)
  if-not-named (not_named h a) n = a
  if-not-named (no_guard h a) n = absurd (n h.named)
  if-not-named (over h a) n = absurd (n h.at.named)

  if-no-guard : Case t c x d → NoGuard t c x → d ≡ refused t GuardFails
  if-no-guard (taken h a) n =
      let p = h.at in
      no-tree (sym (n.fails p) ∙ accepted-fires most_height p.leads.way p.named.rule (tree_in t c) h.tree h.is)
  if-no-guard (not_named h a) n = absurd (h n.named)
  if-no-guard (no_guard h a) n = a
  if-no-guard (over h a) n = no-tree (sym (n.fails h.at) ∙ h.holds)

  -- and none has another code
  one-of-four : Case t c x d
      → among d.answer.code (0 ∷ code_of OutOfRange ∷ code_of GuardFails ∷ code_of TooHigh ∷ []) ≡ true
  one-of-four (taken h a) = rw a refl
  one-of-four (not_named h a) = rw a refl
  one-of-four (no_guard h a) = rw a refl
  one-of-four (over h a) = rw a refl

module _ {t : List ℕ} {c : ℕ} (w : Whole t c) (x : Trial) where
  abbrev d : Done
  d = tried_on t x

  -- AT EVERY PLACE that the numbers name
  at_place : (p : NamedPlace t c x) → Ends t c (tree_in t c) (guarded t c x p) (limited t c x p) d
  unfolding fire_of aimed
  at_place p =
      let n = p.named in
      let plan = plan-is w x.rule x.holder x.side n.rule n.link n.is_rule n.is_link in
      rw (plan, w.sound.header)
      (ends (guarded t c x p) (limited t c x p) (aim t c n.rule n.link)
      (same_way (own_tree w) n.rule n.link p.leads))

  place-case : (p : NamedPlace t c x) → Ends t c (tree_in t c) (guarded t c x p) (limited t c x p) d → Case t c x d
  place-case p (done T' e a f) = taken (record { at = p; tree = T'; is = e }) (ap (λ (r : Answer). r.code) a)
  place-case p (high T' e n a) = over (record { at = p; tree = T'; holds = e; stopped = n }) a
  place-case p (fails e n a) = no_guard (record { named = p.named; fails = λ q. ends-fails d (at_place q) a }) a

  -- the numbers name one link
  same-link : (n m : Named c x) → n.link ≡ m.link
  same-link n m = let e = sym n.is_link ∙ m.is_link in cc

  link-case : (n : Named c x) (f : Result (Rule × Nodes) Refusal) → FireEnds t c (tree_in t c) n.rule n.link f → d ≡ fired t f
      → Case t c x d
  unfolding fired
  link-case n f (at_way l a) e =
      let p : NamedPlace t c x = record { named = n; leads = l } in place-case p (at_place p)
  link-case n f (no_way none-leads) e =
      let nowhere : NamedPlace t c x → ⊥ = λ p. none-leads (rw (same-link n p.named) p.leads) in
      no_guard (record { named = n; fails = λ p. absurd (nowhere p) }) e

  named-case : (a : prelude.Option Rule) (b : prelude.Option Link) → rule_of x.rule ≡ a → link_of c x.holder x.side ≡ b
      → d ≡ fired t (if_named a (λ r. if_named b (λ l. aimed t c r l))) → Case t c x d
  unfolding fired
  named-case None b p q e =
      not_named (λ n. let y = sym p ∙ n.is_rule in never cc) e
  named-case (Some r) None p q e =
      not_named (λ n. let y = sym q ∙ n.is_link in never cc) e
  named-case (Some r) (Some l) p q e =
      link-case (record { rule = r; link = l; is_rule = p; is_link = q }) (aimed t c r l)
      (fire-ends (own_tree w) r l (link-in c x.holder x.side l q)) e

  case : Case t c x d
  unfolding fire_of fire_plan
  case = named-case (rule_of x.rule) (link_of c x.holder x.side) refl refl (rw (sized-slots w.sized) refl)

  is-done : (e : Enabled t c x)
      → (d.answer ≡ accepted (word t change_word) 0 0 0) × Fired t d.words c (tree_in t c) e.tree
  is-done e = ends-done d e.tree e.is (at_place e.at)

  -- FIRE, EXACTLY
  pub fire-exact : FireIs t c x (tried_on t x)
  fire-exact =
      record {
        accepts = record { whenever = λ e. ap (λ (r : Answer). r.code) (is-done e).0; only_if = only-taken case };
        answers = λ e. (is-done e).0;
        acts = λ e. (is-done e).1;
        too_high = record {
          whenever = λ h. ends-high d h.tree h.holds h.stopped (at_place h.at);
          only_if = only-over case;
        };
        guard_fails = record { whenever = if-no-guard case; only_if = only-guard case };
        out_of_range = record { whenever = if-not-named case; only_if = only-named case };
        no_other = one-of-four case;
      }

-- a fire that refuses what is enabled does not meet this
pub no-refusing : (t : List ℕ) (c : ℕ) (x : Trial) (why : Refusal) → Enabled t c x → FireIs t c x (refused t why) → ⊥
no-refusing t c x why e f = some-code why (f.accepts.whenever e)
