-- A rotation and a double rotation leave every slot noted where it hangs. Assumes nothing.
use Prim.Native.Nat.{ℕ, ◌≤◌}
use mathlib.Core.Path.{◌≡◌, refl, sym, ◌∙◌, ap}
use mathlib.Core.List.{List, [], ◌∷◌}
use native.Mathlib.Omega.{arith}
use lib.ListN.{length, get_or}
use Rattle.scope.specs.Numbers.{other}
use Rattle.scope.specs.Table.{word, slot_at, son, link_at, written}
use Rattle.scope.specs.declared.side.Side.{Side}
use Rattle.scope.specs.declared.side.Side.TheVariants.{Left, Right}
use Rattle.scope.specs.declared.side.Link.{Link}
use Rattle.scope.specs.declared.slot.Slot.{Slot}
use Rattle.scope.specs.declared.outcome.Nodes.{Nodes}
use Rattle.spelling.specs.Whole.{Whole}
use Rattle.spelling.specs.Ready.{Sized}
use Rattle.scope.specs.Edits.{Edit, writes}
use Rattle.scope.specs.Rules.{rotated, rotated_twice}
use Rattle.bridge.proofs.Firing.Calls.{LinkIn}
use Rattle.tidy_holders.specs.Codes.{link_for, link_number, held_at}
use Rattle.tidy_holders.specs.Holds.{CodeIn, AllNoted, noted}
use Rattle.tidy_holders.proofs.Noting.Links.{side-most, code_in, son-in, held_link, held-son, held-most}
use Rattle.tidy_holders.proofs.Noting.Swaps.{Move, takes, NotAt, NotFrom, Once, after_moves, told, told-after}
use Rattle.tidy_holders.proofs.Noting.Places.{AllProper, held_part, held_by, held-edits}
use Rattle.tidy_holders.proofs.Noting.Places.{note_part, note_by, EachNoted, note-edits}
use Rattle.tidy_holders.proofs.Noting.Apart.{Two, Three, two-apart, three-apart}

-- edits that come to such moves
pub by-moves : {t : List ℕ} {c : ℕ} {h : List ℕ} → Sized t c → length h ≡ 4096 → AllNoted t c h → (es : List Edit) (ms : List Move)
    → AllProper c es → EachNoted es → Once c ms → ((q : ℕ) → NotAt q ms → NotFrom q ms)
    → ((q : ℕ) → held_by es q (held_at t q) ≡ after_moves c (held_at t) (λ k. get_or h k 0) ms q)
    → ((k : ℕ) → note_by es k (get_or h k 0) ≡ told c (held_at t) (λ k. get_or h k 0) ms k)
    → AllNoted (written t (writes es)) c (noted es h)
by-moves {t} {c} {h} z room o es ms p n once out held note = record {
  is = λ q i l.
      let e = held-edits z q i es p ∙ held q in
      let x = after_moves c (held_at t) (λ k. get_or h k 0) ms q in
      ap (λ (k : ℕ). get_or (noted es h) k 0) e
      ∙ (note-edits h room x es n).1 ∙ note x
      ∙ told-after c (held_at t) (λ k. get_or h k 0) o.is ms once q i (out q) (rw (← e) l);
}

codes-apart : (j k : ℕ) (a b : Side) → (j ≡ k → ⊥) → link_number (link_for j a) ≡ link_number (link_for k b) → ⊥
unfolding link_number
codes-apart j k a b ne e = omega (arith, side-most a, side-most b)

sides_apart : (k : ℕ) (s : Side) → link_number (link_for k s) ≡ link_number (link_for k (other s)) → ⊥
unfolding link_number
sides_apart k Left e = omega arith
sides_apart k Right e = omega arith

-- the nodes of a rule of side s at link l
module _ {t : List ℕ} {c : ℕ} (wh : Whole t c) (l : Link) (i : LinkIn c l) (s : Side) where
  abbrev v : ℕ
  v = word t (link_at l)

  abbrev u : ℕ
  u = son (slot_at t v) s

  abbrev m : ℕ
  m = son (slot_at t u) (other s)

  -- the numbers of the links: v's, u's far one, v's near one
  abbrev g : ℕ
  g = link_number l

  abbrev a : ℕ
  a = link_number (link_for u (other s))

  abbrev b : ℕ
  b = link_number (link_for v s)

  small : {k : ℕ} → k ≤ c → k ≤ 4095
  small j = omega (arith, wh.sized.most)

  most : (q : ℕ) → CodeIn c q → held_at t q ≤ 4095
  most q j = small (held-most wh q j)

  module _ (vi : 1 ≤ v) (ui : 1 ≤ u) where
    pub v-within : v ≤ c
    v-within = rw (← held_link t l) (held-most wh g (code_in l i))

    b-in : CodeIn c b
    b-in = son-in v s vi v-within

    u_most : u ≤ c
    u_most = rw (← held-son t v s vi) (held-most wh b b-in)

    a_in : CodeIn c a
    a_in = son-in u (other s) ui u_most

    at-v : (1 ≤ v) × (v ≤ c)
    at-v = (vi, v-within)

    at-u : (1 ≤ u) × (u ≤ c)
    at-u = (ui, u_most)

    apart : Two v u l.holder
    apart = two-apart wh l i vi s ui

    in-v : LinkIn c (link_for v s)
    in-v = record { most = v-within; root = λ e. absurd (omega arith) }

    in-u : LinkIn c (link_for u (other s))
    in-u = record { most = u_most; root = λ e. absurd (omega arith) }

    g-a : g ≡ a → ⊥
    g-a = codes-apart l.holder u l.side (other s) (λ e. apart.u_g (sym e))

    g-b : g ≡ b → ⊥
    g-b = codes-apart l.holder v l.side s (λ e. apart.v_g (sym e))

    a-b : a ≡ b → ⊥
    a-b = codes-apart u v (other s) s (λ e. apart.v_u (sym e))

    -- the nodes; for a rotation w does not matter
    abbrev pub pair_at : ℕ → Slot → Nodes
    pair_at w sw = record { link = l; v = v; u = u; w = w; sv = slot_at t v; su = slot_at t u; sw = sw }

    module _ {h : List ℕ} (room : length h ≡ 4096) (o : AllNoted t c h) where
      pub turned-holds : (w : ℕ) (sw : Slot)
          → AllNoted (written t (writes (rotated s (pair_at w sw)))) c (noted (rotated s (pair_at w sw)) h)
      unfolding held_by held_part note_by note_part after_moves told
      turned-holds w sw =
          by-moves wh.sized room o (rotated s (pair_at w sw)) (takes b a ∷ takes a g ∷ takes g b ∷ [])
          (i, (in-u, (in-v, (at-v, (at-u, tt)))))
          (small u_most, (small v-within, (rw (← held-son t u (other s) ui) (most a a_in), (tt, (tt, tt)))))
          (a_in, ((λ e. g-a (sym e)), (a-b, tt)), (code_in l i, (g-b, tt), (b-in, tt, tt)))
          (λ q n. (n.1.0, (n.1.1.0, (n.0, tt))))
          (λ q. rw (held-son t u (other s) ui, held_link t l, held-son t v s vi) refl)
          (λ k. rw (held-son t u (other s) ui, held_link t l, held-son t v s vi) refl)

      -- w is u's far son
      module _ (wi : 1 ≤ m) where
        w_most : m ≤ c
        w_most = rw (← held-son t u (other s) ui) (held-most wh a a_in)

        abbrev wn : ℕ
        wn = link_number (link_for m s)

        abbrev wf : ℕ
        wf = link_number (link_for m (other s))

        in-w : (side : Side) → LinkIn c (link_for m side)
        in-w side = record { most = w_most; root = λ e. absurd (omega arith) }

        -- what hangs at them
        wn-son : held_at t wn ≡ son (slot_at t m) s
        wn-son = held-son t m s wi

        wf-son : held_at t wf ≡ son (slot_at t m) (other s)
        wf-son = held-son t m (other s) wi

        w-in : (side : Side) → CodeIn c (link_number (link_for m side))
        w-in side = son-in m side wi w_most

        apart-w : Three v u m l.holder
        apart-w = three-apart wh l i vi s ui wi

        -- w's links are none of the others
        w_g : (side : Side) → link_number (link_for m side) ≡ g → ⊥
        w_g side = codes-apart m l.holder side l.side apart-w.w_g

        w-a : (side : Side) → link_number (link_for m side) ≡ a → ⊥
        w-a side = codes-apart m u side (other s) (λ e. apart-w.u_w (sym e))

        w-b : (side : Side) → link_number (link_for m side) ≡ b → ⊥
        w-b side = codes-apart m v side s (λ e. apart-w.v_w (sym e))

        abbrev moves : List Move
        moves = takes b wf ∷ takes a wn ∷ takes wf g ∷ takes wn b ∷ takes g a ∷ []

        once : Once c moves
        once = (
          w-in (other s),
          ((λ e. sides_apart m s (sym e)), (w_g (other s), (w-b (other s), (w-a (other s), tt)))),
          (
            w-in s,
            (w_g s, (w-b s, (w-a s, tt))),
            (code_in l i, (g-b, (g-a, tt)), (b-in, ((λ e. a-b (sym e)), tt), (a_in, tt, tt))),
          ),
        )

        low : (side : Side) → son (slot_at t m) side ≤ 4095
        low side = rw (← held-son t m side wi) (most (link_number (link_for m side)) (w-in side))

        at-w : (1 ≤ m) × (m ≤ c)
        at-w = (wi, w_most)

        noted-all : EachNoted (rotated_twice s (pair_at m (slot_at t m)))
        noted-all = (small w_most, (small u_most, (small v-within, (low s, (low (other s), (tt, (tt, (tt, (tt, tt)))))))))

        proper : AllProper c (rotated_twice s (pair_at m (slot_at t m)))
        proper = (i, (in-w s, (in-w (other s), (in-u, (in-v, (at-u, (at-v, (at-w, (at-w, tt)))))))))

        pub twice_holds : AllNoted (written t (writes (rotated_twice s (pair_at m (slot_at t m))))) c
            (noted (rotated_twice s (pair_at m (slot_at t m))) h)
        unfolding held_by held_part note_by note_part after_moves told
        twice_holds =
            by-moves wh.sized room o (rotated_twice s (pair_at m (slot_at t m))) moves proper
            noted-all once
            (λ q n. (n.1.1.0, (n.1.1.1.0, (n.1.1.1.1.0, (n.0, (n.1.0, tt))))))
            (λ q. rw (wf-son, wn-son, held_link t l, held-son t v s vi, held-son t u (other s) ui) refl)
            (λ k. rw (wf-son, wn-son, held_link t l, held-son t v s vi, held-son t u (other s) ui) refl)
