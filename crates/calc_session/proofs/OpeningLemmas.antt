-- Lemmas on a new session.
use Rattle.calc_session.proofs.Shared.{◌≡◌, ◌∙◌, [], ◌∷◌, refl, ap, subst, arith, pos, Node, fresh, rational, Ratio, whole, whole_num, IsHeld, IsKeepable, Table, first_table, Full, IsLeastFree, empty}
use Rattle.calc_session.proofs.Shared.{flatten, forest_of, one_tree, Ends, Stands, forest, KeepsRefusals, forest_of_whole, gives, represents_node, represents_none, ends_as, Seen, State, first_state}
use Rattle.calc_session.proofs.Shared.{state_of, first_held}
use Rattle.std.proofs.Common.{ℕ, List, Result, Ok, IfOk, OnOk, None}
use Rattle.node_pool.specs.State.{State as PoolState}

keepable_zero : (i : ℕ) → IsKeepable None (first_table i) (whole_num 0)
keepable_zero i = record { writable = (0, refl); clear = λ x m (k, l, e). absurd (omega arith) }

-- the first identifier is 0
first_id : (i : ℕ) (nodes : List Node) → nodes ≡ [] → IsLeastFree i nodes → i ≡ 0
first_id i nodes e h = grind arith

-- what a new session holds
pub record IsOpened (p q : PoolState) (i : ℕ) : Type 0 where
  pub first : i ≡ 0
  pub held : IsHeld (first_table i) (forest q)
  pub nodes : q.nodes ≡ fresh i (rational (whole (pos 0))) ∷ []
  pub kept : KeepsRefusals p q

-- the answer 0 is placed in a pool without nodes
pub opened : (p q : PoolState) (r : Result ℕ Full) (i : ℕ) (x : Ratio) → IfOk r (λ h. Ends h (one_tree h (rational x) empty) (forest p) (forest q)) → IfOk r (λ h. IsLeastFree h p.nodes) → OnOk r (KeepsRefusals p q) → r ≡ Ok i
    → p.nodes ≡ [] → x ≡ whole (pos 0) → Stands q → IsOpened p q i
opened p q r i x ok least kept is none payload st =
    let none_before : forest p ≡ empty = ap forest_of none ∙ forest_of_whole empty in
    let ends = ends_as (subst (λ r. IfOk r (λ h. Ends h (one_tree h (rational x) empty) (forest p) (forest q))) is ok) (ap (λ (y : Ratio). one_tree i (rational y) empty) payload) none_before in
    record {
      first = first_id i p.nodes none (subst (λ r. IfOk r (λ h. IsLeastFree h p.nodes)) is least);
      held = first_held i (forest q) (gives ends (represents_node i (rational (whole (pos 0))) represents_none refl) (keepable_zero i));
      nodes = st.flat ∙ ap flatten ends.whole;
      kept = subst (λ r. OnOk r (KeepsRefusals p q)) is kept;
    }

-- its state
pub first_state_is : (q : PoolState) (t : Table) (i n : ℕ) → t ≡ first_table i → i ≡ 0 → q.nodes ≡ fresh i (rational (whole (pos 0))) ∷ [] → q.size ≡ n → state_of q t ≡ first_state n
first_state_is q t i n h k l m = grind arith

pub seen_is : (s t : State) (m n : ℕ) (f g : Full) (a b : List ℕ) → s ≡ t → m ≡ n → f ≡ g → a ≡ b
    → (let x : Seen = record { state = s; refusals = m; last_refused = f; text = a } in x) ≡ record { state = t; refusals = n; last_refused = g; text = b }
seen_is s t m n f g a b p q r e = grind arith
