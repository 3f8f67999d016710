-- Flags of identifiers, and the identifiers of nodes.
use Rattle.node_pool.proofs.Shared.{get_or-set_other, get_or-set_same, Bool, List, [], ap, arith, cond, eqb, false, length, refl, set, subst, suc, sym, true, zero, ℕ, ◌<◌, ◌∙◌, ◌∷◌, ◌≡◌, eq-eqb}
use Rattle.node_pool.proofs.{Shared.{eqb-false, eqb-true, length-set, Node, AreBelow, AreFlagsOf, AreTakenBelow, HasUnused, flag, without_ids, has}, LeastFree.{holes}}
use Rattle.std.proofs.{Common.{inl, inr, ◌⊎◌}, lemmas.Bool.{cases_Bool, cases_eq}}

-- ---- what goes

pub released : (ids new : List Bool) (ms rest : List Node) (n : Node) (id : ℕ) → ms ≡ n ∷ rest → id ≡ n.id → new ≡ set ids id false → AreBelow (length ids) ms → AreBelow (length new) rest × (without_ids rest new ≡ without_ids ms ids)
released ids new ms rest n id e i q h =
    let known : AreBelow (length ids) (n ∷ rest) = subst (AreBelow (length ids)) e h in
    let len : length new ≡ length ids = ap length q ∙ length-set ids id false in
    (subst (λ (k : ℕ). AreBelow k rest) (sym len) known.1, ap (without_ids rest) (q ∙ ap (λ (k : ℕ). set ids k false) i) ∙ ap (λ (x : List Node). without_ids x ids) (sym e))

pub released_rest : (ids new : List Bool) (ms rest : List Node) (n : Node) (id : ℕ) → ms ≡ n ∷ rest → id ≡ n.id → new ≡ set ids id false → without_ids rest new ≡ without_ids ms ids
released_rest ids new ms rest n id e i q = ap (without_ids rest) (q ∙ ap (λ (k : ℕ). set ids k false) i) ∙ ap (λ (x : List Node). without_ids x ids) (sym e)

pub length-without_ids : (ns : List Node) (flags : List Bool) → length (without_ids ns flags) ≡ length flags
length-without_ids [] flags = refl
length-without_ids (n ∷ ns) flags = length-without_ids ns (set flags n.id false) ∙ length-set flags n.id false

-- an identifier in use has a flag
pub flag_inside : (id : ℕ) (flags : List Bool) → flag id flags ≡ true → id < length flags
flag_inside id [] h = absurd cc
flag_inside zero (f ∷ flags) h = omega arith
flag_inside (suc id) (f ∷ flags) h = omega (arith, flag_inside id flags h)

flag-set_step : (id k : ℕ) (flags : List Bool) (b t : Bool) → k < length flags → eqb id k ≡ t → flag id (set flags k b) ≡ cond t b (flag id flags)
flag-set_step id k flags b true h e = rw (eqb-true id k e) (get_or-set_same flags k b false h)
flag-set_step id k flags b false h e = get_or-set_other flags k id b false (eqb-false id k e)

pub flag-set : (id k : ℕ) (flags : List Bool) (b : Bool) → k < length flags → flag id (set flags k b) ≡ cond (eqb id k) b (flag id flags)
flag-set id k flags b h = flag-set_step id k flags b (eqb id k) h refl

-- the flags without those of some nodes
gone_step : (i k : ℕ) (t h f : Bool) → eqb i k ≡ t → cond h false (cond t false f) ≡ cond (cond (eqb k i) true h) false f
gone_step i k t h f e = grind arith

pub flag-without_ids : (i : ℕ) (ns : List Node) (flags : List Bool) → AreBelow (length flags) ns → flag i (without_ids ns flags) ≡ cond (has i ns) false (flag i flags)
flag-without_ids i [] flags h = refl
flag-without_ids i (n ∷ ns) flags h =
    let next = set flags n.id false in
    let below : AreBelow (length next) ns = subst (λ (k : ℕ). AreBelow k ns) (sym (length-set flags n.id false)) h.1 in
    flag-without_ids i ns next below ∙ ap (λ (b : Bool). cond (has i ns) false b) (flag-set i n.id flags false h.0) ∙ gone_step i n.id (eqb i n.id) (has i ns) (flag i flags) refl

-- every identifier of some nodes has a flag
pub below : (len : ℕ) (ms : List Node) → ((i : ℕ) → has i ms ≡ true → i < len) → AreBelow len ms
below len [] h = tt
below len (n ∷ ms) h = (h n.id (rw (eq-eqb n.id n.id refl) refl), below len ms (λ i k. h i (grind arith)))

-- ---- what is not in use

all_or_one : (k : ℕ) (flags : List Bool) → AreTakenBelow k flags ⊎ ((i : ℕ) × (i < k) × (flag i flags ≡ false))
all_or_one zero flags = inl (λ i h. absurd (omega arith))
all_or_one (suc k) flags = elim (all_or_one k flags) [
  | inl h ↦ elim (cases_Bool (flag k flags)) [
    | inl e ↦ inl (λ i lt. elim (cases_eq i k) [ inl q ↦ ap (λ (x : ℕ). flag x flags) q ∙ e | inr ne ↦ h i (omega (arith, ne)) ])
    | inr e ↦ inr (k, omega arith, e)
  ]
  | inr r ↦ inr (r.0, omega (arith, r.1), r.2)
]

-- where there are fewer nodes than flags, one is not in use
pub unused : (ns : List Node) (flags : List Bool) → AreFlagsOf ns flags → length ns < length flags → HasUnused flags
unused ns flags h few = elim (all_or_one (length flags) flags) [
  | inl all ↦ absurd (omega (arith, holes (length flags) ns (λ i lt. sym (h i) ∙ all i lt)))
  | inr r ↦ record { id = r.0; inside = r.1; unused = r.2 }
]
