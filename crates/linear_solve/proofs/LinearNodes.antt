-- A node is linear by its children.
use Rattle.linear_solve.proofs.Shared.{and_true, ◌≡◌, ◌<◌, ◌≤◌, ℕ, ◌+◌, Bool, true, false, List, [], ◌∷◌, drop, Option, Some, None, refl, sym, ap, ◌∙◌, arith, ◌&&◌, ◌||◌, nat_le, option_and_then}
use Rattle.linear_solve.proofs.Shared.{lt-leb, drop_more, drop_all, Kind, Tree, undef, Trees, none, more, count, root_kind, are_linear, count_named, has_name, have_name, is_divisor, is_linear}
use Rattle.linear_solve.proofs.{Shared.{joined_name, name_where_linear, root_name, nth, children_of, or_false}, SideWorths.{or_assoc}, TreeLists.{get_or-listed, length-listed, listed}}
use Rattle.std.specs.Prelude.{if◌then◌else◌}
use Rattle.calc_terms.specs.declared.kind.Kind.TheVariants as kind

-- children are asked one after another
abbrev pub asked : Kind → Bool → List Tree → Option Bool
asked k b [] = Some b
asked k b (t ∷ ts) = option_and_then (λ c. option_and_then (λ d. asked k d ts) (joined_name k b c)) (name_where_linear t)

-- where a product has no place for another name
abbrev answer : Bool → Bool → Option Bool
answer linear named = if linear then Some named else None

-- one that is no product
plain_asked : (k : Kind) → ((b c : Bool) → joined_name k b c ≡ Some (b || c)) → (ts : Trees) (b : Bool) → asked k b (listed ts) ≡ answer (are_linear ts) (b || have_name ts)
plain_asked k h none b = ap Some (sym (or_false b))
plain_asked k h (more t ts) b = grind (arith, h, plain_asked k h ts (b || has_name t), or_assoc)

two_named : (n : ℕ) → nat_le (1 + (1 + n)) 1 ≡ false
two_named n = lt-leb _ 1 (omega arith)

-- a product
product_asked : (ts : Trees) (b : Bool) → asked kind.Mult b (listed ts) ≡ answer (are_linear ts && nat_le ((if b then 1 else 0) + count_named ts) 1) (b || have_name ts)
product_asked none b = grind arith
product_asked (more t ts) b = grind (arith, product_asked ts (b || has_name t), two_named (count_named ts))

pub divisor_linear : (c : Tree) → is_divisor c ≡ true → (is_linear c ≡ true) × (has_name c ≡ false)
divisor_linear c h = grind arith

two_asked : (k : Kind) → ((b c : Bool) → joined_name k b c ≡ Some (b || c)) → (a c : Tree) → asked k false (a ∷ c ∷ []) ≡ answer (is_linear a && is_linear c) (has_name a || has_name c)
two_asked k h a c = plain_asked k h (more a (more c none)) false ∙ (λ i. answer (is_linear a && and_true (is_linear c) i) (has_name a || or_false (has_name c) i))

-- what the root and the children say of the tree
pub asked_all : (t : Tree) (b : Bool) → root_name t ≡ Some b → asked (root_kind t) b (listed (children_of t)) ≡ name_where_linear t
asked_all t b e = grind (arith, plain_asked, product_asked, and_true, or_false, two_asked, divisor_linear)

-- ---- a loop over the children

asked_at : (k : Kind) (b : Bool) (ts : Trees) (i : ℕ) → i < count ts
    → asked k b (drop i (listed ts)) ≡ option_and_then (λ c. option_and_then (λ d. asked k d (drop (i + 1) (listed ts))) (joined_name k b c)) (name_where_linear (nth i ts))
asked_at k b ts i l =
    ap (asked k b) (drop_more (listed ts) i undef (omega (arith, length-listed ts)))
    ∙ ap (λ t. option_and_then (λ c. option_and_then (λ d. asked k d (drop (i + 1) (listed ts))) (joined_name k b c)) (name_where_linear t)) (get_or-listed ts i)

pub asked_next : (k : Kind) (b c d : Bool) (ts : Trees) (i : ℕ) → i < count ts → name_where_linear (nth i ts) ≡ Some c → joined_name k b c ≡ Some d
    → asked k b (drop i (listed ts)) ≡ asked k d (drop (i + 1) (listed ts))
asked_next k b c d ts i l e h = rw (asked_at k b ts i l, e, h) refl

pub asked_none : (k : Kind) (b : Bool) (ts : Trees) (i : ℕ) → i < count ts → name_where_linear (nth i ts) ≡ None → asked k b (drop i (listed ts)) ≡ None
asked_none k b ts i l e = rw (asked_at k b ts i l, e) refl

pub asked_clash : (k : Kind) (b c : Bool) (ts : Trees) (i : ℕ) → i < count ts → name_where_linear (nth i ts) ≡ Some c → joined_name k b c ≡ None → asked k b (drop i (listed ts)) ≡ None
asked_clash k b c ts i l e h = rw (asked_at k b ts i l, e, h) refl

pub asked_end : (k : Kind) (b : Bool) (ts : Trees) (i : ℕ) → count ts ≤ i → asked k b (drop i (listed ts)) ≡ Some b
asked_end k b ts i l = ap (asked k b) (drop_all i (listed ts) (omega (arith, length-listed ts)))
