-- The depth of a tree, from its nodes in postfix order.
use Rattle.calc_parser.proofs.Shared.{ℕ, suc, ◌+◌, ◌-◌, ◌≡◌, ◌≤◌, ◌<◌, List, [], ◌∷◌, ◌++◌, length, map, take, drop, refl, sym, ap, ◌∙◌, arith}
use Rattle.calc_parser.proofs.Shared.{length-append, append_assoc, append-nil, get_or, drop-cons, add-one, drop_all, Kind, Tree, add, mult, power, root, neg, sub, div, Trees}
use Rattle.calc_parser.proofs.Shared.{none, more, count, depth, depths, Step, Node, parent, postfix, postfixes, deepest, with_node, with_nodes}
use Rattle.std.specs.Prelude.{max}
use Rattle.calc_terms.specs.declared.kind.Kind.TheVariants as kind

-- ---- depths

pub with_nodes-append : (ds : List ℕ) (xs ys : List Node) → with_nodes ds (xs ++ ys) ≡ with_nodes (with_nodes ds xs) ys
with_nodes-append ds [] ys = refl
with_nodes-append ds (x ∷ xs) ys = with_nodes-append (with_node ds x) xs ys

take_front : (ds es : List ℕ) → take (length ds) (ds ++ es) ≡ ds
take_front [] es = refl
take_front (d ∷ ds) es = ap (λ r. d ∷ r) (take_front ds es)

drop_front : (ds es : List ℕ) → drop (length ds) (ds ++ es) ≡ es
drop_front [] es = refl
drop_front (d ∷ ds) es = drop_front ds es

-- a parent over the last trees
with_parent : (ds es : List ℕ) (k : Kind) → with_node (ds ++ es) (parent k (length es)) ≡ ds ++ suc (deepest es) ∷ []
with_parent ds es k =
    let front : length (ds ++ es) - length es ≡ length ds = omega (arith, length-append ds es) in
    rw (front, take_front ds es, drop_front ds es) refl

-- the depths of trees one behind the other
abbrev depth_list : Trees → List ℕ
depth_list none = []
depth_list (more t ts) = depth t ∷ depth_list ts

length_depths : (ts : Trees) → length (depth_list ts) ≡ count ts
length_depths none = refl
length_depths (more t ts) = ap suc (length_depths ts)

deepest_depths : (ts : Trees) → deepest (depth_list ts) ≡ depths ts
deepest_depths none = refl
deepest_depths (more t ts) = ap (max (depth t)) (deepest_depths ts)

over_list : (ds es : List ℕ) (k : Kind) (xs : List Node) → with_nodes ds xs ≡ ds ++ es → with_nodes ds (xs ++ parent k (length es) ∷ []) ≡ ds ++ suc (deepest es) ∷ []
over_list ds es k xs e = with_nodes-append ds xs (parent k (length es) ∷ []) ∙ ap (λ r. with_node r (parent k (length es))) e ∙ with_parent ds es k

over_children : (ds : List ℕ) (k : Kind) (ts : Trees) (xs : List Node) → with_nodes ds xs ≡ ds ++ depth_list ts → with_nodes ds (xs ++ parent k (count ts) ∷ []) ≡ ds ++ suc (depths ts) ∷ []
over_children ds k ts xs e =
    ap (λ n. with_nodes ds (xs ++ parent k n ∷ [])) (sym (length_depths ts)) ∙ over_list ds (depth_list ts) k xs e ∙ ap (λ n. ds ++ suc n ∷ []) (deepest_depths ts)

over_one : (ds : List ℕ) (k : Kind) (a : Tree) (xs : List Node) → with_nodes ds xs ≡ ds ++ depth a ∷ [] → with_nodes ds (xs ++ parent k 1 ∷ []) ≡ ds ++ suc (depth a) ∷ []
over_one ds k a xs e = let same : max (depth a) 0 ≡ depth a = omega arith in over_list ds (depth a ∷ []) k xs e ∙ ap (λ n. ds ++ suc n ∷ []) same

over_two : (ds : List ℕ) (k : Kind) (a b : Tree) (xs ys : List Node) → with_nodes ds xs ≡ ds ++ depth a ∷ [] → with_nodes (ds ++ depth a ∷ []) ys ≡ (ds ++ depth a ∷ []) ++ depth b ∷ []
    → with_nodes ds ((xs ++ ys) ++ parent k 2 ∷ []) ≡ ds ++ suc (max (depth a) (depth b)) ∷ []
over_two ds k a b xs ys e f =
    let both : with_nodes ds (xs ++ ys) ≡ ds ++ depth a ∷ depth b ∷ [] = with_nodes-append ds xs ys ∙ ap (λ r. with_nodes r ys) e ∙ f ∙ append_assoc ds (depth a ∷ []) (depth b ∷ []) in
    let same : max (depth a) (max (depth b) 0) ≡ max (depth a) (depth b) = omega arith in
    over_list ds (depth a ∷ depth b ∷ []) k (xs ++ ys) both ∙ ap (λ n. ds ++ suc n ∷ []) same

mutual
  pub depth_found : (t : Tree) (ds : List ℕ) → with_nodes ds (postfix t) ≡ ds ++ depth t ∷ []
  depth_found (add ts) ds = over_children ds kind.Add ts (postfixes ts) (depths_found ts ds)
  depth_found (mult ts) ds = over_children ds kind.Mult ts (postfixes ts) (depths_found ts ds)
  depth_found (power b e) ds = over_two ds kind.Pow b e (postfix b) (postfix e) (depth_found b ds) (depth_found e (ds ++ depth b ∷ []))
  depth_found (root a) ds = over_one ds kind.Root a (postfix a) (depth_found a ds)
  depth_found (neg a) ds = over_one ds kind.Neg a (postfix a) (depth_found a ds)
  depth_found (sub a b) ds = over_two ds kind.Sub a b (postfix a) (postfix b) (depth_found a ds) (depth_found b (ds ++ depth a ∷ []))
  depth_found (div a b) ds = over_two ds kind.Div a b (postfix a) (postfix b) (depth_found a ds) (depth_found b (ds ++ depth a ∷ []))
  depth_found _ ds = refl

  depths_found : (ts : Trees) (ds : List ℕ) → with_nodes ds (postfixes ts) ≡ ds ++ depth_list ts
  depths_found none ds = sym (append-nil ds)
  depths_found (more t ts) ds =
      with_nodes-append ds (postfix t) (postfixes ts) ∙ ap (λ r. with_nodes r (postfixes ts)) (depth_found t ds)
      ∙ depths_found ts (ds ++ depth t ∷ []) ∙ append_assoc ds (depth t ∷ []) (depth_list ts)

-- ---- a list of depths that stays small

pub deepest-append : (ds es : List ℕ) → deepest (ds ++ es) ≡ max (deepest ds) (deepest es)
deepest-append [] es = omega arith
deepest-append (d ∷ ds) es = let rest : deepest (ds ++ es) ≡ max (deepest ds) (deepest es) = deepest-append ds es in omega arith

pub deepest_take : (n : ℕ) (ds : List ℕ) → deepest (take n ds) ≤ deepest ds
deepest_take (suc n) (d ∷ ds) = let rest : deepest (take n ds) ≤ deepest ds = deepest_take n ds in omega arith
deepest_take n ds = omega arith

pub deepest_drop : (n : ℕ) (ds : List ℕ) → deepest (drop n ds) ≤ deepest ds
deepest_drop (suc n) (d ∷ ds) = let rest : deepest (drop n ds) ≤ deepest ds = deepest_drop n ds in omega arith
deepest_drop n ds = omega arith

pub with_node_small : (ds : List ℕ) (x : Node) → deepest (with_node ds x) ≤ deepest ds + 1
with_node_small ds x = grind (arith, deepest-append, deepest_take, deepest_drop)

-- ---- the steps, one further

pub add_on : (f : Step → Node) (ds new : List ℕ) (steps : List Step) (at : ℕ) (d : Step) → at < length steps → new ≡ with_node ds (f (get_or steps at d))
    → with_nodes new (map f (drop (at + 1) steps)) ≡ with_nodes ds (map f (drop at steps))
add_on f ds new steps at d inside e = rw (add-one, drop-cons steps at d inside, e) refl

-- at the end one tree stands, of this depth
pub one_left : (f : Step → Node) (t : Tree) (ds : List ℕ) (steps : List Step) (at : ℕ) → length steps ≤ at → with_nodes ds (map f (drop at steps)) ≡ with_nodes [] (map f steps) → map f steps ≡ postfix t
    → ds ≡ depth t ∷ []
one_left f t ds steps at past e is = sym (ap (λ xs. with_nodes ds (map f xs)) (drop_all at steps past)) ∙ e ∙ ap (with_nodes []) is ∙ depth_found t []
