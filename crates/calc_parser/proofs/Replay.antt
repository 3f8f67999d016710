-- A tree from its nodes in postfix order.
use Rattle.calc_parser.proofs.Shared.{◌≡◌, ◌+◌, List, [], ◌∷◌, ◌++◌, true, refl, sym, ap, ◌∙◌, subst, arith, append_assoc, append-nil, Tree, add, mult, power, root, neg, sub, div, Trees, none, more}
use Rattle.calc_parser.proofs.Shared.{append, count, append-none, Node, postfix, postfixes, children_in, tree_over, takes_children}
use Rattle.calc_terms.proofs.SmallLaws.{count_append as count-append, first_is as head_is, others_are as tail_is, append_assoc as append_trees}

-- the last of the trees become the children of the node
pub record Takes (n : Node) (ts below us : Trees) : Type 0 where
  pub whole : ts ≡ append below us
  pub many : count us ≡ children_in n
  pub takes : takes_children n ≡ true

-- the nodes make one tree of the trees that stand
abbrev pub Makes : Trees → List Node → Tree → Type 0
Makes ts [] t = ts ≡ more t none
Makes ts (n ∷ ns) t = (below : Trees) × (us : Trees) × Takes n ts below us × Makes (append below (more (tree_over n us) none)) ns t

-- a node over the last trees
over : (n : Node) (ts us : Trees) (ns : List Node) (u : Tree) → count us ≡ children_in n → takes_children n ≡ true → Makes (append ts (more (tree_over n us) none)) ns u → Makes (append ts us) (n ∷ ns) u
over n ts us ns u e h m = (ts, us, record { whole = refl; many = e; takes = h }, m)

leaf_over : (n : Node) (ts : Trees) (ns : List Node) (u : Tree) → 0 ≡ children_in n → takes_children n ≡ true → Makes (append ts (more (tree_over n none) none)) ns u → Makes ts (n ∷ ns) u
leaf_over n ts ns u e h m = subst (λ x. Makes x (n ∷ ns) u) (append-none ts) (over n ts none ns u e h m)

regroup : (xs ys ns : List Node) (n : Node) → ((xs ++ ys) ++ n ∷ []) ++ ns ≡ xs ++ (ys ++ n ∷ ns)
regroup xs ys ns n = append_assoc (xs ++ ys) (n ∷ []) ns ∙ append_assoc xs ys (n ∷ ns)

two : (n : Node) (ts : Trees) (a b : Tree) (ns : List Node) (u : Tree) → 2 ≡ children_in n → takes_children n ≡ true → Makes (append ts (more (tree_over n (more a (more b none))) none)) ns u
    → Makes (append (append ts (more a none)) (more b none)) (n ∷ ns) u
two n ts a b ns u e h m = subst (λ x. Makes x (n ∷ ns) u) (sym (append_trees ts (more a none) (more b none))) (over n ts (more a (more b none)) ns u e h m)

mutual
  pub replay : (t : Tree) (ts : Trees) (ns : List Node) (u : Tree) → Makes (append ts (more t none)) ns u → Makes ts (postfix t ++ ns) u
  replay (add us) ts ns u m = subst (λ x. Makes ts x u) (sym (append_assoc (postfixes us) (_ ∷ []) ns)) (replays us ts (_ ∷ ns) u (over _ ts us ns u refl refl m))
  replay (mult us) ts ns u m = subst (λ x. Makes ts x u) (sym (append_assoc (postfixes us) (_ ∷ []) ns)) (replays us ts (_ ∷ ns) u (over _ ts us ns u refl refl m))
  replay (root a) ts ns u m = subst (λ x. Makes ts x u) (sym (append_assoc (postfix a) (_ ∷ []) ns)) (replay a ts (_ ∷ ns) u (over _ ts (more a none) ns u refl refl m))
  replay (neg a) ts ns u m = subst (λ x. Makes ts x u) (sym (append_assoc (postfix a) (_ ∷ []) ns)) (replay a ts (_ ∷ ns) u (over _ ts (more a none) ns u refl refl m))
  replay (power b e) ts ns u m = subst (λ x. Makes ts x u) (sym (regroup (postfix b) (postfix e) ns _)) (replay b ts (postfix e ++ _ ∷ ns) u (replay e (append ts (more b none)) (_ ∷ ns) u (two _ ts b e ns u refl refl m)))
  replay (sub a b) ts ns u m = subst (λ x. Makes ts x u) (sym (regroup (postfix a) (postfix b) ns _)) (replay a ts (postfix b ++ _ ∷ ns) u (replay b (append ts (more a none)) (_ ∷ ns) u (two _ ts a b ns u refl refl m)))
  replay (div a b) ts ns u m = subst (λ x. Makes ts x u) (sym (regroup (postfix a) (postfix b) ns _)) (replay a ts (postfix b ++ _ ∷ ns) u (replay b (append ts (more a none)) (_ ∷ ns) u (two _ ts a b ns u refl refl m)))
  replay _ ts ns u m = leaf_over _ ts ns u refl refl m

  replays : (us : Trees) (ts : Trees) (ns : List Node) (u : Tree) → Makes (append ts us) ns u → Makes ts (postfixes us ++ ns) u
  replays none ts ns u m = subst (λ x. Makes x ns u) (append-none ts) m
  replays (more t us) ts ns u m =
      subst (λ x. Makes ts x u) (sym (append_assoc (postfix t) (postfixes us) ns))
      (replay t ts (postfixes us ++ ns) u (replays us (append ts (more t none)) ns u (subst (λ x. Makes x ns u) (sym (append_trees ts (more t none) us)) m)))

-- all its nodes make the tree
pub replayed : (t : Tree) (ns : List Node) → ns ≡ postfix t → Makes none ns t
replayed t ns e = subst (λ x. Makes none x t) (sym (e ∙ sym (append-nil (postfix t)))) (replay t none [] t refl)

-- ---- lists of trees in two parts

pub record SameParts (a b c d : Trees) : Type 0 where
  pub fronts : a ≡ c
  pub ends : b ≡ d

no_front : (t : Tree) (a b d : Trees) → append (more t a) b ≡ d → count b ≡ count d → ⊥
no_front t a b d e h = let c : count (append (more t a) b) ≡ count d = ap count e in omega (arith, count-append (more t a) b)

pub same_parts : (a b c d : Trees) → append a b ≡ append c d → count b ≡ count d → SameParts a b c d
same_parts none b none d e h = record { fronts = refl; ends = e }
same_parts none b (more u c) d e h = absurd (no_front u c d b (sym e) (sym h))
same_parts (more t a) b none d e h = absurd (no_front t a b d e h)
same_parts (more t a) b (more u c) d e h = grind (arith, tail_is, head_is, same_parts a b c d (tail_is t u (append a b) (append c d) e) h)

-- ---- nodes make one tree

unique : (ts : Trees) (ns : List Node) (t u : Tree) → Makes ts ns t → Makes ts ns u → t ≡ u
unique ts [] t u e h = head_is t u none none (sym e ∙ h)
unique ts (n ∷ ns) t u (a, us, k, m) (b, vs, l, w) =
    let p = same_parts a us b vs (sym k.whole ∙ l.whole) (k.many ∙ sym l.many) in
    let same : append b (more (tree_over n vs) none) ≡ append a (more (tree_over n us) none) = sym (ap (λ x. append x (more (tree_over n us) none)) p.fronts ∙ ap (λ x. append b (more (tree_over n x) none)) p.ends) in
    unique (append a (more (tree_over n us) none)) ns t u m (subst (λ x. Makes x ns u) same w)

pub same_nodes : (t u : Tree) → postfix t ≡ postfix u → t ≡ u
same_nodes t u e = unique none (postfix t) t u (replayed t (postfix t) refl) (replayed u (postfix t) e)
