use Rattle.dual_diff.proofs.Shared.{◌≡◌, ℕ, sym, subst, length, arith, true, refl, name_of, AllPartsOf, HasDerivative, IsDerivable, first, next_child, last_child, children_of, kids_of, forest}
use Rattle.dual_diff.proofs.{Shared.{tree_of, ◌∙◌, false≢true}, AllNodes.{of_root, of_child, of_node, one_more, all_of}, Forms.{smaller_child}, Turns.{left_after, turn}}
use Rattle.dual_diff.proofs.derivable.+all_derivable.Goals as goal

pub returns-then-not-is_derivable : goal.returns-then-not-is_derivable
returns-then-not-is_derivable t c = (
  λ h. absurd (false≢true h),
  λ h. let yes : c.is_derivable.result ≡ true = c.is_derivable.ensures.1 (of_root (name_of c.args.name) (tree_of c.args.node c.args.pool.now) h) in
      absurd (false≢true (sym c.if-not-is_derivable.true ∙ yes)),
)

pub all_derivable-requires : goal.all_derivable-requires
all_derivable-requires t c =
    let n = next_child c.requires.stands c.requires.expression c.loop-child.invariant.ids c.in-Some.ensures.steps in
    (omega (arith, smaller_child (length c.loop-child.yielded) (tree_of c.args.node c.args.pool.now) n.within n.tree, c.decreases), (c.requires.stands, n.expression))

pub returns-then-not-all_derivable : goal.returns-then-not-all_derivable
returns-then-not-all_derivable t c =
    let n = next_child c.requires.stands c.requires.expression c.loop-child.invariant.ids c.in-Some.ensures.steps in
    let x = name_of c.args.name in
    let u = tree_of c.args.node c.args.pool.now in (
      λ h. absurd (false≢true h),
      λ h. let yes : c.all_derivable.result ≡ true = c.all_derivable.ensures.1
          (subst (HasDerivative x) (sym n.tree) (of_child x (length c.loop-child.yielded) u n.within h)) in absurd (false≢true (sym c.if-not-all_derivable.true ∙ yes)),
    )

pub loop-child-preserved : goal.loop-child-preserved
loop-child-preserved t c =
    let l = c.loop-child in
    let n = next_child c.requires.stands c.requires.expression l.invariant.ids c.in-Some.ensures.steps in
    let x = name_of c.args.name in
    let ts = children_of (tree_of c.args.node c.args.pool.now) in
    let this = subst (HasDerivative x) n.tree (c.all_derivable.ensures.0 c.if-not-all_derivable.false) in
    record {
      ids = left_after l.yielded c.in-Some.child (kids_of c.args.node (forest c.args.pool.now)) n.left-are;
      passed = subst (λ (k : ℕ). AllPartsOf (IsDerivable x) (first k ts)) (turn l.yielded c.in-Some.child) (one_more (IsDerivable x) (length l.yielded) ts n.within l.invariant.passed this);
    }

pub returns : goal.returns
returns t c =
    let x = name_of c.args.name in
    let node = tree_of c.args.node c.args.pool.now in
    let all = all_of (IsDerivable x) (length c.loop-child.yielded) (children_of node)
    (last_child c.requires.stands c.requires.expression c.loop-child.invariant.ids c.in-None.ensures.steps.0) c.loop-child.invariant.passed in
    (λ h. of_node x node (c.is_derivable.ensures.0 c.if-not-is_derivable.false) all, λ h. refl)
