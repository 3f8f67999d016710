use Rattle.tree_handles.proofs.Shared.{rules, ◌≡◌, ◌∙◌, sym, ap, subst, ◌≤◌, ℕ, true, false, Place, arity, forest, has_root, holds, kids, kids_of, put, root_tree, with_nth}
use Rattle.tree_handles.proofs.{Shared.without_root, Filling.{is_open, filled}, Roots.root_held, holes.fill.Goals.After-of-parent}
use Rattle.tree_handles.proofs.holes.fill.Goals as goal

-- the place that is held is the hole's
is_parent : (c : After-of-parent) (i n : ℕ) → c.args.hole ≡ record { parent = i; at = n } → c.of-parent.result ≡ i
is_parent c i n e = c.of-parent.ensures ∙ ap (λ (p : Place). p.parent) (c.hole.view_is ∙ e)

is_at : (c : After-of-parent) (i n : ℕ) → c.args.hole ≡ record { parent = i; at = n } → c.hole.inside.at ≡ n
is_at c i n e = ap (λ (p : Place). p.at) (c.hole.view_is ∙ e)

pub add_child-requires : goal.add_child-requires
add_child-requires c =
    let after = (goal.at.add_child-requires c).After-of-parent in
    let q = c.requires.hole in
    let h = q.3 in
    let o = is_open c.requires.stands c.requires.handed h in
    let i = is_parent after q.0 q.1 h.is in
    let n = is_at after q.0 q.1 h.is in
    record {
      stands = search rules;
      live = subst (λ (x : ℕ). holds x (forest c.args.pool.now) ≡ true) (sym i) (root_held q.0 (forest c.args.pool.now) o.root);
      within = subst (λ (x : ℕ). x ≤ arity (kids_of c.of-parent.result (forest c.args.pool.now))) (sym n) (subst (λ (x : ℕ). q.1 ≤ arity (kids_of x (forest c.args.pool.now))) (sym i) o.within);
      root = c.requires.handed.root;
      apart = subst (λ (x : ℕ). holds x (root_tree c.args.child (forest c.args.pool.now)) ≡ false) (sym i) o.apart;
    }

pub returns-clause-changed : goal.returns-clause-changed
returns-clause-changed c i n old h =
    let after = (goal.at.returns-clause-changed c).After-of-parent in
    let i-is = is_parent after i n h.is in
    let now = c.add_child.ensures.root (subst (λ (x : ℕ). has_root x (forest c.args.pool.now) ≡ true) (sym i-is) (is_open c.requires.stands c.requires.handed h).root) in
    filled c.requires.stands c.requires.handed h
    (now ∙ (λ x. put (i-is x) (with_nth (is_at after i n h.is x) (root_tree c.args.child (forest c.args.pool.now)) (kids (root_tree (i-is x) (forest c.args.pool.now)))) (without_root c.args.child (forest c.args.pool.now))))
