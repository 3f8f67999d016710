use Rattle.tree_walks.proofs.{Shared.{inl, ap, ◌∙◌, Tree, none, more, forest, last_rest, alone}, Filling.last_leaf}
use Rattle.tree_walks.proofs.replacing.put_copy.Goals as goal

pub release-requires-clause-releasable : goal.release-requires-clause-releasable
release-requires-clause-releasable c =
    let given = c.in_ok-copy.ensures.given c.requires.expression in
    let r = c.replace_known_child-leaf in
    let h = c.requires.leaf in
    inl (last_leaf given.tree r.new.pool r.ensures.stands h.2 r.ensures.handle (r.ensures.forest h.1 h.0 given.tree (forest c.args.pool.now) given.ends h.2.child)).owned.root

pub returns-clause-ok : goal.returns-clause-ok
returns-clause-ok c = λ at parent leaf.
    let given = c.in_ok-copy.ensures.given c.requires.expression in
    let r = c.replace_known_child-leaf in
    let last = last_leaf given.tree r.new.pool r.ensures.stands leaf r.ensures.handle (r.ensures.forest parent at given.tree (forest c.args.pool.now) given.ends leaf.child) in
    record {
      copy = given.tree;
      is = record { once = given.once; whole = given.whole; plain_trees = alone given.tree given.ends.alone ∙ ap (λ (t : Tree). more t none) given.told };
      forest-is = c.release.ensures.owned last.owned ∙ last_rest last.ends;
    }
