use Rattle.tree_handles.proofs.{Shared.{rules, ◌∙◌, forest}, Replacing.replaced, AtRoots.exchanged_root}
use Rattle.tree_handles.proofs.moving.replace_child.Goals as goal

pub add_child-requires : goal.add_child-requires
add_child-requires c =
    record {
      live = (replaced c.args.parent.now c.args.at c.args.new (forest c.args.pool.now) (forest c.take_child-old.new.pool) c.requires.within c.requires.root c.requires.apart c.take_child-old.ensures.forest).live;
      within = (replaced c.args.parent.now c.args.at c.args.new (forest c.args.pool.now) (forest c.take_child-old.new.pool) c.requires.within c.requires.root c.requires.apart c.take_child-old.ensures.forest).within;
      root = (replaced c.args.parent.now c.args.at c.args.new (forest c.args.pool.now) (forest c.take_child-old.new.pool) c.requires.within c.requires.root c.requires.apart c.take_child-old.ensures.forest).root;
      apart = (replaced c.args.parent.now c.args.at c.args.new (forest c.args.pool.now) (forest c.take_child-old.new.pool) c.requires.within c.requires.root c.requires.apart c.take_child-old.ensures.forest).apart;
      stands = search rules;
    }

pub returns-clause-forest : goal.returns-clause-forest
returns-clause-forest c = c.add_child.ensures.forest ∙ (replaced c.args.parent.now c.args.at c.args.new (forest c.args.pool.now) (forest c.take_child-old.new.pool) c.requires.within c.requires.root c.requires.apart c.take_child-old.ensures.forest).done

pub returns-clause-last : goal.returns-clause-last
returns-clause-last c = exchanged_root c.args.parent.now c.args.at c.args.new c.take_child-old.result c.args.pool.now c.add_child.new.pool c.requires.stands c.add_child.ensures.stands c.requires.within c.requires.root c.requires.apart (c.add_child.ensures.forest ∙ (replaced c.args.parent.now c.args.at c.args.new (forest c.args.pool.now) (forest c.take_child-old.new.pool) c.requires.within c.requires.root c.requires.apart c.take_child-old.ensures.forest).done) c.take_child-old.ensures.handle
