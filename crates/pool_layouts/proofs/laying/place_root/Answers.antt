use Rattle.pool_layouts.proofs.Shared.{IfErr, IsOk, ◌↔◌, ◌≡◌, ◌≤◌, sym, ap, subst, arith, Payload, rational, named, bare, size_of_payload, free_of, one_tree, before_last, last_trees, Ends, payload_in}
use Rattle.pool_layouts.proofs.{Shared.{forest, IsRefused, is_leaf, laid, few_trees, name_of, ratio_of}, Placing.{ok_as, leaf_node_ends, bare_is}}
use Rattle.pool_layouts.proofs.laying.place_root.Goals as goal

pub overflow_cast-parts : goal.overflow_cast-parts
overflow_cast-parts c = record { fits = omega (arith, few_trees c.args.pool.now c.requires.stands, c.requires.few) }

pub returns-in-Num-clause-ok : goal.returns-in-Num-clause-ok
returns-in-Num-clause-ok c =
    let x = payload_in c.args.face (forest c.args.pool.now) in
    let is : x ≡ rational (ratio_of c.rational-value.result) = c.rational-value.ensures.value in
    let none : c.args.parts ≡ 0 = c.requires.leaf (ap is_leaf is) in
    ok_as c.number.result c.number.ensures.ok
    (λ h e. leaf_node_ends (forest c.args.pool.now) (forest c.number.new.pool) h x (rational (ratio_of c.rational-value.result)) c.args.parts (ap laid is) none e)

pub returns-in-Sym-clause-ok : goal.returns-in-Sym-clause-ok
returns-in-Sym-clause-ok c =
    let x = payload_in c.args.face (forest c.args.pool.now) in
    let is : x ≡ named (name_of c.name-name.result) = c.name-name.ensures.value in
    let none : c.args.parts ≡ 0 = c.requires.leaf (ap is_leaf is) in
    ok_as c.symbol.result c.symbol.ensures.ok (λ h e. leaf_node_ends (forest c.args.pool.now) (forest c.symbol.new.pool) h x (named (name_of c.name-name.result)) c.args.parts (ap laid is) none e)

pub returns-in_default : goal.returns-in_default
returns-in_default c =
    let old = forest c.args.pool.now in
    let x = payload_in c.args.face old in
    let k = c.kind.result in
    let is : laid x ≡ bare c.laid_kind.result = bare_is x k c.laid_kind.result (sym c.kind.ensures.value) c.in_default.not-Num c.in_default.not-Sym c.laid_kind.ensures in
    record {
      ok = ok_as c.node_over_last.result c.node_over_last.ensures.ok
          (λ h e. subst (λ (y : Payload). Ends h (one_tree h y (last_trees c.args.parts old)) (before_last c.args.parts old) (forest c.node_over_last.new.pool)) (sym is) e);
      kept = c.node_over_last.ensures.kept;
      full = subst (λ (y : Payload). IfErr c.node_over_last.result (IsRefused (size_of_payload y) c.args.pool.now c.node_over_last.new.pool)) (sym is) c.node_over_last.ensures.full;
      exactly = subst (λ (y : Payload). IsOk c.node_over_last.result ↔ (size_of_payload y ≤ free_of c.args.pool.now)) (sym is) c.node_over_last.ensures.exactly;
      stands = c.node_over_last.ensures.stands;
    }
