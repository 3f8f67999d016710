use Rattle.deep_reduce.proofs.{Shared.{⊤, Tree, Trees, none, more, EachTree, children_of}, Ready.{child_lacks, child_overflows, leaf_reduced}}
use Rattle.deep_reduce.proofs.driver.NodeReducerNodeStep.laws.Goals as goal

pub returns : goal.returns
returns c = record {
  leaf = λ t p l. leaf_reduced t l;
  children = λ t p. any (children_of t);
  child_lacks = λ t u before done behind bytes p n l. child_lacks t u before done behind bytes n l;
  child_overflows = λ t u before done behind place o p n h. child_overflows t u before done behind place o n h;
}
  where
    any : (ts : Trees) → EachTree (λ (t : Tree). ⊤) ts
    any none = tt
    any (more t ts) = (tt, any ts)
