-- The front of a tree: its root, and the nodes behind that.
use Rattle.std.specs.Prelude.{◌≡◌, ◌<◌, ◌^◌, List, ◌++◌, length, true}
use Rattle.calc_terms.specs.{Payload.{Payload, kind_of_payload}, Trees.{Tree}}
use Rattle.node_order.specs.declared.fronts.Front.{Front}
use Rattle.tree_handles.specs.{declared.visits.Visit.{Visit}, Expressions.{grown, plains, takes, AllExpressions}, Forest.{Forest, arity}, Inside.{holds, payload_in}, Visits.{visits_of, AreFound}}

-- the root of a tree of the language holds x, its children are the trees k, and more nodes stand behind them
pub record IsFront (f : Front) (x : Payload) (k : Forest) (others : List Visit) (base : Forest) : Type 0 where
  pub kind : f.root.kind ≡ kind_of_payload x
  pub children : f.root.children ≡ arity k
  pub live : holds f.root.id base ≡ true
  pub payload : payload_in f.root.id base ≡ x
  pub nodes : f.behind ≡ visits_of k ++ others
  pub found : AreFound base k
  pub few : takes x (arity k) ≡ true
  pub below : AllExpressions k

-- it is the front of a tree of the language
pub record Shows (f : Front) (t : Tree) (base : Forest) : Type 0 where
  pub payload : Payload
  pub kids : Forest
  pub others : List Visit
  pub front : IsFront f payload kids others base
  pub short : length f.behind < 2 ^ 16
  pub tree-is : t ≡ grown payload (plains kids)
