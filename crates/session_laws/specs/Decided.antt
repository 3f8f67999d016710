-- What decides an answer.
use Rattle.std.specs.Prelude.{◌≢◌, ◌<◌, ◌^◌, ⊤, nat_abs}
use Rattle.calc_measures.specs.PlainValues.{plain_value, nothing}
use Rattle.calc_session.specs.{Replies.{Reply, shown, stored, undefined, refused, overflow}, States.{State, trees}}
use Rattle.calc_terms.specs.Trees.{AllParts, Tree, num, root}
use Rattle.tree_handles.specs.{Expressions.{plain}, Inside.{tree_at}}

-- exact arithmetic in 128 bits gives it a rational, Undef, or an overflow
abbrev pub HasPlainValue : Tree → Type 0
HasPlainValue t = plain_value t ≢ nothing

-- a tree is shown or stored, or the line is undefined, or one of its operations does not fit
abbrev pub IsSettled : Reply → Type 0
IsSettled (shown t) = ⊤
IsSettled (stored t x) = ⊤
IsSettled undefined = ⊤
IsSettled (refused (overflow op a b)) = ⊤
IsSettled reply = ⊥

-- the root of a rational is one of a numerator below 10^12
abbrev pub IsSmallRoot : Tree → Type 0
IsSmallRoot (root (num q)) = nat_abs q.num < 10 ^ 12
IsSmallRoot t = ⊤

-- each root of a whole number in the displayed tree is one of a number below 10^12
abbrev pub HasSmallRoots : Tree → Type 0
HasSmallRoots t = AllParts IsSmallRoot t

-- the same of the tree that is shown or stored, where there is one
abbrev pub ShowsSmallRoots : Reply → Type 0
ShowsSmallRoots (shown t) = HasSmallRoots t
ShowsSmallRoots (stored t x) = HasSmallRoots t
ShowsSmallRoots reply = ⊤

-- the tree of the last answer
abbrev pub last_answer : State → Tree
last_answer s = plain (tree_at s.table.ans (trees s))
