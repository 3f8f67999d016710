-- What is given, and the roots beside it.
use Rattle.tree_handles.proofs.Shared.{◌≡◌, ℕ, true, sym, ap, ◌∙◌, Tree, State, plain, IsExpression, Forest, IsHanded, Gives, tree_at, has_root, root_tree, without_root, put}
use Rattle.tree_handles.proofs.{Shared.{Stands, forest}, Given.{given_rest, given_other, given_same, gives_as}, Lasts.{last_tree, ends_at, ends_without, expression_root, plain_root, ends_put}}

-- the answer of a call is the tree that stands last
pub gives_itself : {g f : Forest} {i : ℕ} {P : Tree → Type 0} → Gives g f i P → Gives g f i (λ t. P t × (t ≡ plain (root_tree i f)))
gives_itself e = record { tree = e.tree; ends = e.ends; once = e.once; whole = e.whole; told = (e.told, ap plain (sym (last_tree e.ends))) }

-- a root beside it goes
pub gives_without : {g f h : Forest} {i : ℕ} {P : Tree → Type 0} (j : ℕ) → Gives g f i P → has_root j g ≡ true → h ≡ without_root j f → Gives (without_root j g) h i P
gives_without j e r q = record { tree = e.tree; ends = ends_at (ends_without j e.ends r) q; once = e.once; whole = e.whole; told = e.told }

pub gives_rest : {g f : Forest} {i : ℕ} {P Q : Tree → Type 0} → Gives g f i P → ((t : Tree) → P t → Q t) → Gives (without_root i f) f i Q
gives_rest e k = gives_as e (sym (given_rest e)) k

-- ---- another root

pub other_plain : {g f : Forest} {i : ℕ} {P : Tree → Type 0} (j : ℕ) → Gives g f i P → has_root j g ≡ true → plain (root_tree j f) ≡ plain (root_tree j g)
other_plain j e h = ap plain (given_same j e h)

pub other_read : {g : Forest} {i : ℕ} {P : Tree → Type 0} (j : ℕ) (s : State) → Stands s → Gives g (forest s) i P → IsHanded j g → plain (tree_at j (forest s)) ≡ plain (root_tree j g)
other_read j s st e h = plain_root j st (given_other e h).root ∙ other_plain j e h.root

pub other_expression : {g : Forest} {i : ℕ} {P : Tree → Type 0} (j : ℕ) (s : State) → Stands s → Gives g (forest s) i P → IsHanded j g → IsExpression j (forest s)
other_expression j s st e h = expression_root st (given_other e h)

pub gives_put : {others f : Forest} {i : ℕ} {Told : Tree → Type 0} (j : ℕ) (n : Forest) → Gives others f i Told → has_root j others ≡ true → Gives (put j n others) (put j n f) i Told
gives_put j n g h = record { tree = g.tree; ends = ends_put j n g.ends h; once = g.once; whole = g.whole; told = g.told }
