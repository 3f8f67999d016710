-- What is written of trees in a pool: the signs and parentheses that their places ask for, and what their nodes hold.
use Rattle.std.specs.Prelude.{ℕ, ◌+◌, List, [], ◌∷◌, ◌++◌, take, Bool, ◌||◌, nat_lt, if◌then◌else◌, nat_abs, codes}
use Rattle.calc_language.specs.{Texts.{decimal}, Tokens.{times_sign}}
use Rattle.calc_terms.specs.declared.kind.Kind.{Kind}
use Rattle.calc_terms.specs.declared.kind.Kind.TheVariants as kind
use Rattle.calc_terms.specs.Payload.{Payload, rational, named, bare, kind_of_payload}
use Rattle.tree_handles.specs.{declared.visits.Visit.{Visit}, Forest.{Forest, empty, tree, root_payload}, Visits.{visits_of}}
use Rattle.line_text.specs.{declared.place.Place.{Place}, declared.place.Pending.{Pending}, Places.{sign_before, next_place, first_place, skips_opposites, is_neg_kind, admits_kind}}

-- what is written of a node without children
abbrev pub leaf_bytes : Payload → List ℕ
leaf_bytes (rational r) = decimal (nat_abs r.num)
leaf_bytes (named x) = x
leaf_bytes (bare kind.Undef) = codes "undef"
leaf_bytes (bare kind.Plus) = codes "+"
leaf_bytes (bare kind.Minus) = codes "-"
leaf_bytes (bare kind.Times) = times_sign
leaf_bytes (bare k) = []

-- so many closing parentheses, of which there are three at most
abbrev pub parentheses : ℕ → List ℕ
parentheses n = take n (codes ")))")

-- how many of them close the text of a node of this kind wherever it stands
abbrev pub kind_closing : Kind → ℕ
kind_closing kind.Fraction = 2
kind_closing kind.Root = 1
kind_closing kind.Radical = 1
kind_closing kind.Raised = 1
kind_closing kind.Paren = 1
kind_closing k = 0

-- and with the one of its own that it has where it is not admitted without
abbrev pub closing_of : Kind → Bool → ℕ
closing_of k admitted = if admitted then kind_closing k else kind_closing k + 1

-- what is written before the root of a tree: the sign, and an opening parenthesis where the place does not admit the tree without
abbrev pub opening : Place → Bool → List ℕ
opening p admitted = sign_before p ++ (if admitted then [] else codes "(")

-- the kind of the first node that is no opposite
abbrev pub first_kind : List Visit → Kind
first_kind [] = kind.Neg
first_kind (v ∷ vs) = if is_neg_kind v.kind then first_kind vs else v.kind

-- the kind on which it depends whether the first tree needs parentheses
abbrev pub deciding : Place → Forest → Kind
deciding p t = if skips_opposites p then first_kind (visits_of t) else kind_of_payload (root_payload t)

abbrev pub is_admitted : Place → Forest → Bool
is_admitted p t = admits_kind p (deciding p t)

-- what is written of the first tree before its children
abbrev pub front_of : Place → Forest → List ℕ
front_of p t = opening p (is_admitted p t) ++ leaf_bytes (root_payload t)

-- trees side by side, the first of them at a place
abbrev pub written : Place → Forest → List ℕ
written p empty = []
written p (tree l k r) =
    let x = l.payload in
    (front_of p (tree l k empty) ++ (written (first_place (kind_of_payload x)) k ++ parentheses (closing_of (kind_of_payload x) (is_admitted p (tree l k empty))))) ++ written (next_place p) r

-- ---- what is still to be written

-- what is owed to a node for the children that are left
abbrev pub owed_bytes : Pending → Forest → List ℕ
owed_bytes p f = written p.place f ++ parentheses p.closing

-- what is still to be written of a node with that number of children when its root is written
abbrev pub pending_below : Kind → ℕ → Bool → Pending
pending_below k n admitted = record { place = first_place k; left = n; closing = closing_of k admitted }

abbrev pub owes : Pending → Bool
owes p = nat_lt 0 p.left || nat_lt 0 p.closing
