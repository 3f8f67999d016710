-- Leaves by their tokens.
use Rattle.calc_parser.proofs.Shared.{◌≡◌, ℕ, Result, IfOk, arith, refl, sym, ap, Name, name_of, Payload, rational, named, Trees, undef, root_size, What, token_of, Full, Forest, empty}
use Rattle.calc_parser.proofs.Shared.{one_tree, before_last, last_trees, Ends, ends_as, leaf, bytes_of_node, tree_over, Grows, before_none, last_none}
use Rattle.calc_terms.specs.{declared.rat.Rat.Rat, Payload.bare, Rat.ratio_of}
use Rattle.calc_terms.specs.declared.kind.Kind.TheVariants as kind
use Rattle.calc_tokens.specs.declared.tokens.What.TheVariants as what

pub ok_as : {P Q : ℕ → Type 0} (r : Result ℕ Full) → IfOk r P → ((h : ℕ) → P h → Q h) → IfOk r Q
ok_as r p q = grind arith

over_none : (id : ℕ) (x : Payload) (f new : Forest) → Ends id (one_tree id x empty) f new → Ends id (one_tree id x (last_trees 0 f)) (before_last 0 f) new
over_none id x f new e = ends_as e (ap (one_tree id x) (sym (last_none f))) (sym (before_none f))

pub number_grows : (r : Rat) (id : ℕ) (f new : Forest) → Ends id (one_tree id (rational (ratio_of r)) empty) f new → Grows (leaf (token_of (what.Number r))) f new id
number_grows r id f new e = record { payload = rational (ratio_of r); ends = over_none id _ f new e; tree_is = λ ts. refl; takes_them = λ h. refl; bytes_are = refl }

pub name_grows : (x : Name) (id : ℕ) (f new : Forest) → Ends id (one_tree id (named (name_of x)) empty) f new → Grows (leaf (token_of (what.Name x))) f new id
name_grows x id f new e = record { payload = named (name_of x); ends = over_none id _ f new e; tree_is = λ ts. refl; takes_them = λ h. refl; bytes_are = refl }

-- any other token's leaf is Undef
pub record IsUndef (w : What) : Type 0 where
  pub bytes : bytes_of_node (leaf (token_of w)) ≡ root_size undef
  pub tree : (ts : Trees) → undef ≡ tree_over (leaf (token_of w)) ts

pub other : (w : What) → ((r : Rat) → w ≡ what.Number r → ⊥) → ((x : Name) → w ≡ what.Name x → ⊥) → IsUndef w
other w h k = grind arith

pub other_grows : (w : What) → IsUndef w → (f new : Forest) (id : ℕ) → Ends id (one_tree id (bare kind.Undef) empty) f new → Grows (leaf (token_of w)) f new id
other_grows w u f new id e = record { payload = bare kind.Undef; ends = over_none id _ f new e; tree_is = u.tree; takes_them = λ h. refl; bytes_are = sym u.bytes }
