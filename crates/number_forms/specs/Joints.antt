-- The sum or the product of two Numbers.
use Rattle.std.specs.Prelude.{ℕ, ◌+◌, Bool, List, ◌++◌}
use Rattle.calc_algebra.specs.{Reduced.{is_num_one}, Surds.{Surd, surd_times}}
use Rattle.calc_room.specs.Needs.{sum_need, product_need}
use Rattle.calc_terms.specs.{Fits.{Operation}, Trees.{Tree, size}}
use Rattle.node_pool.specs.State.{State, free_of}
use Rattle.number_forms.specs.{Overflows.{SumOverflows, ProductOverflows}, Readers.{is_zero}, Rooms.{LacksRoom}, declared.calculating.Joint.{Joint}}
use Rattle.number_forms.specs.declared.calculating.Joint.TheVariants as joint
use Rattle.rational128.specs.{Refusals.{operation_of}, declared.overflow.Op.{Op}, declared.overflow.Overflow.{Overflow}}
use Rattle.tree_handles.specs.{Handed.{tree_of}, declared.fault.NumberFault.{NumberFault}}

-- what two surds are worth together
abbrev pub both : Joint → Surd → Surd → Surd
both joint.Sum v w = v ++ w
both joint.Product v w = surd_times v w

-- what is calculated with rationals
abbrev pub op_of : Joint → Op
op_of joint.Sum = Op.Add
op_of joint.Product = Op.Mul

abbrev pub operation : Joint → Operation
operation j = operation_of (op_of j)

-- the rational that leaves each Number as it is
abbrev pub is_neutral : Joint → Tree → Bool
is_neutral joint.Sum t = is_zero t
is_neutral joint.Product t = is_num_one t

-- which operation on terms does not fit
abbrev pub JointOverflows : Joint → Surd → Surd → Overflow → Type 0
JointOverflows joint.Sum v w o = SumOverflows v w o
JointOverflows joint.Product v w o = ProductOverflows v w o

-- the bytes that are needed for each choice of radicands
abbrev pub joint_need : Joint → ℕ
joint_need joint.Sum = sum_need
joint_need joint.Product = product_need

-- bytes are lacking only where fewer than that are at hand, free or in the two trees
abbrev pub LacksJointRoom : Joint → ℕ → ℕ → State → List ℕ → NumberFault → Type 0
LacksJointRoom j a b s gs f = LacksRoom (joint_need j) (free_of s + size (tree_of a s) + size (tree_of b s)) gs f
