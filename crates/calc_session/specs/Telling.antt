-- What is told of an evaluation.
use Rattle.std.specs.Prelude.{⊤}
use Rattle.calc_language.specs.Texts.{IsWritable}
use Rattle.tree_handles.specs.{Forest.{Forest}, Handed.{Gives}}
use Rattle.calc_session.specs.{declared.evaluating.Evaluation.{Evaluation}, declared.evaluating.Evaluation.TheVariants.{Face}}

-- the tree that is shown stands last, and can be written
abbrev pub HasFace : Forest → Evaluation → Type 0
HasFace f (Face h) = (others : Forest) × Gives others f h IsWritable
HasFace f e = ⊤
