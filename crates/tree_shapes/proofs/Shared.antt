-- The names that the proofs share.
pub use Rattle.calc_language.specs.Texts.{IsNatural}
pub use Rattle.calc_terms.proofs.FractionFacts.{whole_numerator}
pub use Rattle.calc_terms.specs.{Fractions.{Fraction, whole_fraction}, Trees.{Tree, more, none, size}, Payload.{bare, size_of_payload}}
pub use Rattle.node_pool.specs.State.{State, free_of}
pub use Rattle.std.proofs.{Common.{IsTrue, ap, arith, neg_ℤ, negsuc, pos, refl, subst, suc, sym, zero, ℕ, ◌+◌, ◌==◌, ◌∙◌, ◌≡◌}, lemmas.Bool.{eqb-true}}
pub use Rattle.tree_handles.proofs.{Given.{given_apart, given_handed, given_other, given_rest, given_same, given_told, given_without, gives_as}, Room.{given_free}, SmallLaws.{grown_free}}
pub use Rattle.tree_handles.specs.{Forest.{Forest}, Handed.{Gives}, Standing.{KeepsRefusals, Stands, forest}, Expressions.{compound, plain}}
pub use Rattle.tree_shapes.specs.{declared.shapes.Pair.{Pair}, declared.shapes.Shape.{Shape}, declared.shapes.Single.{Single}, Shapes.{kind_of_pair, kind_of_single, tree_of}}
