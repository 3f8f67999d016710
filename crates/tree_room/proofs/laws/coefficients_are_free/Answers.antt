use Rattle.tree_room.proofs.Coefficients.{split_counts, product_counts, part_counts, put_before, same_parts, like_terms, spread}
use Rattle.tree_room.proofs.laws.coefficients_are_free.Goals as goal

pub returns : goal.returns
returns c = record { factors = split_counts; product = product_counts; part = part_counts; before_a_part = put_before; same_parts = same_parts; like_terms = like_terms; spread = spread }
