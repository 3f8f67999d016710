use Rattle.square_parts.proofs.CleanProducts.{clean_over_shared, clean_below_over_shared}
use Rattle.square_parts.proofs.laws.clean_products_over_what_is_shared.Goals as goal

pub returns : goal.returns
returns c = record { no_square = clean_over_shared; clean = clean_below_over_shared }
