-- Small trees that are reduced.
use Rattle.product_reduce.proofs.Shared.{◌≡◌, true, refl, is_reduced, undef}
use Rattle.reduce_port.specs.declared.step.Step.TheVariants as step

pub undef_reduced : is_reduced undef ≡ true
unfolding is_reduced
undef_reduced = refl

-- ---- products of pieces

-- ---- answers
