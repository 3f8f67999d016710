use Rattle.surd_bits.proofs.RootsFit.{root_fits, root_parts, root_mass, root_held}
use Rattle.surd_bits.proofs.laws.roots_fit.Goals as goal

pub returns : goal.returns
returns c = record {
  fits = root_fits;
  denominator = root_parts;
  mass = root_mass;
  held = root_held;
}
