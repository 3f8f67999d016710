use Rattle.square_parts.proofs.Shared.{subst, sym, ◌∣◌, mod-mod_of_dvd}
use Rattle.square_parts.proofs.division.remainder.Goals as goal

pub returns-else-n : goal.returns-else-n
returns-else-n c = λ m h. mod-mod_of_dvd m c.args.n (subst (λ d. m ∣ d) (sym c.from.ensures) h)
