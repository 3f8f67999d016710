use Rattle.number_forms.proofs.Shared.{◌-◌}
use Rattle.number_forms.proofs.powers.+multiplied.Given as goal

abbrev pub decreases-multiplied : goal.decreases-multiplied
decreases-multiplied l = l.n - l.from
