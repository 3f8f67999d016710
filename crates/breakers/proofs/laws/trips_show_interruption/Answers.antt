use Rattle.breakers.proofs.Runs.{calm_checks_raise_no_trips, only_the_tripped_rose}
use Rattle.breakers.proofs.laws.trips_show_interruption.Goals as goal

pub returns : goal.returns
returns c = record { calm = calm_checks_raise_no_trips; tripped = only_the_tripped_rose }
