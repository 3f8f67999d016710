use Rattle.poincare_run.proofs.SettingLemmas.{options_are_asked, order_is_free}
use Rattle.session_laws.proofs.laws.words_ask_for_options.Goals as goal

pub returns : goal.returns
returns c = record { asked = options_are_asked; in_any_order = order_is_free }
