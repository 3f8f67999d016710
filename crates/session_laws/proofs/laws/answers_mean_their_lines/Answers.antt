use Rattle.session_laws.proofs.{Shared.{refl, shown, stored}, MeaningLemmas.{shows_meaning, has_no_meaning}}
use Rattle.session_laws.proofs.laws.answers_mean_their_lines.Goals as goal

pub returns : goal.returns
returns c = record {
  shown = λ room bits old before after line t h. shows_meaning room bits before after old line (shown t) t h refl;
  stored = λ room bits old before after line t x h. shows_meaning room bits before after old line (stored t x) t h refl;
  undefined = λ room bits old before after line h. has_no_meaning room bits before after old line h;
}
