use Rattle.number_forms.proofs.Recognized.{one_root}
use Rattle.number_forms.proofs.radicand.is_clean.Goals as goal

pub returns : goal.returns
returns c = one_root c.args.r _ _ c.split-root.ensures.product c.split-root.ensures.clean c.split-root.ensures.untaken
